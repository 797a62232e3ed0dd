use Rattle.std.proofs.Common.{ap, length, ◌∙◌}
use Rattle.std.proofs.lemmas.Result.{IfOk-weaker}
use Rattle.assign_core.proofs.DenseRows.{length-rows_cut}
use Rattle.auction_tests.proofs.problems.all_alike.Goals as goal

pub returns : goal.returns
returns c = IfOk-weaker c.dense.result _ _ (λ problem e. ap length e ∙ length-rows_cut c.args.n c.args.n c.as_slice.result.now) c.dense.ensures
