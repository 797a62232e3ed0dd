use Rattle.std.proofs.lemmas.Result.{IfOk-weaker}
use Rattle.test_helpers.proofs.Tried.{empty_front, from_none}
use Rattle.test_helpers.proofs.plain.plain_best.Goals as goal

pub best_after-requires : goal.best_after-requires
best_after-requires c = empty_front c.args.problem.now

pub returns : goal.returns
returns c = IfOk-weaker c.best_after.result _ _ (from_none c.args.sense c.args.problem.now) c.best_after.ensures
