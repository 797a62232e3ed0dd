use Rattle.std.proofs.Common.{subst, sym}
use Rattle.std.proofs.lemmas.Result.{IfOk-weaker}
use Rattle.async_workers.specs.PlaceRule.{IsUntouched}
use Rattle.async_workers.proofs.Untouched.{opened_untouched}
use Rattle.solver_tests.proofs.by_workers.scripts.new_book.Goals as goal

pub returns : goal.returns
returns c = IfOk-weaker c.open_from.result _ _ (λ book is. subst IsUntouched (sym is) (opened_untouched _ _ c.args.workers)) c.open_from.ensures.book
