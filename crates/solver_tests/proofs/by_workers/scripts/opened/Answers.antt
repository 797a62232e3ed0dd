use Rattle.std.proofs.Common.{length}
use Rattle.std.proofs.lemmas.Result.{IfOk-weaker}
use Rattle.async_workers.proofs.Desks.{new_desks_can}
use Rattle.solver_tests.proofs.by_workers.scripts.opened.Goals as goal

pub returns : goal.returns
returns g c = IfOk-weaker c.open_place.result _ _ (λ o is. new_desks_can o.0 c.args.book (length c.args.book.claims) o.1.items is) c.open_place.ensures
