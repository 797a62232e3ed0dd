use Rattle.std.proofs.Common.{subst, IfOk}
use Rattle.std.proofs.lemmas.Result.{IfOk-weaker}
use Rattle.hall_refuter.specs.Search.{IsFound}
use Rattle.hall_refuter.proofs.Searching.{hall_where_blocked}
use Rattle.hall_refuter.proofs.search.refute.Goals as goal

pub returns-clause-which : goal.returns-clause-which
returns-clause-which c =
    let found = subst (λ rows. IfOk c.search_from.result (IsFound rows c.args.owners.now c.args.person)) c.problem.ensures.problem c.search_from.ensures in
    IfOk-weaker c.search_from.result _ _ (λ search h. hall_where_blocked c.args.scaled.now.problem c.args.owners.now c.args.person search h) found
