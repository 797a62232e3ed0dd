use Rattle.std.proofs.Common.{sym, ◌∙◌, subst}
use Rattle.std.proofs.lemmas.Slice.Zip.{AllZip-long}
use Rattle.hungarian.specs.Outcomes.{IsOutcome}
use Rattle.list_solver.proofs.proved.decide.Goals as goal

-- the objects are as many as before, since both are as many as the persons
pub returns-in_ok-total-in-Best-clause-objects : goal.returns-in_ok-total-in-Best-clause-objects
returns-in_ok-total-in-Best-clause-objects c =
    let best = subst (IsOutcome c.args.lists.now) c.in-Best.is c.in_ok-best.ensures in
    AllZip-long _ _ _ best.assigned.listed ∙ sym c.requires.objects
