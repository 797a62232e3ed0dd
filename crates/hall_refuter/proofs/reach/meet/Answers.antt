use Rattle.hall_refuter.proofs.Growing.{met_found}
use Rattle.hall_refuter.proofs.reach.meet.Goals as goal

pub returns-in_ok-add-in-Some-clause-reach : goal.returns-in_ok-add-in-Some-clause-reach
returns-in_ok-add-in-Some-clause-reach c =
    let grown = c.in_ok-add-in-Some.ensures in
    λ rows r l.
    met_found rows c.args.owners.now c.args.reach.now.found.items c.args.reach.now.met.items _ _ c.in-Some.owner
    c.args.object c.args.parent c.place-place.result c.index.result.now _
    grown.found grown.met c.place-place.ensures c.requires.object c.requires.long c.requires.parent c.index.ensures c.if-index.false c.in-Some.is r l
