use Rattle.std.proofs.Common.{ℕ, ◌↔◌, length, subst, ◌∙◌}
use Rattle.assign_core.specs.Numbered.{IsMarked}
use Rattle.std.proofs.lemmas.List.{map-id}
use Rattle.hall_refuter.specs.inside.Found.{IsAmongFirst}
use Rattle.hall_refuter.proofs.Marking.{listed_as, rising_as}
use Rattle.hall_refuter.proofs.search.hall_set.Goals as goal

pub new-requires-clause-persons : goal.new-requires-clause-persons
new-requires-clause-persons c = rising_as c.in_ok-persons.persons.items c.as_slice-2.result.now
    (rw (map-id c.in_ok-persons.persons.items) at c.in_ok-persons.ensures)

pub new-requires-clause-objects : goal.new-requires-clause-objects
new-requires-clause-objects c = rising_as c.in_ok-objects.objects.items c.as_slice-3.result.now
    (rw (map-id c.in_ok-objects.objects.items) at c.in_ok-objects.ensures)

pub returns-clause-persons : goal.returns-clause-persons
returns-clause-persons c =
    let made = c.in_ok-marks.ensures in
    let marked = subst (λ s. (x : ℕ) → IsMarked c.in_ok-marks.marks.items x ↔ IsAmongFirst s x (length s)) c.as_slice.ensures.value made.marked in
    let listed = rw (map-id c.in_ok-persons.persons.items) at c.in_ok-persons.ensures in
    listed_as (λ x. IsAmongFirst c.args.reach.now.found.items x (length c.args.reach.now.found.items))
    c.new.result.persons c.in_ok-marks.marks.items c.as_slice-2.result.now
    (c.new.ensures.persons ∙ listed) c.as_slice-2.ensures.value marked

pub returns-clause-objects : goal.returns-clause-objects
returns-clause-objects c =
    let listed = rw (map-id c.in_ok-objects.objects.items) at c.in_ok-objects.ensures in
    listed_as (IsMarked c.args.reach.now.met.items) c.new.result.objects c.args.reach.now.met.items c.as_slice-3.result.now
    (c.new.ensures.objects ∙ listed) c.as_slice-3.ensures.value (λ x. ((λ m. m), (λ m. m)))
