-- What marks say of a list of persons and a list of objects.
use Rattle.std.proofs.Common.{◌≡◌, ℕ, ◌<◌, ◌≤◌, ◌↔◌, List, Bool, false, length, replicate, get_or, arith, sym, subst, ◌∙◌}
use Rattle.std.specs.List.{All, Contains}
use Rattle.std.proofs.lemmas.List.{get_or_default}
use Rattle.std.proofs.lemmas.List.Elements.{All-contains}
use Rattle.assign_core.specs.Numbered.{IsNumber, IsMarked}
use Rattle.assign_core.specs.Rows.{Listing, IsListed}
use Rattle.assign_core.specs.Hall.{IsNeighbour}
use Rattle.dual_checker.specs.Faults.{IsFirst}
use Rattle.dual_checker.specs.HallMarks.{AddsMarks}
use Rattle.dual_checker.specs.HallVerdicts.{AreNeighbours, HasNeighbours, IsExtra, Lacks, ListsUnnamed}
use Rattle.dual_checker.proofs.HallFirsts.{first_same}
use Rattle.dual_checker.proofs.HallMarking.{just_added}

-- if the objects that the first persons of a list list are marked, and these are all its persons,
-- all their neighbours are marked
pub neighbours_marked : (rows : List Listing) (persons : List ℕ) (i : ℕ) (marks : List Bool) → length persons ≤ i →
    ((k j : ℕ) → k < i → IsListed rows (get_or persons k 0) j → IsMarked marks j) →
    HasNeighbours rows persons (IsMarked marks)
neighbours_marked rows persons i marks end before j h =
    let lt = h.1.1 in
    let at = get_or_default persons h.1.0 0 h.0 lt ∙ h.1.2 in
    before h.1.0 j (omega arith) (subst (λ p. IsListed rows p j) (sym at) h.2)

module _ (rows : List Listing) (persons objects : List ℕ) (m : ℕ) (before named : List Bool)
    (none : before ≡ replicate m false) (marked : AddsMarks before (Contains objects) named) where
  named_is : (j : ℕ) → IsMarked named j ↔ Contains objects j
  named_is = just_added m before named (Contains objects) none marked

  lists_same : (i j : ℕ) → ListsUnnamed rows (IsMarked named) i j ↔ ListsUnnamed rows (Contains objects) i j
  lists_same i j = ((λ h. (h.0, λ c. h.1 ((named_is j).1 c))), (λ h. (h.0, λ k. h.1 ((named_is j).0 k))))

  lacks_same : (i : ℕ) → Lacks rows persons (IsMarked named) i ↔ Lacks rows persons (Contains objects) i
  lacks_same i = ((λ h. (h.0, (h.1.0, (lists_same i h.1.0).0 h.1.1))), (λ h. (h.0, (h.1.0, (lists_same i h.1.0).1 h.1.1))))

  pub told_lacking : (n i : ℕ) → IsFirst (Lacks rows persons (IsMarked named)) n i → IsFirst (Lacks rows persons (Contains objects)) n i
  told_lacking n i f = first_same _ _ n n i lacks_same f.number.last f

  pub told_unnamed : (n i j : ℕ) → IsFirst (ListsUnnamed rows (IsMarked named) i) n j → IsFirst (ListsUnnamed rows (Contains objects) i) n j
  told_unnamed n i j f = first_same _ _ n n j (lists_same i) f.number.last f

  pub told_neighbours : HasNeighbours rows persons (IsMarked named) → HasNeighbours rows persons (Contains objects)
  told_neighbours h j near = (named_is j).0 (h j near)

module _ (rows : List Listing) (persons objects : List ℕ) (m : ℕ) (before listed : List Bool)
    (none : before ≡ replicate m false) (marked : AddsMarks before (IsNeighbour rows persons) listed) where
  listed_is : (j : ℕ) → IsMarked listed j ↔ IsNeighbour rows persons j
  listed_is = just_added m before listed (IsNeighbour rows persons) none marked

  pub told_extra : (n k j : ℕ) → All (IsNumber n) objects → IsFirst (λ x. Contains objects x × ¬ IsMarked listed x)
      k j → IsFirst (IsExtra rows persons objects) n j
  told_extra n k j within f =
      let range = All-contains (IsNumber n) objects j within f.here.0 in
      first_same _ _ k n j (λ x. ((λ h. (h.0, λ near. h.1 ((listed_is x).1 near))), (λ h. (h.0, λ seen. h.1 ((listed_is x).0 seen))))) range.last f

  pub told_equal : ((j : ℕ) → Contains objects j → IsMarked listed j) → HasNeighbours rows persons (Contains objects) → AreNeighbours rows persons objects
  told_equal h back j = ((λ c. (listed_is j).0 (h j c)), back j)
