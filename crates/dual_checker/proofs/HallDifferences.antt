-- Each verdict on a Hall set excludes the others.
use Rattle.std.proofs.Common.{ℕ, List, length, arith, ap, ◌∙◌, refl, subst, get_or}
use Rattle.std.specs.List.{All, Contains}
use Rattle.std.proofs.lemmas.List.Elements.{All-contains, Contains-get_or}
use Rattle.assign_core.specs.Numbered.{IsNumber}
use Rattle.assign_core.specs.Rows.{Listing, IsRow, row_of}
use Rattle.assign_core.specs.Hall.{IsHallSet}
use Rattle.assign_core.proofs.Listed.{object_within}
use Rattle.assign_core.proofs.RowLemmas.{IsRow-row_of}
use Rattle.dual_checker.specs.declared.hall_verdict.HallVerdict.TheVariants.{Range, Order, Missing, Extra, Count, Yes}
use Rattle.dual_checker.specs.Faults.{IsFirst}
use Rattle.dual_checker.specs.HallVerdicts.{AreInRange, AreNeighbours, AreRising, HasNeighbours, HallVerdictsDiffer}
use Rattle.dual_checker.specs.HallVerdicts.{IsExtra, Lacks, ListsUnnamed}
use Rattle.dual_checker.proofs.Firsts.{firsts_agree}

-- the persons and the objects of a Hall set have rows and are listed
hall_in_range : (m : ℕ) (rows : List Listing) (persons objects : List ℕ) → All (IsRow m) rows →
    IsHallSet rows persons objects → AreInRange m rows persons objects
hall_in_range m rows persons objects each h =
    let n : ℕ = length rows in
    let objects_in : All (IsNumber m) objects = λ k d lt.
    let near = (h.neighbours (get_or objects k d)).0 (Contains-get_or objects k d lt) in
    let person = All-contains (IsNumber n) persons near.0 h.within near.1 in
    let row = IsRow-row_of m rows near.0 each person.first person.last in
    object_within m (row_of rows near.0) (get_or objects k d) row.within near.2 in
    (h.within, objects_in)

hall_rising : (rows : List Listing) (persons objects : List ℕ) → IsHallSet rows persons objects → AreRising persons objects
hall_rising rows persons objects h = (h.persons_rise, h.objects_rise)

not_lacking : (rows : List Listing) (persons objects : List ℕ) (i : ℕ) →
    HasNeighbours rows persons (Contains objects) → IsFirst (Lacks rows persons (Contains objects)) (length rows) i → ⊥
not_lacking rows persons objects i h f = let lack = f.here.1 in lack.1.1 (h lack.0 (i, f.here.0, lack.1.0))

not_extra : (m : ℕ) (rows : List Listing) (persons objects : List ℕ) (j : ℕ) → AreNeighbours rows persons objects →
    IsFirst (IsExtra rows persons objects) m j → ⊥
not_extra m rows persons objects j h f = f.here.1 ((h j).0 f.here.0)

pub halls_differ : HallVerdictsDiffer
halls_differ m r p o Range Range q a b = refl
halls_differ m r p o Range Order q a b = absurd (a b.0)
halls_differ m r p o Range (Missing ix jx) q a b = absurd (a b.0)
halls_differ m r p o Range (Extra jx) q a b = absurd (a b.0)
halls_differ m r p o Range Count q a b = absurd (a b.0)
halls_differ m r p o Range Yes q a b = absurd (a (hall_in_range m r p o q b))
halls_differ m r p o Order Range q a b = absurd (b a.0)
halls_differ m r p o Order Order q a b = refl
halls_differ m r p o Order (Missing ix jx) q a b = absurd (a.1 b.1)
halls_differ m r p o Order (Extra jx) q a b = absurd (a.1 b.1)
halls_differ m r p o Order Count q a b = absurd (a.1 b.1)
halls_differ m r p o Order Yes q a b = absurd (a.1 (hall_rising r p o b))
halls_differ m r p o (Missing i j) Range q a b = absurd (b a.0)
halls_differ m r p o (Missing i j) Order q a b = absurd (b.1 a.1)
halls_differ m r p o (Missing i j) (Missing ix jx) q a b =
    let e = firsts_agree _ _ i ix a.2 b.2 in
    let f = firsts_agree (ListsUnnamed r (Contains o) ix) m j jx (subst (λ k. IsFirst (ListsUnnamed r (Contains o) k) m j) e a.3) b.3 in
    ap (λ m. Missing m j) e ∙ ap (λ m. Missing ix m) f
halls_differ m r p o (Missing i j) (Extra jx) q a b = absurd (not_lacking r p o i b.2 a.2)
halls_differ m r p o (Missing i j) Count q a b = absurd (not_lacking r p o i (λ j. (b.2 j).1) a.2)
halls_differ m r p o (Missing i j) Yes q a b = absurd (not_lacking r p o i (λ j. (b.neighbours j).1) a.2)
halls_differ m r p o (Extra j) Range q a b = absurd (b a.0)
halls_differ m r p o (Extra j) Order q a b = absurd (b.1 a.1)
halls_differ m r p o (Extra j) (Missing ix jx) q a b = absurd (not_lacking r p o ix a.2 b.2)
halls_differ m r p o (Extra j) (Extra jx) q a b = ap Extra (firsts_agree _ _ j jx a.3 b.3)
halls_differ m r p o (Extra j) Count q a b = absurd (not_extra m r p o j b.2 a.3)
halls_differ m r p o (Extra j) Yes q a b = absurd (not_extra m r p o j b.neighbours a.3)
halls_differ m r p o Count Range q a b = absurd (b a.0)
halls_differ m r p o Count Order q a b = absurd (b.1 a.1)
halls_differ m r p o Count (Missing ix jx) q a b = absurd (not_lacking r p o ix (λ j. (a.2 j).1) b.2)
halls_differ m r p o Count (Extra jx) q a b = absurd (not_extra m r p o jx a.2 b.3)
halls_differ m r p o Count Count q a b = refl
halls_differ m r p o Count Yes q a b = absurd (let few = a.3 in let fewer = b.fewer in omega arith)
halls_differ m r p o Yes Range q a b = absurd (b (hall_in_range m r p o q a))
halls_differ m r p o Yes Order q a b = absurd (b.1 (hall_rising r p o a))
halls_differ m r p o Yes (Missing ix jx) q a b = absurd (not_lacking r p o ix (λ j. (a.neighbours j).1) b.2)
halls_differ m r p o Yes (Extra jx) q a b = absurd (not_extra m r p o jx a.neighbours b.3)
halls_differ m r p o Yes Count q a b = absurd (let few = b.3 in let fewer = a.fewer in omega arith)
halls_differ m r p o Yes Yes q a b = refl
