-- Each verdict on a Hall set excludes the others.
use Rattle.std.proofs.Common.{◌≡◌, ℕ, ◌<◌, zero, suc, List, [], length, arith, ap, ◌∙◌, refl, subst, get_or}
use Rattle.std.specs.List.{All, Contains}
use Rattle.std.proofs.lemmas.List.Elements.{All-contains, Contains-get_or}
use Rattle.assign_core.specs.Numbered.{IsNumber}
use Rattle.assign_core.specs.Rows.{IsWithin, row_of}
use Rattle.assign_core.specs.Hall.{IsHallSet}
use Rattle.assign_core.proofs.Listed.{object_within}
use Rattle.assign_core.proofs.NumberedLemmas.{All-numbered}
use Rattle.dual_checker.specs.Faults.{IsFirst}
use Rattle.dual_checker.specs.HallVerdicts.{AreInRange, AreNeighbours, AreRising, HasNeighbours, ListsUnnamed}
use Rattle.dual_checker.proofs.Firsts.{firsts_agree}
use Rattle.cost_lists.specs.ListedCosts.{ListedCosts, AreInLimits}
use Rattle.exact_checker.specs.declared.hall_verdict.HallVerdict.{HallVerdict}
use Rattle.exact_checker.specs.declared.hall_verdict.HallVerdict.TheVariants.{Range, Order, Missing, Extra, Count, Yes}
use Rattle.exact_checker.specs.HallVerdicts.{HallVerdictsDiffer, IsHallVerdict}
use Rattle.exact_checker.proofs.Ranks.{Passes, same_rank}

-- the facts that the checker tests, in their order
abbrev Fact : ListedCosts → List ℕ → List ℕ → ℕ → Type 0
Fact l persons objects zero = AreInRange l.m l.rows persons objects
Fact l persons objects (suc zero) = AreRising persons objects
Fact l persons objects (suc (suc zero)) = HasNeighbours l.rows persons (Contains objects)
Fact l persons objects (suc (suc (suc zero))) = AreNeighbours l.rows persons objects
Fact l persons objects (suc (suc (suc (suc zero)))) = length objects < length persons
Fact l persons objects (suc (suc (suc (suc (suc k))))) = ⊥

-- how many of them hold before one doesn't
abbrev rank : HallVerdict → ℕ
rank Range = 0
rank Order = 1
rank (Missing i j) = 2
rank (Extra j) = 3
rank Count = 4
rank Yes = 5

module _ (l : ListedCosts) (persons objects : List ℕ) (limits : AreInLimits l) where
  -- the objects of a Hall set are listed, so they are in range
  hall_in_range : IsHallSet l.rows persons objects → AreInRange l.m l.rows persons objects
  hall_in_range h =
      let objects_in : All (IsNumber l.m) objects = λ k d lt.
      let near = (h.neighbours (get_or objects k d)).0 (Contains-get_or objects k d lt) in
      let person = All-contains (IsNumber (length l.rows)) persons near.0 h.within near.1 in
      let row = All-numbered (IsWithin l.m) l.rows near.0 [] limits.within person.first person.last in
      object_within l.m (row_of l.rows near.0) (get_or objects k d) row near.2 in
      (h.within, objects_in)

  fails : (v : HallVerdict) → IsHallVerdict l persons objects v → ¬ Fact l persons objects (rank v)
  fails Range h = h
  fails Order h = h.1
  fails (Missing i j) h = λ all. let lack = h.1.here.1 in lack.1.1 (all lack.0 (i, h.1.here.0, lack.1.0))
  fails (Extra j) h = λ all. h.2.here.1 ((all j).0 h.2.here.0)
  fails Count h = λ fewer. let few = h.2 in omega arith
  fails Yes h = λ never. never

  passes : (v : HallVerdict) → IsHallVerdict l persons objects v → Passes (Fact l persons objects) (rank v)
  passes Range h = tt
  passes Order h = (tt, h.0)
  passes (Missing i j) h = ((tt, h.0.in_range), h.0.rising)
  passes (Extra j) h = (((tt, h.0.in_range), h.0.rising), h.1)
  passes Count h = ((((tt, h.0.in_range), h.0.rising), λ j. (h.1 j).1), h.1)
  passes Yes h = (((((tt, hall_in_range h), (h.persons_rise, h.objects_rise)), λ j. (h.neighbours j).1), h.neighbours), h.fewer)

  ranks : (v w : HallVerdict) → IsHallVerdict l persons objects v → IsHallVerdict l persons objects w → rank v ≡ rank w
  ranks v w a b = same_rank (Fact l persons objects) (rank v) (rank w) (passes v a) (passes w b) (fails v a) (fails w b)

  same : (v w : HallVerdict) → IsHallVerdict l persons objects v → IsHallVerdict l persons objects w → v ≡ w
  same Range Range a b = refl
  same Order Order a b = refl
  same (Missing i o) (Missing j k) a b =
      let e = firsts_agree _ _ i j a.1 b.1 in
      let f = firsts_agree (ListsUnnamed l.rows (Contains objects) j) l.m o k
      (subst (λ q. IsFirst (ListsUnnamed l.rows (Contains objects) q) l.m o) e a.2) b.2 in
      ap (λ q. Missing q o) e ∙ ap (λ q. Missing j q) f
  same (Extra i) (Extra j) a b = ap Extra (firsts_agree _ _ i j a.2 b.2)
  same Count Count a b = refl
  same Yes Yes a b = refl
  same v w a b = let e = ranks v w a b in absurd (omega arith)

pub hall_verdicts_differ : HallVerdictsDiffer
hall_verdicts_differ l persons objects v w limits a b = same l persons objects limits v w a b
