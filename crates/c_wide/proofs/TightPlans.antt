-- Sums at combined costs that are at least a person's level, from sums at the costs alone.
use Rattle.std.proofs.Common.{◌≡◌, ℕ, ℤ, pos, neg_ℤ, ◌+◌, ◌*◌, ◌<◌, ◌+ℤ◌, ◌-ℤ◌, ◌*ℤ◌, ◌≤ℤ◌, ◌<ℤ◌, List, length, take, drop, get_or, refl, arith, ap, subst, ◌∙◌, inl, inr}
use Rattle.std.specs.List.{All}
use Rattle.std.proofs.lemmas.Int.{ints}
use Rattle.std.proofs.lemmas.List.{get_or-take, get_or-drop}
use Rattle.std.proofs.lemmas.List.Elements.{All-contains}
use Rattle.std.proofs.Math.IntN.{*ℤ-zero}
use Rattle.assign_core.specs.declared.sense.Sense.{Sense}
use Rattle.assign_core.specs.declared.sense.Sense.TheVariants.{Min, Max}
use Rattle.assign_core.proofs.Products.{distributes}
use Rattle.double_costs.proofs.Multiples.{in_order}
use Rattle.cost_lists.specs.Own.{minimised}
use Rattle.c_wide.specs.declared.fewest.priced.Priced.{Priced}
use Rattle.c_wide.specs.declared.fewest.tight.Tight.{Tight}
use Rattle.c_wide.specs.fewest.Changes.{change, with_change}
use Rattle.c_wide.specs.fewest.Priced.{AreBelow, AreNear, HasLevel, level_at}
use Rattle.c_wide.specs.fewest.Tight.{AreTight, pair}

times_negated : (k : ℕ) (c : ℤ) → pos k *ℤ neg_ℤ c ≡ neg_ℤ (pos k *ℤ c)
times_negated k c =
    let none : c +ℤ neg_ℤ c ≡ pos 0 = omega (arith, ints) in
    let sum = distributes (pos k) c (neg_ℤ c) in
    let zero : pos k *ℤ (c +ℤ neg_ℤ c) ≡ pos 0 = ap (λ (z : ℤ). pos k *ℤ z) none ∙ *ℤ-zero (pos k) in
    omega (arith, ints)

turned_combined : (sense : Sense) (n : ℕ) (c : ℤ) (q : ℕ) → minimised sense (with_change sense n c q) ≡ (pos (n + 1) *ℤ minimised sense c) +ℤ pos q
turned_combined Min n c q = refl
turned_combined Max n c q = let e = times_negated (n + 1) c in omega (arith, ints)

-- a sum above the value, at prices near n + 1 times the first ones
far_enough : (sense : Sense) (n by q : ℕ) (c first value price level : ℤ) → value <ℤ (minimised sense c +ℤ first) →
    level ≤ℤ ((pos (n + 1) *ℤ (value +ℤ pos 1)) -ℤ pos by) → ((pos (n + 1) *ℤ first) -ℤ pos by) ≤ℤ price →
    level ≤ℤ (minimised sense (with_change sense n c q) +ℤ price)
far_enough sense n by q c first value price level above low near =
    let next : (value +ℤ pos 1) ≤ℤ (minimised sense c +ℤ first) = omega (arith, ints) in
    let scaled = in_order (n + 1) (value +ℤ pos 1) (minimised sense c +ℤ first) next in
    let sum = distributes (pos (n + 1)) (minimised sense c) first in
    let turned = turned_combined sense n c q in
    omega (arith, ints)

pub all_least : (g : Priced) (by : ℕ) (first values levels : List ℤ) (tight : List Tight) → length first ≡ g.m → length values ≡ g.n →
    AreTight g.sense g.costs.now first values g.n tight → AreBelow g.n by values (length values) levels →
    AreNear g.n by first (length first) g.prices.now → All (HasLevel g levels) tight →
    (i j : ℕ) → i < g.n → j < g.m → get_or levels i (pos 0) ≤ℤ level_at g i j
all_least g by first values levels tight long persons are low near reached i j li lj =
    elim (are i li j (omega (arith, long, lj))) [
      | inl above ↦
          let part : get_or (take (length first) (drop (i * length first) g.costs.now)) j (pos 0) ≡ get_or g.costs.now (i * g.m + j) (pos 0) =
          get_or-take (length first) (drop (i * length first) g.costs.now) j (pos 0) (omega (arith, long, lj))
          ∙ get_or-drop (i * length first) g.costs.now j (pos 0)
          ∙ ap (λ (m : ℕ). get_or g.costs.now (i * m + j) (pos 0)) long in
          far_enough g.sense g.n by (change (get_or g.kept.now i 0) (j + 1)) (get_or g.costs.now (i * g.m + j) (pos 0)) (get_or first j (pos 0))
          (get_or values i (pos 0)) (get_or g.prices.now j (pos 0)) (get_or levels i (pos 0))
          (subst (λ (c : ℤ). get_or values i (pos 0) <ℤ (minimised g.sense c +ℤ get_or first j (pos 0))) part above) (low i (omega (arith, persons, li))) (near j (omega (arith, long, lj)))
      | inr has ↦ All-contains (HasLevel g levels) tight (pair i j) reached has
    ]
