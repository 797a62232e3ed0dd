-- Objects without a mark, and the least price.
use Rattle.std.proofs.Common.{◌≡◌, ℕ, ◌≤ℤ◌, ◌<ℤ◌, ◌<◌, ◌≤◌, ◌+◌, ◌-◌, List, length, get_or, Bool, true}
use Rattle.std.proofs.Common.{false, inl, inr, ◌⊎◌, arith, sym, ap, ◌∙◌, subst}
use Rattle.std.proofs.lemmas.Int.{ints}
use mathlib.Core.Bool.{true≢false}
use lib.Ieee.{Float, nan}
use Rattle.assign_core.proofs.NumberedLemmas.{low_or_same, numbered-index, numbered-next}
use Rattle.double_costs.specs.Units.{units_of}
use Rattle.double_checker.specs.inside.Plans.{AreLeastUnmarked, IsLeastPrice}

abbrev pub AreLow : List Bool → List Float → Float → ℕ → Type 0
AreLow owned prices least j = (i : ℕ) → i < j →
    (get_or owned i false ≡ true) ⊎ (units_of (get_or prices i nan) ≤ℤ units_of least)

pub least_more : (owned : List Bool) (prices : List Float) (least : Float) (j : ℕ) → AreLow owned prices least j →
    (get_or owned j false ≡ true) ⊎ (units_of (get_or prices j nan) ≤ℤ units_of least) →
    AreLow owned prices least (j + 1)
least_more owned prices least j h one i lt = elim (low_or_same i j lt) [
  | inl l ↦ h i l
  | inr e ↦ subst (λ (q : ℕ). (get_or owned q false ≡ true) ⊎ (units_of (get_or prices q nan) ≤ℤ units_of least))
      (sym e) one
]

pub not_least : (owned : List Bool) (prices : List Float) (least : Float) (j : ℕ) → length owned ≡ length prices →
    j < length prices → IsLeastPrice prices least →
    get_or owned j false ≡ false → units_of least <ℤ units_of (get_or prices j nan) → AreLeastUnmarked owned prices → ⊥
not_least owned prices least j long lt p f l h =
    let q = p.one (omega arith) in
    elim (h (j + 1) (q.0 + 1) (record { first = omega arith; last = omega arith })
    (record { first = omega arith; last = (let x = q.1 in omega arith) })) [
      | inl m ↦ true≢false (sym m ∙ numbered-next owned j false ∙ f)
      | inr g ↦
          let a = ap units_of (numbered-next prices j nan) in
          let b = ap units_of (numbered-next prices q.0 nan) in
          let e = q.2 in
          absurd (omega (arith, ints))
    ]

pub all_least : (owned : List Bool) (prices : List Float) (least : Float) (j : ℕ) → length owned ≡ length prices →
    length prices ≤ j → IsLeastPrice prices least →
    AreLow owned prices least j → AreLeastUnmarked owned prices
all_least owned prices least j long end p h x y nx ny =
    let fx = nx.first in let lx = nx.last in let fy = ny.first in let ly = ny.last in
    elim (h (x - 1) (omega arith)) [
      | inl m ↦ inl (numbered-index owned x false false nx.first (omega arith) ∙ m)
      | inr g ↦ inr (
          let a = ap units_of (numbered-index prices x nan nan nx.first nx.last) in
          let b = ap units_of (numbered-index prices y nan nan ny.first ny.last) in
          let e = p.each (y - 1) (omega arith) in
          omega (arith, ints))
    ]

pub least_so_far : (prices : List Float) (least next : Float) (k : ℕ) →
    ((i : ℕ) → i < k → units_of least ≤ℤ units_of (get_or prices i nan)) →
    units_of next ≤ℤ units_of (get_or prices k nan) → units_of next ≤ℤ units_of least → (i : ℕ) → i < k + 1 →
    units_of next ≤ℤ units_of (get_or prices i nan)
least_so_far prices least next k h first second i lt = elim (low_or_same i k lt) [
  | inl l ↦ let g = h i l in omega (arith, ints)
  | inr e ↦ subst (λ (q : ℕ). units_of next ≤ℤ units_of (get_or prices q nan)) (sym e) first
]

pub one_so_far : (prices : List Float) (least next : Float) (k : ℕ) → k < length prices →
    (0 < length prices → (q : ℕ) × (q < length prices) × (units_of (get_or prices q nan) ≡ units_of least)) →
    (next ≡ get_or prices k nan) ⊎ (next ≡ least) → 0 < length prices →
    (q : ℕ) × (q < length prices) × (units_of (get_or prices q nan) ≡ units_of next)
one_so_far prices least next k lt h o p = elim o [
  | inl e ↦ (k, lt, ap units_of (sym e))
  | inr e ↦ let g = h p in (g.0, g.1, g.2 ∙ ap units_of (sym e))
]
