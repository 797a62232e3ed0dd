-- The numbers of a list of what has numbers.
use Rattle.std.proofs.Common.{◌≡◌, ℕ, ◌<◌, ◌≤◌, ◌+◌, ◌-◌, List, length, get_or, map, slice_index, sym, ap, ◌∙◌, arith, inl, inr}
use Rattle.std.specs.List.Sorted.{IsStrictlyIncreasing}
use Rattle.std.proofs.lemmas.List.{get_or-map, length-map}
use Rattle.assign_core.proofs.NumberedLemmas.{low_or_same}

-- the number at a place, as an index and a call give it
pub number_at : {A : Type 0} (number_of : A → ℕ) (xs : List A) (k : ℕ) (x : A) (m : ℕ) → k < length xs →
    x ≡ get_or xs k x → m ≡ number_of x → slice_index (map number_of xs) k ≡ m
number_at number_of xs k x m lt at is = get_or-map number_of xs k x 0 lt ∙ ap number_of (sym at) ∙ sym is

-- the numbers up to place i rise
abbrev pub RisesTo : List ℕ → ℕ → Type 0
RisesTo xs i = (k : ℕ) → k + 1 < i → slice_index xs k < slice_index xs (k + 1)

-- a number that isn't above the one before
pub fallen : {A : Type 0} (number_of : A → ℕ) (xs : List A) (i a b : ℕ) → 0 < i → i < length xs →
    slice_index (map number_of xs) (i - 1) ≡ a → slice_index (map number_of xs) i ≡ b → b ≤ a →
    IsStrictlyIncreasing (map number_of xs) → ⊥
fallen number_of xs i a b some lt before here le rise =
    let next : i - 1 + 1 ≡ i = omega arith in
    let long : length (map number_of xs) ≡ length xs = simp length-map in
    let up = rise (i - 1) (omega arith) in
    let same = ap (slice_index (map number_of xs)) next in
    omega arith

-- one more number that is above the one before
pub risen : {A : Type 0} (number_of : A → ℕ) (xs : List A) (i a b : ℕ) → 0 < i →
    slice_index (map number_of xs) (i - 1) ≡ a → slice_index (map number_of xs) i ≡ b → a < b →
    RisesTo (map number_of xs) i → RisesTo (map number_of xs) (i + 1)
risen number_of xs i a b some before here up rise k lt = elim (low_or_same (k + 1) i lt) [
  | inl less ↦ rise k less
  | inr same ↦
      let place : k ≡ i - 1 = omega arith in
      let p = ap (slice_index (map number_of xs)) same in
      let q = ap (slice_index (map number_of xs)) place in
      omega arith
]
