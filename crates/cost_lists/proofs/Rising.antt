-- Numbers that rise.
use Rattle.std.proofs.Common.{◌≡◌, ℕ, ◌<◌, ◌≤◌, ◌+◌, ◌-◌, List, length, slice_index, arith, ap, inl, inr}
use Rattle.std.specs.List.Sorted.{IsStrictlyIncreasing}
use Rattle.assign_core.proofs.NumberedLemmas.{low_or_same}
use Rattle.assign_core.proofs.NumbersOf.{RisesTo}

pub fallen : (xs : List ℕ) (i : ℕ) → 0 < i → i < length xs → slice_index xs i ≤ slice_index xs (i - 1) →
    ¬ IsStrictlyIncreasing xs
fallen xs i some lt le rise =
    let next : i - 1 + 1 ≡ i = omega arith in
    let up = rise (i - 1) (omega arith) in
    let same = ap (slice_index xs) next in
    omega arith

pub risen : (xs : List ℕ) (i : ℕ) → 0 < i → slice_index xs (i - 1) < slice_index xs i → RisesTo xs i →
    RisesTo xs (i + 1)
risen xs i some less up k lt = elim (low_or_same (k + 1) i lt) [
  | inl below ↦ up k below
  | inr same ↦
      let place : k ≡ i - 1 = omega arith in
      let p = ap (slice_index xs) same in
      let q = ap (slice_index xs) place in
      omega arith
]
