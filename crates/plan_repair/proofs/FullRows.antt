-- Rows in which each person lists each object.
use Rattle.std.proofs.Common.{◌≡◌, ℕ, ℤ, ◌<◌, ◌+◌, ◌-◌, ◌*◌, List, [], IsSome}
use Rattle.std.proofs.Common.{length, get_or, drop, refl, arith, ap, sym, subst, ◌∙◌, inl, inr}
use Rattle.std.specs.List.{All}
use Rattle.std.proofs.lemmas.Bool.{cases_lt}
use Rattle.std.proofs.lemmas.List.{get_or-take, get_or-drop}
use Rattle.assign_core.specs.Assignment.{AreListed}
use Rattle.assign_core.specs.Dense.{rows_cut}
use Rattle.assign_core.specs.Numbered.{IsNumber, numbered}
use Rattle.assign_core.specs.Rows.{Listing, IsCost, listed_in, row_of}
use Rattle.assign_core.proofs.DenseRows.{length-rows_cut}
use Rattle.assign_core.proofs.NumberedLemmas.{numbered-index}
use Rattle.assign_core.proofs.Zips.{pairs_from}
use Rattle.cost_lists.specs.Source.{part_of}
use Rattle.cost_lists.proofs.CutRows.{cut_listed}

-- the costs of the first i persons are in range
abbrev pub AreCostsUpTo : ℕ → List ℤ → ℕ → Type 0
AreCostsUpTo m costs i = (k : ℕ) (d : ℤ) → k < i * m → IsCost (get_or costs k d)

-- and of one more
pub costs_more : (m i : ℕ) (costs : List ℤ) → AreCostsUpTo m costs i → length (part_of m i costs) ≡ m → All IsCost (part_of m i costs) → AreCostsUpTo m costs (i + 1)
costs_more m i costs before long here k d lt = elim (cases_lt k (i * m)) [
  | inl less ↦ before k d less
  | inr upto ↦
      let room : k - i * m < m = omega arith in
      let back : i * m + (k - i * m) ≡ k = omega arith in
      subst IsCost (get_or-take m (drop (i * m) costs) (k - i * m) d room ∙ get_or-drop (i * m) costs (k - i * m) d ∙ ap (λ q. get_or costs q d) back)
      (here (k - i * m) d (omega arith))
]

-- a person lists each object
pub full_listed : (n m : ℕ) (costs : List ℤ) (xs : List ℕ) → length costs ≡ n * m → length xs ≡ n → All (IsNumber m) xs → AreListed (rows_cut m n costs) xs
full_listed n m costs xs long same within =
    let rows = rows_cut m n costs in
    let rows_long = length-rows_cut m n costs in
    pairs_from (λ (row : Listing) (j : ℕ). IsSome (listed_in row j)) rows xs [] 0 (rows_long ∙ sym same) (λ i some last.
    let x = numbered-index xs i 0 0 some (omega arith) in
    let number = within (i - 1) 0 (omega arith) in
    let first = number.first in
    let most = number.last in
    let listed = cut_listed n m (i - 1) (get_or xs (i - 1) 0 - 1) costs long (omega arith) (omega arith) in
    let person : i - 1 + 1 ≡ i = omega arith in
    let object : get_or xs (i - 1) 0 - 1 + 1 ≡ numbered xs i 0 = omega arith in
    subst (λ p. IsSome (listed_in (row_of rows p) (numbered xs i 0))) person
    (subst (λ j. IsSome (listed_in (row_of rows (i - 1 + 1)) j)) object (subst (λ o. IsSome o) (sym listed) refl)))
