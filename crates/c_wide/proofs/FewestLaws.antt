-- A plan that is best at combined costs is best, and changes fewest persons.
use Rattle.std.proofs.Common.{◌≡◌, ℕ, ℤ, pos, ◌+◌, ◌≤◌, ◌+ℤ◌, ◌*ℤ◌, ◌≤ℤ◌, ◌<ℤ◌, ◌⊎◌, List, length, arith, ap, subst, inl, inr}
use Rattle.std.proofs.lemmas.Int.{ints}
use Rattle.std.proofs.lemmas.Bool.{cases_lt}
use native.Mathlib.Nat.{mul-one}
use borrow.Author.Differences.{up, down}
use Rattle.assign_core.specs.declared.sense.Sense.{Sense}
use Rattle.assign_core.specs.declared.sense.Sense.TheVariants.{Min, Max}
use Rattle.assign_core.specs.Assignment.{IsAssignment, IsNoWorse, total}
use Rattle.assign_core.specs.Rows.{Listing}
use Rattle.assign_core.proofs.Products.{distributes}
use Rattle.double_costs.proofs.Multiples.{in_order}
use Rattle.c_wide.specs.fewest.Changes.{CombinedMeansFewest, changes, combined_rows, with_change}
use Rattle.c_wide.proofs.CombinedRows.{assigned_both, changes_few, total_combined}

in_two : (a b : ℤ) → (b <ℤ a) ⊎ (a ≤ℤ b)
in_two a b = elim (cases_lt (up b + down a) (up a + down b)) [
  | inl l ↦ inl (omega (arith, ints))
  | inr g ↦ inr (omega (arith, ints))
]

-- a greater cost by 1 weighs more than n changes
one_weighs : (n : ℕ) (a b : ℤ) → b <ℤ a → ((pos (n + 1) *ℤ b) +ℤ pos (n + 1)) ≤ℤ (pos (n + 1) *ℤ a)
one_weighs n a b less =
    let above : (b +ℤ pos 1) ≤ℤ a = omega (arith, ints) in
    let scaled = in_order (n + 1) (b +ℤ pos 1) a above in
    let sum = distributes (pos (n + 1)) b (pos 1) in
    let one : pos (n + 1) *ℤ pos 1 ≡ pos (n + 1) = ap pos (mul-one (n + 1)) in
    omega (arith, ints)

cost_first : (n : ℕ) (a b : ℤ) (c d : ℕ) → ((pos (n + 1) *ℤ a) +ℤ pos c) ≤ℤ ((pos (n + 1) *ℤ b) +ℤ pos d) → d ≤ n → a ≤ℤ b
cost_first n a b c d h few = elim (in_two a b) [
  | inl less ↦ let w = one_weighs n a b less in absurd (omega (arith, ints))
  | inr upto ↦ upto
]

-- the cost counts first, and changes then
no_worse_first : (sense : Sense) (n : ℕ) (a b : ℤ) (c d : ℕ) → IsNoWorse sense (with_change sense n a c) (with_change sense n b d) →
    d ≤ n → IsNoWorse sense a b
no_worse_first Min n a b c d h few = cost_first n a b c d h few
no_worse_first Max n a b c d h few = cost_first n b a c d (omega (arith, ints)) few

fewer_then : (sense : Sense) (n : ℕ) (a b : ℤ) (c d : ℕ) → IsNoWorse sense (with_change sense n a c) (with_change sense n b d) →
    a ≡ b → c ≤ d
fewer_then Min n a b c d h e = let f = ap (λ (z : ℤ). pos (n + 1) *ℤ z) e in omega (arith, ints)
fewer_then Max n a b c d h e = let f = ap (λ (z : ℤ). pos (n + 1) *ℤ z) e in omega (arith, ints)

as_good : (sense : Sense) (a b : ℤ) → IsNoWorse sense a b → IsNoWorse sense b a → a ≡ b
as_good Min a b h k = omega (arith, ints)
as_good Max a b h k = omega (arith, ints)

pub combined_fewest : CombinedMeansFewest
combined_fewest l kept xs long best =
    let n : ℕ = length l.rows in
    let others : List Listing = combined_rows l.sense n kept l.rows in
    let own : IsAssignment l.rows xs = (assigned_both l.sense n kept l.rows xs long).1 best.assigned in
    let among : (ys : List ℕ) → IsAssignment l.rows ys →
    IsNoWorse l.sense (with_change l.sense n (total l.rows xs) (changes kept xs)) (with_change l.sense n (total l.rows ys) (changes kept ys)) =
    λ ys a.
    subst (λ (z : ℤ). IsNoWorse l.sense z (with_change l.sense n (total l.rows ys) (changes kept ys)))
    (total_combined l.sense n kept l.rows xs long own.listed)
    (subst (IsNoWorse l.sense (total others xs)) (total_combined l.sense n kept l.rows ys long a.listed)
    (best.best ys ((assigned_both l.sense n kept l.rows ys long).0 a))) in
    let few : (ys : List ℕ) → changes kept ys ≤ n = λ ys. subst (λ (m : ℕ). changes kept ys ≤ m) long (changes_few kept ys) in
    let first : (ys : List ℕ) → IsAssignment l.rows ys → IsNoWorse l.sense (total l.rows xs) (total l.rows ys) =
    λ ys a. no_worse_first l.sense n (total l.rows xs) (total l.rows ys) (changes kept xs) (changes kept ys) (among ys a) (few ys) in
    record {
      best = record { assigned = own; best = first };
      fewest = λ ys other.
          fewer_then l.sense n (total l.rows xs) (total l.rows ys) (changes kept xs) (changes kept ys) (among ys other.assigned)
          (as_good l.sense (total l.rows xs) (total l.rows ys) (first ys other.assigned) (other.best xs own));
    }
