-- Pairs in a list of numbers, one more.
use Rattle.std.proofs.Common.{◌≡◌, ℕ, ℤ, ◌+◌, ◌*◌, ◌-◌, ◌<◌, ◌≤◌, ◌^◌, pos, suc, List, Bool, true, false, Some, length, refl, ap, sym, ◌∙◌, subst, arith}
use Rattle.std.specs.Prelude.{if◌then◌else◌, int_lt, ◌<ℤ◌}
use Rattle.std.specs.Int.RustNames.{unsigned_abs}
use Rattle.std.proofs.lemmas.Bool.{and_parts, leb-true}
use Rattle.std.proofs.lemmas.Int.{ints}
use Rattle.row_checker.specs.declared.numbers.Head.TheVariants as head
use Rattle.row_checker.specs.Trees.{first_unnamed, head_of, is_leaf, is_named, is_split, number_at}

turn : (numbers : List ℤ) (p k limit i : ℕ) → i < k →
    first_unnamed numbers (p + 2 * i) (k - i) limit ≡ (if is_named (number_at numbers (p + 2 * i)) limit then
    first_unnamed numbers (p + 2 * (i + 1)) (k - (i + 1)) limit else Some (p + 2 * i))
turn numbers p k limit i lt =
    let e : k - i ≡ suc (k - (i + 1)) = omega arith in
    let f : p + 2 * i + 2 ≡ p + 2 * (i + 1) = omega arith in
    ap (λ x. first_unnamed numbers (p + 2 * i) x limit) e
    ∙ ap (λ x. if is_named (number_at numbers (p + 2 * i)) limit then first_unnamed numbers x (k - (i + 1)) limit else Some (p + 2 * i)) f

-- a pair whose first number is below the limit is passed over
pub unnamed_more : (numbers : List ℤ) (p k limit i : ℕ) → i < k → is_named (number_at numbers (p + 2 * i)) limit ≡ true →
    first_unnamed numbers (p + 2 * (i + 1)) (k - (i + 1)) limit ≡ first_unnamed numbers (p + 2 * i) (k - i) limit
unnamed_more numbers p k limit i lt named =
    sym (turn numbers p k limit i lt ∙ ap (λ b. if b then first_unnamed numbers (p + 2 * (i + 1)) (k - (i + 1)) limit else Some (p + 2 * i)) named)

-- one whose first number isn't is the first
pub unnamed_here : (numbers : List ℤ) (p k limit i : ℕ) → i < k → is_named (number_at numbers (p + 2 * i)) limit ≡ false →
    Some (p + 2 * i) ≡ first_unnamed numbers (p + 2 * i) (k - i) limit
unnamed_here numbers p k limit i lt unnamed =
    sym (turn numbers p k limit i lt ∙ ap (λ b. if b then first_unnamed numbers (p + 2 * (i + 1)) (k - (i + 1)) limit else Some (p + 2 * i)) unnamed)

head_parts : (negative leaf split : Bool) (j k : ℕ) →
    (if negative then head.None else (if leaf then head.Leaf j else (if split then head.Split j else head.None))) ≡ head.Split k → (split ≡ true) × (j ≡ k)
head_parts true leaf split j k e = absurd cc
head_parts false true split j k e = absurd cc
head_parts false false true j k e = (refl, cc)
head_parts false false false j k e = absurd cc

leaf_parts : (negative leaf split : Bool) (j k : ℕ) →
    (if negative then head.None else (if leaf then head.Leaf j else (if split then head.Split j else head.None))) ≡ head.Leaf k → (leaf ≡ true) × (j ≡ k)
leaf_parts true leaf split j k e = absurd cc
leaf_parts false true split j k e = (refl, cc)
leaf_parts false false true j k e = absurd cc
leaf_parts false false false j k e = absurd cc

-- what stands there, if it is a split of k terms
pub record IsSplit (numbers : List ℤ) (p k : ℕ) : Type 0 where
  pub room : p + 3 + 2 * k ≤ length numbers
  pub less : number_at numbers (p + 2) <ℤ pos (2 ^ 63 - 1)

below_max : (z : ℤ) → int_lt z (pos (2 ^ 63 - 1)) ≡ true → z <ℤ pos (2 ^ 63 - 1)
below_max z t = grind (arith, ints)

pub split_is : (numbers : List ℤ) (p k : ℕ) → head_of numbers p ≡ head.Split k → IsSplit numbers p k
split_is numbers p k e =
    let j : ℕ = unsigned_abs (number_at numbers (p + 1)) in
    let h = head_parts (int_lt (number_at numbers (p + 1)) (pos 0)) (is_leaf numbers p j) (is_split numbers p j) j k e in
    let t : is_split numbers p k ≡ true = subst (λ (i : ℕ). is_split numbers p i ≡ true) h.1 h.0 in
    let a = and_parts _ _ t in
    let b = and_parts _ _ a.1 in
    record { room = leb-true (p + 3 + 2 * k) (length numbers) b.0; less = below_max (number_at numbers (p + 2)) b.1 }

-- and if it is a leaf of k multiples
pub leaf_room : (numbers : List ℤ) (p k : ℕ) → head_of numbers p ≡ head.Leaf k → p + 2 + 2 * k ≤ length numbers
leaf_room numbers p k e =
    let j : ℕ = unsigned_abs (number_at numbers (p + 1)) in
    let h = leaf_parts (int_lt (number_at numbers (p + 1)) (pos 0)) (is_leaf numbers p j) (is_split numbers p j) j k e in
    let t : is_leaf numbers p k ≡ true = subst (λ (i : ℕ). is_leaf numbers p i ≡ true) h.1 h.0 in
    let a = and_parts _ _ t in
    leb-true (p + 2 + 2 * k) (length numbers) a.1
