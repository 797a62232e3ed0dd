-- Whole numbers times a number of parts.
use Rattle.std.proofs.Common.{◌≡◌, ℕ, ℤ, pos, negsuc, neg_ℤ, ◌+ℤ◌, ◌*ℤ◌, ◌≤ℤ◌, ◌+◌, ◌-◌, ◌*◌, List, map}
use Rattle.std.proofs.Common.{zero, suc, arith, refl, sym, ap, ◌∙◌, get_or}
use Rattle.std.specs.Prelude.{unsigned_abs}
use Rattle.std.proofs.lemmas.Int.{ints}
use Rattle.std.proofs.Math.IntN.{*ℤ-zero}
use Rattle.std.proofs.Math.ListN.{get_or-map}
use borrow.Author.Differences.{up, down}
use Rattle.assign_core.specs.Prices.{price_of}
use Rattle.assign_core.proofs.Products.{distributes}

pub in_order : (n : ℕ) (a b : ℤ) → a ≤ℤ b → (pos n *ℤ a) ≤ℤ (pos n *ℤ b)
in_order n a b h =
    let k : ℕ = up b + down a - (up a + down b) in
    let e : b ≡ a +ℤ pos k = omega (arith, ints) in
    let m : pos n *ℤ b ≡ (pos n *ℤ a) +ℤ (pos n *ℤ pos k) = ap (λ z. pos n *ℤ z) e ∙ distributes (pos n) a (pos k) in
    let q : pos n *ℤ pos k ≡ pos (n * k) = refl in
    omega (arith, ints)

-- each price in parts
abbrev pub in_parts : ℕ → List ℤ → List ℤ
in_parts n prices = map (λ p. pos n *ℤ p) prices

pub price_in_parts : (n : ℕ) (prices : List ℤ) (j : ℕ) → price_of (in_parts n prices) j ≡ pos n *ℤ price_of prices j
price_in_parts n prices zero = sym (*ℤ-zero (pos n))
price_in_parts n prices (suc k) = ap (λ d. get_or (in_parts n prices) k d) (sym (*ℤ-zero (pos n)))
    ∙ get_or-map (λ p. pos n *ℤ p) prices k (pos 0)

-- a whole number lies between its size and the same with a minus sign
pub at_most_size : (z : ℤ) → z ≤ℤ pos (unsigned_abs z)
at_most_size (pos n) = omega (arith, ints)
at_most_size (negsuc n) = omega (arith, ints)

pub at_least_size : (z : ℤ) → neg_ℤ (pos (unsigned_abs z)) ≤ℤ z
at_least_size (pos n) = omega (arith, ints)
at_least_size (negsuc n) = omega (arith, ints)
