-- Numbers and their digits: what is read was written like this, and what is written is read again.
use Rattle.std.proofs.Common.{◌≡◌, ℕ, ℤ, pos, negsuc, nat_abs, suc, zero, ◌<◌, ◌≤◌, ◌+◌, ◌*◌, ◌^◌, List, [], ◌∷◌}
use Rattle.std.proofs.Common.{Bool, true, false, cond, eqb, leb, ◌&&◌, Option, Some, None, length, refl, ap, ◌∙◌}
use Rattle.std.proofs.Common.{arith, decimal, rules}
use Rattle.std.specs.Fmt.{signed_decimal}
use Rattle.std.specs.Char.{digit_value}
use Rattle.std.specs.Str.{bytes_eq}
use Rattle.std.specs.Str.Parse.{AllDigits, IsNumeral}
use Rattle.std.proofs.lemmas.Bool.{eqb-true, ne_eqb, and_parts, le-leb, leb-true}
use Rattle.std.proofs.lemmas.Fmt.{decimal_is_IsNumeral_wide, length-decimal-le_wide}
use Rattle.std.proofs.lemmas.Option.{cond_some}
use Rattle.std.proofs.lemmas.Slice.Eq.{bytes_eq-Decides}
use Rattle.std.proofs.lemmas.Str.Parse.{IsNumeralModel, numerals_by_fold, tells_digits, digit_from_value}
use Rattle.std.proofs.Math.Nat.{pow-le-pow_right}
use Rattle.report.specs.declared.numerals.TheConstants.{MOST_DIGITS}
use Rattle.assign_core.specs.declared.numbers.TheConstants.{MOST_PERSONS}
use Rattle.report.specs.inside.Numerals.{◌>>=◌, value_after, numeral_in, numeral_within, negated, widest_cost, last_price, cost_in, price_in, number_in}
use Rattle.report.proofs.WordLemmas.{IsWord}

own : IsNumeralModel (AllDigits 10) (value_after 0)
own = numerals_by_fold (AllDigits 10) tells_digits value_after (search rules)

pub word_of_digits : (ds : List ℕ) → AllDigits 10 ds → IsWord ds
word_of_digits [] h = tt
word_of_digits (d ∷ ds) h = let r = digit_from_value d h.0 in (omega (arith, r), word_of_digits ds h.1)

pub word_decimal : (n : ℕ) → n < 10 ^ 64 → IsWord (decimal n)
word_decimal n h = word_of_digits (decimal n) (decimal_is_IsNumeral_wide n h).0.1

value-decimal : (n : ℕ) → n < 10 ^ 64 → value_after 0 (decimal n) ≡ n
value-decimal n h = let d = decimal_is_IsNumeral_wide n h in own.same (decimal n) d.0.1 ∙ d.1

pub numeral_again : (n : ℕ) → n < 10 ^ MOST_DIGITS → numeral_in (decimal n) ≡ Some n
unfolding numeral_in
numeral_again n h =
    let wide : n < 10 ^ 64 = omega arith in
    let short : leb (length (decimal n)) MOST_DIGITS ≡ true = le-leb _ _ (length-decimal-le_wide MOST_DIGITS n (omega arith) h wide) in
    let value = value-decimal n wide in
    let same : bytes_eq (decimal n) (decimal n) ≡ true = (bytes_eq-Decides (decimal n) (decimal n)).1 refl in
    rw (value, short, same) refl

pub numeral_takes : (w : List ℕ) (n : ℕ) → numeral_in w ≡ Some n → w ≡ decimal n
unfolding numeral_in
numeral_takes w n e =
    let c = cond_some (leb (length w) MOST_DIGITS && bytes_eq w (decimal (value_after 0 w))) (value_after 0 w) n e in
    let p = and_parts (leb (length w) MOST_DIGITS) (bytes_eq w (decimal (value_after 0 w))) c.0 in
    (bytes_eq-Decides w (decimal (value_after 0 w))).0 p.1 ∙ ap decimal c.1

pub bind_some : {A B : Type 0} (o : Option A) (f : A → Option B) (y : B) → (o >>= f) ≡ Some y → (x : A) × (o ≡ Some x) × (f x ≡ Some y)
bind_some None f y e = absurd cc
bind_some (Some x) f y e = (x, refl, e)

pub within_again : (most n : ℕ) → n ≤ most → n < 10 ^ MOST_DIGITS → numeral_within most (decimal n) ≡ Some n
within_again most n h k = let t : leb n most ≡ true = le-leb _ _ h in rw (numeral_again n k, t) refl

pub within_takes : (most : ℕ) (w : List ℕ) (n : ℕ) → numeral_within most w ≡ Some n → (w ≡ decimal n) × (n ≤ most)
within_takes most w n e =
    let b = bind_some (numeral_in w) (λ n. cond (leb n most) (Some n) None) n e in
    let c = cond_some (leb b.0 most) b.0 n b.2 in
    (numeral_takes w b.0 b.1 ∙ ap decimal c.1, omega (arith, leb-true _ _ c.0, c.1))

pub number_again : (n : ℕ) → n ≤ MOST_PERSONS → number_in (decimal n) ≡ Some n
number_again n h = within_again MOST_PERSONS n h (omega arith)

pub price_again : (n : ℕ) → n ≤ last_price → price_in (decimal n) ≡ Some (pos n)
price_again n h = rw (within_again last_price n h (omega arith)) refl

pub price_takes : (w : List ℕ) (p : ℤ) → price_in w ≡ Some p → (n : ℕ) × (p ≡ pos n) × (w ≡ decimal n) × (n ≤ last_price)
price_takes w p e =
    let b = bind_some (numeral_within last_price w) (λ n. Some (pos n)) p e in
    let t = within_takes last_price w b.0 b.1 in
    (b.0, cc, t.0, t.1)

not_minus : (d : ℕ) → 32 < d → digit_value d < 10 → eqb d 45 ≡ false
not_minus d h k = let r = digit_from_value d k in ne_eqb d 45 (λ e. omega (arith, r))

cost_digits : (ds : List ℕ) (n : ℕ) → IsNumeral 10 ds → numeral_within widest_cost ds ≡ Some n → cost_in ds ≡ Some (pos n)
cost_digits [] n d e = absurd (omega (arith, d.0))
cost_digits (d ∷ ds) n h e = let no : eqb d 45 ≡ false = not_minus d (word_of_digits (d ∷ ds) h.1).0 h.1.0 in rw (no, e) refl

pub cost_again : (c : ℤ) → nat_abs c ≤ widest_cost → cost_in (signed_decimal c) ≡ Some c
cost_again (pos n) h = cost_digits (decimal n) n (decimal_is_IsNumeral_wide n (omega arith)).0 (within_again widest_cost n h (omega arith))
cost_again (negsuc n) h = let no : eqb (suc n) 0 ≡ false = ne_eqb (suc n) 0 (λ e. omega (arith, e)) in
    rw (within_again widest_cost (suc n) h (omega arith), no) refl

negated_takes : (o : Option ℕ) (c : ℤ) → negated o ≡ Some c → (n : ℕ) × (o ≡ Some (suc n)) × (c ≡ negsuc n)
negated_takes None c e = absurd cc
negated_takes (Some zero) c e = absurd cc
negated_takes (Some (suc n)) c e = let no : eqb (suc n) 0 ≡ false = ne_eqb (suc n) 0 (λ e. omega (arith, e)) in let f = rw no at e in (n, refl, cc)

cost_tested : (t : Bool) (b : ℕ) (bs : List ℕ) (c : ℤ) → eqb b 45 ≡ t →
    cond t (negated (numeral_within widest_cost bs)) (numeral_within widest_cost (b ∷ bs) >>= λ n. Some (pos n))
    ≡ Some c
    → (b ∷ bs ≡ signed_decimal c) × (nat_abs c ≤ widest_cost)
cost_tested true b bs c t e =
    let n = negated_takes (numeral_within widest_cost bs) c e in
    let w = within_takes widest_cost bs (suc n.0) n.1 in
    rw n.2 (ap (λ x. x ∷ bs) (eqb-true b 45 t) ∙ ap (λ x. 45 ∷ x) w.0, w.1)
cost_tested false b bs c t e =
    let n = bind_some (numeral_within widest_cost (b ∷ bs)) (λ n. Some (pos n)) c e in
    let w = within_takes widest_cost (b ∷ bs) n.0 n.1 in
    let is : c ≡ pos n.0 = cc in
    rw is w

pub cost_takes : (w : List ℕ) (c : ℤ) → cost_in w ≡ Some c → (w ≡ signed_decimal c) × (nat_abs c ≤ widest_cost)
cost_takes [] c e = absurd cc
cost_takes (b ∷ bs) c e = cost_tested (eqb b 45) b bs c refl e

-- the value of a short word fits
pub digits_fit : (v i : ℕ) → v + 23 ≤ 23 * 10 ^ i → i < MOST_DIGITS → v * 10 + 207 < 2 ^ 128
digits_fit v i h lt = let p : 10 ^ i ≤ 10 ^ 21 = pow-le-pow_right {n = 10} (omega arith) {i = i} {j = 21} (omega arith) in omega (arith, p)
