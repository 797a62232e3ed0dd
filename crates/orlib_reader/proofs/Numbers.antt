-- A token that is read byte by byte is the number of its bytes.
use Rattle.std.proofs.Common.{◌≡◌, ℕ, zero, suc, ◌+◌, ◌-◌, ◌*◌, ◌≤◌, ◌<◌, List, [], ◌∷◌, ◌++◌, Option, Some, None}
use Rattle.std.proofs.Common.{Bool, true, false, cond, refl, inl, inr, arith, length, length-append, sym, ap, ◌∙◌}
use Rattle.std.proofs.Common.{nat_abs, nat_le, nat_eq, option_map}
use Rattle.std.proofs.lemmas.Bool.{cases_Bool, cond-true, cond-false, lt-leb, le-ltb, leb-true, leb-false, ne_eqb, and_right, and_parts, or_from}
use Rattle.assign_core.specs.declared.numbers.TheConstants.{MOST_PERSONS, GREATEST_COST}
use Rattle.orlib_reader.specs.declared.token.TheConstants.{VALUE_LIMIT}
use Rattle.orlib_reader.specs.Numbers.{is_digit, is_sign, is_negative, unsigned, digits_from, digits_value, signed}
use Rattle.orlib_reader.specs.Numbers.{number_of, is_among, is_cost, in_range, judged_number}
use Rattle.orlib_reader.specs.inside.Steps.{saturated, begun, continued, token_number}
use Rattle.orlib_reader.specs.Wanted.{Wanted}
use Rattle.orlib_reader.specs.Wanted as wanted
use Rattle.orlib_reader.specs.declared.token.OpenToken.{OpenToken}

abbrev pub is_some_list : List ℕ → Bool
is_some_list [] = false
is_some_list (b ∷ bytes) = true

-- the state that is kept of a token's bytes
pub record IsRead (bytes : List ℕ) (p : OpenToken) : Type 0 where
  pub begun : 0 < length bytes
  pub negative : p.is_negative ≡ is_negative bytes
  pub value : option_map saturated (digits_from 0 (unsigned bytes)) ≡ cond p.is_bad None (Some p.value)
  pub digits : p.is_bad ≡ false → p.has_digits ≡ is_some_list (unsigned bytes)

saturated_small : (v : ℕ) → v ≤ VALUE_LIMIT → saturated v ≡ v
saturated_small v h = omega arith

saturated_great : (v : ℕ) → VALUE_LIMIT ≤ v → saturated v ≡ VALUE_LIMIT
saturated_great v h = omega arith

saturated_on : (v d : ℕ) → saturated (v * 10 + d) ≡ saturated (saturated v * 10 + d)
saturated_on v d = omega arith

digit_bounds : (b : ℕ) → is_digit b ≡ true → (48 ≤ b) × (b ≤ 57)
digit_bounds b d = let parts = and_parts (nat_le 48 b) (nat_le b 57) d in (leb-true 48 b parts.0, leb-true b 57 parts.1)

digit_no_sign : (b : ℕ) → is_digit b ≡ true → (is_sign b ≡ false) × (nat_eq b 45 ≡ false)
digit_no_sign b d = let low = digit_bounds b d in let m = ne_eqb b 45 (omega arith) in (or_from (nat_eq b 43) (nat_eq b 45) (ne_eqb b 43 (omega arith)) m, m)

-- one more byte after a token's first
unsigned_more : (bytes : List ℕ) (b : ℕ) → 0 < length bytes → unsigned (bytes ++ b ∷ []) ≡ unsigned bytes ++ b ∷ []
unsigned_more [] b h = absurd (omega arith)
unsigned_more (c ∷ bytes) b h = elim (cases_Bool (is_sign c)) [ inl s ↦ simp s refl | inr s ↦ simp s refl ]

negative_more : (bytes : List ℕ) (b : ℕ) → 0 < length bytes → is_negative (bytes ++ b ∷ []) ≡ is_negative bytes
negative_more [] b h = absurd (omega arith)
negative_more (c ∷ bytes) b h = refl

some_more : (bytes : List ℕ) (b : ℕ) → is_some_list (bytes ++ b ∷ []) ≡ true
some_more [] b = refl
some_more (c ∷ bytes) b = refl

abbrev then_digit : Option ℕ → ℕ → Option ℕ
then_digit None b = None
then_digit (Some v) b = digits_from v (b ∷ [])

digits_more : (v : ℕ) (bytes : List ℕ) (b : ℕ) → digits_from v (bytes ++ b ∷ []) ≡ then_digit (digits_from v bytes) b
digits_more v [] b = refl
digits_more v (c ∷ bytes) b = elim (cases_Bool (is_digit c)) [ inl d ↦ simp d (digits_more (v * 10 + (c - 48)) bytes b) | inr d ↦ simp d refl ]

pub read_begun : (at b : ℕ) → IsRead (b ∷ []) (begun at b)
read_begun at b = elim (cases_Bool (is_digit b)) [
  | inl d ↦ let no = digit_no_sign b d in let low = digit_bounds b d in
      let s = no.0 in let m = no.1 in
      simp d record { begun = omega arith; negative = sym m; value = simp (s, d) (ap Some (omega arith)); digits = λ _. simp s refl }
  | inr d ↦ elim (cases_Bool (is_sign b)) [
    | inl s ↦ simp (d, s) record { begun = omega arith; negative = refl; value = simp s refl; digits = λ _. simp s refl }
    | inr s ↦ simp (d, s) record { begun = omega arith; negative = refl; value = simp (s, d) refl; digits = λ e. absurd cc }
  ]
]

-- the value of digits with one more byte, saturated
digit_next : (o : Option ℕ) (p : OpenToken) (b : ℕ) → is_digit b ≡ true → option_map saturated o ≡ cond p.is_bad None (Some p.value) →
    option_map saturated (then_digit o b) ≡ cond p.is_bad None (Some (saturated (p.value * 10 + (b - 48))))
digit_next None p b d h = elim (cases_Bool p.is_bad) [
  | inl t ↦ simp t refl
  | inr f ↦ absurd (let e : None ≡ Some p.value = h ∙ cond-false p.is_bad None (Some p.value) f in cc)
]
digit_next (Some v) p b d h = elim (cases_Bool p.is_bad) [
  | inl t ↦ absurd (let e : Some (saturated v) ≡ None = h ∙ cond-true p.is_bad None (Some p.value) t in cc)
  | inr f ↦ let e : Some (saturated v) ≡ Some p.value = h ∙ cond-false p.is_bad None (Some p.value) f in
      let same : saturated v ≡ p.value = cc in
      simp (d, f) (ap Some (saturated_on v (b - 48) ∙ ap (λ m. saturated (m * 10 + (b - 48))) same))
]

bad_next : (o : Option ℕ) (b : ℕ) → is_digit b ≡ false → then_digit o b ≡ None
bad_next None b d = refl
bad_next (Some v) b d = simp d refl

pub read_on : (bytes : List ℕ) (p : OpenToken) (b : ℕ) → IsRead bytes p → IsRead (bytes ++ b ∷ []) (continued p b)
read_on bytes p b h = elim (cases_Bool (is_digit b)) [
  | inl d ↦ simp d record {
    begun = rw length-append (omega arith);
    negative = h.negative ∙ sym (negative_more bytes b h.begun);
    value = ap (λ bs. option_map saturated (digits_from 0 bs)) (unsigned_more bytes b h.begun) ∙ ap (option_map saturated) (digits_more 0 (unsigned bytes) b)
        ∙ digit_next (digits_from 0 (unsigned bytes)) p b d h.value;
    digits = λ _. sym (ap is_some_list (unsigned_more bytes b h.begun) ∙ some_more (unsigned bytes) b);
  }
  | inr d ↦ simp d record {
    begun = rw length-append (omega arith);
    negative = h.negative ∙ sym (negative_more bytes b h.begun);
    value = ap (λ bs. option_map saturated (digits_from 0 bs)) (unsigned_more bytes b h.begun) ∙
        ap (option_map saturated) (digits_more 0 (unsigned bytes) b ∙ bad_next (digits_from 0 (unsigned bytes)) b d);
    digits = λ e. absurd cc;
  }
]

-- no index may be as great as a saturated value
abbrev pub IsBounded : Wanted → Type 0
IsBounded (wanted.Index n) = n ≤ MOST_PERSONS
IsBounded w = Unit {0}

among_great : (n : ℕ) (negative : Bool) (v : ℕ) → n ≤ MOST_PERSONS → VALUE_LIMIT ≤ v → is_among n (signed negative v) ≡ false
among_great n true zero few h = absurd (omega arith)
among_great n true (suc v) few h = refl
among_great n false v few h = and_right (nat_le 1 v) (nat_le v n) (lt-leb v n (omega arith))

cost_great : (negative : Bool) (v : ℕ) → VALUE_LIMIT ≤ v → is_cost (signed negative v) ≡ false
cost_great true zero h = absurd (omega arith)
cost_great true (suc v) h = le-ltb v (nat_abs GREATEST_COST) (omega arith)
cost_great false v h = lt-leb v (nat_abs GREATEST_COST) (omega arith)

range_great : (w : Wanted) (place : ℕ) (negative : Bool) (v : ℕ) → IsBounded w → VALUE_LIMIT ≤ v →
    in_range w place (signed negative v) ≡ in_range w place (signed negative (VALUE_LIMIT))
range_great wanted.Size place negative v bound h = simp (
  among_great MOST_PERSONS negative v (omega arith) h,
  among_great MOST_PERSONS negative (VALUE_LIMIT) (omega arith) (omega arith),
) refl
range_great wanted.Cost place negative v bound h = simp (cost_great negative v h, cost_great negative (VALUE_LIMIT) (omega arith)) refl
range_great (wanted.Index n) place negative v bound h = simp (among_great n negative v bound h, among_great n negative (VALUE_LIMIT) bound (omega arith)) refl
range_great wanted.Nothing place negative v bound h = refl

-- a saturated value is out of range if the value is
range_saturated : (w : Wanted) (place : ℕ) (negative : Bool) (v : ℕ) → IsBounded w →
    in_range w place (signed negative (saturated v)) ≡ in_range w place (signed negative v)
range_saturated w place negative v bound = elim (cases_Bool (nat_le (VALUE_LIMIT) v)) [
  | inl g ↦ let great : VALUE_LIMIT ≤ v = leb-true (VALUE_LIMIT) v g in
      ap (λ k. in_range w place (signed negative k)) (saturated_great v great) ∙ sym (range_great w place negative v bound great)
  | inr s ↦ ap (λ k. in_range w place (signed negative k)) (saturated_small v (let low = leb-false (VALUE_LIMIT) v s in omega arith))
]

value_or : (bytes : List ℕ) → (is_some_list bytes ≡ true) → digits_value bytes ≡ digits_from 0 bytes
value_or [] h = absurd cc
value_or (b ∷ bytes) h = refl

value_none : (bytes : List ℕ) → digits_from 0 bytes ≡ None → digits_value bytes ≡ None
value_none [] h = refl
value_none (b ∷ bytes) h = h

value_empty : (bytes : List ℕ) → is_some_list bytes ≡ false → digits_value bytes ≡ None
value_empty [] h = refl
value_empty (b ∷ bytes) h = absurd cc

no_value : (o : Option ℕ) → option_map saturated o ≡ None → o ≡ None
no_value None h = refl
no_value (Some v) h = absurd cc

some_value : (o : Option ℕ) (k : ℕ) → option_map saturated o ≡ Some k → (v : ℕ) × (o ≡ Some v) × (k ≡ saturated v)
some_value None k h = absurd cc
some_value (Some v) k h = (v, refl, cc)

-- the kept state of a token is judged like the token
pub judged_same : (w : Wanted) (place : ℕ) (bytes : List ℕ) (p : OpenToken) → IsBounded w → IsRead bytes p →
    judged_number w place (token_number p) ≡ judged_number w place (number_of bytes)
judged_same w place bytes p bound h = elim (cases_Bool p.is_bad) [
  | inl t ↦
      let none = value_none (unsigned bytes) (no_value (digits_from 0 (unsigned bytes)) (h.value ∙ cond-true p.is_bad None (Some p.value) t)) in
      simp (t, none) refl
  | inr f ↦ elim (cases_Bool p.has_digits) [
    | inl some ↦
        let read = some_value (digits_from 0 (unsigned bytes)) p.value (h.value ∙ cond-false p.is_bad None (Some p.value) f) in
        let is = value_or (unsigned bytes) (sym (h.digits f) ∙ some) ∙ read.1 in
        let value = read.2 in
        let negative = h.negative in
        simp (f, some, is, value, negative) (range_saturated w place (is_negative bytes) read.0 bound)
    | inr none ↦
        let is = value_empty (unsigned bytes) (sym (h.digits f) ∙ none) in
        simp (f, none, is) refl
  ]
]
