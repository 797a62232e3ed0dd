-- A sum over two lists of different numbers, where new numbers have no value above 0.
use Rattle.std.proofs.Common.{◌≡◌, ℕ, ℤ, pos, ◌≤ℤ◌, List, [], ◌∷◌, nat_eq, ◌⊎◌, inl, inr, arith, sym}
use Rattle.std.specs.List.{Contains, IsDistinct}
use Rattle.std.proofs.lemmas.Int.{ints}
use Rattle.std.proofs.lemmas.Bool.{cond-true, cond-false, eqb-false}
use Rattle.std.proofs.lemmas.Bool.Decides.{eqb_tells}
use Rattle.std.proofs.lemmas.Map.Keys.{IsDistinct-head, IsDistinct-tail}
use Rattle.assign_core.specs.Numbered.{IsNumber}
use Rattle.assign_core.proofs.Distinct.{InRange, sum_z}
use Rattle.assign_core.proofs.Members.{contains_first, contains_later, first_or_later}
use Rattle.plan_checker.proofs.Covered.{IsWithout, absent, but, held, taken}

but_there : (f : ℕ → ℤ) (x j : ℕ) → j ≡ x → but f x j ≡ pos 0
but_there f x j e = elim (eqb_tells j x) [ inl t ↦ cond-true (nat_eq j x) (pos 0) (f j) t.0 | inr t ↦ absurd (t.1 e) ]

but_other : (f : ℕ → ℤ) (x j : ℕ) → (j ≡ x → ⊥) → but f x j ≡ f j
but_other f x j e = elim (eqb_tells j x) [ inl t ↦ absurd (e t.1) | inr t ↦ cond-false (nat_eq j x) (pos 0) (f j) t.0 ]

none_less : (f : ℕ → ℤ) (xs : List ℕ) → ((j : ℕ) → Contains xs j → pos 0 ≤ℤ f j) → pos 0 ≤ℤ sum_z f xs
none_less f [] p = omega (arith, ints)
none_less f (z ∷ xs) p =
    let i = none_less f xs (λ j c. p j (contains_later z xs j c)) in
    let a = p z (contains_first z xs) in
    omega (arith, ints)

pub without_not : (x : ℕ) (xs : List ℕ) → IsWithout x xs → Contains xs x → ⊥
without_not x [] h c = omega (arith, c.1)
without_not x (z ∷ xs) h c = elim (first_or_later z xs x c) [
  | inl e ↦ eqb-false x z h.0 (sym e)
  | inr later ↦ without_not x xs h.1 later
]

-- a sum doesn't rise where the numbers that leave a list have no value below 0, and those that come none above
pub sum_falls : (f : ℕ → ℤ) (m : ℕ) (xs ys : List ℕ) → IsDistinct nat_eq xs → IsDistinct nat_eq ys → InRange m ys →
    ((j : ℕ) → Contains xs j → Contains ys j ⊎ (pos 0 ≤ℤ f j)) → ((j : ℕ) → IsNumber m j → Contains xs j ⊎ (f j ≤ℤ pos 0)) →
    sum_z f ys ≤ℤ sum_z f xs
sum_falls f m xs [] own apart inside leave come =
    none_less f xs (λ j c. elim (leave j c) [ inl d ↦ absurd (omega (arith, d.1)) | inr low ↦ low ])
sum_falls f m xs (y ∷ ys) own apart inside leave come =
    let i = sum_falls (but f y) m xs ys own (IsDistinct-tail nat_eq y ys apart) inside.1
    (λ j c. elim (eqb_tells j y) [
      | inl t ↦ let e = but_there f y j t.1 in inr (omega (arith, ints))
      | inr t ↦ elim (leave j c) [
        | inl d ↦ elim (first_or_later y ys j d) [ inl e ↦ absurd (t.1 (sym e)) | inr later ↦ inl later ]
        | inr low ↦ let e = but_other f y j t.1 in inr (omega (arith, ints))
      ]
    ])
    (λ j number. elim (eqb_tells j y) [
      | inl t ↦ let e = but_there f y j t.1 in inr (omega (arith, ints))
      | inr t ↦ elim (come j number) [ inl c ↦ inl c | inr high ↦ let other = but_other f y j t.1 in inr (omega (arith, ints)) ]
    ]) in
    let rest = absent f y ys (IsDistinct-head nat_eq y ys apart) in
    elim (held y xs) [
      | inl c ↦ let t = taken f y xs own c in omega (arith, ints)
      | inr none ↦
          let same = absent f y xs none in
          elim (come y inside.0) [ inl c ↦ let t = taken f y xs own c in omega (arith, ints) | inr high ↦ omega (arith, ints) ]
    ]
