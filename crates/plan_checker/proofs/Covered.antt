-- Sums over two lists of different numbers.
use Rattle.std.proofs.Common.{◌≡◌, ℕ, ℤ, pos, ◌+ℤ◌, ◌≤ℤ◌, List, [], ◌∷◌, nat_eq, cond, false, ◌⊎◌, inl, inr, refl, arith, ap, sym, subst}
use Rattle.std.specs.List.{AllByRecursion, Contains, IsDistinct}
use Rattle.std.proofs.lemmas.Int.{ints}
use Rattle.std.proofs.lemmas.Bool.{cond-true, cond-false, eqb-false}
use Rattle.std.proofs.lemmas.Bool.Decides.{eqb_tells}
use Rattle.std.proofs.lemmas.Map.Keys.{IsDistinct-head, IsDistinct-tail}
use Rattle.assign_core.specs.Numbered.{IsNumber}
use Rattle.assign_core.proofs.Distinct.{InRange, sum_z}
use Rattle.assign_core.proofs.Members.{contains_first, contains_later, first_or_later}

-- f with 0 at x
abbrev pub but : (ℕ → ℤ) → ℕ → ℕ → ℤ
but f x j = cond (nat_eq j x) (pos 0) (f j)

but_there : (f : ℕ → ℤ) (x j : ℕ) → j ≡ x → but f x j ≡ pos 0
but_there f x j e = elim (eqb_tells j x) [ inl t ↦ cond-true (nat_eq j x) (pos 0) (f j) t.0 | inr t ↦ absurd (t.1 e) ]

but_other : (f : ℕ → ℤ) (x j : ℕ) → (j ≡ x → ⊥) → but f x j ≡ f j
but_other f x j e = elim (eqb_tells j x) [ inl t ↦ absurd (e t.1) | inr t ↦ cond-false (nat_eq j x) (pos 0) (f j) t.0 ]

pub but_least : (f : ℕ → ℤ) (x j : ℕ) → pos 0 ≤ℤ f j → (pos 0 ≤ℤ but f x j) × (but f x j ≤ℤ f j)
but_least f x j low = elim (eqb_tells j x) [
  | inl t ↦ let e = but_there f x j t.1 in (omega (arith, ints), omega (arith, ints))
  | inr t ↦ let e = but_other f x j t.1 in (omega (arith, ints), omega (arith, ints))
]

-- a list without x, by the numbers that it has
abbrev pub IsWithout : ℕ → List ℕ → Type 0
IsWithout x xs = AllByRecursion (λ z. nat_eq x z ≡ false) xs

pub held : (x : ℕ) (xs : List ℕ) → Contains xs x ⊎ IsWithout x xs
held x [] = inr tt
held x (z ∷ xs) = elim (eqb_tells x z) [
  | inl t ↦ inl (subst (Contains (z ∷ xs)) (sym t.1) (contains_first z xs))
  | inr t ↦ elim (held x xs) [ inl c ↦ inl (contains_later z xs x c) | inr others ↦ inr (t.0, others) ]
]

pub number_held : (m x : ℕ) (xs : List ℕ) → InRange m xs → Contains xs x → IsNumber m x
number_held m x [] inside c = absurd (omega (arith, c.1))
number_held m x (z ∷ xs) inside c = elim (first_or_later z xs x c) [
  | inl e ↦ subst (IsNumber m) e inside.0
  | inr later ↦ number_held m x xs inside.1 later
]

-- a sum over a list without x
pub absent : (f : ℕ → ℤ) (x : ℕ) (xs : List ℕ) → IsWithout x xs → sum_z (but f x) xs ≡ sum_z f xs
absent f x [] h = refl
absent f x (z ∷ xs) h =
    let i = absent f x xs h.1 in
    let other = but_other f x z (λ e. eqb-false x z h.0 (sym e)) in
    omega (arith, ints)

-- and over one of different numbers that has it
pub taken : (f : ℕ → ℤ) (x : ℕ) (xs : List ℕ) → IsDistinct nat_eq xs → Contains xs x → sum_z f xs ≡ f x +ℤ sum_z (but f x) xs
taken f x [] apart c = absurd (omega (arith, c.1))
taken f x (z ∷ xs) apart c = elim (eqb_tells z x) [
  | inl t ↦
      let here = but_there f x z t.1 in
      let same = ap f t.1 in
      let rest = absent f x xs (subst (λ k. IsWithout k xs) t.1 (IsDistinct-head nat_eq z xs apart)) in
      omega (arith, ints)
  | inr t ↦ elim (first_or_later z xs x c) [
    | inl e ↦ absurd (t.1 e)
    | inr later ↦
        let i = taken f x xs (IsDistinct-tail nat_eq z xs apart) later in
        let h = but_other f x z t.1 in
        omega (arith, ints)
  ]
]

none_less : (f : ℕ → ℤ) (xs : List ℕ) → ((j : ℕ) → Contains xs j → pos 0 ≤ℤ f j) → pos 0 ≤ℤ sum_z f xs
none_less f [] p = omega (arith, ints)
none_less f (z ∷ xs) p =
    let i = none_less f xs (λ j c. p j (contains_later z xs j c)) in
    let a = p z (contains_first z xs) in
    omega (arith, ints)

-- a sum doesn't rise where the numbers that leave a list have no value below 0, and those that come have 0
pub covered : (f : ℕ → ℤ) (m : ℕ) (xs ys : List ℕ) → IsDistinct nat_eq xs → IsDistinct nat_eq ys → InRange m ys →
    ((j : ℕ) → Contains xs j → Contains ys j ⊎ (pos 0 ≤ℤ f j)) → ((j : ℕ) → IsNumber m j → Contains xs j ⊎ (f j ≡ pos 0)) →
    sum_z f ys ≤ℤ sum_z f xs
covered f m xs [] own apart inside leave come =
    none_less f xs (λ j c. elim (leave j c) [ inl d ↦ absurd (omega (arith, d.1)) | inr low ↦ low ])
covered f m xs (y ∷ ys) own apart inside leave come =
    let i = covered (but f y) m xs ys own (IsDistinct-tail nat_eq y ys apart) inside.1
    (λ j c. elim (eqb_tells j y) [
      | inl t ↦ let e = but_there f y j t.1 in inr (omega (arith, ints))
      | inr t ↦ elim (leave j c) [
        | inl d ↦ elim (first_or_later y ys j d) [ inl e ↦ absurd (t.1 (sym e)) | inr later ↦ inl later ]
        | inr low ↦ let e = but_other f y j t.1 in inr (omega (arith, ints))
      ]
    ])
    (λ j number. elim (eqb_tells j y) [
      | inl t ↦ inr (but_there f y j t.1)
      | inr t ↦ elim (come j number) [ inl c ↦ inl c | inr e ↦ let other = but_other f y j t.1 in inr (omega (arith, ints)) ]
    ]) in
    let rest = absent f y ys (IsDistinct-head nat_eq y ys apart) in
    elim (held y xs) [
      | inl c ↦ let t = taken f y xs own c in omega (arith, ints)
      | inr none ↦
          let same = absent f y xs none in
          elim (come y inside.0) [ inl c ↦ let t = taken f y xs own c in omega (arith, ints) | inr e ↦ omega (arith, ints) ]
    ]
