-- Lists of different numbers from 1 to m, and sums over them.
use Rattle.std.proofs.Common.{◌≡◌, ℕ, ℤ, pos, ◌+ℤ◌, ◌≤ℤ◌, ◌≤◌, ◌+◌, zero, suc, List, [], ◌∷◌, length, nat_eq, cond}
use Rattle.std.proofs.Common.{true, false, ◌⊎◌, inl, inr, refl, arith, ap, sym, ◌∙◌}
use Rattle.std.specs.List.{IsDistinct, AllByRecursion}
use Rattle.std.proofs.lemmas.Bool.{eqb-false, cond-true, cond-false}
use Rattle.std.proofs.lemmas.Bool.Decides.{eqb_tells}
use Rattle.std.proofs.lemmas.Map.Keys.{IsDistinct-head, IsDistinct-tail, IsDistinct-cons}
use Rattle.std.proofs.lemmas.Int.{ints}
use Rattle.assign_core.specs.Numbered.{IsNumber}

abbrev pub sum_z : (ℕ → ℤ) → List ℕ → ℤ
sum_z f [] = pos 0
sum_z f (x ∷ xs) = f x +ℤ sum_z f xs

-- f 1 + .. + f m
abbrev pub up_to : (ℕ → ℤ) → ℕ → ℤ
up_to f zero = pos 0
up_to f (suc m) = f (suc m) +ℤ up_to f m

-- the list without the number m
abbrev pub without : ℕ → List ℕ → List ℕ
without m [] = []
without m (x ∷ xs) = cond (nat_eq x m) (without m xs) (x ∷ without m xs)

without_same : (m x : ℕ) (xs : List ℕ) → nat_eq x m ≡ true → without m (x ∷ xs) ≡ without m xs
without_same m x xs e = cond-true (nat_eq x m) (without m xs) (x ∷ without m xs) e

without_other : (m x : ℕ) (xs : List ℕ) → nat_eq x m ≡ false → without m (x ∷ xs) ≡ x ∷ without m xs
without_other m x xs e = cond-false (nat_eq x m) (without m xs) (x ∷ without m xs) e

differs_flip : (m x : ℕ) → nat_eq m x ≡ false → nat_eq x m ≡ false
differs_flip m x e = elim (eqb_tells x m) [ inl h ↦ absurd (eqb-false m x e (sym h.1)) | inr h ↦ h.0 ]

without_none : (m : ℕ) (xs : List ℕ) → AllByRecursion (λ y. nat_eq m y ≡ false) xs → without m xs ≡ xs
without_none m [] h = refl
without_none m (x ∷ xs) h = without_other m x xs (differs_flip m x h.0) ∙ ap (λ l. x ∷ l) (without_none m xs h.1)

-- the number m is in the list once or not at all
pub record IsOnce (f : ℕ → ℤ) (m : ℕ) (xs : List ℕ) : Type 0 where
  pub longer : length xs ≡ length (without m xs) + 1
  pub more : sum_z f xs ≡ f m +ℤ sum_z f (without m xs)

pub record IsNowhere (f : ℕ → ℤ) (m : ℕ) (xs : List ℕ) : Type 0 where
  pub long : length xs ≡ length (without m xs)
  pub same : sum_z f xs ≡ sum_z f (without m xs)

once_here : (f : ℕ → ℤ) (m x : ℕ) (xs : List ℕ) → x ≡ m → without m (x ∷ xs) ≡ xs → IsOnce f m (x ∷ xs)
once_here f m x xs e h = record { longer = rw h (omega arith); more = rw (h, e) refl }

once_later : (f : ℕ → ℤ) (m x : ℕ) (xs : List ℕ) → without m (x ∷ xs) ≡ x ∷ without m xs → IsOnce f m xs → IsOnce f m (x ∷ xs)
once_later f m x xs h o = record { longer = let l = o.longer in rw h (omega arith); more = let s = o.more in rw h (omega (arith, ints)) }

nowhere_later : (f : ℕ → ℤ) (m x : ℕ) (xs : List ℕ) → without m (x ∷ xs) ≡ x ∷ without m xs → IsNowhere f m xs → IsNowhere f m (x ∷ xs)
nowhere_later f m x xs h o = record { long = let l = o.long in rw h (omega arith); same = let s = o.same in rw h (omega (arith, ints)) }

once : (f : ℕ → ℤ) (m : ℕ) (xs : List ℕ) → IsDistinct nat_eq xs → IsNowhere f m xs ⊎ IsOnce f m xs
once f m [] h = inl (record { long = refl; same = refl })
once f m (x ∷ xs) h = elim (eqb_tells x m) [
  | inl e ↦ inr (once_here f m x xs e.1 (without_same m x xs e.0 ∙ rw (← e.1) (without_none x xs (IsDistinct-head nat_eq x xs h))))
  | inr e ↦ elim (once f m xs (IsDistinct-tail nat_eq x xs h)) [
    | inl o ↦ inl (nowhere_later f m x xs (without_other m x xs e.0) o)
    | inr o ↦ inr (once_later f m x xs (without_other m x xs e.0) o)
  ]
]

all_without : (P : ℕ → Type 0) (m : ℕ) (xs : List ℕ) → AllByRecursion P xs → AllByRecursion P (without m xs)
all_without P m [] h = tt
all_without P m (x ∷ xs) h = elim (eqb_tells x m) [
  | inl e ↦ rw (without_same m x xs e.0) (all_without P m xs h.1)
  | inr e ↦ rw (without_other m x xs e.0) (h.0, all_without P m xs h.1)
]

distinct_without : (m : ℕ) (xs : List ℕ) → IsDistinct nat_eq xs → IsDistinct nat_eq (without m xs)
distinct_without m [] h = h
distinct_without m (x ∷ xs) h = elim (eqb_tells x m) [
  | inl e ↦ rw (without_same m x xs e.0) (distinct_without m xs (IsDistinct-tail nat_eq x xs h))
  | inr e ↦ rw (without_other m x xs e.0)
      (IsDistinct-cons nat_eq x (without m xs) (all_without (λ y. nat_eq x y ≡ false) m xs (IsDistinct-head nat_eq x xs h))
      (distinct_without m xs (IsDistinct-tail nat_eq x xs h)))
]

abbrev pub InRange : ℕ → List ℕ → Type 0
InRange m xs = AllByRecursion (IsNumber m) xs

range_without : (m : ℕ) (xs : List ℕ) → InRange (suc m) xs → InRange m (without (suc m) xs)
range_without m [] h = tt
range_without m (x ∷ xs) h = elim (eqb_tells x (suc m)) [
  | inl e ↦ rw (without_same (suc m) x xs e.0) (range_without m xs h.1)
  | inr e ↦ rw (without_other (suc m) x xs e.0) (record { first = h.0.first; last = let a = h.0.last in let b = e.1 in omega arith }, range_without m xs h.1)
]

-- there are at most m different numbers from 1 to m; m different ones are all of them
pub record IsCounted (f : ℕ → ℤ) (m : ℕ) (xs : List ℕ) : Type 0 where
  pub few : length xs ≤ m
  pub whole : length xs ≡ m → sum_z f xs ≡ up_to f m

counted_zero : (f : ℕ → ℤ) (xs : List ℕ) → InRange 0 xs → IsCounted f 0 xs
counted_zero f [] r = record { few = omega arith; whole = λ _. refl }
counted_zero f (x ∷ xs) r = let a = r.0.first in let b = r.0.last in absurd (omega arith)

counted_none : (f : ℕ → ℤ) (m : ℕ) (xs : List ℕ) → IsNowhere f (suc m) xs → IsCounted f m (without (suc m) xs) → IsCounted f (suc m) xs
counted_none f m xs o c = record { few = let a = o.long in let b = c.few in omega arith; whole = λ e. let a = o.long in let b = c.few in absurd (omega arith) }

counted_once : (f : ℕ → ℤ) (m : ℕ) (xs : List ℕ) → IsOnce f (suc m) xs → IsCounted f m (without (suc m) xs) → IsCounted f (suc m) xs
counted_once f m xs o c = record {
  few = let a = o.longer in let b = c.few in omega arith;
  whole = λ e. let a = o.longer in let w : length (without (suc m) xs) ≡ m = omega arith in o.more ∙ ap (λ z. f (suc m) +ℤ z) (c.whole w);
}

pub counted : (f : ℕ → ℤ) (m : ℕ) (xs : List ℕ) → IsDistinct nat_eq xs → InRange m xs → IsCounted f m xs
counted f zero xs d r = counted_zero f xs r
counted f (suc m) xs d r = elim (once f (suc m) xs d) [
  | inl o ↦ counted_none f m xs o (counted f m (without (suc m) xs) (distinct_without (suc m) xs d) (range_without m xs r))
  | inr o ↦ counted_once f m xs o (counted f m (without (suc m) xs) (distinct_without (suc m) xs d) (range_without m xs r))
]

-- two lists of the same length, each of different numbers from 1 to that length, have one sum
pub sums_agree : (f : ℕ → ℤ) (n : ℕ) (xs ys : List ℕ) → IsDistinct nat_eq xs → IsDistinct nat_eq ys → InRange n xs →
    InRange n ys → length xs ≡ n → length ys ≡ n → sum_z f xs ≡ sum_z f ys
sums_agree f n xs ys dx dy rx ry lx ly =
    let a : sum_z f xs ≡ up_to f n = (counted f n xs dx rx).whole lx in
    let b : sum_z f ys ≡ up_to f n = (counted f n ys dy ry).whole ly in
    a ∙ sym b

-- if no value is below 0, the sum over some numbers is at most the sum over all
pub at_most_all : (f : ℕ → ℤ) (m : ℕ) (xs : List ℕ) → IsDistinct nat_eq xs → InRange m xs →
    ((j : ℕ) → IsNumber m j → pos 0 ≤ℤ f j) → sum_z f xs ≤ℤ up_to f m
at_most_all f zero [] d r h = omega (arith, ints)
at_most_all f zero (x ∷ xs) d r h = let a = r.0.first in let b = r.0.last in absurd (omega arith)
at_most_all f (suc m) xs d r h =
    let i = at_most_all f m (without (suc m) xs) (distinct_without (suc m) xs d) (range_without m xs r)
    (λ j n. h j (record { first = n.first; last = let a = n.last in omega arith })) in
    let top = h (suc m) (record { first = omega arith; last = omega arith }) in
    elim (once f (suc m) xs d) [
      | inl o ↦ let s = o.same in omega (arith, ints)
      | inr o ↦ let s = o.more in omega (arith, ints)
    ]
