-- Lists whose elements are numbered from 1: what is read after a write, and where.
use Rattle.std.proofs.Common.{◌≡◌, ◌≢◌, ℕ, zero, suc, ◌+◌, ◌-◌, ◌<◌, ◌≤◌, List, length, replicate, get_or, set}
use Rattle.std.proofs.Common.{Option, None, Some, Bool, cond, refl, ap, arith, sym, ◌∙◌, inl, inr, ◌⊎◌, add-one}
use Rattle.std.specs.List.{All, count_by}
use Rattle.std.proofs.lemmas.Bool.{cases_lt}
use Rattle.std.proofs.lemmas.List.{length-set, get_or-set_same, get_or-set_other, get_or_past, get_or_default}
use Rattle.std.proofs.lemmas.List.Elements.{All-from_get_or}
use Rattle.std.proofs.lemmas.List.Sums.{sum_by-set}
use Rattle.assign_core.specs.Numbered.{IsNumber, numbered, renumbered}

pub numbered-same : {A : Type 0} (xs : List A) (j : ℕ) (y d : A) → 0 < j → j ≤ length xs → numbered (renumbered xs j y) j d ≡ y
numbered-same xs zero y d h k = absurd (omega arith)
numbered-same xs (suc j) y d h k = get_or-set_same xs j y d (omega arith)

pub numbered-other : {A : Type 0} (xs : List A) (j k : ℕ) (y d : A) → k ≢ j → numbered (renumbered xs j y) k d ≡ numbered xs k d
numbered-other xs zero k y d h = refl
numbered-other xs (suc j) zero y d h = refl
numbered-other xs (suc j) (suc k) y d h = get_or-set_other xs j k y d (λ e. h (ap suc e))

pub length-renumbered : {A : Type 0} (xs : List A) (j : ℕ) (y : A) → length (renumbered xs j y) ≡ length xs
length-renumbered xs zero y = refl
length-renumbered xs (suc j) y = length-set xs j y

pub count-renumbered : {A : Type 0} (p : A → Bool) (xs : List A) (j : ℕ) (y d : A) → 0 < j → j ≤ length xs →
    count_by p (renumbered xs j y) + cond (p (numbered xs j d)) 1 0 ≡ count_by p xs + cond (p y) 1 0
count-renumbered p xs zero y d h k = absurd (omega arith)
count-renumbered p xs (suc j) y d h k = sum_by-set (λ x. cond (p x) 1 0) xs j y d (omega arith)

pub numbered-past : {A : Type 0} (xs : List A) (j : ℕ) (d : A) → length xs < j → numbered xs j d ≡ d
numbered-past xs zero d h = refl
numbered-past xs (suc j) d h = get_or_past xs j d (omega arith)

-- each number gives the same element in a list of equal elements
pub numbered-replicate : {A : Type 0} (n j : ℕ) (x : A) → numbered (replicate n x) j x ≡ x
numbered-replicate n zero x = refl
numbered-replicate zero (suc k) x = refl
numbered-replicate (suc n) (suc zero) x = refl
numbered-replicate (suc n) (suc (suc k)) x = numbered-replicate n (suc k) x

-- a number from 1 to n is a number from 1 to m, if n is at most m
pub number_within : (n m j : ℕ) → n ≤ m → IsNumber n j → IsNumber m j
number_within n m j le h = record { first = h.first; last = omega (arith, le, h.last) }

-- a number at which something stands is in range
pub numbered_in : {A : Type 0} (xs : List (Option A)) (j : ℕ) (x : A) → numbered xs j None ≡ Some x → (0 < j) × (j ≤ length xs)
numbered_in xs zero x e = absurd cc
numbered_in xs (suc k) x e = elim (cases_lt (length xs) (suc k)) [
  | inl l ↦ let n : numbered xs (suc k) None ≡ None = numbered-past xs (suc k) None l in absurd cc
  | inr l ↦ (omega arith, l)
]

-- what a read of place j - 1 gives
pub numbered_read : {A : Type 0} (xs : List A) (j : ℕ) (x d : A) → 0 < j → j ≤ length xs → x ≡ get_or xs (j - 1) x → x ≡ numbered xs j d
numbered_read xs zero x d h l e = absurd (omega arith)
numbered_read xs (suc k) x d h l e =
    let i : suc k - 1 ≡ k = omega arith in
    e ∙ ap (λ m. get_or xs m x) i ∙ get_or_default xs k x d (omega arith)

-- a write at place j - 1
pub renumber-set : {A : Type 0} (xs : List A) (j : ℕ) (y : A) → 0 < j → renumbered xs j y ≡ set xs (j - 1) y
renumber-set xs zero y h = absurd (omega arith)
renumber-set xs (suc k) y h = let i : suc k - 1 ≡ k = omega arith in ap (λ m. set xs m y) (sym i)

-- the element after place i
pub numbered-next : {A : Type 0} (xs : List A) (i : ℕ) (d : A) → numbered xs (i + 1) d ≡ get_or xs i d
numbered-next xs i d = rw add-one refl

-- element number j stands at place j - 1
pub numbered-index : {A : Type 0} (xs : List A) (j : ℕ) (d e : A) → 0 < j → j ≤ length xs → numbered xs j e ≡ get_or xs (j - 1) d
numbered-index xs zero d e some last = absurd (omega arith)
numbered-index xs (suc k) d e some last =
    let back : k ≡ suc k - 1 = omega arith in
    get_or_default xs k e d (omega arith) ∙ ap (λ i. get_or xs i d) back

-- what holds of all elements holds of each number, and the other way
pub All-numbered : {A : Type 0} (P : A → Type 0) (xs : List A) (j : ℕ) (d : A) → All P xs → 0 < j → j ≤ length xs → P (numbered xs j d)
All-numbered P xs zero d h some last = absurd (omega arith)
All-numbered P xs (suc k) d h some last = let lt : k < length xs = omega arith in h k d lt

pub All-from_numbers : {A : Type 0} (P : A → Type 0) (xs : List A) (d : A) → ((j : ℕ) → 0 < j → j ≤ length xs → P (numbered xs j d)) → All P xs
All-from_numbers P xs d h = All-from_get_or P xs d (λ k lt. h (suc k) (omega arith) (omega arith))

-- a number below the next one is less, or that one
pub low_or_same : (k i : ℕ) → k < i + 1 → (k < i) ⊎ (k ≡ i)
low_or_same k i below = elim (cases_lt k i) [ inl less ↦ inl less | inr most ↦ inr (omega arith) ]
