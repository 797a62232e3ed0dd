-- What a list with one more element in front contains.
use Rattle.std.proofs.Common.{zero, suc, ◌≡◌, ◌⊎◌, List, ◌∷◌, refl, arith, inl, inr}
use Rattle.std.specs.List.{Contains}

pub contains_first : {A : Type 0} (x : A) (xs : List A) → Contains (x ∷ xs) x
contains_first x xs = (0, omega arith, refl)

pub contains_later : {A : Type 0} (x : A) (xs : List A) (y : A) → Contains xs y → Contains (x ∷ xs) y
contains_later x xs y (k, lt, e) = (suc k, omega arith, e)

pub first_or_later : {A : Type 0} (x : A) (xs : List A) (y : A) → Contains (x ∷ xs) y → (x ≡ y) ⊎ Contains xs y
first_or_later x xs y (zero, lt, e) = inl e
first_or_later x xs y (suc k, lt, e) = inr (k, omega arith, e)
