-- The numbers of persons and objects of any width, as a loop reads them.
use Rattle.std.proofs.Common.{◌≡◌, ℕ, ◌<◌, List, length, get_or, sym, ap, subst, arith, ◌∙◌}
use Rattle.std.specs.List.{All}
use Rattle.assign_core.specs.Numbered.{IsNumber}

module _ {A : Type 0} (number_of : A → ℕ) (numbers_of : List A → List ℕ) (as_many : (xs : List A) → length (numbers_of xs) ≡ length xs)
    (in_order : (xs : List A) (k : ℕ) (x : A) → get_or (numbers_of xs) k (number_of x) ≡ number_of (get_or xs k x)) where
  -- the number of the element that was read
  pub given_at : (xs : List A) (i : ℕ) (x : A) → x ≡ get_or xs i x → number_of x ≡ get_or (numbers_of xs) i (number_of x)
  given_at xs i x is = ap number_of is ∙ sym (in_order xs i x)

  pub given_inside : (xs : List A) (i : ℕ) → i < length xs → i < length (numbers_of xs)
  given_inside xs i lt = let same = as_many xs in omega arith

  -- is one of m
  pub given_number : (xs : List A) (n m i : ℕ) (x : A) → All (IsNumber n) (numbers_of xs) → m ≡ n → i < length xs → x ≡ get_or xs i x → IsNumber m (number_of x)
  given_number xs n m i x h e lt is =
      subst (λ k. IsNumber k (number_of x)) (sym e) (subst (IsNumber n) (sym (given_at xs i x is)) (h i (number_of x) (given_inside xs i lt)))
