-- The element at a number's place.
use Rattle.std.proofs.Common.{sym, subst, ap, ◌∙◌, ◌≡◌, ℕ, ◌<◌, ◌-◌, List, length, get_or}
use Rattle.std.specs.List.{All}
use Rattle.assign_core.specs.Numbered.{IsNumber, numbered}
use Rattle.assign_core.proofs.NumberedLemmas.{numbered-index}

pub at_place : {A : Type 0} (xs : List A) (x k : ℕ) (d : A) → IsNumber (length xs) x → k ≡ x - 1 → get_or xs k d ≡ numbered xs x d
at_place xs x k d h e = ap (λ m. get_or xs m d) e ∙ sym (numbered-index xs x d d h.first h.last)

-- an element of a list of numbers, as it was read
pub number_read : (xs : List ℕ) (n m i x : ℕ) → All (IsNumber n) xs → m ≡ n → i < length xs → x ≡ get_or xs i x → IsNumber m x
number_read xs n m i x h e lt is = subst (λ k. IsNumber k x) (sym e) (subst (IsNumber n) (sym is) (h i x lt))
