-- The lists of rows that a caller gives.
use Rattle.std.specs.Prelude.{◌≡◌, ℕ, zero, suc, ◌+◌, ◌-◌, ◌<◌, ◌==◌, nat_le, nat_lt, ℤ, pos, negsuc, ◌^◌, List, []}
use Rattle.std.specs.Prelude.{◌∷◌, ◌++◌, Bool, true, false, ◌&&◌, ◌||◌, Option, None, Some, if◌then◌else◌, length}
use Rattle.std.specs.Prelude.{slice_index_or}
use Rattle.std.specs.Ordering.{int_eq}
use Rattle.row_checker.specs.declared.row.Multiple.{Multiple}

-- the number at a place of a list; 0 where there is none
abbrev pub natural_at : List ℕ → ℕ → ℕ
natural_at numbers k = slice_index_or numbers k 0

abbrev pub variable_at : List ℕ → ℕ → ℕ
variable_at variables k = slice_index_or variables k 0

abbrev pub whole_at : List ℤ → ℕ → ℤ
whole_at numbers k = slice_index_or numbers k (pos 0)

-- a lower bound; the least i64 is none
abbrev pub bound_below : ℤ → Option ℤ
bound_below z = if int_eq z (negsuc (2 ^ 63 - 1)) then None else Some z

-- an upper bound; the greatest i64 is none
abbrev pub bound_above : ℤ → Option ℤ
bound_above z = if int_eq z (pos (2 ^ 63 - 1)) then None else Some z

-- the starts never fall, from 0 to the number of terms
abbrev pub is_start : List ℕ → ℕ → ℕ → Bool
is_start starts terms k =
    nat_le (if k == 0 then 0 else natural_at starts (k - 1)) (natural_at starts k)
    && (nat_lt 0 k || (natural_at starts k == 0))
    && (nat_lt k (length starts - 1) || (natural_at starts k == terms))

-- a variable below n
abbrev pub is_named : List ℕ → ℕ → ℕ → Bool
is_named variables n k = nat_lt (variable_at variables k) n

-- the first place below n that lacks a property; none if each has it
abbrev pub IsFirstWrong : (ℕ → Bool) → ℕ → Option ℕ → Type 0
IsFirstWrong is_right n None = (k : ℕ) → k < n → is_right k ≡ true
IsFirstWrong is_right n (Some k) = (k < n) × (is_right k ≡ false) × ((i : ℕ) → i < k → is_right i ≡ true)

-- the terms from a place on
abbrev pub terms_from : List ℕ → List ℤ → ℕ → ℕ → List Multiple
terms_from variables coefficients from zero = []
terms_from variables coefficients from (suc k) =
    terms_from variables coefficients from k
    ++ record { of = variable_at variables (from + k); times = whole_at coefficients (from + k) } ∷ []
