-- The number of a token, and the numbers that may stand at a place.
use Rattle.std.specs.Prelude.{◌≡◌, ℕ, ◌+◌, ◌-◌, ◌*◌, ℤ, pos, negsuc, neg_ℤ, List, [], ◌∷◌, Option, None, Some}
use Rattle.std.specs.Prelude.{Result, Ok, Err, nat_lt, nat_le, nat_abs, ◌==◌, ◌&&◌, ◌||◌, if◌then◌else◌, Bool}
use Rattle.std.specs.Prelude.{false, option_map}
use Rattle.assign_core.specs.declared.numbers.TheConstants.{MOST_PERSONS, GREATEST_COST}
use Rattle.orlib_reader.specs.Tokens.{Token}
use Rattle.orlib_reader.specs.declared.fault.InputFault.{InputFault}
use Rattle.orlib_reader.specs.declared.fault.InputFault.TheVariants as faults
use Rattle.orlib_reader.specs.Wanted.{Wanted}
use Rattle.orlib_reader.specs.Wanted as wanted

-- a byte from 0 to 9 in ASCII
abbrev pub is_digit : ℕ → Bool
is_digit b = nat_le 48 b && nat_le b 57

-- + or -
abbrev pub is_sign : ℕ → Bool
is_sign b = (b == 43) || (b == 45)

-- whether a token begins with -
abbrev pub is_negative : List ℕ → Bool
is_negative [] = false
is_negative (b ∷ bytes) = b == 45

-- a token without its sign, if it has one
abbrev pub unsigned : List ℕ → List ℕ
unsigned [] = []
unsigned (b ∷ bytes) = if is_sign b then bytes else b ∷ bytes

-- the value of digits that follow digits of value v, if all are digits
abbrev pub digits_from : ℕ → List ℕ → Option ℕ
digits_from v [] = Some v
digits_from v (b ∷ bytes) = if is_digit b then digits_from (v * 10 + (b - 48)) bytes else None

-- the value of one or more digits
abbrev pub digits_value : List ℕ → Option ℕ
digits_value [] = None
digits_value (b ∷ bytes) = digits_from 0 (b ∷ bytes)

-- this value, or its negation
abbrev pub signed : Bool → ℕ → ℤ
signed negative v = if negative then neg_ℤ (pos v) else pos v

-- the number of a token: an optional sign, and then one or more digits, however many
abbrev pub number_of : List ℕ → Option ℤ
number_of bytes = option_map (signed (is_negative bytes)) (digits_value (unsigned bytes))

-- from 1 to n
abbrev pub is_among : ℕ → ℤ → Bool
is_among n (pos k) = nat_le 1 k && nat_le k n
is_among n (negsuc k) = false

-- its absolute value is at most the greatest cost
abbrev pub is_cost : ℤ → Bool
is_cost (pos k) = nat_le k (nat_abs GREATEST_COST)
is_cost (negsuc k) = nat_lt k (nat_abs GREATEST_COST)

-- a number at this place, where this is expected, if it is in range
abbrev pub in_range : Wanted → ℕ → ℤ → Result ℤ InputFault
in_range wanted.Size place v = if is_among MOST_PERSONS v then Ok v else Err faults.Size
in_range wanted.Cost place v = if is_cost v then Ok v else Err (faults.Cost place)
in_range (wanted.Index n) place v = if is_among n v then Ok v else Err (faults.Index place)
in_range wanted.Nothing place v = Err (faults.Extra place)

-- the fault of a token at this place that isn't a number, where this is expected
abbrev pub no_number : Wanted → ℕ → InputFault
no_number wanted.Nothing place = faults.Extra place
no_number w place = faults.BadToken place

-- the number, if it is one in range, or the fault at this place
abbrev pub judged_number : Wanted → ℕ → Option ℤ → Result ℤ InputFault
judged_number w place None = Err (no_number w place)
judged_number w place (Some v) = in_range w place v

-- what a token gives where this is expected: its number, or its fault
abbrev pub judged : Wanted → Token → Result ℤ InputFault
judged w t = judged_number w t.place (number_of t.bytes)

-- the result is the expected number, or its fault
abbrev pub Tells : {X : Type 0} → (X → ℤ) → Result X InputFault → Result ℤ InputFault → Type 0
Tells view (Ok x) number = number ≡ Ok (view x)
Tells view (Err fault) number = number ≡ Err fault
