-- Numbers in words.
use Rattle.std.specs.Prelude.{ℕ, ℤ, pos, neg_ℤ, ◌+◌, ◌-◌, ◌*◌, List, [], ◌∷◌, Option, None, Some, nat_abs, nat_le, ◌==◌, ◌&&◌, if◌then◌else◌, decimal, length}
use Rattle.std.specs.Str.{bytes_eq}
use Rattle.assign_core.specs.declared.numbers.TheConstants.{MOST_PERSONS, GREATEST_COST, PRICE_END}
use Rattle.report.specs.declared.numerals.TheConstants.{MOST_DIGITS}

infixl 10 ◌>>=◌
abbrev pub ◌>>=◌ : {A B : Type 0} → Option A → (A → Option B) → Option B
None >>= f = None
(Some x) >>= f = f x

-- the value of digits after those of value v, whatever the bytes are
abbrev pub value_after : ℕ → List ℕ → ℕ
value_after v [] = v
value_after v (b ∷ bytes) = value_after (v * 10 + (b - 48)) bytes

-- the number whose digits are this word: the value of the bytes, whatever they are, if its digits
-- are this word
unfoldable pub numeral_in : List ℕ → Option ℕ
numeral_in word =
    if nat_le (length word) MOST_DIGITS && bytes_eq word (decimal (value_after 0 word))
    then Some (value_after 0 word) else None

-- this number, if it is at most `most`
abbrev pub numeral_within : ℕ → List ℕ → Option ℕ
numeral_within most word = numeral_in word >>= λ n. if nat_le n most then Some n else None

-- a number after a minus; -0 isn't one
abbrev pub negated : Option ℕ → Option ℤ
negated None = None
negated (Some n) = if n == 0 then None else Some (neg_ℤ (pos n))

-- the greatest absolute value of a cost or a sum of costs
abbrev pub widest_cost : ℕ
widest_cost = MOST_PERSONS * nat_abs GREATEST_COST

-- a word as a cost, or as a sum of costs
abbrev pub cost_in : List ℕ → Option ℤ
cost_in [] = None
cost_in (b ∷ bytes) =
    if b == 45
    then negated (numeral_within widest_cost bytes)
    else numeral_within widest_cost (b ∷ bytes) >>= λ n. Some (pos n)

-- the greatest price
abbrev pub last_price : ℕ
last_price = nat_abs PRICE_END - 1

abbrev pub price_in : List ℕ → Option ℤ
price_in word = numeral_within last_price word >>= λ n. Some (pos n)

-- a word as the number of a person or an object, or as a count
abbrev pub number_in : List ℕ → Option ℕ
number_in word = numeral_within MOST_PERSONS word
