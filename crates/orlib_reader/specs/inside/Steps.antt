-- The same texts, read byte by byte.
use Rattle.std.specs.Prelude.{ℕ, ◌+◌, ◌-◌, ◌*◌, ℤ, List, [], ◌∷◌, ◌++◌, Option, None, Some, Result, Ok, Err, nat_le}
use Rattle.std.specs.Prelude.{◌==◌, if◌then◌else◌, true, false, min, IfSome, ◌≡◌, ◌<◌, ◌≤◌, length, drop, get_or}
use Rattle.orlib_reader.specs.Tokens.{is_space}
use Rattle.orlib_reader.specs.Numbers.{is_digit, is_sign, signed, judged_number}
use Rattle.orlib_reader.specs.Texts.{wanted_in, ended, and_then}
use Rattle.orlib_reader.specs.declared.fault.InputFault.{InputFault}
use Rattle.orlib_reader.specs.declared.fault.InputFault.TheVariants as faults
use Rattle.orlib_reader.specs.declared.machine.TheConstants.{TEXT_LIMIT}
use Rattle.orlib_reader.specs.declared.token.TheConstants.{VALUE_LIMIT}
use Rattle.orlib_reader.specs.declared.layout.Layout.{Layout}
use Rattle.orlib_reader.specs.Wanted.{Wanted}
use Rattle.orlib_reader.specs.Wanted as wanted
use Rattle.orlib_reader.specs.declared.token.OpenToken.{OpenToken}

-- the state of the reader: the number of bytes so far, the open token, the numbers before it
pub record State : Type 0 where
  pub layout : Layout
  pub at : ℕ
  pub token : Option OpenToken
  pub found : List ℤ

-- greater values are kept as this one, which is outside each range
abbrev pub saturated : ℕ → ℕ
saturated v = min v VALUE_LIMIT

-- a token that begins with this byte
abbrev pub begun : ℕ → ℕ → OpenToken
begun at b =
    if is_digit b then record { place = at; is_negative = false; has_digits = true; is_bad = false; value = b - 48 }
    else record { place = at; is_negative = b == 45; has_digits = false; is_bad = if is_sign b then false else true; value = 0 }

-- a token with one more byte
abbrev pub continued : OpenToken → ℕ → OpenToken
continued t b =
    if is_digit b then record {
      place = t.place;
      is_negative = t.is_negative;
      has_digits = true;
      is_bad = t.is_bad;
      value = saturated (t.value * 10 + (b - 48));
    }
    else record { place = t.place; is_negative = t.is_negative; has_digits = t.has_digits; is_bad = true; value = t.value }

-- the number of a token
abbrev pub token_number : OpenToken → Option ℤ
token_number t = if t.is_bad then None else if t.has_digits then Some (signed t.is_negative t.value) else None

-- the open token, if there is one, ends
abbrev pub with_token : Layout → Option OpenToken → List ℤ → Result (List ℤ) InputFault
with_token layout None found = Ok found
with_token layout (Some t) found = and_then (judged_number (wanted_in layout found) t.place (token_number t)) (λ v. Ok (found ++ v ∷ []))

abbrev pub begun_where : Wanted → ℕ → ℕ → Result OpenToken InputFault
begun_where wanted.Nothing at b = Err (faults.Extra at)
begun_where w at b = Ok (begun at b)

-- a byte other than white space
abbrev pub in_token : Layout → ℕ → Option OpenToken → List ℤ → ℕ → Result OpenToken InputFault
in_token layout at None found b = begun_where (wanted_in layout found) at b
in_token layout at (Some t) found b = Ok (continued t b)

-- one more byte
abbrev pub step : State → ℕ → Result State InputFault
step s b =
    if nat_le TEXT_LIMIT s.at then Err faults.TooLong
    else if is_space b then and_then (with_token s.layout s.token s.found)
    (λ found. Ok (record { layout = s.layout; at = s.at + 1; token = None; found = found }))
    else and_then (in_token s.layout s.at s.token s.found b) (λ t. Ok (record { layout = s.layout; at = s.at + 1; token = Some t; found = s.found }))

-- after these bytes
abbrev pub after : Result State InputFault → List ℕ → Result State InputFault
after r [] = r
after (Ok s) (b ∷ bytes) = after (step s b) bytes
after (Err e) (b ∷ bytes) = Err e

abbrev pub start : Layout → State
start layout = record { layout = layout; at = 0; token = None; found = [] }

-- the numbers, at the end of the text
abbrev pub finished : Result State InputFault → Result (List ℤ) InputFault
finished (Ok s) = and_then (with_token s.layout s.token s.found) (λ found. ended s.layout found)
finished (Err e) = Err e

-- the number of open tokens
abbrev pub open_count : Option OpenToken → ℕ
open_count None = 0
open_count (Some t) = 1

-- what always holds: each number took at least a byte
pub record IsUnderway (at : ℕ) (token : Option OpenToken) (found : List ℤ) : Type 0 where
  pub near : at ≤ TEXT_LIMIT
  pub value : IfSome token (λ t. t.value ≤ VALUE_LIMIT)
  pub count : length found + open_count token ≤ at

-- the state of the reader within a token
abbrev pub within_token : Layout → ℕ → OpenToken → List ℤ → State
within_token layout at token found = record { layout = layout; at = at; token = Some token; found = found }

-- the state of the reader between tokens
abbrev pub between_tokens : Layout → ℕ → List ℤ → State
between_tokens layout at found = record { layout = layout; at = at; token = None; found = found }

-- no token is open, and these bytes stay within the limit
pub record IsBetween (s : State) (bytes : List ℕ) : Type 0 where
  pub near : s.at + length bytes ≤ TEXT_LIMIT
  pub none_open : s.token ≡ None

-- a token begins with the first of these bytes, and these bytes stay within the limit
pub record Begins (s : State) (bytes : List ℕ) : Type 0 where
  pub some : 0 < length bytes
  pub near : s.at + length bytes ≤ TEXT_LIMIT
  pub none_open : s.token ≡ None
  pub wanted : wanted_in s.layout s.found ≡ wanted.Nothing → ⊥
  pub dark : is_space (get_or bytes 0 0) ≡ false

-- this many of these bytes are taken, and taking the rest leads to the same state as taking all of
-- them
pub record HasTaken (old new : State) (bytes : List ℕ) (count : ℕ) : Type 0 where
  pub some : 0 < count
  pub few : count ≤ length bytes
  pub after_rest : after (Ok new) (drop count bytes) ≡ after (Ok old) bytes
  pub layout : new.layout ≡ old.layout
  pub at : new.at ≡ old.at + count
