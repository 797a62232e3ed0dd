-- First step: from the bytes of a text to its tokens.
use Rattle.std.specs.Prelude.{ℕ, ◌+◌, List, [], ◌∷◌, ◌++◌, Option, None, Some, nat_le, ◌==◌, ◌&&◌, ◌||◌, if◌then◌else◌, Bool}
use Rattle.orlib_reader.specs.declared.machine.TheConstants.{TEXT_LIMIT}

-- space, TAB, LF, VT, FF and CR
abbrev pub is_space : ℕ → Bool
is_space b = (b == 32) || (nat_le 9 b && nat_le b 13)

-- a longest run of bytes other than white space, with the place of its first byte
pub record Token : Type 0 where
  pub place : ℕ
  pub bytes : List ℕ

-- the pieces that a text is cut into
pub data Piece : Type 0 where
  -- a token that ends at white space or at the end of the text
  whole : Token → Piece
  -- a token, begun at this place, that is still open at the limit
  open_at : ℕ → Piece
  -- the text goes beyond the limit
  beyond : Piece

-- the token that has begun, or a new one at this place, with one more byte
abbrev pub grown : ℕ → Option Token → ℕ → Token
grown at None b = record { place = at; bytes = b ∷ [] }
grown at (Some t) b = record { place = t.place; bytes = t.bytes ++ b ∷ [] }

-- the piece of a token that has ended, if there is one
abbrev pub closed : Option Token → List Piece
closed None = []
closed (Some t) = whole t ∷ []

-- the piece of a token that is open at the limit, if there is one
abbrev pub left_open : Option Token → List Piece
left_open None = []
left_open (Some t) = open_at t.place ∷ []

-- the pieces of a text from a place on, after a token that has begun
abbrev pub cut : ℕ → Option Token → List ℕ → List Piece
cut at begun [] = closed begun
cut at begun (b ∷ bytes) =
    if nat_le TEXT_LIMIT at then left_open begun ++ beyond ∷ []
    else if is_space b then closed begun ++ cut (at + 1) None bytes
    else cut (at + 1) (Some (grown at begun b)) bytes

-- the pieces of a whole text
abbrev pub pieces_of : List ℕ → List Piece
pieces_of bytes = cut 0 None bytes
