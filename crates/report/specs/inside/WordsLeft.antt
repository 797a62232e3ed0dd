-- The words of a line, and those that a cursor has left.
use Rattle.std.specs.Prelude.{◌≢◌, ℕ, ◌<◌, List, [], ◌∷◌, Option, None, Some, ◌==◌, if◌then◌else◌, slice_index}

-- one more byte before the first word
abbrev pub with_byte : ℕ → List (List ℕ) → List (List ℕ)
with_byte b [] = (b ∷ []) ∷ []
with_byte b (word ∷ words) = (b ∷ word) ∷ words

-- the parts of a line between its spaces
abbrev pub words_of : List ℕ → List (List ℕ)
words_of [] = [] ∷ []
words_of (b ∷ bytes) = if b == 32 then [] ∷ words_of bytes else with_byte b (words_of bytes)

-- none of the first n bytes is a space
abbrev pub HasNoSpace : List ℕ → ℕ → Type 0
HasNoSpace bytes n = (k : ℕ) → k < n → slice_index bytes k ≢ 32

-- the words that are left, if this part of the line is left
abbrev pub words_left : Option (List ℕ) → List (List ℕ)
words_left None = []
words_left (Some bytes) = words_of bytes
