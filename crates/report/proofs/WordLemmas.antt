-- Words, joined and parted.
use Rattle.std.proofs.Common.{◌≡◌, ◌≢◌, ℕ, suc, ◌<◌, ◌+◌, List, [], ◌∷◌, ◌++◌, Bool, true, false, cond, eqb, ltb}
use Rattle.std.proofs.Common.{◌&&◌, length, take, drop, get_or, zero, Option, Some, None, refl, sym, ap, ◌∙◌, arith}
use Rattle.std.specs.Prelude.{◌↔◌, IsTrue, not, is_some}
use Rattle.std.specs.Option.{option_copied}
use denote.Ref.{Bor}
use Rattle.std.specs.List.{AllByRecursion}
use Rattle.std.proofs.lemmas.Bool.{eqb-true, ne_eqb, eq-eqb, and_parts, ltb-true}
use Rattle.std.proofs.lemmas.List.{drop-drop}
use Rattle.report.specs.Words.{behind_spaces, joined}
use Rattle.report.specs.inside.WordsLeft.{with_byte, words_of, HasNoSpace, words_left}
use Rattle.report.specs.Answers.{IsWithinLine}

-- a line has at least one word
pub words_some : (bytes : List ℕ) → 0 < length (words_of bytes)
words_some [] = omega arith
words_some (b ∷ bytes) = some (eqb b 32) (words_of bytes)
  where
    with_some : (b : ℕ) (ws : List (List ℕ)) → 0 < length (with_byte b ws)
    with_some b [] = omega arith
    with_some b (w ∷ ws) = omega arith

    some : (t : Bool) (ws : List (List ℕ)) → 0 < length (cond t ([] ∷ ws) (with_byte b ws))
    some true ws = omega arith
    some false ws = with_some b ws

joined_byte : (b : ℕ) (ws : List (List ℕ)) → joined (with_byte b ws) ≡ b ∷ joined ws
joined_byte b [] = refl
joined_byte b (w ∷ ws) = refl

joined_space : (ws : List (List ℕ)) → 0 < length ws → joined ([] ∷ ws) ≡ 32 ∷ joined ws
joined_space [] h = absurd (omega arith)
joined_space (w ∷ ws) h = refl

joined_test : (b : ℕ) (t : Bool) (ws : List (List ℕ)) → eqb b 32 ≡ t → 0 < length ws → joined (cond t ([] ∷ ws) (with_byte b ws)) ≡ b ∷ joined ws
joined_test b true ws e h = joined_space ws h ∙ ap (λ x. x ∷ joined ws) (sym (eqb-true b 32 e))
joined_test b false ws e h = joined_byte b ws

-- joining the words of a line gives the line
pub joined-words_of : (bytes : List ℕ) → joined (words_of bytes) ≡ bytes
joined-words_of [] = refl
joined-words_of (b ∷ bytes) = joined_test b (eqb b 32) (words_of bytes) refl (words_some bytes) ∙ ap (λ x. b ∷ x) (joined-words_of bytes)

no_words : (ws : List (List ℕ)) → 0 < length ws → ws ≢ []
no_words [] h e = omega arith
no_words (w ∷ ws) h e = cc

-- a line without a space is one word
pub words_whole : (bytes : List ℕ) → HasNoSpace bytes (length bytes) → words_of bytes ≡ bytes ∷ []
words_whole [] h = refl
words_whole (b ∷ bytes) h =
    let no : eqb b 32 ≡ false = ne_eqb b 32 (h 0 (omega arith)) in
    ap (λ t. cond t ([] ∷ words_of bytes) (with_byte b (words_of bytes))) no ∙ ap (with_byte b) (words_whole bytes (λ k lt. h (suc k) (omega arith)))

-- the word before the first space, and the words after it
pub words_parted : (bytes : List ℕ) (at : ℕ) → at < length bytes → get_or bytes at 0 ≡ 32 → HasNoSpace bytes at →
    words_of bytes ≡ take at bytes ∷ words_of (drop (suc at) bytes)
words_parted [] at lt e h = absurd (omega arith)
words_parted (b ∷ bytes) zero lt e h = ap (λ t. cond t ([] ∷ words_of bytes) (with_byte b (words_of bytes))) (eq-eqb b 32 e)
words_parted (b ∷ bytes) (suc at) lt e h =
    let no : eqb b 32 ≡ false = ne_eqb b 32 (h 0 (omega arith)) in
    ap (λ t. cond t ([] ∷ words_of bytes) (with_byte b (words_of bytes))) no ∙
    ap (with_byte b) (words_parted bytes at (omega arith) e (λ k l. h (suc k) (omega arith)))

pub words_split : (line word behind rest : List ℕ) (at : ℕ) → at < length line → get_or line at 0 ≡ 32 →
    HasNoSpace line at → word ≡ take at line → behind ≡ drop at line → rest ≡ drop 1 behind
    → words_of line ≡ word ∷ words_of rest
words_split line word behind rest at lt e h w b r =
    let next : at + 1 ≡ suc at = omega arith in
    let last : drop (suc at) line ≡ rest = sym (r ∙ ap (drop 1) b ∙ drop-drop 1 at line ∙ ap (λ n. drop n line) next) in
    words_parted line at lt e h ∙ rw (last, w) refl

-- no word is left exactly where no part of the line is left
pub at_end_iff : (o : Option (Bor (List ℕ))) (ws : List (List ℕ)) (r : Bool) → words_left (option_copied o) ≡ ws → is_some o ≡ not r → IsTrue r ↔ (ws ≡ [])
at_end_iff None ws true v e = (λ _. sym v, λ _. refl)
at_end_iff None ws false v e = absurd cc
at_end_iff (Some b) ws true v e = absurd cc
at_end_iff (Some b) ws false v e = (λ h. cc, λ h. absurd (no_words (words_of b.now) (words_some b.now) (v ∙ h)))

-- no byte of a word is a space or below
abbrev pub IsWord : List ℕ → Type 0
IsWord word = AllByRecursion (λ b. 32 < b) word

-- joined words are split into these words
words_behind : (w : List ℕ) (ws : List (List ℕ)) → IsWord w → AllByRecursion IsWord ws → words_of (w ++ behind_spaces ws) ≡ w ∷ ws
words_behind [] [] h k = refl
words_behind [] (v ∷ vs) h k = ap (λ (x : List (List ℕ)). [] ∷ x) (words_behind v vs k.0 k.1)
words_behind (b ∷ w) ws h k =
    let no : eqb b 32 ≡ false = ne_eqb b 32 (λ e. omega (arith, h.0)) in
    ap (λ t. cond t ([] ∷ words_of (w ++ behind_spaces ws)) (with_byte b (words_of (w ++ behind_spaces ws)))) no ∙ ap (with_byte b) (words_behind w ws h.1 k)

pub words_of-joined : (w : List ℕ) (ws : List (List ℕ)) → AllByRecursion IsWord (w ∷ ws) → words_of (joined (w ∷ ws)) ≡ w ∷ ws
words_of-joined w ws h = words_behind w ws h.0 h.1

within-append : (a b : List ℕ) → IsWord a → IsWithinLine b → IsWithinLine (a ++ b)
within-append [] b h k = k
within-append (x ∷ a) b h k = (λ e. omega (arith, h.0), within-append a b h.1 k)

within_behind : (ws : List (List ℕ)) → AllByRecursion IsWord ws → IsWithinLine (behind_spaces ws)
within_behind [] h = tt
within_behind (w ∷ ws) h = (λ e. omega (arith, e), within-append w (behind_spaces ws) h.0 (within_behind ws h.1))

pub within_joined : (ws : List (List ℕ)) → AllByRecursion IsWord ws → IsWithinLine (joined ws)
within_joined [] h = tt
within_joined (w ∷ ws) h = within-append w (behind_spaces ws) h.0 (within_behind ws h.1)

pub words_again : (ws : List (List ℕ)) → 0 < length ws → AllByRecursion IsWord ws → words_of (joined ws) ≡ ws
words_again [] h k = absurd (omega arith)
words_again (w ∷ ws) h k = words_of-joined w ws k

abbrev pub all_above_space : List ℕ → Bool
all_above_space [] = true
all_above_space (b ∷ word) = ltb 32 b && all_above_space word

-- for a word that is written out
pub word_by_test : (word : List ℕ) → all_above_space word ≡ true → IsWord word
word_by_test [] e = tt
word_by_test (b ∷ word) e = let p = and_parts (ltb 32 b) (all_above_space word) e in (ltb-true 32 b p.0, word_by_test word p.1)
