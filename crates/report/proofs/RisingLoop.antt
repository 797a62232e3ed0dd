-- Reading a list's numbers one after the other.
use Rattle.std.proofs.Common.{◌≡◌, ℕ, ◌<◌, ◌≤◌, List, [], ◌∷◌, ◌++◌, true, false, Option, Some, None, ltb, map, refl, sym, ap, ◌∙◌, append_assoc, append-nil}
use Rattle.std.proofs.lemmas.Bool.{lt-ltb, le-ltb}
use Rattle.std.proofs.lemmas.List.{map-append}
use Rattle.report.specs.inside.Numerals.{◌>>=◌, number_in}
use Rattle.report.specs.inside.Reading.{read_rising}

-- what was read before, and what is still read
abbrev pub with_front : List ℕ → Option (List ℕ) → Option (List ℕ)
with_front front None = None
with_front front (Some ns) = Some (front ++ ns)

regroup : (front : List ℕ) (n : ℕ) (read : Option (List ℕ)) → with_front front (read >>= λ ns. Some (n ∷ ns)) ≡ with_front (front ++ n ∷ []) read
regroup front n None = refl
regroup front n (Some ns) = ap (λ xs. Some xs) (sym (append_assoc front (n ∷ []) ns))

goes_on : (front : List ℕ) (last : ℕ) (word : List ℕ) (left words : List (List ℕ)) (n : ℕ) (all : Option (List ℕ)) →
    left ≡ word ∷ words → number_in word ≡ Some n → last < n
    → with_front front (read_rising last left) ≡ all → with_front (front ++ n ∷ []) (read_rising n words) ≡ all
unfolding read_rising
goes_on front last word left words n all e s lt h =
    let above : ltb last n ≡ true = lt-ltb _ _ lt in
    let one : with_front front (read_rising last left) ≡ with_front (front ++ n ∷ []) (read_rising n words) =
    rw (e, s, above) (regroup front n (read_rising n words)) in
    sym one ∙ h

-- the same for what has these numbers
pub pushed_on : {N : Type 0} (value : N → ℕ) (front more : List N) (x : N) (last : ℕ) (word : List ℕ)
    (left words : List (List ℕ)) (n : ℕ) (all : Option (List ℕ)) → more ≡ front ++ x ∷ [] → value x ≡ n
    → left ≡ word ∷ words → number_in word ≡ Some n → last < n →
    with_front (map value front) (read_rising last left) ≡ all →
    with_front (map value more) (read_rising n words) ≡ all
pushed_on value front more x last word left words n all p v e s lt h =
    let list : map value more ≡ map value front ++ n ∷ [] = ap (map value) p ∙ map-append value front (x ∷ []) ∙ ap (λ m. map value front ++ m ∷ []) v in
    rw list (goes_on (map value front) last word left words n all e s lt h)

pub stops : (front : List ℕ) (last : ℕ) (word : List ℕ) (left words : List (List ℕ)) (all : Option (List ℕ)) → left ≡ word ∷ words → number_in word ≡ None
    → with_front front (read_rising last left) ≡ all → None ≡ all
unfolding read_rising
stops front last word left words all e s h = let one : with_front front (read_rising last left) ≡ None = rw (e, s) refl in sym one ∙ h

pub falls : (front : List ℕ) (last : ℕ) (word : List ℕ) (left words : List (List ℕ)) (n : ℕ) (all : Option (List ℕ))
    → left ≡ word ∷ words → number_in word ≡ Some n → n ≤ last
    → with_front front (read_rising last left) ≡ all → None ≡ all
unfolding read_rising
falls front last word left words n all e s le h =
    let no : ltb last n ≡ false = le-ltb _ _ le in
    let one : with_front front (read_rising last left) ≡ None = rw (e, s, no) refl in sym one ∙ h

pub is_done : (front : List ℕ) (last : ℕ) (left : List (List ℕ)) (all : Option (List ℕ)) → left ≡ [] →
    with_front front (read_rising last left) ≡ all → Some front ≡ all
unfolding read_rising
is_done front last left all e h = let one : with_front front (read_rising last left) ≡ Some front = rw e (ap (λ xs. Some xs) (append-nil front)) in sym one ∙ h
