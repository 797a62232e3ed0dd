-- Writing in pieces.
use Rattle.std.proofs.Common.{◌≡◌, ℕ, ◌<◌, ◌≤◌, ◌+◌, List, [], ◌∷◌, ◌++◌, Option, Some, None, length, take, drop}
use Rattle.std.proofs.Common.{refl, sym, ap, subst, ◌∙◌, append_assoc, append-nil, arith, length-append}
use Rattle.std.proofs.Common.{take-add, unwrap_or, ℤ, pos, map, get_or, decimal}
use Rattle.std.proofs.lemmas.List.{drop_more, drop_all}
use Rattle.std.specs.Io.KnownBytes.{Appends}
use Rattle.std.proofs.KnownBytes.{Appends-trans}
use Rattle.report.specs.Writing.{Sent, IsCutOff, Writes}
use Rattle.report.specs.inside.Holding.{Puts}
use Rattle.report.specs.declared.fault.WriteFault.{WriteFault}
use Rattle.std.proofs.Common.{Result, Ok, Err}
use Rattle.report.specs.Words.{behind_spaces}
use Rattle.report.specs.Lines.{line_text, lines_text, price_line, price_lines, assign_line, assign_lines}
use Rattle.report.specs.Outcomes.{pairs_of}
use Rattle.assign_core.specs.Rows.{Listing, listed_in, listed_or_zero, row_of}
use Rattle.assign_core.proofs.NumberedLemmas.{numbered-next}

pub appends_more : (old mid new : Option (List ℕ)) (bytes : List ℕ) (at n : ℕ) → Appends old mid (take at bytes) →
    Appends mid new (take n (drop at bytes)) → Appends old new (take (at + n) bytes)
appends_more None mid new bytes at n f g = tt
appends_more (Some xs) None new bytes at n f g = absurd f
appends_more (Some xs) (Some ys) None bytes at n f g = absurd g
appends_more (Some xs) (Some ys) (Some zs) bytes at n f g =
    g ∙ ap (λ l. l ++ take n (drop at bytes)) f ∙ append_assoc xs (take at bytes) (take n (drop at bytes)) ∙ ap (λ l. xs ++ l) (sym (take-add at n bytes))

-- what was left goes on
pub sent_on : (old mid new : Option (List ℕ)) (text here more left : List ℕ) → Sent old mid text (here ++ more) →
    Sent mid new here left → Sent old new text (left ++ more)
sent_on old mid new text here more left f g = (
  f.0 ++ g.0,
  Appends-trans old mid new f.0 g.0 f.1 g.1,
  f.2 ∙ ap (λ t. f.0 ++ t) (ap (λ t. t ++ more) g.2 ∙ append_assoc g.0 left more) ∙ sym (append_assoc f.0 g.0 (left ++ more)),
)

pub cut_on : (old mid new : Option (List ℕ)) (text here more : List ℕ) → Sent old mid text (here ++ more) → IsCutOff mid new here → IsCutOff old new text
cut_on old mid new text here more f g = (g.0 ++ more, omega (arith, g.1, length-append g.0 more), sent_on old mid new text here more g.0 f g.2)

-- more is held back after what was held back
pub sent_more : (old new : Option (List ℕ)) (text left more : List ℕ) → Sent old new text left → Sent old new (text ++ more) (left ++ more)
sent_more old new text left more f = (f.0, f.1, ap (λ t. t ++ more) f.2 ∙ append_assoc f.0 left more)

-- a line is added where there is room
pub put_line : (old new : Option (List ℕ)) (kept mid held line : List ℕ) → Sent old new (kept ++ []) mid → held ≡ mid ++ line → Sent old new (kept ++ line) held
put_line old new kept mid held line f e =
    let g = sent_more old new (kept ++ []) mid line f in
    (g.0, g.1, ap (λ t. t ++ line) (sym (append-nil kept)) ∙ g.2 ∙ ap (λ t. g.0 ++ t) (sym e))

-- the writer fails before a line is added
pub cut_line : (old new : Option (List ℕ)) (kept line : List ℕ) → IsCutOff old new (kept ++ []) → IsCutOff old new (kept ++ line)
cut_line old new kept line f = (
  f.0 ++ line,
  omega (arith, f.1, length-append f.0 line),
  (f.2.0, f.2.1, ap (λ t. t ++ line) (sym (append-nil kept) ∙ f.2.2) ∙ append_assoc f.2.0 f.0 line),
)

-- one part of a text after the other
pub parts_on : (old mid new : Option (List ℕ)) (text kept held part more rest : List ℕ) → rest ≡ part ++ more →
    Sent old mid text (kept ++ rest) → Sent mid new (kept ++ part) held → Sent old new text (held ++ more)
parts_on old mid new text kept held part more rest e f g =
    sent_on old mid new text (kept ++ part) more held (f.0, f.1, f.2 ∙ ap (λ t. f.0 ++ t) (ap (λ t. kept ++ t) e ∙ sym (append_assoc kept part more))) g

pub parts_cut : (old mid new : Option (List ℕ)) (text kept part more rest : List ℕ) → rest ≡ part ++ more →
    Sent old mid text (kept ++ rest) → IsCutOff mid new (kept ++ part) → IsCutOff old new text
parts_cut old mid new text kept part more rest e f g =
    cut_on old mid new text (kept ++ part) more (f.0, f.1, f.2 ∙ ap (λ t. f.0 ++ t) (ap (λ t. kept ++ t) e ∙ sym (append_assoc kept part more))) g

three_tail : (a b c z : List ℕ) → (a ++ 32 ∷ (b ++ 32 ∷ c)) ++ z ≡ a ++ 32 ∷ (b ++ 32 ∷ (c ++ z))
three_tail a b c z = append_assoc a (32 ∷ (b ++ 32 ∷ c)) z ∙ ap (λ t. a ++ 32 ∷ t) (append_assoc b (32 ∷ c) z)

-- a word, three numbers and a line feed
pub three_numbers : (m0 m1 m2 m3 m4 m5 word a b c : List ℕ) → m1 ≡ m0 ++ word → m2 ≡ m1 ++ 32 ∷ a → m3 ≡ m2 ++ 32 ∷ b → m4 ≡ m3 ++ 32 ∷ c → m5 ≡ m4 ++ 10 ∷ []
    → m5 ≡ m0 ++ ((word ++ behind_spaces (a ∷ b ∷ c ∷ [])) ++ 10 ∷ [])
three_numbers m0 m1 m2 m3 m4 m5 word a b c e f g h i =
    rw (i, h, g, f, e) (simp (append_assoc, append-nil) (ap (λ t. m0 ++ (word ++ 32 ∷ t))
    (sym (three_tail a b c (10 ∷ [])))))

-- the first number of those that are left
pub numbers_more : {N : Type 0} (value : N → ℕ) (xs : List N) (i : ℕ) (x : N) (y : ℕ) → i < length xs → x ≡ get_or xs i x → y ≡ value x
    → behind_spaces (map decimal (map value (drop i xs))) ≡ (32 ∷ decimal y) ++ behind_spaces (map decimal (map value (drop (i + 1) xs)))
numbers_more value xs i x y lt e s =
    ap (λ ys. behind_spaces (map decimal (map value ys))) (drop_more xs i x lt)
    ∙ ap (λ n. (32 ∷ decimal n) ++ behind_spaces (map decimal (map value (drop (i + 1) xs)))) (sym (s ∙ ap value e))

-- the first price of those that are left
pub prices_more : (prices : List ℤ) (i : ℕ) (p : ℤ) → i < length prices → p ≡ get_or prices i (pos 0)
    → lines_text (price_lines (i + 1) (drop i prices)) ≡ lines_text (price_line (i + 1) p ∷ []) ++ lines_text (price_lines (i + 1 + 1) (drop (i + 1) prices))
prices_more prices i p lt e =
    ap (λ ps. lines_text (price_lines (i + 1) ps)) (drop_more prices i (pos 0) lt)
    ∙ ap (λ q. lines_text (price_lines (i + 1) (q ∷ drop (i + 1) prices))) (sym e)
    ∙ sym (append_assoc (line_text (price_line (i + 1) p)) (10 ∷ []) (lines_text (price_lines (i + 1 + 1) (drop (i + 1) prices))))

-- the first row of those that are left
pub pairs_more : (rows : List Listing) (xs : List ℕ) (i x : ℕ) (cost : ℤ) → length rows ≡ length xs →
    i < length xs → x ≡ get_or xs i x → cost ≡ unwrap_or (listed_in (row_of rows (i + 1)) x) (pos 0)
    → lines_text (assign_lines (i + 1) (pairs_of (drop i rows) (drop i xs))) ≡ lines_text
    (assign_line (i + 1) x cost ∷ []) ++ lines_text (assign_lines (i + 1 + 1) (pairs_of (drop (i + 1) rows)
    (drop (i + 1) xs)))
pairs_more rows xs i x cost l lt e f =
    let row : drop i rows ≡ get_or rows i [] ∷ drop (i + 1) rows = drop_more rows i [] (omega arith) in
    let object : drop i xs ≡ x ∷ drop (i + 1) xs = drop_more xs i x lt ∙ ap (λ y. y ∷ drop (i + 1) xs) (sym e) in
    let cost_is : cost ≡ listed_or_zero (get_or rows i []) x = f ∙ ap (λ r. listed_or_zero r x) (numbered-next rows i []) in
    rw (row, object, cost_is) (sym (append_assoc
    (line_text (assign_line (i + 1) x (listed_or_zero (get_or rows i []) x))) (10 ∷ [])
    (lines_text (assign_lines (i + 1 + 1) (pairs_of (drop (i + 1) rows) (drop (i + 1) xs))))))

no_pairs : (rows : List Listing) → pairs_of rows [] ≡ []
no_pairs [] = refl
no_pairs (row ∷ rows) = refl

pub pairs_past : (rows : List Listing) (xs : List ℕ) (i : ℕ) → length xs ≤ i → lines_text (assign_lines (i + 1) (pairs_of (drop i rows) (drop i xs))) ≡ []
pairs_past rows xs i le = rw (drop_all i xs le) (ap (λ (ps : List (ℕ × ℤ)). lines_text (assign_lines (i + 1) ps)) (no_pairs (drop i rows)))

-- nothing is left to be put
pub put_end : (old new : Option (List ℕ)) (text kept rest : List ℕ) → rest ≡ [] → Sent old new text (kept ++ rest) → Sent old new text kept
put_end old new text kept rest e f = (f.0, f.1, f.2 ∙ ap (λ t. f.0 ++ t) (ap (λ t. kept ++ t) e ∙ append-nil kept))

sent_next : (old mid new : Option (List ℕ)) (a b c : List ℕ) → Sent old mid a b → Sent mid new b c → Sent old new a c
sent_next old mid new a b c f g = (f.0 ++ g.0, Appends-trans old mid new f.0 g.0 f.1 g.1, f.2 ∙ ap (λ t. f.0 ++ t) g.2 ∙ sym (append_assoc f.0 g.0 c))

-- Parts of a text, one after the other: each is written or held back, but the last one may fail.

-- a part that was cut off, and one that was to follow
pub cut_more : (old new : Option (List ℕ)) (kept a b : List ℕ) → IsCutOff old new (kept ++ a) → IsCutOff old new (kept ++ (a ++ b))
cut_more old new kept a b f =
    let s = sent_more old new (kept ++ a) f.0 b f.2 in
    (f.0 ++ b, omega (arith, f.1, length-append f.0 b), (s.0, s.1, sym (append_assoc kept a b) ∙ s.2))

longer : (old mid : Option (List ℕ)) (kept held a b : List ℕ) → Sent old mid (kept ++ a) held → Sent old mid (kept ++ (a ++ b)) (held ++ b)
longer old mid kept held a b f = let s = sent_more old mid (kept ++ a) held b f in (s.0, s.1, sym (append_assoc kept a b) ∙ s.2)

-- a part, and a part after it that was cut off
pub then_cut : (old mid new : Option (List ℕ)) (kept held a b : List ℕ) → Sent old mid (kept ++ a) held →
    IsCutOff mid new (held ++ b) → IsCutOff old new (kept ++ (a ++ b))
then_cut old mid new kept held a b f g = (g.0, g.1, sent_next old mid new (kept ++ (a ++ b)) (held ++ b) g.0 (longer old mid kept held a b f) g.2)

-- two parts
pub then_sent : (old mid new : Option (List ℕ)) (kept held last a b : List ℕ) → Sent old mid (kept ++ a) held →
    Sent mid new (held ++ b) last → Sent old new (kept ++ (a ++ b)) last
then_sent old mid new kept held last a b f g = sent_next old mid new (kept ++ (a ++ b)) (held ++ b) last (longer old mid kept held a b f) g

-- a part, and the result of the part after it
pub then_puts : {X : Type 0} (old mid new : Option (List ℕ)) (kept held last : List ℕ) (r : Result X WriteFault) (a b : List ℕ)
    → Sent old mid (kept ++ a) held → Puts mid new held last r b → Puts old new kept last r (a ++ b)
then_puts old mid new kept held last (Ok x) a b f g = then_sent old mid new kept held last a b f g
then_puts old mid new kept held last (Err x) a b f g = then_cut old mid new kept held a b f g

as_other : (old new : Option (List ℕ)) (kept text other : List ℕ) → text ≡ other → IsCutOff old new (kept ++ other) → IsCutOff old new (kept ++ text)
as_other old new kept text other e h = subst (λ t. IsCutOff old new (kept ++ t)) (sym e) h

-- the first of three parts was cut off
pub first_of_three : (old new : Option (List ℕ)) (kept text a b c : List ℕ) → text ≡ (a ++ b) ++ c →
    IsCutOff old new (kept ++ a) → IsCutOff old new (kept ++ text)
first_of_three old new kept text a b c e f = as_other old new kept text ((a ++ b) ++ c) e (cut_more old new kept (a ++ b) c (cut_more old new kept a b f))

-- the second one
pub second_of_three : (old mid new : Option (List ℕ)) (kept held text a b c : List ℕ) → text ≡ (a ++ b) ++ c →
    Sent old mid (kept ++ a) held → IsCutOff mid new (held ++ b) → IsCutOff old new (kept ++ text)
second_of_three old mid new kept held text a b c e f g = as_other old new kept text ((a ++ b) ++ c) e
    (cut_more old new kept (a ++ b) c (then_cut old mid new kept held a b f g))

-- the result of the third one
pub third_of_three : {X : Type 0} (old one two new : Option (List ℕ)) (kept first second last : List ℕ)
    (r : Result X WriteFault) (text a b c : List ℕ) → text ≡ (a ++ b) ++ c
    → Sent old one (kept ++ a) first → Sent one two (first ++ b) second → Puts two new second last r c → Puts old new kept last r text
third_of_three old one two new kept first second last r text a b c e f g h =
    subst (Puts old new kept last r) (sym e) (then_puts old two new kept second last r (a ++ b) c (then_sent old one two kept first second a b f g) h)

-- the first of four parts was cut off
pub first_of_four : (old new : Option (List ℕ)) (kept text a b c d : List ℕ) → text ≡ ((a ++ b) ++ c) ++ d →
    IsCutOff old new (kept ++ a) → IsCutOff old new (kept ++ text)
first_of_four old new kept text a b c d e f = as_other old new kept text (((a ++ b) ++ c) ++ d) e
    (cut_more old new kept ((a ++ b) ++ c) d (first_of_three old new kept ((a ++ b) ++ c) a b c refl f))

-- the second one
pub second_of_four : (old mid new : Option (List ℕ)) (kept held text a b c d : List ℕ) →
    text ≡ ((a ++ b) ++ c) ++ d → Sent old mid (kept ++ a) held → IsCutOff mid new (held ++ b) →
    IsCutOff old new (kept ++ text)
second_of_four old mid new kept held text a b c d e f g =
    as_other old new kept text (((a ++ b) ++ c) ++ d) e (cut_more old new kept ((a ++ b) ++ c) d
    (second_of_three old mid new kept held ((a ++ b) ++ c) a b c refl f g))

-- the third one
pub third_of_four : (old one two new : Option (List ℕ)) (kept first second text a b c d : List ℕ) → text ≡ ((a ++ b) ++ c) ++ d
    → Sent old one (kept ++ a) first → Sent one two (first ++ b) second → IsCutOff two new (second ++ c) → IsCutOff old new (kept ++ text)
third_of_four old one two new kept first second text a b c d e f g h =
    as_other old new kept text (((a ++ b) ++ c) ++ d) e (cut_more old new kept ((a ++ b) ++ c) d
    (then_cut old two new kept second (a ++ b) c (then_sent old one two kept first second a b f g) h))

-- the result of the fourth one
pub fourth_of_four : {X : Type 0} (old one two three new : Option (List ℕ)) (kept first second third last : List ℕ)
    (r : Result X WriteFault) (text a b c d : List ℕ) → text ≡ ((a ++ b) ++ c) ++ d
    → Sent old one (kept ++ a) first → Sent one two (first ++ b) second → Sent two three (second ++ c) third →
    Puts three new third last r d → Puts old new kept last r text
fourth_of_four old one two three new kept first second third last r text a b c d e f g h k =
    subst (Puts old new kept last r) (sym e) (then_puts old three new kept third last r ((a ++ b) ++ c) d
    (then_sent old two three kept second third (a ++ b) c (then_sent old one two kept first second a b f g) h) k)

-- what is held back at the end is written
pub all_out : {X : Type 0} (old mid new : Option (List ℕ)) (text held : List ℕ) (r : Result X WriteFault) →
    Sent old mid ([] ++ text) held → Writes mid new r held → Writes old new r text
all_out old mid new text held (Ok x) f g = whole old new (f.0 ++ held) text (sym f.2) (Appends-trans old mid new f.0 held f.1 g)
  where
    whole : (old new : Option (List ℕ)) (a b : List ℕ) → a ≡ b → Appends old new a → Appends old new b
    whole old new a b e h = rw (sym e) h
all_out old mid new text held (Err x) f g = (g.0, g.1, sent_next old mid new text held g.0 f g.2)
