-- A text of lines, byte by byte.
use Rattle.std.proofs.Common.{◌≡◌, ◌≢◌, ℕ, suc, ◌<◌, ◌≤◌, ◌+◌, List, [], ◌∷◌, ◌++◌, false, eqb, leb, Option, Some}
use Rattle.std.proofs.Common.{None, Ok, length, refl, sym, ap, ◌∙◌, arith, append_assoc, append-nil}
use Rattle.std.proofs.lemmas.Bool.{ne_eqb, lt-leb}
use Rattle.std.proofs.lemmas.List.{length-append}
use Rattle.report.specs.Lines.{Line, line_text, lines_text}
use Rattle.report.specs.Order.{Draft, follow, follow_all}
use Rattle.report.specs.declared.limits.TheConstants.{TEXT_LIMIT}
use Rattle.report.specs.inside.Reading.{IsInRange}
use Rattle.report.specs.inside.Steps.{State, with_line, taken, step, after}
use Rattle.report.specs.Answers.{IsWithinLine}
use Rattle.report.proofs.LineWords.{line_again, line_within}
use Rattle.report.proofs.OrderLemmas.{IsDraft, follow_adds}
use Rattle.report.proofs.SaidLemmas.{follow_none}
use Rattle.report.proofs.Streams.{after-append}

-- bytes and lines so far, the draft, and the open line
abbrev pub at_state : ℕ → ℕ → Draft → List ℕ → State
at_state at lines draft open_line = record { at = at; lines = lines; draft = draft; open_line = open_line }

pub same_state : (at at' k k' : ℕ) (d : Draft) (line line' : List ℕ) → at ≡ at' → k ≡ k' → line ≡ line' → at_state at k d line ≡ at_state at' k' d line'
same_state at at' k k' d line line' e f g = cc

pub byte_in_line : (at k : ℕ) (d : Draft) (line : List ℕ) (b : ℕ) → at < TEXT_LIMIT → b ≢ 10 →
    step (at_state at k d line) b ≡ Ok (at_state (at + 1) k d (line ++ b ∷ []))
byte_in_line at k d line b l ne =
    let room : leb TEXT_LIMIT at ≡ false = lt-leb TEXT_LIMIT at l in
    let no : eqb b 10 ≡ false = ne_eqb b 10 ne in
    rw (room, no) refl

-- bytes without a line feed
pub inside_line : (at k : ℕ) (d : Draft) (line bytes : List ℕ) → IsWithinLine bytes →
    at + length bytes ≤ TEXT_LIMIT → after (Ok (at_state at k d line)) bytes ≡ Ok (at_state (at + length bytes) k d
    (line ++ bytes))
inside_line at k d line [] h l = ap (λ (s : State). Ok s) (same_state at (at + 0) k k d line (line ++ []) (omega arith) refl (sym (append-nil line)))
inside_line at k d line (b ∷ bytes) h l =
    ap (λ r. after r bytes) (byte_in_line at k d line b (omega arith) h.0)
    ∙ inside_line (at + 1) k d (line ++ b ∷ []) bytes h.1 (omega arith)
    ∙ ap (λ (s : State). Ok s) (same_state (at + 1 + length bytes) (at + suc (length bytes)) k k d
    ((line ++ b ∷ []) ++ bytes) (line ++ b ∷ bytes) (omega arith) refl (append_assoc line (b ∷ []) bytes))

pub feed : (at k : ℕ) (d : Draft) (line : List ℕ) → at < TEXT_LIMIT → step (at_state at k d line) 10 ≡ with_line at k (taken d line)
feed at k d line l = let room : leb TEXT_LIMIT at ≡ false = lt-leb TEXT_LIMIT at l in rw room refl

pub taken_again : (d : Draft) (line : Line) → IsInRange line → taken d (line_text line) ≡ follow d line
unfolding taken
taken_again d line h = rw (line_again line h) refl

-- one whole line
pub one_line : (at k : ℕ) (d next : Draft) (line : Line) (rest : List ℕ) → IsInRange line →
    follow d line ≡ Some next → at + length (line_text line) < TEXT_LIMIT
    → after (Ok (at_state at k d [])) (line_text line ++ 10 ∷ rest) ≡ after (Ok (at_state (at + length (line_text line) + 1) (k + 1) next [])) rest
one_line at k d next line rest h f l =
    after-append (Ok (at_state at k d [])) (line_text line) (10 ∷ rest)
    ∙ ap (λ r. after r (10 ∷ rest)) (inside_line at k d [] (line_text line) (line_within line h) (omega arith))
    ∙ ap (λ r. after r rest) (feed (at + length (line_text line)) k d (line_text line) l ∙
    ap (with_line (at + length (line_text line)) k) (taken_again d line h ∙ f))

abbrev Reads : ℕ → ℕ → Draft → List Line → Draft → List ℕ → Type 0
Reads at k d lines last rest = after (Ok (at_state at k d [])) (lines_text lines ++ rest) ≡ after
    (Ok (at_state (at + length (lines_text lines)) (k + length lines) last [])) rest

lines_next : (at k : ℕ) (d last : Draft) (line : Line) (lines : List Line) (rest : List ℕ) (o : Option Draft) →
    IsDraft d → follow d line ≡ o → follow_all o lines ≡ Some last → at + length (lines_text (line ∷ lines))
    ≤ TEXT_LIMIT
    → ((next : Draft) → IsDraft next → follow_all (Some next) lines ≡ Some last →
    Reads (at + length (line_text line) + 1) (k + 1) next lines last rest) → Reads at k d (line ∷ lines) last rest
lines_next at k d last line lines rest None h f e l again = absurd (cc (follow_none lines))
lines_next at k d last line lines rest (Some next) h f e l again =
    let long : length (lines_text (line ∷ lines)) ≡ length (line_text line) + suc (length (lines_text lines)) =
    length-append (line_text line) (10 ∷ lines_text lines) in
    let a = follow_adds d line next h f in
    ap (after (Ok (at_state at k d []))) (append_assoc (line_text line) (10 ∷ lines_text lines) rest)
    ∙ one_line at k d next line (lines_text lines ++ rest) a.2 f (omega arith)
    ∙ again next a.1 e
    ∙ ap (λ s. after (Ok s) rest) (same_state (at + length (line_text line) + 1 + length (lines_text lines))
    (at + length (lines_text (line ∷ lines))) (k + 1 + length lines) (k + suc (length lines)) last [] []
    (omega arith) (omega arith) refl)

-- lines that are allowed there
pub lines_read : (at k : ℕ) (d last : Draft) (lines : List Line) (rest : List ℕ) → IsDraft d →
    follow_all (Some d) lines ≡ Some last → at + length (lines_text lines) ≤ TEXT_LIMIT → Reads at k d lines last rest
lines_read at k d last [] rest h e l =
    let is : d ≡ last = cc in
    ap (λ s. after (Ok s) rest) (same_state at (at + 0) k (k + 0) d [] [] (omega arith) (omega arith) refl ∙ ap (λ x. at_state (at + 0) (k + 0) x []) is)
lines_read at k d last (line ∷ lines) rest h e l =
    let long : length (lines_text (line ∷ lines)) ≡ length (line_text line) + suc (length (lines_text lines)) =
    length-append (line_text line) (10 ∷ lines_text lines) in
    lines_next at k d last line lines rest (follow d line) h refl e l
    (λ next g f. lines_read (at + length (line_text line) + 1) (k + 1) next last lines rest g f (omega arith))
