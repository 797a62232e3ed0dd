-- The reading byte by byte gives just the answers that the definitions allow.
use Rattle.std.proofs.Common.{◌≡◌, ℕ, ◌<◌, ◌≤◌, ◌+◌, inl, inr, List, [], ◌∷◌, ◌++◌, Bool, true, false, cond}
use Rattle.std.proofs.Common.{eqb, leb, Option, Some, None, Result, Ok, Err, IfOk, rules, length, take, drop}
use Rattle.std.proofs.Common.{length-take-le, length-drop, take-append-drop, refl, sym, ap, subst, ◌∙◌, arith}
use Rattle.std.proofs.Common.{append-nil}
use Rattle.std.proofs.lemmas.Bool.{le-leb}
use Rattle.std.proofs.lemmas.List.{length-append}
use Rattle.report.specs.declared.fault.ReportFault.{ReportFault}
use Rattle.report.specs.declared.fault.ReportFault.TheVariants as faults
use Rattle.report.specs.Reports.{Report, IsReport}
use Rattle.report.specs.Lines.{Line, lines_text, report_lines, report_text}
use Rattle.report.specs.Order.{Draft, nothing, finish, said_by}
use Rattle.report.specs.declared.limits.TheConstants.{TEXT_LIMIT}
use Rattle.report.specs.Answers.{IsWithinLine, Begins, IsNoLine, HasBadLine, EndsInside, EndsBefore, IsTooLong}
use Rattle.report.specs.Answers.{Answers, SpeaksOfText}
use Rattle.report.specs.inside.Steps.{State, with_line, taken, step, after, start, ended, finished_state, finished}
use Rattle.report.specs.inside.Steps.{reading}
use Rattle.report.specs.inside.SeenSteps.{Reads}
use Rattle.report.specs.SeenReports.{seen_report, seen_result}
use Rattle.report.specs.declared.value.Report as values
use Rattle.report.proofs.SaidLemmas.{said_all, report_said}
use Rattle.report.proofs.StepLemmas.{at_state, inside_line, feed, lines_read, same_state}
use Rattle.report.proofs.TextLengths.{text_short}
use Rattle.report.proofs.Streams.{after-append, after_err}
use Rattle.report.proofs.Answered.{over, reading_answers, taken_takes}

-- ---- no other answer is allowed

pub reading_again : (r : Report) → IsReport r → reading (report_text r) ≡ Ok r
unfolding reading
reading_again r h =
    let said = report_said r h in
    let s = said_all nothing (report_lines r) said.0 tt said.1 in
    let short = text_short r h s.2 in
    ap (λ t. finished (after (Ok start) t)) (sym (append-nil (report_text r)))
    ∙ ap finished (lines_read 0 0 nothing said.0 (report_lines r) [] tt said.1 (omega (arith, short)))
    ∙ ap (ended (0 + length (report_lines r))) said.2

no_line_taken : (d : Draft) (line : List ℕ) (o : Option Draft) → IsNoLine d line → taken d line ≡ o → o ≡ None
no_line_taken d line None h e = refl
no_line_taken d line (Some next) h e = let t = taken_takes d next line e in absurd (h t.0 next t.1 t.2)

lines_start : (d : Draft) (lines : List Line) (rest : List ℕ) → said_by lines ≡ Some d → length (lines_text lines) ≤ TEXT_LIMIT
    → after (Ok start) (lines_text lines ++ rest) ≡ after (Ok (at_state (length (lines_text lines)) (length lines) d [])) rest
lines_start d lines rest e l =
    lines_read 0 0 nothing d lines rest tt e (omega (arith, l))
    ∙ ap (λ s. after (Ok s) rest) (same_state (0 + length (lines_text lines)) (length (lines_text lines))
    (0 + length lines) (length lines) d [] [] (omega arith) (omega arith) refl)

line_refused : (at k : ℕ) (d : Draft) (line rest : List ℕ) → IsWithinLine line → at + length line < TEXT_LIMIT →
    taken d line ≡ None → after (Ok (at_state at k d [])) (line ++ 10 ∷ rest) ≡ Err (faults.Line (k + 1))
line_refused at k d line rest h l e =
    after-append (Ok (at_state at k d [])) line (10 ∷ rest)
    ∙ ap (λ r. after r (10 ∷ rest)) (inside_line at k d [] line h (omega arith))
    ∙ ap (λ r. after r rest) (feed (at + length line) k d line l ∙ ap (with_line (at + length line) k) e)
    ∙ after_err (faults.Line (k + 1)) rest

bad_again : (bytes : List ℕ) (k : ℕ) → HasBadLine bytes k → reading bytes ≡ Err (faults.Line k)
unfolding reading
bad_again bytes k (lines, d, line, rest, begins, count, inside, near, none) =
    let number : length lines + 1 ≡ k = omega (arith, count) in
    ap (λ t. finished (after (Ok start) t)) begins.parts
    ∙ ap finished (lines_start d lines (line ++ 10 ∷ rest) begins.order (omega (arith, near)))
    ∙ ap finished (line_refused (length (lines_text lines)) (length lines) d line rest inside near (no_line_taken d line (taken d line) none refl))
    ∙ ap (λ n. Err (faults.Line n)) number

length_parts : (bytes line : List ℕ) (lines : List Line) → bytes ≡ lines_text lines ++ line → length bytes ≡ length (lines_text lines) + length line
length_parts bytes line lines e = ap length e ∙ length-append (lines_text lines) line

-- bytes with this beginning lead to this state
begins_at : (bytes line : List ℕ) (lines : List Line) (d : Draft) → Begins bytes lines d line → IsWithinLine line →
    length bytes ≤ TEXT_LIMIT → after (Ok start) bytes ≡ Ok (at_state (length bytes) (length lines) d line)
begins_at bytes line lines d b h l =
    let long = length_parts bytes line lines b.parts in
    ap (after (Ok start)) b.parts
    ∙ lines_start d lines line b.order (omega (arith, long))
    ∙ inside_line (length (lines_text lines)) (length lines) d [] line h (omega (arith, long))
    ∙ ap (λ n. Ok (at_state n (length lines) d line)) (sym long)

some_open : (k : ℕ) (d : Draft) (line : List ℕ) → 0 < length line → finished_state k d line ≡ Err (faults.Line (k + 1))
some_open k d [] h = absurd (omega arith)
some_open k d (b ∷ line) h = refl

inside_again : (bytes : List ℕ) (k : ℕ) → EndsInside bytes k → reading bytes ≡ Err (faults.Line k)
unfolding reading
inside_again bytes k (lines, d, line, begins, count, inside, some, short) =
    let number : length lines + 1 ≡ k = omega (arith, count) in
    ap finished (begins_at bytes line lines d begins inside short) ∙ some_open (length lines) d line some ∙ ap (λ n. Err (faults.Line n)) number

before_again : (bytes : List ℕ) (k : ℕ) → EndsBefore bytes k → reading bytes ≡ Err (faults.Ends k)
unfolding reading
before_again bytes k (lines, d, begins, count, none, short) =
    let number : length lines + 1 ≡ k = omega (arith, count) in
    ap finished (begins_at bytes [] lines d begins tt short) ∙ ap (ended (length lines)) none ∙ ap (λ n. Err (faults.Ends n)) number

over_more : (at k : ℕ) (d : Draft) (line rest : List ℕ) → TEXT_LIMIT ≤ at → 0 < length rest → after (Ok (at_state at k d line)) rest ≡ Err faults.TooLong
over_more at k d line [] l h = absurd (omega arith)
over_more at k d line (b ∷ rest) l h = ap (λ r. after r rest) (over at k d line b (le-leb TEXT_LIMIT at l)) ∙ after_err faults.TooLong rest

long_again : (bytes : List ℕ) → IsTooLong bytes → reading bytes ≡ Err faults.TooLong
unfolding reading
long_again bytes (lines, d, line, begins, inside, long) =
    let full : length (take TEXT_LIMIT bytes) ≡ TEXT_LIMIT = length-take-le TEXT_LIMIT bytes (omega (arith, long)) in
    let left : 0 < length (drop TEXT_LIMIT bytes) = omega (arith, long, length-drop TEXT_LIMIT bytes) in
    ap (λ t. finished (after (Ok start) t)) (sym (take-append-drop TEXT_LIMIT bytes))
    ∙ ap finished (after-append (Ok start) (take TEXT_LIMIT bytes) (drop TEXT_LIMIT bytes))
    ∙ ap (λ r. finished (after r (drop TEXT_LIMIT bytes))) (begins_at (take TEXT_LIMIT bytes) line lines d begins inside (omega (arith, full)))
    ∙ ap finished (over_more (length (take TEXT_LIMIT bytes)) (length lines) d line (drop TEXT_LIMIT bytes) (omega (arith, full)) left)

-- an answer that the definitions allow is the reading
pub answers_only : (bytes : List ℕ) (answer : Result Report ReportFault) → SpeaksOfText answer → Answers bytes answer → reading bytes ≡ answer
answers_only bytes (Ok r) v h = ap reading h.text ∙ reading_again r h.allowed
answers_only bytes (Err (faults.Line k)) v (inl h) = bad_again bytes k h
answers_only bytes (Err (faults.Line k)) v (inr h) = inside_again bytes k h
answers_only bytes (Err faults.TooLong) v h = long_again bytes h
answers_only bytes (Err (faults.Ends k)) v h = before_again bytes k h
answers_only bytes (Err faults.Read) v h = absurd v
answers_only bytes (Err faults.Memory) v h = absurd v

-- ---- the laws

pub one_answer_lem : (bytes : List ℕ) (a b : Result Report ReportFault) → SpeaksOfText a → SpeaksOfText b → Answers bytes a → Answers bytes b → a ≡ b
one_answer_lem bytes a b v w h k = sym (answers_only bytes a v h) ∙ answers_only bytes b w k

pub one_text_lem : (a b : Report) → IsReport a → IsReport b → report_text a ≡ report_text b → a ≡ b
one_text_lem a b h k e = cc (reading_again a h, reading_again b k, ap reading e)

pub short_text_lem : (r : Report) → IsReport r → length (report_text r) ≤ TEXT_LIMIT
short_text_lem r h = let said = report_said r h in text_short r h (said_all nothing (report_lines r) said.0 tt said.1).2

-- the reading depends only on the text
finished_verdict : (k : ℕ) (d : Draft) (line : List ℕ) → SpeaksOfText (finished_state k d line)
finished_verdict k d [] = end_verdict k (finish d)
  where
    end_verdict : (k : ℕ) (o : Option Report) → SpeaksOfText (ended k o)
    end_verdict k None = tt
    end_verdict k (Some r) = tt
finished_verdict k d (b ∷ line) = tt

abbrev IsStepVerdict : Result State ReportFault → Type 0
IsStepVerdict (Ok s) = Unit {0}
IsStepVerdict (Err e) = SpeaksOfText (Err e)

step_verdict : (s : State) (b : ℕ) → IsStepVerdict (step s b)
step_verdict s b = by_tests (leb TEXT_LIMIT s.at) (eqb b 10) (taken s.draft s.open_line)
  where
    by_tests : (t u : Bool) (o : Option Draft) →
        IsStepVerdict (cond t (Err faults.TooLong) (cond u (with_line s.at s.lines o)
        (Ok (at_state (s.at + 1) s.lines s.draft (s.open_line ++ b ∷ [])))))
    by_tests true u o = tt
    by_tests false true None = tt
    by_tests false true (Some d) = tt
    by_tests false false o = tt

after_verdict : (r : Result State ReportFault) (bytes : List ℕ) → IsStepVerdict r → SpeaksOfText (finished (after r bytes))
after_verdict (Ok s) [] h = finished_verdict s.lines s.draft s.open_line
after_verdict (Ok s) (b ∷ bytes) h = after_verdict (step s b) bytes (step_verdict s b)
after_verdict (Err e) [] h = h
after_verdict (Err e) (b ∷ bytes) h = h

pub reading_verdict : (bytes : List ℕ) → SpeaksOfText (reading bytes)
unfolding reading
reading_verdict bytes = after_verdict (Ok start) bytes tt

-- the result is an answer
pub answers_seen : (bytes : List ℕ) (result : Result values.Report ReportFault) → Reads result (reading bytes) → Answers bytes (seen_result result)
answers_seen bytes (Ok r) h = subst (Answers bytes) h (reading_answers bytes)
answers_seen bytes (Err faults.Read) h = tt
answers_seen bytes (Err faults.Memory) h = tt
answers_seen bytes (Err fault) h = subst (Answers bytes) h (reading_answers bytes)

-- the reading of bytes that lead to this state is a report
allowed_after : (bytes : List ℕ) (s : State) (report : Report) → after (Ok start) bytes ≡ Ok s → finished (Ok s) ≡ Ok report → IsReport report
unfolding reading
allowed_after bytes s report h e = (subst (Answers bytes) (ap finished h ∙ e) (reading_answers bytes)).allowed

-- the result is a report, also if the bytes are unknown
pub report_allowed : (s : State) (result : Result values.Report ReportFault) →
    ((bytes : List ℕ) × (after (Ok start) bytes ≡ Ok s)) → Reads result (finished (Ok s)) →
    IfOk result (λ report. IsReport (seen_report report))
report_allowed s (Ok report) h e = allowed_after h.0 s (seen_report report) h.1 e
report_allowed s (Err fault) h e = search rules
