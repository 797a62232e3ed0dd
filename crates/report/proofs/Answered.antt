-- What is read is an allowed answer.
use Rattle.std.proofs.Common.{◌≡◌, ◌≢◌, ℕ, ◌<◌, ◌≤◌, ◌+◌, inl, inr, List, [], ◌∷◌, ◌++◌, Bool, true, false}
use Rattle.std.proofs.Common.{eqb, leb, Option, Some, None, Ok, Err, length}
use Rattle.std.proofs.Common.{refl, sym, ap, subst, ◌∙◌, arith}
use Rattle.std.proofs.Common.{append_assoc, append-nil}
use Rattle.std.proofs.lemmas.Bool.{eqb-true, eqb-false, leb-true, leb-false}
use Rattle.std.proofs.lemmas.List.{length-append, take_at}
use Rattle.report.specs.declared.fault.ReportFault.TheVariants as faults
use Rattle.report.specs.Reports.{Report}
use Rattle.report.specs.Lines.{Line, line_text, lines_text}
use Rattle.report.specs.Order.{Draft, nothing, follow, finish, and_follow, said_by}
use Rattle.report.specs.declared.limits.TheConstants.{TEXT_LIMIT}
use Rattle.report.specs.Answers.{IsWithinLine, Begins, IsNoLine, HasBadLine, IsTooLong, Answers}
use Rattle.report.specs.inside.Reading.{line_in}
use Rattle.report.specs.inside.Steps.{State, with_line, taken, step, after, ended, finished_state, finished}
use Rattle.report.specs.inside.Steps.{reading}
use Rattle.report.proofs.Elements.{all-append}
use Rattle.report.proofs.NumeralLemmas.{bind_some}
use Rattle.report.proofs.LineWords.{line_again}
use Rattle.report.proofs.LineLemmas.{line_takes}
use Rattle.report.proofs.OrderLemmas.{IsDraft, follow_adds}
use Rattle.report.proofs.SaidLemmas.{follow-append, said_all, finish_takes}
use Rattle.report.proofs.StepLemmas.{at_state, byte_in_line, feed}
use Rattle.report.proofs.TextLengths.{lines-append}
use Rattle.report.proofs.Streams.{after_err}

-- ---- what is read is an allowed answer

-- the state that these bytes lead to
pub record Reached (bytes : List ℕ) (at k : ℕ) (draft : Draft) (line : List ℕ) : Type 0 where
  lines : List Line
  begins : Begins bytes lines draft line
  count : k ≡ length lines
  inside : IsWithinLine line
  far : at ≡ length bytes
  near : at ≤ TEXT_LIMIT

pub is_draft : (lines : List Line) (d : Draft) → said_by lines ≡ Some d → IsDraft d
is_draft lines d e = (said_all nothing lines d tt e).1

pub no_line : (d : Draft) (line : List ℕ) → IsDraft d → taken d line ≡ None → IsNoLine d line
unfolding taken
no_line d line h e l next t f =
    let a = follow_adds d l next h f in
    let r : line_in line ≡ Some l = ap line_in (sym t) ∙ line_again l a.2 in
    let g : taken d line ≡ Some next = rw r f in
    cc

pub bad_line : (done rest : List ℕ) (at k : ℕ) (d : Draft) (line : List ℕ) → Reached done at k d line →
    at < TEXT_LIMIT → taken d line ≡ None → HasBadLine (done ++ 10 ∷ rest) (k + 1)
bad_line done rest at k d line r l e = (
  r.lines,
  d,
  line,
  rest,
  record { parts = ap (λ t. t ++ 10 ∷ rest) r.begins.parts ∙ append_assoc (lines_text r.lines) line (10 ∷ rest); order = r.begins.order },
  omega (arith, r.count),
  r.inside,
  omega (arith, l, r.far, ap length r.begins.parts, length-append (lines_text r.lines) line),
  no_line d line (is_draft r.lines d r.begins.order) e,
)

pub taken_takes : (d next : Draft) (line : List ℕ) → taken d line ≡ Some next → (l : Line) × (line_text l ≡ line) × (follow d l ≡ Some next)
unfolding taken
taken_takes d next line e = let b = bind_some (line_in line) (λ l. follow d l) next e in (b.0, (line_takes line b.0 b.1).0, b.2)

pub whole_line : (done : List ℕ) (at k : ℕ) (d next : Draft) (line : List ℕ) → Reached done at k d line →
    at < TEXT_LIMIT → taken d line ≡ Some next → Reached (done ++ 10 ∷ []) (at + 1) (k + 1) next []
whole_line done at k d next line r l e =
    let t = taken_takes d next line e in
    let one : lines_text (t.0 ∷ []) ≡ line ++ 10 ∷ [] = ap (λ x. x ++ 10 ∷ []) t.1 in
    record {
      lines = r.lines ++ t.0 ∷ [];
      begins = record {
        parts = ap (λ x. x ++ 10 ∷ []) r.begins.parts ∙ append_assoc (lines_text r.lines) line (10 ∷ []) ∙
            ap (λ x. lines_text r.lines ++ x) (sym one) ∙ sym (lines-append r.lines (t.0 ∷ [])) ∙
            sym (append-nil (lines_text (r.lines ++ t.0 ∷ [])));
        order = follow-append (Some nothing) r.lines (t.0 ∷ []) ∙ ap (λ o. and_follow o t.0) r.begins.order ∙ t.2;
      };
      count = omega (arith, r.count, length-append r.lines (t.0 ∷ []));
      inside = tt;
      far = omega (arith, r.far, length-append done (10 ∷ []));
      near = omega (arith, l);
    }

pub byte_more : (done : List ℕ) (at k : ℕ) (d : Draft) (line : List ℕ) (b : ℕ) → Reached done at k d line →
    at < TEXT_LIMIT → b ≢ 10 → Reached (done ++ b ∷ []) (at + 1) k d (line ++ b ∷ [])
byte_more done at k d line b r l e = record {
  lines = r.lines;
  begins = record { parts = ap (λ x. x ++ b ∷ []) r.begins.parts ∙ append_assoc (lines_text r.lines) line (b ∷ []); order = r.begins.order };
  count = r.count;
  inside = all-append (λ x. x ≢ 10) line (b ∷ []) r.inside (e, tt);
  far = omega (arith, r.far, length-append done (b ∷ []));
  near = omega (arith, l);
}

pub too_long : (done rest : List ℕ) (at k : ℕ) (d : Draft) (line : List ℕ) (b : ℕ) → Reached done at k d line → TEXT_LIMIT ≤ at → IsTooLong (done ++ b ∷ rest)
too_long done rest at k d line b r l =
    let long : length done ≡ TEXT_LIMIT = omega (arith, l, r.far, r.near) in (
      r.lines,
      d,
      line,
      record {
        parts = take_at done (b ∷ rest) TEXT_LIMIT long ∙ r.begins.parts;
        order =
            r.begins.order;
      },
      r.inside,
      omega (arith, long, length-append done (b ∷ rest)),
    )

-- the result that a state leads to
abbrev pub Leads : List ℕ → List ℕ → State → Type 0
Leads done rest s = Answers (done ++ rest) (finished (after (Ok s) rest))

pub at_line_end : (done rest : List ℕ) (at k : ℕ) (d : Draft) (line : List ℕ) (o : Option Draft) → Reached done at k d line → at < TEXT_LIMIT → taken d line ≡ o
    → ((at k : ℕ) (d : Draft) (line : List ℕ) → Reached (done ++ 10 ∷ []) at k d line → Leads (done ++ 10 ∷ []) rest (at_state at k d line))
    → Answers (done ++ 10 ∷ rest) (finished (after (with_line at k o) rest))
at_line_end done rest at k d line None r l e again = rw (after_err (faults.Line (k + 1)) rest) (inl (bad_line done rest at k d line r l e))
at_line_end done rest at k d line (Some next) r l e again =
    subst (λ x. Answers x (finished (after (with_line at k (Some next)) rest))) (append_assoc done (10 ∷ []) rest)
    (again (at + 1) (k + 1) next [] (whole_line done at k d next line r l e))

pub by_feed : (done rest : List ℕ) (at k : ℕ) (d : Draft) (line : List ℕ) (b : ℕ) (t : Bool) → eqb b 10 ≡ t → Reached done at k d line → at < TEXT_LIMIT
    → ((at k : ℕ) (d : Draft) (line : List ℕ) → Reached (done ++ b ∷ []) at k d line → Leads (done ++ b ∷ []) rest (at_state at k d line))
    → Answers (done ++ b ∷ rest) (finished (after (step (at_state at k d line) b) rest))
by_feed done rest at k d line b true t r l again =
    let is = eqb-true b 10 t in
    let c = at_line_end done rest at k d line (taken d line) r l refl
    (subst (λ x. (at k : ℕ) (d : Draft) (line : List ℕ) → Reached (done ++ x ∷ []) at k d line →
    Leads (done ++ x ∷ []) rest (at_state at k d line)) is again) in
    subst (λ x. Answers (done ++ x ∷ rest) (finished (after (step (at_state at k d line) x) rest))) (sym is)
    (subst (λ x. Answers (done ++ 10 ∷ rest) (finished (after x rest))) (sym (feed at k d line l)) c)
by_feed done rest at k d line b false t r l again =
    let not = eqb-false b 10 t in
    let c = subst (λ x. Answers x (finished (after (Ok (at_state (at + 1) k d (line ++ b ∷ []))) rest)))
    (append_assoc done (b ∷ []) rest) (again (at + 1) k d (line ++ b ∷ [])
    (byte_more done at k d line b r l not)) in
    subst (λ x. Answers (done ++ b ∷ rest) (finished (after x rest))) (sym (byte_in_line at k d line b l not)) c

pub over : (at k : ℕ) (d : Draft) (line : List ℕ) (b : ℕ) → leb TEXT_LIMIT at ≡ true → step (at_state at k d line) b ≡ Err faults.TooLong
over at k d line b t = rw t refl

pub by_limit : (done rest : List ℕ) (at k : ℕ) (d : Draft) (line : List ℕ) (b : ℕ) (t : Bool) → leb TEXT_LIMIT at ≡ t → Reached done at k d line
    → ((at k : ℕ) (d : Draft) (line : List ℕ) → Reached (done ++ b ∷ []) at k d line → Leads (done ++ b ∷ []) rest (at_state at k d line))
    → Answers (done ++ b ∷ rest) (finished (after (step (at_state at k d line) b) rest))
by_limit done rest at k d line b true t r again =
    subst (λ x. Answers (done ++ b ∷ rest) (finished x)) (sym (ap (λ x. after x rest) (over at k d line b t) ∙
    after_err faults.TooLong rest)) (too_long done rest at k d line b r (leb-true TEXT_LIMIT at t))
by_limit done rest at k d line b false t r again = by_feed done rest at k d line b (eqb b 10) refl r (leb-false TEXT_LIMIT at t) again

-- the text ends
pub end_of : (bytes : List ℕ) (at k : ℕ) (d : Draft) (o : Option Report) → finish d ≡ o → Reached bytes at k d [] → Answers bytes (ended k o)
end_of bytes at k d None e r = (r.lines, d, r.begins, omega (arith, r.count), e, omega (arith, r.far, r.near))
end_of bytes at k d (Some report) e r =
    let s = said_all nothing r.lines d tt r.begins.order in
    let f = finish_takes d report s.1 e in
    record { allowed = f.1; text = r.begins.parts ∙ append-nil (lines_text r.lines) ∙ ap lines_text (sym (f.0 ∙ s.0)) }

pub at_end_of : (bytes : List ℕ) (at k : ℕ) (d : Draft) (line : List ℕ) → Reached bytes at k d line → Answers bytes (finished_state k d line)
at_end_of bytes at k d [] r = end_of bytes at k d (finish d) refl r
at_end_of bytes at k d (b ∷ line) r = inr (r.lines, d, b ∷ line, r.begins, omega (arith, r.count), r.inside, omega arith, omega (arith, r.far, r.near))

pub leads : (done rest : List ℕ) (at k : ℕ) (d : Draft) (line : List ℕ) → Reached done at k d line → Leads done rest (at_state at k d line)
leads done [] at k d line r = subst (λ x. Answers x (finished_state k d line)) (sym (append-nil done)) (at_end_of done at k d line r)
leads done (b ∷ rest) at k d line r = by_limit done rest at k d line b (leb TEXT_LIMIT at) refl r (λ at k d line r. leads (done ++ b ∷ []) rest at k d line r)

pub reading_answers : (bytes : List ℕ) → Answers bytes (reading bytes)
unfolding reading
reading_answers bytes = leads [] bytes 0 0 nothing [] (record {
  lines = [];
  begins = record {
    parts = refl;
    order =
        refl;
  };
  count = refl;
  inside = tt;
  far = refl;
  near = omega arith;
})
