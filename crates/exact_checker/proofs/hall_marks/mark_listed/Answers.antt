use Rattle.std.proofs.Common.{ℕ, ◌+◌, length, get_or, refl, arith, sym, subst, ◌∙◌, inl, inr}
use Rattle.std.proofs.lemmas.Bool.{false≢true}
use Rattle.assign_core.specs.Numbered.{IsNumber, IsMarked}
use Rattle.dual_checker.specs.HallMarks.{AddsMarks}
use Rattle.dual_checker.proofs.HallMarking.{adds_same}
use Rattle.exact_checker.specs.inside.Marked.{IsListedByMarked}
use Rattle.exact_checker.proofs.Marks.{IsFit, fit_skip, fit_take, mark_read}
use Rattle.exact_checker.proofs.hall_marks.mark_listed.Goals as goal
use Rattle.exact_checker.proofs.hall_marks.mark_listed.Goals.{then-chosen-pairs, else-chosen-pairs}

pub loop-k-init : goal.loop-k-init
loop-k-init c = λ j. ((λ m. inl m), (λ o. elim o [ inl was ↦ was | inr fit ↦ absurd (let lt = fit.1 in omega arith) ]))

pub loop-k-preserved : goal.loop-k-preserved
loop-k-preserved c =
    let p = c.args.pairs in
    let k = c.loop-k.k in
    let i : ℕ = get_or p.persons.now k 0 in
    let x : ℕ = get_or p.objects.now k 0 in
    let Fit : ℕ → Type 0 = λ q. IsMarked c.args.chosen.now (get_or p.persons.now q 0) in
    let read = mark_read c.args.chosen.now i (c.requires.pairs.persons_in k 0 c.loop-k-test.true) in
    let start = c.args.listed.now in
    elim c.if-chosen-pairs.branch [
      | then-chosen-pairs w ↦
          let long = c.requires.pairs.objects_long in
          let same = c.loop-k.auto.listed in
          let inside = c.requires.pairs.objects_in k 0 (let lt = c.loop-k-test.true in omega arith) in
          let number : IsNumber (length c.loop-k.listed) x = subst (λ n. IsNumber n x) (sym same) inside in
          subst (AddsMarks start (IsFit p.objects.now Fit (k + 1))) (sym w.listed-is)
          (fit_take p.objects.now Fit start k x c.loop-k.listed (read ∙ w.if-chosen-pairs.true) refl number c.loop-k.invariant)
      | else-chosen-pairs w ↦
          subst (AddsMarks start (IsFit p.objects.now Fit (k + 1))) (sym w.listed-is)
          (fit_skip p.objects.now Fit start k c.loop-k.listed (λ m. false≢true (sym w.if-chosen-pairs.false ∙ sym read ∙ m)) c.loop-k.invariant)
    ]

pub returns : goal.returns
returns c =
    let p = c.args.pairs in
    let end = c.loop-k-test.false in
    let most = c.loop-k.auto.k-end in
    let Fit : ℕ → Type 0 = λ q. IsMarked c.args.chosen.now (get_or p.persons.now q 0) in
    adds_same (IsFit p.objects.now Fit c.loop-k.k) (IsListedByMarked p c.args.chosen.now) c.args.listed.now c.loop-k.listed (λ j. (
      (λ f. let lt = f.1 in (get_or p.persons.now f.0 0, f.2, (f.0, omega arith, refl, f.3))),
      (λ h. let lt = h.2.1 in (h.2.0, omega arith, subst (IsMarked c.args.chosen.now) (sym h.2.2) h.1, h.2.3)),
    )) c.loop-k.invariant
