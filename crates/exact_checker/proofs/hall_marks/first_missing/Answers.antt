use Rattle.std.proofs.Common.{◌≡◌, ℕ, ◌+◌, length, get_or, refl, arith, sym, subst, ◌∙◌}
use Rattle.assign_core.specs.Numbered.{IsMarked}
use Rattle.exact_checker.specs.inside.Marked.{IsMissing}
use Rattle.exact_checker.proofs.Earliest.{IsFirstSoFar, first_found, first_skip, first_take}
use Rattle.exact_checker.proofs.HallPairs.{pair_range}
use Rattle.exact_checker.proofs.Marks.{mark_read}
use Rattle.exact_checker.proofs.hall_marks.first_missing.Goals as goal
use Rattle.exact_checker.proofs.hall_marks.first_missing.Goals.{then-is_missing, else-is_missing}

pub loop-k-init : goal.loop-k-init
loop-k-init c = λ q lt. absurd (omega arith)

pub loop-k-preserved : goal.loop-k-preserved
loop-k-preserved c =
    let p = c.args.pairs in
    let k = c.loop-k.k in
    let i : ℕ = get_or p.persons.now k 0 in
    let j : ℕ = get_or p.objects.now k 0 in
    let Bad : ℕ → Type 0 = λ q. IsMarked c.args.chosen.now (get_or p.persons.now q 0) × ¬ IsMarked c.args.named.now (get_or p.objects.now q 0) in
    let person = mark_read c.args.chosen.now i (c.requires.persons_in k 0 c.loop-k-test.true) in
    let object = mark_read c.args.named.now j (c.requires.objects_in k 0 (let long = c.requires.objects_long in let lt = c.loop-k-test.true in omega arith)) in
    elim c.if-is_missing.branch [
      | then-is_missing w ↦
          let says = c.is_missing.ensures.0 w.if-is_missing.true in
          let bad : Bad k = (person ∙ says.0, λ m. says.1 (sym object ∙ m)) in
          subst (IsFirstSoFar p.persons.now p.objects.now Bad (k + 1)) (sym w.first-is)
          (first_take p.persons.now p.objects.now Bad k c.loop-k.first i j w.earlier.result bad refl refl w.earlier.ensures c.loop-k.invariant)
      | else-is_missing w ↦
          let good : ¬ Bad k = λ bad. let yes = c.is_missing.ensures.1 (sym person ∙ bad.0, λ m. bad.1 (object ∙ m)) in let f = w.if-is_missing.false in cc in
          subst (IsFirstSoFar p.persons.now p.objects.now Bad (k + 1)) (sym w.first-is)
          (first_skip p.persons.now p.objects.now Bad k c.loop-k.first good c.loop-k.invariant)
    ]

pub returns : goal.returns
returns c =
    let p = c.args.pairs in
    let chosen = c.args.chosen.now in
    let named = c.args.named.now in
    let Bad : ℕ → Type 0 = λ q. IsMarked chosen (get_or p.persons.now q 0) × ¬ IsMarked named (get_or p.objects.now q 0) in
    let end = c.loop-k-test.false in
    let most = c.loop-k.auto.k-end in
    let whole : c.loop-k.k ≡ length p.persons.now = omega arith in
    let last : IsFirstSoFar p.persons.now p.objects.now Bad (length p.persons.now) c.loop-k.first =
    subst (λ k. IsFirstSoFar p.persons.now p.objects.now Bad k c.loop-k.first) whole c.loop-k.invariant in
    first_found p.persons.now p.objects.now Bad (IsMissing p chosen named) (length chosen) (length named) (length p.persons.now) c.loop-k.first
    (λ q lt bad. (bad.0, (q, lt, refl, refl), bad.1))
    (λ i j h. record {
      place = h.1.0;
      before = h.1.1;
      bad = (subst (IsMarked chosen) (sym h.1.2) h.0, λ m. h.2 (subst (IsMarked named) h.1.3 m));
      person = h.1.2;
      object = h.1.3;
    })
    (λ i j h. pair_range (length chosen) (length named) p c.requires i j h.1) last
