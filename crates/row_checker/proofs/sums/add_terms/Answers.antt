use Rattle.std.proofs.Common.{rules, ◌≡◌, pos, ◌+◌, ◌+ℤ◌, ◌*ℤ◌, arith, SFits, w64, get_or, set, drop, refl, ap, ◌∙◌, sym, subst}
use Rattle.std.specs.Int.{w128}
use Rattle.std.proofs.lemmas.Int.{ints, to_z-of_z, fits_signed_from_abs}
use Rattle.std.proofs.lemmas.List.{drop_all}
use lib.IntN.{*ℤ-zero}
use Rattle.row_checker.specs.declared.row.Multiple.{Multiple}
use Rattle.row_checker.specs.Leaves.{coefficient}
use Rattle.row_checker.proofs.Weighing.{IsAdding, term_fits, term_passed, term_weighed}
use Rattle.row_checker.proofs.sums.add_terms.Goals as goal
use Rattle.row_checker.proofs.sums.add_terms.Goals.{then-term-weights, else-term-weights}

pub overflow_add-weights : goal.overflow_add-weights
overflow_add-weights c =
    let i = c.loop-term.term-index in
    let ws = c.loop-term.weights in
    let t : Multiple = get_or c.args.terms.now i (record { of = 0; times = pos 0 }) in
    let f : SFits w128 (get_or ws t.of (pos 0)) = search rules in
    let p : SFits w128 c.product.result = search rules in
    let m = c.ranges.times in
    let ft : SFits w64 t.times = search rules in
    let x : c.product.result ≡ c.args.times *ℤ t.times = simp to_z-of_z at c.product.ensures in
    let h : IsAdding c.args.weights.now ws c.args.times c.args.terms.now (drop i c.args.terms.now) = simp to_z-of_z at c.loop-term.invariant in
    let fits : SFits w128 (get_or ws t.of (pos 0) +ℤ c.product.result) =
    fits_signed_from_abs w128 _ (term_fits c.args.weights.now ws c.args.terms.now i c.args.times
    (get_or ws t.of (pos 0)) c.product.result t (record { of = 0; times = pos 0 }) c.loop-term-test.true refl
    c.if-term-weights.true c.loop-term.auto.weights refl x h) in
    simp to_z-of_z fits

pub loop-term-preserved : goal.loop-term-preserved
loop-term-preserved c =
    let i = c.loop-term.term-index in
    let ws = c.loop-term.weights in
    let t : Multiple = get_or c.args.terms.now i (record { of = 0; times = pos 0 }) in
    let m = c.ranges.times in
    let h : IsAdding c.args.weights.now ws c.args.times c.args.terms.now (drop i c.args.terms.now) = simp to_z-of_z at c.loop-term.invariant in
    elim c.if-term-weights.branch [
      | then-term-weights w ↦
          let ft : SFits w64 t.times = search rules in
          let f : SFits w128 (get_or ws t.of (pos 0)) = search rules in
          let p : SFits w128 w.product.result = search rules in
          let x : w.product.result ≡ c.args.times *ℤ t.times = simp to_z-of_z at w.product.ensures in
          let fits : SFits w128 (get_or ws t.of (pos 0) +ℤ w.product.result) =
          fits_signed_from_abs w128 _ (term_fits c.args.weights.now ws c.args.terms.now i c.args.times
          (get_or ws t.of (pos 0)) w.product.result t (record { of = 0; times = pos 0 })
          c.loop-term-test.true refl w.if-term-weights.true c.loop-term.auto.weights refl x h) in
          let is : c.if-term-weights.weights ≡ set ws t.of (get_or ws t.of (pos 0) +ℤ w.product.result) = simp to_z-of_z at w.weights-is in
          let s : IsAdding c.args.weights.now (set ws t.of (get_or ws t.of (pos 0) +ℤ w.product.result))
          c.args.times c.args.terms.now (drop (i + 1) c.args.terms.now) =
          term_weighed c.args.weights.now ws c.args.terms.now i c.args.times (get_or ws t.of (pos 0)) _ t
          (record { of = 0; times = pos 0 }) c.loop-term-test.true refl w.if-term-weights.true
          c.loop-term.auto.weights refl (ap (λ v. get_or ws t.of (pos 0) +ℤ v) x) h in
          simp to_z-of_z (subst (λ l. IsAdding c.args.weights.now l c.args.times c.args.terms.now (drop (i + 1) c.args.terms.now)) (sym is) s)
      | else-term-weights w ↦
          let s : IsAdding c.args.weights.now ws c.args.times c.args.terms.now (drop (i + 1) c.args.terms.now) =
          term_passed c.args.weights.now ws c.args.terms.now i c.args.times t (record { of = 0; times = pos 0 })
          c.loop-term-test.true refl w.if-term-weights.false c.loop-term.auto.weights h in
          simp to_z-of_z (subst (λ l. IsAdding c.args.weights.now l c.args.times c.args.terms.now (drop (i + 1) c.args.terms.now)) (sym w.weights-is) s)
    ]

pub returns : goal.returns
returns c = λ k lt.
    let m = c.ranges.times in
    let i = c.loop-term.term-index in
    let h : IsAdding c.args.weights.now c.loop-term.weights c.args.times c.args.terms.now (drop i c.args.terms.now) = simp to_z-of_z at c.loop-term.invariant in
    let n : c.args.times *ℤ coefficient k (drop i c.args.terms.now) ≡ pos 0 =
    ap (λ l. c.args.times *ℤ coefficient k l) (drop_all i c.args.terms.now
    (omega (arith, c.loop-term-test.false))) ∙ *ℤ-zero c.args.times in
    let s = h.sums k lt in
    omega (arith, ints)
