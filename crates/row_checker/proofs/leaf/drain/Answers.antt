use Rattle.std.proofs.Common.{rules, ◌≡◌, pos, ◌+◌, ◌-◌, ◌^◌, min, drop, get_or, set, refl, ap, arith, SFits, subst, sym, ◌∙◌}
use Rattle.std.specs.Int.{w128}
use Rattle.std.proofs.lemmas.Int.{to_z-of_z}
use Rattle.std.proofs.lemmas.List.{drop_all}
use Rattle.row_checker.specs.Leaves.{above_0}
use Rattle.row_checker.specs.inside.Weights.{is_among}
use Rattle.row_checker.proofs.Draining.{IsDraining, drained_more, passed_more, greatest_of_0}
use Rattle.row_checker.proofs.leaf.drain.Goals as goal
use Rattle.row_checker.proofs.leaf.drain.Goals.{then-variable-weights, else-variable-weights}

pub loop-variable-preserved : goal.loop-variable-preserved
loop-variable-preserved c =
    let i = c.loop-variable.variable-index in
    let ws = c.loop-variable.weights in
    let all = c.args.touched.now in
    let h = c.loop-variable.invariant in
    elim c.if-variable-weights.branch [
      | then-variable-weights w ↦
          let v = get_or all i 0 in
          let f : SFits w128 (get_or ws v (pos 0)) = search rules in
          let a : w.above.result ≡ above_0 (get_or ws v (pos 0)) = simp to_z-of_z at w.above.ensures in
          let e : w.saturating_add-sum.result ≡ min (c.loop-variable.sum + above_0 (get_or ws v (pos 0)))
          (2 ^ 128 - 1) = w.saturating_add-sum.ensures ∙ ap (λ x. min (c.loop-variable.sum + x) (2 ^ 128 - 1)) a in
          subst (λ l. IsDraining c.args.weights.now l c.if-variable-weights.sum (drop (i + 1) all)) (sym w.weights-is)
          (subst (λ x. IsDraining c.args.weights.now (set ws v (pos 0)) x (drop (i + 1) all)) (sym w.sum-is)
          (drained_more c.args.weights.now ws c.loop-variable.sum w.saturating_add-sum.result all i v
          c.loop-variable-test.true refl w.if-variable-weights.true e h))
      | else-variable-weights w ↦
          subst (λ l. IsDraining c.args.weights.now l c.if-variable-weights.sum (drop (i + 1) all)) (sym w.weights-is)
          (subst (λ x. IsDraining c.args.weights.now ws x (drop (i + 1) all)) (sym w.sum-is)
          (passed_more c.args.weights.now ws c.loop-variable.sum all i (get_or all i 0) c.loop-variable-test.true refl w.if-variable-weights.false h))
    ]

pub returns-clause-sum : goal.returns-clause-sum
returns-clause-sum c =
    let z = greatest_of_0 c.loop-variable.weights (λ k. c.loop-variable.invariant.zero k
    (ap (is_among k) (drop_all c.loop-variable.variable-index c.args.touched.now
    (omega (arith, c.loop-variable-test.false))))) in
    let s = c.loop-variable.invariant.sums in
    let f = c.loop-variable.invariant.fits in
    omega arith
