use Rattle.std.proofs.Common.{rules, arith, ◌≡◌, ℕ, ◌<◌, ◌+◌, ◌++◌, ◌∷◌, [], length, ◌∙◌, ap, sym, subst, Some, Option, List, length-append}
use Rattle.test_helpers.specs.inside.Plain.{IsFront, IsBestIn, Begins}
use Rattle.test_helpers.proofs.Tried.{IsBestSoFar, none_yet, step_taken, step_tried, all_tried, longer_front, object_at, whole_front, best_assigned}
use Rattle.test_helpers.proofs.plain.+best_after.Goals as goal
use Rattle.test_helpers.proofs.plain.+best_after.Goals.{then-not-is_among+in_ok-longer+in_ok-found, else-not-is_among}

pub returns-then-front-n : goal.returns-then-front-n
returns-then-front-n t c =
    let e : c.new.result ≡ c.args.front.now = c.new.ensures ∙ c.in_ok-objects.ensures.items_if_clones_equal (λ x y h. h) in
    subst (λ (xs : List ℕ). IsBestIn c.args.sense c.args.problem.now (Begins c.args.problem.now c.args.front.now) (Some xs)) (sym e)
    (whole_front c.args.sense c.args.problem.now c.args.front.now (omega arith) c.requires)

pub loop-object-init : goal.loop-object-init
loop-object-init t c = none_yet c.args.sense c.args.problem.now c.args.front.now c.row-object-items.result.now

pub best_after-requires : goal.best_after-requires
best_after-requires t c =
    let short : length c.args.front.now < length c.args.problem.now = omega arith in
    let now : c.as_slice.result.now ≡ c.args.front.now ++ c.loop-object-item.result.0 ∷ [] = c.as_slice.ensures.value ∙ c.in_ok-longer.ensures in
    let long : length c.as_slice.result.now ≡ length c.args.front.now + 1 = ap length now ∙ length-append c.args.front.now (c.loop-object-item.result.0 ∷ []) in
    let at = object_at c.row-object-items.result.now c.loop-object.object-index c.loop-object-item.result c.loop-object-test.true c.loop-object-item.is in (
      omega arith,
      subst (λ (xs : List ℕ). IsFront c.args.problem.now xs) (sym now)
          (longer_front c.args.problem.now c.args.front.now c.row-object-items.result.now c.loop-object.object-index c.loop-object-item.result.0
          short c.requires c.row-object-items.ensures.row (omega arith) at (λ k. let f = c.if-not-is_among.ensures.1 k in absurd (search rules))),
    )

pub better-best-requires-clause-first : goal.better-best-requires-clause-first
better-best-requires-clause-first t c =
    best_assigned c.args.sense c.args.problem.now _ c.loop-object.best (λ ys a. a.begins.assigned) c.loop-object.invariant

pub better-best-requires-clause-second : goal.better-best-requires-clause-second
better-best-requires-clause-second t c =
    best_assigned c.args.sense c.args.problem.now _ c.in_ok-found.found (λ ys a. a.assigned) c.in_ok-found.ensures

pub loop-object-preserved : goal.loop-object-preserved
loop-object-preserved t c =
    let short : length c.args.front.now < length c.args.problem.now = omega arith in
    let at = object_at c.row-object-items.result.now c.loop-object.object-index c.loop-object-item.result c.loop-object-test.true c.loop-object-item.is in
    elim c.if-not-is_among.branch [
      | then-not-is_among+in_ok-longer+in_ok-found w ↦
          let now : w.as_slice.result.now ≡ c.args.front.now ++ c.loop-object-item.result.0 ∷ [] = w.as_slice.ensures.value ∙ w.in_ok-longer.ensures in
          let found = subst (λ (xs : List ℕ). IsBestIn c.args.sense c.args.problem.now
          (Begins c.args.problem.now xs) w.in_ok-found.found) now w.in_ok-found.ensures in
          subst (λ (a : Option (List ℕ)). IsBestSoFar c.args.sense c.args.problem.now c.args.front.now
          c.row-object-items.result.now (c.loop-object.object-index + 1) a)
          (sym w.best-is)
          (step_tried c.args.sense c.args.problem.now c.args.front.now c.row-object-items.result.now c.loop-object.object-index c.loop-object-item.result.0
          c.loop-object.best w.in_ok-found.found w.better-best.result short at c.loop-object.invariant found w.better-best.ensures)
      | else-not-is_among w ↦
          subst (λ (a : Option (List ℕ)). IsBestSoFar c.args.sense c.args.problem.now c.args.front.now
          c.row-object-items.result.now (c.loop-object.object-index + 1) a)
          (sym w.best-is)
          (step_taken c.args.sense c.args.problem.now c.args.front.now c.row-object-items.result.now c.loop-object.object-index c.loop-object-item.result.0
          c.loop-object.best short at (w.if-not-is_among.ensures.0 (search rules)) c.loop-object.invariant)
    ]

pub returns : goal.returns
returns t c =
    all_tried c.args.sense c.args.problem.now c.args.front.now c.row-object-items.result.now c.loop-object.object-index c.loop-object.best
    (omega arith) c.row-object-items.ensures.row (omega arith) c.loop-object.invariant
