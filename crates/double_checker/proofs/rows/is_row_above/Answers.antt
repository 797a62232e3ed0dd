use Rattle.std.proofs.Common.{◌+ℤ◌, length, sym, ◌∙◌}
use mathlib.Core.Bool.{true≢false}
use Rattle.double_costs.specs.Units.{units_of}
use Rattle.double_checker.specs.inside.Pairs.{at, paid}
use Rattle.double_checker.proofs.RowSteps.{above_more, at_least_above, at_least_own, least_by_above, least_more}
use Rattle.double_checker.proofs.rows.is_row_above.Goals as goal
use Rattle.double_checker.proofs.rows.is_row_above.Goals.{then-not-is_above+then-k-own+else-not-is_at_least}
use Rattle.double_checker.proofs.rows.is_row_above.Goals.{else-not-is_above}
use Rattle.double_checker.proofs.rows.is_row_above.Goals.{else-not-is_above-via-then-not-is_above+else-k-own}
use Rattle.double_checker.proofs.rows.is_row_above.Goals.{else-not-is_above-via-else-not-is_above}
use Rattle.std.proofs.Common.{subst, ℕ}
use Rattle.double_checker.specs.inside.Pairs.{IsAtLeast}

pub loop-k-preserved : goal.loop-k-preserved
loop-k-preserved c =
    let sense = c.args.sense in
    let row = c.args.row.now in
    let prices = c.args.prices.now in
    let own = c.args.own in
    let k = c.loop-k.k in
    let bound = paid sense (at row own) (at prices own) in
    let above = units_of c.args.base +ℤ units_of c.args.margin in
    let so_far = c.loop-k.invariant in
    elim c.if-not-is_above.branch [
      | then-not-is_above+then-k-own+else-not-is_at_least w ↦ record {
        least = least_more sense bound row prices k so_far.least
            (w.is_at_least.ensures.seen w.if-not-is_at_least.false);
        above = λ e. absurd (true≢false (sym e ∙ w.by_margin-is));
      }
      | else-not-is_above w ↦ elim w.else-not-is_above.branch [
        | else-not-is_above-via-then-not-is_above+else-k-own v ↦ record {
          least = least_more sense bound row prices k so_far.least
              (subst (λ (i : ℕ). IsAtLeast sense bound (at row i) (at prices i)) (sym v.if-k-own.false)
              (at_least_own sense (at row own) (at prices own) c.requires.finite));
          above = λ e. above_more sense above row prices own k (so_far.above (sym w.by_margin-is ∙ e))
              (λ n. absurd (n v.if-k-own.false));
        }
        | else-not-is_above-via-else-not-is_above v ↦ record {
          least = least_more sense bound row prices k so_far.least
              (at_least_above sense bound above (at row k) (at prices k) c.requires.enough
              (c.is_above.ensures v.if-not-is_above.false));
          above = λ e. above_more sense above row prices own k (so_far.above (sym w.by_margin-is ∙ e))
              (λ n. c.is_above.ensures v.if-not-is_above.false);
        }
      ]
    ]

pub returns-then-are_others_above : goal.returns-then-are_others_above
returns-then-are_others_above c =
    let above = c.are_others_above.ensures c.if-are_others_above.true in (
      least_by_above c.args.sense (units_of c.args.base +ℤ units_of c.args.margin) c.args.row.now c.args.prices.now
          c.args.own c.requires.finite c.requires.enough (length c.args.row.now) above,
      λ e. above,
    )
