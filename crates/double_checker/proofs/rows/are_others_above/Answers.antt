use Rattle.std.proofs.Common.{◌+ℤ◌, inl, inr}
use Rattle.std.proofs.Math.Dec.{eqb→eq}
use Rattle.std.proofs.lemmas.Float.{T_from_true}
use Rattle.double_costs.specs.Units.{units_of}
use Rattle.double_checker.proofs.RowSteps.{above_more}
use Rattle.double_checker.proofs.rows.are_others_above.Goals as goal

pub loop-k-preserved : goal.loop-k-preserved
loop-k-preserved c = λ e.
    let now = c.both-holds.ensures e in
    above_more c.args.sense (units_of c.args.base +ℤ units_of c.args.margin) c.args.row.now c.args.prices.now
    c.args.own c.loop-k.k (c.loop-k.invariant now.0) (λ n. elim (c.either.ensures now.1) [
      | inl own ↦ absurd (n (eqb→eq c.loop-k.k c.args.own (T_from_true _ own)))
      | inr above ↦ c.is_above-is_worse.ensures above
    ])
