use Rattle.std.proofs.Common.{arith, sym, ◌∙◌}
use mathlib.Core.Bool.{true≢false}
use Rattle.plan_checker.proofs.Parts.{parts_rise}
use Rattle.plan_checker.proofs.rows.row_rises.Goals as goal

pub returns-then-not-block_rises : goal.returns-then-not-block_rises
returns-then-not-block_rises c = (
  (λ e. absurd (true≢false (sym e))),
  (λ all. absurd (true≢false (sym (c.block_rises.ensures.1 (λ j lt from. all j (omega arith))) ∙ c.if-not-block_rises.true))),
)

pub loop-at-preserved : goal.loop-at-preserved
loop-at-preserved c = record {
  within = omega arith;
  rise = parts_rise c.args.plan c.args.person c.args.row.now c.loop-at.at _ c.loop-at.invariant.rise
      (c.block_rises.ensures.0 c.if-not-block_rises.false);
}

pub returns : goal.returns
returns c = (
  (λ yes j lt. parts_rise c.args.plan c.args.person c.args.row.now c.loop-at.at _ c.loop-at.invariant.rise
      (c.part_rises.ensures.0 yes) j lt (omega arith)),
  (λ all. c.part_rises.ensures.1 (λ j lt from. all j lt)),
)
