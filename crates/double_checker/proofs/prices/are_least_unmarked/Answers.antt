use Rattle.std.proofs.Common.{refl, sym}
use mathlib.Core.Bool.{true≢false}
use Rattle.double_checker.proofs.Unmarked.{least_more, not_least, all_least}
use Rattle.double_checker.proofs.prices.are_least_unmarked.Goals as goal

pub returns-then-is_too_dear : goal.returns-then-is_too_dear
returns-then-is_too_dear c =
    let y = c.is_too_dear.ensures.yes c.if-is_too_dear.true in (
      (λ e. absurd (true≢false (sym e))),
      (λ h. absurd (not_least c.args.owned.now c.args.prices.now c.least_price-least.result c.loop-j.j
          c.requires.long c.loop-j-test.true c.least_price-least.ensures y.0 y.1 h)),
    )

pub loop-j-preserved : goal.loop-j-preserved
loop-j-preserved c = least_more c.args.owned.now c.args.prices.now c.least_price-least.result c.loop-j.j
    c.loop-j.invariant (c.is_too_dear.ensures.no c.if-is_too_dear.false)

pub returns : goal.returns
returns c = (
  (λ e. all_least c.args.owned.now c.args.prices.now c.least_price-least.result c.loop-j.j c.requires.long
      c.loop-j-test.false c.least_price-least.ensures c.loop-j.invariant),
  (λ h. refl),
)
