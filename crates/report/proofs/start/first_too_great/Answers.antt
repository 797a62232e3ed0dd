use Rattle.std.proofs.Common.{pos, arith, rules, get_or, SFits, subst}
use mir.Syntax.{w128}
use Rattle.std.specs.List.{All}
use Rattle.std.proofs.lemmas.Int.{ints, to_z-of_z}
use Rattle.std.proofs.lemmas.List.{take_all}
use Rattle.std.proofs.lemmas.List.Elements.{All-more}
use Rattle.report.specs.Starts.{IsFirstPrice}
use Rattle.report.proofs.start.first_too_great.Goals as goal

pub loop-i-preserved : goal.loop-i-preserved
loop-i-preserved c =
    let prices = c.args.prices.now in
    let l = c.loop-i-test.true in
    let fits : SFits w128 (get_or prices c.loop-i.i (pos 0)) = search rules in
    let test = simp to_z-of_z at c.if-price-gt-GREATEST_FIRST_PRICE.false in
    All-more IsFirstPrice prices c.loop-i.i (pos 0) l c.loop-i.invariant (omega (arith, ints, test))

pub returns : goal.returns
returns c =
    let prices = c.args.prices.now in
    subst (All IsFirstPrice) (take_all c.loop-i.i prices (omega (arith, c.loop-i-test.false))) c.loop-i.invariant
