use Rattle.std.proofs.Common.{◌≢◌, pos, get_or, arith, rules, SFits}
use Rattle.std.specs.Int.{w128}
use Rattle.std.proofs.lemmas.Int.{to_z-of_z}
use Rattle.assign_core.specs.Numbered.{numbered}
use Rattle.assign_core.proofs.NumberedLemmas.{numbered-next}
use Rattle.dual_checker.proofs.Firsts.{one_more}
use Rattle.wide_checker.specs.declared.numbers.TheConstants.{UNLISTED}
use Rattle.exact_checker.proofs.OwnMarks.{all_unmarked, first_marked}
use Rattle.wide_checker.proofs.WideOwns.{wide_below_mark}
use Rattle.wide_checker.proofs.unlisted.first_unlisted.Goals as goal

pub loop-i-init : goal.loop-i-init
loop-i-init c = λ k h. absurd (omega arith)

pub returns-then-is_unlisted : goal.returns-then-is_unlisted
returns-then-is_unlisted c = λ l xs limits long are.
    let own = c.args.own.now in
    let i = c.loop-i.i in
    let fits : SFits w128 (get_or own i (pos 0)) = search rules in
    let says = simp to_z-of_z at c.is_unlisted.ensures in
    first_marked UNLISTED l.sense l.rows xs own are (wide_below_mark l.sense l.rows limits.costs) i c.loop-i-test.true c.loop-i.invariant (rw (numbered-next own i (pos 0)) (says.0 c.if-is_unlisted.true))

pub loop-i-preserved : goal.loop-i-preserved
loop-i-preserved c =
    let own = c.args.own.now in
    let i = c.loop-i.i in
    let fits : SFits w128 (get_or own i (pos 0)) = search rules in
    let says = simp to_z-of_z at c.is_unlisted.ensures in
    let differs : get_or own i (pos 0) ≢ UNLISTED = λ e. let yes = says.1 e in let f = c.if-is_unlisted.false in cc in
    one_more (λ k. numbered own k (pos 0) ≢ UNLISTED) i c.loop-i.invariant (rw (numbered-next own i (pos 0)) differs)

pub returns : goal.returns
returns c = λ l xs limits long are.
    all_unmarked UNLISTED l.sense l.rows xs c.args.own.now are c.loop-i.i long (let same = are.long in omega (arith, c.loop-i-test.false)) c.loop-i.invariant
