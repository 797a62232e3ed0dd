use Rattle.std.proofs.Common.{◌-◌, arith, rules}
use Rattle.assign_core.proofs.NumbersOf.{number_at, fallen, risen}
use Rattle.dual_checker.proofs.hall_lists.rise.Goals as goal

pub returns-then-number : goal.returns-then-number
returns-then-number g c =
    let of = g.T.Numbered.number_of in
    let xs = c.args.all.now in
    let i = c.loop-i.i in
    let before = number_at of xs (i - 1) c.index-all-i.result c.number.result (omega arith) c.index-all-i.is c.number.ensures in
    let here = number_at of xs i c.index-all-i-in-loop-i.result c.number-in-loop-i.result (omega arith) c.index-all-i-in-loop-i.is c.number-in-loop-i.ensures in
    ((λ t. absurd (search rules)), (λ r. absurd (fallen of xs i _ _ (omega arith) (omega arith) before here c.if-number.true r)))

pub loop-i-preserved : goal.loop-i-preserved
loop-i-preserved g c =
    let of = g.T.Numbered.number_of in
    let xs = c.args.all.now in
    let i = c.loop-i.i in
    let before = number_at of xs (i - 1) c.index-all-i.result c.number.result (omega arith) c.index-all-i.is c.number.ensures in
    let here = number_at of xs i c.index-all-i-in-loop-i.result c.number-in-loop-i.result (omega arith) c.index-all-i-in-loop-i.is c.number-in-loop-i.ensures in
    risen of xs i _ _ (omega arith) before here c.if-number.false c.loop-i.invariant
