use Rattle.std.proofs.Common.{◌≢◌, pos, ◌<◌, length, get_or, arith, rules, subst, below_more, SFits, w64}
use Rattle.std.proofs.lemmas.Int.{to_z-of_z}
use Rattle.std.proofs.lemmas.List.{get_or-set_other, get_or-set_same}
use Rattle.block_checker.specs.inside.Marks.{IsMarkOf}
use Rattle.block_checker.proofs.marks.set_marks.Goals as goal

pub loop-i-preserved : goal.loop-i-preserved
loop-i-preserved c =
    let i = c.loop-i.i in
    let mark = c.mark_of.result in
    let a : SFits w64 (get_or c.args.own.now i (pos 0)) = search rules in
    let b : SFits w64 (get_or c.args.numbers.now i (pos 0)) = search rules in
    let p : SFits w64 c.price_at-price.result = search rules in
    let made = simp to_z-of_z at c.mark_of.ensures in
    let here = subst (λ z. IsMarkOf (get_or c.args.own.now i (pos 0)) z (get_or c.args.numbers.now i (pos 0)) mark) c.price_at-price.ensures.is made in
    let room : i < length c.loop-i.marks = let long = c.loop-i.auto.marks in omega arith in
    below_more _ _
    (λ k h. let ne : k ≢ i = omega arith in rw (get_or-set_other c.loop-i.marks i k mark 0 ne) (c.loop-i.invariant k h))
    (rw (get_or-set_same c.loop-i.marks i mark 0 room) here)
