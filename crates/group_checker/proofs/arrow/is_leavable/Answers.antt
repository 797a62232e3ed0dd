use Rattle.std.proofs.Common.{pos, ◌-◌, get_or, rules, SFits, w64}
use Rattle.std.proofs.lemmas.Int.{to_z-of_z}
use Rattle.group_checker.proofs.Reading.{leavable}
use Rattle.group_checker.proofs.arrow.is_leavable.Goals as goal

pub returns-then-plan-place : goal.returns-then-plan-place
returns-then-plan-place c =
    let p = c.args.plan in
    let j = c.args.object in
    let a : SFits w64 (get_or p.prices.now (j - 1) (pos 0)) = search rules in
    let zero = simp to_z-of_z at c.is_zero.ensures in
    (λ yes. leavable c.args.lists.now p c.requires.plan j c.requires.object c.if-plan-place.true (zero yes))
