use Rattle.std.proofs.Common.{pos, get_or, set, arith, rules, SFits, w64}
use Rattle.std.proofs.lemmas.Int.{to_z-of_z}
use Rattle.std.proofs.lemmas.List.{get_or-set_same}
use Rattle.hungarian.proofs.Relaxed.{kept_away, kept_better, lowered}
use Rattle.hungarian.proofs.relaxing.relax_object.Goals as goal

pub returns-then-is_better-clause-here : goal.returns-then-is_better-clause-here
returns-then-is_better-clause-here c =
    let f1 = c.ranges.to_person in
    let f2 = c.ranges.cost in
    let j = c.args.object in
    let d = c.args.to_objects.now in
    let path = c.one_more-path.result in
    let a1 : SFits w64 path = search rules in
    let a2 : SFits w64 (get_or d j (pos 0)) = search rules in
    let goes = simp to_z-of_z at (c.goes_on.ensures.0 c.if-goes_on.true) in
    let sum = simp to_z-of_z at c.one_more-path.ensures in
    let better = simp to_z-of_z at (c.is_better.ensures.0 c.if-is_better.true) in
    simp to_z-of_z (lowered c.args.person c.args.cost c.args.to_person c.args.rank (get_or d j (pos 0))
    (get_or c.args.predecessors.now j 0) path
    (get_or (set d j path) j (pos 0)) (get_or (set c.args.predecessors.now j c.args.person) j 0)
    goes sum (get_or-set_same d j path (pos 0) c.requires.place)
    (get_or-set_same c.args.predecessors.now j c.args.person 0
    (let e = c.requires.long in let g = c.requires.place in omega arith)) better)

pub returns-else-is_better-clause-here : goal.returns-else-is_better-clause-here
returns-else-is_better-clause-here c =
    let f1 = c.ranges.to_person in
    let f2 = c.ranges.cost in
    let j = c.args.object in
    let d = c.args.to_objects.now in
    let path = c.one_more-path.result in
    let a1 : SFits w64 path = search rules in
    let a2 : SFits w64 (get_or d j (pos 0)) = search rules in
    let sum = simp to_z-of_z at c.one_more-path.ensures in
    let better = simp to_z-of_z at c.is_better.ensures in
    kept_better c.is_better.result c.args.person c.args.cost c.args.to_person c.args.rank (get_or d j (pos 0))
    (get_or c.args.predecessors.now j 0) path better c.if-is_better.false sum

pub returns-else-goes_on-clause-here : goal.returns-else-goes_on-clause-here
returns-else-goes_on-clause-here c =
    let f2 = c.ranges.cost in
    let goes = simp to_z-of_z at c.goes_on.ensures in
    kept_away c.goes_on.result c.args.person c.args.cost c.args.to_person c.args.rank
    (get_or c.args.to_objects.now c.args.object (pos 0))
    (get_or c.args.predecessors.now c.args.object 0) goes c.if-goes_on.false
