use Rattle.std.proofs.Common.{◌∙◌, arith, inl}
use Rattle.count_checker.specs.CountLists.{problem_in}
use Rattle.count_checker.proofs.Apart.{counted_off, counted_on}
use Rattle.count_checker.proofs.Taking.{chosen_end}
use Rattle.count_checker.proofs.VerdictLaws.{long_pairs}
use Rattle.std.proofs.Common.{ap}
use Rattle.count_checker.specs.CountSets.{apart_count}
use Rattle.count_checker.proofs.shortage.count_apart.Goals as goal
use Rattle.count_checker.proofs.shortage.count_apart.Goals.{then-is_apart, else-is_apart}

pub loop-place-preserved : goal.loop-place-preserved
loop-place-preserved c =
    let l = c.args.lists in
    let k = c.loop-place.place in
    let few = c.loop-place.invariant.few in
    elim c.if-is_apart.branch [
      | then-is_apart w ↦
          let yes = c.is_apart.ensures.yes w.if-is_apart.true in
          let more = counted_on l c.requires.lists c.args.marks.now c.requires.marks k c.loop-place-test.true yes.0 yes.1 in
          let e = w.count-is in
          record { holding = c.hold.ensures; so_far = let b = c.loop-place.invariant.so_far in omega arith; few = omega arith }
      | else-is_apart w ↦
          let more = counted_off l c.requires.lists c.args.marks.now c.requires.marks k c.loop-place-test.true (c.is_apart.ensures.no w.if-is_apart.false) in
          let e = w.count-is in
          record { holding = c.hold.ensures; so_far = let b = c.loop-place.invariant.so_far in omega arith; few = omega arith }
    ]

pub returns-clause-count : goal.returns-clause-count
returns-clause-count c =
    let l = c.args.lists in
    c.loop-place.invariant.so_far ∙ ap (apart_count l.groups.now) (chosen_end (problem_in l).pairs c.args.marks.now c.loop-place.place
    (inl (let e = long_pairs l c.requires.lists in let f = c.loop-place-test.false in omega arith)))
