use Rattle.std.proofs.Common.{◌≡◌, ◌∙◌, ap, map}
use Rattle.std.specs.Prelude.{nat_lt}
use Rattle.count_checker.specs.CountLists.{problem_in}
use Rattle.count_checker.specs.Counts.{chosen}
use Rattle.count_checker.specs.CountSets.{apart_count}
use Rattle.count_checker.proofs.Lacking.{outside_chosen}
use Rattle.count_checker.proofs.shortage.apart_outside.Goals as goal

pub returns-clause-count : goal.returns-clause-count
returns-clause-count c =
    let l = c.args.lists in
    let e = outside_chosen l c.requires.lists c.args.side c.args.rows.now c.args.columns.now c.in_ok-bytes.bytes.items c.in_ok-bytes.ensures in
    let m : c.of-marks.result ≡ map (nat_lt 0) c.in_ok-bytes.bytes.items = c.of-marks.ensures ∙ ap (map (nat_lt 0)) c.as_slice.ensures.value in
    c.count_apart.ensures.count ∙ ap (λ marks. apart_count l.groups.now (chosen (problem_in l).pairs marks)) m ∙ ap (apart_count l.groups.now) e
