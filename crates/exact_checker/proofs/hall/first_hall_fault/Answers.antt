use Rattle.std.proofs.Common.{length}
use Rattle.dual_checker.proofs.HallFaults.{told_lacking, told_unnamed, told_neighbours, told_extra, told_equal}
use Rattle.exact_checker.proofs.hall.first_hall_fault.Goals as goal

pub returns-in-Some : goal.returns-in-Some
returns-in-Some c =
    let rows = c.args.lists.now.rows in
    let m = c.args.lists.now.m in
    let persons = c.args.persons.now in
    let objects = c.args.objects.now in
    let missing = c.in-Some.ensures in (
      c.requires.rise,
      told_lacking rows persons objects m c.args.named.now c.mark_numbers-2.new.marks c.requires.named c.mark_numbers-2.ensures (length rows) _ missing.0,
      told_unnamed rows persons objects m c.args.named.now c.mark_numbers-2.new.marks c.requires.named c.mark_numbers-2.ensures m _ _ missing.1,
    )

pub returns-in-Some-first_unmarked : goal.returns-in-Some-first_unmarked
returns-in-Some-first_unmarked c =
    let rows = c.args.lists.now.rows in
    let m = c.args.lists.now.m in
    let persons = c.args.persons.now in
    let objects = c.args.objects.now in (
      c.requires.rise,
      told_neighbours rows persons objects m c.args.named.now c.mark_numbers-2.new.marks c.requires.named c.mark_numbers-2.ensures c.in_default.ensures,
      told_extra rows persons objects m c.args.listed.now c.mark_neighbours.new.listed c.requires.listed
          c.mark_neighbours.ensures m (length c.mark_neighbours.new.listed)
          c.in-Some-first_unmarked.object c.requires.rise.in_range.1 c.in-Some-first_unmarked.ensures,
    )

pub returns-then-objects-persons : goal.returns-then-objects-persons
returns-then-objects-persons c =
    let rows = c.args.lists.now.rows in
    let m = c.args.lists.now.m in
    let persons = c.args.persons.now in
    let objects = c.args.objects.now in
    let near = told_neighbours rows persons objects m c.args.named.now c.mark_numbers-2.new.marks c.requires.named
    c.mark_numbers-2.ensures c.in_default.ensures in (
      c.requires.rise,
      told_equal rows persons objects m c.args.listed.now c.mark_neighbours.new.listed c.requires.listed
          c.mark_neighbours.ensures c.in_default-first_unmarked.ensures near,
      c.if-objects-persons.true,
    )

pub returns : goal.returns
returns c =
    let rows = c.args.lists.now.rows in
    let m = c.args.lists.now.m in
    let persons = c.args.persons.now in
    let objects = c.args.objects.now in
    let near = told_neighbours rows persons objects m c.args.named.now c.mark_numbers-2.new.marks c.requires.named
    c.mark_numbers-2.ensures c.in_default.ensures in
    record {
      persons_rise = c.requires.rise.rising.0;
      objects_rise = c.requires.rise.rising.1;
      within = c.requires.rise.in_range.0;
      neighbours = told_equal rows persons objects m c.args.listed.now c.mark_neighbours.new.listed
          c.requires.listed c.mark_neighbours.ensures c.in_default-first_unmarked.ensures near;
      fewer = c.if-objects-persons.false;
    }
