use Rattle.std.proofs.Common.{length}
use Rattle.dual_checker.proofs.HallFaults.{told_lacking, told_unnamed, told_neighbours, told_extra, told_equal}
use Rattle.dual_checker.proofs.hall.first_hall_fault.Goals as goal

pub returns-in-Some : goal.returns-in-Some
returns-in-Some c =
    let rows = c.args.problem.now in
    let persons = c.args.persons.now in
    let objects = c.args.objects.now in
    let m = (length c.args.problem.now) in
    let missing = c.in-Some.ensures in (
      c.are_in_range.ensures.0 c.if-not-are_in_range.false,
      c.are_rising.ensures.0 c.if-not-are_rising.false,
      told_lacking rows persons objects m c.args.named.now c.mark_numbers.new.marks c.requires.named c.mark_numbers.ensures (length rows) _ missing.0,
      told_unnamed rows persons objects m c.args.named.now c.mark_numbers.new.marks c.requires.named c.mark_numbers.ensures m _ _ missing.1,
    )

pub returns-in-Some-first_unmarked : goal.returns-in-Some-first_unmarked
returns-in-Some-first_unmarked c =
    let rows = c.args.problem.now in
    let persons = c.args.persons.now in
    let objects = c.args.objects.now in
    let m = (length c.args.problem.now) in
    let range = c.are_in_range.ensures.0 c.if-not-are_in_range.false in (
      range,
      c.are_rising.ensures.0 c.if-not-are_rising.false,
      told_neighbours rows persons objects m c.args.named.now c.mark_numbers.new.marks c.requires.named c.mark_numbers.ensures c.in_default.ensures,
      told_extra rows persons objects m c.args.listed.now c.mark_listed.new.marks c.requires.listed
          c.mark_listed.ensures m (length c.mark_listed.new.marks) c.in-Some-first_unmarked.object range.1
          c.in-Some-first_unmarked.ensures,
    )

pub returns-then-objects-persons : goal.returns-then-objects-persons
returns-then-objects-persons c =
    let rows = c.args.problem.now in
    let persons = c.args.persons.now in
    let objects = c.args.objects.now in
    let m = (length c.args.problem.now) in
    let near = told_neighbours rows persons objects m c.args.named.now c.mark_numbers.new.marks c.requires.named
    c.mark_numbers.ensures c.in_default.ensures in (
      c.are_in_range.ensures.0 c.if-not-are_in_range.false,
      c.are_rising.ensures.0 c.if-not-are_rising.false,
      told_equal rows persons objects m c.args.listed.now c.mark_listed.new.marks c.requires.listed
          c.mark_listed.ensures c.in_default-first_unmarked.ensures near,
      c.if-objects-persons.true,
    )

pub returns : goal.returns
returns c =
    let rows = c.args.problem.now in
    let persons = c.args.persons.now in
    let objects = c.args.objects.now in
    let m = (length c.args.problem.now) in
    let range = c.are_in_range.ensures.0 c.if-not-are_in_range.false in
    let rise = c.are_rising.ensures.0 c.if-not-are_rising.false in
    let near = told_neighbours rows persons objects m c.args.named.now c.mark_numbers.new.marks c.requires.named c.mark_numbers.ensures c.in_default.ensures in
    record {
      persons_rise = rise.0;
      objects_rise = rise.1;
      within = range.0;
      neighbours = told_equal rows persons objects m c.args.listed.now c.mark_listed.new.marks c.requires.listed
          c.mark_listed.ensures c.in_default-first_unmarked.ensures near;
      fewer = c.if-objects-persons.false;
    }
