use Rattle.std.proofs.Common.{◌∙◌}
use Rattle.block_checker.proofs.OwnMarks.{marks_are, own_costs_in}
use Rattle.block_checker.proofs.marks.mark_own.Goals as goal

pub set_marks-requires-clause-costs : goal.set_marks-requires-clause-costs
set_marks-requires-clause-costs c =
    own_costs_in c.args.lists.now c.args.objects.now c.args.prices.now c.args.numbers.now c.args.own.now c.requires.own c.persons-persons.ensures.rule.costs

pub returns : goal.returns
returns c =
    marks_are c.args.lists.now c.args.objects.now c.args.prices.now c.args.numbers.now c.args.own.now c.requires.own c.persons-persons.ensures.rule.costs
    c.set_marks.new.marks (c.set_marks.auto.marks ∙ c.requires.long) c.requires.objects c.requires.numbers c.set_marks.ensures
