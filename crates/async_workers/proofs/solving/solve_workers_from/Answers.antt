use Rattle.std.proofs.Common.{subst, sym}
use Rattle.std.specs.Arc.{arc_value}
use Rattle.async_workers.specs.PlaceRule.{IsUntouched}
use Rattle.async_workers.proofs.Ends.{solved, solved_enough}
use Rattle.async_workers.proofs.Untouched.{opened_untouched}
use Rattle.async_workers.proofs.solving.solve_workers_from.Goals as goal

pub worked_book-requires-clause-untouched : goal.worked_book-requires-clause-untouched
worked_book-requires-clause-untouched g c κs within = subst IsUntouched (sym c.in_ok-opening.ensures.book)
    (opened_untouched (arc_value c.args.scaled) c.args.prices c.args.workers)

pub returns-clause-solved : goal.returns-clause-solved
returns-clause-solved g c =
    let found = c.in_ok-answer.field-0 in
    solved (arc_value c.args.scaled) c.args.prices c.args.workers c.in_ok-opening.opening c.in_ok-book.book found.0
    found.1.items c.in_ok-opening.ensures.book c.in_ok-book.ensures.extends c.in_ok-answer.ensures

pub returns-clause-enough : goal.returns-clause-enough
returns-clause-enough g c =
    let s = arc_value c.args.scaled in
    let found = c.in_ok-answer.field-0 in
    solved_enough s c.args.prices c.args.workers found.0 found.1.items
    (solved s c.args.prices c.args.workers c.in_ok-opening.opening c.in_ok-book.book found.0 found.1.items
    c.in_ok-opening.ensures.book c.in_ok-book.ensures.extends c.in_ok-answer.ensures)
