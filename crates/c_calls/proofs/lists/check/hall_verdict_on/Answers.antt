use Rattle.exact_checker.specs.HallVerdicts.{IsHallVerdict}
use Rattle.c_calls.proofs.Answering.{of_input}
use Rattle.c_calls.proofs.lists.check.hall_verdict_on.Goals as goal

pub returns-clause-verdict : goal.returns-clause-verdict
returns-clause-verdict c =
    of_input c.args.input.now c.in_ok-shape.shape c.lists_of-lists.result (λ l. IsHallVerdict l c.args.persons.now c.args.objects.now c.in_ok-verdict.verdict)
    c.in_ok-shape.ensures.shape c.in_ok-shape.ensures.whole c.lists_of-lists.ensures.lists c.in_ok-verdict.ensures.verdict
