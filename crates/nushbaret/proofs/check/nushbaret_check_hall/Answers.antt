use Rattle.std.proofs.Common.{SFits, inl, rules, subst, ◌∙◌}
use Rattle.std.specs.Int.{w32}
use Rattle.std.proofs.lemmas.Int.{to_z-of_z}
use Rattle.exact_checker.specs.HallVerdicts.{IsHallVerdict}
use Rattle.c_calls.specs.lists.Faults.{IsOfInput}
use Rattle.c_calls.specs.lists.Input.{InputLists}
use Rattle.nushbaret.proofs.check.nushbaret_check_hall.Goals as goal

pub returns-in-Ok : goal.returns-in-Ok
returns-in-Ok c =
    let v = c.in-Ok.verdict in
    let fits : SFits w32 c.report_hall_verdict.result = search rules in
    inl (record {
      verdict = v;
      is = to_z-of_z w32 c.report_hall_verdict.result fits ∙ c.report_hall_verdict.ensures.code;
      names = c.report_hall_verdict.ensures.names;
      holds = subst (λ (g : InputLists). IsOfInput g (λ l. IsHallVerdict l c.args.persons.now c.args.objects.now v))
          c.either_input-input.ensures c.in-Ok.ensures.verdict;
    })
