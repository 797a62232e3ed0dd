use Rattle.std.proofs.Common.{SFits, Err, Ok, IfErr, rules, ap, subst, ◌∙◌}
use Rattle.std.specs.Int.{w32}
use Rattle.std.proofs.lemmas.Int.{to_z-of_z}
use Rattle.c_calls.specs.doubles.Ends.{buffers}
use Rattle.c_calls.specs.doubles.Faults.{HasFault}
use Rattle.c_calls.proofs.doubles.solve.put_end.Goals as goal

pub returns-in-Err : goal.returns-in-Err
returns-in-Err c =
    let fits : SFits w32 c.refuse.result = search rules in
    let first = subst (λ r. IfErr r (HasFault c.args.input.now)) c.in-Err.is c.requires.fault in
    record {
      end = Err c.in-Err.fault;
      is = to_z-of_z w32 c.refuse.result fits ∙ c.refuse.ensures.code;
      solved = (first, ap (buffers c.args.objects.now c.args.persons.now c.args.prices.now) c.refuse.ensures.place);
    }

pub returns : goal.returns
returns c =
    let fits : SFits w32 c.code_of_answer.result = search rules in
    record {
      end = Ok c.in-Ok.answer;
      is = to_z-of_z w32 c.code_of_answer.result fits ∙ c.code_of_answer.ensures;
      solved = c.put_answer.ensures;
    }
