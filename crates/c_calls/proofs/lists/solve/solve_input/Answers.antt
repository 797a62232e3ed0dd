use Rattle.std.proofs.Common.{SFits, Err, Ok, rules, ap, ◌∙◌}
use Rattle.std.specs.Int.{w32}
use Rattle.std.proofs.lemmas.Int.{to_z-of_z}
use Rattle.c_calls.specs.lists.Ends.{HoldsEnd, buffers}
use Rattle.c_calls.proofs.Answering.{of_input}
use Rattle.c_calls.proofs.lists.solve.solve_input.Goals as goal

pub returns-in-Err : goal.returns-in-Err
returns-in-Err c =
    let fits : SFits w32 c.refuse.result = search rules in
    record {
      end = Err c.in-Err.fault;
      is = to_z-of_z w32 c.refuse.result fits ∙ c.refuse.ensures.code;
      solved = (c.in-Err.ensures.fault, ap (buffers c.args.objects.now c.args.persons.now c.args.prices.now) c.refuse.ensures.place);
    }

pub returns : goal.returns
returns c =
    let searched = c.in-Ok.ensures.searched in
    let found = c.in-Ok.searched.found in
    let fits : SFits w32 c.code_of_found.result = search rules in
    record {
      end = Ok found;
      is = to_z-of_z w32 c.code_of_found.result fits ∙ c.code_of_found.ensures;
      solved = (
        searched.allowed,
        of_input c.args.input.now c.in-Ok.searched.shape c.lists_of-lists.result
            (λ l. HoldsEnd l (buffers c.args.objects.now c.args.persons.now c.args.prices.now c.args.info.now)
            _ found) searched.shape searched.whole c.lists_of-lists.ensures.lists c.put_answer.ensures,
      );
    }
