use Rattle.std.proofs.Common.{SFits, Err, Ok, rules, ap, ◌∙◌}
use Rattle.std.specs.Int.{w32}
use Rattle.std.proofs.lemmas.Int.{to_z-of_z}
use Rattle.c_counts.specs.Ends.{buffers}
use Rattle.c_counts.proofs.solving.solve.Goals as goal

pub returns-in-Err-clause-solves : goal.returns-in-Err-clause-solves
returns-in-Err-clause-solves c =
    let fits : SFits w32 c.refuse.result = search rules in
    record {
      end = Err c.in-Err.fault;
      is = to_z-of_z w32 c.refuse.result fits ∙ c.refuse.ensures.code;
      solved = (
        c.in-Err.ensures.fault,
        ap (buffers c.args.plan.now c.args.row_numbers.now c.args.column_numbers.now c.args.row_marks.now c.args.column_marks.now) c.refuse.ensures.place,
      );
    }

pub returns-clause-solves : goal.returns-clause-solves
returns-clause-solves c =
    let found = c.in-Ok.ensures.answer in
    let fits : SFits w32 c.code_of_end.result = search rules in
    record {
      end = Ok c.put_answer-end.result;
      is = to_z-of_z w32 c.code_of_end.result fits ∙ c.code_of_end.ensures;
      solved = record {
        lists = found.lists;
        meant = found.meant;
        whole = found.whole;
        holds = c.put_answer-end.ensures found.lists c.args.budget found.holds;
      };
    }
