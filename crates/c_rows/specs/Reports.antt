-- What a call on rows returns and records.
use Rattle.std.specs.Prelude.{◌≡◌, ℤ}
use Rattle.c_rows.specs.declared.answer.Answer.{Answer}
use Rattle.c_rows.specs.declared.info.RowsInfo.{RowsInfo}
use Rattle.c_rows.specs.Answers.{IsAnswer}
use Rattle.c_rows.specs.Codes.{code_of, cost_after, place_after}
use Rattle.c_rows.specs.Input.{InputRows}

-- the first answer that applies, with its code and what it records
pub record IsReported (g : InputRows) (before after : RowsInfo) (code : ℤ) : Type 0 where
  pub answer : Answer
  pub holds : IsAnswer g answer
  pub is : code ≡ code_of answer
  pub recorded : after ≡ record { cost = cost_after before.cost answer; place = place_after before.place answer }
