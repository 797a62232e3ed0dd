use Rattle.std.proofs.Common.{subst}
use Rattle.c_wide.specs.Answers.{IsWideAnswer}
use Rattle.c_wide.specs.fewest.Changes.{combined_lists}
use Rattle.c_wide.proofs.FewestEnds.{hall_there}
use Rattle.c_wide.proofs.fewest.answer.answer_from.Goals as goal

pub plan_of-requires : goal.plan_of-requires
plan_of-requires c =
    let answer = subst (IsWideAnswer (combined_lists c.args.kept.now c.args.lists.now)) c.in-Best.is c.requires.answer in
    record { kept = c.requires.kept; optimum = answer.0; best = answer.1 }

pub returns-in-Hall : goal.returns-in-Hall
returns-in-Hall c =
    let l = c.args.lists.now in
    let proof = subst (IsWideAnswer (combined_lists c.args.kept.now l)) c.in-Hall.is c.requires.answer in
    hall_there l c.args.kept.now _ _ c.requires.kept proof
