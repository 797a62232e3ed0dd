use Rattle.std.proofs.Common.{◌∙◌, codes}
use Rattle.clap.specs.Words.{found_of, rows_of}
use Rattle.clap.proofs.WalkLemmas.{first_value-rows}
use Rattle.command_line.proofs.Choices.{mode_told, mode_untold, no_mode}
use Rattle.command_line.proofs.words.chosen_mode.Goals as goal

pub returns-in-Some-clause-ok : goal.returns-in-Some-clause-ok
returns-in-Some-clause-ok c =
    mode_told (rows_of (found_of c.args.solve.now)) c.in-Some.name.now c.named_mode.result c.ok_or.result
    (c.in-Some.ensures ∙ first_value-rows (found_of c.args.solve.now) (codes "mode")) c.named_mode.ensures.some
    c.ok_or.ensures.value

pub returns-in-Some-clause-err : goal.returns-in-Some-clause-err
returns-in-Some-clause-err c =
    mode_untold (rows_of (found_of c.args.solve.now)) c.in-Some.name.now c.named_mode.result c.ok_or.result
    (c.in-Some.ensures ∙ first_value-rows (found_of c.args.solve.now) (codes "mode")) c.named_mode.ensures.none
    c.ok_or.ensures.value

pub returns-in-None-clause-err : goal.returns-in-None-clause-err
returns-in-None-clause-err c = no_mode (rows_of (found_of c.args.solve.now)) (c.in-None.ensures ∙ first_value-rows (found_of c.args.solve.now) (codes "mode"))
