use Rattle.std.proofs.Common.{◌∙◌, codes}
use Rattle.clap.specs.Words.{found_of, rows_of}
use Rattle.clap.proofs.WalkLemmas.{first_value-rows}
use Rattle.command_line.proofs.Choices.{method_told, method_untold}
use Rattle.command_line.proofs.words.chosen_method.Goals as goal

pub returns-in-Some : goal.returns-in-Some
returns-in-Some c =
    method_told (rows_of (found_of c.args.solve.now)) c.in-Some.name.now c.named_method.result (c.in-Some.ensures ∙
    first_value-rows (found_of c.args.solve.now) (codes "method")) c.named_method.ensures

pub returns-in-None : goal.returns-in-None
returns-in-None c = method_untold (rows_of (found_of c.args.solve.now)) (c.in-None.ensures ∙ first_value-rows (found_of c.args.solve.now) (codes "method"))
