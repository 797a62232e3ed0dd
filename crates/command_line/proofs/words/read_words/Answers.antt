use Rattle.std.proofs.Common.{◌∙◌, List, None, Some, false, true, ap, ap₂, codes, map, refl, subst, sym}
use Rattle.assign_core.specs.declared.sense.Sense.TheVariants.{Max}
use Rattle.clap.specs.Words.{Text, subcommand_of, takes}
use Rattle.command_line.specs.Words.{full_options, program, usual_options}
use Rattle.command_line.specs.declared.words.Method.TheVariants.{Auction, Paths}
use Rattle.command_line.specs.inside.Words.{HasNumbersIfSolving, NamesCommand}
use Rattle.command_line.proofs.Choices.{chosen_outcome, solve_taken, verify_taken}
use Rattle.command_line.proofs.GivenLines.{file_is_taken, file_of, file_words, flags_of, full_file_is_taken}
use Rattle.command_line.proofs.GivenLines.{full_file_words, full_flags, full_is_taken}
use Rattle.command_line.proofs.CommandLines.{in_ranges}
use Rattle.command_line.proofs.GivenLines.{input_file_is_taken, input_file_words, input_flags, input_is_taken}
use Rattle.command_line.proofs.GivenLines.{paths_flags, paths_is_taken, plain_flags, plain_is_taken}
use Rattle.command_line.proofs.CommandLines.{is_memory}
use Rattle.command_line.proofs.CommandLines.{taken_words, told_outcome, version_is_fault, version_told}
use Rattle.command_line.proofs.Numbers.{has_numbers}
use Rattle.command_line.proofs.Subcommands.{names_command}
use Rattle.command_line.proofs.words.read_words.Goals as goal

pub chosen-requires : goal.chosen-requires
chosen-requires g c =
    let words = map g.S.AsStr.text c.args.words.now in
    let at = c.in_ok-command.ensures.program.0 in
    let t = taken_words at _ words _ c.in_ok-command.ensures.program.1 c.in-Ok.ensures.kinds c.in-Ok.ensures.matches in
    record { names = subst NamesCommand (sym t.1) (names_command at words t.0); numbers = subst HasNumbersIfSolving (sym t.1) (has_numbers at words t.0) }

pub returns-in-Ok-clause-ranges : goal.returns-in-Ok-clause-ranges
returns-in-Ok-clause-ranges g c = in_ranges _ c.chosen.result c.chosen.ensures.ok

pub returns-in-Ok-clause-outcome : goal.returns-in-Ok-clause-outcome
returns-in-Ok-clause-outcome g c =
    let at = c.in_ok-command.ensures.program.0 in
    let t = taken_words at _ (map g.S.AsStr.text c.args.words.now) _ c.in_ok-command.ensures.program.1 c.in-Ok.ensures.kinds c.in-Ok.ensures.matches in
    chosen_outcome at (map g.S.AsStr.text c.args.words.now) _ c.chosen.result t.0 t.1 c.chosen.ensures.ok c.chosen.ensures.err

pub returns-in-Ok-clause-solve : goal.returns-in-Ok-clause-solve
returns-in-Ok-clause-solve g c = λ name e.
    let at = c.in_ok-command.ensures.program.0 in
    let t = taken_words at _ (map g.S.AsStr.text c.args.words.now) _ c.in_ok-command.ensures.program.1 c.in-Ok.ensures.kinds c.in-Ok.ensures.matches in
    solve_taken _ c.chosen.result Auction usual_options (codes "4") (codes "1") _ _ (ap flags_of t.1 ∙
    ap (λ (words : List Text). flags_of (subcommand_of (program at) words)) e ∙ plain_flags at name)
    refl refl c.chosen.ensures.ok c.chosen.ensures.err

pub returns-in-Ok-clause-options : goal.returns-in-Ok-clause-options
returns-in-Ok-clause-options g c = λ name e.
    let at = c.in_ok-command.ensures.program.0 in
    let t = taken_words at _ (map g.S.AsStr.text c.args.words.now) _ c.in_ok-command.ensures.program.1 c.in-Ok.ensures.kinds c.in-Ok.ensures.matches in
    solve_taken _ c.chosen.result Auction full_options (codes "64") (codes "0") _ _ (ap flags_of t.1 ∙
    ap (λ (words : List Text). flags_of (subcommand_of (program at) words)) e ∙ full_flags at name)
    refl refl c.chosen.ensures.ok c.chosen.ensures.err

pub returns-in-Ok-clause-method : goal.returns-in-Ok-clause-method
returns-in-Ok-clause-method g c = λ name e.
    let at = c.in_ok-command.ensures.program.0 in
    let t = taken_words at _ (map g.S.AsStr.text c.args.words.now) _ c.in_ok-command.ensures.program.1 c.in-Ok.ensures.kinds c.in-Ok.ensures.matches in
    solve_taken _ c.chosen.result Paths usual_options (codes "4") (codes "1") _ _ (ap flags_of t.1 ∙
    ap (λ (words : List Text). flags_of (subcommand_of (program at) words)) e ∙ paths_flags at name)
    refl refl c.chosen.ensures.ok c.chosen.ensures.err

pub returns-in-Ok-clause-input : goal.returns-in-Ok-clause-input
returns-in-Ok-clause-input g c = λ name e.
    let at = c.in_ok-command.ensures.program.0 in
    let t = taken_words at _ (map g.S.AsStr.text c.args.words.now) _ c.in_ok-command.ensures.program.1 c.in-Ok.ensures.kinds c.in-Ok.ensures.matches in
    solve_taken _ c.chosen.result Auction usual_options (codes "4") (codes "1") _ _ (ap flags_of t.1 ∙
    ap (λ (words : List Text). flags_of (subcommand_of (program at) words)) e ∙ input_flags at name)
    refl refl c.chosen.ensures.ok c.chosen.ensures.err

pub returns-in-Ok-clause-verify : goal.returns-in-Ok-clause-verify
returns-in-Ok-clause-verify g c = λ name e.
    let at = c.in_ok-command.ensures.program.0 in
    let t = taken_words at _ (map g.S.AsStr.text c.args.words.now) _ c.in_ok-command.ensures.program.1 c.in-Ok.ensures.kinds c.in-Ok.ensures.matches in
    verify_taken _ c.chosen.result true None _ _ (ap file_of t.1 ∙
    ap (λ (words : List Text). file_of (subcommand_of (program at) words)) e ∙ file_words at name)
    c.chosen.ensures.ok c.chosen.ensures.err

pub returns-in-Ok-clause-sense : goal.returns-in-Ok-clause-sense
returns-in-Ok-clause-sense g c = λ name e.
    let at = c.in_ok-command.ensures.program.0 in
    let t = taken_words at _ (map g.S.AsStr.text c.args.words.now) _ c.in_ok-command.ensures.program.1 c.in-Ok.ensures.kinds c.in-Ok.ensures.matches in
    verify_taken _ c.chosen.result true (Some Max) _ _ (ap file_of t.1 ∙
    ap (λ (words : List Text). file_of (subcommand_of (program at) words)) e ∙ full_file_words at name)
    c.chosen.ensures.ok c.chosen.ensures.err

pub returns-in-Ok-clause-input_verify : goal.returns-in-Ok-clause-input_verify
returns-in-Ok-clause-input_verify g c = λ name e.
    let at = c.in_ok-command.ensures.program.0 in
    let t = taken_words at _ (map g.S.AsStr.text c.args.words.now) _ c.in_ok-command.ensures.program.1 c.in-Ok.ensures.kinds c.in-Ok.ensures.matches in
    verify_taken _ c.chosen.result false None _ _ (ap file_of t.1 ∙
    ap (λ (words : List Text). file_of (subcommand_of (program at) words)) e ∙ input_file_words at name)
    c.chosen.ensures.ok c.chosen.ensures.err

pub returns-in-Err-clause-input : goal.returns-in-Err-clause-input
returns-in-Err-clause-input g c = λ name e. is_memory _ _ c.words_fault.ensures
    (c.in-Err.ensures.passes (ap₂ takes c.in_ok-command.ensures.program.1 e ∙
    input_is_taken c.in_ok-command.ensures.program.0 name))

pub returns-in-Err-clause-input_verify : goal.returns-in-Err-clause-input_verify
returns-in-Err-clause-input_verify g c = λ name e. is_memory _ _ c.words_fault.ensures
    (c.in-Err.ensures.passes (ap₂ takes c.in_ok-command.ensures.program.1 e ∙
    input_file_is_taken c.in_ok-command.ensures.program.0 name))

pub returns-in-Err-clause-solve : goal.returns-in-Err-clause-solve
returns-in-Err-clause-solve g c = λ name e. is_memory _ _ c.words_fault.ensures
    (c.in-Err.ensures.passes (ap₂ takes c.in_ok-command.ensures.program.1 e ∙
    plain_is_taken c.in_ok-command.ensures.program.0 name))

pub returns-in-Err-clause-options : goal.returns-in-Err-clause-options
returns-in-Err-clause-options g c = λ name e. is_memory _ _ c.words_fault.ensures
    (c.in-Err.ensures.passes (ap₂ takes c.in_ok-command.ensures.program.1 e ∙
    full_is_taken c.in_ok-command.ensures.program.0 name))

pub returns-in-Err-clause-verify : goal.returns-in-Err-clause-verify
returns-in-Err-clause-verify g c = λ name e. is_memory _ _ c.words_fault.ensures
    (c.in-Err.ensures.passes (ap₂ takes c.in_ok-command.ensures.program.1 e ∙
    file_is_taken c.in_ok-command.ensures.program.0 name))

pub returns-in-Err-clause-sense : goal.returns-in-Err-clause-sense
returns-in-Err-clause-sense g c = λ name e. is_memory _ _ c.words_fault.ensures
    (c.in-Err.ensures.passes (ap₂ takes c.in_ok-command.ensures.program.1 e ∙
    full_file_is_taken c.in_ok-command.ensures.program.0 name))

pub returns-in-Ok-clause-version : goal.returns-in-Ok-clause-version
returns-in-Ok-clause-version g c = λ name e.
    let at = c.in_ok-command.ensures.program.0 in
    let words = map g.S.AsStr.text c.args.words.now in
    let t = taken_words at _ words _ c.in_ok-command.ensures.program.1 c.in-Ok.ensures.kinds c.in-Ok.ensures.matches in
    absurd (version_is_fault at words name e t.0)

pub returns-in-Err-clause-version : goal.returns-in-Err-clause-version
returns-in-Err-clause-version g c = λ name e. version_told c.in_ok-command.ensures.program.0 _
    (map g.S.AsStr.text c.args.words.now) name _ _ c.in_ok-command.ensures.program.1 e c.in-Err.ensures.kinds
    c.words_fault.ensures

pub returns-in-Err-clause-method : goal.returns-in-Err-clause-method
returns-in-Err-clause-method g c = λ name e. is_memory _ _ c.words_fault.ensures
    (c.in-Err.ensures.passes (ap₂ takes c.in_ok-command.ensures.program.1 e ∙
    paths_is_taken c.in_ok-command.ensures.program.0 name))

pub returns-in-Err-clause-outcome : goal.returns-in-Err-clause-outcome
returns-in-Err-clause-outcome g c = told_outcome c.in_ok-command.ensures.program.0 _
    (map g.S.AsStr.text c.args.words.now) _ c.words_fault.result c.in_ok-command.ensures.program.1
    c.in-Err.ensures.kinds c.words_fault.ensures
