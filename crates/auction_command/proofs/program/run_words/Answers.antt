use Rattle.std.proofs.Common.{Err, Ok, codes, inl, map, refl, rules, subst}
use Rattle.command_line.specs.Words.{AskForNoMode, AskForNoSense, WordsOutcome}
use Rattle.command_line.specs.declared.words.WordsFault.{WordsFault}
use Rattle.command_line.proofs.CommandLines.{no_mode_or_sense}
use Rattle.auction_command.proofs.program.run_words.Goals as goal

pub returns-in-Ok-clause-errors : goal.returns-in-Ok-clause-errors
returns-in-Ok-clause-errors g c = c.run_asked.ensures.errors (Ok (map g.S.AsStr.text c.args.words.now))

pub returns-in-Err-Clap-clause-output : goal.returns-in-Err-Clap-clause-output
returns-in-Err-Clap-clause-output g c =
    let words = map g.S.AsStr.text c.args.words.now in
    inl (c.refuse.ensures.output words (subst (λ (fault : WordsFault). WordsOutcome words (Err fault)) c.in-Err-Clap.field-0-is c.in-Err-Clap.ensures.outcome))

pub returns-in-Err-Clap-clause-errors : goal.returns-in-Err-Clap-clause-errors
returns-in-Err-Clap-clause-errors g c =
    let words = map g.S.AsStr.text c.args.words.now in
    c.refuse.ensures.errors words (subst (λ (fault : WordsFault). WordsOutcome words (Err fault)) c.in-Err-Clap.field-0-is c.in-Err-Clap.ensures.outcome)

pub returns-in-Err-Mode-clause-errors : goal.returns-in-Err-Mode-clause-errors
returns-in-Err-Mode-clause-errors g c =
    let words = map g.S.AsStr.text c.args.words.now in
    let none : AskForNoMode words = search rules in (
      codes "usage: mode is rounds or workers\n",
      ((λ m. refl), (λ s. absurd (no_mode_or_sense none.0 words none.1 (s none.0)))),
      c.write_error.ensures,
    )

pub returns-in-Err-Sense-clause-errors : goal.returns-in-Err-Sense-clause-errors
returns-in-Err-Sense-clause-errors g c =
    let words = map g.S.AsStr.text c.args.words.now in
    let none : AskForNoSense words = search rules in (
      codes "usage: sense is min or max\n",
      ((λ m. absurd (no_mode_or_sense none.0 words (m none.0) none.1)), (λ s. refl)),
      c.write_error-in-Err-Sense.ensures,
    )
