use Rattle.std.proofs.Common.{◌∙◌, codes, refl, sym}
use Rattle.clap.specs.Words.{found_of, rows_of}
use Rattle.clap.proofs.WalkLemmas.{first_value-rows}
use Rattle.command_line.proofs.Choices.{sense_told, sense_untold}
use Rattle.command_line.proofs.words.chosen_sense.Goals as goal

pub returns-in-Some-named_sense-clause-ok : goal.returns-in-Some-named_sense-clause-ok
returns-in-Some-named_sense-clause-ok c =
    sense_told (rows_of (found_of c.args.verify.now)) c.in-Some.name.now c.in-Some-named_sense.sense
    (c.in-Some.ensures ∙ first_value-rows (found_of c.args.verify.now) (codes "sense"))
    c.in-Some-named_sense.ensures.some

pub returns-in-None-named_sense-clause-err : goal.returns-in-None-named_sense-clause-err
returns-in-None-named_sense-clause-err c = (
  refl,
  sense_untold (rows_of (found_of c.args.verify.now)) c.in-Some.name.now (c.in-Some.ensures ∙
      first_value-rows (found_of c.args.verify.now) (codes "sense")) (c.in-None-named_sense.ensures.none refl),
)

pub returns-in-None-clause-ok : goal.returns-in-None-clause-ok
returns-in-None-clause-ok c = sym (c.in-None.ensures ∙ first_value-rows (found_of c.args.verify.now) (codes "sense"))
