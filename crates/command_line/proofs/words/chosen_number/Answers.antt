use Rattle.std.proofs.Common.{◌∙◌, None, Some}
use Rattle.std.specs.Str.Parse.{ParsesUnsigned, ExplainsUnsignedError, HasUnsignedDigitsIfOk}
use Rattle.std.proofs.lemmas.Option.{same_Some}
use Rattle.clap.specs.Words.{found_of}
use Rattle.clap.proofs.WalkLemmas.{one_text-rows}
use Rattle.command_line.proofs.Choices.{none_is_some, number_read}
use Rattle.command_line.proofs.words.chosen_number.Goals as goal

pub unreachable-requires : goal.unreachable-requires
unreachable-requires c =
    let n = c.requires.2.1 in
    none_is_some _ (number_read _ (λ bs r. ParsesUnsigned 64 10 bs r × ExplainsUnsignedError 10 bs r × HasUnsignedDigitsIfOk bs r) n.digits None _ _
    (c.in-None.ensures.value n.digits (one_text-rows (found_of c.args.solve.now) c.args.name.now ∙ n.told)) (λ u x g. g.0) n.in_range)

pub returns : goal.returns
returns c = λ least most n. record {
  digits = n.1.digits;
  told = n.1.told;
  in_range = n.1.in_range;
  value = same_Some _ _ (number_read _ (λ bs r. ParsesUnsigned 64 10 bs r × ExplainsUnsignedError 10 bs r ×
      HasUnsignedDigitsIfOk bs r) n.1.digits (Some c.in-Some.number) _ _
      (c.in-Some.ensures.value n.1.digits (one_text-rows (found_of c.args.solve.now) c.args.name.now ∙ n.1.told)) (λ u x g. g.0) n.1.in_range);
}
