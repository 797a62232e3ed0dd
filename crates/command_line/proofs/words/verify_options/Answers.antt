use Rattle.std.proofs.Common.{◌∙◌, ap, codes, refl}
use Rattle.std.specs.Borrow.{Bor}
use Rattle.clap.specs.Words.{Text, found_of, rows_of}
use Rattle.clap.proofs.WalkLemmas.{first_value-rows}
use Rattle.command_line.proofs.CommandLines.{flag_told, text_or_none}
use Rattle.command_line.proofs.words.verify_options.Goals as goal

pub returns : goal.returns
returns c =
    let found = found_of c.args.verify.now in (
      rows_of found,
      refl,
      record {
        sparse = flag_told c.args.verify.now (codes "sparse") c.get_flag.result c.get_flag.ensures.none c.get_flag.ensures.value c.get_flag.ensures.other;
        sense = c.requires;
        report = c.in_ok-from_str.ensures.ok ∙ ap (λ (s : Bor Text). s.now) c.unwrap_or-name.ensures
            ∙ text_or_none c.get_str.result _ _ (c.get_str.ensures ∙ first_value-rows found (codes "REPORT")) refl;
        input = c.in_ok-file_name.ensures;
      },
    )
