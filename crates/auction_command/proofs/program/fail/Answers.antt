use Rattle.std.proofs.Common.{◌≡◌, ◌++◌, ◌∙◌, ap, refl, subst}
use Rattle.std.proofs.lemmas.Fmt.{contents_after_writes}
use Rattle.auction_command.specs.Program.{IsWritten, line_of}
use Rattle.auction_command.proofs.Ends.{line_cut_off}
use Rattle.auction_command.specs.declared.program.Written.TheVariants.{Part}
use Rattle.auction_command.proofs.program.fail.Goals as goal

pub returns-in-Ok : goal.returns-in-Ok
returns-in-Ok g c =
    let whole = contents_after_writes _ (λ s. s.bytes) (λ s bytes t h. h) _ _ _ c.in-Ok.ensures.writes in
    let line : c.as_bytes.result.now ≡ line_of c.args.fault = c.as_bytes.ensures.value ∙ c.deref.ensures.0 ∙ whole ∙
    ap (λ front. front ++ line_of c.args.fault) c.new-line.ensures in (
      c.write_error-written.result,
      refl,
      subst (λ text. IsWritten (g.E.Write.contents c.args.e.now) (g.E.Write.contents c.write_error-written.new.e)
          text c.write_error-written.result) line c.write_error-written.ensures,
    )

pub returns-in-Err : goal.returns-in-Err
returns-in-Err g c = (Part, refl, line_cut_off _ c.args.fault)
