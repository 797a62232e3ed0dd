use Rattle.std.proofs.Common.{inl, subst}
use Rattle.std.proofs.KnownBytes.{Keeps-refl}
use Rattle.clap.specs.Words.{IsAmong, kind_of}
use Rattle.auction_command.proofs.program.refuse.Goals as goal

pub returns-then-use_stderr-clause-output : goal.returns-then-use_stderr-clause-output
returns-then-use_stderr-clause-output g c = λ words o. (inl (o.0, kind_of c.args.error, o.1, o.2, c.use_stderr.ensures.0 c.if-use_stderr.true), Keeps-refl _)

pub returns-in-Ok-write_text-clause-output : goal.returns-in-Ok-write_text-clause-output
returns-in-Ok-write_text-clause-output g c = λ words o. (
  (o.0, kind_of c.args.error, o.1, λ mistake. let shown = c.use_stderr.ensures.1 mistake in let not = c.if-use_stderr.false in cc),
  c.as_bytes-2.result.now,
  c.in-Ok-write_text.ensures,
)

pub returns-clause-output : goal.returns-clause-output
returns-clause-output g c = λ words o. rw c.fail-in-Err-write_text.ensures.1 (
  (o.0, kind_of c.args.error, o.1, λ mistake. let shown = c.use_stderr.ensures.1 mistake in let not = c.if-use_stderr.false in cc),
  c.as_bytes-2.result.now,
  c.in-Err-write_text.ensures,
)

pub returns-then-use_stderr-clause-errors : goal.returns-then-use_stderr-clause-errors
returns-then-use_stderr-clause-errors g c = λ words o.
    let fault = subst (λ kinds. IsAmong (kind_of c.args.error) kinds) in
    (c.as_bytes.result.now, ((λ none. absurd (fault (none o.0).0 o.1)), (λ none. absurd (fault (none o.0).0 o.1))), c.write_error.ensures)
