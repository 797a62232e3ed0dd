use Rattle.std.proofs.Common.{subst, ◌∙◌}
use Rattle.std.proofs.lemmas.Result.{err_from_is_err_and}
use Rattle.std.specs.Io.KnownBytes.{Appends}
use Rattle.assign_core.specs.Rows.{IsProblem}
use Rattle.report.specs.SeenReports.{seen_report}
use Rattle.report.specs.Writing.{IsCutOff}
use Rattle.auction_command.proofs.Verdicts.{finding_is}
use Rattle.auction_command.proofs.verify.run_verify_under.Goals as goal

pub returns : goal.returns
returns g c =
    let line = c.as_bytes.ensures.value ∙ c.in_ok-line.ensures.ok in (
      c.in_ok-finding.finding,
      finding_is _ _ _ c.in_ok-problem.problem (seen_report c.in_ok-report.report) _
          (subst IsProblem c.problem.view_is c.problem.invariant) c.in_ok-problem.ensures
          c.in_ok-report.ensures.answer c.in_ok-finding.ensures,
      c.verified.ensures,
      subst (Appends (g.W.Write.contents c.args.w.now) (g.W.Write.contents c.write_text.new.w)) line c.in_ok-write_text.ensures,
    )

pub returns-in_err-write_text : goal.returns-in_err-write_text
returns-in_err-write_text g c =
    let p = err_from_is_err_and c.from_residual-in_err-write_text.result c.from_residual-in_err-write_text.ensures.1 in
    let line = c.as_bytes.ensures.value ∙ c.in_ok-line.ensures.ok in
    rw (p.1, p.2) (
      c.in_ok-finding.finding,
      finding_is _ _ _ c.in_ok-problem.problem (seen_report c.in_ok-report.report) _
          (subst IsProblem c.problem.view_is c.problem.invariant) c.in_ok-problem.ensures
          c.in_ok-report.ensures.answer c.in_ok-finding.ensures,
      subst (IsCutOff (g.W.Write.contents c.args.w.now) (g.W.Write.contents c.write_text.new.w)) line c.in_err-write_text.ensures,
    )
