use Rattle.std.proofs.Common.{◌∙◌, List, ap, subst, sym}
use Rattle.std.specs.Arc.{arc_value}
use Rattle.assign_core.specs.Rows.{IsProblem, Listing}
use Rattle.command_line.specs.declared.words.Method.TheVariants.{Auction}
use Rattle.scaled_values.specs.Scaled.{ScaledProblem}
use Rattle.auction_command.specs.inside.Solve.{Puts}
use Rattle.auction_command.specs.Solve.{solver_of}
use Rattle.auction_command.proofs.Settled.{reports_on}
use Rattle.auction_command.proofs.run.report_auction.Goals as goal

pub returns-in-Ok : goal.returns-in-Ok
returns-in-Ok g c =
    let s = arc_value c.in_ok-scaled.scaled in
    let outcome = c.in-Ok.outcome in
    let options = c.args.options in
    let rule = subst (λ (t : ScaledProblem). IsProblem t.problem) c.deref.ensures c.problem.ensures.rule in
    let rows = c.problem.ensures.problem ∙ ap (λ (t : ScaledProblem). t.problem) c.deref.ensures in
    let put = subst (λ (l : List Listing). Puts options l outcome (g.W.Write.contents c.args.w.now)
    (g.W.Write.contents c.put_report.new.w) c.put_report.result) rows c.put_report.ensures in
    reports_on (solver_of Auction options) c.args.problem c.args.prices s outcome _ _ _ c.in_ok-scaled.ensures rule
    c.in-Ok.ensures.mode c.in-Ok.ensures.proof put
