use Rattle.std.proofs.Common.{option_map, sym}
use Rattle.auction_command.proofs.Starts.{reports_outcome}
use Rattle.auction_command.proofs.run.run_solve_by.Goals as goal

pub returns : goal.returns
returns g c =
    let start = option_map g.Q.Read.remaining c.args.start in
    reports_outcome c.args.solver (g.R.Read.remaining c.args.r.now) start c.in_ok-problem.problem
    c.in_ok-prices.prices (g.W.Write.contents c.args.w.now) (g.W.Write.contents c.report_from.new.w)
    c.report_from.result
    c.in_ok-problem.ensures (c.in_ok-prices.ensures.begun c.in_ok-problem.problem (sym c.n.ensures.count)) c.report_from.ensures
