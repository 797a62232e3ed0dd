use Rattle.std.proofs.Common.{ap, subst, sym}
use Rattle.auction_command.specs.declared.run.Solver.{Solver}
use Rattle.auction_command.specs.inside.Solve.{Reports}
use Rattle.auction_command.specs.Solve.{solver_of}
use Rattle.auction_command.proofs.run.report_from.Goals as goal

pub returns-in-Auction : goal.returns-in-Auction
returns-in-Auction g c =
    subst (λ (s : Solver). Reports s c.args.problem c.args.prices (g.W.Write.contents c.args.w.now)
    (g.W.Write.contents c.report_auction.new.w) c.report_auction.result)
    (sym (ap (λ m. solver_of m c.args.solver.options) c.in-Auction.is)) c.report_auction.ensures

pub returns-in-Paths : goal.returns-in-Paths
returns-in-Paths g c =
    subst (λ (s : Solver). Reports s c.args.problem c.args.prices (g.W.Write.contents c.args.w.now)
    (g.W.Write.contents c.report_paths.new.w) c.report_paths.result)
    (sym (ap (λ m. solver_of m c.args.solver.options) c.in-Paths.is)) c.report_paths.ensures
