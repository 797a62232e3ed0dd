use Rattle.wide_checker.proofs.Limits.{given_shown, rows_shown}
use Rattle.wide_checker.proofs.lists.WideLists.source.Goals as goal

pub returns-clause-given : goal.returns-clause-given
returns-clause-given c = let i = c.self.inside in given_shown i.sense i.n i.m i.source c.args.self.now c.self.invariant c.self.view_is

pub returns-clause-rows : goal.returns-clause-rows
returns-clause-rows c = let i = c.self.inside in rows_shown i.sense i.n i.m i.source c.args.self.now c.self.invariant c.self.view_is
