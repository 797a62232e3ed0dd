use Rattle.wide_checker.proofs.Limits.{limits_shown}
use Rattle.wide_checker.proofs.lists.WideLists.objects.Goals as goal

pub returns-clause-rule : goal.returns-clause-rule
returns-clause-rule c = let i = c.self.inside in limits_shown i.sense i.n i.m i.source c.args.self.now c.self.invariant c.self.view_is
