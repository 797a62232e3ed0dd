use Rattle.std.proofs.Common.{rules, SFits}
use Rattle.std.specs.Int.{w128}
use Rattle.std.proofs.lemmas.Int.{to_z-of_z}
use Rattle.c_wide.proofs.PushedLevels.{level_pushed}
use Rattle.c_wide.proofs.fewest.priced.own_levels.Goals as goal

pub loop-i-preserved : goal.loop-i-preserved
loop-i-preserved c =
    let fits : SFits w128 c.level_of.result = search rules in
    let items = simp to_z-of_z at c.in_ok-push.ensures.items in
    level_pushed c.args.priced c.args.objects.now c.loop-i.i c.level_of.result c.loop-i.levels.items c.push.new.self.items items c.loop-i.invariant c.level_of.ensures
