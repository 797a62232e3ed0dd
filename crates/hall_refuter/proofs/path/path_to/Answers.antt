use Rattle.std.proofs.Common.{arith}
use Rattle.hall_refuter.proofs.Climbing.{arrival_is, one_more, all_on_the_way}
use Rattle.hall_refuter.proofs.path.path_to.Goals as goal

pub loop-at-smaller : goal.loop-at-smaller
loop-at-smaller c =
    let within = c.loop-at.invariant.within in
    c.requires.climbable c.loop-at.at c.in-Some.arrival within (arrival_is c.args.found.now c.loop-at.at _ _ within c.in-Some.is)

pub loop-at-preserved : goal.loop-at-preserved
loop-at-preserved c =
    let within = c.loop-at.invariant.within in
    let at = arrival_is c.args.found.now c.loop-at.at _ _ within c.in-Some.is in
    let below = c.requires.climbable c.loop-at.at c.in-Some.arrival within at in
    let pushed = c.in_ok-push-2.ensures in
    record {
      within = omega arith;
      whole = one_more c.args.found.now c.args.last c.args.object c.loop-at.at c.in-Some.arrival
          c.loop-at.objects.items _ at pushed.items c.loop-at.invariant.whole;
    }

pub returns : goal.returns
returns c =
    all_on_the_way c.args.found.now c.args.last c.args.object c.loop-at.at c.loop-at.objects.items _
    (arrival_is c.args.found.now c.loop-at.at _ _ c.loop-at.invariant.within c.in_default.is) c.reverse.ensures.items c.loop-at.invariant.whole
