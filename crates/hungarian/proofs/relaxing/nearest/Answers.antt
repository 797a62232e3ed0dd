use Rattle.std.proofs.Common.{arith}
use Rattle.hungarian.specs.inside.Plans.{at, int_at}
use Rattle.hungarian.proofs.Nearest.{best_all, best_more, best_none}
use Rattle.hungarian.proofs.relaxing.nearest.Goals as goal

pub loop-j-init : goal.loop-j-init
loop-j-init c = record {
  within = c.requires.some;
  best = best_none (int_at c.args.prices.now) (int_at c.args.to_objects.now) (at c.args.predecessors.now)
      (at c.args.ranks.now);
}

pub loop-j-preserved : goal.loop-j-preserved
loop-j-preserved c = record {
  within = c.next_best-best.ensures.within;
  best =
      best_more (int_at c.args.prices.now) (int_at c.args.to_objects.now) (at c.args.predecessors.now)
      (at c.args.ranks.now) c.requires.nobody c.loop-j.j c.loop-j.best c.loop-j.invariant.best
      c.waits-is_waiting.result c.next_best-best.result c.waits-is_waiting.ensures c.next_best-best.ensures.stays
      c.next_best-best.ensures.takes;
}

pub returns-clause-none : goal.returns-clause-none
returns-clause-none c =
    let l = c.loop-j in
    (best_all c.args.prices.now c.args.to_objects.now c.args.predecessors.now c.args.ranks.now l.j l.best
    (let a = c.loop-j-test.false in let b = c.requires.predecessors in omega arith) l.invariant.best).0

pub returns-clause-some : goal.returns-clause-some
returns-clause-some c =
    let l = c.loop-j in
    (best_all c.args.prices.now c.args.to_objects.now c.args.predecessors.now c.args.ranks.now l.j l.best
    (let a = c.loop-j-test.false in let b = c.requires.predecessors in omega arith) l.invariant.best).1
