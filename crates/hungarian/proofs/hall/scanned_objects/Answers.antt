use Rattle.std.proofs.Common.{◌≡◌, sym, subst, ◌<◌, length, arith}
use Rattle.hungarian.specs.inside.Plans.{at}
use Rattle.hungarian.proofs.Scanned.{AreListed, listed_more, listed_none, listed_upto}
use Rattle.hungarian.proofs.hall.scanned_objects.Goals as goal

pub loop-j-init : goal.loop-j-init
loop-j-init c = subst (λ y. AreListed (λ k. 0 < at c.args.ranks.now k) 0 y) (sym c.new-numbers.ensures.items)
    (listed_none (λ k. 0 < at c.args.ranks.now k))

pub loop-j-preserved : goal.loop-j-preserved
loop-j-preserved c =
    listed_more (λ k. 0 < at c.args.ranks.now k) c.loop-j.j c.loop-j.numbers.items _ c.is_ranked-is_chosen.result
    c.is_ranked-is_chosen.ensures c.loop-j.invariant
    c.in_ok-push_chosen.ensures.yes c.in_ok-push_chosen.ensures.no

pub returns-clause-rise : goal.returns-clause-rise
returns-clause-rise c = c.loop-j.invariant.rise

pub returns-clause-each : goal.returns-clause-each
returns-clause-each c =
    let end : c.loop-j.j ≡ length c.args.ranks.now = let a = c.loop-j-test.false in let b = c.loop-j.auto.j-end in
    omega arith in
    (listed_upto (λ k. 0 < at c.args.ranks.now k) c.loop-j.j
    (length c.args.ranks.now) c.loop-j.numbers.items c.loop-j.invariant end).each
