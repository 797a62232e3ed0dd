use Rattle.std.proofs.Common.{◌≡◌, sym, subst, length, arith}
use Rattle.hungarian.specs.inside.Plans.{at}
use Rattle.hungarian.specs.inside.Trees.{IsScanned}
use Rattle.hungarian.proofs.Scanned.{AreListed, listed_more, listed_none, listed_upto}
use Rattle.hungarian.proofs.hall.scanned_persons.Goals as goal

pub loop-i-init : goal.loop-i-init
loop-i-init c = subst (λ y. AreListed
    (λ k. IsScanned c.args.first (at c.args.objects.now) (at c.args.ranks.now) k) 0 y)
    (sym c.new-numbers.ensures.items)
    (listed_none (λ k. IsScanned c.args.first (at c.args.objects.now) (at c.args.ranks.now) k))

pub loop-i-preserved : goal.loop-i-preserved
loop-i-preserved c =
    listed_more (λ k. IsScanned c.args.first (at c.args.objects.now) (at c.args.ranks.now) k) c.loop-i.i
    c.loop-i.numbers.items _ c.is_scanned-is_chosen.result c.is_scanned-is_chosen.ensures c.loop-i.invariant
    c.in_ok-push_chosen.ensures.yes c.in_ok-push_chosen.ensures.no

pub returns-clause-rise : goal.returns-clause-rise
returns-clause-rise c = c.loop-i.invariant.rise

pub returns-clause-each : goal.returns-clause-each
returns-clause-each c =
    let end : c.loop-i.i ≡ length c.args.objects.now = let a = c.loop-i-test.false in let b = c.loop-i.auto.i-end in
    omega arith in
    (listed_upto (λ k. IsScanned c.args.first (at c.args.objects.now) (at c.args.ranks.now) k) c.loop-i.i
    (length c.args.objects.now) c.loop-i.numbers.items c.loop-i.invariant end).each
