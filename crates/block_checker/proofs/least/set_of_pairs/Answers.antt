use Rattle.std.proofs.Common.{◌≡◌, ℕ, pos, ◌-◌, ◌+◌, ◌<◌, length, get_or, refl, arith, rules, ap, sym, subst, SFits, w64}
use Rattle.std.specs.Int.{int_min}
use Rattle.std.proofs.lemmas.Int.{to_z-of_z}
use Rattle.block_checker.specs.inside.Least.{AreLeastOf}
use Rattle.block_checker.proofs.LeastSums.{none_read, one_more}
use Rattle.block_checker.proofs.least.set_of_pairs.Goals as goal

pub loop-k-init : goal.loop-k-init
loop-k-init c = none_read c.args.sense c.args.pairs c.args.prices.now (length c.args.least.now) c.args.least.now c.requires.mark

pub loop-k-preserved : goal.loop-k-preserved
loop-k-preserved c =
    let p = c.args.pairs in
    let k = c.loop-k.k in
    let place : ℕ = get_or p.persons.now k 0 - 1 in
    let cost : SFits w64 (get_or p.costs.now k (pos 0)) = search rules in
    let price : SFits w64 (get_or c.args.prices.now (get_or p.objects.now k 0 - 1) (pos 0)) = search rules in
    let fits : SFits w64 c.sum_of.result = search rules in
    let was : SFits w64 (get_or c.loop-k.least place (pos 0)) = search rules in
    let sum = simp to_z-of_z at c.sum_of.ensures in
    let lowered = simp to_z-of_z at c.lower.ensures in
    let number = c.requires.pairs.persons_in k 0 c.loop-k-test.true in
    let room : place < length c.loop-k.least = let some = number.first in let last = number.last in let long = c.loop-k.auto.least in omega arith in
    subst (AreLeastOf c.args.sense p c.args.prices.now (k + 1)) (sym lowered)
    (one_more c.args.sense p c.args.prices.now k place c.loop-k.least (int_min (get_or c.loop-k.least place (pos 0)) c.sum_of.result) refl room
    (ap (int_min (get_or c.loop-k.least place (pos 0))) sum) c.loop-k.invariant)

pub returns : goal.returns
returns c =
    let end = c.loop-k-test.false in
    let most = c.loop-k.auto.k-end in
    let whole : c.loop-k.k ≡ length c.args.pairs.persons.now = omega arith in
    subst (λ k. AreLeastOf c.args.sense c.args.pairs c.args.prices.now k c.loop-k.least) whole c.loop-k.invariant
