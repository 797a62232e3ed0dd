use Rattle.std.proofs.Common.{◌≡◌, ℕ, pos, ◌-◌, ◌+◌, ◌<◌, length, get_or, arith, rules, ap, sym, subst, ◌∙◌, SFits, w64}
use Rattle.std.specs.Int.{int_min}
use Rattle.std.proofs.lemmas.Int.{to_z-of_z}
use Rattle.std.proofs.lemmas.List.{get_or-replicate}
use Rattle.cost_lists.specs.declared.numbers.TheConstants.{UNLISTED}
use Rattle.cost_lists.proofs.Owns.{AreOwnSoFar, costs_below, own_given, own_none, own_skip, own_take}
use Rattle.cost_lists.proofs.own.set_of_pairs.Goals as goal
use Rattle.cost_lists.proofs.own.set_of_pairs.Goals.{then-pairs-k, else-pairs-k}

pub loop-k-init : goal.loop-k-init
loop-k-init c =
    let p = c.args.pairs in
    let own = c.args.own.now in
    own_none UNLISTED c.args.sense p.persons.now p.objects.now p.costs.now c.args.objects.now (length own) own c.requires.mark
    (λ i lt. ap (λ l. get_or l i (pos 0)) c.requires.mark ∙ get_or-replicate (length own) i UNLISTED (pos 0) lt)

pub loop-k-preserved : goal.loop-k-preserved
loop-k-preserved c =
    let p = c.args.pairs in
    let k = c.loop-k.k in
    let place : ℕ = get_or p.persons.now k 0 - 1 in
    elim c.if-pairs-k.branch [
      | then-pairs-k w ↦
          let cost : SFits w64 (get_or p.costs.now k (pos 0)) = search rules in
          let fits : SFits w64 w.to_minimise.result = search rules in
          let was : SFits w64 (get_or c.loop-k.own place (pos 0)) = search rules in
          let turned = simp to_z-of_z at w.to_minimise.ensures in
          let lowered = simp to_z-of_z at w.lower.ensures in
          let number = c.requires.persons k 0 c.loop-k-test.true in
          let room : place < length c.loop-k.own = let some = number.first in let last = number.last in let long = c.loop-k.auto.own in omega arith in
          subst (AreOwnSoFar UNLISTED c.args.sense p.persons.now p.objects.now p.costs.now c.args.objects.now (k + 1)) (sym (w.own-is ∙ lowered))
          (own_take UNLISTED c.args.sense p.persons.now p.objects.now p.costs.now c.args.objects.now k c.loop-k.own
          (int_min (get_or c.loop-k.own place (pos 0)) w.to_minimise.result) room w.if-pairs-k.true
          (ap (int_min (get_or c.loop-k.own place (pos 0))) turned) c.loop-k.invariant)
      | else-pairs-k w ↦
          subst (AreOwnSoFar UNLISTED c.args.sense p.persons.now p.objects.now p.costs.now c.args.objects.now (k + 1)) (sym w.own-is)
          (own_skip UNLISTED c.args.sense p.persons.now p.objects.now p.costs.now c.args.objects.now k c.loop-k.own w.if-pairs-k.false c.loop-k.invariant)
    ]

pub returns : goal.returns
returns c =
    let p = c.args.pairs in
    let end = c.loop-k-test.false in
    let most = c.loop-k.auto.k-end in
    let whole : c.loop-k.k ≡ length p.persons.now = omega arith in
    own_given UNLISTED c.args.sense (length c.args.own.now) p.persons.now p.objects.now p.costs.now c.args.objects.now
    c.loop-k.own c.requires.objects_long c.requires.costs_long c.requires.persons
    (λ q lt. costs_below c.args.sense p.costs.now c.requires.costs q (let long = c.requires.costs_long in omega arith))
    (subst (λ k. AreOwnSoFar UNLISTED c.args.sense p.persons.now p.objects.now p.costs.now c.args.objects.now k c.loop-k.own) whole c.loop-k.invariant)
