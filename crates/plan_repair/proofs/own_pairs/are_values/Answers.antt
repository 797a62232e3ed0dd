use Rattle.std.proofs.Common.{◌≡◌, ℕ, pos, ◌-◌, ◌+ℤ◌, get_or, ap, sym, ◌∙◌, arith, rules, below_more, to_z, SFits, w64}
use Rattle.std.proofs.lemmas.Int.{to_z-of_z}
use Rattle.assign_core.specs.Prices.{price_of}
use Rattle.assign_core.proofs.NumberedLemmas.{numbered-index}
use Rattle.plan_repair.proofs.own_pairs.are_values.Goals as goal

pub loop-i-preserved : goal.loop-i-preserved
loop-i-preserved c =
    let i = c.loop-i.i in
    let own = c.args.own.now in
    let values = c.args.values.now in
    let prices = c.args.prices.now in
    let x : ℕ = get_or c.args.objects.now i 0 in
    let a : SFits w64 (get_or own i (pos 0)) = search rules in
    let b : SFits w64 (get_or prices (x - 1) (pos 0)) = search rules in
    let v : SFits w64 (get_or values i (pos 0)) = search rules in
    let r : SFits w64 c.sum_of-sum.result = search rules in
    let sum = simp to_z-of_z at c.sum_of-sum.ensures in
    let number = c.requires.within i 0 (omega arith) in
    let price = numbered-index prices x (pos 0) (pos 0) number.first number.last in
    let same : get_or values i (pos 0) ≡ c.sum_of-sum.result =
    sym (to_z-of_z w64 (get_or values i (pos 0)) v) ∙ ap (to_z w64) c.if-values-i.false ∙ to_z-of_z w64 c.sum_of-sum.result r in
    let value : get_or values i (pos 0) ≡ get_or own i (pos 0) +ℤ price_of prices x =
    same ∙ sum ∙ ap (λ z. get_or own i (pos 0) +ℤ z) (sym price) in
    below_more (λ k. get_or values k (pos 0) ≡ get_or own k (pos 0) +ℤ price_of prices (get_or c.args.objects.now k 0)) i c.loop-i.invariant value
