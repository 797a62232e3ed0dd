use Rattle.std.proofs.Common.{◌≡◌, ◌<◌, pos, length, arith, ap, ◌∙◌, sym, map, get_or, [], subst, unwrap_or}
use Rattle.std.proofs.lemmas.Int.{ints}
use Rattle.std.proofs.lemmas.List.{length-map}
use Rattle.assign_core.specs.Rows.{IsCost, IsRising, listed_in, listed_or_zero}
use Rattle.assign_core.proofs.RowLemmas.{IsCost-listed, mapped_at}
use Rattle.assign_core.proofs.Totals.{total-drop}
use Rattle.assign_core.proofs.problem.sum_of.Goals as goal

row_is : (c : goal.After-unwrap_or-cost) → c.as_slice.result.now ≡ get_or (map (λ r. r.items) c.args.rows.now) c.loop-i.i []
row_is c = mapped_at (λ r. r.items) c.args.rows.now c.loop-i.i c.index-rows-i.result c.as_slice.result.now
    c.loop-i-test.true c.index-rows-i.is c.as_slice.ensures.value

-- what the pair adds
cost_is : (c : goal.After-unwrap_or-cost) → c.unwrap_or-cost.result ≡ listed_or_zero
    (get_or (map (λ r. r.items) c.args.rows.now) c.loop-i.i [])
    (get_or c.args.objects.now c.loop-i.i c.index-objects-i.result)
cost_is c =
    c.unwrap_or-cost.ensures
    ∙ ap (λ o. unwrap_or o (pos 0)) (c.find.ensures ∙ ap (λ r. listed_in r c.index-objects-i.result) (row_is c))
    ∙ ap (listed_or_zero (get_or (map (λ r. r.items) c.args.rows.now) c.loop-i.i [])) c.index-objects-i.is

bounds : (c : goal.After-unwrap_or-cost) → IsCost c.unwrap_or-cost.result
bounds c =
    let at : c.loop-i.i < length (map (λ r. r.items) c.args.rows.now) = simp length-map c.loop-i-test.true in
    subst IsCost (sym (cost_is c)) (IsCost-listed _ _ (c.requires.costs c.loop-i.i [] at))

pub find-requires : goal.find-requires
find-requires c =
    let at : c.loop-i.i < length (map (λ r. r.items) c.args.rows.now) = simp length-map c.loop-i-test.true in
    let row = mapped_at (λ r. r.items) c.args.rows.now c.loop-i.i c.index-rows-i.result c.as_slice.result.now
    c.loop-i-test.true c.index-rows-i.is c.as_slice.ensures.value in
    subst IsRising (sym row) (c.requires.rising c.loop-i.i [] at)

pub overflow_add-sum : goal.overflow_add-sum
overflow_add-sum c =
    let b = bounds c in
    omega (arith, ints, c.requires.few, c.loop-i-test.true, c.loop-i.invariant.low, c.loop-i.invariant.high)

pub loop-i-preserved : goal.loop-i-preserved
loop-i-preserved c =
    let b = bounds c in
    let at : c.loop-i.i < length (map (λ r. r.items) c.args.rows.now) = simp length-map c.loop-i-test.true in
    let more = total-drop (map (λ r. r.items) c.args.rows.now) c.args.objects.now c.loop-i.i
    c.index-objects-i.result at (omega (arith, c.requires.same, c.loop-i-test.true)) in
    let adds = cost_is c in
    record {
      whole = omega (arith, ints, c.loop-i.invariant.whole);
      low = omega (arith, ints);
      high = omega (arith, ints);
    }
