use Rattle.std.proofs.Common.{get_or, length, take, rules, SFits}
use Rattle.std.specs.Int.{w64}
use Rattle.std.proofs.lemmas.Int.{to_z-of_z}
use Rattle.std.proofs.lemmas.Option.{IfSome_then}
use Rattle.assign_core.specs.Numbered.{IsNumber}
use Rattle.assign_core.proofs.Listed.{entry_found}
use Rattle.bidder.proofs.Scans.{taken_below}
use Rattle.bidder.proofs.Nears.{near_all, near_on}
use Rattle.bidder.proofs.near.narrow_best_two.Goals as goal

pub read-near-requires-clause-benefit : goal.read-near-requires-clause-benefit
read-near-requires-clause-benefit c =
    let row = c.args.row.now in
    let g : SFits w64 (get_or row c.loop-i.i c.index-row-i-in-loop-i.result).1 = search rules in
    simp to_z-of_z (c.requires.benefits c.loop-i.i c.index-row-i-in-loop-i.result c.loop-i-test.true)

pub loop-i-preserved : goal.loop-i-preserved
loop-i-preserved c =
    let row = c.args.row.now in
    let i = c.loop-i.i in
    let d = c.index-row-i.result in
    let e = c.index-row-i-in-loop-i.result in
    let g : SFits w64 (get_or row i e).1 = search rules in
    let step = simp to_z-of_z at c.read-near.ensures in
    near_on row c.narrow-narrow.result.now c.read-near.result i d e c.loop-i-test.true
    (step (take i row) c.loop-i.invariant (taken_below row i d c.requires.rising c.loop-i-test.true))

pub exact-requires-clause-object : goal.exact-requires-clause-object
exact-requires-clause-object c =
    let row = c.args.row.now in
    let is = near_all row c.narrow-narrow.result.now c.loop-i.near c.loop-i.i c.loop-i-test.false c.loop-i.invariant in
    entry_found (λ e. IsNumber (length c.args.prices.now) e.0) row c.loop-i.near.object _ c.requires.within is.two.listed

pub exact-requires-clause-other : goal.exact-requires-clause-other
exact-requires-clause-other c =
    let row = c.args.row.now in
    let is = near_all row c.narrow-narrow.result.now c.loop-i.near c.loop-i.i c.loop-i-test.false c.loop-i.invariant in
    entry_found (λ e. IsNumber (length c.args.prices.now) e.0) row c.loop-i.near.other _ c.requires.within is.value

pub returns : goal.returns
returns c =
    let row = c.args.row.now in
    let is = near_all row c.narrow-narrow.result.now c.loop-i.near c.loop-i.i c.loop-i-test.false c.loop-i.invariant in
    IfSome_then c.exact.result c.exact.ensures (λ b from. from row is)
