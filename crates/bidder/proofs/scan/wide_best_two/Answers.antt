use Rattle.std.proofs.Common.{◌<◌, get_or, take, length, sym, subst, rules, SFits}
use Rattle.std.specs.Int.{w128, w64}
use Rattle.std.proofs.lemmas.Int.{to_z-of_z}
use Rattle.std.proofs.lemmas.List.{take_all}
use Rattle.bidder.specs.BestTwo.{IsBestTwo}
use Rattle.bidder.proofs.Once.{best_two_same}
use Rattle.bidder.proofs.Scans.{read_on, taken_below}
use Rattle.bidder.proofs.scan.wide_best_two.Goals as goal

pub loop-i-init : goal.loop-i-init
loop-i-init c =
    let row = c.args.row.now in
    let e = c.index-row-0-2.result in
    let f : SFits w128 c.value_of-first.result = search rules in
    let g : SFits w64 (get_or row 0 e).1 = search rules in
    let h : SFits w128 c.price.result = search rules in
    let worth = rw c.price.ensures.price at (simp to_z-of_z at c.value_of-first.ensures) in
    let some : 0 < length row = search rules in
    record {
      best = subst (IsBestTwo (take 1 row) c.args.prices.now) (sym c.new-scan.ensures.found)
          (read_on row c.args.prices.now c.only.result 0 c.index-row-0.result e some
          (c.only.ensures c.args.prices.now (get_or row 0 e).1 (simp to_z-of_z worth)));
      limit = c.new-scan.ensures.limit;
    }

pub read-scan-requires-clause-benefit : goal.read-scan-requires-clause-benefit
read-scan-requires-clause-benefit c =
    let row = c.args.row.now in
    let g : SFits w64 (get_or row c.loop-i.i c.index-row-i-in-loop-i.result).1 = search rules in
    simp to_z-of_z (c.requires.benefits c.loop-i.i c.index-row-i-in-loop-i.result c.loop-i-test.true)

pub loop-i-preserved : goal.loop-i-preserved
loop-i-preserved c =
    let row = c.args.row.now in
    let i = c.loop-i.i in
    let d = c.index-row-i.result in
    let e = c.index-row-i-in-loop-i.result in
    let g : SFits w64 (get_or row i e).1 = search rules in
    let step = simp to_z-of_z at c.read-scan.ensures.found in
    record {
      best = read_on row c.args.prices.now c.read-scan.result.found i d e c.loop-i-test.true
          (step (take i row) c.loop-i.invariant.best (taken_below row i d c.requires.rising c.loop-i-test.true));
      limit = c.read-scan.ensures.limit;
    }

pub returns-clause-only : goal.returns-clause-only
returns-clause-only c =
    let row = c.args.row.now in
    best_two_same row c.args.prices.now c.loop-i.scan.found c.requires.rising
    (subst (λ r. IsBestTwo r c.args.prices.now c.loop-i.scan.found) (take_all c.loop-i.i row c.loop-i-test.false) c.loop-i.invariant.best)
