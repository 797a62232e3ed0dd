use Rattle.std.proofs.Common.{◌<◌, pos, get_or, length, take, arith, rules, SFits}
use Rattle.std.specs.Int.{w64}
use Rattle.std.proofs.lemmas.Int.{to_z-of_z}
use Rattle.assign_core.specs.Dense.{row_from}
use Rattle.bidder.proofs.Scans.{full_on, full_below}
use Rattle.bidder.proofs.scan.Scan.read_each.Goals as goal

pub loop-i-preserved : goal.loop-i-preserved
loop-i-preserved c =
    let benefits = c.args.benefits.now in
    let i = c.loop-i.i in
    let lt : i < length benefits = omega (arith, c.loop-i-test.true, c.requires.to) in
    let g : SFits w64 (get_or benefits i (pos 0)) = search rules in
    let step = simp to_z-of_z at c.read-scan.ensures.found in
    record {
      best = λ before. full_on benefits c.args.prices.now c.read-scan.result.found i (pos 0) lt
          (step (row_from 1 (take i benefits)) (c.loop-i.invariant.best before) (full_below benefits i (omega (arith, lt))));
      limit = c.read-scan.ensures.limit;
    }
