use Rattle.std.proofs.Common.{◌+◌, ◌<◌, length, take, get_or, sym, subst, arith, rules, SFits}
use Rattle.std.specs.Int.{w64}
use Rattle.std.proofs.lemmas.Int.{to_z-of_z}
use Rattle.std.proofs.lemmas.List.{take_all}
use Rattle.assign_core.specs.Rows.{IsRising}
use Rattle.bidder.proofs.Scans.{taken_below}
use Rattle.candidates.specs.Candidates.{AreCandidates}
use Rattle.candidates.specs.inside.Reading.{IsReading}
use Rattle.candidates.proofs.Reading.{candidates_row}
use Rattle.candidates.proofs.Taken.{taken_on, taken_rising, taken_row}
use Rattle.candidates.proofs.list.Candidates.read_row.Goals as goal

pub read-requires-clause-row : goal.read-requires-clause-row
read-requires-clause-row c =
    let row = c.args.row.now in
    let n = length c.args.narrow.now in
    candidates_row n (take c.loop-i.i row) c.args.narrow.now c.loop-i.self (taken_row n row c.loop-i.i c.loop-i.auto.i-end c.requires.row)
    c.loop-i.invariant.candidates

pub loop-i-preserved : goal.loop-i-preserved
loop-i-preserved c =
    let row = c.args.row.now in
    let q = c.args.narrow.now in
    let i = c.loop-i.i in
    let d = c.index-row-i.result in
    let e = c.index-row-i-in-loop-i.result in
    let lt : i < length row = c.loop-i-test.true in
    let g : SFits w64 (get_or row i e).1 = search rules in
    let step = simp to_z-of_z at c.read.ensures in
    let on = taken_on row i d e lt in
    subst (λ l. IsReading l q c.read.new.self c.read.new.reading.limit) (sym on)
    (step (take i row) (subst IsRising on (taken_rising row (i + 1) (omega (arith, lt)) c.requires.row.rising)) (taken_below row i d c.requires.row.rising lt)
    c.loop-i.invariant)

pub returns : goal.returns
returns c =
    let row = c.args.row.now in
    subst (λ l. AreCandidates l c.args.narrow.now c.loop-i.self) (take_all c.loop-i.i row c.loop-i-test.false) c.loop-i.invariant.candidates

pub loop-i-init : goal.loop-i-init
loop-i-init c = c.restart-reading.ensures c.args.narrow.now
