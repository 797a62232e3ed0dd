use Rattle.std.proofs.Common.{◌+◌, length, subst}
use Rattle.cost_lists.specs.Source.{part_of}
use Rattle.cost_lists.proofs.CutRows.{part_fits, part_long}
use Rattle.ranking_checker.specs.inside.Adding.{AddsFrom}
use Rattle.ranking_checker.specs.inside.Bases.{IsLow, cut_pair_at, row_pair}
use Rattle.ranking_checker.proofs.AddLaws.{no_rows, row_more}
use Rattle.ranking_checker.proofs.low.core_of_rows.Goals as goal

pub loop-i-init : goal.loop-i-init
loop-i-init c =
    rw c.new-pairs.ensures.items (no_rows (IsLow c.args.base) (cut_pair_at (length c.args.base.prices.now) c.args.costs.now) (length c.args.base.prices.now))

pub loop-i-preserved : goal.loop-i-preserved
loop-i-preserved c =
    let b = c.args.base in
    let m = length b.prices.now in
    let i = c.loop-i.i in
    let long = part_long m i c.args.costs.now (part_fits (length b.own.now) m i c.args.costs.now c.requires.costs.long c.loop-i-test.true) in
    let added = subst (λ row. AddsFrom (IsLow b) (row_pair (i + 1) row) (length row) c.loop-i.pairs.items c.add_row.new.pairs.items) c.part.ensures c.in_ok-add_row.ensures in
    row_more (IsLow b) (cut_pair_at m c.args.costs.now) i m c.loop-i.pairs.items c.add_row.new.pairs.items c.loop-i.invariant
    (subst (λ k. AddsFrom (IsLow b) (row_pair (i + 1) (part_of m i c.args.costs.now)) k c.loop-i.pairs.items c.add_row.new.pairs.items) long added)
