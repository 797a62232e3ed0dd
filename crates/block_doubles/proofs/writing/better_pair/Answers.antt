use Rattle.std.proofs.Common.{◌<◌, length, refl, rules}
use Rattle.block_doubles.proofs.RowPairs.{better_at}
use Rattle.block_doubles.proofs.writing.better_pair.Goals as goal

pub returns : goal.returns
returns c =
    let person : c.args.selected.row < length c.args.number_costs.now = search rules in
    let object : c.args.selected.at < length c.args.prices.now = search rules in
    better_at c.args.sense c.args.costs.now c.args.prices.now c.args.number_costs.now c.args.number_prices.now
    (length c.args.number_costs.now) c.requires.long refl c.requires.number_prices c.args.selected.row c.args.selected.at
    c.row_part-costs.result.now person object c.row_part-costs.ensures
    (c.is_under.ensures.finite c.if-not-is_under.false) (c.is_under.ensures.under c.if-not-is_under.false)
