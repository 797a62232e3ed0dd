use Rattle.std.proofs.Common.{pos, get_or, rules, SFits, w64}
use Rattle.std.proofs.lemmas.Int.{to_z-of_z}
use Rattle.block_checker.proofs.GivenPairs.{pair_read}
use Rattle.block_checker.proofs.better.pair_of_pairs.Goals as goal

pub returns : goal.returns
returns c = λ sense.
    let fits : SFits w64 (get_or c.args.pairs.costs.now c.args.selected.at (pos 0)) = search rules in
    simp to_z-of_z (pair_read sense c.args.pairs c.args.n c.args.m c.requires.pairs c.args.selected.at c.if-at-pairs.false)
