use Rattle.std.proofs.Common.{rules, SFits}
use Rattle.std.specs.Int.{w64}
use Rattle.std.proofs.lemmas.Int.{to_z-of_z}
use Rattle.bidder.proofs.Skips.{skipped}
use Rattle.bidder.proofs.scan.Scan.read_block.Goals as goal

pub returns-then-none_above-clause-found : goal.returns-then-none_above-clause-found
returns-then-none_above-clause-found c =
    let f : SFits w64 c.args.self.limit = search rules in
    skipped c.args.benefits.now c.narrow.result.now c.args.prices.now c.args.self.found c.args.self.limit
    c.args.from 16 c.requires.limit c.requires.benefits c.narrow.ensures
    c.requires.long c.requires.room (simp to_z-of_z at (c.none_above.ensures c.if-none_above.true))
