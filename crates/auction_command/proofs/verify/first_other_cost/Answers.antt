use Rattle.std.proofs.Common.{[], pos, sym, arith}
use Rattle.assign_core.proofs.Zips.{pairs_from}
use Rattle.auction_command.specs.Findings.{HasCost}
use Rattle.auction_command.proofs.verify.first_other_cost.Goals as goal

pub returns : goal.returns
returns c =
    pairs_from HasCost c.args.problem.now c.args.pairs.now [] (0, pos 0) (sym c.requires)
    (λ j some last. c.loop-i.invariant j (record {
      first = some;
      last =
          omega (arith, c.requires, c.loop-i-test.false);
    }))
