use Rattle.std.proofs.Common.{◌≡◌, ℤ, pos, List, length, sym, subst, arith}
use Rattle.std.proofs.lemmas.Grind.{common_steps}
use Rattle.std.specs.List.{All}
use Rattle.assign_core.specs.Benefits.{IsBenefit}
use Rattle.assign_core.specs.Dense.{row_from}
use Rattle.assign_core.proofs.DenseRows.{length-row_from, row_from-index}
use Rattle.scaled_values.specs.Scaled.{IsBenefitRow}
use Rattle.bidder.proofs.Scans.{full_rising}
use Rattle.auction_tests.proofs.bidding.pairs_of.Goals as goal

full_row : (benefits : List ℤ) → All IsBenefit benefits → IsBenefitRow (length benefits) (row_from 1 benefits)
full_row benefits h =
    let long = length-row_from 1 benefits in
    record {
      rising = full_rising benefits;
      within = λ k d lt. let at = row_from-index 1 k benefits d (pos 0) (omega arith) in rw at (record { first = omega arith; last = omega arith });
      benefits = λ k d lt. let at = row_from-index 1 k benefits d (pos 0) (omega arith) in rw at (h k (pos 0) (omega arith));
    }

pub returns : goal.returns
returns c =
    let same : c.loop-i.row.items ≡ row_from 1 c.args.benefits.now = grind (arith, common_steps) in
    subst (IsBenefitRow (length c.args.benefits.now)) (sym same) (full_row c.args.benefits.now c.requires.range)
