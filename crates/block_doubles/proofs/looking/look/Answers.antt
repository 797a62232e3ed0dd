use Rattle.std.proofs.Common.{◌≡◌, ℕ, MatchOption, length, arith, subst}
use Rattle.block_doubles.specs.inside.Places.{AreAbove, IsFirstBetter}
use Rattle.block_doubles.proofs.RowPairs.{least_pairs, own_marks, told}
use Rattle.block_doubles.proofs.looking.look.Goals as goal

pub returns-clause-least : goal.returns-clause-least
returns-clause-least c =
    least_pairs c.args.sense c.args.costs.now c.args.prices.now c.args.number_costs.now c.args.number_prices.now
    (length c.args.objects.now) c.requires.long c.requires.number_costs c.requires.number_prices c.set_least.new.objects
    c.set_least.new.paid (omega arith) (omega arith) c.set_least.ensures

pub returns-clause-own : goal.returns-clause-own
returns-clause-own c =
    own_marks c.args.sense c.args.costs.now c.args.prices.now c.args.number_costs.now c.args.number_prices.now
    (length c.args.objects.now) c.requires.long c.requires.number_costs c.requires.number_prices c.args.objects.now
    c.set_marks.new.marks (omega arith) (omega arith) c.set_marks.ensures

pub returns-clause-first : goal.returns-clause-first
returns-clause-first c =
    let e : length c.set_least.new.objects ≡ length c.args.objects.now = omega arith in
    told c.args.sense c.args.costs.now c.args.prices.now c.args.number_costs.now c.args.number_prices.now
    (length c.args.objects.now) c.requires.long c.requires.number_costs c.requires.number_prices c.first_better.result
    (subst (λ (n : ℕ). MatchOption c.first_better.result
    (AreAbove c.args.sense c.args.costs.now c.args.prices.now c.args.number_costs.now c.args.number_prices.now n)
    (λ p. IsFirstBetter c.args.sense c.args.costs.now c.args.prices.now c.args.number_costs.now c.args.number_prices.now n p.0 p.1))
    e c.first_better.ensures)
