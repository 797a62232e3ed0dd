use Rattle.std.proofs.Common.{IsTrue, arith, ap, sym, subst, ◌∙◌}
use Rattle.std.proofs.lemmas.Int.{ints}
use lib.Ieee.{Float}
use Rattle.double_costs.specs.Units.{is_number, units_of}
use Rattle.double_checker.proofs.Finite.{number_turned, units_turned}
use Rattle.block_doubles.proofs.least.is_less.Goals as goal

pub is_sum_less-requires-clause-a : goal.is_sum_less-requires-clause-a
is_sum_less-requires-clause-a c =
    subst (λ (x : Float). IsTrue (is_number x)) (sym c.turned.ensures) (number_turned c.args.sense c.args.cost c.requires.cost)

pub is_sum_less-requires-clause-c : goal.is_sum_less-requires-clause-c
is_sum_less-requires-clause-c c =
    subst (λ (x : Float). IsTrue (is_number x)) (sym c.turned-2.ensures) (number_turned c.args.sense c.args.other_cost c.requires.other_cost)

pub returns : goal.returns
returns c =
    let x = ap units_of c.turned.ensures ∙ units_turned c.args.sense c.args.cost in
    let y = ap units_of c.turned-2.ensures ∙ units_turned c.args.sense c.args.other_cost in
    let n = c.is_sum_less.ensures in
    ((λ h. let l = n.0 h in omega (arith, ints)), (λ h. n.1 (omega (arith, ints))))
