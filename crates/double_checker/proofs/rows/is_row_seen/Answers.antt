use mathlib.Core.Path.{sym, subst}
use lib.Ieee.{Float, add, binary64}
use Rattle.std.proofs.Common.{IsTrue}
use Rattle.double_costs.specs.Units.{is_number}
use Rattle.double_checker.specs.inside.Pairs.{at}
use Rattle.double_checker.proofs.Finite.{number_turned}
use Rattle.double_checker.proofs.RowSteps.{enough_base, enough_own, row_by_base}
use Rattle.double_checker.proofs.rows.is_row_seen.Goals as goal

pub is_base-requires-clause-own_cost : goal.is_base-requires-clause-own_cost
is_base-requires-clause-own_cost c =
    subst (λ (x : Float). IsTrue (is_number x)) (sym c.turned-own_cost.ensures)
    (number_turned c.args.sense (at c.args.row.now c.args.own) c.requires.finite)

pub is_row_above-requires-clause-enough : goal.is_row_above-requires-clause-enough
is_row_above-requires-clause-enough c =
    enough_base c.args.sense (at c.args.row.now c.args.own) (at c.args.prices.now c.args.own)
    (add binary64 (add binary64 c.turned-own_cost.result (at c.args.prices.now c.args.own)) c.args.margin)
    c.args.margin
    c.turned-own_cost.result c.turned-own_cost.ensures (c.is_base.ensures c.if-is_base.true)

pub returns-then-is_base : goal.returns-then-is_base
returns-then-is_base c =
    row_by_base c.args.sense c.args.row.now c.args.prices.now c.args.own
    (add binary64 (add binary64 c.turned-own_cost.result (at c.args.prices.now c.args.own)) c.args.margin)
    c.args.margin
    c.turned-own_cost.result c.is_row_above.result c.turned-own_cost.ensures (c.is_base.ensures c.if-is_base.true)
    c.is_row_above.ensures

pub is_row_above-requires-2-clause-base : goal.is_row_above-requires-2-clause-base
is_row_above-requires-2-clause-base c =
    subst (λ (x : Float). IsTrue (is_number x)) (sym c.turned-own_cost.ensures)
    (number_turned c.args.sense (at c.args.row.now c.args.own) c.requires.finite)

pub is_row_above-requires-2-clause-enough : goal.is_row_above-requires-2-clause-enough
is_row_above-requires-2-clause-enough c =
    enough_own c.args.sense (at c.args.row.now c.args.own) (at c.args.prices.now c.args.own) c.turned-own_cost.result
    c.turned-own_cost.ensures
