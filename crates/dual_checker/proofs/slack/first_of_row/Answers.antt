use Rattle.std.proofs.Common.{sym, subst}
use Rattle.std.proofs.lemmas.Int.{to_z-of_z}
use Rattle.assign_core.specs.Rows.{IsCost}
use Rattle.assign_core.proofs.RowLemmas.{IsCost-listed}
use Rattle.dual_checker.proofs.slack.first_of_row.Goals as goal

pub worth-own_worth-requires-clause-cost : goal.worth-own_worth-requires-clause-cost
worth-own_worth-requires-clause-cost c =
    let f = c.ranges.cost in
    simp to_z-of_z (subst IsCost (sym c.requires.cost) (IsCost-listed c.args.row.now c.args.own c.requires.row.costs))
