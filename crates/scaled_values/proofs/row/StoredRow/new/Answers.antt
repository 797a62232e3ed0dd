use Rattle.std.proofs.Common.{ap, ◌∙◌, length, arith}
use Rattle.assign_core.specs.Dense.{row_from}
use Rattle.assign_core.proofs.BenefitRows.{length-benefit_row}
use Rattle.scaled_values.proofs.FullRows.{full_entries, length-rising}
use Rattle.scaled_values.proofs.row.StoredRow.new.Goals as goal

pub returns-in_ok-benefits-clause-entries : goal.returns-in_ok-benefits-clause-entries
returns-in_ok-benefits-clause-entries c = ap (row_from 1) c.in_ok-benefits.ensures.benefits ∙
    full_entries c.args.sense c.args.n c.args.row.now c.requires.row (omega (arith, c.if-row-n.true))

pub returns-in_ok-pairs-clause-form : goal.returns-in_ok-pairs-clause-form
returns-in_ok-pairs-clause-form c =
    let few = length-rising c.args.n c.args.row.now c.requires.row.rising c.requires.row.within in
    let long = ap length c.in_ok-pairs.ensures.pairs ∙ length-benefit_row c.args.sense c.args.n c.args.row.now in
    omega (arith, c.if-row-n.false)
