use Rattle.std.proofs.Common.{◌∙◌}
use Rattle.auction_command.proofs.Costs.{as_many}
use Rattle.auction_command.proofs.verify.found_in_priced.Goals as goal

pub found_in_costs-requires : goal.found_in_costs-requires
found_in_costs-requires c =
    as_many c.args.problem.now c.args.pairs.now _ (c.as_slice.ensures.value ∙ c.in_ok-objects.ensures)
    (c.in_ok-verdict.ensures.yes.0 c.in-Yes.is).assigned.listed
