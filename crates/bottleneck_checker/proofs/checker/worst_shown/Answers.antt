use Rattle.std.proofs.Common.{IsSome, IsTrue, sym}
use Rattle.assign_core.specs.Rows.{listed_in}
use Rattle.assign_core.proofs.Listed.{length_zip}
use Rattle.bottleneck_checker.proofs.checker.worst_shown.Goals as goal

pub own_costs-requires : goal.own_costs-requires
own_costs-requires c =
    let yes : IsTrue c.in_ok-is_assignment.field-0 = let no = c.if-not-branch.false in cc in
    let a = c.in_ok-is_assignment.ensures.0 yes in
    sym (length_zip (λ row j. IsSome (listed_in row j)) c.args.lists.now.rows c.args.objects.now a.listed)
