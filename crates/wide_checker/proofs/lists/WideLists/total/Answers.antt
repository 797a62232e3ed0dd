use Rattle.std.proofs.Common.{IsSome, sym, subst}
use Rattle.std.specs.List.{All}
use Rattle.std.proofs.lemmas.Slice.Zip.{AllZip-long}
use Rattle.assign_core.specs.Rows.{listed_in}
use Rattle.wide_checker.specs.WideNumbers.{IsInCosts}
use Rattle.wide_checker.proofs.WideOwns.{wide_range}
use Rattle.wide_checker.proofs.lists.WideLists.total.Goals as goal

pub own_costs-requires : goal.own_costs-requires
own_costs-requires c = AllZip-long (λ row j. IsSome (listed_in row j)) c.args.self.now.rows c.args.objects.now c.requires

pub total_of-requires-clause-costs : goal.total_of-requires-clause-costs
total_of-requires-clause-costs c =
    let l = c.args.self.now in
    subst (All IsInCosts) (sym c.as_slice.ensures.value)
    (wide_range l.sense l.rows c.args.objects.now c.in_ok-own.own.items c.in_ok-own.ensures c.requires c.persons-persons.ensures.rule.costs)
