use Rattle.std.proofs.Common.{All, length, arith, ap, sym, subst, ◌∙◌}
use Rattle.std.proofs.lemmas.List.{length-replicate}
use Rattle.assign_core.specs.Numbered.{IsNumber}
use Rattle.dual_checker.proofs.Fronts.{given_within}
use Rattle.dual_checker.proofs.checker.first_fault.Goals as goal

pub first_given_twice-requires-clause-few : goal.first_given_twice-requires-clause-few
first_given_twice-requires-clause-few c =
    let few = c.n-n.ensures.problem.size.few in
    omega (arith, few, c.n-n.ensures.count, c.if-objects-n.false)

pub first_given_twice-requires-clause-within : goal.first_given_twice-requires-clause-within
first_given_twice-requires-clause-within c =
    let rows = c.args.problem.now in
    let long = ap length c.requires.counts ∙ length-replicate (length rows) 0 in
    subst (λ k. All (IsNumber k) c.args.objects.now) (sym long) (given_within (length rows) rows c.args.objects.now
    c.n-n.ensures.problem.each c.in_default.ensures)
