use Rattle.std.proofs.Common.{length, ap, ◌∙◌, sym, map}
use Rattle.assign_core.proofs.Listed.{length_zip}
use Rattle.assign_core.proofs.RowLemmas.{length-mapped, HasCosts-rows, IsRising-rows}
use Rattle.assign_core.proofs.problem.Problem.total.Goals as goal

pub sum_of-requires-clause-same : goal.sum_of-requires-clause-same
sum_of-requires-clause-same c =
    ap length c.as_slice.ensures.value
    ∙ length-mapped (λ r. r.items) c.self.inside.rows.items c.args.self.now c.self.view_is
    ∙ length_zip _ _ _ c.requires.listed
    ∙ ap length (sym c.objects.ensures.objects)

pub sum_of-requires-clause-rising : goal.sum_of-requires-clause-rising
sum_of-requires-clause-rising c = rw c.as_slice.ensures.value (IsRising-rows _ (map (λ r. r.items) c.self.inside.rows.items) c.self.invariant.each)

pub sum_of-requires-clause-costs : goal.sum_of-requires-clause-costs
sum_of-requires-clause-costs c = rw c.as_slice.ensures.value (HasCosts-rows _ (map (λ r. r.items) c.self.inside.rows.items) c.self.invariant.each)
