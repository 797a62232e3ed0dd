use Rattle.std.proofs.Common.{ℕ, get_or, inl, inr, subst, sym}
use Rattle.assign_core.proofs.NumberedLemmas.{low_or_same}
use Rattle.double_checker.specs.inside.Halls.{IsAllowedToOne}
use Rattle.double_checker.proofs.hall_rows.are_listed.Goals as goal

pub loop-q-preserved : goal.loop-q-preserved
loop-q-preserved c = λ q lt. elim (low_or_same q c.loop-q.q lt) [
  | inl l ↦ c.loop-q.invariant q l
  | inr e ↦ subst (λ (i : ℕ). IsAllowedToOne c.args.m c.args.costs.now c.args.persons.now
      (get_or c.args.objects.now i 0)) (sym e) (c.is_listed.ensures.0 c.if-not-is_listed.false)
]
