use Rattle.std.proofs.Common.{[], ◌∷◌, refl, sym, subst, nat_eq}
use Rattle.std.specs.List.{IsDistinct}
use Rattle.program_tests.proofs.reporting.writing.two_persons.Goals as goal

two_apart : IsDistinct nat_eq (2 ∷ 1 ∷ [])
unfolding IsDistinct
two_apart = ((refl, tt), (tt, tt))

pub new-assignment-requires : goal.new-assignment-requires
new-assignment-requires c = subst (IsDistinct nat_eq) (sym c.in_ok-vec.ensures.items) two_apart
