use Rattle.std.proofs.Common.{[], ◌∷◌, refl, sym, subst, nat_eq}
use Rattle.std.specs.List.{IsDistinct}
use Rattle.auction_tests.proofs.problems.crossed.Goals as goal

two_apart : IsDistinct nat_eq (2 ∷ 1 ∷ [])
unfolding IsDistinct
two_apart = ((refl, tt), (tt, tt))

pub new-requires : goal.new-requires
new-requires c = subst (IsDistinct nat_eq) (sym c.in_ok-vec.ensures.items) two_apart
