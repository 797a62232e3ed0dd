use Rattle.std.proofs.Common.{◌≡◌, ℤ, ◌≤ℤ◌, Bool, true, false, not, IsTrue, refl, sym, subst}
use mathlib.Core.Bool.{true≢false}
use Rattle.double_costs.specs.Units.{units_of}
use Rattle.double_checker.proofs.Finite.{number_neg, units_neg}
use Rattle.double_checker.proofs.MarginSizes.{size_between}
use Rattle.double_checker.proofs.margins.is_within.Goals as goal

not_true : (b : Bool) → IsTrue (not b) → b ≡ false
not_true true h = absurd (true≢false (sym h))
not_true false h = refl

pub is_less-requires-2-clause-y : goal.is_less-requires-2-clause-y
is_less-requires-2-clause-y c = number_neg c.args.limit c.requires

pub returns : goal.returns
returns c = λ h.
    size_between c.args.cost c.args.limit (c.is_less.ensures.no_less c.if-is_less.false)
    (subst (λ (z : ℤ). z ≤ℤ units_of c.args.cost) (units_neg c.args.limit)
    (c.is_less-2.ensures.no_less (not_true c.is_less-2.result h)))
