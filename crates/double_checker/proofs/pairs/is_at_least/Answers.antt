use mathlib.Core.Path.{sym, subst, ◌∙◌}
use lib.Ieee.{Float}
use Rattle.std.proofs.Common.{IsTrue, ◌+ℤ◌, ◌≤ℤ◌, ◌<ℤ◌, ◌⊎◌, [], ◌∷◌}
use Rattle.double_costs.specs.Units.{is_number, units_of}
use Rattle.double_checker.specs.Far.{HasFar}
use Rattle.double_checker.specs.inside.Sizes.{size_of}
use Rattle.double_checker.specs.inside.Pairs.{turned}
use Rattle.double_checker.proofs.Finite.{number_turned}
use Rattle.double_checker.proofs.Shown.{seen_turned, open_turned}
use Rattle.double_checker.proofs.pairs.is_at_least.Goals as goal

pub is_finite_at_least-requires-clause-own_cost : goal.is_finite_at_least-requires-clause-own_cost
is_finite_at_least-requires-clause-own_cost c =
    subst (λ (x : Float). IsTrue (is_number x)) (sym c.turned.ensures)
    (number_turned c.args.sense c.args.own_cost c.requires.own_cost)

pub is_finite_at_least-requires-clause-cost : goal.is_finite_at_least-requires-clause-cost
is_finite_at_least-requires-clause-cost c =
    subst (λ (x : Float). IsTrue (is_number x)) (sym c.turned-2.ensures) (number_turned c.args.sense c.args.cost
    (sym c.is_number.ensures ∙ c.if-not-is_number.false))

pub returns-clause-seen : goal.returns-clause-seen
returns-clause-seen c = λ h.
    seen_turned c.args.sense c.args.own_cost c.args.own_price c.args.cost c.args.price
    (sym c.is_number.ensures ∙ c.if-not-is_number.false)
    (subst (λ (x : Float). (units_of x +ℤ units_of c.args.own_price) ≤ℤ
    (units_of (turned c.args.sense c.args.cost) +ℤ units_of c.args.price)) c.turned.ensures
    (subst (λ (x : Float). (units_of c.turned.result +ℤ units_of c.args.own_price) ≤ℤ
    (units_of x +ℤ units_of c.args.price)) c.turned-2.ensures (c.is_finite_at_least.ensures.seen h)))

pub returns-clause-open : goal.returns-clause-open
returns-clause-open c = λ h.
    open_turned c.args.sense c.args.own_cost c.args.own_price c.args.cost c.args.price
    (sym c.is_number.ensures ∙ c.if-not-is_number.false)
    (subst (λ (x : Float). ((units_of (turned c.args.sense c.args.cost) +ℤ units_of c.args.price) <ℤ
    (units_of x +ℤ units_of c.args.own_price)) ⊎ HasFar (size_of x ∷ size_of c.args.own_price ∷ size_of
    (turned c.args.sense c.args.cost) ∷ size_of c.args.price ∷ [])) c.turned.ensures
    (subst (λ (x : Float). ((units_of x +ℤ units_of c.args.price) <ℤ
    (units_of c.turned.result +ℤ units_of c.args.own_price)) ⊎
    HasFar (size_of c.turned.result ∷ size_of c.args.own_price ∷ size_of x ∷ size_of c.args.price ∷ []))
    c.turned-2.ensures (c.is_finite_at_least.ensures.open h)))
