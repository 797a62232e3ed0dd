use Rattle.std.proofs.Common.{ℕ, List, IsTrue, ap, length, subst, rules, arith}
use Rattle.std.specs.Prelude.{IsSome}
use Rattle.rayon.proofs.ListFacts.{IfOk-then}
use Rattle.assign_core.specs.Rows.{listed_in}
use Rattle.assign_core.specs.Numbered.{IsNumber}
use Rattle.assign_core.proofs.Listed.{length_zip}
use Rattle.parallel_checker.specs.Persons.{IsSlackPerson}
use Rattle.parallel_checker.proofs.Persons.{certificate_by_persons}
use Rattle.parallel_checker.proofs.confirm.is_certificate.Goals as goal

pub returns-then-objects-n : goal.returns-then-objects-n
returns-then-objects-n g c = (
  λ t. absurd (search rules),
  λ h.
      let long = length_zip (λ row j. IsSome (listed_in row j)) c.args.problem.now c.args.assignment.now h.assigned.listed in
      let size = ap length c.objects-objects.ensures.objects in
      absurd (omega (arith, long, size, c.n-n.ensures.count, c.if-objects-n.true)),
)

pub returns-then-as_slice-n : goal.returns-then-as_slice-n
returns-then-as_slice-n g c = (
  λ t. absurd (search rules),
  λ h.
      let size = ap length c.as_slice.ensures.prices in
      absurd (omega (arith, h.priced, size, c.n-n.ensures.count, c.if-as_slice-n.true)),
)

pub returns : goal.returns
returns g c =
    let objects = ap length c.objects-objects.ensures.objects in
    let prices = ap length c.as_slice.ensures.prices in
    let by = certificate_by_persons c.args.sense c.args.problem.now c.args.assignment.now c.args.prices.now
    c.objects-objects.ensures.apart c.as_slice.ensures.table (omega (arith, objects, c.n-n.ensures.count, c.if-objects-n.false))
    (omega (arith, prices, c.n-n.ensures.count, c.if-as_slice-n.false)) in
    let R : List ℕ → Type 0 = λ xs. (i : ℕ) → IsNumber (length c.args.problem.now) i → IsSlackPerson c.args.sense c.args.problem.now xs c.args.prices.now i in
    IfOk-then c.all_slack.result _ _ c.all_slack.ensures (λ yes h.
    let at = subst (λ xs. (IsTrue yes → R xs) × (R xs → IsTrue yes)) c.objects-objects.ensures.objects h in (
      λ t. by.0 (at.0 t),
      λ k. at.1 (by.1 k),
    ))
