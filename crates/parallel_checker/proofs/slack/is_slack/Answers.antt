use Rattle.std.proofs.Common.{◌≡◌, ℕ, ◌+◌, ap, arith, length, pos, refl, rules, subst, sym, IsSome, SFits, w64, ◌∙◌, unwrap_or}
use Rattle.std.proofs.lemmas.Int.{to_z-of_z}
use Rattle.std.proofs.lemmas.List.{get_or_default}
use Rattle.assign_core.specs.Numbered.{IsNumber, numbered}
use Rattle.assign_core.specs.Rows.{IsCost, listed_in, row_of}
use Rattle.assign_core.specs.Benefits.{benefit_row}
use Rattle.assign_core.specs.Slackness.{HasSlack}
use Rattle.assign_core.proofs.BenefitRows.{row_of-benefits}
use Rattle.assign_core.proofs.Listed.{object_within}
use Rattle.assign_core.proofs.NumberedLemmas.{numbered-next}
use Rattle.assign_core.proofs.RowLemmas.{IsCost-listed, IsRow-row_of}
use Rattle.parallel_checker.proofs.slack.is_slack.Goals as goal

pub price-requires : goal.price-requires
price-requires c =
    let rows = c.args.problem.now in
    let number = c.args.i + 1 in
    let place = c.requires.place in
    let row = IsRow-row_of (length rows) rows (c.args.i + 1) c.n-n.ensures.problem.each (omega arith) (omega (arith, place)) in
    let seen : IsSome (listed_in (row_of rows (c.args.i + 1)) c.index-objects-i.result) = rw (sym c.in-Some.ensures) refl in
    subst (λ m. IsNumber m c.index-objects-i.result) (sym c.requires.priced) (object_within (length rows) (row_of rows number) c.index-objects-i.result row.within seen)

pub value_of-own_value-requires-clause-cost : goal.value_of-own_value-requires-clause-cost
value_of-own_value-requires-clause-cost c =
    let rows = c.args.problem.now in
    let place = c.requires.place in
    let row = IsRow-row_of (length rows) rows (c.args.i + 1) c.n-n.ensures.problem.each (omega arith) (omega (arith, place)) in
    let fits : SFits w64 c.in-Some.cost = search rules in
    let cost = ap (λ o. unwrap_or o (pos 0)) c.in-Some.ensures in
    simp to_z-of_z (subst IsCost (sym cost) (IsCost-listed (row_of rows (c.args.i + 1)) c.index-objects-i.result row.costs))

pub returns : goal.returns
returns c =
    let sense = c.args.sense in
    let rows = c.args.problem.now in
    let xs = c.args.objects.now in
    let prices = c.args.prices.now in
    let i = c.args.i in
    let own = c.index-objects-i.result in
    let lt = c.requires.place in
    let object : own ≡ numbered xs (i + 1) 0 =
    c.index-objects-i.is ∙ get_or_default xs i own 0 (omega (arith, lt, c.requires.long)) ∙ sym (numbered-next xs i 0) in
    let seen : IsSome (listed_in (row_of rows (i + 1)) own) = rw (sym c.in-Some.ensures) refl in
    let S : ℕ → ℕ → Type 0 = λ n j. HasSlack (pos 1) prices (benefit_row sense n (row_of rows (i + 1))) j in
    let at = ap (benefit_row sense (length prices)) c.row.ensures.row in
    let benefits = row_of-benefits sense (length rows) rows (i + 1) in (
      λ t. record {
        listed = subst (λ j. IsSome (listed_in (row_of rows (i + 1)) j)) object seen;
        slack =
            subst (λ r. HasSlack (pos 1) prices r (numbered xs (i + 1) 0)) (sym benefits)
            (subst (S (length rows)) object (subst (λ n. S n own) c.requires.priced
            (subst (λ r. HasSlack (pos 1) prices r own) at (c.has_slack.ensures.0 t))));
      },
      λ h. c.has_slack.ensures.1 (subst (λ r. HasSlack (pos 1) prices r own) (sym at) (subst (λ n. S n own) (sym c.requires.priced)
          (subst (S (length rows)) (sym object) (subst (λ r. HasSlack (pos 1) prices r (numbered xs (i + 1) 0)) benefits h.slack)))),
    )
