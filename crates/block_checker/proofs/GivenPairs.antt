-- Pairs that are read from rows and from listed pairs.
use Rattle.std.proofs.Common.{◌≡◌, ℕ, ℤ, pos, ◌-◌, ◌+◌, ◌<◌, List, Option, None, Some, length, get_or, refl, arith, ap, sym, subst, ◌∙◌}
use Rattle.std.specs.List.{All}
use Rattle.assign_core.specs.declared.sense.Sense.{Sense}
use Rattle.assign_core.specs.Numbered.{IsNumber}
use Rattle.assign_core.specs.Rows.{listed_in}
use Rattle.assign_core.specs.Dense.{rows_cut}
use Rattle.assign_core.specs.Sparse.{IsTripleAmong}
use Rattle.cost_lists.specs.declared.source.Pairs.{Pairs}
use Rattle.cost_lists.specs.Given.{IsBestGiven, best_given, rows_given}
use Rattle.cost_lists.specs.Source.{AreCosts, ArePairs, part_of, triples_in}
use Rattle.cost_lists.proofs.BestGiven.{best_given_is, no_worse_than_itself}
use Rattle.cost_lists.proofs.CutRows.{cost_read, cut_row, part_costs, part_fits, part_long}
use Rattle.cost_lists.proofs.GivenRows.{rows_list}
use Rattle.cost_lists.proofs.Triples.{triple_contained, triples_among}
use Rattle.block_checker.specs.Pairs.{IsGivenAt}
use Rattle.block_checker.specs.inside.Reading.{IsRead}

-- the cost at a place of a part of all costs
pub row_read : (sense : Sense) (n m : ℕ) (costs : List ℤ) (row at : ℕ) → AreCosts n m costs → row < n → at < m →
    IsRead sense (rows_cut m n costs) n m (row + 1) (at + 1) (get_or (part_of m row costs) at (pos 0))
row_read sense n m costs row at are below room =
    let part = part_of m row costs in
    let cost : ℤ = get_or part at (pos 0) in
    let long = part_long m row costs (part_fits n m row costs are.long below) in
    let number : IsNumber (length part) (at + 1) = record { first = omega arith; last = omega arith } in
    let back : at + 1 - 1 ≡ at = omega arith in
    let read = sym (cost_read part (at + 1) number) ∙ ap (λ k. Some (get_or part k (pos 0))) back in
    record {
      given = (cost, ap (λ r. listed_in r (at + 1)) (cut_row n m row costs below) ∙ read, no_worse_than_itself sense cost);
      person = record { first = omega arith; last = omega arith };
      object = record { first = omega arith; last = omega arith };
      cost = part_costs m row costs are.costs_in at (pos 0) (omega arith);
    }

module _ (sense : Sense) (pairs : Pairs) (n m : ℕ) (are : ArePairs n m pairs) (q : ℕ) (lt : q < length pairs.persons.now) where
  among : All (IsTripleAmong n m) (triples_in pairs)
  among = triples_among pairs.persons.now pairs.objects.now pairs.costs.now are.objects_long are.costs_long n m are.persons_in are.objects_in are.costs_in

  -- a pair that is given is listed at its best cost
  at_best : (o : Option ℤ) → best_given sense (triples_in pairs) (get_or pairs.persons.now q 0) (get_or pairs.objects.now q 0) ≡ o →
      IsGivenAt sense (rows_given sense (triples_in pairs) m 1 n) (get_or pairs.persons.now q 0) (get_or pairs.objects.now q 0) (get_or pairs.costs.now q (pos 0))
  at_best None e =
      let none : IsBestGiven sense (triples_in pairs) (get_or pairs.persons.now q 0) (get_or pairs.objects.now q 0) None =
      subst (IsBestGiven sense (triples_in pairs) (get_or pairs.persons.now q 0) (get_or pairs.objects.now q 0)) e
      (best_given_is sense (triples_in pairs) (get_or pairs.persons.now q 0) (get_or pairs.objects.now q 0)) in
      absurd (none (get_or pairs.costs.now q (pos 0)) (triple_contained pairs.persons.now pairs.objects.now
      pairs.costs.now are.objects_long are.costs_long q lt))
  at_best (Some d) e =
      let i : ℕ = get_or pairs.persons.now q 0 in
      let j : ℕ = get_or pairs.objects.now q 0 in
      let best : IsBestGiven sense (triples_in pairs) i j (Some d) =
      subst (IsBestGiven sense (triples_in pairs) i j) e (best_given_is sense (triples_in pairs) i j) in (
        d,
        rows_list sense (triples_in pairs) n m among i j ∙ e,
        best.1 (get_or pairs.costs.now q (pos 0)) (triple_contained pairs.persons.now pairs.objects.now pairs.costs.now are.objects_long are.costs_long q lt),
      )

  pub pair_read : IsRead sense (rows_given sense (triples_in pairs) m 1 n) n m (get_or pairs.persons.now q 0) (get_or pairs.objects.now q 0) (get_or pairs.costs.now q (pos 0))
  pair_read =
      let objects = are.objects_long in
      let costs = are.costs_long in
      record {
        given = at_best (best_given sense (triples_in pairs) (get_or pairs.persons.now q 0) (get_or pairs.objects.now q 0)) refl;
        person = are.persons_in q 0 lt;
        object = are.objects_in q 0 (omega arith);
        cost = are.costs_in q (pos 0) (omega arith);
      }
