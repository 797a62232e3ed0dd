-- The rows of given costs are in the limits.
use Rattle.std.proofs.Common.{◌≡◌, ℕ, length, ap, sym, subst, ◌∙◌}
use Rattle.std.specs.List.{All}
use Rattle.assign_core.specs.declared.sense.Sense.{Sense}
use Rattle.assign_core.specs.Rows.{HasCosts, IsCost, IsWithin}
use Rattle.assign_core.proofs.DenseRows.{length-rows_cut}
use Rattle.cost_lists.specs.declared.source.Source.{Source}
use Rattle.cost_lists.specs.declared.source.Source.TheVariants.{Dense, Listed}
use Rattle.cost_lists.specs.ListedCosts.{ListedCosts, AreInLimits, IsCount}
use Rattle.cost_lists.specs.Source.{IsGiven, IsSource, rows_in, triples_in}
use Rattle.cost_lists.proofs.CutRows.{cut_costs, cut_within}
use Rattle.cost_lists.proofs.GivenRows.{length-rows_given, rows_each, rows_within}
use Rattle.cost_lists.proofs.Triples.{triple_cost, triple_numbers}

rows_long : (sense : Sense) (n m : ℕ) (source : Source) → length (rows_in sense n m source) ≡ n
rows_long sense n m (Dense costs) = length-rows_cut m n costs.now
rows_long sense n m (Listed pairs) = length-rows_given sense (triples_in pairs) m 1 n

within_limits : (sense : Sense) (n m : ℕ) (source : Source) → IsSource n m source → All (IsWithin m) (rows_in sense n m source)
within_limits sense n m (Dense costs) is = cut_within n m costs.now is.long
within_limits sense n m (Listed pairs) is =
    rows_within sense (triples_in pairs) n m
    (triple_numbers pairs.persons.now pairs.objects.now pairs.costs.now is.objects_long is.costs_long n m is.persons_in is.objects_in)

costs_limits : (sense : Sense) (n m : ℕ) (source : Source) → IsSource n m source → All HasCosts (rows_in sense n m source)
costs_limits sense n m (Dense costs) is = cut_costs n m costs.now is.long IsCost is.costs_in
costs_limits sense n m (Listed pairs) is =
    rows_each sense (triples_in pairs) (λ e. IsCost e.1)
    (triple_cost pairs.persons.now pairs.objects.now pairs.costs.now is.objects_long is.costs_long IsCost is.costs_in) m 1 n

module _ (sense : Sense) (n m : ℕ) (source : Source) (l : ListedCosts) (is : IsGiven n m source)
    (shown : ◌≡◌ {A = ListedCosts} (record { sense = sense; m = m; rows = rows_in sense n m source }) l) where
  pub persons_shown : n ≡ length l.rows
  persons_shown = sym (rows_long sense n m source) ∙ ap (λ k. length k.rows) shown

  pub objects_shown : m ≡ l.m
  objects_shown = ap (λ k. k.m) shown

  pub limits_shown : AreInLimits l
  limits_shown = subst AreInLimits shown (record {
    persons = subst IsCount (sym (rows_long sense n m source)) is.persons;
    objects = is.objects;
    within = within_limits sense n m source is.costs;
    costs = costs_limits sense n m source is.costs;
  })

  pub given_shown : IsGiven (length l.rows) l.m source
  given_shown = subst (λ k. IsGiven k l.m source) persons_shown (subst (λ k. IsGiven n k source) objects_shown is)

  pub rows_shown : rows_in l.sense (length l.rows) l.m source ≡ l.rows
  rows_shown =
      ap (λ k. rows_in l.sense k l.m source) (sym persons_shown)
      ∙ ap (λ k. rows_in l.sense n k source) (sym objects_shown)
      ∙ ap (λ s. rows_in s n m source) (sym (ap (λ k. k.sense) shown))
      ∙ ap (λ k. k.rows) shown
