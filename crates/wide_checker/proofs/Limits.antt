-- The rows of given costs are in the limits.
use Rattle.std.proofs.Common.{◌≡◌, ℕ, length, map, ap, sym, subst, ◌∙◌}
use Rattle.std.specs.List.{All}
use Rattle.std.proofs.lemmas.List.{length-map}
use Rattle.assign_core.specs.declared.sense.Sense.{Sense}
use Rattle.assign_core.specs.Rows.{IsWithin}
use Rattle.assign_core.proofs.DenseRows.{length-rows_cut}
use Rattle.cost_lists.specs.ListedCosts.{ListedCosts, IsCount}
use Rattle.cost_lists.proofs.CutRows.{cut_costs, cut_within}
use Rattle.cost_lists.proofs.GivenRows.{AreAmong, length-rows_given, rows_each, rows_within}
use Rattle.cost_lists.proofs.Triples.{triple_cost, triple_numbers}
use Rattle.wide_checker.specs.declared.source.WidePairs.{WidePairs}
use Rattle.wide_checker.specs.declared.source.WideSource.{WideSource}
use Rattle.wide_checker.specs.declared.source.WideSource.TheVariants.{Dense, Listed}
use Rattle.wide_checker.specs.WideNumbers.{IsInCosts, wide_value}
use Rattle.wide_checker.specs.WideLimits.{HasWideCosts, AreInWideLimits}
use Rattle.wide_checker.specs.WideSources.{AreWidePairs, IsWideGiven, IsWideSource, triples_in, wide_rows}
use Rattle.wide_checker.proofs.Words.{all_values}

rows_long : (sense : Sense) (n m : ℕ) (source : WideSource) → length (wide_rows sense n m source) ≡ n
rows_long sense n m (Dense costs) = length-rows_cut m n (map wide_value costs.now)
rows_long sense n m (Listed pairs) = length-rows_given sense (triples_in pairs) m 1 n

-- the triples of listed pairs are of persons and objects
pub wide_among : (n m : ℕ) (pairs : WidePairs) → AreWidePairs n m pairs → AreAmong n m (triples_in pairs)
wide_among n m pairs is =
    triple_numbers pairs.persons.now pairs.objects.now (map wide_value pairs.costs.now) is.objects_long
    (length-map pairs.costs.now wide_value ∙ is.costs_long) n m is.persons_in is.objects_in

within_limits : (sense : Sense) (n m : ℕ) (source : WideSource) → IsWideSource n m source → All (IsWithin m) (wide_rows sense n m source)
within_limits sense n m (Dense costs) is = cut_within n m (map wide_value costs.now) (length-map costs.now wide_value ∙ is.long)
within_limits sense n m (Listed pairs) is = rows_within sense (triples_in pairs) n m (wide_among n m pairs is)

costs_limits : (sense : Sense) (n m : ℕ) (source : WideSource) → IsWideSource n m source → All HasWideCosts (wide_rows sense n m source)
costs_limits sense n m (Dense costs) is =
    cut_costs n m (map wide_value costs.now) (length-map costs.now wide_value ∙ is.long) IsInCosts (all_values IsInCosts costs.now is.costs_in)
costs_limits sense n m (Listed pairs) is =
    rows_each sense (triples_in pairs) (λ e. IsInCosts e.1)
    (triple_cost pairs.persons.now pairs.objects.now (map wide_value pairs.costs.now) is.objects_long
    (length-map pairs.costs.now wide_value ∙ is.costs_long) IsInCosts (all_values IsInCosts pairs.costs.now is.costs_in)) m 1 n

module _ (sense : Sense) (n m : ℕ) (source : WideSource) (l : ListedCosts) (is : IsWideGiven n m source)
    (shown : ◌≡◌ {A = ListedCosts} (record { sense = sense; m = m; rows = wide_rows sense n m source }) l) where
  pub persons_shown : n ≡ length l.rows
  persons_shown = sym (rows_long sense n m source) ∙ ap (λ k. length k.rows) shown

  pub objects_shown : m ≡ l.m
  objects_shown = ap (λ k. k.m) shown

  pub limits_shown : AreInWideLimits l
  limits_shown = subst AreInWideLimits shown (record {
    persons = subst IsCount (sym (rows_long sense n m source)) is.persons;
    objects = is.objects;
    within = within_limits sense n m source is.costs;
    costs = costs_limits sense n m source is.costs;
  })

  pub given_shown : IsWideGiven (length l.rows) l.m source
  given_shown = subst (λ k. IsWideGiven k l.m source) persons_shown (subst (λ k. IsWideGiven n k source) objects_shown is)

  pub rows_shown : wide_rows l.sense (length l.rows) l.m source ≡ l.rows
  rows_shown =
      ap (λ k. wide_rows l.sense k l.m source) (sym persons_shown)
      ∙ ap (λ k. wide_rows l.sense n k source) (sym objects_shown)
      ∙ ap (λ s. wide_rows s n m source) (sym (ap (λ k. k.sense) shown))
      ∙ ap (λ k. k.rows) shown
