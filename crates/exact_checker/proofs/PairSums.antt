-- Sums of costs and prices in listed pairs.
use Rattle.std.proofs.Common.{◌≡◌, ℕ, ℤ, pos, ◌+ℤ◌, ◌<ℤ◌, ◌<◌, ◌-◌, List, Option, None, Some, length, get_or, refl, arith, ap, sym, subst, ◌∙◌}
use Rattle.std.specs.List.{All, Contains}
use Rattle.std.proofs.lemmas.Int.{ints}
use Rattle.assign_core.specs.declared.sense.Sense.{Sense}
use Rattle.assign_core.specs.Numbered.{IsNumber, numbered}
use Rattle.assign_core.specs.Prices.{price_of}
use Rattle.assign_core.proofs.NumberedLemmas.{numbered-index}
use Rattle.cost_lists.specs.Given.{IsBestGiven, best_given, rows_given, triples_of}
use Rattle.cost_lists.specs.Own.{minimised}
use Rattle.cost_lists.proofs.BestGiven.{best_given_is}
use Rattle.cost_lists.proofs.GivenRows.{AreAmong, pairs_listed}
use Rattle.cost_lists.proofs.Owns.{turned_order}
use Rattle.cost_lists.proofs.Triples.{place_of_triple, triple_contained, triple_numbers}
use Rattle.exact_checker.specs.Under.{IsUnder}
use Rattle.exact_checker.proofs.Earliest.{IsMet}

-- the sum at a place is below its person's value
abbrev pub IsUnderAt : Sense → List ℕ → List ℕ → List ℤ → List ℤ → List ℤ → ℕ → Type 0
IsUnderAt sense persons objects costs prices values q =
    (minimised sense (get_or costs q (pos 0)) +ℤ get_or prices (get_or objects q 0 - 1) (pos 0)) <ℤ get_or values (get_or persons q 0 - 1) (pos 0)

module _ (sense : Sense) (persons objects : List ℕ) (costs prices values : List ℤ)
    (objects_long : length objects ≡ length persons) (costs_long : length costs ≡ length persons)
    (persons_in : All (IsNumber (length values)) persons) (objects_in : All (IsNumber (length prices)) objects) where
  among : AreAmong (length values) (length prices) (triples_of persons objects costs)
  among = triple_numbers persons objects costs objects_long costs_long (length values) (length prices) persons_in objects_in

  value_at : (i : ℕ) → IsNumber (length values) i → numbered values i (pos 0) ≡ get_or values (i - 1) (pos 0)
  value_at i number = numbered-index values i (pos 0) (pos 0) number.first number.last

  price_at : (j : ℕ) → IsNumber (length prices) j → price_of prices j ≡ get_or prices (j - 1) (pos 0)
  price_at j number = numbered-index prices j (pos 0) (pos 0) number.first number.last

  -- the best cost of a pair at a place is no worse than the cost there
  under_best : (q : ℕ) → q < length persons → IsUnderAt sense persons objects costs prices values q → (o : Option ℤ) →
      best_given sense (triples_of persons objects costs) (get_or persons q 0) (get_or objects q 0) ≡ o →
      IsUnder sense (rows_given sense (triples_of persons objects costs) (length prices) 1 (length values)) prices values
      (get_or persons q 0) (get_or objects q 0)
  under_best q lt bad None e =
      let none : IsBestGiven sense (triples_of persons objects costs) (get_or persons q 0) (get_or objects q 0) None =
      subst (IsBestGiven sense (triples_of persons objects costs) (get_or persons q 0) (get_or objects q 0)) e
      (best_given_is sense (triples_of persons objects costs) (get_or persons q 0) (get_or objects q 0)) in
      absurd (none (get_or costs q (pos 0)) (triple_contained persons objects
      costs objects_long costs_long q lt))
  under_best q lt bad (Some c) e =
      let i : ℕ = get_or persons q 0 in
      let j : ℕ = get_or objects q 0 in
      let best : IsBestGiven sense (triples_of persons objects costs) i j (Some c) =
      subst (IsBestGiven sense (triples_of persons objects costs) i j) e (best_given_is sense (triples_of persons objects costs) i j) in
      let order = turned_order sense c (get_or costs q (pos 0)) (best.1 (get_or costs q (pos 0))
      (triple_contained persons objects costs objects_long costs_long q
      lt)) in
      let value = value_at i (persons_in q 0 lt) in
      let price = price_at j (objects_in q 0 (let long = objects_long in omega arith)) in
      record {
        cost = c;
        listed = pairs_listed sense (triples_of persons objects costs) (length values) (length prices) among i j ∙ e;
        under = omega (arith, ints, bad);
      }

  pub to_under : (q : ℕ) → q < length persons → IsUnderAt sense persons objects costs prices values q →
      IsUnder sense (rows_given sense (triples_of persons objects costs) (length prices) 1 (length values)) prices values
      (get_or persons q 0) (get_or objects q 0)
  to_under q lt bad = under_best q lt bad (best_given sense (triples_of persons objects costs) (get_or persons q 0) (get_or objects q 0)) refl

  given_pair : (i j : ℕ) (c : ℤ) → best_given sense (triples_of persons objects costs) i j ≡ Some c → Contains (triples_of persons objects costs) (i, j, c)
  given_pair i j c e =
      let best : IsBestGiven sense (triples_of persons objects costs) i j (Some c) =
      subst (IsBestGiven sense (triples_of persons objects costs) i j) e (best_given_is sense (triples_of persons objects costs) i j) in
      best.0

  module _ (i j : ℕ) (u : IsUnder sense (rows_given sense (triples_of persons objects costs) (length prices) 1 (length values)) prices values i j) where
    given : best_given sense (triples_of persons objects costs) i j ≡ Some u.cost
    given = sym (pairs_listed sense (triples_of persons objects costs) (length values) (length prices) among i j) ∙ u.listed

    pub under_range : IsNumber (length values) i × IsNumber (length prices) j
    under_range = among i j u.cost (given_pair i j u.cost given)

    pub from_under : IsMet persons objects (IsUnderAt sense persons objects
        costs prices values) (length persons) (i, j)
    from_under =
        let p = place_of_triple persons objects costs objects_long costs_long i j u.cost (given_pair i j u.cost given) in
        let value = value_at i under_range.0 in
        let price = price_at j under_range.1 in
        let cost = ap (minimised sense) p.cost in
        let person = ap (λ a. get_or values (a - 1) (pos 0)) p.person in
        let object = ap (λ a. get_or prices (a - 1) (pos 0)) p.object in
        let under = u.under in
        record { place = p.place; before = p.below; bad = omega (arith, ints); person = p.person; object = p.object }
