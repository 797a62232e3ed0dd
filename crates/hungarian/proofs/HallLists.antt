-- Where no object waits, the scanned persons and objects are a Hall set.
use Rattle.std.proofs.Common.{◌≡◌, ◌≢◌, ℕ, zero, suc, ℤ, ◌+◌, ◌<◌, ◌≤◌, ◌↔◌, List, ◌∷◌, length, get_or, map, nat_eq, false, ap, arith, refl, sym, subst, ◌∙◌, inl, inr}
use Rattle.std.specs.List.{All, Contains, IsDistinct}
use Rattle.std.proofs.lemmas.Bool.{cases_lt}
use Rattle.std.proofs.lemmas.Bool.Decides.{eqb_tells}
use Rattle.std.proofs.lemmas.List.{get_or-map, get_or_past, length-map}
use Rattle.std.proofs.lemmas.List.Elements.{Contains-get_or, recursion_from_All}
use Rattle.std.proofs.lemmas.Map.Keys.{IsDistinct-cons, IsDistinct-from_apart, below_from_sorted, sorted_from_strictly_increasing}
use Rattle.assign_core.specs.Numbered.{IsNumber}
use Rattle.assign_core.specs.Hall.{IsHallSet, IsNeighbour}
use Rattle.assign_core.proofs.HallSets.{few_among}
use Rattle.cost_lists.specs.ListedCosts.{ListedCosts, AreInLimits}
use Rattle.hungarian.specs.inside.Plans.{at, int_at, cost_at, IsPlan}
use Rattle.hungarian.specs.inside.Trees.{IsScanned, IsTree}
use Rattle.hungarian.specs.inside.Stored.{AreScanned}
use Rattle.hungarian.proofs.Costs.{listed_from_cost, cost_from_listed}
use Rattle.hungarian.proofs.Growing.{none_or_some}

differ : (a b : ℕ) → a ≢ b → nat_eq a b ≡ false
differ a b ne = elim (eqb_tells a b) [ inl e ↦ absurd (ne e.1) | inr e ↦ e.0 ]

module _ (l : ListedCosts) (prices : List ℤ) (owners all ranks : List ℕ) (s t : ℕ) (D : ℤ) (d v : ℕ → ℤ) (f : ℕ → ℕ)
    (persons objects : List ℕ)
    (lim : AreInLimits l) (plan : IsPlan (cost_at l) (length l.rows) l.m (int_at prices) (at owners) (at all))
    (tree : IsTree (cost_at l) (int_at prices) (at owners) (at all) s t D d v f (at ranks))
    (none : (k : ℕ) → at ranks k ≡ 0 → f k ≡ 0) (number : s ≤ length l.rows) (long : length all ≡ length l.rows + 1)
    (lists : AreScanned s ranks all persons objects) where
  some_object : (i : ℕ) → 0 < at ranks (at all i) → 0 < at all i
  some_object i h = elim (none_or_some (at all i)) [
    | inl zero_is ↦ let z : at ranks (at all i) ≡ at ranks 0 = ap (at ranks) zero_is in let g = tree.nobody in
        absurd (omega arith)
    | inr some ↦ some
  ]

  person_number : (i : ℕ) → IsScanned s (at all) (at ranks) i → IsNumber (length l.rows) i
  person_number i (inl e) = let a = tree.some in record { first = omega arith; last = omega arith }
  person_number i (inr h) =
      let own = plan.matched.owning i (some_object i h) in
      let a = own.some in let b = own.back in
      let owner = plan.matched.owned (at all i) (omega arith) in
      let z = owner.last in
      record { first = a; last = omega arith }

  has_person : (i : ℕ) → IsScanned s (at all) (at ranks) i → Contains persons i
  has_person i h = let z = (person_number i h).last in (lists.each_person i).1 ((let e = long in omega arith), h)

  has_object : (j : ℕ) → 0 < at ranks j → Contains objects j
  has_object j h = elim (cases_lt j (length ranks)) [
    | inl less ↦ (lists.each_object j).1 (less, h)
    | inr past ↦ let z = get_or_past ranks j 0 past in absurd (omega arith)
  ]

  neighbour : (j : ℕ) → Contains objects j ↔ IsNeighbour l.rows persons j
  neighbour j = (
    (λ h.
        let ranked = ((lists.each_object j).0 h).1 in
        let labelled = tree.labelled j ((tree.passed j ranked).labelled) in
        (f j, has_person (f j) labelled.scanned, listed_from_cost l (f j) j labelled.step.listed)),
    (λ n.
        let scanned = ((lists.each_person n.0).0 n.1).1 in
        let covered = tree.covered n.0 j scanned (cost_from_listed l n.0 j lim n.2) in
        let a = covered.labelled in
        has_object j (elim (none_or_some (at ranks j)) [
          | inl zero_is ↦ let z = none j zero_is in absurd (omega arith)
          | inr some ↦ some
        ])),
  )

  owner_scanned : (j : ℕ) → 0 < at ranks j → IsScanned s (at all) (at ranks) (at owners j) × (at all (at owners j) ≡ j)
  owner_scanned j h =
      let owner = plan.matched.owned j ((tree.passed j h).owned) in
      (inr (subst (λ k. 0 < at ranks k) (sym owner.back) h), owner.back)

  ranked_at : (k : ℕ) → k < length objects → 0 < at ranks (get_or objects k 0)
  ranked_at k lt = ((lists.each_object (get_or objects k 0)).0 (Contains-get_or objects k 0 lt)).1

  owners_long : length (map (at owners) objects) ≡ length objects
  owners_long = simp length-map

  owners_apart : IsDistinct nat_eq (map (at owners) objects)
  owners_apart =
      IsDistinct-from_apart nat_eq (map (at owners) objects) (λ i k z lt last.
      let same = owners_long in
      let high : k < length objects = omega arith in
      let low : i < length objects = omega arith in
      let a = (owner_scanned (get_or objects i 0) (ranked_at i low)).1 in
      let b = (owner_scanned (get_or objects k 0) (ranked_at k high)).1 in
      let x = get_or-map (at owners) objects i 0 z low in
      let y = get_or-map (at owners) objects k 0 z high in
      let below = below_from_sorted objects i k 0
      (sorted_from_strictly_increasing objects lists.objects_rise) lt high in
      rw (x, y) (differ (at owners (get_or objects i 0)) (at owners (get_or objects k 0)) (λ e.
      let j : get_or objects i 0 ≡ get_or objects k 0 = sym a ∙ ap (at all) e ∙ b in omega arith)))

  first_apart : All (λ y. nat_eq s y ≡ false) (map (at owners) objects)
  first_apart k z lt =
      let same = owners_long in
      let high : k < length objects = omega arith in
      let ranked = ranked_at k high in
      let b = (owner_scanned (get_or objects k 0) ranked).1 in
      let y = get_or-map (at owners) objects k 0 z high in
      rw y (differ s (at owners (get_or objects k 0)) (λ e.
      let j : get_or objects k 0 ≡ 0 = sym b ∙ ap (at all) (sym e) ∙ tree.alone in
      let q : at ranks (get_or objects k 0) ≡ at ranks 0 = ap (at ranks) j in
      let g = tree.nobody in omega arith))

  all_among : (x : ℕ) → Contains (s ∷ map (at owners) objects) x → Contains persons x
  all_among x (zero, lt, is) = subst (Contains persons) is (has_person s (inl refl))
  all_among x (suc k, lt, is) =
      let same = owners_long in
      let high : k < length objects = omega arith in
      let y = get_or-map (at owners) objects k 0 x high in
      subst (Contains persons) (sym y ∙ is)
      (has_person (at owners (get_or objects k 0)) ((owner_scanned (get_or objects k 0) (ranked_at k high)).0))

  fewer : length objects < length persons
  fewer =
      let distinct = IsDistinct-cons nat_eq s (map (at owners) objects)
      (recursion_from_All (λ y. nat_eq s y ≡ false) (map (at owners) objects) first_apart) owners_apart in
      let few = few_among (s ∷ map (at owners) objects) persons distinct all_among in
      let same = owners_long in omega arith

  pub hall_set_is : IsHallSet l.rows persons objects
  hall_set_is = record {
    persons_rise = lists.persons_rise;
    objects_rise = lists.objects_rise;
    within = λ k d lt. person_number (get_or persons k d)
        (((lists.each_person (get_or persons k d)).0 (Contains-get_or persons k d lt)).1);
    neighbours = neighbour;
    fewer = fewer;
  }
