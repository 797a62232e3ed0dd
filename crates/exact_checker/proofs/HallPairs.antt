-- Listed pairs and marks, as rows and lists of numbers.
use Rattle.std.proofs.Common.{◌≡◌, ℕ, ℤ, pos, ◌<◌, ◌↔◌, ◌+◌, ◌-◌, List, Option, None, Some, IsSome, Bool, true}
use Rattle.std.proofs.Common.{false, MatchOption, length, replicate, get_or, refl, rules, arith, ap, sym, subst}
use Rattle.std.proofs.Common.{◌∙◌, inl, inr}
use Rattle.std.specs.List.{All, Contains}
use Rattle.std.specs.List.Sorted.{IsStrictlyIncreasing}
use Rattle.std.proofs.lemmas.Bool.{false≢true}
use Rattle.std.proofs.lemmas.List.{get_or_default}
use Rattle.std.proofs.lemmas.List.Elements.{Contains-get_or}
use Rattle.assign_core.specs.declared.sense.Sense.{Sense}
use Rattle.assign_core.specs.Numbered.{IsNumber, IsMarked, numbered}
use Rattle.assign_core.specs.Rows.{Listing, IsListed, listed_in, row_of}
use Rattle.assign_core.specs.Dense.{rows_cut}
use Rattle.assign_core.specs.Hall.{IsNeighbour}
use Rattle.assign_core.specs.Sparse.{IsTripleAmong}
use Rattle.assign_core.proofs.DenseRows.{length-rows_cut}
use Rattle.assign_core.proofs.Listed.{listing_within}
use Rattle.assign_core.proofs.NumberedLemmas.{numbered-replicate}
use Rattle.dual_checker.specs.Faults.{IsFirst}
use Rattle.dual_checker.specs.HallMarks.{AddsMarks}
use Rattle.dual_checker.specs.HallVerdicts.{HasNeighbours, Lacks, ListsUnnamed}
use Rattle.dual_checker.proofs.HallFirsts.{first_named, first_same}
use Rattle.dual_checker.proofs.HallMarking.{adds_same}
use Rattle.cost_lists.specs.declared.source.Pairs.{Pairs}
use Rattle.cost_lists.specs.Given.{IsBestGiven, best_given, rows_given}
use Rattle.cost_lists.specs.Source.{AreCosts, ArePairs, part_of, triples_in}
use Rattle.cost_lists.proofs.BestGiven.{best_given_is}
use Rattle.cost_lists.proofs.CutRows.{cut_listed, cut_row, listed_number, part_fits, part_long}
use Rattle.cost_lists.proofs.GivenRows.{rows_list}
use Rattle.cost_lists.proofs.Triples.{place_of_triple, triple_contained, triples_among}
use Rattle.exact_checker.specs.inside.Marked.{IsListedByMarked, IsMissing, IsPair, ListAll, ListJust, MarksJust}

-- the rows of listed pairs list just these
module _ (sense : Sense) (n m : ℕ) (pairs : Pairs) (are : ArePairs n m pairs) where
  among : All (IsTripleAmong n m) (triples_in pairs)
  among = triples_among pairs.persons.now pairs.objects.now pairs.costs.now are.objects_long are.costs_long n m are.persons_in are.objects_in are.costs_in

  pair_from : (i j : ℕ) (o : Option ℤ) → IsBestGiven sense (triples_in pairs) i j o → IsSome o → IsPair pairs i j
  pair_from i j None best s = absurd (search rules)
  pair_from i j (Some c) best s =
      let p = place_of_triple pairs.persons.now pairs.objects.now pairs.costs.now are.objects_long are.costs_long i j c best.0 in
      (p.place, p.below, p.person, p.object)

  some_from : (i j : ℕ) (o : Option ℤ) → IsBestGiven sense (triples_in pairs) i j o → IsPair pairs i j → IsSome o
  some_from i j (Some c) best p = refl
  some_from i j None none p =
      let c = triple_contained pairs.persons.now pairs.objects.now pairs.costs.now are.objects_long are.costs_long p.0 p.1 in
      absurd (none (get_or pairs.costs.now p.0 (pos 0))
      (subst (λ b. Contains (triples_in pairs) (i, b, get_or pairs.costs.now p.0 (pos 0))) p.3
      (subst (λ a. Contains (triples_in pairs) (a, get_or pairs.objects.now p.0 0, get_or pairs.costs.now p.0 (pos 0))) p.2 c)))

  pub list_just : ListJust (rows_given sense (triples_in pairs) m 1 n) pairs
  list_just i j =
      let e = rows_list sense (triples_in pairs) n m among i j in
      let best = best_given_is sense (triples_in pairs) i j in (
        (λ s. pair_from i j (best_given sense (triples_in pairs) i j) best (subst IsSome e s)),
        (λ p. subst IsSome (sym e) (some_from i j (best_given sense (triples_in pairs) i j) best p)),
      )

pub pair_range : (n m : ℕ) (pairs : Pairs) → ArePairs n m pairs → (i j : ℕ) → IsPair pairs i j → IsNumber n i × IsNumber m j
pair_range n m pairs are i j p = (
  subst (IsNumber n) p.2 (are.persons_in p.0 0 p.1),
  subst (IsNumber m) p.3 (are.objects_in p.0 0 (let long = are.objects_long in let lt = p.1 in omega arith)),
)

-- where all persons list all objects
pub cut_list : (n m : ℕ) (costs : List ℤ) → AreCosts n m costs → (i j : ℕ) → IsListed (rows_cut m n costs) i j ↔ (IsNumber n i × IsNumber m j)
cut_list n m costs are i j = (
  (λ s.
      let person = subst (λ k. IsNumber k i) (length-rows_cut m n costs) (listing_within (rows_cut m n costs) i j s) in
      let first = person.first in
      let last = person.last in
      let e : i ≡ i - 1 + 1 = omega arith in
      let row = ap (row_of (rows_cut m n costs)) e ∙ cut_row n m (i - 1) costs (omega arith) in
      let object = listed_number (part_of m (i - 1) costs) j (subst (λ r. IsSome (listed_in r j)) row s) in
      (person, subst (λ k. IsNumber k j) (part_long m (i - 1) costs (part_fits n m (i - 1) costs are.long (omega arith))) object)),
  (λ r.
      let first = r.0.first in
      let last = r.0.last in
      let some = r.1.first in
      let end = r.1.last in
      let e : i - 1 + 1 ≡ i = omega arith in
      let f : j - 1 + 1 ≡ j = omega arith in
      let c = cut_listed n m (i - 1) (j - 1) costs are.long (omega arith) (omega arith) in
      subst (λ a. IsListed (rows_cut m n costs) a j) e (subst (λ b. IsListed (rows_cut m n costs) (i - 1 + 1) b) f (subst IsSome (sym c) refl))),
)

pub list_all : (n m : ℕ) (costs : List ℤ) → AreCosts n m costs → ListAll (rows_cut m n costs) m
list_all n m costs are =
    subst (λ k. (i j : ℕ) → IsListed (rows_cut m n costs) i j ↔ (IsNumber k i × IsNumber m j)) (sym (length-rows_cut m n costs)) (cut_list n m costs are)

marked_stable : (marks : List Bool) (j : ℕ) → (¬ IsMarked marks j → ⊥) → IsMarked marks j
marked_stable marks j h = stable (numbered marks j false) h where
  stable : (b : Bool) → (((b ≡ true) → ⊥) → ⊥) → b ≡ true
  stable true k = refl
  stable false k = absurd (k (λ e. false≢true e))

-- the first marked person that lists an unmarked object, or none
abbrev pub IsFirstMissing : ℕ → ℕ → Pairs → List Bool → List Bool → Option (ℕ × ℕ) → Type 0
IsFirstMissing n m pairs chosen named f = MatchOption f ((i j : ℕ) → ¬ IsMissing pairs chosen named i j)
    (λ p. IsFirst (λ i. (j : ℕ) × IsMissing pairs chosen named i j) n p.0 × IsFirst (IsMissing pairs chosen named p.0) m p.1)

-- the same of named persons
abbrev pub IsFirstLacking : List Listing → ℕ → ℕ → List ℕ → List Bool → Option (ℕ × ℕ) → Type 0
IsFirstLacking rows n m persons named f = MatchOption f (HasNeighbours rows persons (IsMarked named))
    (λ p. IsFirst (Lacks rows persons (IsMarked named)) n p.0 × IsFirst (ListsUnnamed rows (IsMarked named) p.0) m p.1)

-- persons and marks, with the rows of listed pairs
module _ (rows : List Listing) (n m : ℕ) (pairs : Pairs) (persons : List ℕ) (chosen named : List Bool)
    (lists : ListJust rows pairs) (marks : MarksJust chosen n persons) where
  listed_by : (j : ℕ) → IsListedByMarked pairs chosen j ↔ IsNeighbour rows persons j
  listed_by j = (
    (λ h. (h.0, (marks.just h.0).0 h.1, (lists h.0 j).1 h.2)),
    (λ h. (h.0, (marks.just h.0).1 h.1, (lists h.0 j).0 h.2)),
  )

  pub neighbours_added : (before after : List Bool) → AddsMarks before (IsListedByMarked pairs chosen) after → AddsMarks before (IsNeighbour rows persons) after
  neighbours_added before after h = adds_same (IsListedByMarked pairs chosen) (IsNeighbour rows persons) before after listed_by h

  missing_from : (i j : ℕ) → Contains persons i → ListsUnnamed rows (IsMarked named) i j → IsMissing pairs chosen named i j
  missing_from i j c u = ((marks.just i).1 c, (lists i j).0 u.0, u.1)

  missing_to : (i j : ℕ) → IsMissing pairs chosen named i j → Contains persons i × ListsUnnamed rows (IsMarked named) i j
  missing_to i j h = ((marks.just i).0 h.0, ((lists i j).1 h.1, h.2))

  pub lacking_found : (f : Option (ℕ × ℕ)) → IsFirstMissing n m pairs chosen named f → IsFirstLacking rows n m persons named f
  lacking_found None none = λ j near. marked_stable named j (λ not. none near.0 j (missing_from near.0 j near.1 (near.2, not)))
  lacking_found (Some p) h =
      let here = h.0.here in
      let person = (missing_to p.0 here.0 here.1).0 in (
        first_same _ (Lacks rows persons (IsMarked named)) n n p.0 (λ i. (
          (λ x. let t = missing_to i x.0 x.1 in (t.0, (x.0, t.1))),
          (λ x. (x.1.0, missing_from i x.1.0 x.0 x.1.1)),
        )) h.0.number.last h.0,
        first_same (IsMissing pairs chosen named p.0) (ListsUnnamed rows (IsMarked named) p.0) m m p.1
            (λ j. ((λ x. (missing_to p.0 j x).1), (λ x. missing_from p.0 j person x))) h.1.number.last h.1,
      )

-- marks where each person lists each object
module _ (rows : List Listing) (m : ℕ) (persons : List ℕ) (all : ListAll rows m) (within : All (IsNumber (length rows)) persons) where
  pub none_near : length persons ≡ 0 → (j : ℕ) → ¬ IsNeighbour rows persons j
  none_near empty j near = let lt = near.1.1 in omega arith

  pub near_is : (j : ℕ) → 0 < length persons → IsNeighbour rows persons j ↔ IsNumber m j
  near_is j some = (
    (λ near. ((all near.0 j).0 near.2).1),
    (λ n. (get_or persons 0 0, Contains-get_or persons 0 0 some, (all (get_or persons 0 0) j).1 (within 0 0 some, n))),
  )

  pub full_neighbours : (named : List Bool) → 0 < length persons → ((j : ℕ) → IsNumber m j → IsMarked named j) → HasNeighbours rows persons (IsMarked named)
  full_neighbours named some h j near = h j ((near_is j some).0 near)

  pub full_first : (named : List Bool) (o : ℕ) → 0 < length persons → IsStrictlyIncreasing persons → IsFirst (λ k. ¬ IsMarked named k) m o →
      IsFirst (Lacks rows persons (IsMarked named)) (length rows) (get_or persons 0 0) × IsFirst (ListsUnnamed rows (IsMarked named) (get_or persons 0 0)) m o
  full_first named o some rise f =
      let listed = (all (get_or persons 0 0) o).1 (within 0 0 some, f.number) in (
        first_named (λ i. (j : ℕ) × ListsUnnamed rows (IsMarked named) i j) persons (length rows) 0
            (get_or persons 0 0) rise within some (get_or_default persons 0 0 (get_or persons 0 0) some)
            (λ k lt. absurd (omega arith)) (o, (listed, f.here)),
        record { number = f.number; here = (listed, f.here); none_below = λ k first below x. f.none_below k first below x.1 },
      )

  pub full_added : (before after : List Bool) → 0 < length persons → ((j : ℕ) → ¬ IsMarked before j) →
      ((j : ℕ) → IsMarked after j ↔ IsNumber m j) → AddsMarks before (IsNeighbour rows persons) after
  full_added before after some none h j = (
    (λ x. inr ((near_is j some).1 ((h j).0 x))),
    (λ o. elim o [ inl b ↦ absurd (none j b) | inr near ↦ (h j).1 ((near_is j some).0 near) ]),
  )

  pub none_added : (before : List Bool) → length persons ≡ 0 → AddsMarks before (IsNeighbour rows persons) before
  none_added before empty j = ((λ x. inl x), (λ o. elim o [ inl b ↦ b | inr near ↦ absurd (none_near empty j near) ]))

pub no_marks : (m : ℕ) (marks : List Bool) → marks ≡ replicate m false → (j : ℕ) → ¬ IsMarked marks j
no_marks m marks none j x = let no = ap (λ l. numbered l j false) none ∙ numbered-replicate m j false in cc
