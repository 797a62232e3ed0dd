-- Rows of the pairs of a part: its assignments cost there what they cost in all.
use Rattle.std.proofs.Common.{◌≡◌, ℕ, ℤ, pos, zero, suc, ◌<◌, ◌≤◌, ◌-◌, List, [], ◌∷◌, Option, None, Some, IsSome, map, length, get_or, refl, arith, inl, inr, sym, ap, subst, ◌∙◌}
use Rattle.std.specs.List.{All, Contains}
use Rattle.std.proofs.lemmas.Int.{ints}
use Rattle.std.proofs.lemmas.List.{get_or_default, length-map}
use Rattle.std.proofs.lemmas.List.Elements.{All-map, Contains-get_or}
use Rattle.assign_core.specs.declared.sense.Sense.{Sense}
use Rattle.assign_core.specs.declared.sense.Sense.TheVariants.{Min, Max}
use Rattle.assign_core.specs.Numbered.{IsNumber, numbered}
use Rattle.assign_core.specs.Rows.{IsCost, Listing, listed_in, listed_or_zero, row_of}
use Rattle.assign_core.specs.Assignment.{AreListed, IsNoWorse, total}
use Rattle.assign_core.specs.Sparse.{IsTripleAmong, Triple}
use Rattle.assign_core.proofs.Members.{contains_first, contains_later, first_or_later}
use Rattle.assign_core.proofs.Zips.{pairs_from, zip_at}
use Rattle.cost_lists.specs.Given.{IsBestGiven, best_given, rows_given, triples_of}
use Rattle.cost_lists.specs.ListedCosts.{AreInLimits, ListedCosts}
use Rattle.cost_lists.proofs.BestGiven.{best_given_is}
use Rattle.cost_lists.proofs.ExactDuality.{some_cost}
use Rattle.cost_lists.proofs.GivenRows.{length-rows_given, rows_list}
use Rattle.cost_lists.proofs.Triples.{triples_among}
use Rattle.block_checker.specs.inside.Reading.{IsRead}
use Rattle.ranking_checker.specs.declared.limits.Closed.{Closed}
use Rattle.ranking_checker.specs.declared.pairs.Pair.{Pair}
use Rattle.ranking_checker.specs.declared.tree.Tree.{Tree}
use Rattle.ranking_checker.specs.inside.Adding.{AddsFrom}
use Rattle.ranking_checker.specs.inside.Core.{AreCore, AreGiven, AreLow, pair, pair_at}
use Rattle.ranking_checker.specs.inside.Parts.{IsPart}
use Rattle.ranking_checker.specs.inside.Trees.{CanHave, Obey, leaf_of}

abbrev pub persons_of : List Pair → List ℕ
persons_of ps = map (λ p. p.person) ps

abbrev pub objects_of : List Pair → List ℕ
objects_of ps = map (λ p. p.object) ps

abbrev pub costs_of : List Pair → List ℤ
costs_of ps = map (λ p. p.cost) ps

abbrev pub triples_in_part : List Pair → List Triple
triples_in_part ps = triples_of (persons_of ps) (objects_of ps) (costs_of ps)

-- the costs of listed pairs
abbrev pub lists_of : Sense → ℕ → ℕ → List ℕ → List ℕ → List ℤ → ListedCosts
lists_of sense m n persons objects costs = record { sense = sense; m = m; rows = rows_given sense (triples_of persons objects costs) m 1 n }

same_pair : (a b c : ℕ) (d : ℕ) (x y : ℤ) → a ≡ b → c ≡ d → x ≡ y → pair a c x ≡ pair b d y
same_pair a b c d x y e f g = rw (e, f, g) refl

abbrev triple_of : Pair → Triple
triple_of p = (p.person, p.object, p.cost)

same_triple : (p : Pair) (i j : ℕ) (c : ℤ) → p ≡ pair i j c → triple_of p ≡ triple_of (pair i j c)
same_triple p i j c e = ap triple_of e

pub pair_from : (ps : List Pair) (i j : ℕ) (c : ℤ) → Contains (triples_in_part ps) (i, j, c) → Contains ps (pair i j c)
pair_from [] i j c h = absurd (omega (arith, h.1))
pair_from (p ∷ ps) i j c h = elim (first_or_later (p.person, p.object, p.cost) (triples_in_part ps) (i, j, c) h) [
  | inl e ↦
      let is : p ≡ pair i j c = same_pair p.person i p.object j p.cost c (ap (λ (t : Triple). t.0) e) (ap (λ (t : Triple). t.1) e) (ap (λ (t : Triple). t.2) e) in
      subst (Contains (p ∷ ps)) is (contains_first p ps)
  | inr later ↦ contains_later p ps (pair i j c) (pair_from ps i j c later)
]

pub triple_from : (ps : List Pair) (i j : ℕ) (c : ℤ) → Contains ps (pair i j c) → Contains (triples_in_part ps) (i, j, c)
triple_from [] i j c h = absurd (omega (arith, h.1))
triple_from (p ∷ ps) i j c h = elim (first_or_later p ps (pair i j c) h) [
  | inl e ↦ subst (Contains (triples_in_part (p ∷ ps))) (same_triple p i j c e) (contains_first (p.person, p.object, p.cost) (triples_in_part ps))
  | inr later ↦ contains_later (p.person, p.object, p.cost) (triples_in_part ps) (i, j, c) (triple_from ps i j c later)
]

same_cost : (sense : Sense) (a b : ℤ) → IsNoWorse sense a b → IsNoWorse sense b a → a ≡ b
same_cost Min a b h k = omega (arith, ints)
same_cost Max a b h k = omega (arith, ints)

some_same : {a b : ℤ} → Some a ≡ Some b → a ≡ b
some_same e = cc

-- rows that list a plan's objects at the same costs have the same total
total_same : (rows others : List Listing) (xs : List ℕ) → length others ≡ length rows →
    ((i : ℕ) → i < length rows → listed_in (get_or others i []) (get_or xs i 0) ≡ listed_in (get_or rows i []) (get_or xs i 0)) → total others xs ≡ total rows xs
total_same [] [] xs long h = refl
total_same [] (other ∷ others) xs long h = absurd (omega (arith, long))
total_same (row ∷ rows) [] xs long h = absurd (omega (arith, long))
total_same (row ∷ rows) (other ∷ others) [] long h = refl
total_same (row ∷ rows) (other ∷ others) (x ∷ xs) long h =
    let first : listed_in other x ≡ listed_in row x = h 0 (omega arith) in
    let cost : listed_or_zero other x ≡ listed_or_zero row x = rw first refl in
    let rest = total_same rows others xs (omega (arith, long)) (λ i lt. h (suc i) (omega arith)) in
    omega (arith, ints)

module _ (l : ListedCosts) (ps : List Pair) (given : AreGiven l ps) where
  read_at : (k : ℕ) (d : Pair) → k < length ps → IsRead l.sense l.rows (length l.rows) l.m (get_or ps k d).person (get_or ps k d).object (get_or ps k d).cost
  read_at k d lt = given (get_or ps k d) (Contains-get_or ps k d lt)

  pub persons_in : All (IsNumber (length l.rows)) (persons_of ps)
  persons_in = All-map (IsNumber (length l.rows)) (λ p. p.person) ps (λ k d lt. (read_at k d lt).person)

  pub objects_in : All (IsNumber l.m) (objects_of ps)
  objects_in = All-map (IsNumber l.m) (λ p. p.object) ps (λ k d lt. (read_at k d lt).object)

  pub costs_in : All IsCost (costs_of ps)
  costs_in = All-map IsCost (λ p. p.cost) ps (λ k d lt. (read_at k d lt).cost)

  pub objects_long : length (objects_of ps) ≡ length (persons_of ps)
  objects_long = length-map ps (λ p. p.object) ∙ sym (length-map ps (λ p. p.person))

  pub costs_long : length (costs_of ps) ≡ length (persons_of ps)
  costs_long = length-map ps (λ p. p.cost) ∙ sym (length-map ps (λ p. p.person))

  among : All (IsTripleAmong (length l.rows) l.m) (triples_in_part ps)
  among = triples_among (persons_of ps) (objects_of ps) (costs_of ps) objects_long costs_long (length l.rows) l.m persons_in objects_in costs_in

  abbrev pub part_rows : List Listing
  part_rows = rows_given l.sense (triples_in_part ps) l.m 1 (length l.rows)

  part_listed : (i k : ℕ) → listed_in (row_of part_rows i) k ≡ best_given l.sense (triples_in_part ps) i k
  part_listed i k = rows_list l.sense (triples_in_part ps) (length l.rows) l.m among i k

  -- the cost of a pair of the part is the listed one
  at_cost : (i k : ℕ) (c : ℤ) (o : Option ℤ) → Contains ps (pair i k c) → listed_in (row_of l.rows i) k ≡ Some c →
      IsBestGiven l.sense (triples_in_part ps) i k o → o ≡ Some c
  at_cost i k c None there listed best = absurd (best c (triple_from ps i k c there))
  at_cost i k c (Some e) there listed best =
      let no_worse = best.1 c (triple_from ps i k c there) in
      let read = (given (pair i k e) (pair_from ps i k e best.0)).given in
      let is : read.0 ≡ c = some_same (sym read.1 ∙ listed) in
      let worse : IsNoWorse l.sense c e = subst (λ z. IsNoWorse l.sense z e) is read.2 in
      ap (λ z. Some z) (same_cost l.sense e c no_worse worse)

  pub same_listed : (i k : ℕ) (c : ℤ) → Contains ps (pair i k c) → listed_in (row_of l.rows i) k ≡ Some c →
      listed_in (row_of part_rows i) k ≡ listed_in (row_of l.rows i) k
  same_listed i k c there listed =
      part_listed i k ∙ at_cost i k c (best_given l.sense (triples_in_part ps) i k) there listed (best_given_is l.sense (triples_in_part ps) i k) ∙ sym listed

  module _ (ys : List ℕ) (listed : AreListed l.rows ys)
      (has : (i : ℕ) → i < length l.rows → Contains ps (pair (suc i) (get_or ys i 0) (listed_or_zero (get_or l.rows i []) (get_or ys i 0)))) where
    listed_some : (i : ℕ) → i < length l.rows → listed_in (get_or l.rows i []) (get_or ys i 0) ≡ Some (listed_or_zero (get_or l.rows i []) (get_or ys i 0))
    listed_some i lt = some_cost _ (zip_at (λ row j. IsSome (listed_in row j)) l.rows ys i [] 0 listed lt)

    same_at : (i : ℕ) → i < length l.rows → listed_in (get_or part_rows i []) (get_or ys i 0) ≡ listed_in (get_or l.rows i []) (get_or ys i 0)
    same_at i lt = same_listed (suc i) (get_or ys i 0) (listed_or_zero (get_or l.rows i []) (get_or ys i 0)) (has i lt) (listed_some i lt)

    rows_long : length part_rows ≡ length l.rows
    rows_long = length-rows_given l.sense (triples_in_part ps) l.m 1 (length l.rows)

    listed_number : (i : ℕ) → 0 < i → i ≤ length part_rows → IsSome (listed_in (numbered part_rows i []) (numbered ys i 0))
    listed_number zero some last = absurd (omega arith)
    listed_number (suc i) some last =
        let long = rows_long in
        let lt : i < length l.rows = omega arith in
        subst (λ o. IsSome o) (sym (same_at i lt ∙ listed_some i lt)) refl

    objects_for : (rows : List Listing) (xs : List ℕ) → AreListed rows xs → length xs ≡ length rows
    objects_for [] [] h = refl
    objects_for [] (x ∷ xs) h = absurd h
    objects_for (row ∷ rows) [] h = absurd h
    objects_for (row ∷ rows) (x ∷ xs) h = ap suc (objects_for rows xs h.1)

    pub listed_in_part : AreListed part_rows ys
    listed_in_part = pairs_from (λ row j. IsSome (listed_in row j)) part_rows ys [] 0 (rows_long ∙ sym (objects_for l.rows ys listed)) listed_number

    pub total_in_part : total part_rows ys ≡ total l.rows ys
    total_in_part = total_same l.rows part_rows ys rows_long same_at

module _ (bound : ℤ) (l : ListedCosts) (xs : List ℕ) (prices : List ℤ) (tree : Tree) (t : ℕ) (core ps : List Pair) (kept : List ℕ) (closed : List Closed)
    (are : AreCore bound l xs prices core) (obey : (ys : List ℕ) → leaf_of tree ys ≡ t → Obey ys kept closed)
    (s : AddsFrom (CanHave kept closed) (pair_at core) (length core) [] ps) where
  pub part_given : AreGiven l ps
  part_given p there = elim (s.came p there) [
    | inl none ↦ absurd (omega (arith, none.1))
    | inr w ↦ are.given p (subst (Contains core) (sym w.2) (Contains-get_or core w.0 (pair 0 0 (pos 0)) w.1))
  ]

  module _ (ys : List ℕ) (listed : AreListed l.rows ys) (at : leaf_of tree ys ≡ t) (low : AreLow bound l xs prices ys) where
    part_has : (i : ℕ) → i < length l.rows → Contains ps (pair (suc i) (get_or ys i 0) (listed_or_zero (get_or l.rows i []) (get_or ys i 0)))
    part_has i lt =
        let cost : ℤ = listed_or_zero (get_or l.rows i []) (get_or ys i 0) in
        let p : Pair = pair (suc i) (get_or ys i 0) cost in
        let there : Contains core p = are.has (suc i) (get_or ys i 0) cost
        (some_cost _ (zip_at (λ row j. IsSome (listed_in row j)) l.rows ys i [] 0 listed lt))
        (low (suc i) (record { first = omega arith; last = omega arith })) in
        let is : pair_at core there.0 ≡ p = get_or_default core there.0 (pair 0 0 (pos 0)) p there.1 ∙ there.2 in
        let back : suc i - 1 ≡ i = omega arith in
        subst (Contains ps) is (s.has there.0 there.1 (subst (CanHave kept closed) (sym is) (ys, obey ys at, ap (λ k. get_or ys k 0) back)))

  pub is_part : (part : ListedCosts) → AreInLimits part → part ≡ record { sense = l.sense; m = l.m; rows = rows_given l.sense (triples_in_part ps) l.m 1 (length l.rows) } →
      IsPart bound l xs prices tree t part
  is_part part limits is = record {
    limits = limits;
    same = ap (λ (p : ListedCosts). p.sense) is;
    listed = λ ys listed at low. subst (λ z. AreListed z ys) (sym (ap (λ (p : ListedCosts). p.rows) is))
        (listed_in_part l ps part_given ys listed (part_has ys listed at low));
    cost = λ ys listed at low. ap (λ (p : ListedCosts). total p.rows ys) is ∙ total_in_part l ps part_given ys listed (part_has ys listed at low);
  }

pub same_lists : (s t : Sense) (m k n j : ℕ) (ps qs os xs : List ℕ) (cs ds : List ℤ) → s ≡ t → m ≡ k → n ≡ j → ps ≡ qs → os ≡ xs → cs ≡ ds →
    lists_of s m n ps os cs ≡ lists_of t k j qs xs ds
same_lists s t m k n j ps qs os xs cs ds a b c d e f = rw (a, b, c, d, e, f) refl
