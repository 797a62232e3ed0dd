-- The pairs of finite costs, in units: one more, and the rows of all.
use Rattle.std.proofs.Common.{◌≡◌, ℕ, ℤ, zero, suc, ◌+◌, ◌*◌, ◌/◌, ◌%◌, ◌<◌, List, [], ◌∷◌, ◌++◌}
use Rattle.std.proofs.Common.{Option, None, Some, IsSome, length, map, get_or, IsTrue, refl, arith, rules, ap, sym}
use Rattle.std.proofs.Common.{subst, ◌∙◌, inl, inr}
use Rattle.std.specs.List.{All, Contains}
use Rattle.std.proofs.lemmas.Bool.{cases_lt}
use Rattle.std.proofs.lemmas.List.{length_push, length-map}
use Rattle.std.proofs.lemmas.List.Elements.{All-push, All-nil, Contains-append_left, Contains-push, Contains-push_cases}
use native.Mathlib.Nat.{div-add-mod'}
use Rattle.std.proofs.lemmas.Nat.{div-mul-add, mod-mul-add}
use lib.Ieee.{Float, nan, inf, fin}
use Rattle.assign_core.specs.declared.sense.Sense.{Sense}
use Rattle.assign_core.specs.Numbered.{IsNumber}
use Rattle.assign_core.specs.Rows.{Listing, IsWithin, listed_in, row_of}
use Rattle.assign_core.specs.Sparse.{Triple}
use Rattle.assign_core.proofs.Listed.{object_within}
use Rattle.cost_lists.specs.Given.{IsBestGiven, best_given, rows_given, triples_of}
use Rattle.cost_lists.proofs.BestGiven.{best_given_is}
use Rattle.cost_lists.proofs.GivenRows.{AreAmong, length-rows_given, pairs_listed, rows_within}
use Rattle.cost_lists.proofs.Triples.{triple_numbers}
use Rattle.double_costs.specs.DoubleRows.{cost_in, rows_of_doubles}
use Rattle.double_costs.specs.Margins.{AreRowsBeside, IsRowBeside}
use Rattle.double_costs.specs.Units.{is_number, units_of}
use Rattle.double_costs.proofs.DoublePairs.{double_listed, doubles_within, length-rows_of_doubles}
use Rattle.wide_checker.specs.declared.numbers.Wide.{Wide}
use Rattle.wide_checker.specs.WideNumbers.{IsWideCost, wide_value}
use Rattle.c_wide.specs.declared.exact.pairs.UnitPairs.{UnitPairs}
use Rattle.c_wide.specs.exact.Given.{IsScaled}
use Rattle.c_wide.specs.exact.Pairs.{HasPlaces, IsFromPlace, IsPushed, triples_in}
use Rattle.c_wide.specs.exact.Units.{IsInUnits}

triples_push : (persons objects : List ℕ) (costs : List Wide) (i j : ℕ) (c : Wide) → length objects ≡ length persons →
    length costs ≡ length persons →
    triples_of (persons ++ i ∷ []) (objects ++ j ∷ []) (map wide_value (costs ++ c ∷ []))
    ≡ triples_of persons objects (map wide_value costs) ++ (i, j, wide_value c) ∷ []
triples_push [] [] [] i j c e f = refl
triples_push [] (y ∷ objects) costs i j c e f = absurd (omega (arith, e))
triples_push [] [] (z ∷ costs) i j c e f = absurd (omega (arith, f))
triples_push (x ∷ persons) [] costs i j c e f = absurd (omega (arith, e))
triples_push (x ∷ persons) (y ∷ objects) [] i j c e f = absurd (omega (arith, f))
triples_push (x ∷ persons) (y ∷ objects) (z ∷ costs) i j c e f =
    ap (λ (l : List Triple). (x, y, wide_value z) ∷ l) (triples_push persons objects costs i j c (omega (arith, e)) (omega (arith, f)))

pushed_triples : (before after : UnitPairs) (i j : ℕ) (c : Wide) → length before.objects.items ≡ length before.persons.items →
    length before.costs.items ≡ length before.persons.items → IsPushed before (i, j, c) after →
    triples_in after ≡ triples_in before ++ (i, j, wide_value c) ∷ []
pushed_triples before after i j c e f push =
    ap (λ (l : List ℕ). triples_of l after.objects.items (map wide_value after.costs.items)) push.persons
    ∙ ap (λ (l : List ℕ). triples_of (before.persons.items ++ i ∷ []) l (map wide_value after.costs.items)) push.objects
    ∙ ap (λ (l : List Wide). triples_of (before.persons.items ++ i ∷ []) (before.objects.items ++ j ∷ []) (map wide_value l)) push.costs
    ∙ triples_push before.persons.items before.objects.items before.costs.items i j c e f

last_place : (P : ℕ → Type 0) (k i : ℕ) → i < k + 1 → (i < k → P i) → P k → P i
last_place P k i lt before last = elim (cases_lt i k) [
  | inl l ↦ before l
  | inr g ↦ let e : k ≡ i = omega arith in subst P e last
]

later_place : (e m : ℕ) (costs : List Float) (k : ℕ) (t : Triple) → IsFromPlace e m costs k t → IsFromPlace e m costs (k + 1) t
later_place e m costs k t f = record {
  place = f.place;
  below = let b = f.below in omega arith;
  person = f.person;
  object = f.object;
  cost = f.cost;
}

-- the pair of a finite cost
pub place_pushed : (e n m : ℕ) (costs : List Float) (k : ℕ) (c : Wide) (before after : UnitPairs) →
    HasPlaces e n m costs k before → IsPushed before (k / m + 1, k % m + 1, c) after →
    IsNumber n (k / m + 1) → IsNumber m (k % m + 1) → IsWideCost c → IsInUnits e (get_or costs k nan) (wide_value c) →
    HasPlaces e n m costs (k + 1) after
place_pushed e n m costs k c before after has push p o w u =
    let i : ℕ = k / m + 1 in
    let j : ℕ = k % m + 1 in
    let t = pushed_triples before after i j c has.objects_long has.costs_long push in
    let lp : length after.persons.items ≡ length before.persons.items + 1 = ap length push.persons ∙ length_push before.persons.items i in
    let lo : length after.objects.items ≡ length before.objects.items + 1 = ap length push.objects ∙ length_push before.objects.items j in
    let lc : length after.costs.items ≡ length before.costs.items + 1 = ap length push.costs ∙ length_push before.costs.items c in
    let ho = has.objects_long in
    let hc = has.costs_long in
    record {
      objects_long = omega arith;
      costs_long = omega arith;
      persons_in = subst (λ (l : List ℕ). All (IsNumber n) l) (sym push.persons) (All-push (IsNumber n) before.persons.items i has.persons_in p);
      objects_in = subst (λ (l : List ℕ). All (IsNumber m) l) (sym push.objects) (All-push (IsNumber m) before.objects.items j has.objects_in o);
      costs_in = subst (λ (l : List Wide). All IsWideCost l) (sym push.costs) (All-push IsWideCost before.costs.items c has.costs_in w);
      from = λ s h. elim (Contains-push_cases (triples_in before) (i, j, wide_value c) s (subst (λ (l : List Triple). Contains l s) t h)) [
        | inl old ↦ later_place e m costs k s (has.from s old)
        | inr new ↦ subst (IsFromPlace e m costs (k + 1)) new (record {
          place = k;
          below = omega arith;
          person = refl;
          object = refl;
          cost = u;
        })
      ];
      all = λ place lt number. last_place
          (λ (q : ℕ). IsTrue (is_number (get_or costs q nan)) → (z : ℤ) × Contains (triples_in after) (q / m + 1, q % m + 1, z))
          k place lt
          (λ l own. let old = has.all place l own in (
            old.0,
            subst (λ (l : List Triple). Contains l (place / m + 1, place % m + 1, old.0)) (sym t)
                (Contains-append_left (triples_in before) ((i, j, wide_value c) ∷ []) (place / m + 1, place % m + 1, old.0) old.1),
          ))
          (λ own. (
            wide_value c,
            subst (λ (l : List Triple). Contains l (i, j, wide_value c)) (sym t) (Contains-push (triples_in before) (i, j, wide_value c)),
          )) number;
    }

-- a forbidden pair
pub place_skipped : (e n m : ℕ) (costs : List Float) (k : ℕ) (pairs : UnitPairs) → HasPlaces e n m costs k pairs →
    (IsTrue (is_number (get_or costs k nan)) → ⊥) → HasPlaces e n m costs (k + 1) pairs
place_skipped e n m costs k pairs has none = record {
  objects_long = has.objects_long;
  costs_long = has.costs_long;
  persons_in = has.persons_in;
  objects_in = has.objects_in;
  costs_in = has.costs_in;
  from = λ t h. later_place e m costs k t (has.from t h);
  all = λ place lt number. last_place
      (λ (q : ℕ). IsTrue (is_number (get_or costs q nan)) → (z : ℤ) × Contains (triples_in pairs) (q / m + 1, q % m + 1, z))
      k place lt (λ l own. has.all place l own) (λ own. absurd (none own)) number;
}

pub no_places : (e n m : ℕ) (costs : List Float) (pairs : UnitPairs) → pairs.persons.items ≡ [] → pairs.objects.items ≡ [] →
    pairs.costs.items ≡ [] → HasPlaces e n m costs 0 pairs
no_places e n m costs pairs p o c = record {
  objects_long = ap length o ∙ sym (ap length p);
  costs_long = ap length c ∙ sym (ap length p);
  persons_in = subst (λ (l : List ℕ). All (IsNumber n) l) (sym p) (All-nil (IsNumber n));
  objects_in = subst (λ (l : List ℕ). All (IsNumber m) l) (sym o) (All-nil (IsNumber m));
  costs_in = subst (λ (l : List Wide). All IsWideCost l) (sym c) (All-nil IsWideCost);
  from = λ t h. absurd (nothing t
      (subst (λ (l : List ℕ). Contains (triples_of l pairs.objects.items (map wide_value pairs.costs.items)) t) p h));
  all = λ place lt number. absurd (omega arith);
}
  where
    nothing : (t : Triple) → Contains [] t → ⊥
    nothing t h = omega (arith, h.1)

cost_units : (x : Float) (a : ℤ) → cost_in x ≡ Some a → units_of x ≡ a
cost_units nan a e = absurd (search rules)
cost_units (inf s) a e = absurd (search rules)
cost_units (fin s m e) a h = search rules

number_listed : (x : Float) → IsTrue (is_number x) → IsSome (cost_in x)
number_listed nan n = absurd (search rules)
number_listed (inf s) n = absurd (search rules)
number_listed (fin s m e) n = refl

listed_number : (x : Float) → IsSome (cost_in x) → IsTrue (is_number x)
listed_number nan n = absurd (search rules)
listed_number (inf s) n = absurd (search rules)
listed_number (fin s m e) n = refl

some_of : (o : Option ℤ) → IsSome o → (z : ℤ) × (o ≡ Some z)
some_of None s = absurd (search rules)
some_of (Some z) s = (z, refl)

is_some : (o : Option ℤ) (z : ℤ) → o ≡ Some z → IsSome o
is_some o z e = subst IsSome (sym e) refl

not_none : (sense : Sense) (triples : List Triple) (i j : ℕ) (z : ℤ) (o : Option ℤ) → IsBestGiven sense triples i j o →
    Contains triples (i, j, z) → IsSome o
not_none sense triples i j z None best h = absurd (best z h)
not_none sense triples i j z (Some c) best h = refl

module _ (e n m : ℕ) (costs : List Float) (pairs : UnitPairs) (sense : Sense) (long : length costs ≡ n * m)
    (has : HasPlaces e n m costs (length costs) pairs) where
  -- the cost of a triple
  cost_of : (i j : ℕ) (z : ℤ) → j < m → Contains (triples_in pairs) (i + 1, j + 1, z) → IsInUnits e (get_or costs (i * m + j) nan) z
  cost_of i j z lt h =
      let f = has.from (i + 1, j + 1, z) h in
      let p : f.place / m ≡ i = (let a = f.person in omega arith) in
      let q : f.place % m ≡ j = (let a = f.object in omega arith) in
      let s : f.place ≡ i * m + j = sym (div-add-mod' f.place m) ∙ ap (λ (a : ℕ). a * m + f.place % m) p ∙ ap (λ (a : ℕ). i * m + a) q in
      subst (λ (a : ℕ). IsInUnits e (get_or costs a nan) z) s f.cost

  triple_of : (i j : ℕ) → j < m → i * m + j < length costs → IsTrue (is_number (get_or costs (i * m + j) nan)) →
      (z : ℤ) × Contains (triples_in pairs) (i + 1, j + 1, z)
  triple_of i j lt below number =
      let f = has.all (i * m + j) below number in (
        f.0,
        subst (λ (a : ℕ). Contains (triples_in pairs) (a + 1, j + 1, f.0)) (div-mul-add i m j lt)
            (subst (λ (b : ℕ). Contains (triples_in pairs) ((i * m + j) / m + 1, b + 1, f.0)) (mod-mul-add i m j lt) f.1),
      )

  abbrev pub given : List Listing
  given = rows_given sense (triples_in pairs) m 1 n

  abbrev pub doubles : List Listing
  doubles = rows_of_doubles m n costs

  among : AreAmong n m (triples_in pairs)
  among = triple_numbers pairs.persons.items pairs.objects.items (map wide_value pairs.costs.items) has.objects_long
      (length-map pairs.costs.items wide_value ∙ has.costs_long) n m has.persons_in has.objects_in

  given_at : (i j : ℕ) → listed_in (row_of given i) j ≡ best_given sense (triples_in pairs) i j
  given_at = pairs_listed sense (triples_in pairs) n m among

  given_best : (i j : ℕ) → IsBestGiven sense (triples_in pairs) i j (listed_in (row_of given i) j)
  given_best i j = subst (IsBestGiven sense (triples_in pairs) i j) (sym (given_at i j)) (best_given_is sense (triples_in pairs) i j)

  best_contained : (i j : ℕ) (z : ℤ) → listed_in (row_of given i) j ≡ Some z → Contains (triples_in pairs) (i, j, z)
  best_contained i j z s = (subst (IsBestGiven sense (triples_in pairs) i j) s (given_best i j)).0

  place_below : (i j : ℕ) → i < n → j < m → i * m + j < length costs
  place_below i j h k = subst (λ (a : ℕ). i * m + j < a) (sym long) (inside i n j m h k)
    where
      inside : (a b c d : ℕ) → a < b → c < d → a * d + c < b * d
      inside a zero c d p q = absurd (omega arith)
      inside zero (suc b) c d p q = omega arith
      inside (suc a) (suc b) c d p q = let r = inside a b c d (omega arith) q in omega arith

  pair_same : (i j : ℕ) → i < n → j < m →
      (IsSome (listed_in (row_of given (i + 1)) (j + 1)) → IsSome (listed_in (row_of doubles (i + 1)) (j + 1)))
      × (IsSome (listed_in (row_of doubles (i + 1)) (j + 1)) → IsSome (listed_in (row_of given (i + 1)) (j + 1)))
  pair_same i j h k =
      let x : Float = get_or costs (i * m + j) nan in
      let d = double_listed n m costs i j long h k in (
        (λ s.
            let z = some_of (listed_in (row_of given (i + 1)) (j + 1)) s in
            let u = cost_of i j z.0 k (best_contained (i + 1) (j + 1) z.0 z.1) in
            subst IsSome (sym d) (number_listed x u.finite)),
        (λ s.
            let t = triple_of i j k (place_below i j h k) (listed_number x (subst IsSome d s)) in
            not_none sense (triples_in pairs) (i + 1) (j + 1) t.0 (listed_in (row_of given (i + 1)) (j + 1)) (given_best (i + 1) (j + 1)) t.1),
      )

  pair_cost : (i j : ℕ) (c z : ℤ) → i < n → j < m → listed_in (row_of doubles (i + 1)) (j + 1) ≡ Some c →
      listed_in (row_of given (i + 1)) (j + 1) ≡ Some z → IsScaled e c z
  pair_cost i j c z h k a b =
      let x : Float = get_or costs (i * m + j) nan in
      let d = double_listed n m costs i j long h k in
      let u = cost_of i j z k (best_contained (i + 1) (j + 1) z b) in
      sym (cost_units x c (sym d ∙ a)) ∙ sym u.is

  -- a number from 1 on is one more than another
  from_one : (P : ℕ → Type 0) (j : ℕ) → IsNumber m j → ((k : ℕ) → k < m → P (k + 1)) → P j
  from_one P zero num h = absurd (let a = num.first in omega arith)
  from_one P (suc k) num h = let e : k + 1 ≡ suc k = omega arith in subst P e (h k (let a = num.last in omega arith))

  row_beside : (i : ℕ) → i < n → IsWithin m (row_of doubles (i + 1)) → IsWithin m (row_of given (i + 1)) →
      IsRowBeside (IsScaled e) (row_of doubles (i + 1)) (row_of given (i + 1))
  row_beside i h wd wg =
      let row : Listing = row_of doubles (i + 1) in
      let other : Listing = row_of given (i + 1) in
      record {
        same = λ k. (
          (λ s. from_one (λ (j : ℕ). IsSome (listed_in other j) → IsSome (listed_in row j)) k (object_within m other k wg s)
              (λ j lt. (pair_same i j h lt).0) s),
          (λ s. from_one (λ (j : ℕ). IsSome (listed_in row j) → IsSome (listed_in other j)) k (object_within m row k wd s)
              (λ j lt. (pair_same i j h lt).1) s),
        );
        costs = λ k c z a b. from_one (λ (j : ℕ). listed_in row j ≡ Some c → listed_in other j ≡ Some z → IsScaled e c z) k
            (object_within m row k wd (is_some (listed_in row k) c a)) (λ j lt. pair_cost i j c z h lt) a b;
      }

  zipped : (rows others : List Listing) → length rows ≡ length others →
      ((i : ℕ) → i < length rows → IsRowBeside (IsScaled e) (get_or rows i []) (get_or others i [])) →
      AreRowsBeside (IsScaled e) rows others
  zipped [] [] l h = tt
  zipped [] (o ∷ others) l h = absurd (omega (arith, l))
  zipped (r ∷ rows) [] l h = absurd (omega (arith, l))
  zipped (r ∷ rows) (o ∷ others) l h = (h 0 (omega arith), zipped rows others (omega (arith, l)) (λ i lt. h (suc i) (omega arith)))

  row_at_place : (i : ℕ) → i < n → IsRowBeside (IsScaled e) (get_or doubles i []) (get_or given i [])
  row_at_place i h =
      let ld : length doubles ≡ n = length-rows_of_doubles m n costs in
      let lg : length given ≡ n = length-rows_given sense (triples_in pairs) m 1 n in
      let s : i + 1 ≡ suc i = omega arith in
      let wd : IsWithin m (row_of doubles (suc i)) = doubles_within m n costs i [] (omega arith) in
      let wg : IsWithin m (row_of given (suc i)) = rows_within sense (triples_in pairs) n m among i [] (omega arith) in
      subst (λ (a : ℕ). IsRowBeside (IsScaled e) (row_of doubles a) (row_of given a)) s
      (row_beside i h (subst (λ (a : ℕ). IsWithin m (row_of doubles a)) (sym s) wd)
      (subst (λ (a : ℕ). IsWithin m (row_of given a)) (sym s) wg))

  pub rows_in_units : AreRowsBeside (IsScaled e) doubles given
  rows_in_units =
      let ld : length doubles ≡ n = length-rows_of_doubles m n costs in
      let lg : length given ≡ n = length-rows_given sense (triples_in pairs) m 1 n in
      zipped doubles given (ld ∙ sym lg) (λ i lt. row_at_place i (omega arith))
