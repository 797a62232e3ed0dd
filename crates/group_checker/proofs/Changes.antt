-- A person may have each object in its group that is as good as its own one: the persons along a
-- path back to the own object move on.
use Rattle.std.proofs.Common.{◌≡◌, ℕ, ℤ, pos, ◌<◌, zero, suc, List, [], ◌∷◌, Some, IsSome, unwrap_or, length, get_or, nat_eq}
use Rattle.std.proofs.Common.{◌⊎◌, inl, inr, refl, arith, ap, sym, subst, ◌∙◌, map}
use Rattle.std.specs.List.{Contains, IsDistinct}
use Rattle.std.proofs.lemmas.Int.{ints}
use Rattle.std.proofs.lemmas.Bool.{cases_lt, eqb-false}
use Rattle.std.proofs.lemmas.Bool.Decides.{eqb_tells}
use Rattle.std.proofs.lemmas.List.{get_or-map, length-map}
use Rattle.std.proofs.lemmas.Map.Keys.{IsDistinct-from_apart, apart_from_distinct}
use Rattle.assign_core.specs.declared.sense.Sense.{Sense}
use Rattle.assign_core.specs.declared.sense.Sense.TheVariants.{Min, Max}
use Rattle.assign_core.specs.Numbered.{IsNumber}
use Rattle.assign_core.specs.Rows.{Listing, listed_in, listed_or_zero}
use Rattle.assign_core.proofs.Listed.{length_zip, object_within}
use Rattle.assign_core.proofs.Members.{contains_first, contains_later, first_or_later}
use Rattle.assign_core.proofs.Matchings.{zip_from_places}
use Rattle.assign_core.proofs.Zips.{zip_at}
use Rattle.dual_checker.specs.Faults.{own_object}
use Rattle.cost_lists.specs.Blocks.{reduced_sum}
use Rattle.cost_lists.specs.Exact.{AreFree, IsChoice, IsOptimum}
use Rattle.cost_lists.specs.ListedCosts.{AreInLimits, ListedCosts}
use Rattle.cost_lists.proofs.ExactDuality.{best_exact, some_cost}
use Rattle.plan_checker.proofs.Covered.{held}
use Rattle.group_checker.specs.Groups.{AreGroups, GroupsMeanChanges, IsArrow, IsAsGood, IsInGroup, MayHave}
use Rattle.group_checker.proofs.Cycles.{IsPath, after, comes_after, goes, last_goes, path_of, stays_put, turn_apart}
use Rattle.group_checker.proofs.Kept.{any_default, groups_keep}

-- different lists have an element once
same_place : (xs : List ℕ) (i k : ℕ) → IsDistinct nat_eq xs → i < length xs → k < length xs → get_or xs i 0 ≡ get_or xs k 0 → i ≡ k
same_place xs i k apart a b e = elim (cases_lt i k) [
  | inl lt ↦ absurd (eqb-false _ _ (apart_from_distinct nat_eq xs i k 0 apart lt b) e)
  | inr upto ↦ elim (cases_lt k i) [
    | inl lt ↦ absurd (eqb-false _ _ (apart_from_distinct nat_eq xs k i 0 apart lt a) (sym e))
    | inr most ↦ omega arith
  ]
]

-- a function that moves no two numbers to one keeps lists different
moved_apart : (f : ℕ → ℕ) (xs : List ℕ) → IsDistinct nat_eq xs → ((x y : ℕ) → f x ≡ f y → x ≡ y) → IsDistinct nat_eq (map f xs)
moved_apart f xs apart one = IsDistinct-from_apart nat_eq (map f xs) (λ i j d lt within.
    let last : j < length xs = omega (arith, length-map xs f) in
    let early : i < length xs = omega arith in
    let a = get_or-map f xs i 0 d early in
    let b = get_or-map f xs j 0 d last in
    elim (eqb_tells (get_or (map f xs) i d) (get_or (map f xs) j d)) [
      | inl t ↦ absurd (eqb-false _ _ (apart_from_distinct nat_eq xs i j 0 apart lt last) (one _ _ (sym a ∙ t.1 ∙ b)))
      | inr t ↦ t.0
    ])

moved_there : (f : ℕ → ℕ) (xs : List ℕ) (y t : ℕ) → Contains xs y → f y ≡ t → Contains (map f xs) t
moved_there f [] y t c e = absurd (omega (arith, c.1))
moved_there f (x ∷ xs) y t c e = elim (first_or_later x xs y c) [
  | inl same ↦ subst (Contains (f x ∷ map f xs)) (ap f same ∙ e) (contains_first (f x) (map f xs))
  | inr later ↦ contains_later (f x) (map f xs) t (moved_there f xs y t later e)
]

contained_at : (xs : List ℕ) (k : ℕ) → k < length xs → Contains xs (get_or xs k 0)
contained_at [] k lt = absurd (omega arith)
contained_at (x ∷ xs) zero lt = contains_first x xs
contained_at (x ∷ xs) (suc k) lt = contains_later x xs (get_or xs k 0) (contained_at xs k (omega arith))

-- an object that is as good as a choice is a choice
choice_moves : (sense : Sense) (prices : List ℤ) (row : Listing) (x y : ℕ) (c : ℤ) → IsChoice sense prices row x → listed_in row y ≡ Some c →
    reduced_sum sense prices y c ≡ reduced_sum sense prices x (listed_or_zero row x) → IsChoice sense prices row y
choice_moves Min prices row x y c h listed same k d e =
    let low = h k d e in
    let cost : listed_or_zero row y ≡ c = ap (λ o. unwrap_or o (pos 0)) listed in
    omega (arith, ints)
choice_moves Max prices row x y c h listed same k d e =
    let low = h k d e in
    let cost : listed_or_zero row y ≡ c = ap (λ o. unwrap_or o (pos 0)) listed in
    omega (arith, ints)

module _ (l : ListedCosts) (xs : List ℕ) (prices : List ℤ) (limits : AreInLimits l) (o : IsOptimum l xs prices) where
  long : length l.rows ≡ length xs
  long = length_zip (λ row j. IsSome (listed_in row j)) l.rows xs o.assigned.listed

  number_at : (k : ℕ) → k < length l.rows → IsNumber l.m (get_or xs k 0)
  number_at k lt = object_within l.m (get_or l.rows k []) (get_or xs k 0) (limits.within k [] lt)
      (zip_at (λ row j. IsSome (listed_in row j)) l.rows xs k [] 0 o.assigned.listed lt)

  own_good : (k : ℕ) → k < length l.rows → IsAsGood l xs prices (suc k) (get_or xs k 0)
  own_good k lt = record {
    cost = listed_or_zero (get_or l.rows k []) (get_or xs k 0);
    listed = some_cost _ (zip_at (λ row j. IsSome (listed_in row j)) l.rows xs k [] 0 o.assigned.listed lt);
    same = refl;
  }

  person_is : (p k : ℕ) → IsNumber (length l.rows) p → k < length l.rows → own_object xs p ≡ get_or xs k 0 → p ≡ suc k
  person_is zero k number lt e = let some = number.first in absurd (omega arith)
  person_is (suc p) k number lt e =
      let last = number.last in
      let same = long in
      ap suc (same_place xs p k o.assigned.apart (omega arith) (omega arith) e)

  owner_has : (p x : ℕ) → IsNumber (length l.rows) p → own_object xs p ≡ x → Contains xs x
  owner_has zero x number e = let some = number.first in absurd (omega arith)
  owner_has (suc p) x number e =
      let last = number.last in
      let same = long in
      subst (Contains xs) e (contained_at xs p (omega arith))

  arrow_good : (k v : ℕ) → k < length l.rows → IsArrow l xs prices (get_or xs k 0) v → IsAsGood l xs prices (suc k) v
  arrow_good k v lt (inl move) = subst (λ p. IsAsGood l xs prices p v) (person_is move.person k move.number lt move.own) move.good
  arrow_good k v lt (inr (inl out)) = let same = long in absurd (out.unowned (contained_at xs k (omega arith)))
  arrow_good k v lt (inr (inr leave)) = let some = (number_at k lt).first in let none = leave.out in absurd (omega arith)

  -- the persons along a path from object j to person i's own one move on, and it takes object j
  module _ (i j : ℕ) (lt : i < length l.rows) (close : IsArrow l xs prices (get_or xs i 0) j) (path : IsPath l xs prices j (get_or xs i 0)) where
    abbrev turn : ℕ → ℕ
    turn y = after (j ∷ path.path) j y

    good_at : (k : ℕ) → k < length l.rows → IsAsGood l xs prices (suc k) (turn (get_or xs k 0))
    good_at k lt = elim (held (get_or xs k 0) (j ∷ path.path)) [
      | inl c ↦ arrow_good k (turn (get_or xs k 0)) lt (goes l xs prices j path.path (get_or xs i 0) j path.leads close (get_or xs k 0) c)
      | inr none ↦ subst (IsAsGood l xs prices (suc k)) (sym (stays_put (j ∷ path.path) j (get_or xs k 0) none)) (own_good k lt)
    ]

    moved_at : (k : ℕ) → k < length l.rows → IsAsGood l xs prices (suc k) (get_or (map turn xs) k 0)
    moved_at k lt =
        let same = long in
        let e : get_or (map turn xs) k 0 ≡ turn (get_or xs k 0) = get_or-map turn xs k 0 0 (omega arith) in
        subst (IsAsGood l xs prices (suc k)) (sym e) (good_at k lt)

    free_after : AreFree l.m prices (map turn xs)
    free_after t number = elim (o.free t number) [
      | inr nothing ↦ inr nothing
      | inl c ↦ elim (held t (j ∷ path.path)) [
        | inr none ↦ inl (moved_there turn xs t t c (stays_put (j ∷ path.path) j t none))
        | inl on ↦
            let place : Contains path.path t ⊎ (t ≡ j) = elim (first_or_later j path.path t on) [ inl e ↦ inr (sym e) | inr later ↦ inl later ] in
            let before = comes_after j path.path j t path.apart place in
            let arrow : IsArrow l xs prices before.0 t =
            subst (IsArrow l xs prices before.0) before.2 (goes l xs prices j path.path (get_or xs i 0) j path.leads close before.0 before.1) in
            elim arrow [
              | inl move ↦ inl (moved_there turn xs before.0 t (owner_has move.person before.0 move.number move.own) before.2)
              | inr (inl out) ↦ let some = number.first in let none = out.out in absurd (omega arith)
              | inr (inr leave) ↦ inr leave.free
            ]
      ]
    ]

    moved_long : length (map turn xs) ≡ length l.rows
    moved_long = length-map xs turn ∙ sym long

    moved_optimum : IsOptimum l (map turn xs) prices
    moved_optimum = record {
      assigned = record {
        listed = zip_from_places (λ row z. IsSome (listed_in row z)) l.rows (map turn xs) [] 0 moved_long
            (λ k below. subst (λ z. IsSome z) (sym (moved_at k below).listed) refl);
        apart = moved_apart turn xs o.assigned.apart (λ x y e. turn_apart j path.path x y path.apart e);
      };
      priced = o.priced;
      in_range = o.in_range;
      choices = zip_from_places (IsChoice l.sense prices) l.rows (map turn xs) [] 0 moved_long
          (λ k below.
          let good = moved_at k below in
          choice_moves l.sense prices (get_or l.rows k []) (get_or xs k 0) (get_or (map turn xs) k 0) good.cost
          (zip_at (IsChoice l.sense prices) l.rows xs k [] 0 o.choices below) good.listed good.same);
      free = free_after;
    }

    pub moved_has : MayHave l (suc i) j
    moved_has =
        let same = long in
        record {
          plan = map turn xs;
          best = best_exact l (map turn xs) prices limits moved_optimum;
          has = get_or-map turn xs i 0 0 (omega arith) ∙ last_goes l xs prices j path.path (get_or xs i 0) j path.leads path.apart;
        }

  module _ (groups : List ℕ) (g : AreGroups l xs prices groups) where
    pub may_have : (i j : ℕ) → i < length l.rows → IsInGroup l xs prices groups (suc i) j → MayHave l (suc i) j
    may_have i j lt h = elim (eqb_tells j (get_or xs i 0)) [
      | inl t ↦ record { plan = xs; best = best_exact l xs prices limits o; has = sym t.1 }
      | inr t ↦
          let own = number_at i lt in
          let number = object_within l.m (get_or l.rows i []) j (limits.within i [] lt) (subst (λ z. IsSome z) (sym h.good.listed) refl) in
          let a = any_default groups j g.out (subst (λ m. IsNumber m j) (sym g.long) number) in
          let b = any_default groups (get_or xs i 0) g.out (subst (λ m. IsNumber m (get_or xs i 0)) (sym g.long) own) in
          let both = (g.same j (get_or xs i 0) number.last own.last).0 (a ∙ h.same ∙ sym b) in
          let close : IsArrow l xs prices (get_or xs i 0) j = inl (record {
            person = suc i;
            number = record { first = omega arith; last = omega arith };
            own = refl;
            good = h.good;
            other = t.1;
          }) in
          moved_has i j lt close (path_of l xs prices j both.0.0 (get_or xs i 0) both.0.1)
    ]

pub groups_change : GroupsMeanChanges
groups_change l xs prices groups limits o g zero j number = let some = number.first in absurd (omega arith)
groups_change l xs prices groups limits o g (suc i) j number = (
  groups_keep l xs prices groups limits o g (suc i) j number,
  (λ h. may_have l xs prices limits o groups g i j (let last = number.last in omega arith) h),
)
