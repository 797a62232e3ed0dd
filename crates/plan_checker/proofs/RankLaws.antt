-- An assignment that costs little more than an optimal one has pairs of the core alone; ranks rise
-- along these, and their sum doesn't.
use Rattle.std.proofs.Common.{◌≡◌, ◌≢◌, ℕ, ℤ, pos, ◌+ℤ◌, ◌≤ℤ◌, ◌<ℤ◌, ◌<◌, ◌*◌, ◌^◌, zero, suc, List, [], ◌∷◌, Some, IsSome, Bool, true, false, length, get_or}
use Rattle.std.proofs.Common.{◌⊎◌, inl, inr, drop, refl, arith, ap, subst, ◌≤◌}
use Rattle.std.specs.List.{All, Contains}
use Rattle.std.proofs.lemmas.Int.{ints, by_lt_z}
use Rattle.std.proofs.lemmas.Bool.{cases_lt}
use Rattle.std.proofs.lemmas.Bool.Decides.{eqb_tells}
use Rattle.std.proofs.lemmas.List.{get_or_past}
use Rattle.std.proofs.lemmas.List.Elements.{All-drop, All-take}
use Rattle.assign_core.specs.declared.sense.Sense.{Sense}
use Rattle.assign_core.specs.declared.sense.Sense.TheVariants.{Min, Max}
use Rattle.assign_core.specs.declared.numbers.TheConstants.{GREATEST_COST}
use Rattle.assign_core.specs.Numbered.{IsNumber}
use Rattle.assign_core.specs.Rows.{HasCosts, Listing, listed_in, listed_or_zero}
use Rattle.assign_core.specs.Assignment.{AreListed, IsAssignment, IsBest}
use Rattle.assign_core.specs.Prices.{price_of}
use Rattle.assign_core.proofs.Distinct.{sum_z}
use Rattle.assign_core.proofs.Listed.{objects_within}
use Rattle.assign_core.proofs.RowLemmas.{IsCost-listed}
use Rattle.assign_core.proofs.Zips.{zip_at}
use Rattle.cost_lists.specs.declared.numbers.TheConstants.{GREATEST_PRICE}
use Rattle.cost_lists.specs.Blocks.{reduced_sum}
use Rattle.cost_lists.specs.Exact.{AreFree, IsChoice, IsOptimum, IsPriceInLimits}
use Rattle.cost_lists.specs.ListedCosts.{AreInLimits, ListedCosts}
use Rattle.cost_lists.specs.Source.{part_of}
use Rattle.cost_lists.proofs.ExactDuality.{best_exact, some_cost}
use Rattle.cost_lists.proofs.Owns.{turned_order, turned_range}
use Rattle.plan_checker.specs.declared.rank.TheConstants.{NO_BOUND}
use Rattle.plan_checker.specs.Next.{excess}
use Rattle.plan_checker.specs.Ranks.{AreRanked, IsLow, IsOpen, RanksMeanAlone, RanksMeanKept, RanksMeanNext, RanksMeanOnly, rank_of, step_of}
use Rattle.plan_checker.proofs.Covered.{IsWithout, absent, but, but_least, covered, held, number_held, taken}
use Rattle.plan_checker.proofs.PairSums.{AreUp, reduced, sum_alone, sum_reduced, sums_up}

-- a choice has the least sum, by turned costs
choice_low : (sense : Sense) (prices : List ℤ) (row : Listing) (x : ℕ) → IsChoice sense prices row x → (k : ℕ) (c : ℤ) → listed_in row k ≡ Some c →
    reduced_sum sense prices x (listed_or_zero row x) ≤ℤ reduced_sum sense prices k c
choice_low Min prices row x h k c e = let low = h k c e in omega (arith, ints)
choice_low Max prices row x h k c e = let low = h k c e in omega (arith, ints)

pub step_up : (strict : Bool) → pos 0 ≤ℤ step_of strict
step_up false = omega (arith, ints)
step_up true = omega (arith, ints)

same_lists : (rows : List Listing) (xs ys : List ℕ) → AreListed rows xs → AreListed rows ys →
    ((i : ℕ) → i < length rows → get_or ys i 0 ≡ get_or xs i 0) → ys ≡ xs
same_lists [] [] [] a b h = refl
same_lists [] [] (y ∷ ys) a b h = absurd b
same_lists [] (x ∷ xs) ys a b h = absurd a
same_lists (row ∷ rows) [] ys a b h = absurd a
same_lists (row ∷ rows) (x ∷ xs) [] a b h = absurd b
same_lists (row ∷ rows) (x ∷ xs) (y ∷ ys) a b h =
    let first : y ≡ x = h 0 (omega arith) in
    let rest : ys ≡ xs = same_lists rows xs ys a.1 b.1 (λ i lt. h (suc i) (omega arith)) in
    rw (first, rest) refl

greatest_cost : GREATEST_COST ≡ pos (10 ^ 12)
greatest_cost = refl

greatest_price : GREATEST_PRICE ≡ pos (9 * 10 ^ 18)
greatest_price = refl

no_bound : NO_BOUND ≡ pos 9223372036854775807
no_bound = refl

-- each price is in the limits, and so is the 0 of a number beyond the list
price_in : (prices : List ℤ) (j : ℕ) → All IsPriceInLimits prices → IsPriceInLimits (price_of prices j)
price_in prices zero h = let g = greatest_price in record { least = omega (arith, ints); greatest = omega (arith, ints) }
price_in prices (suc k) h = elim (cases_lt k (length prices)) [
  | inl lt ↦ h k (pos 0) lt
  | inr past ↦
      let e = get_or_past prices k (pos 0) past in
      let g = greatest_price in
      record { least = omega (arith, ints); greatest = omega (arith, ints) }
]

part_limits : (m t : ℕ) (prices : List ℤ) → All IsPriceInLimits prices → All IsPriceInLimits (part_of m t prices)
part_limits m t prices each = All-take IsPriceInLimits m (drop (t * m) prices) (All-drop IsPriceInLimits (t * m) prices each)

-- the same object, or one of the same rank, which rises by the step
abbrev IsKept : List ℤ → ℤ → ℕ → ℕ → Type 0
IsKept ranks step x y = (y ≡ x) ⊎ ((rank_of ranks y ≡ rank_of ranks x) × ((rank_of ranks x +ℤ step) ≤ℤ rank_of ranks y))

module _ (l : ListedCosts) (xs : List ℕ) (limits : AreInLimits l) (a : IsAssignment l.rows xs) (ys : List ℕ) (g : IsAssignment l.rows ys) where
  abbrev cost_at : List ℤ → List ℕ → ℕ → ℤ
  cost_at q zs i = reduced l.sense q (get_or l.rows i []) (get_or zs i 0)

  listed_at : (i : ℕ) → i < length l.rows → listed_in (get_or l.rows i []) (get_or ys i 0) ≡ Some (listed_or_zero (get_or l.rows i []) (get_or ys i 0))
  listed_at i lt = some_cost _ (zip_at (λ row j. IsSome (listed_in row j)) l.rows ys i [] 0 g.listed lt)

  prices_fall : (f : ℕ → ℤ) → ((j : ℕ) → pos 0 ≤ℤ f j) → ((j : ℕ) → IsNumber l.m j → Contains xs j ⊎ (f j ≡ pos 0)) → sum_z f ys ≤ℤ sum_z f xs
  prices_fall f low free =
      covered f l.m xs ys a.apart g.apart (objects_within l.m l.rows ys limits.within g.listed) (λ j c. inr (low j)) free

  -- prices with which no pair of the second assignment costs less than the own one
  pub record Bounds (q : List ℤ) : Type 0 where
    pub in_range : All IsPriceInLimits q
    pub free : AreFree l.m q xs
    pub up : AreUp (reduced l.sense q) l.rows xs ys

  module _ (q : List ℤ) (h : Bounds q) where
    none_below : (j : ℕ) → pos 0 ≤ℤ price_of q j
    none_below j = (price_in q j h.in_range).least

    -- no pair's reduced cost is above the excess
    pub pair_within : (i : ℕ) → i < length l.rows → cost_at q ys i ≤ℤ (cost_at q xs i +ℤ excess l.sense l.rows xs ys)
    pair_within i lt =
        let up = (sums_up (reduced l.sense q) l.rows xs ys a.listed g.listed h.up).1 i lt in
        let first = sum_reduced l.sense q l.rows xs a.listed in
        let second = sum_reduced l.sense q l.rows ys g.listed in
        let fall = prices_fall (price_of q) none_below h.free in
        omega (arith, ints)

    -- and no price of an object that is left
    price_within : (j : ℕ) → Contains xs j → IsWithout j ys → price_of q j ≤ℤ excess l.sense l.rows xs ys
    price_within j c left =
        let up = (sums_up (reduced l.sense q) l.rows xs ys a.listed g.listed h.up).0 in
        let first = sum_reduced l.sense q l.rows xs a.listed in
        let second = sum_reduced l.sense q l.rows ys g.listed in
        let with_j = taken (price_of q) j xs a.apart c in
        let without_j = absent (price_of q) j ys left in
        let fall = prices_fall (but (price_of q) j) (λ k. (but_least (price_of q) j k (none_below k)).0)
        (λ k number. elim (h.free k number) [
          | inl owned ↦ inl owned
          | inr free ↦ let b = but_least (price_of q) j k (none_below k) in let low = b.0 in let most = b.1 in inr (omega (arith, ints))
        ]) in
        omega (arith, ints)

  pub optimum_bounds : (prices : List ℤ) → IsOptimum l xs prices → Bounds prices
  optimum_bounds prices o = record {
    in_range = o.in_range;
    free = o.free;
    up = λ i lt.
        choice_low l.sense prices (get_or l.rows i []) (get_or xs i 0) (zip_at (IsChoice l.sense prices) l.rows xs i [] 0 o.choices lt) (get_or ys i 0) _ (listed_at i lt);
  }

  module _ (strict : Bool) (bound : ℤ) (prices ranks : List ℤ) (count : ℕ) (others : List ℤ) (o : IsOptimum l xs prices)
      (r : AreRanked strict bound l xs prices ranks count others)
      (pairs : (q : List ℤ) → Bounds q → (i : ℕ) → i < length l.rows → cost_at q ys i <ℤ (cost_at q xs i +ℤ bound))
      (left : (q : List ℤ) → Bounds q → (j : ℕ) → Contains xs j → IsWithout j ys → price_of q j <ℤ bound) where
    abbrev list_at : ℕ → List ℤ
    list_at t = part_of l.m t others

    -- the first lists bound the second assignment
    abbrev BoundBefore : ℕ → Type 0
    BoundBefore t = (s : ℕ) → s < t → Bounds (list_at s)

    open_at : (t : ℕ) → BoundBefore t → (i : ℕ) → i < length l.rows → IsOpen bound l xs prices others t (suc i) (get_or ys i 0)
    open_at t before i lt = record {
      core = record { cost = listed_or_zero (get_or l.rows i []) (get_or ys i 0); listed = listed_at i lt; low = pairs prices (optimum_bounds prices o) i lt };
      low = λ s first. pairs (list_at s) (before s first) i lt;
    }

    list_bounds : (t : ℕ) → t < count → BoundBefore t → Bounds (list_at t)
    unfolding open_at
    list_bounds t lt before = record {
      in_range = part_limits l.m t others r.priced.in_range;
      free = r.priced.free t lt;
      up = λ i below. elim (eqb_tells (get_or ys i 0) (get_or xs i 0)) [
        | inl e ↦ let same = ap (reduced l.sense (list_at t) (get_or l.rows i [])) e.1 in omega (arith, ints)
        | inr e ↦ r.proved t (suc i) (get_or ys i 0) lt (open_at t before i below) e.1
      ];
    }

    bound_before : (t : ℕ) → t ≤ count → BoundBefore t
    bound_before zero most s lt = absurd (omega (arith, lt))
    bound_before (suc t) most s lt =
        let before = bound_before t (omega arith) in
        elim (cases_lt s t) [
          | inl earlier ↦ before s earlier
          | inr past ↦ let e : t ≡ s = omega arith in subst (λ k. Bounds (list_at k)) e (list_bounds t (omega arith) before)
        ]

    all_bound : BoundBefore count
    all_bound = bound_before count (omega arith)

    rise_at : (i : ℕ) → i < length l.rows → (get_or ys i 0 ≡ get_or xs i 0) ⊎ ((rank_of ranks (get_or xs i 0) +ℤ step_of strict) ≤ℤ rank_of ranks (get_or ys i 0))
    rise_at i lt = elim (eqb_tells (get_or ys i 0) (get_or xs i 0)) [
      | inl e ↦ inl e.1
      | inr e ↦ inr (r.rise (suc i) (get_or ys i 0) (open_at count all_bound i lt) e.1)
    ]

    ranks_up : AreUp (λ row. rank_of ranks) l.rows xs ys
    ranks_up i lt = elim (rise_at i lt) [
      | inl e ↦ let same = ap (rank_of ranks) e in omega (arith, ints)
      | inr rise ↦ let up = step_up strict in omega (arith, ints)
    ]

    low_left : (j : ℕ) → Contains xs j → IsWithout j ys → IsLow bound l.m prices count others j
    low_left j c none = record { first = left prices (optimum_bounds prices o) j c none; later = λ t lt. left (list_at t) (all_bound t lt) j c none }

    ranks_fall : sum_z (rank_of ranks) ys ≤ℤ sum_z (rank_of ranks) xs
    ranks_fall =
        covered (rank_of ranks) l.m xs ys a.apart g.apart (objects_within l.m l.rows ys limits.within g.listed)
        (λ j c. elim (held j ys) [
          | inl stays ↦ inl stays
          | inr none ↦ inr (r.free j (number_held l.m j xs (objects_within l.m l.rows xs limits.within a.listed) c) (low_left j c none))
        ]) r.unowned

    kept : (i : ℕ) → i < length l.rows → IsKept ranks (step_of strict) (get_or xs i 0) (get_or ys i 0)
    kept i lt =
        let sums = sums_up (λ row. rank_of ranks) l.rows xs ys a.listed g.listed ranks_up in
        let first = sum_alone (rank_of ranks) l.rows xs a.listed in
        let second = sum_alone (rank_of ranks) l.rows ys g.listed in
        let within = sums.1 i lt in
        let fall = ranks_fall in
        let low = ranks_up i lt in
        elim (rise_at i lt) [ inl e ↦ inl e | inr rise ↦ inr (omega (arith, ints), rise) ]

  within_kept : (strict : Bool) (bound : ℤ) (prices ranks : List ℤ) (count : ℕ) (others : List ℤ) → IsOptimum l xs prices →
      AreRanked strict bound l xs prices ranks count others → excess l.sense l.rows xs ys <ℤ bound →
      (i : ℕ) → i < length l.rows → IsKept ranks (step_of strict) (get_or xs i 0) (get_or ys i 0)
  within_kept strict bound prices ranks count others o r below =
      kept strict bound prices ranks count others o r
      (λ q h i lt. let w = pair_within q h i lt in omega (arith, ints)) (λ q h j c none. let w = price_within q h j c none in omega (arith, ints))

  one_object : (ranks : List ℤ) (x y : ℕ) → IsKept ranks (pos 1) x y → y ≡ x
  one_object ranks x y (inl e) = e
  one_object ranks x y (inr e) = let same = e.0 in let rise = e.1 in absurd (omega (arith, ints))

  all_same : (ranks : List ℤ) → ((i : ℕ) → i < length l.rows → IsKept ranks (pos 1) (get_or xs i 0) (get_or ys i 0)) → ys ≡ xs
  all_same ranks h = same_lists l.rows xs ys a.listed g.listed (λ i lt. one_object ranks (get_or xs i 0) (get_or ys i 0) (h i lt))

  margin_up : (bound : ℤ) (prices ranks : List ℤ) (count : ℕ) (others : List ℤ) → IsOptimum l xs prices →
      AreRanked true bound l xs prices ranks count others → ys ≢ xs → bound ≤ℤ excess l.sense l.rows xs ys
  margin_up bound prices ranks count others o r other =
      by_lt_z {P = bound ≤ℤ excess l.sense l.rows xs ys} (excess l.sense l.rows xs ys) bound
      (λ below. absurd (other (all_same ranks (within_kept true bound prices ranks count others o r below))))
      (λ upto. upto)

pub ranks_keep_away : RanksMeanNext
ranks_keep_away bound l xs prices ranks count others limits o r = record {
  best = best_exact l xs prices limits o;
  others = λ ys g other. margin_up l xs limits o.assigned ys g bound prices ranks count others o r other;
}

best_excess : (l : ListedCosts) (xs ys : List ℕ) → IsBest l.sense l.rows ys → IsAssignment l.rows xs → excess l.sense l.rows xs ys <ℤ pos 1
best_excess l xs ys best g = let e = turned_order l.sense _ _ (best.best xs g) in omega (arith, ints)

pub ranks_make_only : RanksMeanOnly
ranks_make_only l xs prices ranks count others limits o r = record {
  best = best_exact l xs prices limits o;
  only = λ ys best.
      all_same l xs limits o.assigned ys best.assigned ranks
      (within_kept l xs limits o.assigned ys best.assigned true (pos 1) prices ranks count others o r (best_excess l xs ys best o.assigned));
}

one_rank : (ranks : List ℤ) (x y : ℕ) → IsKept ranks (pos 0) x y → rank_of ranks y ≡ rank_of ranks x
one_rank ranks x y (inl e) = ap (rank_of ranks) e
one_rank ranks x y (inr e) = e.0

pub ranks_keep : RanksMeanKept
ranks_keep l xs prices ranks count others limits o r ys best zero number = let some = number.first in absurd (omega arith)
ranks_keep l xs prices ranks count others limits o r ys best (suc i) number =
    let last = number.last in
    one_rank ranks (get_or xs i 0) (get_or ys i 0)
    (within_kept l xs limits o.assigned ys best.assigned false (pos 1) prices ranks count others o r (best_excess l xs ys best o.assigned) i (omega arith))

-- a sum of a cost and a price is below another one and NO_BOUND
pub below_all : (sense : Sense) (prices : List ℤ) (row : Listing) (x y : ℕ) → All IsPriceInLimits prices → HasCosts row →
    reduced sense prices row y <ℤ (reduced sense prices row x +ℤ NO_BOUND)
below_all sense prices row x y limits costs =
    let a = turned_range sense _ (IsCost-listed row x costs) in
    let b = turned_range sense _ (IsCost-listed row y costs) in
    let least = a.least in
    let greatest = b.greatest in
    let low = (price_in prices x limits).least in
    let high = (price_in prices y limits).greatest in
    let cost = greatest_cost in
    let price = greatest_price in
    let bound = no_bound in
    omega (arith, ints)

pub ranks_leave_none : RanksMeanAlone
ranks_leave_none l xs prices ranks count others limits o r = record {
  assigned = o.assigned;
  only = λ ys g.
      all_same l xs limits o.assigned ys g ranks (kept l xs limits o.assigned ys g true NO_BOUND prices ranks count others o r
      (λ q h i lt. below_all l.sense q (get_or l.rows i []) (get_or xs i 0) (get_or ys i 0) h.in_range (limits.costs i [] lt))
      (λ q h j c left. let high = (price_in q j h.in_range).greatest in let price = greatest_price in let bound = no_bound in omega (arith, ints)));
}
