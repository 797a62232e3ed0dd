-- Each optimal assignment keeps to the groups: its pairs are as good as the own ones, numbers don't
-- rise along them, and their sums don't fall.
use Rattle.std.proofs.Common.{◌≡◌, ℕ, ℤ, pos, ◌-ℤ◌, ◌≤ℤ◌, ◌<ℤ◌, ◌<◌, ◌≤◌, zero, suc, List, [], IsSome, length, get_or}
use Rattle.std.proofs.Common.{inl, inr, refl, arith, ap, sym, subst, ◌∙◌}
use Rattle.std.specs.List.{All, Contains}
use Rattle.std.proofs.lemmas.Int.{ints}
use Rattle.std.proofs.lemmas.Bool.{cases_lt}
use Rattle.std.proofs.lemmas.Bool.Decides.{eqb_tells}
use Rattle.std.proofs.lemmas.List.{get_or_past}
use Rattle.assign_core.specs.Numbered.{IsNumber, numbered}
use Rattle.assign_core.specs.Rows.{listed_in, listed_or_zero}
use Rattle.assign_core.specs.Assignment.{IsAssignment, IsBest}
use Rattle.assign_core.specs.Prices.{price_of}
use Rattle.assign_core.proofs.Distinct.{sum_z}
use Rattle.assign_core.proofs.Listed.{object_within, objects_within}
use Rattle.assign_core.proofs.NumberedLemmas.{numbered-index}
use Rattle.assign_core.proofs.Zips.{zip_at}
use Rattle.cost_lists.specs.Exact.{IsOptimum, IsPriceInLimits}
use Rattle.cost_lists.specs.ListedCosts.{AreInLimits, ListedCosts}
use Rattle.cost_lists.proofs.ExactDuality.{some_cost}
use Rattle.cost_lists.proofs.Owns.{turned_order}
use Rattle.plan_checker.specs.Next.{excess}
use Rattle.plan_checker.proofs.Covered.{IsWithout, absent, but, but_least, covered, held, number_held, taken}
use Rattle.plan_checker.proofs.PairSums.{AreUp, reduced, sum_alone, sum_reduced, sums_up}
use Rattle.plan_checker.proofs.RankLaws.{optimum_bounds, pair_within}
use Rattle.group_checker.specs.Groups.{AreGroups, GroupsAreKept, IsArrow, IsAsGood, IsInGroup}
use Rattle.group_checker.proofs.Sums.{sum_falls, without_not}

best_excess : (l : ListedCosts) (xs ys : List ℕ) → IsBest l.sense l.rows ys → IsAssignment l.rows xs → excess l.sense l.rows xs ys <ℤ pos 1
best_excess l xs ys best g = let e = turned_order l.sense _ _ (best.best xs g) in omega (arith, ints)

-- no price is below 0, also of a number beyond the list
price_low : (prices : List ℤ) (j : ℕ) → All IsPriceInLimits prices → pos 0 ≤ℤ price_of prices j
price_low prices zero h = omega (arith, ints)
price_low prices (suc k) h = elim (cases_lt k (length prices)) [
  | inl lt ↦ (h k (pos 0) lt).least
  | inr past ↦ let e = get_or_past prices k (pos 0) past in omega (arith, ints)
]

pub any_default : (groups : List ℕ) (j d : ℕ) → IsNumber (length groups) j → numbered groups j d ≡ numbered groups j 0
any_default groups j d number = numbered-index groups j 0 d number.first number.last ∙ sym (numbered-index groups j 0 0 number.first number.last)

module _ (l : ListedCosts) (xs : List ℕ) (prices : List ℤ) (limits : AreInLimits l) (o : IsOptimum l xs prices) (ys : List ℕ) (best : IsBest l.sense l.rows ys) where
  as_good : (i : ℕ) → i < length l.rows → IsAsGood l xs prices (suc i) (get_or ys i 0)
  as_good i lt =
      let bounds = optimum_bounds l xs limits o.assigned ys best.assigned prices o in
      let within = pair_within l xs limits o.assigned ys best.assigned prices bounds i lt in
      let less = best_excess l xs ys best o.assigned in
      let up = bounds.up i lt in
      record {
        cost = listed_or_zero (get_or l.rows i []) (get_or ys i 0);
        listed = some_cost _ (zip_at (λ row j. IsSome (listed_in row j)) l.rows ys i [] 0 best.assigned.listed lt);
        same = omega (arith, ints);
      }

  -- the price of an object that is left isn't above 0
  price_within : (j : ℕ) → Contains xs j → IsWithout j ys → price_of prices j ≤ℤ excess l.sense l.rows xs ys
  price_within j c left =
      let bounds = optimum_bounds l xs limits o.assigned ys best.assigned prices o in
      let up = (sums_up (reduced l.sense prices) l.rows xs ys o.assigned.listed best.assigned.listed bounds.up).0 in
      let first = sum_reduced l.sense prices l.rows xs o.assigned.listed in
      let second = sum_reduced l.sense prices l.rows ys best.assigned.listed in
      let with_j = taken (price_of prices) j xs o.assigned.apart c in
      let without_j = absent (price_of prices) j ys left in
      let fall = covered (but (price_of prices) j) l.m xs ys o.assigned.apart best.assigned.apart
      (objects_within l.m l.rows ys limits.within best.assigned.listed)
      (λ k owned. inr (but_least (price_of prices) j k (price_low prices k o.in_range)).0)
      (λ k number. elim (o.free k number) [
        | inl owned ↦ inl owned
        | inr free ↦ let b = but_least (price_of prices) j k (price_low prices k o.in_range) in let low = b.0 in let most = b.1 in inr (omega (arith, ints))
      ]) in
      omega (arith, ints)

  left_free : (j : ℕ) → Contains xs j → IsWithout j ys → price_of prices j ≡ pos 0
  left_free j c none =
      let within = price_within j c none in
      let less = best_excess l xs ys best o.assigned in
      let least = price_low prices j o.in_range in
      omega (arith, ints)

  module _ (groups : List ℕ) (g : AreGroups l xs prices groups) where
    -- how far the number of a vertex is below that of 0
    below : ℕ → ℤ
    below j = pos g.out -ℤ pos (numbered groups j g.out)

    falls_at : (i : ℕ) → i < length l.rows → numbered groups (get_or ys i 0) g.out ≤ numbered groups (get_or xs i 0) g.out
    falls_at i lt = elim (eqb_tells (get_or ys i 0) (get_or xs i 0)) [
      | inl e ↦ let same = ap (λ j. numbered groups j g.out) e.1 in omega arith
      | inr e ↦ g.falls (get_or xs i 0) (get_or ys i 0) (inl (record {
        person = suc i;
        number = record { first = omega arith; last = omega arith };
        own = refl;
        good = as_good i lt;
        other = e.1;
      }))
    ]

    goes_up : AreUp (λ row. below) l.rows xs ys
    unfolding below
    goes_up i lt = let falls = falls_at i lt in omega (arith, ints)

    sum_low : sum_z below ys ≤ℤ sum_z below xs
    unfolding below
    sum_low =
        let inside = objects_within l.m l.rows xs limits.within o.assigned.listed in
        sum_falls below l.m xs ys o.assigned.apart best.assigned.apart (objects_within l.m l.rows ys limits.within best.assigned.listed)
        (λ j c. elim (held j ys) [
          | inl stays ↦ inl stays
          | inr none ↦
              let leavable : IsArrow l xs prices 0 j = inr (inr (record {
                out = refl;
                number = number_held l.m j xs inside c;
                owned = c;
                free = left_free j c none;
              })) in
              let falls : numbered groups j g.out ≤ g.out = g.falls 0 j leavable in
              inr (omega (arith, ints))
        ])
        (λ j number. elim (held j xs) [
          | inl owned ↦ inl owned
          | inr none ↦
              let leads : IsArrow l xs prices j 0 = inr (inl (record { number = number; unowned = without_not j xs none; out = refl })) in
              let falls : g.out ≤ numbered groups j g.out = g.falls j 0 leads in
              inr (omega (arith, ints))
        ])

    same_number : (i : ℕ) → i < length l.rows → numbered groups (get_or ys i 0) g.out ≡ numbered groups (get_or xs i 0) g.out
    unfolding below
    same_number i lt =
        let sums = sums_up (λ row. below) l.rows xs ys o.assigned.listed best.assigned.listed goes_up in
        let first = sum_alone below l.rows xs o.assigned.listed in
        let second = sum_alone below l.rows ys best.assigned.listed in
        let within = sums.1 i lt in
        let low = sum_low in
        let falls = falls_at i lt in
        omega (arith, ints)

    pub kept_at : (i : ℕ) → i < length l.rows → IsInGroup l xs prices groups (suc i) (get_or ys i 0)
    kept_at i lt =
        let own = object_within l.m (get_or l.rows i []) (get_or xs i 0) (limits.within i [] lt)
        (zip_at (λ row j. IsSome (listed_in row j)) l.rows xs i [] 0 o.assigned.listed lt) in
        let new = object_within l.m (get_or l.rows i []) (get_or ys i 0) (limits.within i [] lt)
        (zip_at (λ row j. IsSome (listed_in row j)) l.rows ys i [] 0 best.assigned.listed lt) in
        let a = any_default groups (get_or xs i 0) g.out (subst (λ m. IsNumber m (get_or xs i 0)) (sym g.long) own) in
        let b = any_default groups (get_or ys i 0) g.out (subst (λ m. IsNumber m (get_or ys i 0)) (sym g.long) new) in
        record { good = as_good i lt; same = sym b ∙ same_number i lt ∙ a }

pub groups_keep : GroupsAreKept
groups_keep l xs prices groups limits o g zero j number may = let some = number.first in absurd (omega arith)
groups_keep l xs prices groups limits o g (suc i) j number may =
    let last = number.last in
    subst (IsInGroup l xs prices groups (suc i)) may.has (kept_at l xs prices limits o may.plan may.best groups g i (omega arith))
