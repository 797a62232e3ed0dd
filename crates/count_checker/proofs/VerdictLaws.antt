-- What the checker's findings mean.
use Rattle.std.proofs.Common.{◌≡◌, ℕ, ℤ, pos, ◌≤ℤ◌, ◌<◌, List, Bool, true, false, length, get_or, ◌⊎◌, inl, inr, refl, ap, sym, ◌∙◌, arith, subst}
use Rattle.std.specs.List.{All, Contains}
use Rattle.std.proofs.lemmas.List.{get_or_default}
use Rattle.std.proofs.lemmas.List.Elements.{All-contains}
use Rattle.assign_core.specs.Numbered.{IsNumber}
use Rattle.assign_core.specs.Prices.{price_of}
use Rattle.assign_core.specs.Sparse.{Triple}
use Rattle.cost_lists.specs.Given.{triples_of}
use Rattle.cost_lists.proofs.Triples.{length-triples, triples-index}
use Rattle.count_checker.specs.declared.lists.CountLists.{CountLists}
use Rattle.std.specs.Prelude.{◌↔◌}
use Rattle.count_checker.specs.declared.verdict.CountVerdict.{CountVerdict}
use Rattle.count_checker.specs.declared.verdict.CountVerdict.TheVariants.{Yes, Length, Twice, Row, Column, Pair}
use Rattle.count_checker.specs.Counts.{IsBestPlan, IsCountProblem, IsPair, IsPlan, are_rivals, chosen, row_count, column_count}
use Rattle.count_checker.specs.CountPrices.{AreCountPrices, HasRival, rest_of}
use Rattle.count_checker.specs.CountLists.{AreCountLists, pair_at, problem_in}
use Rattle.count_checker.specs.CountFaults.{IsChosen, IsCountVerdict, IsDouble, IsKept, IsPairRight}
use Rattle.count_checker.specs.inside.Tallies.{chosen_count}
use Rattle.count_checker.proofs.CountDuality.{best_counts}
use Rattle.count_checker.proofs.Places.{chosen_at, chosen_from, distinct_of_places, places_of_distinct}
use Rattle.count_checker.proofs.Tallying.{counted}

module _ (l : CountLists) (lists : AreCountLists l) where
  pairs : List Triple
  pairs = triples_of l.rows.now l.columns.now l.costs.now

  pub long_pairs : length (problem_in l).pairs ≡ length l.rows.now
  long_pairs = length-triples l.rows.now l.columns.now l.costs.now lists.columns_long lists.costs_long

  pub at : (k : ℕ) (d : Triple) → k < length l.rows.now → get_or (problem_in l).pairs k d ≡ pair_at l k
  at k d lt = triples-index l.rows.now l.columns.now l.costs.now k d lists.columns_long lists.costs_long lt

  pub given : IsCountProblem (problem_in l)
  given = record {
    pairs = λ k d lt.
        let below : k < length l.rows.now = let e = long_pairs in omega arith in
        let inside : k < length l.columns.now = let e = lists.columns_long in omega arith in
        subst (IsPair (length l.row_least.now) (length l.column_least.now)) (sym (at k d below))
        (record { row = lists.rows_in k 0 below; column = subst (λ m. IsNumber m (get_or l.columns.now k 0)) lists.groups_long (lists.columns_in k 0 inside) });
    rows = lists.row_most_long;
    columns = lists.column_most_long;
  }

  module _ (plan : List Bool) (long : length plan ≡ length l.rows.now) where
    long_plan : length plan ≡ length (problem_in l).pairs
    long_plan = long ∙ sym long_pairs

    pub rows_counted : (i : ℕ) → chosen_count l.rows.now plan i (length l.rows.now) ≡ row_count (chosen (problem_in l).pairs plan) i
    rows_counted i = sym (counted (λ t. t.0) l.rows.now (problem_in l).pairs plan i (sym long_pairs) long_plan
        (λ k d lt. let e = long_pairs in ap (λ (t : Triple). t.0) (sym (at k d (omega arith)))))

    pub columns_counted : (j : ℕ) → chosen_count l.columns.now plan j (length l.columns.now) ≡ column_count (chosen (problem_in l).pairs plan) j
    columns_counted j = sym (counted (λ t. t.1) l.columns.now (problem_in l).pairs plan j (lists.columns_long ∙ sym long_pairs) long_plan
        (λ k d lt. let e = long_pairs in ap (λ (t : Triple). t.1) (sym (at k d (omega arith)))))

    -- a chosen pair has a place
    stands : (t : Triple) → Contains (chosen (problem_in l).pairs plan) t → (k : ℕ) × (k < length l.rows.now) × IsChosen plan k × (pair_at l k ≡ t)
    stands t c =
        let s = chosen_at (problem_in l).pairs plan t c in
        let below : s.place < length l.rows.now = let a = s.below in let e = long_pairs in omega arith in
        (s.place, below, s.taken, sym (at s.place t below) ∙ s.is t)

    -- and at the place of one stands a chosen pair
    stands_chosen : (k : ℕ) → k < length l.rows.now → IsChosen plan k → Contains (chosen (problem_in l).pairs plan) (pair_at l k)
    stands_chosen k lt taken =
        subst (Contains (chosen (problem_in l).pairs plan)) (at k (pair_at l k) lt)
        (chosen_from (problem_in l).pairs plan k (pair_at l k) (let e = long_pairs in omega arith) taken)

    pub yes_means : (r v : List ℤ) → length r ≡ length l.row_least.now → length v ≡ length l.column_least.now → ((k : ℕ) → k < length l.rows.now → IsDouble l plan k → ⊥) →
        ((i : ℕ) → IsNumber (length l.row_least.now) i → IsKept (problem_in l).rows i (row_count (chosen (problem_in l).pairs plan) i) (price_of r i)) →
        ((j : ℕ) → IsNumber (length l.column_least.now) j → IsKept (problem_in l).columns j (column_count (chosen (problem_in l).pairs plan) j) (price_of v j)) →
        ((k : ℕ) → k < length l.rows.now → IsPairRight l plan r v k) → IsPlan (problem_in l) plan × AreCountPrices (problem_in l) plan r v
    yes_means r v long_r long_v single rows columns right = (
      record {
        long = long_plan;
        rows = λ i is. (rows i is).kept;
        columns = λ j is. (columns j is).kept;
        apart = distinct_of_places (are_rivals l.groups.now) (problem_in l).pairs plan (λ q k d lt below a b.
            let e = long_pairs in
            let k_in : k < length l.rows.now = omega arith in
            let q_in : q < length l.rows.now = omega arith in
            off (are_rivals l.groups.now (get_or (problem_in l).pairs q d) (get_or (problem_in l).pairs k d)) (λ on.
            single k k_in (record {
              taken = b;
              before = q;
              less = lt;
              taken_before = a;
              rivals = subst (λ s. are_rivals l.groups.now s (pair_at l k) ≡ true) (at q d q_in)
                  (subst (λ t. are_rivals l.groups.now (get_or (problem_in l).pairs q d) t ≡ true) (at k d k_in) on);
            })));
      },
      record {
        rows_long = long_r;
        columns_long = long_v;
        chosen_most = all_chosen (λ t. rest_of l.sense r v t ≤ℤ pos 0) (λ t c.
            let s = stands t c in subst (λ u. rest_of l.sense r v u ≤ℤ pos 0) s.3 ((right s.0 s.1).chosen_most s.2));
        chosen_least = λ s t c listed e.
            let q = stands s c in
            let k = listed.0 in
            let k_in : k < length l.rows.now = let a = listed.1 in let b = long_pairs in omega arith in
            let k_is : pair_at l k ≡ t = sym (at k t k_in) ∙ listed.2 in
            subst (λ u. rest_of l.sense r v u ≤ℤ rest_of l.sense r v t) q.3
            (subst (λ u. rest_of l.sense r v (pair_at l q.0) ≤ℤ rest_of l.sense r v u) k_is
            ((right k k_in).rivals_less q.0 q.1 q.2
            (subst (λ u. are_rivals l.groups.now u (pair_at l k) ≡ true) (sym q.3) (subst (λ u. are_rivals l.groups.now s u ≡ true) (sym k_is) e))));
        left = λ k d lt.
            let k_in : k < length l.rows.now = let b = long_pairs in omega arith in
            subst (λ t. (pos 0 ≤ℤ rest_of l.sense r v t) ⊎ HasRival l.groups.now (chosen (problem_in l).pairs plan) t) (sym (at k d k_in))
            (elim (right k k_in).left [
              | inl least ↦ inl least
              | inr h ↦ inr (record { rival = pair_at l h.rival; taken = stands_chosen h.rival h.below h.taken; rivals = h.rivals })
            ]);
        rows = λ i is. (rows i is).tight;
        columns = λ j is. (columns j is).tight;
      },
    ) where
      off : (b : Bool) → (b ≡ true → ⊥) → b ≡ false
      off true h = absurd (h refl)
      off false h = refl

      all_chosen : (P : Triple → Type 0) → ((t : Triple) → Contains (chosen (problem_in l).pairs plan) t → P t) → All P (chosen (problem_in l).pairs plan)
      all_chosen P h k d lt = h (get_or (chosen (problem_in l).pairs plan) k d) (k, lt, get_or_default (chosen (problem_in l).pairs plan) k (get_or (chosen (problem_in l).pairs plan) k d) d lt)

    -- a plan with numbers that prove it has no fault
    pub none_double : IsPlan (problem_in l) plan → (k : ℕ) → k < length l.rows.now → IsDouble l plan k → ⊥
    none_double is k lt d =
        let less = d.less in
        let q_in : d.before < length l.rows.now = omega arith in
        let t = pair_at l k in
        let off = places_of_distinct (are_rivals l.groups.now) (problem_in l).pairs plan d.before k t is.apart less (let e = long_pairs in omega arith) d.taken_before d.taken in
        let off' : are_rivals l.groups.now (pair_at l d.before) (pair_at l k) ≡ false =
        subst (λ s. are_rivals l.groups.now s (pair_at l k) ≡ false) (at d.before t q_in)
        (subst (λ u. are_rivals l.groups.now (get_or (problem_in l).pairs d.before t) u ≡ false) (at k t lt) off) in
        let on = d.rivals in
        absurd cc

    pub none_wrong : (r v : List ℤ) → AreCountPrices (problem_in l) plan r v → (k : ℕ) → k < length l.rows.now → IsPairRight l plan r v k
    none_wrong r v p k lt =
        let listed : Contains (problem_in l).pairs (pair_at l k) = (k, (let e = long_pairs in omega arith), at k (pair_at l k) lt) in
        record {
          chosen_most = λ taken. All-contains (λ t. rest_of l.sense r v t ≤ℤ pos 0) (chosen (problem_in l).pairs plan) (pair_at l k) p.chosen_most (stands_chosen k lt taken);
          rivals_less = λ q below taken e. p.chosen_least (pair_at l q) (pair_at l k) (stands_chosen q below taken) listed e;
          left = elim (All-contains (λ t. (pos 0 ≤ℤ rest_of l.sense r v t) ⊎ HasRival l.groups.now (chosen (problem_in l).pairs plan) t) (problem_in l).pairs (pair_at l k) p.left listed) [
            | inl least ↦ inl least
            | inr h ↦
                let s = stands h.rival h.taken in
                inr (record { rival = s.0; below = s.1; taken = s.2; rivals = subst (λ u. are_rivals l.groups.now u (pair_at l k) ≡ true) (sym s.3) h.rivals })
          ];
        }

-- a verdict is Yes exactly where the plan and the numbers are a proof
pub yes_iff : (l : CountLists) → AreCountLists l → (plan : List Bool) (r v : List ℤ) (verdict : CountVerdict) → IsCountVerdict l plan r v verdict →
    (verdict ≡ Yes) ↔ (IsPlan (problem_in l) plan × AreCountPrices (problem_in l) plan r v)
yes_iff l lists plan r v Yes h = (λ e. h, λ p. refl)
yes_iff l lists plan r v Length h = (
  λ e. absurd cc,
  λ p. absurd (h (record { plan_long = p.0.long; rows_long = p.1.rows_long; columns_long = p.1.columns_long })),
)
yes_iff l lists plan r v (Twice k) h = (λ e. absurd cc, λ p. absurd (none_double l lists plan (p.0.long ∙ long_pairs l lists) p.0 k h.1.below h.1.here))
yes_iff l lists plan r v (Row i) h = (λ e. absurd cc, λ p. absurd (h.2.here (record { kept = p.0.rows i h.2.number; tight = p.1.rows i h.2.number })))
yes_iff l lists plan r v (Column j) h = (λ e. absurd cc, λ p. absurd (h.3.here (record { kept = p.0.columns j h.3.number; tight = p.1.columns j h.3.number })))
yes_iff l lists plan r v (Pair k) h = (λ e. absurd cc, λ p. absurd (h.4.here (none_wrong l lists plan (p.0.long ∙ long_pairs l lists) r v p.1 k h.4.below)))

pub yes_best : (l : CountLists) → AreCountLists l → (plan : List Bool) (r v : List ℤ) (verdict : CountVerdict) → IsCountVerdict l plan r v verdict →
    verdict ≡ Yes → IsBestPlan (problem_in l) plan
yes_best l lists plan r v verdict h e =
    let p = (yes_iff l lists plan r v verdict h).0 e in
    best_counts (problem_in l) plan r v (given l lists) p.0 p.1
