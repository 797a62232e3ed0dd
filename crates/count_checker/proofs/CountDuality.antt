-- Weak duality with counts and groups.
use Rattle.std.proofs.Common.{ℤ, pos, ◌≤ℤ◌, List, Bool, length, ◌⊎◌, inl, inr, arith}
use Rattle.std.specs.List.{Contains}
use Rattle.std.proofs.lemmas.Int.{ints}
use Rattle.std.proofs.lemmas.List.Elements.{All-contains}
use Rattle.assign_core.specs.Prices.{price_of}
use Rattle.assign_core.specs.Sparse.{Triple}
use Rattle.count_checker.specs.Counts.{CountProblem, cost_of, IsBestPlan, IsCountProblem, IsPair, IsPlan, are_rivals, chosen, row_count, column_count}
use Rattle.count_checker.specs.CountPrices.{AreCountPrices, HasRival, rest_of}
use Rattle.count_checker.proofs.CountSums.{cost_parts, no_worse, sum_counts, sum_t, sum_t-order, tight_sums}
use Rattle.count_checker.proofs.RivalLaws.{chosen_listed, shared}
use Rattle.count_checker.proofs.Rivals.{rival_most, rival_sum, rivals_cover, rivals_most}

-- what the chosen pairs leave is at most what those of another plan leave
rests : (p : CountProblem) (plan other : List Bool) (r v : List ℤ) → AreCountPrices p plan r v → IsPlan p other →
    sum_t (rest_of p.sense r v) (chosen p.pairs plan) ≤ℤ sum_t (rest_of p.sense r v) (chosen p.pairs other)
rests p plan other r v prices o =
    let R = are_rivals p.groups in
    let f = rest_of p.sense r v in
    let xs = chosen p.pairs plan in
    let ys = chosen p.pairs other in
    let most : (s : Triple) → Contains xs s → f s ≤ℤ pos 0 = λ s at. All-contains (λ t. f t ≤ℤ pos 0) xs s prices.chosen_most at in
    let cover = rivals_cover R (shared p.groups) f xs ys o.apart most in
    let each : (t : Triple) → Contains ys t → rival_sum R f xs t ≤ℤ f t = λ t at.
    let listed = chosen_listed p.pairs other t at in
    elim (All-contains (λ t. (pos 0 ≤ℤ f t) ⊎ HasRival p.groups xs t) p.pairs t prices.left listed) [
      | inl least ↦ let m = rivals_most R f xs t most in omega (arith, ints)
      | inr rival ↦
          let m = rival_most R f xs t rival.rival most rival.taken rival.rivals in
          let l = prices.chosen_least rival.rival t rival.taken listed rival.rivals in
          omega (arith, ints)
    ] in
    let order = sum_t-order (rival_sum R f xs) f ys each in
    omega (arith, ints)

-- what the numbers of rows, or of columns, come to
pub best_counts : (p : CountProblem) (plan : List Bool) (r v : List ℤ) → IsCountProblem p → IsPlan p plan → AreCountPrices p plan r v → IsBestPlan p plan
best_counts p plan r v given is prices = record {
  planned = is;
  best = λ other o.
      let n = length p.rows.least in
      let m = length p.columns.least in
      let xs = chosen p.pairs plan in
      let ys = chosen p.pairs other in
      let inside : (q : List Bool) (t : Triple) → Contains (chosen p.pairs q) t → IsPair n m t = λ q t at. All-contains (IsPair n m) p.pairs t given.pairs (chosen_listed p.pairs q t at) in
      let x_rows = sum_counts (λ t. t.0) (price_of r) n xs (λ t at. (inside plan t at).row) in
      let y_rows = sum_counts (λ t. t.0) (price_of r) n ys (λ t at. (inside other t at).row) in
      let x_columns = sum_counts (λ t. t.1) (price_of v) m xs (λ t at. (inside plan t at).column) in
      let y_columns = sum_counts (λ t. t.1) (price_of v) m ys (λ t at. (inside other t at).column) in
      let rows = tight_sums p.rows (price_of r) n (row_count xs) (row_count ys) prices.rows o.rows in
      let columns = tight_sums p.columns (price_of v) m (column_count xs) (column_count ys) prices.columns o.columns in
      let rest = rests p plan other r v prices o in
      let x = cost_parts p.sense (λ t. price_of r t.0) (λ t. price_of v t.1) xs in
      let y = cost_parts p.sense (λ t. price_of r t.0) (λ t. price_of v t.1) ys in
      no_worse p.sense (cost_of xs) (cost_of ys) (omega (arith, ints));
}
