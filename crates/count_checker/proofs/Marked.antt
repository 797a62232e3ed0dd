-- What a plan that is best at marked costs says of the best ones.
use Rattle.std.proofs.Common.{◌≡◌, ℕ, ℤ, pos, negsuc, ◌+ℤ◌, ◌*ℤ◌, ◌≤ℤ◌, ◌+◌, ◌≤◌, zero, suc, List, [], ◌∷◌, length, Bool, true, false, true≢false, cond, nat_eq, refl, ap, sym, ◌∙◌, arith, subst, map, slice_index_or}
use lib.IntN.{*ℤ-zero}
use Rattle.std.specs.Prelude.{⊤, not}
use Rattle.std.specs.List.{IsDistinct, AllByRecursion}
use Rattle.std.proofs.lemmas.Int.{ints}
use Rattle.std.proofs.lemmas.Map.Keys.{IsDistinct-head, IsDistinct-tail, IsDistinct-cons}
use Rattle.assign_core.specs.Assignment.{IsNoWorse}
use Rattle.assign_core.specs.declared.sense.Sense.{Sense}
use Rattle.assign_core.specs.declared.sense.Sense.TheVariants.{Min, Max}
use Rattle.assign_core.specs.Sparse.{Triple}
use Rattle.assign_core.proofs.Products.{distributes}
use Rattle.cost_lists.specs.Own.{minimised}
use Rattle.count_checker.specs.Counts.{CountProblem, IsCount, IsPlan, are_rivals, chosen, column_count, cost_of, row_count}
use Rattle.count_checker.specs.Marks.{MarksBreakTies, MarksMeanFewest, MarksMeanSame, differences, mark_sum, marked, marked_pairs, marks_of}
use Rattle.count_checker.proofs.Picked.{count_cons}

-- pairs of the same rows and columns
abbrev AreAlike : List Triple → List Triple → Type 0
AreAlike [] [] = ⊤
AreAlike (s ∷ ss) (t ∷ ts) = (s.0 ≡ t.0) × (s.1 ≡ t.1) × AreAlike ss ts
AreAlike ss ts = ⊥

alike : (k : ℕ) (marks : List ℤ) (pairs : List Triple) (plan : List Bool) → length marks ≡ length pairs → AreAlike (chosen pairs plan) (chosen (marked_pairs k marks pairs) plan)
alike k [] [] plan long = tt
alike k [] (t ∷ pairs) plan long = absurd (omega arith)
alike k (w ∷ marks) [] plan long = absurd (omega arith)
alike k (w ∷ marks) (t ∷ pairs) [] long = tt
alike k (w ∷ marks) (t ∷ pairs) (true ∷ plan) long = (refl, refl, alike k marks pairs plan (omega arith))
alike k (w ∷ marks) (t ∷ pairs) (false ∷ plan) long = alike k marks pairs plan (omega arith)

alike_rows : (ss ts : List Triple) → AreAlike ss ts → (i : ℕ) → row_count ss i ≡ row_count ts i
alike_rows [] [] same i = refl
alike_rows [] (t ∷ ts) same i = absurd same
alike_rows (s ∷ ss) [] same i = absurd same
alike_rows (s ∷ ss) (t ∷ ts) same i =
    let rest = alike_rows ss ts same.2 i in
    count_cons (λ u. nat_eq u.0 i) s ss ∙ ap (λ j. cond (nat_eq j i) 1 0 + row_count ss i) same.0
    ∙ ap (λ c. cond (nat_eq t.0 i) 1 0 + c) rest ∙ sym (count_cons (λ u. nat_eq u.0 i) t ts)

alike_columns : (ss ts : List Triple) → AreAlike ss ts → (i : ℕ) → column_count ss i ≡ column_count ts i
alike_columns [] [] same i = refl
alike_columns [] (t ∷ ts) same i = absurd same
alike_columns (s ∷ ss) [] same i = absurd same
alike_columns (s ∷ ss) (t ∷ ts) same i =
    let rest = alike_columns ss ts same.2 i in
    count_cons (λ u. nat_eq u.1 i) s ss ∙ ap (λ j. cond (nat_eq j i) 1 0 + column_count ss i) same.1
    ∙ ap (λ c. cond (nat_eq t.1 i) 1 0 + c) rest ∙ sym (count_cons (λ u. nat_eq u.1 i) t ts)

alike_apart : (groups : List ℕ) (s t : Triple) (ss ts : List Triple) → s.0 ≡ t.0 → s.1 ≡ t.1 → AreAlike ss ts →
    AllByRecursion (λ u. are_rivals groups s u ≡ false) ss → AllByRecursion (λ u. are_rivals groups t u ≡ false) ts
alike_apart groups s t [] [] row column same apart = tt
alike_apart groups s t [] (v ∷ ts) row column same apart = absurd same
alike_apart groups s t (u ∷ ss) [] row column same apart = absurd same
alike_apart groups s t (u ∷ ss) (v ∷ ts) row column same apart =
    let e : are_rivals groups s u ≡ are_rivals groups t v = rw (row, column, same.0, same.1) refl in
    (sym e ∙ apart.0, alike_apart groups s t ss ts row column same.2 apart.1)

alike_distinct : (groups : List ℕ) (ss ts : List Triple) → AreAlike ss ts → IsDistinct (are_rivals groups) ss → IsDistinct (are_rivals groups) ts
alike_distinct groups [] [] same apart = apart
alike_distinct groups [] (t ∷ ts) same apart = absurd same
alike_distinct groups (s ∷ ss) [] same apart = absurd same
alike_distinct groups (s ∷ ss) (t ∷ ts) same apart =
    let R = are_rivals groups in
    IsDistinct-cons R t ts (alike_apart groups s t ss ts same.0 same.1 same.2 (IsDistinct-head R s ss apart)) (alike_distinct groups ss ts same.2 (IsDistinct-tail R s ss apart))

marked_long : (k : ℕ) (marks : List ℤ) (pairs : List Triple) → length marks ≡ length pairs → length (marked_pairs k marks pairs) ≡ length pairs
marked_long k [] [] long = refl
marked_long k [] (t ∷ pairs) long = absurd (omega arith)
marked_long k (w ∷ marks) [] long = absurd (omega arith)
marked_long k (w ∷ marks) (t ∷ pairs) long = ap suc (marked_long k marks pairs (omega arith))

-- plans keep counts and groups at marked costs too
plan_marked : (p : CountProblem) (k : ℕ) (marks : List ℤ) (plan : List Bool) → length marks ≡ length p.pairs → IsPlan p plan → IsPlan (marked k marks p) plan
plan_marked p k marks plan long is =
    let ss = chosen p.pairs plan in
    let ts = chosen (marked_pairs k marks p.pairs) plan in
    let same : AreAlike ss ts = alike k marks p.pairs plan long in
    record {
      long = is.long ∙ sym (marked_long k marks p.pairs long);
      rows = λ i within. subst (IsCount p.rows i) (alike_rows ss ts same i) (is.rows i within);
      columns = λ j within. subst (IsCount p.columns j) (alike_columns ss ts same j) (is.columns j within);
      apart = alike_distinct p.groups ss ts same is.apart;
    }

-- a plan's cost at marked costs
marked_cost : (k : ℕ) (marks : List ℤ) (pairs : List Triple) (plan : List Bool) → length marks ≡ length pairs →
    cost_of (chosen (marked_pairs k marks pairs) plan) ≡ (pos k *ℤ cost_of (chosen pairs plan)) +ℤ mark_sum marks plan
marked_cost k [] [] plan long = none
  where
    none : pos 0 ≡ (pos k *ℤ pos 0) +ℤ pos 0
    none = let e : pos k *ℤ pos 0 ≡ pos 0 = *ℤ-zero (pos k) in omega (arith, ints)
marked_cost k [] (t ∷ pairs) plan long = absurd (omega arith)
marked_cost k (w ∷ marks) [] plan long = absurd (omega arith)
marked_cost k (w ∷ marks) (t ∷ pairs) [] long = let e : pos k *ℤ pos 0 ≡ pos 0 = *ℤ-zero (pos k) in omega (arith, ints)
marked_cost k (w ∷ marks) (t ∷ pairs) (true ∷ plan) long =
    let rest = marked_cost k marks pairs plan (omega arith) in
    let both = distributes (pos k) t.2 (cost_of (chosen pairs plan)) in
    omega (arith, ints)
marked_cost k (w ∷ marks) (t ∷ pairs) (false ∷ plan) long = marked_cost k marks pairs plan (omega arith)

-- costs that are no worse than each other are the same
same_costs : (sense : Sense) (a b : ℤ) → IsNoWorse sense a b → IsNoWorse sense b a → a ≡ b
same_costs Min a b h i = omega (arith, ints)
same_costs Max a b h i = omega (arith, ints)

less_marks : (sense : Sense) (a x y : ℤ) → IsNoWorse sense (a +ℤ x) (a +ℤ y) → IsNoWorse sense x y
less_marks Min a x y h = omega (arith, ints)
less_marks Max a x y h = omega (arith, ints)

pub marks_break_ties : MarksBreakTies
marks_break_ties p k marks plan long best marked_best other also =
    let a : ℤ = cost_of (chosen p.pairs plan) in
    let b : ℤ = cost_of (chosen p.pairs other) in
    let same : a ≡ b = same_costs p.sense a b (best.best other also.planned) (also.best plan best.planned) in
    let here = marked_cost k marks p.pairs plan long in
    let there : cost_of (chosen (marked_pairs k marks p.pairs) other) ≡ (pos k *ℤ a) +ℤ mark_sum marks other =
    marked_cost k marks p.pairs other long ∙ ap (λ z. (pos k *ℤ z) +ℤ mark_sum marks other) (sym same) in
    let order = marked_best.best other (plan_marked p k marks other long also.planned) in
    less_marks p.sense (pos k *ℤ a) (mark_sum marks plan) (mark_sum marks other)
    (subst (λ x. IsNoWorse p.sense x ((pos k *ℤ a) +ℤ mark_sum marks other)) here (subst (λ x. IsNoWorse p.sense (cost_of (chosen (marked_pairs k marks p.pairs) plan)) x) there order))

no_worse_minimised : (sense : Sense) (a b : ℤ) → IsNoWorse sense a b → minimised sense a ≤ℤ minimised sense b
no_worse_minimised Min a b h = h
no_worse_minimised Max a b h = omega (arith, ints)

marks_long : (sense : Sense) (counted kept : List Bool) → length counted ≡ length kept → length (marks_of sense counted kept) ≡ length counted
marks_long sense [] [] long = refl
marks_long sense [] (x ∷ kept) long = absurd (omega arith)
marks_long sense (c ∷ counted) [] long = absurd (omega arith)
marks_long sense (c ∷ counted) (x ∷ kept) long = ap suc (marks_long sense counted kept (omega arith))

-- how many pairs to keep count
abbrev kept_count : List Bool → List Bool → ℕ
kept_count (true ∷ counted) (true ∷ kept) = 1 + kept_count counted kept
kept_count (true ∷ counted) (false ∷ kept) = kept_count counted kept
kept_count (false ∷ counted) (x ∷ kept) = kept_count counted kept
kept_count counted kept = 0

minimised_sum : (sense : Sense) (a b : ℤ) → minimised sense (a +ℤ b) ≡ minimised sense a +ℤ minimised sense b
minimised_sum Min a b = refl
minimised_sum Max a b = omega (arith, ints)

minimised_twice : (sense : Sense) (a : ℤ) → minimised sense (minimised sense a) ≡ a
minimised_twice Min a = refl
minimised_twice Max a = omega (arith, ints)

minimised_nothing : (sense : Sense) → minimised sense (pos 0) ≡ pos 0
minimised_nothing Min = refl
minimised_nothing Max = refl

-- marks of a plan count its differences
marks_count : (sense : Sense) (counted kept plan : List Bool) → length counted ≡ length kept → length plan ≡ length kept →
    minimised sense (mark_sum (marks_of sense counted kept) plan) +ℤ pos (kept_count counted kept) ≡ pos (differences counted kept plan)
marks_count sense [] [] [] long same = let e = minimised_nothing sense in omega (arith, ints)
marks_count sense [] [] (y ∷ plan) long same = absurd (omega arith)
marks_count sense [] (x ∷ kept) plan long same = absurd (omega arith)
marks_count sense (c ∷ counted) [] plan long same = absurd (omega arith)
marks_count sense (c ∷ counted) (x ∷ kept) [] long same = absurd (omega arith)
marks_count sense (false ∷ counted) (x ∷ kept) (true ∷ plan) long same =
    let rest = marks_count sense counted kept plan (omega arith) (omega arith) in
    let add = minimised_sum sense (pos 0) (mark_sum (marks_of sense counted kept) plan) in
    let e = minimised_nothing sense in
    omega (arith, ints)
marks_count sense (false ∷ counted) (x ∷ kept) (false ∷ plan) long same = marks_count sense counted kept plan (omega arith) (omega arith)
marks_count sense (true ∷ counted) (true ∷ kept) (true ∷ plan) long same =
    let rest = marks_count sense counted kept plan (omega arith) (omega arith) in
    let add = minimised_sum sense (minimised sense (negsuc 0)) (mark_sum (marks_of sense counted kept) plan) in
    let e = minimised_twice sense (negsuc 0) in
    omega (arith, ints)
marks_count sense (true ∷ counted) (true ∷ kept) (false ∷ plan) long same =
    let rest = marks_count sense counted kept plan (omega arith) (omega arith) in
    omega (arith, ints)
marks_count sense (true ∷ counted) (false ∷ kept) (true ∷ plan) long same =
    let rest = marks_count sense counted kept plan (omega arith) (omega arith) in
    let add = minimised_sum sense (minimised sense (pos 1)) (mark_sum (marks_of sense counted kept) plan) in
    let e = minimised_twice sense (pos 1) in
    omega (arith, ints)
marks_count sense (true ∷ counted) (false ∷ kept) (false ∷ plan) long same =
    let rest = marks_count sense counted kept plan (omega arith) (omega arith) in
    omega (arith, ints)

pub marks_mean_fewest : MarksMeanFewest
marks_mean_fewest p k counted kept plan counted_long kept_long best marked_best other also =
    let long : length counted ≡ length kept = counted_long ∙ sym kept_long in
    let marks = marks_of p.sense counted kept in
    let least = no_worse_minimised p.sense (mark_sum marks plan) (mark_sum marks other)
    (marks_break_ties p k marks plan (marks_long p.sense counted kept long ∙ counted_long) best marked_best other also) in
    let here = marks_count p.sense counted kept plan long (best.planned.long ∙ sym kept_long) in
    let there = marks_count p.sense counted kept other long (also.planned.long ∙ sym kept_long) in
    omega (arith, ints)

negated_long : (plan : List Bool) → length (map not plan) ≡ length plan
negated_long [] = refl
negated_long (x ∷ plan) = ap suc (negated_long plan)

-- a plan differs in each pair that counts from those that it has not, and no plan differs in more
most_differ : (counted plan other : List Bool) → length plan ≡ length counted → length other ≡ length counted → differences counted (map not plan) other ≤ differences counted (map not plan) plan
most_differ [] plan other here there = omega arith
most_differ (c ∷ counted) [] other here there = absurd (omega arith)
most_differ (c ∷ counted) (x ∷ plan) [] here there = absurd (omega arith)
most_differ (false ∷ counted) (x ∷ plan) (y ∷ other) here there = most_differ counted plan other (omega arith) (omega arith)
most_differ (true ∷ counted) (true ∷ plan) (true ∷ other) here there = let m = most_differ counted plan other (omega arith) (omega arith) in omega arith
most_differ (true ∷ counted) (true ∷ plan) (false ∷ other) here there = let m = most_differ counted plan other (omega arith) (omega arith) in omega arith
most_differ (true ∷ counted) (false ∷ plan) (true ∷ other) here there = let m = most_differ counted plan other (omega arith) (omega arith) in omega arith
most_differ (true ∷ counted) (false ∷ plan) (false ∷ other) here there = let m = most_differ counted plan other (omega arith) (omega arith) in omega arith

-- who differs in as many has the same of the pairs that count
same_pairs : (counted plan other : List Bool) → length plan ≡ length counted → length other ≡ length counted →
    differences counted (map not plan) plan ≤ differences counted (map not plan) other →
    (at : ℕ) → slice_index_or counted at false ≡ true → slice_index_or other at false ≡ slice_index_or plan at false
same_pairs [] plan other here there most at is = absurd (true≢false (sym is))
same_pairs (c ∷ counted) [] other here there most at is = absurd (omega arith)
same_pairs (c ∷ counted) (x ∷ plan) [] here there most at is = absurd (omega arith)
same_pairs (false ∷ counted) (x ∷ plan) (y ∷ other) here there most zero is = absurd (true≢false (sym is))
same_pairs (false ∷ counted) (x ∷ plan) (y ∷ other) here there most (suc at) is = same_pairs counted plan other (omega arith) (omega arith) most at is
same_pairs (true ∷ counted) (true ∷ plan) (true ∷ other) here there most zero is = refl
same_pairs (true ∷ counted) (false ∷ plan) (false ∷ other) here there most zero is = refl
same_pairs (true ∷ counted) (true ∷ plan) (true ∷ other) here there most (suc at) is = same_pairs counted plan other (omega arith) (omega arith) (omega arith) at is
same_pairs (true ∷ counted) (false ∷ plan) (false ∷ other) here there most (suc at) is = same_pairs counted plan other (omega arith) (omega arith) (omega arith) at is
same_pairs (true ∷ counted) (true ∷ plan) (false ∷ other) here there most at is =
    let m = most_differ counted plan other (omega arith) (omega arith) in absurd (omega arith)
same_pairs (true ∷ counted) (false ∷ plan) (true ∷ other) here there most at is =
    let m = most_differ counted plan other (omega arith) (omega arith) in absurd (omega arith)

pub marks_mean_same : MarksMeanSame
marks_mean_same p k counted plan counted_long best marked_best other also =
    let kept_long : length (map not plan) ≡ length p.pairs = negated_long plan ∙ best.planned.long in
    same_pairs counted plan other (best.planned.long ∙ sym counted_long) (also.planned.long ∙ sym counted_long)
    (marks_mean_fewest p k counted (map not plan) plan counted_long kept_long best marked_best other also)
