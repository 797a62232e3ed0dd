-- The plans of ones are those of assignments.
use Rattle.std.proofs.Common.{◌≡◌, ℕ, ℤ, ◌+◌, ◌<◌, ◌≤◌, zero, suc, List, [], ◌∷◌, ◌++◌, length, take, drop, replicate, Bool, true, false, cond, nat_eq, refl, ap, sym, ◌∙◌, arith, inl, inr, IsSome, subst, eq-eqb}
use Rattle.std.specs.List.{All, AllByRecursion, count_by}
use Rattle.std.proofs.lemmas.Bool.Decides.{eqb_tells}
use Rattle.std.proofs.lemmas.List.{get_or-replicate, length-replicate, length-append, length-map, length-drop, length-take-le, nil_from_length, take-append-drop}
use Rattle.std.proofs.lemmas.List.Elements.{All-head, All-tail}
use Rattle.std.proofs.lemmas.List.Sums.{sum_by-append}
use Rattle.assign_core.specs.declared.sense.Sense.{Sense}
use Rattle.assign_core.specs.Assignment.{AreListed, IsAssignment, IsBest, IsNoWorse, total}
use Rattle.assign_core.specs.Numbered.{IsNumber, numbered}
use Rattle.assign_core.specs.Rows.{Listing, IsRising, IsWithin, listed_in}
use Rattle.assign_core.specs.Sparse.{Triple}
use Rattle.assign_core.proofs.Listed.{all_listed, listed_first, listed_later, objects_within}
use Rattle.count_checker.specs.Counts.{IsBestPlan, IsCount, IsPlan, chosen, column_count, cost_of, row_count}
use Rattle.count_checker.specs.Ones.{IsOfAssignment, OnesAreAssignments, choice_of, ones, pairs_from, pairs_of, plan_of}
use Rattle.count_checker.proofs.Picked.{picked, chosen_append, chosen_picked, column_picked, cost_picked, count_here, count_skip, differ_once, long_maps, once_differ, picked_apart, rising_head, rising_tail, row_within}

plan_long : (i : ℕ) (rows : List Listing) (xs : List ℕ) → AreListed rows xs → length (plan_of rows xs) ≡ length (pairs_from i rows)
plan_long i [] [] listed = refl
plan_long i [] (x ∷ xs) listed = absurd listed
plan_long i (row ∷ rows) [] listed = absurd listed
plan_long i (row ∷ rows) (j ∷ xs) listed =
    length-append (choice_of row j) (plan_of rows xs)
    ∙ ap (λ n. n + length (plan_of rows xs)) (long_maps i j row)
    ∙ ap (λ n. length (pairs_of i row) + n) (plan_long (i + 1) rows xs listed.1)
    ∙ sym (length-append (pairs_of i row) (pairs_from (i + 1) rows))

each_same : (n i a : ℕ) → IsNumber n i → numbered (replicate n a) i 0 ≡ a
each_same n zero a is = let f = is.first in absurd (omega arith)
each_same n (suc k) a is = let l = is.last in get_or-replicate n k a 0 (omega arith)

number_of : (n i a : ℕ) → IsNumber (length (replicate n a)) i → IsNumber n i
number_of n i a is = subst (λ k. IsNumber k i) (length-replicate n a) is

-- the plan of an assignment keeps counts and groups
as_plan : (sense : Sense) (m : ℕ) (rows : List Listing) (xs : List ℕ) → All IsRising rows → IsAssignment rows xs → IsPlan (ones sense m rows) (plan_of rows xs)
as_plan sense m rows xs rising assigned = record {
  long = plan_long 1 rows xs assigned.listed;
  rows = λ i is. row_kept i (number_of (length rows) i 1 is);
  columns = λ j is. column_kept j (number_of m j 0 is);
  apart = rw picks (picked_apart (replicate m 0) 1 rows xs);
}
  where
    picks : chosen (pairs_from 1 rows) (plan_of rows xs) ≡ picked 1 rows xs
    picks = chosen_picked 1 rows xs rising assigned.listed

    row_kept : (i : ℕ) → IsNumber (length rows) i → IsCount (ones sense m rows).rows i (row_count (chosen (pairs_from 1 rows) (plan_of rows xs)) i)
    row_kept i is =
        let f = is.first in
        let l = is.last in
        let one : row_count (chosen (pairs_from 1 rows) (plan_of rows xs)) i ≡ 1 = ap (λ ts. row_count ts i) picks ∙ row_within 1 i rows xs assigned.listed (omega arith) (omega arith) in
        let bound = each_same (length rows) i 1 is in
        record { least = omega arith; most = omega arith }

    column_kept : (j : ℕ) → IsNumber m j → IsCount (ones sense m rows).columns j (column_count (chosen (pairs_from 1 rows) (plan_of rows xs)) j)
    column_kept j is =
        let count : column_count (chosen (pairs_from 1 rows) (plan_of rows xs)) j ≡ count_by (λ x. nat_eq x j) xs = ap (λ ts. column_count ts j) picks ∙ column_picked 1 j rows xs assigned.listed in
        let few = differ_once j xs assigned.apart in
        let least = each_same m j 0 is in
        let most = each_same m j 1 is in
        record { least = omega arith; most = omega arith }

as_cost : (rows : List Listing) (xs : List ℕ) → All IsRising rows → AreListed rows xs → cost_of (chosen (pairs_from 1 rows) (plan_of rows xs)) ≡ total rows xs
as_cost rows xs rising listed = ap cost_of (chosen_picked 1 rows xs rising listed) ∙ cost_picked 1 rows xs

-- pairs of one person count all for it, and not for others
own_count : (i : ℕ) (row : Listing) (plan : List Bool) → row_count (chosen (pairs_of i row) plan) i ≡ length (chosen (pairs_of i row) plan)
own_count i [] plan = refl
own_count i (e ∷ row) [] = refl
own_count i (e ∷ row) (true ∷ plan) =
    let rest = own_count i row plan in
    let one : row_count (chosen (pairs_of i (e ∷ row)) (true ∷ plan)) i ≡ 1 + row_count (chosen (pairs_of i row) plan) i = count_here (λ t. nat_eq t.0 i) (i, e.0, e.1) (chosen (pairs_of i row) plan) (eq-eqb i i refl) in
    let long : length (chosen (pairs_of i (e ∷ row)) (true ∷ plan)) ≡ suc (length (chosen (pairs_of i row) plan)) = refl in
    omega arith
own_count i (e ∷ row) (false ∷ plan) = own_count i row plan

other_count : (i k : ℕ) (row : Listing) (plan : List Bool) → i < k → row_count (chosen (pairs_of i row) plan) k ≡ 0
other_count i k [] plan lt = refl
other_count i k (e ∷ row) [] lt = refl
other_count i k (e ∷ row) (true ∷ plan) lt = elim (eqb_tells i k) [
  | inl t ↦ let same = t.1 in absurd (omega arith)
  | inr t ↦ count_skip (λ t. nat_eq t.0 k) (i, e.0, e.1) (chosen (pairs_of i row) plan) t.0 ∙ other_count i k row plan lt
]
other_count i k (e ∷ row) (false ∷ plan) lt = other_count i k row plan lt

-- pairs of later persons don't count for an earlier one
later_count : (k : ℕ) (pairs : List Triple) (plan : List Bool) → AllByRecursion (λ t. k < t.0) pairs → row_count (chosen pairs plan) k ≡ 0
later_count k [] plan later = refl
later_count k (t ∷ pairs) [] later = refl
later_count k (t ∷ pairs) (true ∷ plan) later = elim (eqb_tells t.0 k) [
  | inl s ↦ let same = s.1 in let lt = later.0 in absurd (omega arith)
  | inr s ↦ count_skip (λ u. nat_eq u.0 k) t (chosen pairs plan) s.0 ∙ later_count k pairs plan later.1
]
later_count k (t ∷ pairs) (false ∷ plan) later = later_count k pairs plan later.1

later_row : (k i : ℕ) (row : Listing) (pairs : List Triple) → k < i → AllByRecursion (λ t. k < t.0) pairs → AllByRecursion (λ t. k < t.0) (pairs_of i row ++ pairs)
later_row k i [] pairs lt later = later
later_row k i (e ∷ row) pairs lt later = (lt, later_row k i row pairs lt later)

later_rows : (k i : ℕ) (rows : List Listing) → k < i → AllByRecursion (λ t. k < t.0) (pairs_from i rows)
later_rows k i [] lt = tt
later_rows k i (row ∷ rows) lt = later_row k i row (pairs_from (i + 1) rows) lt (later_rows k (i + 1) rows (omega arith))

-- a choice of none, after an object
none_chosen : (i j : ℕ) (row : Listing) (plan : List Bool) → All (λ f. j < f.0) row → length plan ≡ length row → length (chosen (pairs_of i row) plan) ≡ 0 →
    plan ≡ choice_of row j
none_chosen i j [] [] above long none = refl
none_chosen i j [] (x ∷ plan) above long none = absurd (omega arith)
none_chosen i j (e ∷ row) [] above long none = absurd (omega arith)
none_chosen i j (e ∷ row) (true ∷ plan) above long none = absurd (omega arith)
none_chosen i j (e ∷ row) (false ∷ plan) above long none = elim (eqb_tells e.0 j) [
  | inl t ↦ let same = t.1 in let lt = All-head (λ f. j < f.0) e row above in absurd (omega arith)
  | inr t ↦ rw t.0 (ap (λ l. false ∷ l) (none_chosen i j row plan (All-tail (λ f. j < f.0) e row above) (omega arith) none))
]

-- a choice of one is that of an object
record IsChoice (row : Listing) (plan : List Bool) : Type 0 where
  object : ℕ
  listed : IsSome (listed_in row object)
  same : plan ≡ choice_of row object

one_chosen : (i : ℕ) (row : Listing) (plan : List Bool) → IsRising row → length plan ≡ length row → length (chosen (pairs_of i row) plan) ≡ 1 → IsChoice row plan
one_chosen i [] plan rising long one = absurd (omega arith)
one_chosen i (e ∷ row) [] rising long one = absurd (omega arith)
one_chosen i (e ∷ row) (true ∷ plan) rising long one =
    let rest = none_chosen i e.0 row plan (rising_head e row rising) (omega arith) (omega arith) in
    let here : nat_eq e.0 e.0 ≡ true = eq-eqb e.0 e.0 refl in
    record { object = e.0; listed = rw (listed_first e row) refl; same = rw here (ap (λ l. true ∷ l) rest) }
one_chosen i (e ∷ row) (false ∷ plan) rising long one =
    let c = one_chosen i row plan (rising_tail e row rising) (omega arith) one in
    let above : e.0 < c.object = all_listed (λ f. e.0 < f.0) row c.object (rising_head e row rising) c.listed in
    elim (eqb_tells e.0 c.object) [
      | inl t ↦ let same = t.1 in absurd (omega arith)
      | inr t ↦ record { object = c.object; listed = rw (listed_later e row c.object t.0) c.listed; same = rw t.0 (ap (λ l. false ∷ l) c.same) }
    ]

-- one pair of each person is a choice of objects
record AreChoices (rows : List Listing) (plan : List Bool) : Type 0 where
  objects : List ℕ
  listed : AreListed rows objects
  same : plan ≡ plan_of rows objects

choices : (i : ℕ) (rows : List Listing) (plan : List Bool) → All IsRising rows → length plan ≡ length (pairs_from i rows) →
    ((k : ℕ) → i ≤ k → k < i + length rows → row_count (chosen (pairs_from i rows) plan) k ≡ 1) → AreChoices rows plan
choices i [] plan rising long one = record { objects = []; listed = tt; same = nil_from_length plan long }
choices i (row ∷ rows) plan rising long one =
    let own = one_chosen i row front (All-head IsRising row rows rising) front_long (sym (own_count i row front) ∙ here) in
    let rest = choices (i + 1) rows back (All-tail IsRising row rows rising) back_long later in
    record {
      objects = own.object ∷ rest.objects;
      listed = (own.listed, rest.listed);
      same = split ∙ ap (λ l. l ++ back) own.same ∙ ap (λ l. choice_of row own.object ++ l) rest.same;
    }
  where
    mine : List Triple
    mine = pairs_of i row

    others : List Triple
    others = pairs_from (i + 1) rows

    n : ℕ
    n = length row

    front : List Bool
    front = take n plan

    back : List Bool
    back = drop n plan

    split : plan ≡ front ++ back
    split = sym (take-append-drop n plan)

    mine_long : length mine ≡ n
    mine_long = length-map row (λ e. (i, e.0, e.1))

    all_long : length plan ≡ n + length others
    all_long = long ∙ length-append mine others ∙ ap (λ k. k + length others) mine_long

    front_long : length front ≡ n
    front_long = let l = all_long in length-take-le n plan (omega arith)

    back_long : length back ≡ length others
    back_long = let l = all_long in let d = length-drop n plan in omega arith

    counts : (k : ℕ) → row_count (chosen (mine ++ others) plan) k ≡ row_count (chosen mine front) k + row_count (chosen others back) k
    counts k =
        ap (λ p. row_count (chosen (mine ++ others) p) k) split
        ∙ ap (λ ts. row_count ts k) (chosen_append mine others front back (front_long ∙ sym mine_long))
        ∙ sum_by-append (λ t. cond (nat_eq t.0 k) 1 0) (chosen mine front) (chosen others back)

    here : row_count (chosen mine front) i ≡ 1
    here =
        let c = counts i in
        let o = one i (omega arith) (omega arith) in
        let l = later_count i others back (later_rows i (i + 1) rows (omega arith)) in
        omega arith

    later : (k : ℕ) → i + 1 ≤ k → k < i + 1 + length rows → row_count (chosen others back) k ≡ 1
    later k le lt =
        let c = counts k in
        let o = one k (omega arith) (omega arith) in
        let m = other_count i k row front (omega arith) in
        omega arith

-- a plan of ones is that of an assignment
from_plan : (sense : Sense) (m : ℕ) (rows : List Listing) (plan : List Bool) → All IsRising rows → All (IsWithin m) rows → IsPlan (ones sense m rows) plan → IsOfAssignment rows plan
from_plan sense m rows plan rising within is = record {
  objects = own.objects;
  assigned = record { listed = own.listed; apart = once_differ m own.objects (objects_within m rows own.objects within own.listed) few };
  same = own.same;
}
  where
    row_is_one : (k : ℕ) → 1 ≤ k → k < 1 + length rows → row_count (chosen (pairs_from 1 rows) plan) k ≡ 1
    row_is_one k le lt =
        let number : IsNumber (length rows) k = record { first = omega arith; last = omega arith } in
        let c = is.rows k (subst (λ n. IsNumber n k) (sym (length-replicate (length rows) 1)) number) in
        let bound = each_same (length rows) k 1 number in
        let a = c.least in
        let b = c.most in
        omega arith

    own : AreChoices rows plan
    own = choices 1 rows plan rising is.long row_is_one

    few : (j : ℕ) → IsNumber m j → count_by (λ x. nat_eq x j) own.objects ≤ 1
    few j number =
        let c = is.columns j (subst (λ n. IsNumber n j) (sym (length-replicate m 0)) number) in
        let bound = each_same m j 1 number in
        let count : column_count (chosen (pairs_from 1 rows) plan) j ≡ count_by (λ x. nat_eq x j) own.objects =
        ap (λ p. column_count (chosen (pairs_from 1 rows) p) j) own.same
        ∙ ap (λ ts. column_count ts j) (chosen_picked 1 rows own.objects rising own.listed) ∙ column_picked 1 j rows own.objects own.listed in
        let b = c.most in
        omega arith

same_order : (sense : Sense) (a b c d : ℤ) → a ≡ c → b ≡ d → IsNoWorse sense a b → IsNoWorse sense c d
same_order sense a b c d e f h = subst (λ x. IsNoWorse sense x d) e (subst (λ x. IsNoWorse sense a x) f h)

-- a best assignment has a best plan, and the other way round
best_as_plan : (sense : Sense) (m : ℕ) (rows : List Listing) (xs : List ℕ) → All IsRising rows → All (IsWithin m) rows → IsBest sense rows xs → IsBestPlan (ones sense m rows) (plan_of rows xs)
best_as_plan sense m rows xs rising within is = record {
  planned = as_plan sense m rows xs rising is.assigned;
  best = λ other kept. no_worse other (from_plan sense m rows other rising within kept);
}
  where
    no_worse : (other : List Bool) → IsOfAssignment rows other → IsNoWorse sense (cost_of (chosen (pairs_from 1 rows) (plan_of rows xs))) (cost_of (chosen (pairs_from 1 rows) other))
    no_worse other of =
        let here = as_cost rows xs rising is.assigned.listed in
        let there = as_cost rows of.objects rising of.assigned.listed in
        let shown = ap (λ p. cost_of (chosen (pairs_from 1 rows) p)) of.same in
        same_order sense (total rows xs) (total rows of.objects) (cost_of (chosen (pairs_from 1 rows) (plan_of rows xs))) (cost_of (chosen (pairs_from 1 rows) other))
        (sym here) (sym (shown ∙ there)) (is.best of.objects of.assigned)

best_from_plan : (sense : Sense) (m : ℕ) (rows : List Listing) (xs : List ℕ) → All IsRising rows → IsAssignment rows xs → IsBestPlan (ones sense m rows) (plan_of rows xs) → IsBest sense rows xs
best_from_plan sense m rows xs rising assigned is = record {
  assigned = assigned;
  best = λ ys other. same_order sense (cost_of (chosen (pairs_from 1 rows) (plan_of rows xs))) (cost_of (chosen (pairs_from 1 rows) (plan_of rows ys))) (total rows xs) (total rows ys)
      (as_cost rows xs rising assigned.listed) (as_cost rows ys rising other.listed) (is.best (plan_of rows ys) (as_plan sense m rows ys rising other));
}

pub ones_are_assignments : OnesAreAssignments
ones_are_assignments sense m rows rising within = (
  λ xs assigned. record {
    planned = as_plan sense m rows xs rising assigned;
    cost = as_cost rows xs rising assigned.listed;
    best = (best_as_plan sense m rows xs rising within, best_from_plan sense m rows xs rising assigned);
  },
  λ plan is. from_plan sense m rows plan rising within is,
)
