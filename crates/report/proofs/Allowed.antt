-- What is written is a report that can be read.
use Rattle.std.proofs.Common.{◌≡◌, ℕ, ℤ, pos, negsuc, neg_ℤ, nat_abs, ◌+ℤ◌, ◌≤ℤ◌, suc, zero, ◌<◌, ◌≤◌, ◌+◌, ◌*◌}
use Rattle.std.proofs.Common.{List, [], ◌∷◌, Bool, true, false, Some, IsSome, length, get_or, refl, ap, subst}
use Rattle.std.proofs.Common.{arith, rules}
use Rattle.std.specs.Prelude.{All, Contains}
use Rattle.std.specs.List.{AllByRecursion}
use Rattle.std.specs.List.Sorted.{IsStrictlyIncreasing}
use Rattle.std.proofs.lemmas.Int.{ints}
use Rattle.std.proofs.lemmas.List.Elements.{All-head, All-tail, recursion_from_All}
use Rattle.std.proofs.lemmas.Bool.{lt-ltb, le-leb}
use Rattle.report.proofs.LineWords.{rising_more}
use Rattle.assign_core.specs.declared.numbers.TheConstants.{MOST_PERSONS, GREATEST_COST}
use Rattle.assign_core.specs.declared.sense.Sense.{Sense}
use Rattle.assign_core.specs.declared.outcome.Outcome.{Outcome}
use Rattle.assign_core.specs.declared.outcome.Outcome.TheVariants.{Best, Hall}
use Rattle.assign_core.specs.Numbered.{IsNumber}
use Rattle.assign_core.specs.Rows.{Listing, IsProblem, IsRow, IsListed, listed_in, listed_or_zero}
use Rattle.assign_core.specs.Rows as rows
use Rattle.assign_core.specs.Assignment.{AreListed, IsAssignment, total}
use Rattle.assign_core.specs.Hall.{IsHallSet}
use Rattle.assign_core.specs.Prices as prices
use Rattle.assign_core.proofs.Listed.{all_listed, length_zip, object_within}
use Rattle.assign_core.proofs.Members.{contains_first, contains_later}
use Rattle.assign_core.proofs.NumberedLemmas.{number_within}
use Rattle.report.specs.Reports.{IsReport, IsBestReport, IsHallReport, is_entry, is_price, is_rising, is_total, ArePrices, cost_limit, price_end}
use Rattle.report.specs.Outcomes.{pairs_of, chosen_prices, outcome_report, IsOutcome}

-- an integer between two bounds
abs_between : (c : ℤ) (k : ℕ) → neg_ℤ (pos k) ≤ℤ c → c ≤ℤ pos k → nat_abs c ≤ k
abs_between (pos n) k l h = omega (arith, ints, h)
abs_between (negsuc n) k l h = omega (arith, ints, l)

-- a cost of the problem
cost_here : (n : ℕ) (row : Listing) (j : ℕ) → IsRow n row → IsSome (listed_in row j) → rows.IsCost (listed_or_zero row j)
cost_here n row j r s = all_listed (λ e. rows.IsCost e.1) row j r.costs s

entries_allowed : (n : ℕ) (s : Sense) (rows : List Listing) (xs : List ℕ) → n ≤ MOST_PERSONS → All (IsRow n) rows →
    AreListed rows xs → AllByRecursion (λ e. is_entry (Some s) e ≡ true) (pairs_of rows xs)
entries_allowed n s [] xs l a h = tt
entries_allowed n s (row ∷ rows) [] l a h = tt
entries_allowed n s (row ∷ rows) (j ∷ xs) l a h =
    let r = All-head (IsRow n) row rows a in
    let o = object_within n row j r.within h.0 in
    let c = cost_here n row j r h.0 in
    let m = number_within n MOST_PERSONS j l o in
    let near = abs_between (listed_or_zero row j) (cost_limit (Some s)) c.least c.greatest in
    (rw (lt-ltb 0 j m.first, le-leb j MOST_PERSONS m.last) (le-leb _ _ near), entries_allowed n s rows xs l (All-tail (IsRow n) row rows a) h.1)

pairs_long : (rows : List Listing) (xs : List ℕ) → length rows ≡ length xs → length (pairs_of rows xs) ≡ length rows
pairs_long [] xs e = refl
pairs_long (row ∷ rows) [] e = absurd (omega (arith, e))
pairs_long (row ∷ rows) (x ∷ xs) e = ap suc (pairs_long rows xs (omega (arith, e)))

abbrev IsBetween : ℕ → ℤ → Type 0
IsBetween k c = (neg_ℤ (pos k) ≤ℤ c) × (c ≤ℤ pos k)

sum_between : (a b : ℤ) (m k n : ℕ) → IsBetween m a → IsBetween k b → n ≡ m + k → IsBetween n (a +ℤ b)
sum_between a b m k n f g e = (omega (arith, ints, f, g, e), omega (arith, ints, f, g, e))

total_between : (n : ℕ) (rows : List Listing) (xs : List ℕ) → All (IsRow n) rows → AreListed rows xs →
    IsBetween (length rows * nat_abs GREATEST_COST) (total rows xs)
total_between n [] xs a h = (omega (arith, ints), omega (arith, ints))
total_between n (row ∷ rows) [] a h = absurd h
total_between n (row ∷ rows) (j ∷ xs) a h =
    let c = cost_here n row j (All-head (IsRow n) row rows a) h.0 in
    sum_between (listed_or_zero row j) (total rows xs) (nat_abs GREATEST_COST) (length rows * nat_abs GREATEST_COST)
    (suc (length rows) * nat_abs GREATEST_COST) (c.least, c.greatest)
    (total_between n rows xs (All-tail (IsRow n) row rows a) h.1) (omega arith)

total_allowed : (n : ℕ) (s : Sense) (rows : List Listing) (xs : List ℕ) → length rows ≤ MOST_PERSONS →
    All (IsRow n) rows → AreListed rows xs → is_total (Some s) (total rows xs) ≡ true
total_allowed n s rows xs l a h =
    let b = total_between n rows xs a h in
    le-leb _ _ (omega (arith, abs_between (total rows xs) (length rows * nat_abs GREATEST_COST) b.0 b.1))

prices_allowed : (s : Sense) (ps : List ℤ) → AllByRecursion prices.IsPrice ps → AllByRecursion (λ p. is_price (Some s) p ≡ true) ps
prices_allowed s [] h = tt
prices_allowed s (pos p ∷ ps) h = let b = h.0.below in (lt-ltb p (price_end (Some s)) (omega (arith, ints, b)), prices_allowed s ps h.1)
prices_allowed s (negsuc p ∷ ps) h = let b = h.0.least in absurd (omega (arith, ints, b))

chosen_allowed : (s : Sense) (n : ℕ) (ps : List ℤ) (choice : Bool) → length ps ≡ n →
    AllByRecursion prices.IsPrice ps → ArePrices (Some s) n (chosen_prices choice ps)
chosen_allowed s n ps true e h = (e, prices_allowed s ps h)
chosen_allowed s n ps false e h = tt

-- the report on an optimal assignment
pub best_allowed : (rows : List Listing) (s : Sense) (xs : List ℕ) (ps : List ℤ) (choice : Bool) → IsProblem rows →
    IsAssignment rows xs → length ps ≡ length rows → All prices.IsPrice ps
    → IsBestReport (Some s) (total rows xs) (pairs_of rows xs) (chosen_prices choice ps)
best_allowed rows s xs ps choice p a e h =
    let zip = length_zip (λ row j. IsSome (listed_in row j)) rows xs a.listed in
    let long = pairs_long rows xs zip in
    record {
      total = total_allowed (length rows) s rows xs p.size.few p.each a.listed;
      some = omega (arith, long, p.size.some);
      few = omega (arith, long, p.size.few);
      each = entries_allowed (length rows) s rows xs p.size.few p.each a.listed;
      priced = chosen_allowed s (length (pairs_of rows xs)) ps choice (omega (arith, e, long)) (recursion_from_All prices.IsPrice ps h);
    }

-- ---- Hall sets

rising_by_index : (last : ℕ) (xs : List ℕ) → (0 < length xs → last < get_or xs 0 0) → ((k : ℕ) → suc k < length xs →
    get_or xs k 0 < get_or xs (suc k) 0) → AllByRecursion (λ x. x ≤ MOST_PERSONS) xs → is_rising last xs ≡ true
rising_by_index last [] f s h = refl
rising_by_index last (x ∷ xs) f s h =
    rising_more last x xs (f (omega arith)) h.0 (rising_by_index x xs (λ some. s 0 (omega arith)) (λ k l. s (suc k) (omega arith)) h.1)

pub rises : (xs : List ℕ) → IsStrictlyIncreasing xs → AllByRecursion (IsNumber MOST_PERSONS) xs → is_rising 0 xs ≡ true
rises xs s h = rising_by_index 0 xs (first xs h) (λ k l. let e : k + 1 ≡ suc k = omega arith in
    subst (λ n. get_or xs k 0 < get_or xs n 0) e (s k (omega arith))) (below xs h)
  where
    first : (xs : List ℕ) → AllByRecursion (IsNumber MOST_PERSONS) xs → 0 < length xs → 0 < get_or xs 0 0
    first [] h l = absurd (omega arith)
    first (x ∷ xs) h l = h.0.first

    below : (xs : List ℕ) → AllByRecursion (IsNumber MOST_PERSONS) xs → AllByRecursion (λ x. x ≤ MOST_PERSONS) xs
    below [] h = tt
    below (x ∷ xs) h = (h.0.last, below xs h.1)

few_all : (n : ℕ) (xs : List ℕ) → n ≤ MOST_PERSONS → AllByRecursion (IsNumber n) xs → AllByRecursion (IsNumber MOST_PERSONS) xs
few_all n [] l h = tt
few_all n (x ∷ xs) l h = (number_within n MOST_PERSONS x l h.0, few_all n xs l h.1)

-- what holds of every member
each_member : (P : ℕ → Type 0) (xs : List ℕ) → ((x : ℕ) → Contains xs x → P x) → AllByRecursion P xs
each_member P [] f = tt
each_member P (x ∷ xs) f = (f x (contains_first x xs), each_member P xs (λ y m. f y (contains_later x xs y m)))

listed_range : (n : ℕ) (rows : List Listing) (k j : ℕ) → All (IsRow n) rows → IsSome (listed_in (get_or rows k []) j) → IsNumber n j
listed_range n [] k j a h = absurd (search rules)
listed_range n (row ∷ rows) zero j a h = object_within n row j (All-head (IsRow n) row rows a).within h
listed_range n (row ∷ rows) (suc k) j a h = listed_range n rows k j (All-tail (IsRow n) row rows a) h

numbered_range : (n : ℕ) (rows : List Listing) (i j : ℕ) → All (IsRow n) rows → IsListed rows i j → IsNumber n j
numbered_range n rows zero j a h = absurd (search rules)
numbered_range n rows (suc k) j a h = listed_range n rows k j a h

-- the report on a Hall set
pub hall_allowed : (rows : List Listing) (persons objects : List ℕ) → IsProblem rows → IsHallSet rows persons objects → IsHallReport persons objects
hall_allowed rows persons objects p h =
    let n = length rows in
    let objects_in : AllByRecursion (IsNumber n) objects = each_member (IsNumber n) objects (λ j m. let b =
    (h.neighbours j).0 m in numbered_range n rows b.0 j p.each b.2) in
    record {
      some = omega (arith, h.fewer);
      persons_rise = rises persons h.persons_rise (few_all n persons p.size.few (recursion_from_All (IsNumber n) persons h.within));
      objects_rise = rises objects h.objects_rise (few_all n objects p.size.few objects_in);
    }

pub outcome_allowed : (rows : List Listing) (s : Sense) (outcome : Outcome) (choice : Bool) → IsProblem rows →
    IsOutcome rows outcome → IsReport (outcome_report rows s outcome choice)
outcome_allowed rows s (Best c) choice p h = best_allowed rows s c.assignment c.prices choice p h.0 h.1 h.2
outcome_allowed rows s (Hall l) choice p h = hall_allowed rows l.persons l.objects p h
