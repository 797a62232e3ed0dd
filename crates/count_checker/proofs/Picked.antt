-- The pairs that persons have in an assignment, and their counts.
use Rattle.std.proofs.Common.{◌≡◌, ℕ, ◌+◌, ◌<◌, ◌≤◌, suc, List, [], ◌∷◌, ◌++◌, length, Bool, true, false, cond, nat_eq, refl, ap, sym, ◌∙◌, arith, inl, inr, IsSome, true≢false, eq-eqb, ℤ, ◌+ℤ◌, subst}
use Rattle.std.specs.List.{All, AllByRecursion, IsDistinct, count_by}
use Rattle.std.proofs.lemmas.Bool.{cond-true, cond-false}
use Rattle.std.proofs.lemmas.Bool.Decides.{eqb_tells}
use Rattle.std.proofs.lemmas.List.Elements.{All-head, All-tail}
use Rattle.std.proofs.lemmas.List.Sums.{sum_by-cons}
use Rattle.std.proofs.lemmas.Map.Keys.{IsDistinct-head, IsDistinct-tail, IsDistinct-cons}
use Rattle.assign_core.specs.Assignment.{AreListed, total}
use Rattle.assign_core.specs.Numbered.{IsNumber}
use Rattle.assign_core.specs.Rows.{Listing, IsRising, listed_in, listed_or_zero}
use Rattle.assign_core.specs.Sparse.{Triple}
use Rattle.assign_core.proofs.Distinct.{InRange}
use Rattle.assign_core.proofs.Listed.{listed_here, listed_later, none_listed}
use Rattle.count_checker.specs.Counts.{are_rivals, chosen, column_count, cost_of, row_count}
use Rattle.count_checker.specs.Ones.{choice_of, pairs_from, pairs_of, plan_of}

none_distinct : {A : Type 0} (eq : A → A → Bool) → IsDistinct eq []
unfolding IsDistinct
none_distinct eq = tt

-- the persons i, i + 1, .. with their objects and costs
abbrev pub picked : ℕ → List Listing → List ℕ → List Triple
picked i (row ∷ rows) (j ∷ xs) = (i, j, listed_or_zero row j) ∷ picked (i + 1) rows xs
picked i rows xs = []

pub chosen_append : (a b : List Triple) (p q : List Bool) → length p ≡ length a → chosen (a ++ b) (p ++ q) ≡ chosen a p ++ chosen b q
chosen_append [] b [] q long = refl
chosen_append [] b (x ∷ p) q long = absurd (omega arith)
chosen_append (t ∷ a) b [] q long = absurd (omega arith)
chosen_append (t ∷ a) b (true ∷ p) q long = ap (λ l. t ∷ l) (chosen_append a b p q (omega arith))
chosen_append (t ∷ a) b (false ∷ p) q long = chosen_append a b p q (omega arith)

pub rising_tail : (e : ℕ × ℤ) (row : Listing) → IsRising (e ∷ row) → IsRising row
rising_tail e row rising = λ i k d lt last. rising (suc i) (suc k) d (omega arith) (omega arith)

pub rising_head : (e : ℕ × ℤ) (row : Listing) → IsRising (e ∷ row) → All (λ f. e.0 < f.0) row
rising_head e row rising = λ k d lt. rising 0 (suc k) d (omega arith) (omega arith)

-- an object before a row is none of it
row_none : (i j : ℕ) (row : Listing) → All (λ f. j < f.0) row → chosen (pairs_of i row) (choice_of row j) ≡ []
row_none i j [] above = refl
row_none i j (e ∷ row) above = elim (eqb_tells e.0 j) [
  | inl t ↦ let same = t.1 in let lt = All-head (λ f. j < f.0) e row above in absurd (omega arith)
  | inr t ↦ rw t.0 (row_none i j row (All-tail (λ f. j < f.0) e row above))
]

abbrev lone : ℕ → ℕ → ℤ → List Triple
lone i j c = (i, j, c) ∷ []

-- a listed object is one of it
pub row_one : (i j : ℕ) (row : Listing) → IsRising row → IsSome (listed_in row j) →
    chosen (pairs_of i row) (choice_of row j) ≡ (i, j, listed_or_zero row j) ∷ []
row_one i j [] rising listed = absurd (none_listed j listed)
row_one i j (e ∷ row) rising listed = elim (eqb_tells e.0 j) [
  | inl t ↦
      let none = row_none i j row (subst (λ k. All (λ f. k < f.0) row) t.1 (rising_head e row rising)) in
      rw (listed_here e row j t.0, t.0) (ap (λ l. (i, e.0, e.1) ∷ l) none ∙ ap (λ k. lone i k e.1) t.1)
  | inr t ↦ rw (listed_later e row j t.0, t.0) (row_one i j row (rising_tail e row rising) (rw (listed_later e row j t.0) at listed))
]

pub long_maps : (i j : ℕ) (row : Listing) → length (choice_of row j) ≡ length (pairs_of i row)
long_maps i j [] = refl
long_maps i j (e ∷ row) = ap suc (long_maps i j row)

-- the plan of an assignment chooses its pairs
pub chosen_picked : (i : ℕ) (rows : List Listing) (xs : List ℕ) → All IsRising rows → AreListed rows xs → chosen (pairs_from i rows) (plan_of rows xs) ≡ picked i rows xs
chosen_picked i [] [] rising listed = refl
chosen_picked i [] (x ∷ xs) rising listed = absurd listed
chosen_picked i (row ∷ rows) [] rising listed = absurd listed
chosen_picked i (row ∷ rows) (j ∷ xs) rising listed =
    let long : length (choice_of row j) ≡ length (pairs_of i row) = long_maps i j row in
    let one = row_one i j row (All-head IsRising row rows rising) listed.0 in
    let rest = chosen_picked (i + 1) rows xs (All-tail IsRising row rows rising) listed.1 in
    chosen_append (pairs_of i row) (pairs_from (i + 1) rows) (choice_of row j) (plan_of rows xs) long
    ∙ ap (λ l. l ++ chosen (pairs_from (i + 1) rows) (plan_of rows xs)) one
    ∙ ap (λ l. (i, j, listed_or_zero row j) ∷ l) rest

-- they cost what it costs
pub cost_picked : (i : ℕ) (rows : List Listing) (xs : List ℕ) → cost_of (picked i rows xs) ≡ total rows xs
cost_picked i [] xs = refl
cost_picked i (row ∷ rows) [] = refl
cost_picked i (row ∷ rows) (j ∷ xs) = ap (λ z. listed_or_zero row j +ℤ z) (cost_picked (i + 1) rows xs)

-- one more element counts if the test holds
pub count_cons : {A : Type 0} (f : A → Bool) (x : A) (xs : List A) → count_by f (x ∷ xs) ≡ cond (f x) 1 0 + count_by f xs
count_cons f x xs = sum_by-cons (λ y. cond (f y) 1 0) x xs

pub count_here : {A : Type 0} (f : A → Bool) (x : A) (xs : List A) → f x ≡ true → count_by f (x ∷ xs) ≡ 1 + count_by f xs
count_here f x xs e = let a = count_cons f x xs in let b : cond {A = ℕ} (f x) 1 0 ≡ 1 = cond-true (f x) 1 0 e in omega arith

pub count_skip : {A : Type 0} (f : A → Bool) (x : A) (xs : List A) → f x ≡ false → count_by f (x ∷ xs) ≡ count_by f xs
count_skip f x xs e = let a = count_cons f x xs in let b : cond {A = ℕ} (f x) 1 0 ≡ 0 = cond-false (f x) 1 0 e in omega arith

-- a person is none of those after it, and one of those from it on
pub row_before : (i k : ℕ) (rows : List Listing) (xs : List ℕ) → k < i → row_count (picked i rows xs) k ≡ 0
row_before i k [] xs lt = refl
row_before i k (row ∷ rows) [] lt = refl
row_before i k (row ∷ rows) (j ∷ xs) lt = elim (eqb_tells i k) [
  | inl t ↦ let same = t.1 in absurd (omega arith)
  | inr t ↦ count_skip (λ t. nat_eq t.0 k) (i, j, listed_or_zero row j) (picked (i + 1) rows xs) t.0 ∙ row_before (i + 1) k rows xs (omega arith)
]

pub row_within : (i k : ℕ) (rows : List Listing) (xs : List ℕ) → AreListed rows xs → i ≤ k → k < i + length rows → row_count (picked i rows xs) k ≡ 1
row_within i k [] xs listed le lt = absurd (omega arith)
row_within i k (row ∷ rows) [] listed le lt = absurd listed
row_within i k (row ∷ rows) (j ∷ xs) listed le lt = elim (eqb_tells i k) [
  | inl t ↦
      let none = row_before (i + 1) k rows xs (let same = t.1 in omega arith) in
      count_here (λ t. nat_eq t.0 k) (i, j, listed_or_zero row j) (picked (i + 1) rows xs) t.0 ∙ ap (λ n. 1 + n) none
  | inr t ↦
      let other = t.1 in
      count_skip (λ t. nat_eq t.0 k) (i, j, listed_or_zero row j) (picked (i + 1) rows xs) t.0 ∙ row_within (i + 1) k rows xs listed.1 (omega arith) (omega arith)
]

-- an object counts as often as persons have it
pub column_picked : (i j : ℕ) (rows : List Listing) (xs : List ℕ) → AreListed rows xs → column_count (picked i rows xs) j ≡ count_by (λ x. nat_eq x j) xs
column_picked i j [] [] listed = refl
column_picked i j [] (x ∷ xs) listed = absurd listed
column_picked i j (row ∷ rows) [] listed = absurd listed
column_picked i j (row ∷ rows) (x ∷ xs) listed =
    let rest = column_picked (i + 1) j rows xs listed.1 in
    count_cons (λ t. nat_eq t.1 j) (i, x, listed_or_zero row x) (picked (i + 1) rows xs)
    ∙ ap (λ n. cond (nat_eq x j) 1 0 + n) rest ∙ sym (count_cons (λ y. nat_eq y j) x xs)

none_equal : (x : ℕ) (xs : List ℕ) → AllByRecursion (λ y. nat_eq x y ≡ false) xs → count_by (λ y. nat_eq y x) xs ≡ 0
none_equal x [] apart = refl
none_equal x (y ∷ xs) apart = elim (eqb_tells y x) [
  | inl t ↦ elim (eqb_tells x y) [
    | inl s ↦ let e : true ≡ false = sym s.0 ∙ apart.0 in absurd (true≢false e)
    | inr s ↦ absurd (s.1 (sym t.1))
  ]
  | inr t ↦ count_skip (λ z. nat_eq z x) y xs t.0 ∙ none_equal x xs apart.1
]

-- numbers that differ count at most once
pub differ_once : (j : ℕ) (xs : List ℕ) → IsDistinct nat_eq xs → count_by (λ x. nat_eq x j) xs ≤ 1
differ_once j [] apart = omega arith
differ_once j (x ∷ xs) apart = elim (eqb_tells x j) [
  | inl t ↦
      let one = count_here (λ y. nat_eq y j) x xs t.0 in
      let none = subst (λ k. count_by (λ y. nat_eq y k) xs ≡ 0) t.1 (none_equal x xs (IsDistinct-head nat_eq x xs apart)) in
      omega arith
  | inr t ↦ let skip = count_skip (λ y. nat_eq y j) x xs t.0 in let rest = differ_once j xs (IsDistinct-tail nat_eq x xs apart) in omega arith
]

all_apart : (x : ℕ) (xs : List ℕ) → count_by (λ y. nat_eq y x) xs ≡ 0 → AllByRecursion (λ y. nat_eq x y ≡ false) xs
all_apart x [] none = tt
all_apart x (y ∷ xs) none = elim (eqb_tells y x) [
  | inl t ↦ let one = count_here (λ z. nat_eq z x) y xs t.0 in absurd (omega arith)
  | inr t ↦ elim (eqb_tells x y) [
    | inl s ↦ absurd (t.1 (sym s.1))
    | inr s ↦ (s.0, all_apart x xs (sym (count_skip (λ z. nat_eq z x) y xs t.0) ∙ none))
  ]
]

-- and those that count at most once differ
pub once_differ : (m : ℕ) (xs : List ℕ) → InRange m xs → ((j : ℕ) → IsNumber m j → count_by (λ x. nat_eq x j) xs ≤ 1) → IsDistinct nat_eq xs
once_differ m [] within once = none_distinct nat_eq
once_differ m (x ∷ xs) within once =
    let most = once x within.0 in
    let one = count_here (λ y. nat_eq y x) x xs (eq-eqb x x refl) in
    IsDistinct-cons nat_eq x xs (all_apart x xs (omega arith)) (once_differ m xs within.1 (λ j is. fewer j (once j is)))
  where
    fewer : (j : ℕ) → count_by (λ y. nat_eq y j) (x ∷ xs) ≤ 1 → count_by (λ y. nat_eq y j) xs ≤ 1
    fewer j few = let e = count_cons (λ y. nat_eq y j) x xs in omega arith

apart_later : (groups : List ℕ) (s : Triple) (i : ℕ) (rows : List Listing) (xs : List ℕ) → s.0 < i → AllByRecursion (λ t. are_rivals groups s t ≡ false) (picked i rows xs)
apart_later groups s i [] xs lt = tt
apart_later groups s i (row ∷ rows) [] lt = tt
apart_later groups s i (row ∷ rows) (j ∷ xs) lt = elim (eqb_tells s.0 i) [
  | inl t ↦ let same = t.1 in absurd (omega arith)
  | inr t ↦ (rw t.0 refl, apart_later groups s (i + 1) rows xs (omega arith))
]

-- no two of the pairs are rivals
pub picked_apart : (groups : List ℕ) (i : ℕ) (rows : List Listing) (xs : List ℕ) → IsDistinct (are_rivals groups) (picked i rows xs)
picked_apart groups i [] xs = none_distinct (are_rivals groups)
picked_apart groups i (row ∷ rows) [] = none_distinct (are_rivals groups)
picked_apart groups i (row ∷ rows) (j ∷ xs) =
    IsDistinct-cons (are_rivals groups) (i, j, listed_or_zero row j) (picked (i + 1) rows xs)
    (apart_later groups (i, j, listed_or_zero row j) (i + 1) rows xs (omega arith)) (picked_apart groups (i + 1) rows xs)
