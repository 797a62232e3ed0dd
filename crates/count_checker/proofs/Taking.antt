-- The chosen ones of the first pairs, and sums over them.
use Rattle.std.proofs.Common.{◌≡◌, ℕ, pos, ◌+ℤ◌, ◌+◌, ◌<◌, ◌≤◌, zero, suc, List, [], ◌∷◌, ◌++◌, take, length, get_or, add-one, Bool, true, false, cond, ◌⊎◌, inl, inr, refl, ap, sym, ◌∙◌, arith}
use Rattle.std.specs.Prelude.{filter}
use Rattle.std.proofs.lemmas.Int.{ints}
use Rattle.std.proofs.lemmas.Bool.{cond-true, cond-false}
use Rattle.assign_core.specs.Sparse.{Triple}
use Rattle.count_checker.specs.Counts.{chosen, cost_of}
use Rattle.count_checker.specs.CountSets.{marked_sum}

pub chosen_take : (pairs : List Triple) (plan : List Bool) (k : ℕ) (d : Triple) → k < length pairs → k < length plan →
    chosen (take (suc k) pairs) (take (suc k) plan) ≡ chosen (take k pairs) (take k plan) ++ cond (get_or plan k false) (get_or pairs k d ∷ []) []
chosen_take [] plan k d a b = absurd (omega arith)
chosen_take (x ∷ pairs) [] k d a b = absurd (omega arith)
chosen_take (x ∷ pairs) (true ∷ plan) zero d a b = refl
chosen_take (x ∷ pairs) (false ∷ plan) zero d a b = refl
chosen_take (x ∷ pairs) (true ∷ plan) (suc k) d a b = ap (λ r. x ∷ r) (chosen_take pairs plan k d (omega arith) (omega arith))
chosen_take (x ∷ pairs) (false ∷ plan) (suc k) d a b = chosen_take pairs plan k d (omega arith) (omega arith)

one_less : (n m k : ℕ) → (suc n ≤ suc k) ⊎ (suc m ≤ suc k) → (n ≤ k) ⊎ (m ≤ k)
one_less n m k h = elim h [ inl a ↦ inl (omega arith) | inr b ↦ inr (omega arith) ]

none_less : (n m : ℕ) → (suc n ≤ 0) ⊎ (suc m ≤ 0) → ⊥
none_less n m h = elim h [ inl a ↦ omega arith | inr b ↦ omega arith ]

pub chosen_end : (pairs : List Triple) (plan : List Bool) (k : ℕ) → (length pairs ≤ k) ⊎ (length plan ≤ k) → chosen (take k pairs) (take k plan) ≡ chosen pairs plan
chosen_end [] plan zero h = refl
chosen_end [] plan (suc k) h = refl
chosen_end (x ∷ pairs) [] zero h = refl
chosen_end (x ∷ pairs) [] (suc k) h = refl
chosen_end (x ∷ pairs) (b ∷ plan) zero h = absurd (none_less (length pairs) (length plan) h)
chosen_end (x ∷ pairs) (true ∷ plan) (suc k) h = ap (λ r. x ∷ r) (chosen_end pairs plan k (one_less (length pairs) (length plan) k h))
chosen_end (x ∷ pairs) (false ∷ plan) (suc k) h = chosen_end pairs plan k (one_less (length pairs) (length plan) k h)

cost_one : (xs : List Triple) (t : Triple) → cost_of (xs ++ t ∷ []) ≡ cost_of xs +ℤ t.2
cost_one [] t = omega (arith, ints)
cost_one (x ∷ xs) t = let h = cost_one xs t in omega (arith, ints)

cost_none : (xs : List Triple) → cost_of (xs ++ []) ≡ cost_of xs
cost_none [] = refl
cost_none (x ∷ xs) = let h = cost_none xs in omega (arith, ints)

-- one more pair adds its cost if it is chosen
pub cost_take : (pairs : List Triple) (plan : List Bool) (k : ℕ) (d : Triple) → k < length pairs → k < length plan →
    cost_of (chosen (take (suc k) pairs) (take (suc k) plan)) ≡ cost_of (chosen (take k pairs) (take k plan)) +ℤ cond (get_or plan k false) (get_or pairs k d).2 (pos 0)
cost_take pairs plan k d a b = ap cost_of (chosen_take pairs plan k d a b) ∙ step (get_or plan k false) where
  xs : List Triple
  xs = chosen (take k pairs) (take k plan)

  step : (v : Bool) → cost_of (xs ++ cond v (get_or pairs k d ∷ []) []) ≡ cost_of xs +ℤ cond v (get_or pairs k d).2 (pos 0)
  step true = cost_one xs (get_or pairs k d)
  step false = let e = cost_none xs in omega (arith, ints)

-- one more number adds itself if it is marked
pub marked_take : (marks : List Bool) (xs : List ℕ) (k : ℕ) → k < length xs → k < length marks →
    marked_sum (take (suc k) marks) (take (suc k) xs) ≡ marked_sum (take k marks) (take k xs) + cond (get_or marks k false) (get_or xs k 0) 0
marked_take [] xs k a b = absurd (omega arith)
marked_take (m ∷ marks) [] k a b = absurd (omega arith)
marked_take (true ∷ marks) (x ∷ xs) zero a b = omega arith
marked_take (false ∷ marks) (x ∷ xs) zero a b = refl
marked_take (true ∷ marks) (x ∷ xs) (suc k) a b = let h = marked_take marks xs k (omega arith) (omega arith) in omega arith
marked_take (false ∷ marks) (x ∷ xs) (suc k) a b = marked_take marks xs k (omega arith) (omega arith)

-- the pairs that pass a test, as chosen ones
pub filter_chosen : (q : Triple → Bool) (pairs : List Triple) (plan : List Bool) → length plan ≡ length pairs →
    ((k : ℕ) (d : Triple) → k < length pairs → get_or plan k false ≡ q (get_or pairs k d)) → chosen pairs plan ≡ filter q pairs
filter_chosen q [] plan e h = refl
filter_chosen q (x ∷ pairs) [] e h = absurd (omega arith)
filter_chosen q (x ∷ pairs) (true ∷ plan) e h =
    let here : true ≡ q x = h 0 x (omega arith) in
    let c : filter q (x ∷ pairs) ≡ x ∷ filter q pairs = cond-true (q x) (x ∷ filter q pairs) (filter q pairs) (sym here) in
    ap (λ r. x ∷ r) (filter_chosen q pairs plan (omega arith) (λ k d lt. h (suc k) d (omega arith))) ∙ sym c
filter_chosen q (x ∷ pairs) (false ∷ plan) e h =
    let here : false ≡ q x = h 0 x (omega arith) in
    let c : filter q (x ∷ pairs) ≡ filter q pairs = cond-false (q x) (x ∷ filter q pairs) (filter q pairs) (sym here) in
    filter_chosen q pairs plan (omega arith) (λ k d lt. h (suc k) d (omega arith)) ∙ sym c

pub marked_more : (marks : List Bool) (xs : List ℕ) (k : ℕ) → k < length xs → k < length marks →
    marked_sum (take (k + 1) marks) (take (k + 1) xs) ≡ marked_sum (take k marks) (take k xs) + cond (get_or marks k false) (get_or xs k 0) 0
marked_more marks xs k a b = rw add-one (marked_take marks xs k a b)

pub cost_more : (pairs : List Triple) (plan : List Bool) (k : ℕ) (d : Triple) → k < length pairs → k < length plan →
    cost_of (chosen (take (k + 1) pairs) (take (k + 1) plan)) ≡ cost_of (chosen (take k pairs) (take k plan)) +ℤ cond (get_or plan k false) (get_or pairs k d).2 (pos 0)
cost_more pairs plan k d a b = rw add-one (cost_take pairs plan k d a b)

pub chosen_more : (pairs : List Triple) (plan : List Bool) (k : ℕ) (d : Triple) → k < length pairs → k < length plan →
    chosen (take (k + 1) pairs) (take (k + 1) plan) ≡ chosen (take k pairs) (take k plan) ++ cond (get_or plan k false) (get_or pairs k d ∷ []) []
chosen_more pairs plan k d a b = rw add-one (chosen_take pairs plan k d a b)
