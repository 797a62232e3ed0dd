-- Weak duality: no assignment is better than one with slackness eps by more than eps for each
-- person.
use Rattle.std.proofs.Common.{◌≡◌, ℕ, ℤ, pos, ◌+ℤ◌, ◌*ℤ◌, ◌≤ℤ◌, ◌<ℤ◌, ◌≤◌, ◌+◌, ◌-◌, ◌*◌, suc, List, [], ◌∷◌}
use Rattle.std.proofs.Common.{unwrap_or, IsSome, length, map, refl, arith, rules, ap, sym, ◌∙◌, subst, inl, inr}
use Rattle.std.proofs.Common.{add-one}
use Rattle.std.proofs.lemmas.Int.{ints, by_lt_z}
use Rattle.std.proofs.lemmas.List.Elements.{All-weaker}
use Rattle.std.proofs.lemmas.Bool.Decides.{eqb_tells}
use lib.IntN.{*ℤ-zero}
use borrow.Author.Differences.{up, down}
use Rattle.std.proofs.lemmas.Slice.Zip.{AllZip-long}
use Rattle.assign_core.specs.declared.sense.Sense.{Sense}
use Rattle.assign_core.specs.declared.sense.Sense.TheVariants.{Min, Max}
use Rattle.assign_core.specs.Rows.{Listing, listed_in, listed_or_zero, IsProblem, IsRow, IsWithin}
use Rattle.assign_core.specs.Assignment.{AreListed, IsAssignment, IsBest, IsNoWorse, total}
use Rattle.assign_core.specs.Benefits.{factor, benefit, benefit_row, benefit_rows}
use Rattle.assign_core.specs.Slackness.{AllSlack, IsWorth}
use Rattle.assign_core.specs.Prices.{price_of}
use Rattle.assign_core.proofs.Products.{distributes, opposite}
use Rattle.assign_core.proofs.Distinct.{sum_z, sums_agree}
use Rattle.assign_core.proofs.Listed.{all_listed, listed_here, listed_later, objects_within}

-- an object is listed with a benefit where it is listed with a cost
pub benefit_listed : (sense : Sense) (n : ℕ) (row : Listing) (j : ℕ) → IsSome (listed_in row j) → IsSome (listed_in (benefit_row sense n row) j)
benefit_listed sense n [] j s = s
benefit_listed sense n (e ∷ row) j s = elim (eqb_tells e.0 j) [
  | inl t ↦ rw (listed_here (e.0, benefit sense n e.1) (benefit_row sense n row) j t.0) (search rules)
  | inr t ↦
      rw (listed_later (e.0, benefit sense n e.1) (benefit_row sense n row) j t.0)
      (benefit_listed sense n row j (rw (listed_later e row j t.0) at s))
]

pub benefit_value : (sense : Sense) (n : ℕ) (row : Listing) (j : ℕ) → listed_or_zero (benefit_row sense n row) j ≡ factor sense n *ℤ listed_or_zero row j
benefit_value sense n [] j = sym (*ℤ-zero (factor sense n))
benefit_value sense n (e ∷ row) j = elim (eqb_tells e.0 j) [
  | inl t ↦
      ap (λ o. unwrap_or o (pos 0)) (listed_here (e.0, benefit sense n e.1) (benefit_row sense n row) j t.0)
      ∙ ap (λ o. factor sense n *ℤ unwrap_or o (pos 0)) (sym (listed_here e row j t.0))
  | inr t ↦
      ap (λ o. unwrap_or o (pos 0)) (listed_later (e.0, benefit sense n e.1) (benefit_row sense n row) j t.0)
      ∙ benefit_value sense n row j
      ∙ ap (λ o. factor sense n *ℤ unwrap_or o (pos 0)) (sym (listed_later e row j t.0))
]

all_benefit_listed : (sense : Sense) (n : ℕ) (rows : List Listing) (xs : List ℕ) → AreListed rows xs →
    AreListed (map (benefit_row sense n) rows) xs
all_benefit_listed sense n [] [] h = tt
all_benefit_listed sense n [] (x ∷ xs) h = absurd h
all_benefit_listed sense n (row ∷ rows) [] h = absurd h
all_benefit_listed sense n (row ∷ rows) (x ∷ xs) h = (benefit_listed sense n row x h.0, all_benefit_listed sense n rows xs h.1)

-- the sum of the benefits is the sum of the costs times the factor
pub benefit_total : (sense : Sense) (n : ℕ) (rows : List Listing) (xs : List ℕ) → total (map (benefit_row sense n) rows) xs ≡ factor sense n *ℤ total rows xs
benefit_total sense n [] xs = sym (*ℤ-zero (factor sense n))
benefit_total sense n (row ∷ rows) [] = sym (*ℤ-zero (factor sense n))
benefit_total sense n (row ∷ rows) (x ∷ xs) =
    let b = benefit_value sense n row x in
    let t = benefit_total sense n rows xs in
    let d = distributes (factor sense n) (listed_or_zero row x) (total rows xs) in
    ap (λ z. z +ℤ total (map (benefit_row sense n) rows) xs) b ∙ ap (λ z. (factor sense n *ℤ listed_or_zero row x) +ℤ z) t ∙ sym d

-- eps for each row
abbrev sum_eps : ℤ → List Listing → ℤ
sum_eps eps [] = pos 0
sum_eps eps (row ∷ rows) = sum_eps eps rows +ℤ eps

-- the sum over the rows
weak : (eps : ℤ) (prices : List ℤ) (rows : List Listing) (xs ys : List ℕ) → AllSlack eps prices rows xs →
    AreListed rows ys →
    (total rows ys +ℤ sum_z (price_of prices) xs) ≤ℤ (total rows xs +ℤ sum_z (price_of prices) ys +ℤ sum_eps eps rows)
weak eps prices [] [] [] k g = omega (arith, ints)
weak eps prices [] [] (y ∷ ys) k g = absurd g
weak eps prices [] (x ∷ xs) ys k g = absurd k
weak eps prices (row ∷ rows) [] ys k g = absurd k
weak eps prices (row ∷ rows) (x ∷ xs) [] k g = absurd g
weak eps prices (row ∷ rows) (x ∷ xs) (y ∷ ys) k g =
    let h : (listed_or_zero row y +ℤ price_of prices x) ≤ℤ (listed_or_zero row x +ℤ price_of prices y +ℤ eps) =
    all_listed (IsWorth eps prices row x) row y k.0 g.0 in
    let i = weak eps prices rows xs ys k.1 g.1 in
    omega (arith, ints)

sum_eps_one : (sense : Sense) (n : ℕ) (rows : List Listing) → sum_eps (pos 1) (map (benefit_row sense n) rows) ≡ pos (length rows)
sum_eps_one sense n [] = refl
sum_eps_one sense n (row ∷ rows) = let i = sum_eps_one sense n rows in omega (arith, ints)

beyond : (n : ℕ) (a b : ℤ) → b <ℤ a → (pos (suc n) *ℤ a) ≤ℤ (pos (suc n) *ℤ b +ℤ pos n) → ⊥
beyond n a b lt h =
    let k : ℕ = up a + down b - (up b + down a + 1) in
    let e : a ≡ b +ℤ pos (k + 1) = omega (arith, ints) in
    let m : pos (suc n) *ℤ a ≡ (pos (suc n) *ℤ b) +ℤ (pos (suc n) *ℤ pos (k + 1)) = ap (λ z. pos (suc n) *ℤ z) e ∙ distributes (pos (suc n)) b (pos (k + 1)) in
    let q : pos (suc n) *ℤ pos (k + 1) ≡ pos (suc n * (k + 1)) = refl in
    let t : n + 1 ≤ suc n * (k + 1) = omega arith in
    omega (arith, ints)

-- two whole numbers are in order if their multiples are, up to less than one step
least_step : (n : ℕ) (a b : ℤ) → (pos (suc n) *ℤ a) ≤ℤ (pos (suc n) *ℤ b +ℤ pos n) → a ≤ℤ b
least_step n a b h = by_lt_z {P = a ≤ℤ b} b a (λ lt. absurd (beyond n a b lt h)) (λ le. le)

-- if benefits are in order up to less than one step, so are the costs
ordered : (sense : Sense) (n : ℕ) (a b : ℤ) → (factor sense n *ℤ b) ≤ℤ (factor sense n *ℤ a +ℤ pos n) → IsNoWorse sense a b
ordered Min n a b h =
    let x = opposite n a in
    let y = opposite n b in
    least_step n a b (omega (arith, ints))
ordered Max n a b h = least_step n b a (subst (λ s. (s *ℤ b) ≤ℤ (s *ℤ a +ℤ pos n)) (ap pos (add-one n)) h)

pub no_better : (sense : Sense) (rows : List Listing) (xs : List ℕ) (prices : List ℤ) → IsProblem rows → IsAssignment rows xs →
    AllSlack (pos 1) prices (benefit_rows sense rows) xs → (ys : List ℕ) → IsAssignment rows ys → IsNoWorse sense (total rows xs) (total rows ys)
no_better sense rows xs prices p f k ys g =
    let n : ℕ = length rows in
    let w = All-weaker (IsRow n) (IsWithin n) (λ r h. h.within) rows p.each in
    let a = objects_within n rows xs w f.listed in
    let b = objects_within n rows ys w g.listed in
    let listed = λ (row : Listing) (j : ℕ). IsSome (listed_in row j) in
    let la : length xs ≡ n = AllZip-long listed rows xs f.listed in
    let lb : length ys ≡ n = AllZip-long listed rows ys g.listed in
    let same = sums_agree (price_of prices) n xs ys f.apart g.apart a b la lb in
    let d = weak (pos 1) prices (benefit_rows sense rows) xs ys k (all_benefit_listed sense n rows ys g.listed) in
    let e = sum_eps_one sense n rows in
    let tx = benefit_total sense n rows xs in
    let ty = benefit_total sense n rows ys in
    ordered sense n (total rows xs) (total rows ys) (omega (arith, ints))

-- an assignment with slackness is optimal
pub best_by_slack : (sense : Sense) (rows : List Listing) (xs : List ℕ) (prices : List ℤ) → IsProblem rows → IsAssignment rows xs →
    AllSlack (pos 1) prices (benefit_rows sense rows) xs → IsBest sense rows xs
best_by_slack sense rows xs prices p f k = record { assigned = f; best = no_better sense rows xs prices p f k }
