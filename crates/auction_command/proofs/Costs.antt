-- The costs that a report gives, one person at a time.
use Rattle.std.proofs.Common.{◌≡◌, ℕ, ℤ, pos, zero, suc, ◌+◌, ◌<◌, ◌≤◌, ◌+ℤ◌, List, [], ◌∷◌, IsSome, length, drop}
use Rattle.std.proofs.Common.{get_or, unwrap_or, arith, sym, ap, ◌∙◌, subst, refl, add-one}
use Rattle.std.proofs.lemmas.List.{length-map}
use Rattle.assign_core.specs.Rows.{Listing, IsCost, IsProblem, listed_in}
use Rattle.assign_core.specs.Assignment.{AreListed, total}
use Rattle.assign_core.proofs.Listed.{entry_found, length_zip}
use Rattle.assign_core.proofs.Zips.{zip_at}
use Rattle.auction_command.specs.Findings.{HasCost, HaveCosts, objects_of}

-- a cost that a pair has is in range
pub cost_at : (rows : List Listing) (pairs : List (ℕ × ℤ)) (i : ℕ) (e : ℕ × ℤ) → IsProblem rows →
    HaveCosts rows pairs → i < length pairs → e ≡ get_or pairs i e → IsCost e.1
cost_at rows pairs i e problem have lt is =
    let long = length_zip HasCost rows pairs have in
    let at = zip_at HasCost rows pairs i [] e have (omega arith) in
    rw is (entry_found (λ f. IsCost f.1) (get_or rows i []) _ _ (problem.each i [] (omega arith)).costs at)

total_suc : (rows : List Listing) (pairs : List (ℕ × ℤ)) (i : ℕ) (d : ℕ × ℤ) → HaveCosts rows pairs → i < length pairs →
    total (drop i rows) (drop i (objects_of pairs)) ≡ (get_or pairs i d).1 +ℤ total (drop (suc i) rows) (drop (suc i) (objects_of pairs))
total_suc [] [] i d have lt = absurd (omega arith)
total_suc [] (e ∷ pairs) i d have lt = absurd have
total_suc (row ∷ rows) [] i d have lt = absurd (omega arith)
total_suc (row ∷ rows) (e ∷ pairs) zero d have lt = ap (λ o. unwrap_or o (pos 0) +ℤ total rows (objects_of pairs)) have.0
total_suc (row ∷ rows) (e ∷ pairs) (suc i) d have lt = total_suc rows pairs i d have.1 (omega arith)

-- the cost of a pair and the total after it
pub total_more : (rows : List Listing) (pairs : List (ℕ × ℤ)) (i : ℕ) (e : ℕ × ℤ) → HaveCosts rows pairs → i < length pairs → e ≡ get_or pairs i e →
    total (drop i rows) (drop i (objects_of pairs)) ≡ e.1 +ℤ total (drop (i + 1) rows) (drop (i + 1) (objects_of pairs))
total_more rows pairs i e have lt is = subst (λ f. total (drop i rows) (drop i (objects_of pairs)) ≡ f.1 +ℤ total
    (drop (i + 1) rows) (drop (i + 1) (objects_of pairs))) (sym is) (rw add-one (total_suc rows pairs i e have lt))

no_objects : (rows : List Listing) → total rows [] ≡ pos 0
no_objects [] = refl
no_objects (row ∷ rows) = refl

pub total_past : (rows : List Listing) (xs : List ℕ) (i : ℕ) → length rows ≤ i → total (drop i rows) (drop i xs) ≡ pos 0
total_past [] xs zero past = refl
total_past [] xs (suc i) past = refl
total_past (row ∷ rows) xs zero past = absurd (omega arith)
total_past (row ∷ rows) [] (suc i) past = no_objects (drop i rows)
total_past (row ∷ rows) (x ∷ xs) (suc i) past = total_past rows xs i (omega arith)

-- if the objects of pairs are an assignment, there are as many pairs as persons
pub as_many : (rows : List Listing) (pairs : List (ℕ × ℤ)) (xs : List ℕ) → xs ≡ objects_of pairs → AreListed rows xs → length pairs ≡ length rows
as_many rows pairs xs is listed =
    sym (ap length is ∙ length-map pairs (λ e. e.0)) ∙ sym (length_zip (λ row j. IsSome (listed_in row j)) rows xs listed)
