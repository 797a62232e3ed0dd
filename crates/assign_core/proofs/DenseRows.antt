-- Dense problems: rows cut from a list of costs.
use Rattle.std.proofs.Common.{◌≡◌, ℕ, ℤ, pos, ◌<◌, ◌≤◌, ◌+◌, ◌-◌, ◌*◌, zero, suc, List, [], ◌∷◌, ◌++◌, length, drop}
use Rattle.std.proofs.Common.{take, get_or, map, refl, arith, sym, ◌∙◌, ap, append_assoc, length-take-le}
use Rattle.std.proofs.Common.{length-drop, subst}
use Rattle.std.proofs.lemmas.List.{map-append}
use Rattle.std.specs.List.{All}
use Rattle.std.proofs.lemmas.List.Elements.{All-nil, All-cons, All-take, All-drop}
use Rattle.assign_core.specs.Rows.{Listing, IsCost, IsRow, IsSize, IsProblem}
use Rattle.assign_core.specs.Dense.{row_from, rows_cut}

pub length-row_from : (j : ℕ) (costs : List ℤ) → length (row_from j costs) ≡ length costs
length-row_from j [] = refl
length-row_from j (c ∷ costs) = ap suc (length-row_from (j + 1) costs)

-- one more cost
pub row_from-push : (j : ℕ) (costs : List ℤ) (c : ℤ) → row_from j (costs ++ c ∷ []) ≡ row_from j costs ++ (j + length costs, c) ∷ []
row_from-push j [] c = ap (λ k. (k, c) ∷ []) (omega arith)
row_from-push j (d ∷ costs) c =
    ap (λ r. (j, d) ∷ r) (row_from-push (j + 1) costs c ∙ ap (λ k. row_from (j + 1) costs ++ (k, c) ∷ []) (omega arith))

-- entry i is of object j + i, at cost number i
pub row_from-index : (j i : ℕ) (costs : List ℤ) (d : ℕ × ℤ) (z : ℤ) → i < length costs → get_or (row_from j costs) i d ≡ (j + i, get_or costs i z)
row_from-index j i [] d z lt = absurd (omega arith)
row_from-index j zero (c ∷ costs) d z lt = ap (λ k. (k, c)) (omega arith)
row_from-index j (suc i) (c ∷ costs) d z lt =
    row_from-index (j + 1) i costs d z (omega arith) ∙ ap (λ k. (k, get_or costs i z)) (omega arith)

-- the costs of n objects or fewer are a row
pub IsRow-row_from : (n : ℕ) (costs : List ℤ) → length costs ≤ n → All IsCost costs → IsRow n (row_from 1 costs)
IsRow-row_from n costs few h =
    let long = length-row_from 1 costs in
    record {
      rising = λ i k d lt last.
          let at = row_from-index 1 i costs d (pos 0) (omega arith) in
          let above = row_from-index 1 k costs d (pos 0) (omega arith) in
          rw (at, above) (omega arith);
      within = λ k d lt.
          let at = row_from-index 1 k costs d (pos 0) (omega arith) in
          rw at (record { first = omega arith; last = omega arith });
      costs = λ k d lt.
          let at = row_from-index 1 k costs d (pos 0) (omega arith) in
          rw at (h k (pos 0) (omega arith));
    }

pub length-rows_cut : (n m : ℕ) (costs : List ℤ) → length (rows_cut n m costs) ≡ m
length-rows_cut n zero costs = refl
length-rows_cut n (suc m) costs = ap suc (length-rows_cut n m (drop n costs))

rows_are : (n m : ℕ) (costs : List ℤ) → n * m ≤ length costs → All IsCost costs → All (IsRow n) (rows_cut n m costs)
rows_are n zero costs enough h = All-nil (IsRow n)
rows_are n (suc m) costs enough h =
    let less : n * suc m ≡ n + n * m = omega arith in
    let front : length (take n costs) ≡ n = length-take-le n costs (omega arith) in
    let back = length-drop n costs in
    All-cons (IsRow n) (row_from 1 (take n costs)) (rows_cut n m (drop n costs))
    (IsRow-row_from n (take n costs) (omega arith) (All-take IsCost n costs h))
    (rows_are n m (drop n costs) (omega arith) (All-drop IsCost n costs h))

-- n * n costs make a problem
pub IsProblem-dense : (n : ℕ) (costs : List ℤ) → IsSize n → length costs ≡ n * n → All IsCost costs → IsProblem (rows_cut n n costs)
IsProblem-dense n costs size long h =
    let same = length-rows_cut n n costs in
    record {
      size = rw same size;
      each = let cut = rows_are n n costs (omega arith) h in subst (λ m. All (IsRow m) (rows_cut n n costs)) (sym same) cut;
    }

-- one row is cut off
pub rows_cut-step : (w n k : ℕ) (costs : List ℤ) → k < n → rows_cut w (n - k) costs ≡ row_from 1 (take w costs) ∷ rows_cut w (n - (k + 1)) (drop w costs)
rows_cut-step w n k costs lt = let e : n - k ≡ suc (n - (k + 1)) = omega arith in ap (λ m. rows_cut w m costs) e

-- a row moves from those to come to those that stand
pub rows_moved : {V : Type 0} (f : V → Listing) (vs : List V) (v : V) (row : Listing) (rest : List Listing) →
    f v ≡ row → map f (vs ++ v ∷ []) ++ rest ≡ map f vs ++ (row ∷ rest)
rows_moved f vs v row rest e =
    ap (λ l. l ++ rest) (map-append f vs (v ∷ []))
    ∙ append_assoc (map f vs) (f v ∷ []) rest
    ∙ ap (λ r. map f vs ++ (r ∷ rest)) e

-- what is left after a row
pub less_left : (w n k : ℕ) → k < n → (n - k) * w ≡ w + (n - (k + 1)) * w
less_left w n k lt = let e : n - k ≡ (n - (k + 1)) + 1 = omega arith in rw e (omega arith)
