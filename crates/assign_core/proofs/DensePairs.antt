-- The pairs of a dense problem.
use Rattle.std.proofs.Common.{◌≡◌, ℕ, ℤ, pos, ◌<◌, ◌≤◌, ◌+◌, ◌-◌, ◌*◌, ◌/◌, ◌%◌, zero, suc, List, [], ◌∷◌, Some}
use Rattle.std.proofs.Common.{length, get_or, take, drop, nat_eq, false, arith, ap, ◌∙◌, add-one, inl, inr, eq-eqb}
use Rattle.std.specs.List.{All}
use Rattle.std.proofs.lemmas.List.{length-drop, get_or-take, get_or-drop, drop-drop, length-take-le, get_or_default}
use Rattle.std.proofs.Math.Nat.{mul-le-mul_right, div-lt_iff_lt-mul}
use Rattle.std.proofs.lemmas.Bool.Decides.{eqb_tells}
use Rattle.assign_core.specs.Rows.{listed_in, row_of}
use Rattle.assign_core.specs.Dense.{row_from, rows_cut, dense_rows}
use Rattle.assign_core.proofs.DenseRows.{length-row_from, length-rows_cut, row_from-index}
use Rattle.assign_core.proofs.Listed.{listed_here, listed_later}

not_equal : (j k : ℕ) → nat_eq j (j + suc k) ≡ false
not_equal j k = elim (eqb_tells j (j + suc k)) [ inl e ↦ let h = e.1 in absurd (omega arith) | inr e ↦ e.0 ]

-- what a row gives for the object at a place
pub row_listed : (j k : ℕ) (costs : List ℤ) → k < length costs → listed_in (row_from j costs) (j + k) ≡ Some (get_or costs k (pos 0))
row_listed j k [] lt = absurd (omega arith)
row_listed j zero (c ∷ costs) lt = listed_here (j, c) (row_from (j + 1) costs) (j + 0) (eq-eqb j (j + 0) (omega arith))
row_listed j (suc k) (c ∷ costs) lt =
    let e : j + suc k ≡ j + 1 + k = omega arith in
    listed_later (j, c) (row_from (j + 1) costs) (j + suc k) (not_equal j k) ∙
    ap (listed_in (row_from (j + 1) costs)) e ∙ row_listed (j + 1) k costs (omega arith)

-- the row of a person
pub row_cut : (n m i : ℕ) (costs : List ℤ) → i < m → get_or (rows_cut n m costs) i [] ≡ row_from 1 (take n (drop (i * n) costs))
row_cut n zero i costs lt = absurd (omega arith)
row_cut n (suc m) zero costs lt = let e : 0 ≡ 0 * n = omega arith in ap (λ s. row_from 1 (take n (drop s costs))) e
row_cut n (suc m) (suc i) costs lt =
    let e : n + i * n ≡ suc i * n = omega arith in
    row_cut n m i (drop n costs) (omega arith) ∙ ap (λ l. row_from 1 (take n l)) (drop-drop (i * n) n costs ∙ ap (λ s. drop s costs) e)

pub dense_row : (n i : ℕ) (costs : List ℤ) → i < n → row_of (dense_rows n costs) (i + 1) ≡ row_from 1 (take n (drop (i * n) costs))
dense_row n i costs lt = rw add-one (row_cut n n i costs lt)

-- the costs of a person are n
part_length : (n i : ℕ) (costs : List ℤ) → length costs ≡ n * n → i < n → length (take n (drop (i * n) costs)) ≡ n
part_length n i costs l lt =
    let m : suc i * n ≤ n * n = mul-le-mul_right n lt in
    let d : length (drop (i * n) costs) ≡ length costs - i * n = length-drop (i * n) costs in
    length-take-le n (drop (i * n) costs) (omega arith)

part_at : (n i j : ℕ) (costs : List ℤ) → j < n → get_or (take n (drop (i * n) costs)) j (pos 0) ≡ get_or costs (i * n + j) (pos 0)
part_at n i j costs lt = get_or-take n (drop (i * n) costs) j (pos 0) lt ∙ get_or-drop (i * n) costs j (pos 0)

pub dense_entry : (n i j : ℕ) (costs : List ℤ) → length costs ≡ n * n → i < n → j < n →
    get_or (row_of (dense_rows n costs) (i + 1)) j (0, pos 0) ≡ (j + 1, get_or costs (i * n + j) (pos 0))
dense_entry n i j costs l h k =
    let p = part_length n i costs l h in
    let e : 1 + j ≡ j + 1 = omega arith in
    ap (λ r. get_or r j (0, pos 0)) (dense_row n i costs h)
    ∙ row_from-index 1 j (take n (drop (i * n) costs)) (0, pos 0) (pos 0) (omega arith)
    ∙ ap (λ c. (1 + j, c)) (part_at n i j costs k)
    ∙ ap (λ o. (o, get_or costs (i * n + j) (pos 0))) e

pub dense_listed : (n i j : ℕ) (costs : List ℤ) → length costs ≡ n * n → i < n → j < n →
    listed_in (row_of (dense_rows n costs) (i + 1)) (j + 1) ≡ Some (get_or costs (i * n + j) (pos 0))
dense_listed n i j costs l h k =
    let p = part_length n i costs l h in
    let e : j + 1 ≡ 1 + j = omega arith in
    ap (λ r. listed_in r (j + 1)) (dense_row n i costs h)
    ∙ ap (listed_in (row_from 1 (take n (drop (i * n) costs)))) e
    ∙ row_listed 1 j (take n (drop (i * n) costs)) (omega arith)
    ∙ ap (λ c. Some c) (part_at n i j costs k)

pub dense_place : (n k : ℕ) (costs : List ℤ) → length costs ≡ n * n → k < n * n →
    listed_in (row_of (dense_rows n costs) (k / n + 1)) (k % n + 1) ≡ Some (get_or costs k (pos 0))
dense_place zero k costs l lt = absurd (omega arith)
dense_place (suc m) k costs l lt =
    let n : ℕ = suc m in
    let i : k / n < n = (div-lt_iff_lt-mul {k = n} {x = k} {y = n} (omega arith)).1 lt in
    let j : k % n < n = omega arith in
    let e : k / n * n + k % n ≡ k = omega arith in
    dense_listed n (k / n) (k % n) costs l i j ∙ ap (λ p. Some (get_or costs p (pos 0))) e

pub dense_widths : (n : ℕ) (costs : List ℤ) → length costs ≡ n * n → All (λ row. length row ≡ n) (dense_rows n costs)
dense_widths n costs l k d lt =
    let k_below : k < n = (let e = length-rows_cut n n costs in omega arith) in
    ap length (get_or_default (dense_rows n costs) k d [] lt ∙ row_cut n n k costs k_below)
    ∙ length-row_from 1 (take n (drop (k * n) costs))
    ∙ part_length n k costs l k_below
