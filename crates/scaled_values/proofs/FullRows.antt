-- A row that lists all objects lists them in order.
use Rattle.std.proofs.Common.{◌≡◌, ℕ, ℤ, pos, zero, suc, ◌<◌, ◌≤◌, ◌+◌, ◌-◌, List, [], ◌∷◌, length, get_or, map, arith, sym, ◌∙◌, ap}
use Rattle.std.proofs.lemmas.List.{get_or-map, length-map, same_lists}
use Rattle.assign_core.specs.declared.sense.Sense.{Sense}
use Rattle.assign_core.specs.Rows.{Listing, IsRising, IsWithin, IsRow}
use Rattle.assign_core.specs.Dense.{row_from}
use Rattle.assign_core.specs.Benefits.{benefit_row}
use Rattle.assign_core.proofs.BenefitRows.{length-benefit_row, IsRising-benefit_row, IsWithin-benefit_row}
use Rattle.assign_core.proofs.DenseRows.{length-row_from, row_from-index}

pub object_at_least : (n : ℕ) (row : Listing) (k : ℕ) (d : ℕ × ℤ) → IsRising row → IsWithin n row → k < length row → k + 1 ≤ (get_or row k d).0
object_at_least n row zero d rising within lt = let w = (within 0 d lt).first in omega arith
object_at_least n row (suc k) d rising within lt =
    let i = object_at_least n row k d rising within (omega arith) in
    let r = rising k (suc k) d (omega arith) lt in
    omega arith

pub object_at_most : (n : ℕ) (row : Listing) (m k : ℕ) (d : ℕ × ℤ) → IsRising row → IsWithin n row → k + m + 1 ≡ length row → (get_or row k d).0 + m ≤ n
object_at_most n row zero k d rising within e = let w = (within k d (omega arith)).last in omega arith
object_at_most n row (suc m) k d rising within e =
    let i = object_at_most n row m (suc k) d rising within (omega arith) in
    let r = rising k (suc k) d (omega arith) (omega arith) in
    omega arith

-- no more than n objects are listed
pub length-rising : (n : ℕ) (row : Listing) → IsRising row → IsWithin n row → length row ≤ n
length-rising n [] rising within = omega arith
length-rising n (e ∷ row) rising within =
    let low = object_at_least n (e ∷ row) (length row) e rising within (omega arith) in
    let high = (within (length row) e (omega arith)).last in
    omega arith

entry_is : (e f : ℕ × ℤ) (j : ℕ) (v : ℤ) → e.0 ≡ j → v ≡ e.1 → f ≡ (j, v) → e ≡ f
entry_is e f j v first second h = ap (λ k. (k, e.1)) first ∙ ap (λ z. (j, z)) (sym second) ∙ sym h

pub row_in_order : (n : ℕ) (row : Listing) → IsRising row → IsWithin n row → length row ≡ n → row ≡ row_from 1 (map (λ e. e.1) row)
row_in_order n row rising within long =
    let values : List ℤ = map (λ e. e.1) row in
    let size : length (map (λ e. e.1) row) ≡ length row = simp length-map in
    same_lists row (row_from 1 values) (sym (length-row_from 1 values ∙ size)) (λ k d lt.
    let low = object_at_least n row k d rising within lt in
    let high = object_at_most n row (length row - (k + 1)) k d rising within (omega arith) in
    let here : (get_or row k d).0 ≡ 1 + k = omega arith in
    let value = get_or-map (λ e. e.1) row k d (pos 0) lt in
    entry_is (get_or row k d) (get_or (row_from 1 values) k d) (1 + k) (get_or values k (pos 0)) here value (row_from-index 1 k values d (pos 0) (omega arith)))

-- the benefits of a full row
pub full_entries : (sense : Sense) (n : ℕ) (row : Listing) → IsRow n row → length row ≡ n →
    row_from 1 (map (λ e. e.1) (benefit_row sense n row)) ≡ benefit_row sense n row
full_entries sense n row h long =
    sym (row_in_order n (benefit_row sense n row) (IsRising-benefit_row sense n row h.rising)
    (IsWithin-benefit_row sense n n row h.within) (length-benefit_row sense n row ∙ long))
