-- Answers fit into buffers with one place for each person.
use Rattle.std.proofs.Common.{ℕ, zero, suc, ◌<◌, ◌≤◌, ◌+◌, List, [], ◌∷◌, length, slice_index, ap, add-one, arith}
use Rattle.std.specs.List.{All}
use Rattle.std.specs.List.Sorted.{IsStrictlyIncreasing}
use Rattle.assign_core.specs.Numbered.{IsNumber}

-- of rising numbers from 1 on, the one at place k is above k
above_place : (xs : List ℕ) (n k : ℕ) → IsStrictlyIncreasing xs → All (IsNumber n) xs → k < length xs → k < slice_index xs k
above_place xs n zero rise within lt = (within 0 0 lt).first
above_place xs n (suc k) rise within lt =
    let before : k < slice_index xs k = above_place xs n k rise within (omega arith) in
    let up : slice_index xs k < slice_index xs (k + 1) = rise k (omega arith) in
    let next = ap (slice_index xs) (add-one k) in
    omega arith

-- there are at most n rising numbers from 1 to n
pub few_rise : (xs : List ℕ) (n : ℕ) → IsStrictlyIncreasing xs → All (IsNumber n) xs → length xs ≤ n
few_rise [] n rise within = omega arith
few_rise (x ∷ xs) n rise within =
    let last = above_place (x ∷ xs) n (length xs) rise within (omega arith) in
    let number = within (length xs) 0 (omega arith) in
    let most : slice_index (x ∷ xs) (length xs) ≤ n = number.last in
    omega arith
