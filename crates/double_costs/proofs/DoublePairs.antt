-- The pairs of rows of doubles.
use Rattle.std.proofs.Common.{◌≡◌, ℕ, ℤ, ◌<◌, ◌≤◌, ◌+◌, ◌-◌, ◌*◌, zero, suc, List, [], ◌∷◌, Option, None, Some}
use Rattle.std.proofs.Common.{length, get_or, take, drop, nat_eq, false, arith, refl, ap, ◌∙◌, add-one, inl, inr}
use Rattle.std.proofs.Common.{eq-eqb}
use Rattle.std.specs.List.{All}
use Rattle.std.proofs.lemmas.List.{length-drop, get_or-take, get_or-drop, drop-drop, length-take-le}
use Rattle.std.proofs.lemmas.List.Elements.{All-nil, All-cons}
use Rattle.std.proofs.lemmas.Bool.Decides.{eqb_tells}
use lib.Ieee.{Float, nan}
use Rattle.assign_core.specs.Numbered.{IsNumber}
use Rattle.assign_core.specs.Rows.{Listing, IsWithin, listed_in, row_of}
use Rattle.assign_core.proofs.Listed.{listed_here, listed_later}
use Rattle.cost_lists.specs.Given.{with_cost}
use Rattle.double_costs.specs.DoubleRows.{cost_in, row_of_doubles, rows_of_doubles}

pub length-rows_of_doubles : (m n : ℕ) (costs : List Float) → length (rows_of_doubles m n costs) ≡ n
length-rows_of_doubles m zero costs = refl
length-rows_of_doubles m (suc n) costs = ap suc (length-rows_of_doubles m n (drop m costs))

not_equal : (j k : ℕ) → j < k → nat_eq j k ≡ false
not_equal j k h = elim (eqb_tells j k) [ inl e ↦ let g = e.1 in absurd (omega arith) | inr e ↦ e.0 ]

-- an object in front of a row
front_listed : (j : ℕ) (c : Option ℤ) (row : Listing) → listed_in row j ≡ None → listed_in (with_cost j c row) j ≡ c
front_listed j None row h = h
front_listed j (Some a) row h = listed_here (j, a) row j (eq-eqb j j refl)

later_listed : (j k : ℕ) (c : Option ℤ) (row : Listing) → j < k → listed_in (with_cost j c row) k ≡ listed_in row k
later_listed j k None row h = refl
later_listed j k (Some a) row h = listed_later (j, a) row k (not_equal j k h)

none_in_front : (j k : ℕ) (o : Option ℤ) (row : Listing) → j < k → listed_in row j ≡ None →
    listed_in (with_cost k o row) j ≡ None
none_in_front j k None row h e = e
none_in_front j k (Some a) row h e = listed_later (k, a) row j
    (elim (eqb_tells k j) [ inl s ↦ let g = s.1 in absurd (omega arith) | inr d ↦ d.0 ]) ∙ e

-- no object before the first one
none_before : (j k : ℕ) (costs : List Float) → j < k → listed_in (row_of_doubles k costs) j ≡ None
none_before j k [] h = refl
none_before j k (c ∷ costs) h = none_in_front j k (cost_in c) (row_of_doubles (k + 1) costs) h
    (none_before j (k + 1) costs (omega arith))

-- what a row gives for the object at a place
pub place_listed : (j k : ℕ) (costs : List Float) → k < length costs →
    listed_in (row_of_doubles j costs) (j + k) ≡ cost_in (get_or costs k nan)
place_listed j k [] lt = absurd (omega arith)
place_listed j zero (c ∷ costs) lt =
    ap (listed_in (with_cost j (cost_in c) (row_of_doubles (j + 1) costs))) (the_same j)
    ∙ front_listed j (cost_in c) (row_of_doubles (j + 1) costs) (none_before j (j + 1) costs (omega arith))
  where
    the_same : (i : ℕ) → i + 0 ≡ i
    the_same i = omega arith
place_listed j (suc k) (c ∷ costs) lt =
    let e : j + suc k ≡ j + 1 + k = omega arith in
    later_listed j (j + suc k) (cost_in c) (row_of_doubles (j + 1) costs) (omega arith)
    ∙ ap (listed_in (row_of_doubles (j + 1) costs)) e ∙ place_listed (j + 1) k costs (omega arith)

-- the row of a person
pub row_at : (m n i : ℕ) (costs : List Float) → i < n → get_or (rows_of_doubles m n costs) i [] ≡ row_of_doubles 1
    (take m (drop (i * m) costs))
row_at m zero i costs lt = absurd (omega arith)
row_at m (suc n) zero costs lt = let e : 0 ≡ 0 * m = omega arith in ap (λ s. row_of_doubles 1 (take m (drop s costs))) e
row_at m (suc n) (suc i) costs lt =
    let e : m + i * m ≡ suc i * m = omega arith in
    row_at m n i (drop m costs) (omega arith) ∙ ap (λ l. row_of_doubles 1 (take m l)) (drop-drop (i * m) m costs
    ∙ ap (λ s. drop s costs) e)

below_end : (i n m : ℕ) → i < n → i * m + m ≤ n * m
below_end i zero m lt = absurd (omega arith)
below_end zero (suc n) m lt = omega arith
below_end (suc i) (suc n) m lt = let h = below_end i n m (omega arith) in omega arith

-- the costs of a person are m
pub part_length : (n m i : ℕ) (costs : List Float) → length costs ≡ n * m → i < n →
    length (take m (drop (i * m) costs)) ≡ m
part_length n m i costs l lt =
    let h = below_end i n m lt in
    let d : length (drop (i * m) costs) ≡ length costs - i * m = length-drop (i * m) costs in
    length-take-le m (drop (i * m) costs) (omega arith)

pub double_listed : (n m : ℕ) (costs : List Float) (i j : ℕ) → length costs ≡ n * m → i < n → j < m →
    listed_in (row_of (rows_of_doubles m n costs) (i + 1)) (j + 1) ≡ cost_in (get_or costs (i * m + j) nan)
double_listed n m costs i j l h k =
    let p = part_length n m i costs l h in
    let e : j + 1 ≡ 1 + j = omega arith in
    let r : row_of (rows_of_doubles m n costs) (i + 1) ≡ row_of_doubles 1 (take m (drop (i * m) costs)) = rw add-one
    (row_at m n i costs h) in
    ap (λ row. listed_in row (j + 1)) r
    ∙ ap (listed_in (row_of_doubles 1 (take m (drop (i * m) costs)))) e
    ∙ place_listed 1 j (take m (drop (i * m) costs)) (omega arith)
    ∙ ap cost_in (get_or-take m (drop (i * m) costs) j nan k ∙ get_or-drop (i * m) costs j nan)

within_in_front : (j m : ℕ) (o : Option ℤ) (row : Listing) → IsNumber m j → IsWithin m row →
    IsWithin m (with_cost j o row)
within_in_front j m None row n h = h
within_in_front j m (Some a) row n h = All-cons (λ e. IsNumber m e.0) (j, a) row n h

length-take_most : (m : ℕ) (costs : List Float) → length (take m costs) ≤ m
length-take_most zero costs = omega arith
length-take_most (suc m) [] = omega arith
length-take_most (suc m) (c ∷ costs) = let i = length-take_most m costs in omega arith

-- a row from object j on lists none beyond the last
pub row_within : (j m : ℕ) (costs : List Float) → 0 < j → j + length costs ≤ m + 1 → IsWithin m (row_of_doubles j costs)
row_within j m [] first last = All-nil (λ e. IsNumber m e.0)
row_within j m (c ∷ costs) first last =
    within_in_front j m (cost_in c) (row_of_doubles (j + 1) costs) (record { first = first; last = omega arith })
    (row_within (j + 1) m costs (omega arith) (omega arith))

pub doubles_within : (m n : ℕ) (costs : List Float) → All (IsWithin m) (rows_of_doubles m n costs)
doubles_within m zero costs = All-nil (IsWithin m)
doubles_within m (suc n) costs =
    All-cons (IsWithin m) (row_of_doubles 1 (take m costs)) (rows_of_doubles m n (drop m costs))
    (row_within 1 m (take m costs) (omega arith) (let s = length-take_most m costs in omega arith))
    (doubles_within m n (drop m costs))
