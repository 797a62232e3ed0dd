-- Rows of a list of rows, by number and by what they list.
use Rattle.std.proofs.Common.{◌≡◌, ℕ, ◌<◌, ◌≤◌, ◌-◌, zero, suc, List, [], ◌∷◌, length, get_or, map, arith, sym, ◌∙◌, ap, inl, inr}
use Rattle.std.specs.List.{All}
use Rattle.std.proofs.lemmas.Int.{ints}
use Rattle.std.proofs.lemmas.List.{get_or-map, length-map}
use Rattle.std.proofs.lemmas.List.Elements.{All-head, All-tail, All-weaker}
use Rattle.std.proofs.lemmas.Bool.Decides.{eqb_tells}
use Rattle.assign_core.proofs.Listed.{listed_here, listed_later}
use Rattle.assign_core.specs.Rows.{Listing, listed_or_zero, row_of, HasCosts, IsCost, IsRising, IsRow}

-- a listed cost is in range, and so is 0
pub IsCost-listed : (row : Listing) (j : ℕ) → HasCosts row → IsCost (listed_or_zero row j)
IsCost-listed [] j h = record { least = omega (arith, ints); greatest = omega (arith, ints) }
IsCost-listed (e ∷ row) j h = elim (eqb_tells e.0 j) [
  | inl s ↦ rw (listed_here e row j s.0) (All-head (λ f. IsCost f.1) e row h)
  | inr s ↦ rw (listed_later e row j s.0) (IsCost-listed row j (All-tail (λ f. IsCost f.1) e row h))
]

-- row number i, where i is at least 1
pub row_of-index : (rows : List Listing) (i : ℕ) → 0 < i → row_of rows i ≡ get_or rows (i - 1) []
row_of-index rows zero h = absurd (omega arith)
row_of-index rows (suc i) h = ap (λ k. get_or rows k []) (omega arith)

-- a row of the mapped list, as an index and a slice give it
pub mapped_at : {V : Type 0} (f : V → Listing) (vs : List V) (i : ℕ) (v : V) (row : Listing) → i < length vs →
    v ≡ get_or vs i v → row ≡ f v → row ≡ get_or (map f vs) i []
mapped_at f vs i v row lt e r = r ∙ ap f e ∙ sym (get_or-map f vs i v [] lt)

-- the same by number, with the rows as a problem shows them
pub row_of-mapped : {V : Type 0} (f : V → Listing) (vs : List V) (rows : List Listing) (i : ℕ) (v : V)
    (row : Listing) → map f vs ≡ rows → 0 < i → i ≤ length rows → v ≡ get_or vs (i - 1) v → row ≡ f v →
    row ≡ row_of rows i
row_of-mapped f vs rows i v row shown some last e r =
    let long = ap length shown in
    let same : length (map f vs) ≡ length vs = simp length-map in
    let lt : i - 1 < length vs = omega arith in
    mapped_at f vs (i - 1) v row lt e r ∙ ap (λ l. get_or l (i - 1) []) shown ∙ sym (row_of-index rows i some)

-- each row of a problem, by number
pub IsRow-row_of : (n : ℕ) (rows : List Listing) (i : ℕ) → All (IsRow n) rows → 0 < i → i ≤ length rows → IsRow n (row_of rows i)
IsRow-row_of n rows zero h some last = absurd (omega arith)
IsRow-row_of n rows (suc i) h some last = let lt : i < length rows = omega arith in h i [] lt

pub length-mapped : {V : Type 0} (f : V → Listing) (vs : List V) (rows : List Listing) → map f vs ≡ rows → length vs ≡ length rows
length-mapped f vs rows e = let same : length (map f vs) ≡ length vs = simp length-map in sym same ∙ ap length e

pub HasCosts-rows : (n : ℕ) (rows : List Listing) → All (IsRow n) rows → All HasCosts rows
HasCosts-rows n rows h = All-weaker (IsRow n) HasCosts (λ r k. k.costs) rows h

pub IsRising-rows : (n : ℕ) (rows : List Listing) → All (IsRow n) rows → All IsRising rows
IsRising-rows n rows h = All-weaker (IsRow n) IsRising (λ r k. k.rising) rows h

-- a row that is read by number
pub record IsRead (rows : List Listing) (i : ℕ) (row : Listing) : Type 0 where
  pub first : 0 < i
  pub last : i ≤ length rows
  pub here : row ≡ row_of rows i

-- a row that is read at its place is read by number
pub read_at : {V : Type 0} (f : V → Listing) (vs : List V) (rows : List Listing) (i k : ℕ) (v : V) (row : Listing) →
    map f vs ≡ rows → 0 < i → k ≡ i - 1 → k < length vs → v ≡ get_or vs k v → row ≡ f v → IsRead rows i row
read_at f vs rows i k v row shown some place lt e r =
    let long = length-mapped f vs rows shown in
    let last : i ≤ length rows = omega arith in
    record { first = some; last = last; here = row_of-mapped f vs rows i v row shown some last (e ∙ ap (λ m. get_or vs m v) place) r }
