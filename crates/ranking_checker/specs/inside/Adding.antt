-- Pairs that are added to others.
use Rattle.std.specs.Prelude.{◌≡◌, ◌⊎◌, ℕ, ◌<◌, List, Contains}
use Rattle.ranking_checker.specs.declared.pairs.Pair.{Pair}

-- at most one pair is added, and it is if it is one to keep
pub record Adds (Keep : Pair → Type 0) (p : Pair) (before after : List Pair) : Type 0 where
  pub stays : (q : Pair) → Contains before q → Contains after q
  pub came : (q : Pair) → Contains after q → Contains before q ⊎ (q ≡ p)
  pub has : Keep p → Contains after p

-- the same of so many pairs
pub record AddsFrom (Keep : Pair → Type 0) (S : ℕ → Pair) (count : ℕ) (before after : List Pair) : Type 0 where
  pub stays : (q : Pair) → Contains before q → Contains after q
  pub came : (q : Pair) → Contains after q → Contains before q ⊎ ((k : ℕ) × (k < count) × (q ≡ S k))
  pub has : (k : ℕ) → k < count → Keep (S k) → Contains after (S k)

-- pairs of so many rows of m alone, and among them those to keep
pub record AreOfRows (Keep : Pair → Type 0) (S : ℕ → ℕ → Pair) (rows m : ℕ) (ps : List Pair) : Type 0 where
  pub came : (q : Pair) → Contains ps q → (i : ℕ) × (j : ℕ) × (i < rows) × (j < m) × (q ≡ S i j)
  pub has : (i j : ℕ) → i < rows → j < m → Keep (S i j) → Contains ps (S i j)
