-- The first of pairs, by their first numbers and then by their second ones.
use Rattle.std.specs.Prelude.{◌≡◌, ℕ, ◌<◌, ◌≤◌, ◌⊎◌, Option, None, Some}

-- the first pair doesn't come after the second
abbrev pub IsUpTo : ℕ × ℕ → ℕ × ℕ → Type 0
IsUpTo p q = (p.0 < q.0) ⊎ ((p.0 ≡ q.0) × (p.1 ≤ q.1))

-- the first of a pair and another, if there is one
abbrev pub IsEarlier : Option (ℕ × ℕ) → ℕ × ℕ → ℕ × ℕ → Type 0
IsEarlier None q r = r ≡ q
IsEarlier (Some p) q r = ((r ≡ p) ⊎ (r ≡ q)) × IsUpTo r p × IsUpTo r q
