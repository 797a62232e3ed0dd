use Rattle.std.proofs.Common.{◌≡◌, ℕ, ◌<◌, ◌≤◌, ◌-ℤ◌}
use Rattle.hungarian.specs.inside.Plans.{at, int_at}
use Rattle.hungarian.proofs.raising.raise.Given as goal

-- the prices of the passed objects with a rank are raised, and the others are as they were
abbrev pub invariant-loop-j : goal.invariant-loop-j
invariant-loop-j l = record {
  raised : (k : ℕ) → k < l.j → 0 < at l.ranks k →
      int_at l.prices k ≡ (int_at l.to_objects l.end -ℤ int_at l.to_objects k);
  same : (k : ℕ) → at l.ranks k ≡ 0 → int_at l.prices k ≡ int_at l.initial.prices k;
  left : (k : ℕ) → l.j ≤ k → int_at l.prices k ≡ int_at l.initial.prices k;
}
