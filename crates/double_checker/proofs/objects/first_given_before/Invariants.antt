use Rattle.std.proofs.Common.{ℕ, ◌<◌, ◌≡◌, ◌≢◌, get_or}
use Rattle.assign_core.specs.Numbered.{IsMarked}
use Rattle.double_checker.proofs.objects.first_given_before.Given as goal

abbrev pub invariant-loop-i : goal.invariant-loop-i
invariant-loop-i l = record {
  apart : (h k : ℕ) → h < k → k < l.i → get_or l.objects h 0 ≢ get_or l.objects k 0;
  given : (j : ℕ) → IsMarked l.owned j → (h : ℕ) × (h < l.i) × (get_or l.objects h 0 ≡ j);
  marked : (h : ℕ) → h < l.i → IsMarked l.owned (get_or l.objects h 0);
}
