use Rattle.std.proofs.Common.{◌≡◌, ℕ, suc, ◌<◌, length, get_or}
use Rattle.rounds.proofs.similar.all_apart.Given as goal

abbrev pub invariant-loop-i : goal.invariant-loop-i
invariant-loop-i l = (length l.alike.items ≡ l.i) × ((k d : ℕ) → k < l.i → get_or l.alike.items k d ≡ suc k)
