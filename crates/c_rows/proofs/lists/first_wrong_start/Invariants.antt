use Rattle.std.proofs.Common.{◌≡◌, ℕ, ◌<◌, true}
use Rattle.c_rows.specs.Lists.{is_start}
use Rattle.c_rows.proofs.lists.first_wrong_start.Given as goal

-- none of those so far is wrong
abbrev pub invariant-loop-i : goal.invariant-loop-i
invariant-loop-i l = (k : ℕ) → k < l.i → is_start l.starts l.terms k ≡ true
