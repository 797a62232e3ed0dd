use Rattle.std.proofs.Common.{◌≡◌, ℕ, ◌<◌, true}
use Rattle.c_rows.specs.Lists.{is_named}
use Rattle.c_rows.proofs.lists.first_unnamed_variable.Given as goal

-- none of those so far is wrong
abbrev pub invariant-loop-i : goal.invariant-loop-i
invariant-loop-i l = (k : ℕ) → k < l.i → is_named l.variables l.n k ≡ true
