use Rattle.std.proofs.Common.{◌≡◌, ℕ, ◌<◌, get_or}
use Rattle.std.specs.Prelude.{nat_lt}
use Rattle.count_checker.specs.CountLists.{pair_at}
use Rattle.count_checker.specs.Shortages.{is_outside}
use Rattle.count_checker.proofs.shortage.set_outside.Given as goal

abbrev pub invariant-loop-place : goal.invariant-loop-place
invariant-loop-place l = (k : ℕ) → k < l.place → nat_lt 0 (get_or l.bytes k 0) ≡ is_outside l.side l.rows l.columns (pair_at l.lists k)
