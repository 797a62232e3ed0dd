use Rattle.std.proofs.Common.{◌≡◌, ◌+ℤ◌, ◌*◌, ◌^◌, ◌≤◌, drop}
use Rattle.std.specs.Int.RustNames.{unsigned_abs}
use Rattle.row_checker.specs.Rows.{total}
use Rattle.c_rows.proofs.plan.total.Given as goal

-- the sum so far and that of the terms that are left
abbrev pub invariant-loop-term : goal.invariant-loop-term
invariant-loop-term l = (l.sum +ℤ total l.plan (drop l.term-index l.terms) ≡ total l.plan l.terms) × (unsigned_abs l.sum ≤ 2 ^ 63 * l.term-index)
