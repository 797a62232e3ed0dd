use Rattle.std.proofs.Common.{ℕ, ◌<◌, map}
use Rattle.row_checker.specs.Rows.{Meets, row_at, row_in}
use Rattle.c_rows.proofs.answer.first_broken.Given as goal

-- the plan meets the rows so far
abbrev pub invariant-loop-r : goal.invariant-loop-r
invariant-loop-r l = (k : ℕ) → k < l.r → Meets l.plan (row_at (map row_in l.rows) k)
