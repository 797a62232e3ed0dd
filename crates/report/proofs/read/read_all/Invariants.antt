use Rattle.std.proofs.Common.{◌≡◌, ◌≤◌, ℕ, List, Ok}
use Rattle.report.specs.declared.limits.TheConstants.{TEXT_LIMIT}
use Rattle.report.specs.inside.Steps.{after, start}
use Rattle.report.proofs.Streams.{Follows}
use Rattle.report.proofs.read.read_all.Given as goal

abbrev pub invariant-loop : goal.invariant-loop
invariant-loop g l = record {
  follows : Follows (g.R.Read.remaining l.fn.r) (g.R.Read.remaining l.r) l.machine;
  reached : (bytes : List ℕ) × (after (Ok start) bytes ≡ Ok l.machine);
  far : l.counter ≤ l.machine.at;
  bound : l.machine.at ≤ TEXT_LIMIT;
}
