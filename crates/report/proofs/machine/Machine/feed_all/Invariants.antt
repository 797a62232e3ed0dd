use Rattle.std.proofs.Common.{◌≡◌, ◌+◌, ◌≤◌, Ok, drop}
use Rattle.report.specs.declared.limits.TheConstants.{TEXT_LIMIT}
use Rattle.report.specs.inside.Steps.{after}
use Rattle.report.proofs.machine.Machine.feed_all.Given as goal

abbrev pub invariant-loop-b : goal.invariant-loop-b
invariant-loop-b l = record {
  rest : after (Ok l.self) (drop l.b-index l.bytes) ≡ after (Ok l.fn.self) l.bytes;
  at : l.self.at ≡ l.fn.self.at + l.b-index;
  bound : l.self.at ≤ TEXT_LIMIT;
}
