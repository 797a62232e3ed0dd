use Rattle.std.proofs.Common.{◌≡◌, ◌+◌, ◌-◌, ◌≤◌, Ok, drop, length}
use Rattle.orlib_reader.specs.declared.machine.TheConstants.{TEXT_LIMIT}
use Rattle.orlib_reader.specs.inside.Steps.{after}
use Rattle.orlib_reader.proofs.machine.Machine.feed_all.Given as goal

abbrev pub invariant-loop-taken : goal.invariant-loop-taken
invariant-loop-taken l = record {
  rest : after (Ok l.self) (drop l.taken l.bytes) ≡ after (Ok l.fn.self) l.bytes;
  few : l.taken ≤ length l.bytes;
  layout : l.self.layout ≡ l.fn.self.layout;
  at : l.self.at ≡ l.fn.self.at + l.taken;
  bound : l.self.at ≤ TEXT_LIMIT;
}

abbrev pub decreases-loop-taken : goal.decreases-loop-taken
decreases-loop-taken l = length l.bytes - l.taken
