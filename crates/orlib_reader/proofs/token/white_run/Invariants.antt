use Rattle.std.proofs.Common.{◌≡◌, ◌+◌, ◌-◌, ◌≤◌, ℕ, ℤ, List, Ok, drop, length}
use Rattle.orlib_reader.specs.declared.layout.Layout.{Layout}
use Rattle.orlib_reader.specs.declared.machine.TheConstants.{TEXT_LIMIT}
use Rattle.orlib_reader.specs.inside.Steps.{after, between_tokens}
use Rattle.orlib_reader.proofs.token.white_run.Given as goal

abbrev pub invariant-loop-count : goal.invariant-loop-count
invariant-loop-count l = record {
  few : l.count ≤ length l.bytes;
  after : (layout : Layout) (at : ℕ) (found : List ℤ) → at + length l.bytes ≤ TEXT_LIMIT →
      after (Ok (between_tokens layout (at + l.count) found)) (drop l.count l.bytes) ≡ after (Ok (between_tokens layout at found)) l.bytes;
}

abbrev pub decreases-loop-count : goal.decreases-loop-count
decreases-loop-count l = length l.bytes - l.count
