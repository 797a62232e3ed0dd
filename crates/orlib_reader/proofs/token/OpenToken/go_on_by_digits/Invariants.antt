use Rattle.std.proofs.Common.{◌≡◌, ◌+◌, ◌-◌, ◌≤◌, ℕ, ℤ, List, Ok, drop, length}
use Rattle.orlib_reader.specs.declared.layout.Layout.{Layout}
use Rattle.orlib_reader.specs.declared.machine.TheConstants.{TEXT_LIMIT}
use Rattle.orlib_reader.specs.declared.token.TheConstants.{VALUE_LIMIT}
use Rattle.orlib_reader.specs.inside.Steps.{after, within_token}
use Rattle.orlib_reader.proofs.token.OpenToken.go_on_by_digits.Given as goal

abbrev pub invariant-loop-count : goal.invariant-loop-count
invariant-loop-count l = record {
  few : l.count ≤ length l.bytes;
  after : (layout : Layout) (at : ℕ) (found : List ℤ) → at + length l.bytes ≤ TEXT_LIMIT →
      after (Ok (within_token layout (at + l.count) (record {
        place = l.fn.self.place;
        is_negative =
            l.fn.self.is_negative;
        has_digits = l.has_digits;
        is_bad = l.fn.self.is_bad;
        value = l.value;
      }) found))
      (drop l.count l.bytes)
      ≡ after (Ok (within_token layout at l.fn.self found)) l.bytes;
  bound : l.value ≤ VALUE_LIMIT;
}

abbrev pub decreases-loop-count : goal.decreases-loop-count
decreases-loop-count l = length l.bytes - l.count
