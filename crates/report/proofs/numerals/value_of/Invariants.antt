use Rattle.std.proofs.Common.{◌≡◌, ◌+◌, ◌*◌, ◌^◌, ◌≤◌, drop}
use Rattle.report.specs.inside.Numerals.{value_after}
use Rattle.report.proofs.numerals.value_of.Given as goal

abbrev pub invariant-loop-b : goal.invariant-loop-b
invariant-loop-b l = record {
  value : value_after l.value (drop l.b-index l.word) ≡ value_after 0 l.word;
  bound : l.value + 23 ≤ 23 * 10 ^ l.b-index;
}
