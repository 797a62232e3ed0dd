use Rattle.std.proofs.Common.{◌≤◌, ◌≡◌}
use Rattle.orlib_reader.proofs.Streams.{Follows}
use Rattle.orlib_reader.specs.declared.machine.TheConstants.{TEXT_LIMIT}
use Rattle.orlib_reader.specs.inside.Held.{layout_in}
use Rattle.orlib_reader.proofs.read_all.Given as goal

abbrev pub invariant-loop : goal.invariant-loop
invariant-loop g l = record {
  follows : Follows (layout_in l.fn.pairs) (g.R.Read.remaining l.fn.r) (g.R.Read.remaining l.r) l.machine;
  layout : l.machine.layout ≡ layout_in l.fn.pairs;
  far : l.counter ≤ l.machine.at;
  bound : l.machine.at ≤ TEXT_LIMIT;
}
