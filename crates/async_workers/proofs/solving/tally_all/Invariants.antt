use Rattle.std.proofs.Common.{◌≡◌, vec_len, vec_capacity}
use Rattle.async_workers.specs.Solving.{tallies}
use Rattle.async_workers.proofs.solving.tally_all.Given as goal

abbrev pub invariant-loop-before : goal.invariant-loop-before
invariant-loop-before l = record {
  tallied : l.tallies.items ≡ tallies l.book l.before;
  long : vec_len l.tallies ≡ l.before;
  room : vec_capacity l.tallies ≡ vec_capacity l.initial.tallies;
}
