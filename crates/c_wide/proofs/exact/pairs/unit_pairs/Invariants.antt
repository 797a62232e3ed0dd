use Rattle.c_wide.specs.exact.Pairs.{HasPlaces}
use Rattle.c_wide.proofs.exact.pairs.unit_pairs.Given as goal

abbrev pub invariant-loop-place : goal.invariant-loop-place
invariant-loop-place l = HasPlaces l.unit l.n l.m l.costs l.place l.pairs
