use Rattle.std.proofs.Common.{◌≡◌, vec_len, vec_capacity}
use Rattle.scaled_values.proofs.parts.empty_places.Given as goal

abbrev pub invariant-loop-filled : goal.invariant-loop-filled
invariant-loop-filled l = record {
  long : vec_len l.places ≡ l._filled;
  room : vec_capacity l.places ≡ l.n;
}
