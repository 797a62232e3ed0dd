use Rattle.std.proofs.lemmas.List.{length-map}
use Rattle.orlib_reader.proofs.Kept.{dense_room}
use Rattle.orlib_reader.proofs.dense.DenseRows.take_cost.Goals as goal

pub add_cost-requires-clause-room : goal.add_cost-requires-clause-room
add_cost-requires-clause-room c = simp length-map at (dense_room _ _ _ _ c.self.invariant c.self.view_is c.requires.wanted)
