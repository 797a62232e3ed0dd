use Rattle.std.proofs.Common.{◌≡◌, ◌++◌, map}
use Rattle.std.specs.VecDeque.{deque_len}
use Rattle.orlib_reader.specs.inside.Gathered.{gathered}
use Rattle.orlib_reader.proofs.sparse.joined.Given as goal

abbrev pub invariant-loop-piece : goal.invariant-loop-piece
invariant-loop-piece l = l.all.items ++ gathered (map (λ p. p.items) l.left.items) l.last.items ≡ gathered
    (map (λ p. p.items) l.fn.pieces.items) l.fn.last.items

abbrev pub decreases-loop-piece : goal.decreases-loop-piece
decreases-loop-piece l = deque_len l.left
