use Rattle.std.proofs.Common.{arith}
use Rattle.std.proofs.lemmas.List.{length-map}
use Rattle.orlib_reader.proofs.Kept.{dense_short, dense_done, dense_whole}
use Rattle.orlib_reader.proofs.dense.DenseRows.finish.Goals as goal

pub returns-then-len-self : goal.returns-then-len-self
returns-then-len-self c =
    let lt = c.if-len-self.true in let n = c.len.ensures in let m = c.self.inside.rows.ok.0 in
    (dense_short _ _ _ _ c.count.result c.self.invariant (rw length-map (omega arith)) c.self.view_is c.count.ensures)

pub from_rows-requires : goal.from_rows-requires
from_rows-requires c =
    let le = c.if-len-self.false in let n = c.len.ensures in let m = c.self.inside.rows.ok.0 in
    (dense_whole _ _ _ c.self.invariant (rw length-map (omega arith))).2

pub returns : goal.returns
returns c =
    let le = c.if-len-self.false in let n = c.len.ensures in let m = c.self.inside.rows.ok.0 in
    dense_done _ _ _ _ c.from_rows.result c.self.invariant (rw length-map (omega arith)) c.self.view_is c.from_rows.ensures
