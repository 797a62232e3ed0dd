use Rattle.std.proofs.Common.{List, map, arith}
use Rattle.std.proofs.lemmas.List.{length-map}
use Rattle.row_checker.specs.declared.verdict.End.TheVariants.{Stands}
use Rattle.row_checker.specs.Rows.{LinearRow, row_in}
use Rattle.row_checker.proofs.Climbing.{at_root}
use Rattle.row_checker.proofs.tree.climb.Goals as goal

pub returns-clause-climbed : goal.returns-clause-climbed
returns-clause-climbed c = λ n numbers given all q long at.
    let rows : List LinearRow = map row_in c.loop-rows.rows.items in
    let h = c.loop-rows.invariant.1 n numbers given all q long at in
    let l = length-map c.loop-rows.rows.items row_in in
    at_root n numbers given rows h.path all (Stands q) h.are h.ends (omega (arith, c.len.ensures, c.loop-rows-test.false))
