use Rattle.std.proofs.Common.{◌≡◌, map, sym, ◌∙◌, ap, length}
use Rattle.std.proofs.lemmas.List.{length-map}
use Rattle.orlib_reader.proofs.Kept.{dense_count}
use Rattle.orlib_reader.proofs.dense.DenseRows.count.Goals as goal

pub returns : goal.returns
returns c =
    let count = dense_count _ _ _ c.self.invariant in
    let same = ap length c.self.view_is in
    let rows = c.self.inside.rows.ok.0 in
    let row = c.self.inside.row.ok.0 in
    let long : length (map (λ r. r.items) c.self.inside.rows.items) ≡ length c.self.inside.rows.items = length-map _ _ in
    rw (c.len.ensures, c.from.ensures, c.len-2.ensures, rows, row) (rw (← long) (sym count ∙ same))
