use Rattle.std.proofs.Common.{◌≡◌, ◌∙◌, sym, length, map}
use Rattle.std.proofs.lemmas.List.{length-map}
use Rattle.orlib_reader.proofs.Kept.{dense_wants}
use Rattle.orlib_reader.proofs.dense.DenseRows.are_full.Goals as goal

pub returns : goal.returns
returns c =
    let rows = c.self.inside.rows.items in
    let long : length (map (λ r. r.items) rows) ≡ c.len.result = length-map _ _ ∙ sym c.self.inside.rows.ok.0 ∙ sym c.len.ensures in
    rw (← long) (dense_wants _ _ _ _ c.self.invariant c.self.view_is)
