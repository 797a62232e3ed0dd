use Rattle.std.proofs.Common.{◌≡◌, length, get_or, ◌∙◌, ap}
use Rattle.assign_core.specs.Rows.{row_of}
use Rattle.assign_core.proofs.RowLemmas.{row_of-mapped, IsRow-row_of}
use Rattle.assign_core.proofs.problem.Problem.row.Goals as goal

row_is : (c : goal.After-as_slice) → c.as_slice.result.now ≡ row_of c.args.self.now c.args.person
row_is c =
    row_of-mapped (λ r. r.items) c.self.inside.rows.items c.args.self.now c.args.person c.index.result.now
    c.as_slice.result.now c.self.view_is c.requires.first c.requires.last
    (c.index.ensures ∙ ap (λ k. get_or c.self.inside.rows.items k c.index.result.now) c.place.ensures) c.as_slice.ensures.value

pub returns-clause-row : goal.returns-clause-row
returns-clause-row c = row_is c

pub returns-clause-rule : goal.returns-clause-rule
returns-clause-rule c =
    let row = row_is c in
    rw row (IsRow-row_of (length c.args.self.now) c.args.self.now c.args.person (rw c.self.view_is at c.self.invariant.each) c.requires.first c.requires.last)
