use Rattle.std.proofs.Common.{List, ◌≡◌, ◌<◌, ◌≤◌, ap, ◌∙◌, sym, length, get_or, map, arith, subst}
use Rattle.std.proofs.lemmas.List.{length-map}
use Rattle.assign_core.specs.Rows.{Listing, IsProblem}
use Rattle.assign_core.proofs.RowLemmas.{row_of-mapped, length-mapped}
use Rattle.scaled_values.specs.Scaled.{benefits_of}
use Rattle.scaled_values.specs.Held.{entries_of}
use Rattle.scaled_values.specs.inside.Stored.{stored_entries, HasStoredForm}
use Rattle.scaled_values.proofs.RowFacts.{benefit_row_is, benefits_between}
use Rattle.scaled_values.proofs.scaled.Scaled.row.Goals as goal

-- the stored row, as callers see it
shown : (c : goal.After-as_row) → map stored_entries c.self.inside.rows.items ≡ benefits_of c.args.self.now
shown c = c.self.invariant.entries ∙ ap benefits_of c.self.view_is

last : (c : goal.After-as_row) → c.args.person ≤ length (benefits_of c.args.self.now)
last c = simp length-map (omega (arith, c.requires.last))

pub returns-clause-entries : goal.returns-clause-entries
returns-clause-entries c =
    let kept = c.self.inside.rows.items in
    let at = subst (λ k. c.index.result.now ≡ get_or kept k c.index.result.now) c.place.ensures c.index.ensures in
    row_of-mapped stored_entries kept (benefits_of c.args.self.now) c.args.person c.index.result.now
    (entries_of c.as_row.result) (shown c) c.requires.first (last c) at c.as_row.ensures.entries

pub returns-clause-form : goal.returns-clause-form
returns-clause-form c =
    let many = length-mapped stored_entries c.self.inside.rows.items (benefits_of c.args.self.now) (shown c) in
    let few = last c in
    let lt : c.place.result < length c.self.inside.rows.items = omega (arith, c.requires.first, c.place.ensures) in
    let kept = c.self.invariant.form c.place.result c.index.result.now lt in
    c.as_row.ensures.form (length c.args.self.now.problem)
    (subst (λ n. HasStoredForm n c.index.result.now) (ap (λ s. length s.problem) c.self.view_is)
    (subst (HasStoredForm (length c.self.inside.problem)) (sym c.index.ensures) kept))

pub returns-clause-rule : goal.returns-clause-rule
returns-clause-rule c = benefit_row_is c.args.self.now c.args.person (let P = λ (r : List Listing). IsProblem r in
    subst P (ap (λ s. s.problem) c.self.view_is) c.self.invariant.problem) c.requires

pub returns-clause-bounds : goal.returns-clause-bounds
returns-clause-bounds c = benefits_between c.args.self.now c.args.person
