use Rattle.std.proofs.Common.{Some, Ok, Err, rules, sym, ap, ◌∙◌, get_or, SFits}
use Rattle.std.proofs.lemmas.Int.{to_z-of_z}
use Rattle.std.proofs.lemmas.List.Sorted.{answers_always}
use Rattle.std.specs.Int.{w64}
use Rattle.assign_core.specs.Rows.{listed_in}
use Rattle.assign_core.proofs.Searching.{searched}
use Rattle.assign_core.proofs.problem.find.Goals as goal

-- the closure gives an entry's object
pub returns-in-Ok : goal.returns-in-Ok
returns-in-Ok c =
    let facts = c.in-Ok.ensures in
    let by_object = facts.position (λ e. e.0) (answers_always _ _ _ (λ f a r g called. search rules)) in
    let found = (searched c.args.row.now c.requires c.object.inside.0 (Ok c.in-Ok.place) facts.bound by_object).found c.index-row-place.result in
    let fits : SFits w64 (get_or c.args.row.now c.in-Ok.place c.index-row-place.result).1 = search rules in
    ap (λ a. Some a) (to_z-of_z w64 _ fits) ∙ sym (ap (listed_in c.args.row.now) (sym c.object.view_is) ∙ found)

pub returns-in-Err : goal.returns-in-Err
returns-in-Err c =
    let facts = c.in-Err.ensures in
    let by_object = facts.position (λ e. e.0) (answers_always _ _ _ (λ f a r g called. search rules)) in
    let absent = (searched c.args.row.now c.requires c.object.inside.0 (Err c.in-Err.field-0) facts.bound by_object).absent in
    sym (ap (listed_in c.args.row.now) (sym c.object.view_is) ∙ absent)
