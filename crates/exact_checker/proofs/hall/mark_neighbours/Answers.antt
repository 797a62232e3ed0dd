use Rattle.std.proofs.Common.{ℕ, false, length, ap, sym, subst, ◌∙◌}
use Rattle.std.proofs.lemmas.List.{length-replicate}
use Rattle.exact_checker.specs.inside.Marked.{ListAll, ListJust}
use Rattle.exact_checker.proofs.HallPairs.{list_all, list_just, neighbours_added, no_marks}
use Rattle.exact_checker.proofs.hall.mark_neighbours.Goals as goal

pub mark_of_full-requires : goal.mark_of_full-requires
mark_of_full-requires c = no_marks c.args.lists.now.m c.args.listed.now c.requires.none

pub returns-in-Dense : goal.returns-in-Dense
returns-in-Dense c =
    let l = c.args.lists.now in
    let n : ℕ = length l.rows in
    let long = ap length c.requires.none ∙ length-replicate l.m false in
    let all : ListAll l.rows l.m = subst (λ r. ListAll r l.m) c.in-Dense.ensures.rows (list_all n l.m c.in-Dense.field-0.now c.in-Dense.ensures.given.costs) in
    c.mark_of_full.ensures l.rows (subst (ListAll l.rows) (sym long) all) c.requires.lists.within

pub returns-in-Listed : goal.returns-in-Listed
returns-in-Listed c =
    let l = c.args.lists.now in
    let n : ℕ = length l.rows in
    let p = c.in-Listed.pairs in
    let lists : ListJust l.rows p = subst (λ r. ListJust r p) c.in-Listed.ensures.rows (list_just l.sense n l.m p c.in-Listed.ensures.given.costs) in
    neighbours_added l.rows n l.m p c.args.persons.now c.args.chosen.now c.args.listed.now lists c.requires.chosen
    c.args.listed.now c.mark_listed.new.listed c.mark_listed.ensures
