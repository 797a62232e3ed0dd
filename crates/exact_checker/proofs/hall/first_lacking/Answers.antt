use Rattle.std.proofs.Common.{ℕ, length, sym, subst}
use Rattle.exact_checker.specs.inside.Marked.{ListAll, ListJust}
use Rattle.exact_checker.proofs.HallPairs.{IsFirstLacking, IsFirstMissing, lacking_found, list_all, list_just}
use Rattle.exact_checker.proofs.hall.first_lacking.Goals as goal

pub returns-in-Dense : goal.returns-in-Dense
returns-in-Dense c =
    let l = c.args.lists.now in
    let n : ℕ = length l.rows in
    let named = c.args.named.now in
    let persons = c.args.persons.now in
    let all : ListAll l.rows l.m = subst (λ r. ListAll r l.m) c.in-Dense.ensures.rows (list_all n l.m c.in-Dense.field-0.now c.in-Dense.ensures.given.costs) in
    let found = c.first_of_full.ensures l.rows (subst (ListAll l.rows) (sym c.requires.named) all) c.requires.lists.within in
    subst (λ m. IsFirstLacking l.rows n m persons named c.first_of_full.result) c.requires.named found

pub returns-in-Listed : goal.returns-in-Listed
returns-in-Listed c =
    let l = c.args.lists.now in
    let n : ℕ = length l.rows in
    let p = c.in-Listed.pairs in
    let chosen = c.args.chosen.now in
    let named = c.args.named.now in
    let f = c.first_missing.result in
    let lists : ListJust l.rows p = subst (λ r. ListJust r p) c.in-Listed.ensures.rows (list_just l.sense n l.m p c.in-Listed.ensures.given.costs) in
    let found : IsFirstMissing n l.m p chosen named f =
    subst (λ m. IsFirstMissing n m p chosen named f) c.requires.named
    (subst (λ k. IsFirstMissing k (length named) p chosen named f) c.requires.chosen.long
    c.first_missing.ensures) in
    lacking_found l.rows n l.m p c.args.persons.now chosen named lists c.requires.chosen f found
