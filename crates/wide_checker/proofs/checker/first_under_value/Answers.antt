use Rattle.std.proofs.Common.{ℤ, List, length, map, ap, ◌∙◌}
use Rattle.assign_core.specs.Dense.{rows_cut}
use Rattle.cost_lists.specs.Given.{rows_given}
use Rattle.wide_checker.specs.WideNumbers.{wide_value}
use Rattle.wide_checker.specs.WideSources.{triples_in}
use Rattle.exact_checker.proofs.Better.{under_shown}
use Rattle.wide_checker.proofs.checker.first_under_value.Goals as goal

pub returns-in-Dense : goal.returns-in-Dense
returns-in-Dense c =
    let l = c.args.lists.now in
    let costs : List ℤ = map wide_value c.in-Dense.costs.now in
    let m = length c.args.prices.now in
    let prices : List ℤ = map wide_value c.args.prices.now in
    let values = c.args.values.now in
    let rows = ap (λ n. rows_cut m n costs) c.requires.persons ∙
    ap (λ k. rows_cut k (length l.rows) costs) c.requires.objects ∙ c.in-Dense.ensures.rows in
    under_shown c.sense.result l.sense (rows_cut m (length values) costs) l.rows (length values)
    (length l.rows) m l.m prices values c.first_of_rows.result
    c.sense.ensures rows c.requires.persons c.requires.objects c.first_of_rows.ensures

pub returns-in-Listed : goal.returns-in-Listed
returns-in-Listed c =
    let l = c.args.lists.now in
    let p = c.in-Listed.pairs in
    let m = length c.args.prices.now in
    let prices : List ℤ = map wide_value c.args.prices.now in
    let values = c.args.values.now in
    let sense = c.sense-in-Listed.result in
    let rows =
    ap (λ n. rows_given sense (triples_in p) m 1 n) c.requires.persons
    ∙ ap (λ k. rows_given sense (triples_in p) k 1 (length l.rows)) c.requires.objects
    ∙ ap (λ s. rows_given s (triples_in p) l.m 1 (length l.rows)) c.sense-in-Listed.ensures
    ∙ c.in-Listed.ensures.rows in
    under_shown sense l.sense (rows_given sense (triples_in p) m 1 (length values)) l.rows
    (length values) (length l.rows) m l.m prices values c.first_of_pairs.result
    c.sense-in-Listed.ensures rows c.requires.persons c.requires.objects c.first_of_pairs.ensures
