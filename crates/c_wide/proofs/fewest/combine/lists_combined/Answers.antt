use Rattle.std.proofs.Common.{List, ℤ, map, ap, sym, ◌∙◌}
use Rattle.cost_lists.specs.Given.{rows_given, triples_of}
use Rattle.cost_lists.specs.ListedCosts.{ListedCosts}
use Rattle.c_calls.specs.lists.Input.{InputLists}
use Rattle.wide_checker.specs.WideNumbers.{wide_value}
use Rattle.c_wide.proofs.CombinedLists.{dense_is, pairs_are}
use Rattle.c_wide.proofs.fewest.combine.lists_combined.Goals as goal

pub returns-in-Dense : goal.returns-in-Dense
returns-in-Dense c = λ kept long are.
    let g : InputLists = c.args.input.now in
    let s = c.args.shape in
    let form = sym (ap (λ (i : InputLists). i.form) c.input.view_is) ∙ c.in-Dense.is in
    c.dense.ensures
    ∙ dense_is s.sense g kept c.args.costs.now long are s.n s.m c.requires.shape.persons c.requires.shape.objects form
    c.requires.whole.shape.lengths.pairs

pub returns-in-Sparse : goal.returns-in-Sparse
returns-in-Sparse c = λ kept long are.
    let g : InputLists = c.args.input.now in
    let s = c.args.shape in
    let vs : List ℤ = map wide_value c.args.costs.now in
    let form = sym (ap (λ (i : InputLists). i.form) c.input.view_is) ∙ c.in-Sparse.is in
    let with_pairs = λ (i : InputLists).
    let l : ListedCosts = record { sense = s.sense; m = s.m; rows = rows_given s.sense (triples_of i.persons i.objects vs) s.m 1 s.n } in l in
    c.sparse.ensures
    ∙ ap with_pairs c.input.view_is
    ∙ pairs_are s.sense g kept c.args.costs.now long are s.n s.m c.requires.shape.persons c.requires.shape.objects form
    c.requires.whole.shape.lengths.pairs
