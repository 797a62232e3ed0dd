use Rattle.std.proofs.Common.{ℕ, ◌+◌, length, get_or, ap, sym, subst, ◌∙◌}
use Rattle.std.specs.List.{All}
use Rattle.assign_core.specs.Dense.{rows_cut}
use Rattle.assign_core.specs.Sparse.{IsTripleAmong}
use Rattle.assign_core.proofs.DenseRows.{length-rows_cut}
use Rattle.cost_lists.specs.declared.numbers.TheConstants.{UNLISTED}
use Rattle.cost_lists.specs.Given.{rows_given}
use Rattle.cost_lists.specs.Own.{AreOwnCosts, turned_or_unlisted}
use Rattle.cost_lists.specs.Source.{ArePairs, IsSource, rows_in, triples_in}
use Rattle.cost_lists.proofs.GivenRows.{length-rows_given, rows_list}
use Rattle.cost_lists.proofs.Owns.{own_numbered}
use Rattle.cost_lists.proofs.Triples.{triples_among}
use Rattle.cost_lists.proofs.own.set_own.Goals as goal

pub returns-in-Dense : goal.returns-in-Dense
returns-in-Dense c =
    let n : ℕ = length c.args.own.now in
    let rows = rows_cut c.args.m n c.in-Dense.costs.now in
    let long = c.set_of_rows.auto.own ∙ sym (length-rows_cut c.args.m n c.in-Dense.costs.now) in
    subst (λ s. AreOwnCosts c.args.sense (rows_in c.args.sense n c.args.m s) c.args.objects.now c.set_of_rows.new.own) (sym c.in-Dense.is)
    (own_numbered UNLISTED c.args.sense rows c.args.objects.now c.set_of_rows.new.own long c.set_of_rows.ensures)

pub returns-in-Listed : goal.returns-in-Listed
returns-in-Listed c =
    let n : ℕ = length c.args.own.now in
    let m : ℕ = c.args.m in
    let p = c.in-Listed.pairs in
    let rows = rows_given c.args.sense (triples_in p) m 1 n in
    let long = c.set_of_pairs.auto.own ∙ sym (length-rows_given c.args.sense (triples_in p) m 1 n) in
    let are : ArePairs n m p = subst (IsSource n m) c.in-Listed.is c.requires.given.costs in
    let among : All (IsTripleAmong n m) (triples_in p) =
    triples_among p.persons.now p.objects.now p.costs.now are.objects_long are.costs_long n m are.persons_in
    are.objects_in are.costs_in in
    subst (λ s. AreOwnCosts c.args.sense (rows_in c.args.sense n m s) c.args.objects.now c.set_of_pairs.new.own) (sym c.in-Listed.is)
    (own_numbered UNLISTED c.args.sense rows c.args.objects.now c.set_of_pairs.new.own long
    (λ i lt. c.set_of_pairs.ensures i lt ∙ ap (turned_or_unlisted c.args.sense)
    (sym (rows_list c.args.sense (triples_in p) n m among (i + 1) (get_or c.args.objects.now i 0)))))
