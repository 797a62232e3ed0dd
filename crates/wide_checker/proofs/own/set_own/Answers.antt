use Rattle.std.proofs.Common.{ℕ, ◌+◌, length, map, get_or, ap, sym, subst, ◌∙◌}
use Rattle.assign_core.specs.Dense.{rows_cut}
use Rattle.assign_core.proofs.DenseRows.{length-rows_cut}
use Rattle.cost_lists.specs.Given.{rows_given}
use Rattle.cost_lists.proofs.GivenRows.{length-rows_given, pairs_listed}
use Rattle.cost_lists.proofs.Owns.{own_numbered}
use Rattle.wide_checker.specs.declared.numbers.TheConstants.{UNLISTED}
use Rattle.wide_checker.specs.WideNumbers.{wide_value}
use Rattle.wide_checker.specs.WideSources.{AreWidePairs, IsWideSource, triples_in, wide_rows}
use Rattle.wide_checker.specs.inside.Own.{AreWideOwn, turned_or_marked}
use Rattle.wide_checker.proofs.Limits.{wide_among}
use Rattle.wide_checker.proofs.own.set_own.Goals as goal

pub returns-in-Dense : goal.returns-in-Dense
returns-in-Dense c =
    let n : ℕ = length c.args.own.now in
    let rows = rows_cut c.args.m n (map wide_value c.in-Dense.costs.now) in
    let long = c.set_of_rows.auto.own ∙ sym (length-rows_cut c.args.m n (map wide_value c.in-Dense.costs.now)) in
    subst (λ s. AreWideOwn c.args.sense (wide_rows c.args.sense n c.args.m s) c.args.objects.now c.set_of_rows.new.own) (sym c.in-Dense.is)
    (own_numbered UNLISTED c.args.sense rows c.args.objects.now c.set_of_rows.new.own long c.set_of_rows.ensures)

pub returns-in-Listed : goal.returns-in-Listed
returns-in-Listed c =
    let n : ℕ = length c.args.own.now in
    let m : ℕ = c.args.m in
    let p = c.in-Listed.pairs in
    let rows = rows_given c.args.sense (triples_in p) m 1 n in
    let long = c.set_of_pairs.auto.own ∙ sym (length-rows_given c.args.sense (triples_in p) m 1 n) in
    let are : AreWidePairs n m p = subst (IsWideSource n m) c.in-Listed.is c.requires.given.costs in
    subst (λ s. AreWideOwn c.args.sense (wide_rows c.args.sense n m s) c.args.objects.now c.set_of_pairs.new.own) (sym c.in-Listed.is)
    (own_numbered UNLISTED c.args.sense rows c.args.objects.now c.set_of_pairs.new.own long
    (λ i lt. c.set_of_pairs.ensures i lt ∙ ap (turned_or_marked c.args.sense)
    (sym (pairs_listed c.args.sense (triples_in p) n m (wide_among n m p are) (i + 1) (get_or c.args.objects.now i 0)))))
