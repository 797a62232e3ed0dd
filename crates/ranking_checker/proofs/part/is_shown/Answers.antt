use Rattle.std.proofs.Common.{◌≡◌, length, sym, ap, subst, ◌∙◌}
use Rattle.std.proofs.lemmas.Int.{to_z-of_z}
use Rattle.std.proofs.lemmas.List.Elements.{Contains-get_or}
use Rattle.cost_lists.specs.Exact.{IsOptimum}
use Rattle.ranking_checker.specs.inside.Core.{AreGiven}
use Rattle.ranking_checker.proofs.PairLaws.{costs_in, costs_long, costs_of, is_part, objects_in, objects_long, objects_of, part_given, persons_in, persons_of, same_lists}
use Rattle.ranking_checker.proofs.part.is_shown.Goals as goal

pub pairs_of-requires : goal.pairs_of-requires
pairs_of-requires c = λ k d lt.
    let read = c.requires.core.given _ (Contains-get_or c.args.core.now k d lt) in
    rw (c.in_ok-limits.ensures.kept, c.requires.persons) read.person

pub sparse-part-requires-clause-pairs : goal.sparse-part-requires-clause-pairs
sparse-part-requires-clause-pairs c =
    let l = c.args.lists.now in
    let b = c.args.base in
    let ps = c.in_ok-pairs.pairs.items in
    let given : AreGiven l ps = part_given b.bound l b.objects.now b.prices.now c.args.tree c.args.place c.args.core.now ps
    c.in_ok-limits.limits.kept.items c.in_ok-limits.limits.closed.items c.requires.core c.in_ok-limits.ensures.obey c.in_ok-pairs.ensures in
    let p : c.as_slice-2.result.now ≡ persons_of ps = c.as_slice-2.ensures.value ∙ c.in_ok-columns.ensures.persons ∙ ap persons_of c.as_slice.ensures.value in
    let o : c.as_slice-3.result.now ≡ objects_of ps = c.as_slice-3.ensures.value ∙ c.in_ok-columns.ensures.objects ∙ ap objects_of c.as_slice.ensures.value in
    let d : c.as_slice-4.result.now ≡ costs_of ps = c.as_slice-4.ensures.value ∙ c.in_ok-columns.ensures.costs ∙ ap costs_of c.as_slice.ensures.value in
    record {
      objects_long = rw (o, p) (objects_long l ps given);
      costs_long = rw (d, p) (costs_long l ps given);
      persons_in = rw (p, c.persons-n.ensures.count) (persons_in l ps given);
      objects_in = rw (o, c.objects-m.ensures.count) (objects_in l ps given);
      costs_in = rw d (costs_in l ps given);
    }

pub returns : goal.returns
returns c = λ yes.
    let l = c.args.lists.now in
    let b = c.args.base in
    let s = c.args.showing in
    let ps = c.in_ok-pairs.pairs.items in
    let p : c.as_slice-2.result.now ≡ persons_of ps = c.as_slice-2.ensures.value ∙ c.in_ok-columns.ensures.persons ∙ ap persons_of c.as_slice.ensures.value in
    let o : c.as_slice-3.result.now ≡ objects_of ps = c.as_slice-3.ensures.value ∙ c.in_ok-columns.ensures.objects ∙ ap objects_of c.as_slice.ensures.value in
    let d : c.as_slice-4.result.now ≡ costs_of ps = c.as_slice-4.ensures.value ∙ c.in_ok-columns.ensures.costs ∙ ap costs_of c.as_slice.ensures.value in
    let part = c.sparse-part.result in
    let margin = c.ranges.margin in
    let ranked = simp to_z-of_z at c.in_ok-is_best.ensures.ranked in
    let same = same_lists c.sense.result l.sense c.objects-m.result l.m c.persons-n.result (length l.rows) c.as_slice-2.result.now (persons_of ps)
    c.as_slice-3.result.now (objects_of ps) c.as_slice-4.result.now (costs_of ps) c.sense.ensures c.objects-m.ensures.count c.persons-n.ensures.count p o d in
    record {
      part = part;
      is = is_part b.bound l b.objects.now b.prices.now c.args.tree c.args.place c.args.core.now ps
          c.in_ok-limits.limits.kept.items c.in_ok-limits.limits.closed.items c.requires.core c.in_ok-limits.ensures.obey c.in_ok-pairs.ensures
          part c.is_best_by.ensures.limits (c.sparse-part.ensures ∙ same);
      own_prices = s.prices.now;
      optimum = subst (λ z. IsOptimum part z s.prices.now) c.plan_at.ensures.plan (c.in_ok-is_best.ensures.optimum yes);
      ranks = s.ranks.now;
      count = s.count;
      others = s.others.now;
      ranked = rw (sym c.plan_at.ensures.plan) (ranked yes);
    }
