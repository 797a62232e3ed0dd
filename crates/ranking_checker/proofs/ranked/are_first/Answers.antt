use Rattle.std.proofs.Common.{rules, subst}
use Rattle.ranking_checker.specs.declared.tree.Tree.{Tree}
use Rattle.ranking_checker.specs.inside.Parts.{AreTotals, Rise}
use Rattle.ranking_checker.proofs.PartLaws.{are_all_plans, are_first_plans}
use Rattle.ranking_checker.proofs.ranked.are_first.Goals as goal

pub returns-then-branch-clause-first : goal.returns-then-branch-clause-first
returns-then-branch-clause-first c =
    let l = c.args.lists.now in
    let r = c.args.ranking in
    let tree : Tree = record { n = c.persons.result; count = r.count; plans = r.plans; parents = r.parents; persons = r.persons } in
    let are : AreTotals l.rows tree c.in-Some.totals.items = search rules in
    let up = subst (λ s. Rise s c.as_slice.result.now) c.sense.ensures (c.rise.ensures c.if-not-rise.false) in
    are_first_plans l tree c.in-Some.totals.items (c.is_tree.ensures c.if-not-is_tree.false) c.persons.ensures.count
    (c.have_parts.ensures c.if-not-have_parts.false) are (subst (Rise l.sense) c.as_slice.ensures.value up) c.args.is_all (c.in_ok-are_least.ensures c.if-branch.true)

pub returns-then-branch-clause-all : goal.returns-then-branch-clause-all
returns-then-branch-clause-all c =
    let l = c.args.lists.now in
    let r = c.args.ranking in
    let tree : Tree = record { n = c.persons.result; count = r.count; plans = r.plans; parents = r.parents; persons = r.persons } in
    let are : AreTotals l.rows tree c.in-Some.totals.items = search rules in
    let up = subst (λ s. Rise s c.as_slice.result.now) c.sense.ensures (c.rise.ensures c.if-not-rise.false) in
    are_all_plans l tree c.in-Some.totals.items (c.is_tree.ensures c.if-not-is_tree.false) c.persons.ensures.count
    (c.have_parts.ensures c.if-not-have_parts.false) are (subst (Rise l.sense) c.as_slice.ensures.value up) c.args.is_all (c.in_ok-are_least.ensures c.if-branch.true)
