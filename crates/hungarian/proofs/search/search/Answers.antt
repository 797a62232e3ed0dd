use Rattle.std.proofs.Common.{◌≡◌, ◌+◌, ◌-◌, ◌<◌, ◌≤◌, set, ap, arith, refl, sym, subst}
use Rattle.std.proofs.lemmas.List.{get_or_read}
use Rattle.hungarian.specs.inside.Stored.{IsSearching}
use Rattle.hungarian.proofs.Searches.{closed_search, ended_search, grown_search, never_full, nobody_before, owner_number, path_is}
use Rattle.hungarian.proofs.search.search.Goals as goal

pub nearest_object-object-requires-clause-nobody : goal.nearest_object-object-requires-clause-nobody
nearest_object-object-requires-clause-nobody c =
    nobody_before c.args.lists.now c.args.plan.now c.args.person
    (c.loop-rank.rank - 1) c.loop-rank.tree c.persons-rank-end.ensures.rule c.requires.plan
    c.loop-rank.invariant.searching

pub returns-then-object-eq0 : goal.returns-then-object-eq0
returns-then-object-eq0 c =
    closed_search c.args.lists.now c.args.plan.now c.args.person
    (c.loop-rank.rank - 1) c.loop-rank.tree c.loop-rank.invariant.searching
    (c.nearest_object-object.ensures.none c.if-object-eq0.true)

pub returns-then-owner-eq0 : goal.returns-then-owner-eq0
returns-then-owner-eq0 c =
    let l = c.loop-rank in
    let object = c.nearest_object-object.result in
    let some : 0 < object = omega arith in
    let in_list = c.nearest_object-object.ensures.within in
    let within : object ≤ c.args.lists.now.m = let e = l.invariant.searching.long.costs_long in omega arith in
    let read = get_or_read c.args.plan.now.owners.items object c.index-owner.result.now
    (let e = c.requires.plan.long.owners_long in omega arith) c.index-owner.ensures 0 in
    let next : l.rank ≡ l.rank - 1 + 1 = let a = l.auto.rank in omega arith in
    ended_search c.args.lists.now c.args.plan.now c.args.person
    (l.rank - 1) l.tree object c.persons-rank-end.ensures.rule c.requires.plan l.invariant.searching
    (c.nearest_object-object.ensures.some some) some within _ (let z = c.if-owner-eq0.true in omega arith) refl
    (ap (set l.tree.ranks.items object) next)

pub scan-requires-clause-owner : goal.scan-requires-clause-owner
scan-requires-clause-owner c =
    let l = c.loop-rank in
    let object = c.nearest_object-object.result in
    let some : 0 < object = omega arith in
    let in_list = c.nearest_object-object.ensures.within in
    let within : object ≤ c.args.lists.now.m = let e = l.invariant.searching.long.costs_long in omega arith in
    let read = get_or_read c.args.plan.now.owners.items object c.index-owner.result.now
    (let e = c.requires.plan.long.owners_long in omega arith) c.index-owner.ensures 0 in
    owner_number c.args.lists.now c.args.plan.now c.args.person
    (l.rank - 1) l.tree object c.persons-rank-end.ensures.rule c.requires.plan l.invariant.searching
    (c.nearest_object-object.ensures.some some) some within c.index-owner.result.now (sym read) (omega arith)

pub scan-requires-clause-path : goal.scan-requires-clause-path
scan-requires-clause-path c =
    let l = c.loop-rank in
    let object = c.nearest_object-object.result in
    let some : 0 < object = omega arith in
    let in_list = c.nearest_object-object.ensures.within in
    let within : object ≤ c.args.lists.now.m = let e = l.invariant.searching.long.costs_long in omega arith in
    path_is c.args.lists.now c.args.plan.now c.args.person
    (l.rank - 1) l.tree object c.persons-rank-end.ensures.rule c.requires.plan l.invariant.searching
    (c.nearest_object-object.ensures.some some) some within

pub loop-rank-preserved : goal.loop-rank-preserved
loop-rank-preserved c =
    let l = c.loop-rank in
    let object = c.nearest_object-object.result in
    let some : 0 < object = omega arith in
    let in_list = c.nearest_object-object.ensures.within in
    let within : object ≤ c.args.lists.now.m = let e = l.invariant.searching.long.costs_long in omega arith in
    let read = get_or_read c.args.plan.now.owners.items object c.index-owner.result.now
    (let e = c.requires.plan.long.owners_long in omega arith) c.index-owner.ensures 0 in
    let next : l.rank - 1 + 1 ≡ l.rank + 1 - 1 = let a = l.auto.rank in omega arith in
    record {
      searching =
          subst (λ y. IsSearching c.args.lists.now c.args.plan.now c.args.person y c.scan.new.tree) next
          (grown_search c.args.lists.now c.args.plan.now c.args.person
          (l.rank - 1) l.tree object c.persons-rank-end.ensures.rule c.requires.plan l.invariant.searching
          (c.nearest_object-object.ensures.some some) some within c.index-owner.result.now (sym read) (omega arith)
          c.scan.new.tree c.in_ok-scan.ensures.long c.in_ok-scan.ensures.scan c.in_ok-scan.ensures.persons);
    }

pub returns : goal.returns
returns c =
    let l = c.loop-rank in
    let below = never_full c.args.lists.now c.args.plan.now c.args.person (l.rank - 1) l.tree l.invariant.searching in
    let count = c.persons-rank-end.ensures.count in
    let past = c.loop-rank-test.false in absurd (omega arith)
