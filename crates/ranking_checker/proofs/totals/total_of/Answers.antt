use Rattle.std.proofs.Common.{◌≡◌, ◌≢◌, length, replicate, ap, sym, subst, rules, ◌∙◌, SFits, w64}
use Rattle.std.specs.List.{All}
use Rattle.std.proofs.lemmas.Int.{to_z-of_z}
use Rattle.std.proofs.lemmas.List.{length-replicate}
use Rattle.std.proofs.lemmas.List.Elements.{All-from_recursion}
use Rattle.assign_core.specs.Numbered.{IsNumber}
use Rattle.assign_core.specs.Assignment.{IsAssignment, total}
use Rattle.assign_core.proofs.Listed.{objects_within}
use Rattle.cost_lists.specs.declared.numbers.TheConstants.{UNLISTED}
use Rattle.ranking_checker.proofs.TotalLaws.{listed_all}
use Rattle.ranking_checker.proofs.totals.total_of.Goals as goal

pub first_given_twice-requires-clause-within : goal.first_given_twice-requires-clause-within
first_given_twice-requires-clause-within c =
    let l = c.args.lists.now in
    let xs = c.args.plan.now in
    let all = subst (All (λ z. z ≢ UNLISTED)) c.as_slice.ensures.value (c.are_listed.ensures.0 c.if-not-are_listed.false) in
    let listed = listed_all l xs c.in_ok-own.own.items c.in_ok-own.ensures c.requires all in
    let zeros : c.in_ok-counts.counts.items ≡ replicate c.objects-m.result 0 = search rules in
    let long = ap length (c.as_mut_slice.ensures.value ∙ zeros) ∙ length-replicate c.objects-m.result 0 ∙ c.objects-m.ensures.count in
    subst (λ k. All (IsNumber k) xs) (sym long) (All-from_recursion (IsNumber l.m) xs
    (objects_within l.m l.rows xs c.persons-persons.ensures.rule.within listed))

pub total-requires : goal.total-requires
total-requires c =
    let all = subst (All (λ z. z ≢ UNLISTED)) c.as_slice.ensures.value (c.are_listed.ensures.0 c.if-not-are_listed.false) in
    listed_all c.args.lists.now c.args.plan.now c.in_ok-own.own.items c.in_ok-own.ensures c.requires all

pub returns : goal.returns
returns c =
    let l = c.args.lists.now in
    let xs = c.args.plan.now in
    let all = subst (All (λ z. z ≢ UNLISTED)) c.as_slice.ensures.value (c.are_listed.ensures.0 c.if-not-are_listed.false) in
    let listed = listed_all l xs c.in_ok-own.own.items c.in_ok-own.ensures c.requires all in
    let assigned : IsAssignment l.rows xs = record { listed = listed; apart = c.in_default.ensures.first } in
    let fits : SFits w64 c.in_ok-total.field-0 = search rules in
    let cost : c.in_ok-total.field-0 ≡ total l.rows xs = c.in_ok-total.ensures in
    record { assigned = assigned; cost = simp to_z-of_z cost }
