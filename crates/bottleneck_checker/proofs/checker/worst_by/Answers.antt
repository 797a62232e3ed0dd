use Rattle.std.proofs.Common.{◌≡◌, IsTrue, ap, rules, subst, sym, SFits, w64, ◌∙◌}
use Rattle.std.proofs.lemmas.Int.{to_z-of_z}
use Rattle.cost_lists.specs.Own.{minimised}
use Rattle.bottleneck_checker.specs.Bottleneck.{AreShort, IsShown}
use Rattle.bottleneck_checker.proofs.WorstCosts.{worst_alone, worst_in, worst_is}
use Rattle.bottleneck_checker.proofs.checker.worst_by.Goals as goal

pub are_short-requires : goal.are_short-requires
are_short-requires c =
    let l = c.args.lists.now in
    let g = c.greatest_of-worst.ensures in
    let f : SFits w64 c.greatest_of-worst.result = search rules in
    simp to_z-of_z (worst_in l c.args.objects.now c.args.own.now c.greatest_of-worst.result c.persons-persons.ensures.rule c.requires.assigned c.requires.own
    g.0 g.1 g.2 g.3)

pub to_minimise-requires : goal.to_minimise-requires
to_minimise-requires c =
    let l = c.args.lists.now in
    let g = c.greatest_of-worst.ensures in
    let f : SFits w64 c.greatest_of-worst.result = search rules in
    simp to_z-of_z (worst_in l c.args.objects.now c.args.own.now c.greatest_of-worst.result c.persons-persons.ensures.rule c.requires.assigned c.requires.own
    g.0 g.1 g.2 g.3)

pub returns-then-not-branch : goal.returns-then-not-branch
returns-then-not-branch c = λ b s.
    let l = c.args.lists.now in
    let g = c.greatest_of-worst.ensures in
    let w = c.greatest_of-worst.result in
    let f : SFits w64 w = search rules in
    let says = simp to_z-of_z at c.in_ok-are_short.ensures in
    let e = worst_alone l c.args.objects.now c.args.own.now w c.persons-persons.ensures.rule c.requires.assigned c.requires.own
    g.0 g.1 g.2 g.3 b s.worst in
    let yes = says.1 (subst (λ z. AreShort l.sense l.m l.rows z c.args.persons.now c.args.few.now) e s.short) in
    let no = c.if-not-branch.true in
    absurd cc

pub returns : goal.returns
returns c =
    let l = c.args.lists.now in
    let g = c.greatest_of-worst.ensures in
    let w = c.greatest_of-worst.result in
    let f : SFits w64 w = search rules in
    let h : SFits w64 c.to_minimise.result = search rules in
    let says = simp to_z-of_z at c.in_ok-are_short.ensures in
    let is = simp to_z-of_z at c.to_minimise.ensures in
    let e : c.to_minimise.result ≡ minimised l.sense w = is ∙ ap (λ s. minimised s w) c.sense.ensures in
    let yes : IsTrue c.in_ok-are_short.field-0 = let no = c.if-not-branch.false in cc in
    simp to_z-of_z (subst (λ z. IsShown l c.args.objects.now z c.args.persons.now c.args.few.now) (sym e) (record {
      assigned = c.requires.assigned;
      worst = worst_is l c.args.objects.now c.args.own.now w c.persons-persons.ensures.rule c.requires.assigned c.requires.own g.0 g.1 g.2 g.3;
      short = says.0 yes;
    }))
