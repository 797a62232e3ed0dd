use Rattle.std.proofs.Common.{length, refl, ap, ◌∙◌, rules, pos}
use Rattle.std.proofs.lemmas.Int.{to_z-of_z}
use Rattle.std.proofs.lemmas.List.{length-replicate}
use Rattle.bottleneck_checker.specs.declared.short.TheConstants.{LOWEST}
use Rattle.bottleneck_checker.proofs.Below.{below_same}
use Rattle.bottleneck_checker.proofs.short.none_below.Goals as goal

pub returns-in-None : goal.returns-in-None
returns-in-None c =
    let l = c.args.lists.now in
    let f = c.ranges.worst in
    let a = simp to_z-of_z at c.set_marked.ensures.each in
    let b = c.set_marked-2.ensures.each in
    let same = below_same l c.args.chosen.now c.args.named.now c.args.worst c.set_marked.new.list c.set_marked-2.new.list c.args.values.now c.args.prices.now
    c.persons-persons.ensures.rule c.requires.worst c.requires.values c.requires.prices
    (c.set_marked.ensures.long ∙ ap length c.requires.values ∙ length-replicate (length l.rows) LOWEST)
    (c.set_marked-2.ensures.long ∙ ap length c.requires.prices ∙ length-replicate l.m (pos 0)) a b in
    ((λ e. same.0 c.in-None.ensures), (λ h. refl))

pub returns-in-Some : goal.returns-in-Some
returns-in-Some c =
    let l = c.args.lists.now in
    let f = c.ranges.worst in
    let a = simp to_z-of_z at c.set_marked.ensures.each in
    let b = c.set_marked-2.ensures.each in
    let same = below_same l c.args.chosen.now c.args.named.now c.args.worst c.set_marked.new.list c.set_marked-2.new.list c.args.values.now c.args.prices.now
    c.persons-persons.ensures.rule c.requires.worst c.requires.values c.requires.prices
    (c.set_marked.ensures.long ∙ ap length c.requires.values ∙ length-replicate (length l.rows) LOWEST)
    (c.set_marked-2.ensures.long ∙ ap length c.requires.prices ∙ length-replicate l.m (pos 0)) a b in
    let found = c.in-Some.ensures in
    ((λ e. absurd (search rules)), (λ h. absurd (same.1 h _ _ found.1.here)))
