use Rattle.std.proofs.lemmas.Int.{to_z-of_z}
use Rattle.bottleneck_checker.proofs.Below.{short_same}
use Rattle.bottleneck_checker.proofs.short.list_only.Goals as goal

pub returns : goal.returns
returns c =
    let l = c.args.lists.now in
    let f = c.ranges.worst in
    let same = short_same l c.args.worst c.args.persons.now c.args.objects.now c.requires.fewer c.args.chosen.now c.args.named.now
    c.mark_numbers.new.marks c.mark_numbers-2.new.marks c.requires.chosen c.requires.named c.mark_numbers.ensures c.mark_numbers-2.ensures in
    let says = simp to_z-of_z at c.none_below.ensures in
    ((λ e. same.0 (says.0 e)), (λ h. says.1 (same.1 h)))
