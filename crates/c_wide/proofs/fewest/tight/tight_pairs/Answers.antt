use Rattle.std.proofs.Common.{◌≡◌, ℕ, List, ℤ, pos, length, get_or, arith, rules, subst, SFits, w64}
use Rattle.std.proofs.lemmas.Int.{to_z-of_z}
use Rattle.cost_lists.specs.Source.{part_of}
use Rattle.cost_lists.proofs.CutRows.{part_fits, part_long}
use Rattle.c_wide.specs.fewest.Tight.{AreNoted, AreTight}
use Rattle.c_wide.proofs.NotedRows.{person_noted}
use Rattle.c_wide.proofs.fewest.tight.tight_pairs.Goals as goal

pub loop-i-preserved : goal.loop-i-preserved
loop-i-preserved c =
    let sense = c.args.sense in
    let i = c.loop-i.i in
    let costs = c.args.costs.now in
    let prices = c.args.prices.now in
    let values = c.args.values.now in
    let m : ℕ = length prices in
    let after = c.note_row.new.tight.items in
    let fits : SFits w64 (get_or values i (pos 0)) = search rules in
    let whole : length (part_of m i costs) ≡ m = part_long m i costs (part_fits (length values) m i costs c.requires.long c.loop-i-test.true) in
    let noted = simp to_z-of_z at c.in_ok-note_row.ensures.noted in
    let Are : List ℤ → Type 0 = λ r. AreNoted sense r prices (get_or values i (pos 0)) i (length r) after in
    let here : Are (part_of m i costs) = subst Are c.part-row.ensures noted in
    person_noted sense costs prices values i c.loop-i.tight.items after c.in_ok-note_row.ensures.before c.loop-i.invariant
    (subst (λ (k : ℕ). AreNoted sense (part_of m i costs) prices (get_or values i (pos 0)) i k after) whole here)

pub returns : goal.returns
returns c =
    let end : c.loop-i.i ≡ length c.args.values.now = (let a = c.loop-i-test.false in let b = c.loop-i.auto.i-end in omega arith) in
    subst (λ (k : ℕ). AreTight c.args.sense c.args.costs.now c.args.prices.now c.args.values.now k c.loop-i.tight.items) end c.loop-i.invariant
