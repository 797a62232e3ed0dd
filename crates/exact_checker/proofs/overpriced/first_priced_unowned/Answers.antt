use Rattle.std.proofs.Common.{◌≡◌, ◌≢◌, pos, get_or, arith, rules, SFits, w64}
use Rattle.std.proofs.lemmas.Int.{to_z-of_z}
use Rattle.assign_core.proofs.NumberedLemmas.{number_within, numbered-next}
use Rattle.dual_checker.proofs.Firsts.{one_more}
use Rattle.exact_checker.proofs.Unowned.{IsFine, fine_unless, free_from, priced_from}
use Rattle.exact_checker.proofs.overpriced.first_priced_unowned.Goals as goal

pub loop-i-init : goal.loop-i-init
loop-i-init c = λ k h. absurd (omega arith)

pub returns-then-is_priced_unowned : goal.returns-then-is_priced_unowned
returns-then-is_priced_unowned c = λ xs are.
    let counts = c.args.counts.now in
    let prices = c.args.prices.now in
    let i = c.loop-i.i in
    let fits : SFits w64 (get_or prices i (pos 0)) = search rules in
    let says = simp to_z-of_z at c.is_priced_unowned.ensures in
    let here = says.0 c.if-is_priced_unowned.true in
    priced_from counts xs prices are c.requires.long i c.loop-i-test.true c.loop-i.invariant
    (rw (numbered-next counts i 0) here.0) (rw (numbered-next prices i (pos 0)) here.1)

pub loop-i-preserved : goal.loop-i-preserved
loop-i-preserved c =
    let counts = c.args.counts.now in
    let prices = c.args.prices.now in
    let i = c.loop-i.i in
    let fits : SFits w64 (get_or prices i (pos 0)) = search rules in
    let says = simp to_z-of_z at c.is_priced_unowned.ensures in
    let no : ((get_or counts i 0 ≡ 0) × (get_or prices i (pos 0) ≢ pos 0)) → ⊥ = λ h. let yes = says.1 h in let f = c.if-is_priced_unowned.false in cc in
    one_more (IsFine counts prices) i c.loop-i.invariant (rw (
      numbered-next counts i 0,
      numbered-next prices i (pos 0),
    ) (fine_unless (get_or counts i 0) (get_or prices i (pos 0)) no))

pub returns : goal.returns
returns c = λ xs are.
    free_from c.args.counts.now xs c.args.prices.now are c.requires.long (λ j n. c.loop-i.invariant j
    (number_within _ _ j (omega (arith, c.loop-i-test.false)) n))
