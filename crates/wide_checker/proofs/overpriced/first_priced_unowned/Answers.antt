use Rattle.std.proofs.Common.{◌≡◌, ◌≢◌, ◌+◌, ℕ, ℤ, List, pos, map, get_or, arith, rules, sym, subst, ◌∙◌, SFits}
use Rattle.std.specs.Int.{w128}
use Rattle.std.proofs.lemmas.Int.{to_z-of_z}
use Rattle.std.proofs.lemmas.List.{length-map}
use Rattle.assign_core.proofs.NumberedLemmas.{number_within, numbered-next}
use Rattle.cost_lists.specs.Exact.{AreFree}
use Rattle.dual_checker.specs.Faults.{IsFirst}
use Rattle.dual_checker.proofs.Firsts.{one_more}
use Rattle.exact_checker.specs.Faults.{IsPricedUnowned}
use Rattle.exact_checker.proofs.Unowned.{IsFine, fine_unless, free_from, priced_from}
use Rattle.wide_checker.specs.WideNumbers.{wide_value}
use Rattle.wide_checker.proofs.overpriced.first_priced_unowned.Goals as goal

pub loop-i-init : goal.loop-i-init
loop-i-init c = λ k h. absurd (omega arith)

pub returns-then-is_priced_unowned : goal.returns-then-is_priced_unowned
returns-then-is_priced_unowned c = λ xs are.
    let counts = c.args.counts.now in
    let prices : List ℤ = map wide_value c.args.prices.now in
    let i : ℕ = c.loop-i.i in
    let long = length-map c.args.prices.now wide_value in
    let fits : SFits w128 c.value_at.result = search rules in
    let says = simp to_z-of_z at c.is_priced_unowned.ensures in
    let here = says.0 c.if-is_priced_unowned.true in
    let some : get_or prices i (pos 0) ≢ pos 0 = subst (λ z. z ≢ pos 0) c.value_at.ensures here.1 in
    subst (λ m. IsFirst (IsPricedUnowned xs prices) m (i + 1)) long
    (priced_from counts xs prices are (c.requires.long ∙ sym long) i c.loop-i-test.true c.loop-i.invariant
    (rw (numbered-next counts i 0) here.0) (rw (numbered-next prices i (pos 0)) some))

pub loop-i-preserved : goal.loop-i-preserved
loop-i-preserved c =
    let counts = c.args.counts.now in
    let prices : List ℤ = map wide_value c.args.prices.now in
    let i : ℕ = c.loop-i.i in
    let fits : SFits w128 c.value_at.result = search rules in
    let says = simp to_z-of_z at c.is_priced_unowned.ensures in
    let no : ((get_or counts i 0 ≡ 0) × (get_or prices i (pos 0) ≢ pos 0)) → ⊥ = λ h.
    let yes = says.1 (h.0, subst (λ z. z ≢ pos 0) (sym c.value_at.ensures) h.1) in let f = c.if-is_priced_unowned.false in cc in
    one_more (IsFine counts prices) i c.loop-i.invariant (rw (
      numbered-next counts i 0,
      numbered-next prices i (pos 0),
    ) (fine_unless (get_or counts i 0) (get_or prices i (pos 0)) no))

pub returns : goal.returns
returns c = λ xs are.
    let long = length-map c.args.prices.now wide_value in
    subst (λ m. AreFree m (map wide_value c.args.prices.now) xs) long
    (free_from c.args.counts.now xs (map wide_value c.args.prices.now) are (c.requires.long ∙ sym long) (λ j n. c.loop-i.invariant j
    (number_within _ _ j (omega (arith, c.loop-i-test.false)) n)))
