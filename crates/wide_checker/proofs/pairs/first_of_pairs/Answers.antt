use Rattle.std.proofs.Common.{◌≡◌, ℕ, ℤ, List, pos, ◌-◌, ◌+◌, ◌<ℤ◌, ◌≤ℤ◌, length, map, get_or, refl, arith, rules, ap, sym, subst, ◌∙◌, SFits}
use Rattle.std.specs.Int.{w128}
use Rattle.std.proofs.lemmas.Int.{ints, to_z-of_z}
use Rattle.std.proofs.lemmas.List.{length-map}
use Rattle.cost_lists.specs.Given.{rows_given}
use Rattle.cost_lists.specs.Own.{minimised}
use Rattle.exact_checker.specs.Under.{IsUnder}
use Rattle.wide_checker.specs.WideNumbers.{wide_value}
use Rattle.wide_checker.specs.WideSources.{AreWidePairs, triples_in}
use Rattle.exact_checker.proofs.Better.{under_shown}
use Rattle.exact_checker.proofs.Earliest.{IsFirstSoFar, first_found, first_skip, first_take}
use Rattle.exact_checker.proofs.PairSums.{IsUnderAt, from_under, to_under, under_range}
use Rattle.wide_checker.proofs.pairs.first_of_pairs.Goals as goal
use Rattle.wide_checker.proofs.pairs.first_of_pairs.Goals.{then-sum-values, else-sum-values}

pub loop-k-init : goal.loop-k-init
loop-k-init c = λ q lt. absurd (omega arith)

pub loop-k-preserved : goal.loop-k-preserved
loop-k-preserved c =
    let p = c.args.pairs in
    let k = c.loop-k.k in
    let costs : List ℤ = map wide_value p.costs.now in
    let prices : List ℤ = map wide_value c.args.prices.now in
    let values = c.args.values.now in
    let Bad : ℕ → Type 0 = IsUnderAt c.args.sense p.persons.now p.objects.now costs prices values in
    let i : ℕ = get_or p.persons.now k 0 in
    let j : ℕ = get_or p.objects.now k 0 in
    let a : SFits w128 c.cost_at.result = search rules in
    let b : SFits w128 c.price_at-price.result = search rules in
    let v : SFits w128 (get_or values (i - 1) (pos 0)) = search rules in
    let s : SFits w128 c.sum_of-sum.result = search rules in
    let sum = simp to_z-of_z at c.sum_of-sum.ensures in
    let cost = ap (minimised c.args.sense) c.cost_at.ensures.value in
    let price = c.price_at-price.ensures.value in
    elim c.if-sum-values.branch [
      | then-sum-values w ↦
          let test = simp to_z-of_z at w.if-sum-values.true in
          let less : c.sum_of-sum.result <ℤ get_or values (i - 1) (pos 0) = grind (arith, ints, test) in
          let bad : Bad k = omega (arith, ints) in
          subst (IsFirstSoFar p.persons.now p.objects.now Bad (k + 1)) (sym w.first-is)
          (first_take p.persons.now p.objects.now Bad k c.loop-k.first i j w.earlier.result bad refl refl w.earlier.ensures c.loop-k.invariant)
      | else-sum-values w ↦
          let test = simp to_z-of_z at w.if-sum-values.false in
          let upto : get_or values (i - 1) (pos 0) ≤ℤ c.sum_of-sum.result = grind (arith, ints, test) in
          subst (IsFirstSoFar p.persons.now p.objects.now Bad (k + 1)) (sym w.first-is)
          (first_skip p.persons.now p.objects.now Bad k c.loop-k.first (λ bad. omega (arith, ints)) c.loop-k.invariant)
    ]

pub returns : goal.returns
returns c =
    let p = c.args.pairs in
    let sense = c.args.sense in
    let persons = p.persons.now in
    let objects = p.objects.now in
    let costs : List ℤ = map wide_value p.costs.now in
    let prices : List ℤ = map wide_value c.args.prices.now in
    let values = c.args.values.now in
    let n : ℕ = length values in
    let same : length prices ≡ length c.args.prices.now = length-map c.args.prices.now wide_value in
    let are : AreWidePairs n (length prices) p = subst (λ m. AreWidePairs n m p) (sym same) c.requires.pairs in
    let costs_long : length costs ≡ length persons = length-map p.costs.now wide_value ∙ are.costs_long in
    let Bad : ℕ → Type 0 = IsUnderAt sense persons objects costs prices values in
    let end = c.loop-k-test.false in
    let most = c.loop-k.auto.k-end in
    let whole : c.loop-k.k ≡ length persons = omega arith in
    let last : IsFirstSoFar persons objects Bad (length persons) c.loop-k.first =
    subst (λ k. IsFirstSoFar persons objects Bad k c.loop-k.first) whole c.loop-k.invariant in
    under_shown sense sense (rows_given sense (triples_in p) (length prices) 1 n)
    (rows_given sense (triples_in p) (length c.args.prices.now) 1 n) n n (length prices) (length c.args.prices.now)
    prices values c.loop-k.first refl (ap (λ m. rows_given sense (triples_in p) m 1 n) same) refl same
    (first_found persons objects Bad (IsUnder sense (rows_given sense (triples_in p) (length prices) 1 n) prices values)
    n (length prices) (length persons) c.loop-k.first
    (to_under sense persons objects costs prices values are.objects_long costs_long are.persons_in are.objects_in)
    (from_under sense persons objects costs prices values are.objects_long costs_long are.persons_in are.objects_in)
    (under_range sense persons objects costs prices values are.objects_long costs_long are.persons_in are.objects_in) last)
