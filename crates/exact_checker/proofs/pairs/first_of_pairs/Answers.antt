use Rattle.std.proofs.Common.{◌≡◌, ℕ, pos, ◌-◌, ◌+◌, ◌<ℤ◌, ◌≤ℤ◌, length, get_or, refl, arith, rules, sym, subst, SFits, w64}
use Rattle.std.proofs.lemmas.Int.{ints, to_z-of_z}
use Rattle.cost_lists.specs.Given.{rows_given}
use Rattle.cost_lists.specs.Source.{triples_in}
use Rattle.exact_checker.specs.Under.{IsUnder}
use Rattle.exact_checker.proofs.Earliest.{IsFirstSoFar, first_found, first_skip, first_take}
use Rattle.exact_checker.proofs.PairSums.{IsUnderAt, from_under, to_under, under_range}
use Rattle.exact_checker.proofs.pairs.first_of_pairs.Goals as goal
use Rattle.exact_checker.proofs.pairs.first_of_pairs.Goals.{then-sum-values, else-sum-values}

pub loop-k-init : goal.loop-k-init
loop-k-init c = λ q lt. absurd (omega arith)

pub loop-k-preserved : goal.loop-k-preserved
loop-k-preserved c =
    let p = c.args.pairs in
    let k = c.loop-k.k in
    let Bad : ℕ → Type 0 = IsUnderAt c.args.sense p.persons.now p.objects.now p.costs.now c.args.prices.now c.args.values.now in
    let i : ℕ = get_or p.persons.now k 0 in
    let j : ℕ = get_or p.objects.now k 0 in
    let a : SFits w64 (get_or p.costs.now k (pos 0)) = search rules in
    let b : SFits w64 (get_or c.args.prices.now (j - 1) (pos 0)) = search rules in
    let v : SFits w64 (get_or c.args.values.now (i - 1) (pos 0)) = search rules in
    let s : SFits w64 c.sum_of-sum.result = search rules in
    let sum = simp to_z-of_z at c.sum_of-sum.ensures in
    elim c.if-sum-values.branch [
      | then-sum-values w ↦
          let test = simp to_z-of_z at w.if-sum-values.true in
          let less : c.sum_of-sum.result <ℤ get_or c.args.values.now (i - 1) (pos 0) = grind (arith, ints, test) in
          let bad : Bad k = omega (arith, ints) in
          subst (IsFirstSoFar p.persons.now p.objects.now Bad (k + 1)) (sym w.first-is)
          (first_take p.persons.now p.objects.now Bad k c.loop-k.first i j w.earlier.result bad refl refl w.earlier.ensures c.loop-k.invariant)
      | else-sum-values w ↦
          let test = simp to_z-of_z at w.if-sum-values.false in
          let upto : get_or c.args.values.now (i - 1) (pos 0) ≤ℤ c.sum_of-sum.result = grind (arith, ints, test) in
          subst (IsFirstSoFar p.persons.now p.objects.now Bad (k + 1)) (sym w.first-is)
          (first_skip p.persons.now p.objects.now Bad k c.loop-k.first (λ bad. omega (arith, ints)) c.loop-k.invariant)
    ]

pub returns : goal.returns
returns c =
    let p = c.args.pairs in
    let prices = c.args.prices.now in
    let values = c.args.values.now in
    let Bad : ℕ → Type 0 = IsUnderAt c.args.sense p.persons.now p.objects.now p.costs.now prices values in
    let end = c.loop-k-test.false in
    let most = c.loop-k.auto.k-end in
    let whole : c.loop-k.k ≡ length p.persons.now = omega arith in
    let last : IsFirstSoFar p.persons.now p.objects.now Bad (length p.persons.now) c.loop-k.first =
    subst (λ k. IsFirstSoFar p.persons.now p.objects.now Bad k c.loop-k.first) whole c.loop-k.invariant in
    let are = c.requires.pairs in
    first_found p.persons.now p.objects.now Bad (IsUnder c.args.sense (rows_given c.args.sense (triples_in p)
    (length prices) 1 (length values)) prices values) (length values) (length prices) (length p.persons.now) c.loop-k.first
    (to_under c.args.sense p.persons.now p.objects.now p.costs.now prices values are.objects_long are.costs_long are.persons_in are.objects_in)
    (from_under c.args.sense p.persons.now p.objects.now p.costs.now prices values are.objects_long are.costs_long are.persons_in are.objects_in)
    (under_range c.args.sense p.persons.now p.objects.now p.costs.now prices values are.objects_long are.costs_long are.persons_in are.objects_in) last
