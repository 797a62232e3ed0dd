use Rattle.std.proofs.Common.{ℕ, ◌≡◌, length, arith, subst}
use Rattle.c_wide.specs.exact.Pairs.{HasPlaces}
use Rattle.c_wide.proofs.PlacedPairs.{no_places}
use Rattle.c_wide.proofs.exact.pairs.unit_pairs.Goals as goal

pub loop-place-init : goal.loop-place-init
loop-place-init c =
    let none = c.no_pairs-pairs.ensures in
    no_places c.args.unit c.args.n c.args.m c.args.costs.now c.no_pairs-pairs.result none.persons none.objects none.costs

pub loop-place-preserved : goal.loop-place-preserved
loop-place-preserved c = c.in_ok-push_place.ensures c.args.n c.requires.long c.loop-place.invariant

pub returns : goal.returns
returns c =
    let end : c.loop-place.place ≡ length c.args.costs.now =
    (let a = c.loop-place-test.false in let b = c.loop-place.auto.place-end in omega arith) in
    subst (λ (k : ℕ). HasPlaces c.args.unit c.args.n c.args.m c.args.costs.now k c.loop-place.pairs) end c.loop-place.invariant
