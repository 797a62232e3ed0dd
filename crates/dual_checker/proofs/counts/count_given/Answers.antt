use Rattle.std.proofs.Common.{◌≡◌, ◌≤◌, ◌<◌, ℕ, List, length, arith, get_or}
use Rattle.assign_core.specs.Numbered.{IsNumber, numbered}
use Rattle.dual_checker.proofs.Given.{given_at, given_inside, given_number}
use Rattle.dual_checker.proofs.Places.{at_place}
use Rattle.dual_checker.proofs.Tallies.{all_counted, none_counted, few_counted, one_counted}
use Rattle.dual_checker.proofs.counts.count_given.Goals as goal

pub loop-one-init : goal.loop-one-init
loop-one-init g c = none_counted _ _ c.requires.zero

pub overflow_add-counts : goal.overflow_add-counts
overflow_add-counts g c =
    let p = g.T.Placed in
    let xs = c.args.given.now in
    let given : List ℕ = p.numbers_of xs in
    let i = c.loop-one.one-index in
    let x : ℕ = p.number_of c.one-item.result in
    let counts = c.loop-one.counts in
    let lt : i < length xs = c.loop-one-test.true in
    let inside : i < length given = given_inside p.number_of p.numbers_of p.as_many p.in_order xs i lt in
    let within : IsNumber (length counts) x = given_number p.number_of p.numbers_of p.as_many p.in_order xs _ _ i c.one-item.result
    c.requires.within c.loop-one.auto.counts lt c.one-item.is in
    let read : get_or counts c.place.result 0 ≡ numbered counts x 0 = at_place counts x c.place.result 0 within c.place.ensures in
    let few : numbered counts x 0 ≤ i = few_counted counts given i x c.loop-one.invariant (omega arith) within in
    omega arith

pub loop-one-preserved : goal.loop-one-preserved
loop-one-preserved g c =
    let p = g.T.Placed in
    let xs = c.args.given.now in
    let given : List ℕ = p.numbers_of xs in
    let i = c.loop-one.one-index in
    let x : ℕ = p.number_of c.one-item.result in
    let counts = c.loop-one.counts in
    let lt : i < length xs = c.loop-one-test.true in
    let inside : i < length given = given_inside p.number_of p.numbers_of p.as_many p.in_order xs i lt in
    let at : x ≡ get_or given i x = given_at p.number_of p.numbers_of p.as_many p.in_order xs i c.one-item.result c.one-item.is in
    let within : IsNumber (length counts) x = given_number p.number_of p.numbers_of p.as_many p.in_order xs _ _ i c.one-item.result
    c.requires.within c.loop-one.auto.counts lt c.one-item.is in
    one_counted counts given i x c.place.result c.loop-one.invariant inside at within c.place.ensures

pub returns : goal.returns
returns g c =
    let p = g.T.Placed in
    let long = p.as_many c.args.given.now in
    all_counted c.loop-one.counts (p.numbers_of c.args.given.now) c.loop-one.one-index (omega (arith, c.loop-one-test.false)) c.loop-one.invariant
