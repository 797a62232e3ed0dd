use Rattle.std.proofs.Common.{◌≡◌, ℤ, List, [], Option, Some, MatchOption, subst, length, refl, arith, rules, SFits}
use Rattle.std.specs.Int.{w128}
use Rattle.std.proofs.lemmas.Int.{ints, to_z-of_z}
use Rattle.assign_core.specs.Numbered.{IsNumber}
use Rattle.assign_core.specs.Benefits.{IsBenefit}
use Rattle.assign_core.proofs.Listed.{entry_found}
use Rattle.assign_core.specs.Rows.{Listing}
use Rattle.bidder.specs.declared.scan.BestTwo.{BestTwo}
use Rattle.bidder.specs.BestTwo.{IsBestTwo}
use Rattle.bidder.specs.Offers.{benefits_at}
use Rattle.bidder.proofs.Sound.{made_is, bid_sound, bar_under, second_under}
use Rattle.scaled_values.proofs.RowFacts.{benefit_row_is}
use Rattle.bidder.proofs.Entries.{floor_least}
use Rattle.bidder.proofs.offers.make_bid_of.Goals as goal

found_is : (row : Listing) (q : List ℤ) (o : Option BestTwo) (b : BestTwo) → o ≡ Some b → MatchOption o (row ≡ []) (IsBestTwo row q) → IsBestTwo row q b
found_is row q o b is h = subst (λ x. MatchOption x (row ≡ []) (IsBestTwo row q)) is h

pub level_of-requires-clause-object : goal.level_of-requires-clause-object
level_of-requires-clause-object c =
    let s = c.args.scaled.now in
    rw c.requires.table (entry_found (λ e. IsNumber (length s.problem) e.0) (benefits_at s c.args.person)
    c.in-Some.best.object _ (benefit_row_is s c.args.person c.n-n.ensures.rule c.requires.person).within
    (found_is (benefits_at c.args.scaled.now c.args.person) c.args.prices.now c.args.found c.in-Some.best c.in-Some.is c.requires.best).listed)

pub level_of-requires-clause-benefit : goal.level_of-requires-clause-benefit
level_of-requires-clause-benefit c =
    let s = c.args.scaled.now in
    entry_found (λ e. IsBenefit e.1) (benefits_at s c.args.person) c.in-Some.best.object _
    (benefit_row_is s c.args.person c.n-n.ensures.rule c.requires.person).benefits
    (found_is (benefits_at c.args.scaled.now c.args.person) c.args.prices.now c.args.found c.in-Some.best c.in-Some.is c.requires.best).listed

pub level_of-requires-clause-floor : goal.level_of-requires-clause-floor
level_of-requires-clause-floor c = floor_least c.args.scaled.now c.args.ask c.n-n.ensures.rule c.requires.ask

pub level_of-requires-clause-enough : goal.level_of-requires-clause-enough
level_of-requires-clause-enough c =
    let best = c.in-Some.best in
    bar_under c.args.ask.floor best.best best.second
    (λ w h. second_under (benefits_at c.args.scaled.now c.args.person) c.args.prices.now best w
    (found_is (benefits_at c.args.scaled.now c.args.person) c.args.prices.now c.args.found c.in-Some.best c.in-Some.is c.requires.best) h) (grind (arith, ints, c.if-best-ask.false))

pub returns-clause-offer : goal.returns-clause-offer
returns-clause-offer c =
    let f : SFits w128 c.level_of.result = search rules in
    let is = made_is c.args.scaled.now c.args.prices.now c.args.version c.args.ask c.args.person c.in-Some.best
    c.level_of.result (found_is (benefits_at c.args.scaled.now c.args.person) c.args.prices.now c.args.found c.in-Some.best c.in-Some.is c.requires.best) (grind (arith, ints, c.if-best-ask.false)) c.level_of.ensures in
    (refl, refl, refl, simp to_z-of_z is)

pub returns-clause-sound : goal.returns-clause-sound
returns-clause-sound c =
    let f : SFits w128 c.level_of.result = search rules in
    let is = made_is c.args.scaled.now c.args.prices.now c.args.version c.args.ask c.args.person c.in-Some.best
    c.level_of.result (found_is (benefits_at c.args.scaled.now c.args.person) c.args.prices.now c.args.found c.in-Some.best c.in-Some.is c.requires.best) (grind (arith, ints, c.if-best-ask.false)) c.level_of.ensures in
    simp to_z-of_z (bid_sound c.args.scaled.now c.args.prices.now c.args.ask _ is)
