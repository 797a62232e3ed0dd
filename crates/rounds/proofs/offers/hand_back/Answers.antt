use Rattle.std.proofs.Common.{◌≡◌, ◌≢◌, ◌<◌, ◌+◌, length, get_or, sym, ap, subst, IfSome, arith, ◌∙◌}
use Rattle.std.proofs.lemmas.List.{get_or_default, get_or-set_other}
use Rattle.bidder.specs.Offers.{benefits_at}
use Rattle.candidates.specs.Candidates.{AreCandidates}
use Rattle.rounds.specs.declared.offers.Place.{Place}
use Rattle.rounds.proofs.Placed.{more_set, placed_as}
use Rattle.rounds.proofs.offers.hand_back.Goals as goal

pub loop-i-preserved : goal.loop-i-preserved
loop-i-preserved c =
    let persons = c.args.persons.now in
    let first = c.args.places.now in
    let places = c.loop-i.places in
    let i = c.loop-i.i in
    let person = c.index-persons-i.result in
    let own = c.index-places-i.result in
    let at : i < length first = omega (arith, c.loop-i-test.true) in
    let lt : i < length persons = omega (arith, c.loop-i-test.true) in
    let same : own ≡ get_or first i own = c.index-places-i.is ∙ c.loop-i.invariant.rest i own (omega arith) in
    record {
      rest = λ k d le.
          let other : k ≢ i = λ e. absurd (omega (arith, le, e)) in
          get_or-set_other places i k c.give_back.new.place d other ∙ c.loop-i.invariant.rest k d (omega (arith, le));
      offers = λ k d e. more_set (λ j o. o ≡ (get_or first j e).offer) c.loop-i.offers i c.give_back.result (omega (arith, c.loop-i-test.true))
          (λ j f lt. c.loop-i.invariant.offers j f e lt)
          (c.give_back.ensures.offer ∙ ap (λ (p : Place). p.offer) (sym c.index-places-i.is ∙ same ∙ get_or_default first i own e at)) k d;
      lists = λ s q have placed.
          let is = placed i own person at in
          let back = placed_as s q persons (get_or first i own) (get_or places i own) (0 + i) i person
          (sym (c.loop-i.invariant.rest i own (omega arith))) (omega arith) is in
          c.give_back.ensures.lists s q (c.loop-i.invariant.lists s q have placed)
          (subst (λ j. IfSome (get_or places i own).list (AreCandidates (benefits_at s j) q)) (sym c.index-persons-i.is) back);
    }
