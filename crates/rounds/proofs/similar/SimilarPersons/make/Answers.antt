use Rattle.std.proofs.Common.{rules, ap, sym, ◌∙◌, subst}
use Rattle.std.specs.Bool.{IsTrue}
use Rattle.rounds.specs.Offers.{offers_of}
use Rattle.rounds.specs.inside.Similar.{IsGathered}
use Rattle.rounds.proofs.Alike.{shared_offers}
use Rattle.rounds.proofs.similar.SimilarPersons.make.Goals as goal

pub returns-clause-made : goal.returns-clause-made
returns-clause-made g c =
    let s = c.args.scaled.now in
    let persons = c.args.persons.now in
    let some : IsTrue c.args.self.now.some = search rules in
    let alike = c.args.self.now.alike.items in
    let firsts = c.gather.new.firsts.items in
    let places = c.as_slice-4.result.now in
    let offers = offers_of s c.args.prices.now c.args.ask in
    let gathered = subst (λ xs. IsGathered xs persons firsts c.gather.new.places.items) c.as_slice.ensures.value c.in_ok-gather.ensures in
    shared_offers s c.args.prices.now c.args.ask alike persons firsts places c.as_slice-3.result.now
    c.hand_out.new.offers.items (c.requires.similar.alike some) c.requires.can.numbers
    (subst (IsGathered alike persons firsts) (sym c.as_slice-4.ensures.value) gathered)
    (c.as_slice-3.ensures.value ∙ c.in_ok-make.ensures.made ∙ ap offers c.as_slice-2.ensures.value)
    c.in_ok-hand_out.ensures.long
    c.in_ok-hand_out.ensures.each
