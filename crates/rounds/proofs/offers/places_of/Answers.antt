use Rattle.std.proofs.Common.{sym, subst, IfSome, arith, ◌∙◌}
use Rattle.std.proofs.lemmas.List.{get_or_default}
use Rattle.bidder.specs.Offers.{benefits_at}
use Rattle.candidates.specs.Candidates.{AreCandidates}
use Rattle.rounds.specs.inside.Places.{ArePlaced}
use Rattle.rounds.proofs.Placed.{placed_more}
use Rattle.rounds.proofs.offers.places_of.Goals as goal

pub loop-i-preserved : goal.loop-i-preserved
loop-i-preserved c =
    let persons = c.args.persons.now in
    let i = c.loop-i.i in
    let person = c.index-persons-i.result in
    record {
      long = c.in_ok-push.ensures.len ∙ omega (arith, c.loop-i.invariant.long);
      lists = λ s q have. c.take-list.ensures.lists s q (c.loop-i.invariant.lists s q have);
      placed = λ s q have.
          let taken = c.take-list.ensures.taken s q (c.loop-i.invariant.lists s q have) in
          subst (ArePlaced s q persons 0) (sym c.in_ok-push.ensures.items)
          (placed_more s q persons c.loop-i.places.items i _ (omega (arith, c.loop-i.invariant.long)) (c.loop-i.invariant.placed s q have)
          (λ e. subst (λ j. IfSome c.take-list.result (AreCandidates (benefits_at s j) q))
          (c.index-persons-i.is ∙ get_or_default persons i person e c.loop-i-test.true) taken));
    }
