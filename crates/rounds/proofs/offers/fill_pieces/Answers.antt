use Rattle.std.proofs.Common.{◌≡◌, ◌<◌, ◌≤◌, ◌+◌, List, length, drop, get_or, None, arith, ap, sym, subst, ◌∙◌}
use Rattle.std.proofs.lemmas.List.{take_at}
use Rattle.bidder.specs.Offers.{offer_of}
use Rattle.rounds.specs.declared.offers.Place.{Place}
use Rattle.rounds.specs.inside.Places.{ArePlaced}
use Rattle.rounds.proofs.Filled.{filled}
use Rattle.rounds.proofs.Placed.{placed_as, placed_piece}
use Rattle.rounds.proofs.offers.fill_pieces.Goals as goal

pub par_chunks_mut_for_each-requires-clause-accepts : goal.par_chunks_mut_for_each-requires-clause-accepts
par_chunks_mut_for_each-requires-clause-accepts g c = λ κs ok start part chunk.
    let s = c.args.scaled.now in
    let q = c.args.prices.now in
    let persons = c.args.persons.now in
    let places = c.as_mut_slice.result.now in
    let placed = subst (ArePlaced s q persons 0) (sym c.as_mut_slice.ensures.value) (c.in_ok-places.ensures.placed s q c.requires.lists) in
    let long : length places ≡ length persons = ap length c.as_mut_slice.ensures.value ∙ c.in_ok-places.ensures.long in
    let within : start + length part.now ≤ length places = chunk.in_bounds in (
      omega (arith, within, long),
      c.requires.can,
      placed_piece s q persons places part.now start within chunk.elements placed,
    )

pub hand_back-requires-clause-places : goal.hand_back-requires-clause-places
hand_back-requires-clause-places g c =
    let whole = take_at c.par_chunks_mut_for_each.new.s (drop (length c.par_chunks_mut_for_each.new.s) c.in_ok-places.places.items)
    c.in_ok-places.places.len (c.par_chunks_mut_for_each.auto.s ∙ ap length c.as_mut_slice.ensures.value ∙ sym c.in_ok-places.places.ok.0) in
    ap length (c.as_mut_slice-2.ensures.value ∙ whole) ∙ c.par_chunks_mut_for_each.auto.s ∙ ap length c.as_mut_slice.ensures.value ∙ c.in_ok-places.ensures.long

pub returns-clause-offers : goal.returns-clause-offers
returns-clause-offers g c =
    let offer = offer_of c.args.scaled.now c.args.prices.now 0 c.args.ask in
    let persons = c.args.persons.now in
    let places = c.par_chunks_mut_for_each.new.s in
    let whole = take_at c.par_chunks_mut_for_each.new.s (drop (length c.par_chunks_mut_for_each.new.s) c.in_ok-places.places.items)
    c.in_ok-places.places.len (c.par_chunks_mut_for_each.auto.s ∙ ap length c.as_mut_slice.ensures.value ∙ sym c.in_ok-places.places.ok.0) in
    let end = c.as_mut_slice-2.ensures.value ∙ whole in
    let long : length c.as_mut_slice.result.now ≡ length persons = ap length c.as_mut_slice.ensures.value ∙ c.in_ok-places.ensures.long in
    filled offer persons c.hand_back.new.offers (c.hand_back.auto.offers ∙ c.requires.long) (λ k d e lt.
    let within : k < length c.as_mut_slice.result.now = omega (arith, lt, long) in
    let nothing : Place = record { offer = d; list = None } in
    let at = (c.par_chunks_mut_for_each.ensures.by_index k nothing within).1 in
    let in_part : at.offset < length at.after_call.now = omega (arith, at.offset_in_chunk, at.call.0) in
    c.hand_back.ensures.offers k d nothing lt ∙ ap (λ (xs : List Place). (get_or xs k nothing).offer) end
    ∙ ap (λ (p : Place). p.offer) (sym at.new_element) ∙ at.call.2 at.offset nothing e in_part
    ∙ ap (λ j. offer (get_or persons j e)) at.start_plus_offset)

pub returns-clause-lists : goal.returns-clause-lists
returns-clause-lists g c =
    let s = c.args.scaled.now in
    let q = c.args.prices.now in
    let persons = c.args.persons.now in
    let places = c.par_chunks_mut_for_each.new.s in
    let placed : ArePlaced s q persons 0 places = λ k d e lt.
    let within : k < length c.as_mut_slice.result.now = omega (arith, lt, c.par_chunks_mut_for_each.auto.s) in
    let at = (c.par_chunks_mut_for_each.ensures.by_index k d within).1 in
    let in_part : at.offset < length at.after_call.now = omega (arith, at.offset_in_chunk, at.call.0) in
    let next : at.start + at.offset ≡ 0 + k = omega (arith, at.start_plus_offset) in
    placed_as s q persons (get_or at.after_call.now at.offset d) (get_or places k d) (at.start + at.offset) (0 + k) e at.new_element next
    (at.call.1 at.offset d e in_part) in
    let whole = take_at c.par_chunks_mut_for_each.new.s (drop (length c.par_chunks_mut_for_each.new.s) c.in_ok-places.places.items)
    c.in_ok-places.places.len (c.par_chunks_mut_for_each.auto.s ∙ ap length c.as_mut_slice.ensures.value ∙ sym c.in_ok-places.places.ok.0) in
    c.hand_back.ensures.lists s q (c.in_ok-places.ensures.lists s q c.requires.lists)
    (subst (ArePlaced s q persons 0) (sym (c.as_mut_slice-2.ensures.value ∙ whole)) placed)
