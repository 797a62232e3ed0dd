use Rattle.std.proofs.Common.{◌≡◌, ◌<◌, ◌≤◌, ◌-◌, ◌+◌, ◌∙◌, length, None, Some, sym, ap, subst, arith, rules, get_or, SFits}
use Rattle.std.specs.Int.{w128}
use Rattle.std.proofs.lemmas.Int.{to_z-of_z}
use Rattle.std.proofs.lemmas.List.{length-set, get_or_read}
use Rattle.assign_core.specs.Matching.{owner_of}
use Rattle.assign_core.specs.Numbered.{IsNumber, numbered}
use Rattle.assign_core.proofs.NumberedLemmas.{numbered_read, renumber-set}
use Rattle.bidder.proofs.Sound.{sound_above}
use Rattle.auction_book.specs.Book.{BookData, prices_of}
use Rattle.auction_book.specs.Changes.{accepted}
use Rattle.auction_book.specs.Free.{IsFree}
use Rattle.price_log.specs.Changes.{after_raise}
use Rattle.price_log.specs.History.{today}
use Rattle.price_log.proofs.Histories.{after_raise_up}
use Rattle.candidates.proofs.Persons.{lists_stay_on}
use Rattle.auction_book.proofs.Accepting.{acceptable, accepted_free}
use Rattle.auction_book.proofs.Places.{owned_more}
use Rattle.auction_book.proofs.Rooms.{count_fits, room_in_queue}
use Rattle.auction_book.proofs.book.Book.accept.Goals as goal

pub raise-requires-clause-object : goal.raise-requires-clause-object
raise-requires-clause-object c = (acceptable _ c.args.self.now c.args.bid c.self.view_is c.self.invariant.3 c.requires.sound c.requires.high).priced

pub raise-requires-clause-above : goal.raise-requires-clause-above
raise-requires-clause-above c =
    let f : SFits w128 c.args.bid.level = search rules in
    simp to_z-of_z (acceptable _ c.args.self.now c.args.bid c.self.view_is c.self.invariant.3 c.requires.sound c.requires.high).above

pub raise-requires-clause-price : goal.raise-requires-clause-price
raise-requires-clause-price c =
    let f : SFits w128 c.args.bid.level = search rules in
    simp to_z-of_z (acceptable _ c.args.self.now c.args.bid c.self.view_is c.self.invariant.3 c.requires.sound c.requires.high).price

pub requeue-requires : goal.requeue-requires
requeue-requires c =
    let free : IsFree c.args.self.now = subst IsFree c.self.view_is c.self.invariant.3 in
    let room = subst (λ (b : BookData). length b.queue < length b.owners) (sym c.self.view_is)
    (room_in_queue c.args.self.now c.args.worker c.args.bid.person free c.requires.held) in
    let cap = c.self.invariant.0 in
    omega arith

pub overflow_add-index_mut : goal.overflow_add-index_mut
overflow_add-index_mut c =
    let s = c.self.inside in
    let hw : 0 < c.args.worker = c.requires.worker.first in
    let lc : c.args.worker ≤ length s.claims.items =
    (subst (λ (x : BookData). IsNumber (length x.claims) c.args.worker) (sym c.self.view_is)
    c.requires.worker).last in
    let ln : c.args.worker ≤ length s.counts.items = subst (λ m. c.args.worker ≤ m) (sym c.self.invariant.3.sizes.counted) lc in
    let lt : c.args.worker - 1 < length s.counts.items = omega arith in
    let at = get_or_read s.counts.items (c.args.worker - 1) c.index_mut-3.result.now lt c.index_mut-3.ensures.value 0 in
    let few = count_fits _ (c.args.worker - 1) c.self.invariant.3 lt in
    record { fits = rw at few }

pub returns-clause-ok : goal.returns-clause-ok
returns-clause-ok c =
    let s = c.self.inside in
    let w = c.args.worker in
    let bid = c.args.bid in
    let is = c.self.view_is in
    let hw : 0 < w = c.requires.worker.first in
    let ho : 0 < bid.object = c.requires.object.first in
    let at : c.place-place.result ≡ bid.object - 1 = c.place-place.ensures in
    let lo : bid.object ≤ length s.owners.items = (subst (λ (x : BookData). IsNumber (length x.owners) bid.object) (sym is) c.requires.object).last in
    let lc : w ≤ length s.claims.items = (subst (λ (x : BookData). IsNumber (length x.claims) w) (sym is) c.requires.worker).last in
    let ln : w ≤ length s.counts.items = subst (λ m. w ≤ m) (sym c.self.invariant.3.sizes.counted) lc in
    let more = numbered_read s.counts.items w c.index_mut-3.result.now 0 hw ln c.index_mut-3.ensures.value in
    let f : SFits w128 bid.level = search rules in
    let made : c.raise.new.self ≡ after_raise s.log bid.object bid.level = simp to_z-of_z at c.in_ok-raise.ensures.ok in
    let out = numbered_read s.owners.items bid.object c.index.result.now None ho lo
    (subst (λ m. c.index.result.now ≡ get_or s.owners.items m c.index.result.now) at c.index.ensures) in (
      out ∙ ap (λ (x : BookData). owner_of x.owners bid.object) is,
      rw (
        at,
        more,
        sym (renumber-set s.owners.items bid.object (Some bid.person) ho),
        sym (renumber-set s.claims.items w None hw),
        sym (renumber-set s.counts.items w (numbered s.counts.items w 0 + 1) hw),
        c.requeue.ensures.queue,
        out,
        made,
      ) (ap (λ (x : BookData). accepted x w bid) is),
    )

pub invariant_of-self-2 : goal.invariant_of-self-2
invariant_of-self-2 c =
    let s = c.self.inside in
    let w = c.args.worker in
    let bid = c.args.bid in
    let b = c.args.self.now in
    let ho : 0 < bid.object = c.requires.object.first in
    let at : c.place-place.result ≡ bid.object - 1 = c.place-place.ensures in
    let lo : bid.object ≤ length s.owners.items = (subst (λ (x : BookData). IsNumber (length x.owners) bid.object)
    (sym c.self.view_is) c.requires.object).last in
    let out = numbered_read s.owners.items bid.object c.index.result.now None ho lo
    (subst (λ m. c.index.result.now ≡ get_or s.owners.items m c.index.result.now) at c.index.ensures) in
    let q = c.requires.sound in
    let free = subst IsFree c.self.view_is c.self.invariant.3 in
    let f : SFits w128 bid.level = search rules in
    let made : c.raise.new.self ≡ after_raise s.log bid.object bid.level = simp to_z-of_z at c.in_ok-raise.ensures.ok in
    let fit = acceptable _ b bid c.self.view_is c.self.invariant.3 c.requires.sound c.requires.high in
    let now = accepted_free b w bid free (sound_above b.base b.ask q.0 (prices_of b) bid q.1 q.2) c.requires.high c.requires.held in (
      rw (length-set, c.requeue.ensures.capacity) c.self.invariant.0,
      owned_more s.owners.items bid.object bid.person c.place-place.result s.owned c.newly_owned.result
          c.index.result.now at ho lo c.self.invariant.1 out c.newly_owned.ensures,
      rw length-set c.self.invariant.2,
      subst IsFree (sym (returns-clause-ok c).1) now,
      rw made (lists_stay_on _ (today s.log) (today (after_raise s.log bid.object bid.level)) s.lists (after_raise_up s.log bid.object bid.level fit.priced fit.above fit.price) c.self.invariant.4),
    )

pub returns-clause-free : goal.returns-clause-free
returns-clause-free c = (invariant_of-self-2 c).3
