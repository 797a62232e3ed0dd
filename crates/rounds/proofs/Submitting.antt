-- Offers are submitted one by one.
use Rattle.std.proofs.Common.{◌≡◌, ℕ, ℤ, zero, suc, ◌+◌, ◌<◌, ◌≤◌, ◌+ℤ◌, ◌<ℤ◌, ◌⊎◌, inl, inr, List, ◌∷◌, None, Some}
use Rattle.std.proofs.Common.{Bool, true, false, length, get_or, drop, refl, ap, sym, ◌∙◌, subst, arith}
use Rattle.std.proofs.lemmas.Int.{ints}
use Rattle.std.proofs.lemmas.List.{at_drop_more}
use Rattle.std.specs.Int.Signed.{lt_z}
use Rattle.assign_core.specs.declared.numbers.TheConstants.{MOST_PERSONS}
use Rattle.assign_core.specs.Numbered.{IsNumber}
use Rattle.std.specs.List.{All}
use Rattle.assign_core.specs.Prices.{IsBelow, IsPrice, price_of}
use Rattle.assign_core.proofs.NumberedLemmas.{length-renumbered, numbered_in}
use Rattle.assign_core.proofs.Orders.{not_less, where_not_less}
use Rattle.assign_core.proofs.Matchings.{below_itself, below_through}
use Rattle.bidder.specs.declared.offers.Bid.{Bid}
use Rattle.bidder.specs.declared.offers.BelowFloor.{BelowFloor}
use Rattle.bidder.specs.declared.offers.Offer.{Offer}
use Rattle.bidder.specs.declared.offers.Offer.TheVariants as made
use Rattle.bidder.specs.Offers.{IsBid, IsSound, IsUnder, benefits_at}
use Rattle.bidder.proofs.Sound.{bid_high, bid_sound}
use Rattle.price_log.proofs.Versions.{today_is_table}
use Rattle.price_log.proofs.Histories.{today-after_raise}
use Rattle.auction_book.specs.Book.{BookData, Holds, prices_of}
use Rattle.auction_book.specs.Changes.{accepted, released}
use Rattle.auction_book.specs.Follows.{GoesOn}
use Rattle.auction_book.proofs.Following.{goes_on_itself, goes_on_through}
use Rattle.auction_book.specs.Submissions.{IsFitting, IsHigh}
use Rattle.auction_book.specs.Free.{IsFree}
use Rattle.auction_book.proofs.Accepting.{accepted_follows, bid_range, eps_least, released_follows}
use Rattle.rounds.specs.Rounds.{AreClaimed, IsGoing, book_after, book_after_bid, book_after_offers, plain_of, room}
use Rattle.rounds.specs.inside.Books.{AreSubmitted, HaveOffered}
use Rattle.rounds.specs.Plain.{after_offers}
use Rattle.rounds.proofs.Claiming.{claimed_less}
use Rattle.rounds.proofs.Rooms.{room_falls}
use Rattle.rounds.proofs.Offered.{made_at, plain-after}

-- ---- offers are submitted
-- the first i offers have been submitted
pub record IsSubmitting (old now : BookData) (persons : List ℕ) (offers : List Offer) (i : ℕ) : Type 0 where
  pub going : IsGoing now
  pub left : after_offers (drop i offers) (plain_of now) ≡ after_offers offers (plain_of old)
  pub whole : book_after_offers (drop i offers) i now ≡ book_after_offers offers 0 old
  pub claimed : AreClaimed persons i now.claims
  pub base : now.base ≡ old.base
  pub goes_on : GoesOn old now
  pub asked : now.ask ≡ old.ask
  pub below : IsBelow (prices_of old) (prices_of now)
  pub first : i ≡ 0 → now ≡ old
  pub fell : 0 < i → room (prices_of now) < room (prices_of old)

-- these offers are some claimed persons', and the first i have been submitted
pub record IsAtOffer (old now : BookData) (offers : List Offer) (i : ℕ) : Type 0 where
  pub persons : List ℕ
  pub offered : HaveOffered old persons offers
  pub submitting : IsSubmitting old now persons offers i

-- at the start none has
pub no_offer_yet : (b : BookData) (persons : List ℕ) (offers : List Offer) → HaveOffered b persons offers → IsAtOffer b b offers 0
no_offer_yet b persons offers have = record {
  persons = persons;
  offered = have;
  submitting = record {
    going = have.going;
    left = refl;
    whole = refl;
    claimed = have.claimed;
    base = refl;
    goes_on = goes_on_itself b;
    asked = refl;
    below = below_itself (prices_of b);
    first = λ e. refl;
    fell = λ lt. absurd (omega arith);
  };
}

-- what holds of the bid at place i, when it is submitted by worker i + 1, whose number has 16 bits
pub record IsNext (old now : BookData) (i : ℕ) (bid : Bid) : Type 0 where
  pub worker : IsNumber (length now.claims) (i + 1)
  pub few : i + 1 ≤ MOST_PERSONS
  pub held : Holds now (i + 1) bid.person
  pub phase : bid.phase ≡ now.ask.phase
  pub made : IsBid old.base (prices_of old) old.ask bid
  pub fitting : IsFitting now bid

-- the offer that was read is the one at its place
read_here : (offers : List Offer) (i : ℕ) (read offer : Offer) → ((d : Offer) → read ≡ get_or offers i d) → read ≡ offer → get_or offers i offer ≡ offer
read_here offers i read offer h e = sym (h offer) ∙ e

-- the bid that was read at place i
pub next_bid : {old now : BookData} {offers : List Offer} {i : ℕ} {bid : Bid} (read : Offer) →
    IsAtOffer old now offers i → i < length offers → ((d : Offer) → read ≡ get_or offers i d) →
    read ≡ made.Bid bid → IsNext old now i bid
next_bid {old} {now} {offers} {i} {bid} read is within at e =
    let submitting = is.submitting in
    let m = made_at old is.persons offers i (made.Bid bid) is.offered within (read_here offers i read (made.Bid bid) at e) in
    let held = submitting.claimed.held i 0 (omega arith) m.many ∙ ap Some (m.at 0 ∙ sym m.is.0) in
    let place = (numbered_in now.claims (suc i) bid.person held).1 in
    let workers = submitting.going.workers in
    let few = submitting.going.free.problem.size.few in
    let b = m.is.3 in
    let sound = bid_sound old.base (prices_of old) old.ask bid b in
    let asked = subst (λ s. IsSound s old.ask (prices_of old) bid) (sym submitting.base) sound in
    let worker : i + 1 ≡ suc i = omega arith in
    record {
      worker = record { first = omega arith; last = omega arith };
      few = omega arith;
      held = rw worker held;
      phase = m.is.1 ∙ ap (λ a. a.phase) (sym submitting.asked);
      made = b;
      fitting = λ same. (prices_of old, submitting.below, subst (λ a. IsSound now.base a (prices_of old) bid) (sym submitting.asked) asked);
    }

is_less : (v w : ℤ) → lt_z v w ≡ true → v <ℤ w
is_less v w h = grind (arith, ints)

zero_or_more : (i : ℕ) → (i ≡ 0) ⊎ (0 < i)
zero_or_more zero = inl refl
zero_or_more (suc k) = inr (omega arith)

-- the first bid of a round is made from today's prices, so it is high
first_high : (old now : BookData) (i : ℕ) (bid : Bid) → now ≡ old → IsNext old now i bid → IsHigh now bid
first_high old now i bid same next = subst (λ b. IsHigh b bid) (sym same) (bid_high old.base (prices_of old) old.ask bid next.made)

submitted_by : (low : Bool) (old now : BookData) (persons : List ℕ) (offers : List Offer) (i : ℕ) (bid : Bid) →
    lt_z bid.level (price_of (prices_of now) bid.object +ℤ now.ask.eps) ≡ low → IsNext old now i bid →
    IsFree (book_after low now (suc i) bid) → IsSubmitting old now persons offers i
    → after_offers (drop (i + 1) offers) (plain_of (book_after low now (suc i) bid)) ≡ after_offers offers
    (plain_of old) → book_after_offers (drop (i + 1) offers) (i + 1) (book_after low now (suc i) bid)
    ≡ book_after_offers offers 0 old
    → IsSubmitting old (book_after low now (suc i) bid) persons offers (i + 1)
submitted_by true old now persons offers i bid t next free is left whole =
    let low = is_less bid.level (price_of (prices_of now) bid.object +ℤ now.ask.eps) t in
    let place = next.worker.last in
    record {
      going = record {
        free = free;
        unrefuted = is.going.unrefuted;
        unstopped = is.going.unstopped;
        workers =
            length-renumbered now.claims (suc i) None ∙ is.going.workers;
      };
      left = left;
      whole = whole;
      claimed = claimed_less persons now.claims i (omega arith) is.claimed;
      base = is.base;
      goes_on = goes_on_through old now (released now (suc i) bid.person) is.goes_on (released_follows now (suc i) bid.person).goes_on;
      asked = is.asked;
      below = is.below;
      first = λ e. absurd (omega arith);
      fell = λ lt. elim (zero_or_more i) [
        | inl z ↦ let high = first_high old now i bid (is.first z) next in absurd (omega (arith, ints))
        | inr more ↦ is.fell more
      ];
    }
submitted_by false old now persons offers i bid t next free is left whole =
    let high = where_not_less bid.level (price_of (prices_of now) bid.object +ℤ now.ask.eps) t in
    let place = next.worker.last in
    let fit = next.fitting next.phase in
    let follows = accepted_follows now (suc i) bid fit.0 is.going.free fit.1 fit.2 high in
    let range = bid_range now fit.0 bid is.going.free fit.2 in
    let first = range.object.first in
    let last = range.object.last in
    let priced = is.going.free.sizes.priced in
    let after = today-after_raise now.log bid.object bid.level in
    let least = eps_least now is.going.free in
    let table = today_is_table now.log is.going.free.log_ascends in
    let later = subst (All IsPrice) after (today_is_table (accepted now (suc i) bid).log free.log_ascends).each in
    let one = room_falls (prices_of now) bid.object bid.level first (omega arith) table.each later (omega (arith, ints)) in
    let falls = subst (λ p. room p < room (prices_of now)) (sym after) one in
    record {
      going = record {
        free = free;
        unrefuted = is.going.unrefuted;
        unstopped = is.going.unstopped;
        workers =
            length-renumbered now.claims (suc i) None ∙ is.going.workers;
      };
      left = left;
      whole = whole;
      claimed = claimed_less persons now.claims i (omega arith) is.claimed;
      base = is.base;
      goes_on = goes_on_through old now (accepted now (suc i) bid) is.goes_on follows.goes_on;
      asked = is.asked;
      below = below_through (prices_of old) (prices_of now) (prices_of (accepted now (suc i) bid)) is.below follows.goes_on.below;
      first = λ e. absurd (omega arith);
      fell = λ lt. elim (zero_or_more i) [
        | inl z ↦ subst (λ b. room (prices_of (accepted now (suc i) bid)) < room (prices_of b)) (is.first z) falls
        | inr more ↦ let was = is.fell more in omega arith
      ];
    }

-- one offer more
pub offer_more : {old now : BookData} {offers : List Offer} {i : ℕ} {bid : Bid} (new : BookData) (read : Offer) →
    IsAtOffer old now offers i → i < length offers → ((d : Offer) → read ≡ get_or offers i d) → read ≡ made.Bid bid
    → new ≡ book_after_bid now (i + 1) bid → IsFree new → IsAtOffer old new offers (i + 1)
offer_more {old} {now} {offers} {i} {bid} new read is within at was e free =
    let here = read_here offers i read (made.Bid bid) at was in
    let next = next_bid read is within at was in
    let low = lt_z bid.level (price_of (prices_of now) bid.object +ℤ now.ask.eps) in
    let worker : i + 1 ≡ suc i = omega arith in
    let after : new ≡ book_after low now (suc i) bid = e ∙ ap (λ k. book_after_bid now k bid) worker in
    let step = at_drop_more (λ l. after_offers l (plain_of now)) offers i (made.Bid bid) within ∙
    ap (λ o. after_offers (o ∷ drop (i + 1) offers) (plain_of now)) here in
    let left = ap (after_offers (drop (i + 1) offers)) (plain-after low now (suc i) bid) ∙ sym step ∙ is.submitting.left in
    let step_book = at_drop_more (λ l. book_after_offers l i now) offers i (made.Bid bid) within ∙
    ap (λ o. book_after_offers (o ∷ drop (i + 1) offers) i now) here in
    let whole = ap (λ k. book_after_offers (drop (i + 1) offers) k (book_after low now (suc i) bid)) worker ∙ sym step_book ∙ is.submitting.whole in
    let submitted = submitted_by low old now is.persons offers i bid refl next (subst IsFree after free) is.submitting left whole in
    record {
      persons = is.persons;
      offered = is.offered;
      submitting = subst (λ x. IsSubmitting old x is.persons offers (i + 1)) (sym after) submitted;
    }

-- a person finds nothing worth the floor
pub below_offer : {old now : BookData} {offers : List Offer} {i : ℕ} {below : BelowFloor} (read : Offer) →
    IsAtOffer old now offers i → i < length offers → ((d : Offer) → read ≡ get_or offers i d) →
    read ≡ made.Below below → AreSubmitted old offers (Some below.person) now
below_offer {old} {now} {offers} {i} {below} read at_offer within at e =
    let here = read_here offers i read (made.Below below) at e in
    let is = at_offer.submitting in
    let m = made_at old at_offer.persons offers i (made.Below below) at_offer.offered within here in
    let held = is.claimed.held i 0 (omega arith) m.many ∙ ap Some (m.at 0 ∙ sym m.is.0) in
    let step = at_drop_more (λ l. after_offers l (plain_of now)) offers i (made.Below below) within ∙
    ap (λ o. after_offers (o ∷ drop (i + 1) offers) (plain_of now)) here in
    let under = subst (λ p. IsUnder (benefits_at old.base p) (prices_of old) old.ask.floor) (sym m.is.0) m.is.2 in
    let based = subst (λ s. IsUnder (benefits_at s below.person) (prices_of old) old.ask.floor) (sym is.base) under in (
      sym is.left ∙ step,
      record {
        free = is.going.free;
        worker = suc i;
        held = held;
        table = prices_of old;
        below = is.below;
        under = subst (λ floor. IsUnder (benefits_at now.base below.person) (prices_of old) floor) (ap (λ a. a.floor) (sym is.asked)) based;
      },
    )

-- the whole book then
pub below_whole : {old now : BookData} {offers : List Offer} {i : ℕ} {below : BelowFloor} (read : Offer) →
    IsAtOffer old now offers i → i < length offers → ((d : Offer) → read ≡ get_or offers i d) →
    read ≡ made.Below below → now ≡ book_after_offers offers 0 old
below_whole {old} {now} {offers} {i} {below} read at_offer within at e =
    let here = read_here offers i read (made.Below below) at e in
    let step = at_drop_more (λ l. book_after_offers l i now) offers i (made.Below below) within ∙
    ap (λ o. book_after_offers (o ∷ drop (i + 1) offers) i now) here in
    sym step ∙ at_offer.submitting.whole

-- a bid that is high is accepted
pub high_is_accepted : (b : BookData) (worker : ℕ) (bid : Bid) → IsHigh b bid → accepted b worker bid ≡ book_after_bid b worker bid
high_is_accepted b worker bid high = ap (λ t. book_after t b worker bid) (sym (not_less bid.level (price_of (prices_of b) bid.object +ℤ b.ask.eps) high))
