-- What a worker's step keeps of its state.
use Rattle.std.proofs.Common.{◌≡◌, ◌≢◌, ℕ, ℤ, ◌+◌, ◌<◌, List, ◌∷◌, length, get_or}
use Rattle.std.proofs.Common.{nat_le, Bool, true, false, ◌&&◌, Result, Ok, Err, refl, ap}
use Rattle.std.proofs.Common.{arith, sym, ◌∙◌, subst, Option, None, Some}
use Rattle.std.proofs.lemmas.Bool.{cond_both}
use Rattle.std.proofs.lemmas.Bool.Decides.{nat_tests}
use Rattle.assign_core.specs.Numbered.{IsNumber, numbered, renumbered}
use Rattle.assign_core.specs.Prices.{IsBelow}
use Rattle.assign_core.proofs.Matchings.{below_itself, below_through}
use Rattle.assign_core.proofs.NumberedLemmas.{numbered-same, numbered_in}
use Rattle.scaled_values.specs.Scaled.{ScaledProblem}
use Rattle.scaled_values.proofs.RowFacts.{benefit_row_is}
use Rattle.bidder.specs.declared.offers.Bid.{Bid}
use Rattle.bidder.specs.declared.offers.Offer.{Offer}
use Rattle.bidder.specs.declared.offers.Offer.TheVariants as made
use Rattle.bidder.specs.Offers.{IsBid, IsOffer}
use Rattle.bidder.proofs.Sound.{bid_sound, offer_is, sound_above}
use Rattle.price_log.specs.History.{IsEarlier, table_at}
use Rattle.price_log.proofs.Histories.{earlier_stays, today-at}
use Rattle.auction_book.specs.declared.answers.Accepted.{Accepted}
use Rattle.auction_book.specs.declared.answers.Note.{Note}
use Rattle.auction_book.specs.declared.answers.Refused.{Refused}
use Rattle.auction_book.specs.declared.answers.Refused.TheVariants.{NotClaimed, WrongPhase, TooLow, Memory}
use Rattle.auction_book.specs.declared.answers.Claim.{Claim}
use Rattle.auction_book.specs.declared.answers.Claim.TheVariants as claim
use Rattle.auction_book.specs.declared.schedule.WorkerState.{WorkerState}
use Rattle.auction_book.specs.Book.{BookData, Holds, persons_of, prices_of, version_of}
use Rattle.auction_book.specs.Changes.{caught_up, claimed, phased, released}
use Rattle.auction_book.specs.Claims.{after_claim, claim_of}
use Rattle.auction_book.specs.Follows.{Follows, GoesOn}
use Rattle.auction_book.specs.Free.{IsFree}
use Rattle.auction_book.specs.Phases.{is_over}
use Rattle.auction_book.specs.Schedule.{IsWorkerState}
use Rattle.auction_book.specs.Session.{EndsClaim, IsHandedIn, IsNoted, IsPrepared, IsUndone}
use Rattle.auction_book.specs.Session.{book_kept_up, next_if_over, prepared, table_kept_up}
use Rattle.auction_book.specs.Session.{version_kept_up}
use Rattle.auction_book.specs.Submissions.{IsSubmitted}
use Rattle.auction_book.proofs.Accepting.{accepted_follows, accepted_free, released_follows, released_free}
use Rattle.auction_book.proofs.Claiming.{claim_by}
use Rattle.auction_book.proofs.Following.{caught_up_follows, claimed_follows, follows_itself, phased_follows}
use Rattle.auction_book.proofs.Following.{recorded_follows}
use Rattle.auction_book.proofs.Opening.{phased_free}
use Rattle.auction_book.proofs.OtherChanges.{caught_up_free, caught_up_trimmed, claimed_free, recorded_free}
use Rattle.auction_book.proofs.Places.{claimed_person}

-- a table that is below the prices and belongs to the log
pub record IsOwn (b : BookData) (table : List ℤ) (version : ℕ) : Type 0 where
  pub long : IsBelow table (prices_of b)
  pub earlier : IsEarlier b.log table version

pub own_kept : (b new : BookData) (table : List ℤ) (version : ℕ) → IsFree b → GoesOn b new → IsOwn b table version → IsOwn new table version
own_kept b new table version free on own = record {
  long = below_through table (prices_of b) (prices_of new) own.long on.below;
  earlier = earlier_stays b.log new.log table version free.log_ascends on.log on.below own.earlier;
}

pub prepared_kept : (w k : ℕ) (b new : BookData) (table : List ℤ) (version : ℕ) (offer : Option Offer) →
    Follows w b new → k ≢ w → IsPrepared b k table version offer → IsPrepared new k table version offer
prepared_kept w k b new table version None f ne h = f.claims k ne ∙ h
prepared_kept w k b new table version (Some offer) f ne h = (
  h.0,
  f.claims k ne ∙ h.1,
  subst (λ (s : ScaledProblem). IsOffer s table version new.ask h.0 offer) (sym f.goes_on.base)
      (subst (λ ask. IsOffer b.base table version ask h.0 offer) (sym (f.asked k h.0 ne h.1)) h.2),
)

-- another worker's state
pub state_kept : (w k : ℕ) (b new : BookData) (state : WorkerState) → IsFree b → Follows w b new → k ≢ w → IsWorkerState b k state → IsWorkerState new k state
state_kept w k b new state free f ne is =
    let own = own_kept b new state.table state.version free f.goes_on (record { long = is.long; earlier = is.earlier }) in
    record {
      long = own.long;
      earlier = own.earlier;
      told = is.told ∙ sym (f.counts k ne);
      prepared = prepared_kept w k b new state.table state.version state.offer f ne is.prepared;
    }

-- a step of an event of one worker
pub record IsStep (w : ℕ) (b new : BookData) : Type 0 where
  pub free : IsFree new
  pub follows : Follows w b new

pub over_claim : (b : BookData) (w person : ℕ) → Holds b w person → numbered (renumbered b.claims w None) w None ≡ None
over_claim b w person held = let r = numbered_in b.claims w person held in numbered-same b.claims w None None r.0 r.1

-- the state after a submission
pub record IsLeft (w : ℕ) (b new : BookData) : Type 0 where
  pub free : IsFree new
  pub ends : EndsClaim w b new

-- the state after a released claim
pub left_released : (w person : ℕ) (b new : BookData) → IsFree b → Holds b w person → new ≡ released b w person → IsLeft w b new
left_released w person b new free held e =
    subst (IsLeft w b) (sym e) (record {
      free = released_free b w person free held;
      ends =
          record { follows = released_follows b w person; none = over_claim b w person held; stopped = refl };
    })

-- after a prepared bid was judged
pub judged_left : (w person : ℕ) (b new : BookData) (table : List ℤ) (bid : Bid) (answer : Result Accepted Refused) →
    IsFree b → IsBelow table (prices_of b) → Holds b w person → bid.person ≡ person → bid.phase ≡ b.ask.phase →
    IsBid b.base table b.ask bid →
    IsSubmitted b w bid answer new → IsLeft w b new
judged_left w person b new table bid (Ok a) free below held who phase is s =
    let sound = bid_sound b.base table b.ask bid is in
    subst (IsLeft w b) (sym s.4) (record {
      free = accepted_free b w bid free (sound_above b.base b.ask table (prices_of b) bid below sound) s.2 s.0;
      ends = record { follows = accepted_follows b w bid table free below sound s.2; none = over_claim b w bid.person s.0; stopped = refl };
    })
judged_left w person b new table bid (Err NotClaimed) free below held who phase is s = absurd (s.0 (held ∙ ap Some (sym who)))
judged_left w person b new table bid (Err WrongPhase) free below held who phase is s = absurd (s.1 phase)
judged_left w person b new table bid (Err (TooLow price)) free below held who phase is s = left_released w bid.person b new free s.0 s.4
judged_left w person b new table bid (Err Memory) free below held who phase is s = left_released w bid.person b new free s.0 s.3

-- after the worker's offer was submitted
pub noted_left : (w : ℕ) (b new : BookData) (table : List ℤ) (version : ℕ) (offer : Option Offer) (told : Note) →
    IsFree b → IsBelow table (prices_of b) → IsPrepared b w table version offer → IsNoted b w offer new told →
    IsLeft w b new
noted_left w b new table version None told free below h s =
    subst (IsLeft w b) (sym s.0) (record {
      free = free;
      ends = record {
        follows = follows_itself b w;
        none = h;
        stopped = refl;
      };
    })
noted_left w b new table version (Some (made.Bid bid)) told free below h s = judged_left w h.0 b new table bid s.0 free below h.1 h.2.0 h.2.1 h.2.3 s.2
noted_left w b new table version (Some (made.Below under)) told free below h s =
    let held : Holds b w under.person = h.1 ∙ ap Some (sym h.2.0) in
    let reach = s.0 in
    subst (IsLeft w b) (sym reach.2) (record {
      free = recorded_free b w under.person reach.0 free held reach.1.hall;
      ends = record { follows = recorded_follows b w under.person reach.0; none = over_claim b w under.person held; stopped = refl };
    })

pub undone_left : (w : ℕ) (b new : BookData) (table : List ℤ) (version : ℕ) (offer : Option Offer) (told : Note) →
    IsFree b → IsBelow table (prices_of b) → IsPrepared b w table version offer → IsUndone b w offer new told →
    IsLeft w b new
undone_left w b new table version None told free below h s = absurd s
undone_left w b new table version (Some (made.Bid bid)) told free below h s = judged_left w h.0 b new table bid
    (Err Memory) free below h.1 h.2.0 h.2.1 h.2.3 s.0
undone_left w b new table version (Some (made.Below under)) told free below h s = left_released w under.person b new free s.0 s.1

pub handed_left : {E : Type 0} (w : ℕ) (b new : BookData) (table : List ℤ) (version : ℕ) (offer : Option Offer)
    (told : Note) (outcome : Result (Unit {0}) E) → IsFree b → IsBelow table (prices_of b) →
    IsPrepared b w table version offer →
    IsHandedIn b w offer new told outcome → IsLeft w b new
handed_left w b new table version offer told (Ok done) free below h s = noted_left w b new table version offer told free below h s
handed_left w b new table version offer told (Err refused) free below h s = undone_left w b new table version offer told free below h s

-- the note if no growth was refused
pub noted_of : {E : Type 0} (b new : BookData) (worker : ℕ) (offer : Option Offer) (told : Note)
    (outcome : Result (Unit {0}) E) (done : Unit {0}) → outcome ≡ Ok done →
    IsHandedIn b worker offer new told outcome → IsNoted b worker offer new told
noted_of {E} b new worker offer told outcome done went handed = subst (λ (o : Result (Unit {0}) E). IsHandedIn b worker offer new told o) went handed

-- catching up
pub step_taken : (catch_up : Bool) (w : ℕ) (b : BookData) → IsFree b → IsStep w b (book_kept_up catch_up b w)
step_taken false w b free = record { free = free; follows = follows_itself b w }
step_taken true w b free = record { free = caught_up_free b w free; follows = caught_up_follows b w free }

-- once a worker has caught up, its table and version are the current ones
pub caught_up_own : (w : ℕ) (b : BookData) → IsFree b → IsOwn (caught_up b w) (prices_of b) (version_of b)
caught_up_own w b free =
    let t = caught_up_trimmed b w free in
    let v = t.version in
    let log = (caught_up b w).log in
    record {
      long = subst (IsBelow (prices_of b)) (sym t.prices) (below_itself (prices_of b));
      earlier = record {
        reached = omega arith;
        same = λ h. sym t.prices ∙ sym (today-at log) ∙ ap (table_at log) v;
        below = λ h. absurd (omega arith);
      };
    }

pub own_taken : (catch_up : Bool) (w : ℕ) (b : BookData) (table : List ℤ) (version : ℕ) → IsFree b →
    IsOwn b table version → IsOwn (book_kept_up catch_up b w) (table_kept_up catch_up b table)
    (version_kept_up catch_up b version)
own_taken false w b table version free own = own
own_taken true w b table version free own = caught_up_own w b free

pub taken_same : (catch_up : Bool) (w : ℕ) (b : BookData) → ((book_kept_up catch_up b w).claims ≡ b.claims) × ((book_kept_up catch_up b w).counts ≡ b.counts)
taken_same false w b = (refl, refl)
taken_same true w b = (refl, refl)

pub step_next : (w : ℕ) (b : BookData) → IsFree b → IsStep w b (next_if_over b)
step_next w b free = cond_both (is_over b) (phased b) b (IsStep w b) (λ h. record { free = phased_free b free h; follows = phased_follows b w free h })
    (λ h. record { free = free; follows = follows_itself b w })

pub next_same : (b : BookData) → ((next_if_over b).claims ≡ b.claims) × ((next_if_over b).counts ≡ b.counts)
next_same b = cond_both (is_over b) (phased b) b (λ (n : BookData). (n.claims ≡ b.claims) × (n.counts ≡ b.counts)) (λ h. (refl, refl)) (λ h. (refl, refl))

-- the state after a claim
pub record IsClaimed (w : ℕ) (b : BookData) (table : List ℤ) (version : ℕ) (answer : Claim) : Type 0 where
  pub step : IsStep w b (after_claim b w answer)
  pub prepared : IsPrepared (after_claim b w answer) w table version (prepared b.base table version answer)
  pub own : IsOwn b table version → IsOwn (after_claim b w answer) table version
  pub counts : (after_claim b w answer).counts ≡ b.counts

-- nobody is claimed
pub claimed_none : (w : ℕ) (b : BookData) (table : List ℤ) (version : ℕ) → IsFree b → numbered b.claims w None ≡ None →
    IsClaimed w b table version claim.Refuted × IsClaimed w b table version claim.Done ×
    IsClaimed w b table version claim.Stopped × IsClaimed w b table version claim.Wait
claimed_none w b table version free none = (
  record { step = record { free = free; follows = follows_itself b w }; prepared = none; own = λ o. o; counts = refl },
  record { step = record { free = free; follows = follows_itself b w }; prepared = none; own = λ o. o; counts = refl },
  record { step = record { free = free; follows = follows_itself b w }; prepared = none; own = λ o. o; counts = refl },
  record { step = record { free = free; follows = follows_itself b w }; prepared = none; own = λ o. o; counts = refl },
)

-- the front of the queue is claimed, and its offer is prepared
pub claimed_some : (w : ℕ) (b : BookData) (table : List ℤ) (version person : ℕ) (rest : List ℕ) → IsFree b →
    numbered b.claims w None ≡ None → IsNumber (length b.claims) w → b.queue ≡ person ∷ rest →
    IsClaimed w b table version (claim.Person person b.ask)
claimed_some w b table version person rest free none number e =
    let p = claimed_person (persons_of b) b.owners b.queue b.claims person rest free.placed_once e in
    let long : length b.queue ≡ length rest + 1 = ap length e ∙ omega arith in
    let some : 0 < length b.queue = omega arith in
    let front : get_or b.queue 0 0 ≡ person = ap (λ q. get_or q 0 0) e in
    let row = benefit_row_is b.base person free.problem p in
    record {
      step = record { free = claimed_free b w free number.first number.last none some; follows = claimed_follows b w };
      prepared = (
        person,
        numbered-same b.claims w (Some (get_or b.queue 0 0)) None number.first number.last ∙
            ap Some front,
        offer_is b.base table version b.ask person row.rising,
      );
      own = λ o. own_kept b (claimed b w) table version free (claimed_follows b w).goes_on o;
      counts = refl;
    }

pub claim_is : (w : ℕ) (b : BookData) (table : List ℤ) (version : ℕ) → IsFree b → numbered b.claims w None ≡ None →
    IsNumber (length b.claims) w → IsClaimed w b table version (claim_of b)
claim_is w b table version free none number =
    let n = claimed_none w b table version free none in
    claim_by (IsClaimed w b table version) b (λ h. n.0) (λ h. n.1) (λ h. n.2) (λ going e. n.3)
    (λ person rest going e. claimed_some w b table version person rest free none number e)

pub in_range : (n w : ℕ) → (nat_le 1 w && nat_le w n) ≡ true → IsNumber n w
in_range n w h = record { first = grind (arith, nat_tests); last = grind (arith, nat_tests) }
