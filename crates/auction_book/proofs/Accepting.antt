-- An accepted bid keeps the invariant, and so does a refused one.
use Rattle.std.proofs.Common.{◌≡◌, ℕ, ℤ, pos, zero, suc, ◌+ℤ◌, ◌*ℤ◌, ◌≤ℤ◌, ◌<ℤ◌, ◌+◌, ◌-◌, ◌<◌, ◌≤◌, List, [], ◌∷◌}
use Rattle.std.proofs.Common.{◌++◌, length, get_or, refl, ap, arith, sym, ◌∙◌, subst, Option, None, Some, inl, inr}
use Rattle.std.proofs.Common.{sum, is_some}
use Rattle.std.specs.List.{All}
use Rattle.std.proofs.lemmas.Int.{ints}
use Rattle.std.proofs.lemmas.List.Sums.{sum_by-set}
use Rattle.std.proofs.lemmas.Bool.Decides.{eqb_tells}
use Rattle.std.proofs.Math.IntN.{suc_ℤ-*ℤ}
use Rattle.assign_core.specs.declared.numbers.TheConstants.{PRICE_END}
use Rattle.assign_core.specs.Numbered.{IsNumber, numbered, renumbered}
use Rattle.assign_core.specs.Prices.{IsBelow, IsPrice, price_of}
use Rattle.assign_core.specs.Matching.{owner_of}
use Rattle.assign_core.specs.Slackness.{HasSlack}
use Rattle.assign_core.proofs.NumberedLemmas.{numbered-same, numbered-other, length-renumbered, count-renumbered, numbered_in}
use Rattle.assign_core.proofs.Listed.{IsListedPair, listed_range}
use Rattle.assign_core.proofs.Matchings.{below_itself, matching_more, owners_by}
use Rattle.assign_core.proofs.RaisedPrices.{rise, slack_rises}
use Rattle.scaled_values.specs.Scaled.{greatest_of, top_of}
use Rattle.scaled_values.proofs.EpsList.{range_of_eps}
use Rattle.scaled_values.proofs.RowFacts.{benefit_row_is}
use Rattle.bidder.specs.declared.offers.Bid.{Bid}
use Rattle.bidder.specs.Offers.{IsSound, benefits_at}
use Rattle.bidder.proofs.Accepted.{slack_raised}
use Rattle.bidder.proofs.Sound.{sound_topped}
use Rattle.auction_book.specs.Book.{BookData, Holds, persons_of, prices_of, version_of}
use Rattle.auction_book.specs.Changes.{accepted, released}
use Rattle.auction_book.specs.Follows.{Follows}
use Rattle.auction_book.specs.Free.{IsFree, IsPriced, IsProgress}
use Rattle.auction_book.specs.Submissions.{IsFitting, IsHigh}
use Rattle.price_log.specs.History.{sum_of}
use Rattle.price_log.proofs.Versions.{sum-renumbered}
use Rattle.price_log.proofs.Trims.{continues-kept_raise, continues-refl}
use Rattle.price_log.proofs.Histories.{after_raise_is}
use Rattle.price_log.proofs.Versions.{today_is_table}
use Rattle.price_log.proofs.Histories.{today-after_raise, version-after_raise}
use Rattle.auction_book.proofs.Listings.{listed_problem}
use Rattle.auction_book.proofs.Places.{accepted_places, released_places, unowned}
use Rattle.auction_book.proofs.PhaseBounds.{top_fits}
use Rattle.auction_book.proofs.Moving.{moved_free}

first_low : (eps first now : ℤ) (o : Option ℕ) → pos 1 ≤ℤ eps → IsPriced eps first now o → first ≤ℤ now
first_low eps first now None h p = omega (arith, ints, ap (λ (z : ℤ). z) p)
first_low eps first now (Some i) h p = omega (arith, ints)

priced_accepted : (eps level : ℤ) (start p : List ℤ) (owners : List (Option ℕ)) (j i : ℕ) → pos 1 ≤ℤ eps → 0 < j →
    j ≤ length p → j ≤ length owners → (price_of p j +ℤ eps) ≤ℤ level →
    ((k : ℕ) → IsPriced eps (price_of start k) (price_of p k) (owner_of owners k)) →
    (k : ℕ) → IsPriced eps (price_of start k) (price_of (renumbered p j level) k) (owner_of (renumbered owners j (Some i)) k)
priced_accepted eps level start p owners j i pe h l m up was k = elim (eqb_tells k j) [
  | inl t ↦
      let low = first_low eps (price_of start j) (price_of p j) (owner_of owners j) pe (was j) in
      rw (t.1, numbered-same p j level (pos 0) h l, numbered-same owners j (Some i) None h m) (omega (arith, ints))
  | inr t ↦ rw (numbered-other p j k level (pos 0) t.1, numbered-other owners j k (Some i) None t.1) (was k)
]

topped_accepted : (top level : ℤ) (p : List ℤ) (j : ℕ) → 0 < j → j ≤ length p → level ≤ℤ top →
    ((k : ℕ) → price_of p k ≤ℤ top) → (k : ℕ) → price_of (renumbered p j level) k ≤ℤ top
topped_accepted top level p j h l le was k = elim (eqb_tells k j) [
  | inl t ↦ rw (t.1, numbered-same p j level (pos 0) h l) le
  | inr t ↦ rw (numbered-other p j k level (pos 0) t.1) (was k)
]

counted_more : (counts : List ℕ) (w : ℕ) (v : ℕ) → 0 < w → w ≤ length counts → sum counts ≡ v → sum (renumbered counts w (numbered counts w 0 + 1)) ≡ v + 1
counted_more counts zero v h l e = absurd (omega arith)
counted_more counts (suc k) v h l e = let s = sum_by-set (λ (x : ℕ). x) counts k (get_or counts k 0 + 1) 0 (omega arith) in omega arith

more_risen : (a eps t m x y : ℤ) (n : ℕ) → (a +ℤ (pos n *ℤ eps)) ≤ℤ t → (m +ℤ x) ≡ (t +ℤ y) → (x +ℤ eps) ≤ℤ y → (a +ℤ (pos (suc n) *ℤ eps)) ≤ℤ m
more_risen a eps t m x y n h e g = let s : pos (suc n) *ℤ eps ≡ (pos n *ℤ eps) +ℤ eps = suc_ℤ-*ℤ (pos n) eps in omega (arith, ints)

progress_more : (eps level : ℤ) (start p : List ℤ) (first now j i : ℕ) (owners : List (Option ℕ)) → 0 < j →
    j ≤ length p → j ≤ length owners → (price_of p j +ℤ eps) ≤ℤ level →
    IsProgress eps start p first now owners → IsProgress eps start (renumbered p j level) first (now + 1) (renumbered owners j (Some i))
progress_more eps level start p first now j i owners h l m high was =
    let begun : first ≤ now = was.begun in
    let since : (now + 1) - first ≡ suc (now - first) = omega arith in
    let owned = was.owned in
    let c = count-renumbered is_some owners j (Some i) None h m in
    record {
      begun = omega arith;
      owned = omega arith;
      risen = subst (λ m. (sum_of start +ℤ (pos m *ℤ eps)) ≤ℤ sum_of (renumbered p j level)) (sym since)
          (more_risen (sum_of start) eps (sum_of p) (sum_of (renumbered p j level)) (price_of p j) level
          (now - first) was.risen (sum-renumbered p j level h l) high);
    }

-- eps is at least 1
pub eps_least : (b : BookData) → IsFree b → pos 1 ≤ℤ b.ask.eps
eps_least b free = (range_of_eps b.base b.ask.eps (record { phases = b.ask.phase - 1; at = free.in_phase.slackness })).least

-- the top of the phase is a price
pub top_fits_of : (b : BookData) → IsFree b → top_of b.base (greatest_of b.start) b.ask.eps <ℤ PRICE_END
top_fits_of b free = top_fits b.base b.ask b.start free.problem free.in_phase

-- the level of a sound bid is a price, and is at most top
pub level_topped : (b : BookData) (q : List ℤ) (bid : Bid) → IsFree b → IsSound b.base b.ask q bid → bid.level ≤ℤ top_of b.base (greatest_of b.start) b.ask.eps
level_topped b q bid free sound = sound_topped b.base (greatest_of b.start) b.ask q bid free.problem.size.some free.in_phase.floor_is sound

-- the person and the object of a sound bid are in range
pub bid_range : (b : BookData) (q : List ℤ) (bid : Bid) → IsFree b → IsSound b.base b.ask q bid → IsListedPair (persons_of b) bid.person bid.object
bid_range b q bid free sound = listed_range b.base.problem bid.person bid.object free.problem (listed_problem b.base bid.person bid.object sound.listed)

pub price_in : (p : List ℤ) (j : ℕ) → All IsPrice p → 0 < j → j ≤ length p → IsPrice (price_of p j)
price_in p zero a h l = absurd (omega arith)
price_in p (suc k) a h l = a k (pos 0) (omega arith)

pub accepted_free : (b : BookData) (worker : ℕ) (bid : Bid) → IsFree b → IsSound b.base b.ask (prices_of b) bid →
    IsHigh b bid → Holds b worker bid.person → IsFree (accepted b worker bid)
accepted_free b worker bid free sound high held =
    let p = prices_of b in
    let j = bid.object in
    let n = persons_of b in
    let range = bid_range b p bid free sound in
    let listed = listed_problem b.base bid.person j sound.listed in
    let row = benefit_row_is b.base bid.person free.problem range.person in
    let h : 0 < j = range.object.first in
    let inp : j ≤ length p = subst (λ m. j ≤ m) (sym free.sizes.priced) range.object.last in
    let ino : j ≤ length b.owners = subst (λ m. j ≤ m) (sym free.owners_match.long) range.object.last in
    let pe : pos 1 ≤ℤ b.ask.eps = eps_least b free in
    let w = numbered_in b.claims worker bid.person held in
    let inc : worker ≤ length b.counts = subst (λ m. worker ≤ m) (sym free.sizes.counted) w.1 in
    let up : price_of p j ≤ℤ bid.level = omega (arith, ints) in
    let top : bid.level ≤ℤ top_of b.base (greatest_of b.start) b.ask.eps = level_topped b p bid free sound in
    let fits = top_fits_of b free in
    let least = (price_in p j (today_is_table b.log free.log_ascends).each h inp).least in
    let now : prices_of (accepted b worker bid) ≡ renumbered p j bid.level = today-after_raise b.log j bid.level in
    let next : version_of (accepted b worker bid) ≡ version_of b + 1 = version-after_raise b.log j bid.level in
    record {
      problem = free.problem;
      sizes = record {
        priced = ap length now ∙ length-renumbered p j bid.level ∙ free.sizes.priced;
        started = free.sizes.started;
        counted = length-renumbered b.counts worker (numbered b.counts worker 0 + 1) ∙ free.sizes.counted ∙ sym (length-renumbered b.claims worker None);
        noted = free.sizes.noted ∙ sym (length-renumbered b.claims worker None);
      };
      owners_match = matching_more b.base.problem b.owners j bid.person (record { first = h; last = ino })
          free.owners_match (λ k. unowned n b.owners b.queue b.claims worker bid.person k free.placed_once held) listed;
      owners_slack = subst (λ z. (i k : ℕ) → owner_of (renumbered b.owners j (Some bid.person)) k ≡ Some i →
          HasSlack b.ask.eps z (benefits_at b.base i) k) (sym now)
          (owners_by (λ i k. HasSlack b.ask.eps (renumbered p j bid.level) (benefits_at b.base i) k) b.owners j bid.person (record { first = h; last = ino })
          (slack_raised b.ask.eps p (benefits_at b.base bid.person) j bid.level (omega (arith, ints)) row.rising (record { first = h; last = inp }) sound.near)
          (λ i k ne e. slack_rises b.ask.eps p (renumbered p j bid.level) (benefits_at b.base i) k
          (rise p j bid.level up (record { first = h; last = inp })) (numbered-other p j k bid.level (pos 0) ne)
          (free.owners_slack i k e)));
      placed_once = λ i. accepted_places b.owners b.queue b.claims worker bid.person j i h ino held ∙ free.placed_once i;
      log_ascends = after_raise_is b.log j bid.level free.log_ascends (record { first = h; last = inp })
          (omega (arith, ints)) (record { least = omega (arith, ints); below = omega (arith, ints) });
      priced = subst (λ z. (k : ℕ) → IsPriced b.ask.eps (price_of b.start k) (price_of z k) (owner_of (renumbered b.owners j (Some bid.person)) k)) (sym now)
          (priced_accepted b.ask.eps bid.level b.start p b.owners j bid.person pe h inp ino high free.priced);
      topped = subst (λ z. (k : ℕ) → price_of z k ≤ℤ top_of b.base (greatest_of b.start) b.ask.eps) (sym now)
          (topped_accepted (top_of b.base (greatest_of b.start) b.ask.eps) bid.level p j h inp top free.topped);
      in_phase = free.in_phase;
      counts_total = counted_more b.counts worker (version_of b) w.0 inc free.counts_total ∙ sym next;
      progress = subst (λ z. IsProgress b.ask.eps b.start z b.start_version (version_of (accepted b worker bid))
          (renumbered b.owners j (Some bid.person))) (sym now)
          (subst (λ v. IsProgress b.ask.eps b.start (renumbered p j bid.level) b.start_version v (renumbered b.owners j (Some bid.person))) (sym next)
          (progress_more b.ask.eps bid.level b.start p b.start_version (version_of b) j bid.person b.owners h inp ino high free.progress));
      recorded = free.recorded;
    }

pub released_free : (b : BookData) (worker person : ℕ) → IsFree b → Holds b worker person → IsFree (released b worker person)
released_free b worker person free held =
    let over = renumbered b.claims worker None in
    moved_free b (b.queue ++ person ∷ []) over b.refuted free (length-renumbered b.claims worker None)
    (λ i. released_places b.owners b.queue b.claims worker person i held) free.recorded

pub accepted_follows : (b : BookData) (worker : ℕ) (bid : Bid) (q : List ℤ) → IsFree b → IsBelow q (prices_of b) →
    IsSound b.base b.ask q bid → IsHigh b bid → Follows worker b (accepted b worker bid)
accepted_follows b worker bid q free below sound high =
    let p = prices_of b in
    let range = bid_range b q bid free sound in
    let inp : bid.object ≤ length p = subst (λ m. bid.object ≤ m) (sym free.sizes.priced) range.object.last in
    let pe = eps_least b free in
    let now : prices_of (accepted b worker bid) ≡ renumbered p bid.object bid.level = today-after_raise b.log bid.object bid.level in
    record {
      goes_on = record {
        base = refl;
        workers = length-renumbered b.claims worker None;
        below = subst (IsBelow p) (sym now) (rise p bid.object bid.level (omega (arith, ints)) (record { first = range.object.first; last = inp }));
        log = continues-kept_raise b.log bid.object bid.level;
        refuted = λ h. h;
      };
      counts = λ k ne. numbered-other b.counts worker k (numbered b.counts worker 0 + 1) 0 ne;
      claims = λ k ne. numbered-other b.claims worker k None None ne;
      asked = λ k person ne h. refl;
    }

pub released_follows : (b : BookData) (worker person : ℕ) → Follows worker b (released b worker person)
released_follows b worker person = record {
  goes_on = record {
    base = refl;
    workers = length-renumbered b.claims worker None;
    below = below_itself (prices_of b);
    log = continues-refl b.log;
    refuted = λ h. h;
  };
  counts = λ k ne. refl;
  claims = λ k ne. numbered-other b.claims worker k None None ne;
  asked = λ k person ne h. refl;
}

-- what a high fitting bid needs of the log, and the place of its object
pub record IsAcceptable (b : BookData) (bid : Bid) : Type 0 where
  pub owned : IsNumber (length b.owners) bid.object
  pub priced : IsNumber (length (prices_of b)) bid.object
  pub above : price_of (prices_of b) bid.object <ℤ bid.level
  pub price : IsPrice bid.level

pub acceptable : (s b : BookData) (bid : Bid) → s ≡ b → IsFree s → (q : List ℤ) × IsBelow q (prices_of b) ×
    IsSound b.base b.ask q bid → IsHigh b bid → IsAcceptable s bid
acceptable s b bid e free sound high =
    let q = sound.0 in
    let near = subst (λ (x : BookData). IsSound x.base x.ask q bid) (sym e) sound.2 in
    let high' = subst (λ (x : BookData). IsHigh x bid) (sym e) high in
    let range = bid_range s q bid free near in
    let pe = eps_least s free in
    let top = level_topped s q bid free near in
    let fits = top_fits_of s free in
    let inp : bid.object ≤ length (prices_of s) = subst (λ m. bid.object ≤ m) (sym free.sizes.priced) range.object.last in
    let least = (price_in (prices_of s) bid.object (today_is_table s.log free.log_ascends).each range.object.first inp).least in
    record {
      owned = record { first = range.object.first; last = subst (λ m. bid.object ≤ m) (sym free.owners_match.long) range.object.last };
      priced = record { first = range.object.first; last = inp };
      above = omega (arith, ints);
      price = record { least = omega (arith, ints); below = omega (arith, ints) };
    }

-- the object of a fitting bid of this phase
pub record IsPlacedBid (b : BookData) (bid : Bid) : Type 0 where
  pub owned : IsNumber (length b.owners) bid.object
  pub priced : IsNumber (length (prices_of b)) bid.object

pub placed_bid : (b : BookData) (bid : Bid) → IsFree b → IsFitting b bid → bid.phase ≡ b.ask.phase → IsPlacedBid b bid
placed_bid b bid free fitting same =
    let sound = fitting same in
    let range = bid_range b sound.0 bid free sound.2 in
    record {
      owned = record { first = range.object.first; last = subst (λ m. bid.object ≤ m) (sym free.owners_match.long) range.object.last };
      priced = record { first = range.object.first; last = subst (λ m. bid.object ≤ m) (sym free.sizes.priced) range.object.last };
    }
