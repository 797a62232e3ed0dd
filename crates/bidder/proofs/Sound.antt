-- Offers are sound for their tables, and each person has only one.
use Rattle.std.proofs.Common.{◌≡◌, ◌≢◌, ℕ, ℤ, pos, suc, zero, ◌+ℤ◌, ◌-ℤ◌, ◌*ℤ◌, ◌≤ℤ◌, ◌<ℤ◌, ◌<◌, ◌-◌, List, []}
use Rattle.std.proofs.Common.{length, get_or, Option, None, Some, IsSome, MatchOption, unwrap_or, refl, ap, sym}
use Rattle.std.proofs.Common.{◌∙◌, subst, arith}
use Rattle.std.specs.List.{All}
use Rattle.std.proofs.lemmas.Int.{ints, clamps, by_lt_z}
use Rattle.std.proofs.lemmas.List.Elements.{All-nil}
use lib.IntN.{suc_ℤ-*ℤ}
use Rattle.assign_core.specs.Rows.{Listing, IsRising, listed_in, listed_or_zero}
use Rattle.assign_core.specs.Prices.{price_of, IsBelow}
use Rattle.assign_core.proofs.Orders.{less, not_less}
use Rattle.assign_core.proofs.Listed.{entry_found}
use Rattle.scaled_values.specs.Scaled.{ScaledProblem, greatest_benefit, least_benefit, spread, floor_of, top_of}
use Rattle.scaled_values.proofs.RowFacts.{benefits_between}
use Rattle.bidder.specs.declared.scan.BestTwo.{BestTwo}
use Rattle.bidder.specs.declared.offers.Ask.{Ask}
use Rattle.bidder.specs.declared.offers.Bid.{Bid}
use Rattle.bidder.specs.declared.offers.BelowFloor.{BelowFloor}
use Rattle.bidder.specs.declared.offers.Offer.{Offer}
use Rattle.bidder.specs.declared.offers.Offer.TheVariants as made
use Rattle.bidder.specs.BestTwo.{IsSecond, IsBestTwo, best_two}
use Rattle.bidder.specs.Offers.{benefits_at, IsUnder, bar, IsBid, IsOffer, offer_from, offer_of, IsSound}
use Rattle.bidder.proofs.Once.{best_two_once, best_two_is}

-- no listed benefit is above the greatest
pub greatest_listed : (s : ScaledProblem) (i j : ℕ) (a : ℤ) → listed_in (benefits_at s i) j ≡ Some a → a ≤ℤ greatest_benefit s
greatest_listed s i j a h = (entry_found (λ e. (least_benefit s ≤ℤ e.1) × (e.1 ≤ℤ greatest_benefit s)) (benefits_at s i) j a (benefits_between s i) h).1

-- the best object is listed with its value and its price
worth : (row : Listing) (q : List ℤ) (b : BestTwo) (j : ℕ) → j ≡ b.object → IsBestTwo row q b → listed_in row j ≡ Some (b.best +ℤ price_of q b.object)
worth row q b j same is = ap (listed_in row) same ∙ is.listed

amount : (row : Listing) (q : List ℤ) (b : BestTwo) (j : ℕ) → j ≡ b.object → IsBestTwo row q b → listed_or_zero row j ≡ b.best +ℤ price_of q b.object
amount row q b j same is = ap (λ o. unwrap_or o (pos 0)) (worth row q b j same is)

-- the values of the other objects are at most the bar
under_bar : (row : Listing) (q : List ℤ) (floor : ℤ) (j : ℕ) (s : Option ℤ) → IsSecond row q j s →
    All (λ e. e.0 ≢ j → e.1 ≤ℤ (bar floor s +ℤ price_of q e.0)) row
under_bar row q floor j None is = λ k d lt ne. absurd (ne (is k d lt))
under_bar row q floor j (Some w) is = λ k d lt ne. let h = is.0 k d lt ne in omega (arith, ints, clamps)

pub floor_under : (floor : ℤ) (s : Option ℤ) → floor ≤ℤ bar floor s
floor_under floor None = omega (arith, ints)
floor_under floor (Some w) = omega (arith, ints, clamps)

-- the second value is at most the best
pub second_under : (row : Listing) (q : List ℤ) (b : BestTwo) (w : ℤ) → IsBestTwo row q b → b.second ≡ Some w → w ≤ℤ b.best
second_under row q b w is second =
    let next = subst (IsSecond row q b.object) second is.others in
    let le = entry_found (λ e. e.1 ≤ℤ (b.best +ℤ price_of q e.0)) row next.1 _ is.greatest next.3 in
    omega (arith, ints)

-- the bar is at most the best value, if this is at least the floor
pub bar_under : (floor best : ℤ) (s : Option ℤ) → ((w : ℤ) → s ≡ Some w → w ≤ℤ best) → floor ≤ℤ best → bar floor s ≤ℤ best
bar_under floor best None h le = le
bar_under floor best (Some w) h le = let m = h w refl in omega (arith, ints, clamps)

pub bid_sound : (s : ScaledProblem) (q : List ℤ) (ask : Ask) (bid : Bid) → IsBid s q ask bid → IsSound s ask q bid
bid_sound s q ask bid is =
    let row = benefits_at s bid.person in
    let here = worth row q is.two bid.object is.object is.best in
    let benefit = amount row q is.two bid.object is.object is.best in
    let most = greatest_listed s bid.person bid.object _ here in
    let level = is.level in
    let low = floor_under ask.floor is.two.second in
    let others = under_bar row q ask.floor is.two.object is.two.second is.best.others in
    record {
      listed = subst IsSome (sym here) refl;
      near = λ k d lt ne. let o = others k d lt (λ same. ne (same ∙ sym is.object)) in omega (arith, ints);
      topped = omega (arith, ints);
    }

pub sound_above : (s : ScaledProblem) (ask : Ask) (q p : List ℤ) (bid : Bid) → IsBelow q p → IsSound s ask q bid → IsSound s ask p bid
sound_above s ask q p bid below sound = record {
  listed = sound.listed;
  near = λ k d lt ne. let o = sound.near k d lt ne in let u = below.each (get_or (benefits_at s bid.person) k d).0 in omega (arith, ints);
  topped = sound.topped;
}

pub bid_high : (s : ScaledProblem) (q : List ℤ) (ask : Ask) (bid : Bid) → IsBid s q ask bid → (price_of q bid.object +ℤ ask.eps) ≤ℤ bid.level
bid_high s q ask bid is =
    let benefit = amount (benefits_at s bid.person) q is.two bid.object is.object is.best in
    let price = ap (price_of q) is.object in
    let level = is.level in
    let low = bar_under ask.floor is.two.best is.two.second (λ w h. second_under (benefits_at s bid.person) q is.two w is.best h) is.enough in
    omega (arith, ints)

-- a count of steps is one step more than one step less
one_step : (n : ℕ) (step : ℤ) → 0 < n → pos n *ℤ step ≡ (pos (n - 1) *ℤ step) +ℤ step
one_step zero step some = absurd (omega arith)
one_step (suc n) step some =
    let more : pos (suc n) *ℤ step ≡ (pos n *ℤ step) +ℤ step = suc_ℤ-*ℤ (pos n) step in
    let back : suc n - 1 ≡ n = omega arith in
    more ∙ ap (λ m. (pos m *ℤ step) +ℤ step) (sym back)

pub sound_topped : (s : ScaledProblem) (start : ℤ) (ask : Ask) (q : List ℤ) (bid : Bid) → 0 < length s.problem →
    ask.floor ≡ floor_of s start ask.eps → IsSound s ask q bid → bid.level ≤ℤ top_of s start ask.eps
sound_topped s start ask q bid some floor sound =
    let steps = one_step (length s.problem) (spread s +ℤ ask.eps) some in
    let topped = sound.topped in
    within bid.level ask.floor (greatest_benefit s) (least_benefit s) start ask.eps (pos (length s.problem - 1) *ℤ
    (spread s +ℤ ask.eps)) (pos (length s.problem) *ℤ (spread s +ℤ ask.eps)) steps floor topped where
      within : (level floor high low start eps fewer all : ℤ) → all ≡ fewer +ℤ ((high -ℤ low) +ℤ eps) →
          floor ≡ (low -ℤ start) -ℤ fewer → (level +ℤ floor) ≤ℤ (high +ℤ eps) → level ≤ℤ (start +ℤ all)
      within level floor high low start eps fewer all a b c = omega (arith, ints)

-- a bid and Below exclude each other
exclusive : (s : ScaledProblem) (q : List ℤ) (ask : Ask) (bid : Bid) → IsBid s q ask bid → IsUnder (benefits_at s bid.person) q ask.floor → ⊥
exclusive s q ask bid is under =
    let lt = entry_found (λ e. e.1 <ℤ (ask.floor +ℤ price_of q e.0)) (benefits_at s bid.person) is.two.object _ under is.best.listed in
    let le = is.enough in
    absurd (omega (arith, ints))

same_bid : (a b : Bid) → a.person ≡ b.person → a.object ≡ b.object → a.level ≡ b.level → a.phase ≡ b.phase → a.version ≡ b.version → a ≡ b
same_bid a b e f g h i =
    ap (λ x. let y : Bid = record { person = x; object = a.object; level = a.level; phase = a.phase; version = a.version } in y) e
    ∙ ap (λ x. let y : Bid = record { person = b.person; object = x; level = a.level; phase = a.phase; version = a.version } in y) f
    ∙ ap (λ x. let y : Bid = record { person = b.person; object = b.object; level = x; phase = a.phase; version = a.version } in y) g
    ∙ ap (λ x. let y : Bid = record { person = b.person; object = b.object; level = b.level; phase = x; version = a.version } in y) h
    ∙ ap (λ x. let y : Bid = record { person = b.person; object = b.object; level = b.level; phase = b.phase; version = x } in y) i

same_below : (a b : BelowFloor) → a.person ≡ b.person → a.phase ≡ b.phase → a ≡ b
same_below a b e f =
    ap (λ x. let y : BelowFloor = record { person = x; phase = a.phase } in y) e
    ∙ ap (λ x. let y : BelowFloor = record { person = b.person; phase = x } in y) f

bid_once : (s : ScaledProblem) (q : List ℤ) (ask : Ask) (a b : Bid) → a.person ≡ b.person → a.phase ≡ b.phase →
    a.version ≡ b.version → IsBid s q ask a → IsBid s q ask b → a ≡ b
bid_once s q ask a b person phase version x y =
    let two = best_two_once (benefits_at s b.person) q x.two y.two (subst (λ i. IsBestTwo (benefits_at s i) q x.two) person x.best) y.best in
    let object = x.object ∙ ap (λ t. t.object) two ∙ sym y.object in
    let bars = ap (λ t. bar ask.floor t.second) two in
    let benefits = ap (listed_or_zero (benefits_at s a.person)) object ∙ ap (λ i. listed_or_zero (benefits_at s i) b.object) person in
    let left = x.level in
    let right = y.level in
    same_bid a b person object (level a.level b.level _ _ _ _ ask.eps left right bars benefits) phase version where
      level : (v w bar_v bar_w c d eps : ℤ) → (v +ℤ bar_v) ≡ (c +ℤ eps) → (w +ℤ bar_w) ≡ (d +ℤ eps) → bar_v ≡ bar_w → c ≡ d → v ≡ w
      level v w bar_v bar_w c d eps e f g h = omega (arith, ints)

-- a person has only one offer
pub offer_once : (s : ScaledProblem) (q : List ℤ) (version : ℕ) (ask : Ask) (i : ℕ) (a b : Offer) →
    IsOffer s q version ask i a → IsOffer s q version ask i b → a ≡ b
offer_once s q version ask i (made.Bid a) (made.Bid b) x y = ap made.Bid (bid_once s q ask a b (x.0 ∙ sym y.0) (x.1 ∙ sym y.1) (x.2 ∙ sym y.2) x.3 y.3)
offer_once s q version ask i (made.Bid a) (made.Below b) x y =
    absurd (exclusive s q ask a x.3 (subst (λ k. IsUnder (benefits_at s k) q ask.floor) (sym x.0) y.2))
offer_once s q version ask i (made.Below a) (made.Bid b) x y =
    absurd (exclusive s q ask b y.3 (subst (λ k. IsUnder (benefits_at s k) q ask.floor) (sym y.0) x.2))
offer_once s q version ask i (made.Below a) (made.Below b) x y = ap made.Below (same_below a b (x.0 ∙ sym y.0) (x.1 ∙ sym y.1))

under_all : (row : Listing) (q : List ℤ) (floor : ℤ) (b : BestTwo) → IsBestTwo row q b → b.best <ℤ floor → IsUnder row q floor
under_all row q floor b is lt = λ k d in_row. let le = is.greatest k d in_row in omega (arith, ints)

-- the bid at the level at which the object's value is the bar less eps
pub made_is : (s : ScaledProblem) (q : List ℤ) (version : ℕ) (ask : Ask) (i : ℕ) (b : BestTwo) (level : ℤ) →
    IsBestTwo (benefits_at s i) q b → ask.floor ≤ℤ b.best →
    level ≡ ((b.best +ℤ price_of q b.object) -ℤ bar ask.floor b.second) +ℤ ask.eps →
    IsBid s q ask (record { person = i; object = b.object; level = level; phase = ask.phase; version = version })
made_is s q version ask i b level is enough h =
    let benefit = amount (benefits_at s i) q b b.object refl is in
    record { two = b; best = is; object = refl; enough = enough; level = omega (arith, ints) }

from_best : (s : ScaledProblem) (q : List ℤ) (version : ℕ) (ask : Ask) (i : ℕ) (o : Option BestTwo) →
    MatchOption o (benefits_at s i ≡ []) (IsBestTwo (benefits_at s i) q) →
    IsOffer s q version ask i (offer_from q version ask i o)
from_best s q version ask i None is = (refl, refl, subst (λ row. IsUnder row q ask.floor) (sym is) (All-nil (λ e. e.1 <ℤ (ask.floor +ℤ price_of q e.0))))
from_best s q version ask i (Some b) is = by_lt_z {P = IsOffer s q version ask i (offer_from q version ask i (Some b))} b.best ask.floor
    (λ lt. rw (less b.best ask.floor lt) (refl, refl, under_all (benefits_at s i) q ask.floor b is lt))
    (λ le. rw (not_less b.best ask.floor le) (refl, refl, refl, made_is s q version ask i b _ is le refl))

-- the computed offer is the person's
pub offer_is : (s : ScaledProblem) (q : List ℤ) (version : ℕ) (ask : Ask) (i : ℕ) → IsRising (benefits_at s i) →
    IsOffer s q version ask i (offer_of s q version ask i)
offer_is s q version ask i up = from_best s q version ask i (best_two (benefits_at s i) q) (best_two_is (benefits_at s i) q up)
