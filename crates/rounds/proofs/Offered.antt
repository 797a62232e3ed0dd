-- The offers of a round.
use Rattle.std.proofs.Common.{◌≡◌, ℕ, ℤ, suc, ◌<◌, List, None, Some}
use Rattle.std.proofs.Common.{Bool, true, false, length, get_or, refl, ap, sym, ◌∙◌, subst, arith}
use Rattle.std.proofs.lemmas.List.{get_or-map, length-map}
use Rattle.std.proofs.lemmas.Option.{same_Some}
use Rattle.assign_core.specs.Numbered.{numbered}
use Rattle.scaled_values.specs.Scaled.{ScaledProblem}
use Rattle.scaled_values.proofs.RowFacts.{benefit_row_is}
use Rattle.bidder.specs.declared.offers.Ask.{Ask}
use Rattle.bidder.specs.declared.offers.Bid.{Bid}
use Rattle.bidder.specs.declared.offers.Offer.{Offer}
use Rattle.bidder.specs.Offers.{IsOffer, offer_of}
use Rattle.bidder.proofs.Sound.{offer_is}
use Rattle.price_log.proofs.Histories.{today-after_raise}
use Rattle.auction_book.specs.Book.{BookData, prices_of}
use Rattle.auction_book.proofs.Claiming.{ask_is}
use Rattle.rounds.specs.Rounds.{AreClaimed, IsGoing, book_after, plain_of}
use Rattle.rounds.specs.inside.Books.{HaveOffered}
use Rattle.rounds.specs.Offers.{CanOffer}
use Rattle.rounds.specs.Plain.{after_bid}
use Rattle.auction_book.proofs.Calling.{held_is_person}

-- ---- a book's change is the plain one
pub plain-after : (low : Bool) (b : BookData) (worker : ℕ) (bid : Bid) → plain_of (book_after low b worker bid) ≡ after_bid low (plain_of b) bid
plain-after true b worker bid = refl
plain-after false b worker bid = ap (λ (prices : List ℤ). record (after_bid false (plain_of b) bid) {
  prices =
      prices;
}) (today-after_raise b.log bid.object bid.level)

-- ---- the offers of a round
-- the offer at a place is that of the person at that place, who is claimed
pub record IsMade (b : BookData) (persons : List ℕ) (offers : List Offer) (i : ℕ) (offer : Offer) : Type 0 where
  pub within : i < length offers
  pub many : i < length persons
  pub here : get_or offers i offer ≡ offer
  pub person : ℕ
  pub held : numbered b.claims (suc i) None ≡ Some person
  pub at : (d : ℕ) → get_or persons i d ≡ person
  pub is : IsOffer b.base (prices_of b) 0 b.ask person offer

pub made_at : (b : BookData) (persons : List ℕ) (offers : List Offer) (i : ℕ) (offer : Offer) →
    HaveOffered b persons offers → i < length offers → get_or offers i offer ≡ offer → IsMade b persons offers i offer
made_at b persons offers i offer have within here =
    let f = offer_of b.base (prices_of b) 0 b.ask in
    let long : length offers ≡ length persons = ap length have.made ∙ length-map persons f in
    let many : i < length persons = omega arith in
    let person = get_or persons i 0 in
    let held = have.claimed.held i 0 (omega arith) many in
    let number = held_is_person b (suc i) person have.going.free held in
    let made_is : get_or offers i offer ≡ f person = ap (λ (xs : List Offer). get_or xs i offer) have.made ∙ get_or-map f persons i 0 offer many in
    record {
      within = within;
      many = many;
      here = here;
      person = person;
      held = held;
      at = λ d. same_Some (get_or persons i d) person (sym (have.claimed.held i d (omega arith) many) ∙ held);
      is = subst (IsOffer b.base (prices_of b) 0 b.ask person) (sym made_is ∙ here) (offer_is b.base (prices_of b)
          0 b.ask person (benefit_row_is b.base person have.going.free.problem number).rising);
    }

-- claimed persons can make offers from the book's prices
pub can_offer : (b : BookData) (persons : List ℕ) → IsGoing b → AreClaimed persons 0 b.claims → CanOffer b.base (prices_of b) b.ask persons
can_offer b persons going claimed =
    record {
      numbers = λ k d lt. held_is_person b (suc k) (get_or persons k d) going.free (claimed.held k d (omega arith) lt);
      priced = going.free.sizes.priced;
      asked = ask_is b going.free;
    }

pub can_offer_as : (b : BookData) (persons waiting : List ℕ) (s : ScaledProblem) (prices : List ℤ) (ask : Ask) →
    IsGoing b → AreClaimed persons 0 b.claims → s ≡ b.base → prices ≡ prices_of b → ask ≡ b.ask →
    waiting ≡ persons → CanOffer s prices ask waiting
can_offer_as b persons waiting s prices ask going claimed e f g h =
    subst (λ x. CanOffer x prices ask waiting) (sym e) (subst (λ x. CanOffer b.base x ask waiting) (sym f)
    (subst (λ x. CanOffer b.base (prices_of b) x waiting) (sym g) (subst (CanOffer b.base (prices_of b) b.ask)
    (sym h) (can_offer b persons going claimed))))
