-- A sound bid: its person and its object, and the slackness that it gives once it is accepted.
use Rattle.std.proofs.Common.{◌≡◌, ◌≢◌, ℕ, ℤ, pos, ◌+ℤ◌, ◌≤ℤ◌, List, Some, unwrap_or, length, get_or, ap, arith, sym, subst, ◌∙◌, inl, inr}
use Rattle.std.specs.List.{All}
use Rattle.std.proofs.lemmas.Int.{ints}
use Rattle.std.proofs.lemmas.Bool.Decides.{eqb_tells}
use Rattle.assign_core.specs.Numbered.{IsNumber, renumbered}
use Rattle.assign_core.specs.Rows.{Listing, IsProblem, IsRising, listed_in, listed_or_zero}
use Rattle.assign_core.specs.Prices.{price_of}
use Rattle.assign_core.specs.Slackness.{HasSlack}
use Rattle.assign_core.proofs.BenefitRows.{length-benefit_rows}
use Rattle.assign_core.proofs.Listed.{listing_within, object_within, rising_listed}
use Rattle.assign_core.proofs.NumberedLemmas.{numbered-same, numbered-other}
use Rattle.scaled_values.specs.Scaled.{ScaledProblem, benefits_of}
use Rattle.scaled_values.proofs.RowFacts.{benefit_row_is}
use Rattle.bidder.specs.declared.offers.Ask.{Ask}
use Rattle.bidder.specs.declared.offers.Bid.{Bid}
use Rattle.bidder.specs.Offers.{IsSound, benefits_at}

-- the person and the object of a sound bid
pub record IsPlaced (s : ScaledProblem) (bid : Bid) : Type 0 where
  pub person : IsNumber (length s.problem) bid.person
  pub object : IsNumber (length s.problem) bid.object

pub sound_placed : (s : ScaledProblem) (ask : Ask) (q : List ℤ) (bid : Bid) → IsProblem s.problem → IsSound s ask q bid → IsPlaced s bid
sound_placed s ask q bid problem sound =
    let long = length-benefit_rows s.sense s.problem in
    let person : IsNumber (length s.problem) bid.person = subst (λ n. IsNumber n bid.person) long
    (listing_within (benefits_of s) bid.person bid.object sound.listed) in
    record {
      person = person;
      object = object_within (length s.problem) (benefits_at s bid.person) bid.object (benefit_row_is s bid.person problem person).within sound.listed;
    }

own_entry : (eps b x p level r : ℤ) → pos 0 ≤ℤ eps → x ≡ b → p ≡ level → r ≡ level → (x +ℤ p) ≤ℤ (b +ℤ r +ℤ eps)
own_entry eps b x p level r h e f g = omega (arith, ints)

other_entry : (eps b x p level r : ℤ) → p ≡ level → (x +ℤ level) ≤ℤ (b +ℤ eps +ℤ r) → (x +ℤ p) ≤ℤ (b +ℤ r +ℤ eps)
other_entry eps b x p level r e h = omega (arith, ints)

-- an object has slackness once its price is this level, if at this level no other object has a
-- value over eps above its own
pub slack_raised : (eps : ℤ) (p : List ℤ) (row : Listing) (j : ℕ) (level : ℤ) → pos 0 ≤ℤ eps → IsRising row → IsNumber (length p) j →
    All (λ e. e.0 ≢ j → (e.1 +ℤ level) ≤ℤ (listed_or_zero row j +ℤ eps +ℤ price_of p e.0)) row → HasSlack eps (renumbered p j level) row j
slack_raised eps p row j level least up number near = λ k d lt.
    let same : price_of (renumbered p j level) j ≡ level = numbered-same p j level (pos 0) number.first number.last in
    let e : ℕ × ℤ = get_or row k d in
    elim (eqb_tells e.0 j) [
      | inl t ↦
          let found : listed_in row j ≡ Some e.1 = subst (λ i. listed_in row i ≡ Some e.1) t.1 (rising_listed row k d up lt) in
          let mine : e.1 ≡ listed_or_zero row j = sym (ap (λ o. unwrap_or o (pos 0)) found) in
          own_entry eps (listed_or_zero row j) e.1 (price_of (renumbered p j level) j) level
          (price_of (renumbered p j level) e.0) least mine same (ap (price_of (renumbered p j level)) t.1 ∙ same)
      | inr t ↦
          let at : price_of (renumbered p j level) e.0 ≡ price_of p e.0 = numbered-other p j e.0 level (pos 0) t.1 in
          other_entry eps (listed_or_zero row j) e.1 (price_of (renumbered p j level) j) level (price_of (renumbered p j level) e.0) same
          (subst (λ z. (e.1 +ℤ level) ≤ℤ (listed_or_zero row j +ℤ eps +ℤ z)) (sym at) (near k d lt t.1))
    ]

-- a sound bid gives slackness once it is accepted
pub accepted_slack : (s : ScaledProblem) (ask : Ask) (p : List ℤ) (bid : Bid) → IsProblem s.problem →
    pos 0 ≤ℤ ask.eps → length p ≡ length s.problem → IsSound s ask p bid →
    HasSlack ask.eps (renumbered p bid.object bid.level) (benefits_at s bid.person) bid.object
accepted_slack s ask p bid problem least long sound =
    let placed = sound_placed s ask p bid problem sound in
    slack_raised ask.eps p (benefits_at s bid.person) bid.object bid.level least (benefit_row_is s bid.person problem placed.person).rising
    (subst (λ n. IsNumber n bid.object) (sym long) placed.object) sound.near
