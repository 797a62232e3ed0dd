-- Persons whose rows are the same share an offer.
use Rattle.std.proofs.Common.{◌≡◌, ℕ, ℤ, ◌<◌, ◌≤◌, ◌&&◌, nat_eq, List, Bool, true, false, cond, Option, None, Some}
use Rattle.std.proofs.Common.{length, get_or, refl, ap, sym, ◌∙◌, subst, arith}
use Rattle.std.specs.List.{All}
use Rattle.std.specs.Bool.{Decides}
use Rattle.std.specs.Ordering.{int_eq}
use Rattle.std.proofs.lemmas.Bool.Decides.{Decides-and, Decides-eqb, Decides-int_eq, Decides-like}
use Rattle.std.proofs.lemmas.List.{get_or-map}
use Rattle.assign_core.specs.Numbered.{IsNumber, numbered}
use Rattle.scaled_values.specs.Scaled.{ScaledProblem}
use Rattle.bidder.specs.declared.scan.BestTwo.{BestTwo}
use Rattle.bidder.specs.declared.offers.Ask.{Ask}
use Rattle.bidder.specs.declared.offers.Bid.{Bid}
use Rattle.bidder.specs.declared.offers.BelowFloor.{BelowFloor}
use Rattle.bidder.specs.declared.offers.Offer.{Offer}
use Rattle.bidder.specs.declared.offers.Offer.TheVariants as made
use Rattle.bidder.specs.BestTwo.{best_two}
use Rattle.bidder.specs.Offers.{benefits_at, offer_from, offer_of}
use Rattle.rounds.specs.Offers.{named, offers_of}
use Rattle.rounds.specs.inside.Similar.{HasAlike, IsGathered}
use Rattle.rounds.proofs.Filled.{filled}

either_named : (i : ℕ) (t : Bool) (below : BelowFloor) (bid : Bid) →
    named i (cond t (made.Below below) (made.Bid bid)) ≡ cond t (made.Below (record below { person = i }))
    (made.Bid (record bid { person = i }))
either_named i true below bid = refl
either_named i false below bid = refl

from_named : (prices : List ℤ) (version : ℕ) (ask : Ask) (i k : ℕ) (o : Option BestTwo) →
    named i (offer_from prices version ask k o) ≡ offer_from prices version ask i o
from_named prices version ask i k None = refl
from_named prices version ask i k (Some b) = either_named i _ _ _

-- a person's offer is that of another with the same row, under its own name
pub like_offer : (s : ScaledProblem) (prices : List ℤ) (version : ℕ) (ask : Ask) (i k : ℕ) →
    benefits_at s k ≡ benefits_at s i → named i (offer_of s prices version ask k) ≡ offer_of s prices version ask i
like_offer s prices version ask i k same = from_named prices version ask i k (best_two (benefits_at s k) prices) ∙
    ap (λ row. offer_from prices version ask i (best_two row prices)) same

-- ---- who is alike
same_pair : (a b : ℕ × ℤ) → a.0 ≡ b.0 → a.1 ≡ b.1 → a ≡ b
same_pair a b e f = ap (λ (x : ℕ). (x, a.1)) e ∙ ap (λ (y : ℤ). (b.0, y)) f

-- what a test of two objects with their benefits says
pub pairs_decided : (a b : ℕ × ℤ) → Decides (nat_eq a.0 b.0 && int_eq a.1 b.1) (a ≡ b)
pairs_decided a b = Decides-like _ (λ h. same_pair a b h.0 h.1) (λ e. (ap (λ x. x.0) e, ap (λ x. x.1) e))
    (Decides-and _ _ (Decides-eqb a.0 b.0) (Decides-int_eq a.1 b.1))

-- ---- the first ones of a round
-- the places that were given stay good where one first person more is there
pub record IsGathering (alike persons firsts places : List ℕ) (i : ℕ) : Type 0 where
  pub long : length places ≡ i
  pub few : length firsts ≤ i
  pub numbers : All (IsNumber (length alike)) firsts
  pub within : All (λ place. place < length firsts) places
  pub same : (k d e f : ℕ) → k < i → numbered alike (get_or firsts (get_or places k d) e) 0 ≡ numbered alike (get_or persons k f) 0

-- ---- the offers of a round
pub shared_offers : (s : ScaledProblem) (prices : List ℤ) (ask : Ask) (alike persons firsts places : List ℕ)
    (first_offers offers : List Offer) → HasAlike s alike → All (IsNumber (length s.problem)) persons →
    IsGathered alike persons firsts places → first_offers ≡ offers_of s prices ask firsts →
    length offers ≡ length persons
    → ((k : ℕ) (d e : Offer) (f g : ℕ) → k < length persons → get_or offers k d ≡ named (get_or persons k f)
    (get_or first_offers (get_or places k g) e)) → offers ≡ offers_of s prices ask persons
shared_offers s prices ask alike persons firsts places first_offers offers is numbers gathered made long each =
    filled (offer_of s prices 0 ask) persons offers long (λ k d e lt.
    let place = get_or places k 0 in
    let first = get_or firsts place 0 in
    let here : place < length firsts = gathered.within k 0 (omega (arith, gathered.long, lt)) in
    let number : IsNumber (length s.problem) first = subst (λ n. IsNumber n first) is.long (gathered.numbers place 0 here) in
    let person = numbers k e lt in
    let same : benefits_at s first ≡ benefits_at s (get_or persons k e) = sym (is.same first number) ∙
    ap (benefits_at s) (gathered.same k 0 0 e lt) ∙ is.same (get_or persons k e) person in
    let offer : get_or first_offers place d ≡ offer_of s prices 0 ask first = ap (λ xs. get_or xs place d) made ∙
    get_or-map (offer_of s prices 0 ask) firsts place 0 d here in
    each k d d e 0 lt ∙ ap (named (get_or persons k e)) offer ∙ like_offer s prices 0 ask (get_or persons k e) first same)
