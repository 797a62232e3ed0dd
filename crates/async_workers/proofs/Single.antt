-- One thread goes on with a book as worker 1.
use Rattle.std.proofs.Common.{◌≡◌, ℕ, ℤ, zero, suc, ◌+◌, ◌<◌, ◌≤◌, inl, inr, List, ◌∷◌, Option, None, Some, Result}
use Rattle.std.proofs.Common.{Ok, Err, OnOk, OnErr, length, get_or, refl, sym, ap, ◌∙◌, subst, arith, false}
use Rattle.std.proofs.lemmas.Bool.{cond_both}
use Rattle.std.proofs.lemmas.Bool.Decides.{eqb_tells}
use Rattle.assign_core.specs.Numbered.{IsNumber, numbered}
use Rattle.assign_core.proofs.NumberedLemmas.{numbered-same}
use Rattle.scaled_values.specs.Scaled.{ScaledProblem}
use Rattle.scaled_values.proofs.RowFacts.{benefit_row_is}
use Rattle.bidder.specs.declared.offers.Offer.{Offer}
use Rattle.bidder.proofs.Sound.{offer_is}
use Rattle.auction_book.specs.declared.answers.Claim.{Claim}
use Rattle.auction_book.specs.declared.answers.Claim.TheVariants as claim
use Rattle.auction_book.specs.Book.{BookData, persons_of, prices_of}
use Rattle.auction_book.specs.Changes.{given_up, phased}
use Rattle.auction_book.specs.Claims.{after_claim, claim_of}
use Rattle.auction_book.specs.Follows.{Follows, GoesOn}
use Rattle.auction_book.specs.Free.{IsFree}
use Rattle.auction_book.specs.Phases.{is_over}
use Rattle.auction_book.specs.Session.{IsPrepared, next_if_over, prepared}
use Rattle.auction_book.proofs.Calling.{answered_follows}
use Rattle.auction_book.proofs.Claiming.{claim_by}
use Rattle.auction_book.proofs.Following.{given_up_follows, goes_on_through, phased_follows, stop_follows}
use Rattle.auction_book.proofs.Places.{claimed_person}
use Rattle.async_workers.proofs.Turning.{given_up_none}

-- what holds of a value and of an error
pub either_way : {T E : Type 0} (P : Type 0) (r : Result T E) → OnOk r P → OnErr r P → P
either_way P (Ok x) ok err = ok
either_way P (Err e) ok err = err

-- the first workers up to this number have no claim
abbrev pub HaveNone : List (Option ℕ) → ℕ → Type 0
HaveNone claims before = (worker : ℕ) → worker ≤ before → numbered claims worker None ≡ None

pub none_first : (claims : List (Option ℕ)) → HaveNone claims 0
none_first claims zero le = refl
none_first claims (suc worker) le = absurd (omega arith)

-- one more worker gives its claim up
pub one_given_up : (b : BookData) (before : ℕ) → HaveNone b.claims before →
    HaveNone (given_up b (before + 1) (numbered b.claims (before + 1) None)).claims (before + 1)
one_given_up b before h worker le = elim (eqb_tells worker (before + 1)) [
  | inl t ↦
      let claims = (given_up b (before + 1) (numbered b.claims (before + 1) None)).claims in
      ap (λ w. numbered claims w None) t.1 ∙ given_up_none b (before + 1) (numbered b.claims (before + 1) None) refl
  | inr t ↦ let other = t.1 in (given_up_follows b (before + 1)).claims worker other ∙ h worker (omega arith)
]

-- worker 1's offer after a claim: from the current prices, if it has a person
record IsClaimed (b : BookData) (version : ℕ) (answer : Claim) : Type 0 where
  pub prices : prices_of (after_claim b 1 answer) ≡ prices_of b
  pub base : (after_claim b 1 answer).base ≡ b.base
  pub prepared : IsPrepared (after_claim b 1 answer) 1 (prices_of b) version (prepared b.base (prices_of b) version answer)

claimed_front : (b : BookData) (version person : ℕ) (rest : List ℕ) → IsFree b → IsNumber (length b.claims) 1 →
    b.queue ≡ person ∷ rest → IsClaimed b version (claim.Person person b.ask)
claimed_front b version person rest free number e =
    let p = claimed_person (persons_of b) b.owners b.queue b.claims person rest free.placed_once e in
    let row = benefit_row_is b.base person free.problem p in
    record {
      prices = refl;
      base = refl;
      prepared = (
        person,
        numbered-same b.claims 1 (Some (get_or b.queue 0 0)) None number.first number.last ∙
            ap (λ q. Some (get_or q 0 0)) e,
        offer_is b.base (prices_of b) version b.ask person row.rising,
      );
    }

claimed_is : (b : BookData) (version : ℕ) → IsFree b → IsNumber (length b.claims) 1 → numbered b.claims 1 None ≡ None → IsClaimed b version (claim_of b)
claimed_is b version free number none =
    claim_by (IsClaimed b version) b
    (λ h. record { prices = refl; base = refl; prepared = none })
    (λ h. record { prices = refl; base = refl; prepared = none })
    (λ h. record { prices = refl; base = refl; prepared = none })
    (λ going e. record { prices = refl; base = refl; prepared = none })
    (λ person rest going e. claimed_front b version person rest free number e)

-- the offer made for the claim is prepared
pub alone_prepared : (b new : BookData) (s : ScaledProblem) (table : List ℤ) (version : ℕ) (answer : Claim)
    (offer : Option Offer) → IsFree b → IsNumber (length b.claims) 1 → numbered b.claims 1 None ≡ None →
    answer ≡ claim_of b → new ≡ after_claim b 1 answer → s ≡ new.base → table ≡ prices_of new →
    offer ≡ prepared s table version answer → IsPrepared new 1 (prices_of new) version offer
alone_prepared b new s table version answer offer free number none is_answer is_new is_base is_table is_offer =
    let c : IsClaimed b version answer = subst (IsClaimed b version) (sym is_answer) (claimed_is b version free number none) in
    let prices : prices_of new ≡ prices_of b = ap prices_of is_new ∙ c.prices in
    let base : new.base ≡ b.base = ap (λ (b : BookData). b.base) is_new ∙ c.base in
    let made : offer ≡ prepared b.base (prices_of b) version answer = is_offer ∙ (λ i. prepared ((is_base ∙ base) i) ((is_table ∙ prices) i) version answer) in
    subst (λ (z : BookData × List ℤ × Option Offer). IsPrepared z.0 1 z.1 version z.2) (λ i. (sym is_new i, sym prices i, sym made i)) c.prepared

-- no claim and no next phase stops the book or lifts a stop
pub after_claim-stopped : (b : BookData) (w : ℕ) (answer : Claim) → (after_claim b w answer).stopped ≡ b.stopped
after_claim-stopped b w (claim.Person person ask) = refl
after_claim-stopped b w claim.Refuted = refl
after_claim-stopped b w claim.Done = refl
after_claim-stopped b w claim.Stopped = refl
after_claim-stopped b w claim.Wait = refl

pub next_if_over-stopped : (b : BookData) → (next_if_over b).stopped ≡ b.stopped
next_if_over-stopped b = cond_both (is_over b) (phased b) b (λ (n : BookData). n.stopped ≡ b.stopped) (λ h. refl) (λ h. refl)

pub alone_claimed : (b new : BookData) (answer : Claim) → new ≡ after_claim b 1 answer → Follows 1 b new
alone_claimed b new answer is = subst (Follows 1 b) (sym is) (answered_follows 1 b answer)

-- the next phase, if this one is over
pub alone_next : (b mid new : BookData) → GoesOn b mid → IsFree mid → numbered mid.claims 1 None ≡ None →
    new ≡ next_if_over mid → GoesOn b new × (numbered new.claims 1 None ≡ None)
alone_next b mid new on free none is = subst (λ (n : BookData). GoesOn b n × (numbered n.claims 1 None ≡ None)) (sym is)
    (cond_both (is_over mid) (phased mid) mid (λ (n : BookData). GoesOn b n × (numbered n.claims 1 None ≡ None))
    (λ h. (goes_on_through b mid (phased mid) on (phased_follows mid 1 free h).goes_on, none)) (λ h. (on, none)))

-- a worker that resumes a book alone
pub alone_resumed : (b mid new : BookData) → GoesOn b mid → new ≡ record mid { stopped = false } → GoesOn b new
alone_resumed b mid new on is = subst (GoesOn b) (sym is) (goes_on_through b mid (record mid { stopped = false }) on (stop_follows mid 1 false).goes_on)

pub one_of : (b new : BookData) → 0 < length b.claims → GoesOn b new → IsNumber (length new.claims) 1
one_of b new some on = let same = on.workers in record { first = omega arith; last = omega (arith, some, same) }

pub all_given_up : (old b new : BookData) (worker : ℕ) → GoesOn old b → new ≡ given_up b worker (numbered b.claims worker None) → GoesOn old new
all_given_up old b new worker on is = goes_on_through old b new on (subst (GoesOn b) (sym is) (given_up_follows b worker).goes_on)
