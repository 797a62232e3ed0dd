-- The effect of the steps of a session on the book in hand.
use Rattle.std.proofs.Common.{◌≡◌, ◌≢◌, ℕ, ℤ, ◌+◌, List, [], ◌∷◌, ◌++◌, Bool, true, false, length, Option, None}
use Rattle.std.proofs.Common.{Some, Result, Ok, Err, OnErr, IfOk, inl, inr, refl, sym, ap, ◌∙◌, subst, arith}
use Rattle.std.proofs.Common.{length-append}
use Rattle.std.proofs.lemmas.Bool.{cond_both}
use Rattle.assign_core.specs.Numbered.{numbered}
use Rattle.assign_core.specs.Prices.{IsBelow}
use Rattle.bidder.specs.declared.offers.Bid.{Bid}
use Rattle.bidder.specs.declared.offers.Offer.{Offer}
use Rattle.bidder.specs.declared.offers.Offer.TheVariants as made
use Rattle.auction_book.specs.declared.answers.Accepted.{Accepted}
use Rattle.auction_book.specs.declared.answers.Claim.{Claim}
use Rattle.auction_book.specs.declared.answers.Claim.TheVariants as claim
use Rattle.auction_book.specs.declared.answers.Refused.{Refused}
use Rattle.auction_book.specs.declared.answers.Refused.TheVariants.{NotClaimed, WrongPhase, TooLow, Memory}
use Rattle.auction_book.specs.Book.{BookData, Holds, persons_of, prices_of}
use Rattle.auction_book.specs.Changes.{phased}
use Rattle.auction_book.specs.Claims.{IsAsked, after_claim, claim_of}
use Rattle.auction_book.specs.Follows.{Follows}
use Rattle.auction_book.specs.Free.{IsFree}
use Rattle.auction_book.specs.Phases.{is_over}
use Rattle.auction_book.specs.Session.{EndsClaim, IsHandedIn, IsNoted, IsPrepared, IsUndone, book_next, book_kept_up, next_if_over, note_of}
use Rattle.auction_book.specs.Submissions.{IsSubmitted}
use Rattle.auction_book.proofs.Answering.{over_is}
use Rattle.auction_book.proofs.Calling.{answered_follows}
use Rattle.auction_book.proofs.Following.{follows_through}
use Rattle.auction_book.proofs.Places.{everyone}
use Rattle.auction_book.proofs.Runs.{ready}
use Rattle.scaled_values.specs.Scaled.{ScaledProblem}
use Rattle.auction_book.specs.declared.answers.Note.{Note}
use Rattle.async_workers.specs.declared.rule.Known.{Known}
use Rattle.async_workers.specs.Desk.{DeskData}
use Rattle.async_workers.specs.inside.Hand.{Ends, IsInHand}
use Rattle.async_workers.specs.Session.{EndsUndone, IsCutShort, caught_in, with_table}
use Rattle.async_workers.proofs.Hands.{hand_follows, hand_own}

-- an offer prepared from the desk's table may be submitted
pub may_go_in : (d : DeskData) (taken b c : BookData) (worker : ℕ) (offer given : Option Offer) →
    IsInHand d taken b → IsPrepared b d.known.number d.known.table d.known.version offer → c ≡ b →
    worker ≡ d.known.number → given ≡ offer →
    (table : List ℤ) × (version : ℕ) × IsBelow table (prices_of c) × IsPrepared c worker table version given
may_go_in d taken b c worker offer given hand prepared same_book same_worker same_offer = (
  d.known.table,
  d.known.version,
  subst (λ (c : BookData). IsBelow d.known.table (prices_of c)) (sym same_book) hand.may.below,
  subst (λ (z : BookData × ℕ × Option Offer). IsPrepared z.0 z.1 d.known.table d.known.version z.2)
      (λ i. (sym same_book i, sym same_worker i, sym same_offer i)) prepared,
)

pub handed_hand : (d : DeskData) (taken b c new : BookData) (worker : ℕ) → IsInHand d taken b → c ≡ b →
    worker ≡ d.known.number → EndsClaim worker c new → IsFree new → IsInHand d taken new
handed_hand d taken b c new worker hand same_book same_worker ends free =
    let e : EndsClaim d.known.number b new = subst (λ (z : BookData × ℕ). EndsClaim z.1 z.0 new) (λ i. (same_book i, same_worker i)) ends in
    hand_follows d taken b new hand e.follows e.stopped free

-- claims and phases
pub next_stopped : (b : BookData) → (next_if_over b).stopped ≡ b.stopped
next_stopped b = cond_both (is_over b) (phased b) b (λ (n : BookData). n.stopped ≡ b.stopped) (λ h. refl) (λ h. refl)

claim_stopped : (b : BookData) (worker : ℕ) (answer : Claim) → (after_claim b worker answer).stopped ≡ b.stopped
claim_stopped b worker (claim.Person person ask) = refl
claim_stopped b worker claim.Refuted = refl
claim_stopped b worker claim.Done = refl
claim_stopped b worker claim.Stopped = refl
claim_stopped b worker claim.Wait = refl

next_follows : (d : DeskData) (taken b : BookData) → IsInHand d taken b →
    numbered b.claims d.known.number None ≡ None → Follows d.known.number b (next_if_over b)
next_follows d taken b hand none = (ready d.known.number false b d.known.table d.known.version hand.may.free none (hand_own d taken b hand)).next.follows

-- the next phase if this one is over, and then a claim
pub hand_moved : (d : DeskData) (taken b c mid over new : BookData) (worker : ℕ) (answer : Claim) →
    IsInHand d taken b → numbered b.claims d.known.number None ≡ None → c ≡ b → mid ≡ next_if_over c → over ≡ mid →
    worker ≡ d.known.number →
    new ≡ after_claim over worker answer → IsFree new → IsInHand d taken new
hand_moved d taken b c mid over new worker answer hand none same next again same_worker is free =
    let n = next_if_over b in
    let book : over ≡ n = again ∙ next ∙ ap next_if_over same in
    let new_is : new ≡ after_claim n d.known.number answer = is ∙ (λ i. after_claim (book i) (same_worker i) answer) in
    let follows = follows_through b n (after_claim n d.known.number answer) d.known.number
    (next_follows d taken b hand none) (answered_follows d.known.number n answer) in
    hand_follows d taken b new hand (subst (Follows d.known.number b) (sym new_is) follows)
    (ap (λ (b : BookData). b.stopped) new_is ∙ claim_stopped n d.known.number answer ∙ next_stopped b) free

pub asked_in_hand : (d : DeskData) (taken b c mid over : BookData) (answer : Claim) → IsInHand d taken b →
    numbered b.claims d.known.number None ≡ None → c ≡ b → mid ≡ next_if_over c → over ≡ mid →
    IsAsked over.base answer → IsAsked d.base answer
asked_in_hand d taken b c mid over answer hand none same next again asked =
    let book : over ≡ next_if_over b = again ∙ next ∙ ap next_if_over same in
    subst (λ (s : ScaledProblem). IsAsked s answer) (ap (λ (b : BookData). b.base) book ∙
    (next_follows d taken b hand none).goes_on.base ∙ sym hand.same_base) asked

-- if somebody waits, the phase isn't over
waiting : (b : BookData) (queue : List ℕ) (person : ℕ) → IsFree b → b.queue ≡ queue ++ person ∷ [] → is_over b ≡ true → ⊥
waiting b queue person free is over =
    let whole = everyone (persons_of b) b.owners b.queue b.claims free.placed_once in
    let all = (over_is b over).assigned in
    let long : length b.queue ≡ length queue + 1 = ap length is ∙ length-append queue (person ∷ []) in
    omega arith

taken_queue : (caught : Bool) (b : BookData) (worker : ℕ) → (book_kept_up caught b worker).queue ≡ b.queue
taken_queue true b worker = refl
taken_queue false b worker = refl

released_over : (b left : BookData) (worker person : ℕ) (caught : Bool) → IsFree (book_kept_up caught left worker) →
    left.queue ≡ b.queue ++ person ∷ [] → is_over (book_kept_up caught left worker) ≡ true → ⊥
released_over b left worker person caught free queue over = waiting (book_kept_up caught left worker)
    b.queue person free (taken_queue caught left worker ∙ queue) over

-- the state after the next phase was refused memory
judged_leaves : (refresh since w : ℕ) (b left : BookData) (bid : Bid) (answer : Result Accepted Refused)
    (told : Note) (caught : Bool) → Holds b w bid.person → answer ≢ Err Memory → IsSubmitted b w bid answer left →
    told ≡ note_of answer →
    caught ≡ caught_in refresh since told → IsFree (book_kept_up caught left w) →
    is_over (book_kept_up caught left w) ≡ true → IsCutShort refresh since w (Some (made.Bid bid))
    told b left caught
judged_leaves refresh since w b left bid (Ok a) told caught held not_memory s noted is free over = inl (a, s, noted, is)
judged_leaves refresh since w b left bid (Err NotClaimed) told caught held not_memory s noted is free over = absurd (s.0 held)
judged_leaves refresh since w b left bid (Err WrongPhase) told caught held not_memory s noted is free over =
    absurd (released_over b left w bid.person caught free (ap (λ (b : BookData). b.queue) s.2) over)
judged_leaves refresh since w b left bid (Err (TooLow price)) told caught held not_memory s noted is free over =
    absurd (released_over b left w bid.person caught free (ap (λ (b : BookData). b.queue) s.4) over)
judged_leaves refresh since w b left bid (Err Memory) told caught held not_memory s noted is free over = absurd (not_memory refl)

over_leaves : (refresh since : ℕ) (k : Known) (b left : BookData) (offer : Option Offer) (told : Note)
    (caught : Bool) → IsPrepared b k.number k.table k.version offer → IsNoted b k.number offer left told →
    caught ≡ caught_in refresh since told →
    IsFree (book_kept_up caught left k.number) → is_over (book_kept_up caught left k.number) ≡ true → IsCutShort refresh since k.number offer told b left caught
over_leaves refresh since k b left None told caught prepared noted is free over = (noted.0, noted.1, is)
over_leaves refresh since k b left (Some (made.Bid bid)) told caught prepared noted is free over =
    judged_leaves refresh since k.number b left bid noted.0 told caught (prepared.1 ∙ ap Some (sym prepared.2.0)) noted.1 noted.2 noted.3 is free over
over_leaves refresh since k b left (Some (made.Below below)) told caught prepared noted is free over =
    absurd (released_over b left k.number below.person caught free (ap (λ (b : BookData). b.queue) noted.0.2) over)

-- a session whose offer was refused memory
undone_leaves : (refresh since w : ℕ) (b left : BookData) (offer : Option Offer) (told : Note) →
    IsUndone b w offer left told → IsCutShort refresh since w offer told b left false
undone_leaves refresh since w b left None told undone = absurd undone
undone_leaves refresh since w b left (Some (made.Bid bid)) told undone = inr (undone.0, undone.1, refl)
undone_leaves refresh since w b left (Some (made.Below below)) told undone = (undone.0, undone.1, undone.2, refl)

pub ends_undone : {E : Type 0} (refresh since : ℕ) (k : Known) (b left : BookData) (offer : Option Offer)
    (told : Note) (outcome : Result (Unit {0}) E) (refused : E) (caught : Bool) → outcome ≡ Err refused →
    IsHandedIn b k.number offer left told outcome → numbered left.claims k.number None ≡ None → caught ≡ false →
    EndsUndone refresh since k offer told b k left caught
ends_undone {E} refresh since k b left offer told outcome refused caught failed handed none fresh =
    subst (λ c. EndsUndone refresh since k offer told b k left c) (sym fresh) record {
      submitted = left;
      leaves = undone_leaves refresh since k.number b left offer told
          (subst (λ (o : Result (Unit {0}) E). IsHandedIn b k.number offer left told o) failed handed);
      none = none;
      book = refl;
      known = refl;
    }

pub taken_claims : (caught : Bool) (b : BookData) (worker : ℕ) → (book_kept_up caught b worker).claims ≡ b.claims
taken_claims true b worker = refl
taken_claims false b worker = refl

pub taken_stopped : (caught : Bool) (b : BookData) (worker : ℕ) → (book_kept_up caught b worker).stopped ≡ b.stopped
taken_stopped true b worker = refl
taken_stopped false b worker = refl

-- a session whose offer was submitted
pub ends : {E : Type 0} (refresh since : ℕ) (k left : Known) (b mid kept new : BookData) (offer : Option Offer)
    (told : Note) (caught : Bool) (worker : ℕ) (outcome : Result Claim E) →
    IsPrepared b k.number k.table k.version offer → IsNoted b k.number offer mid told →
    numbered mid.claims k.number None ≡ None →
    caught ≡ caught_in refresh since told → kept ≡ book_kept_up caught mid k.number → left ≡ with_table caught mid k → IsFree kept → worker ≡ k.number →
    IfOk outcome (λ answer. (answer ≡ claim_of (next_if_over kept)) ×
    (new ≡ after_claim (next_if_over kept) worker answer)) →
    OnErr outcome ((new ≡ kept) × (is_over kept ≡ true)) → Ends refresh since k offer told outcome b left new caught
ends refresh since k left b mid kept new offer told caught worker (Ok answer) prepared noted none due kept_is known free number ok err =
    let answered : answer ≡ claim_of (book_next caught mid k.number) = ok.0 ∙ ap (λ k. claim_of (next_if_over k)) kept_is in
    record {
      submitted = mid;
      noted = noted;
      caught_up = due;
      answered = answered;
      book = ok.1 ∙ (λ i. after_claim (next_if_over (kept_is i)) (number i) (answered i));
      known = known;
    }
ends refresh since k left b mid kept new offer told caught worker (Err refused) prepared noted none due kept_is known free number ok err =
    record {
      submitted = mid;
      leaves = over_leaves refresh since k b mid offer told caught prepared noted due (subst IsFree kept_is free) (sym (ap is_over kept_is) ∙ err.1);
      none = ap (λ (b : BookData). numbered b.claims k.number None) (err.0 ∙ kept_is) ∙
          ap (λ c. numbered c k.number None) (taken_claims caught mid k.number) ∙ none;
      book = err.0 ∙ kept_is;
      known = known;
    }
