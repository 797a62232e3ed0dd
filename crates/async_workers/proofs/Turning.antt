-- From a session with the book in hand to a turn.
use Rattle.std.proofs.Common.{◌≡◌, ℕ, ℤ, List, Bool, true, false, true≢false, ◌||◌, length, get_or, Option, None, Some, MatchOption, refl, sym, ap, ◌∙◌, subst}
use Rattle.std.proofs.lemmas.Option.{same_Some}
use Rattle.atomic_table.specs.Seated.{TableId}
use Rattle.assign_core.specs.Numbered.{IsNumber, numbered}
use Rattle.assign_core.proofs.NumberedLemmas.{numbered-same, numbered_in}
use Rattle.scaled_values.specs.Scaled.{ScaledProblem}
use Rattle.scaled_values.proofs.RowFacts.{benefit_row_is}
use Rattle.bidder.specs.declared.offers.Ask.{Ask}
use Rattle.bidder.specs.declared.offers.Offer.{Offer}
use Rattle.bidder.specs.Offers.{IsOffer}
use Rattle.bidder.proofs.Sound.{offer_is}
use Rattle.auction_book.specs.declared.answers.Claim.{Claim}
use Rattle.auction_book.specs.declared.answers.Claim.TheVariants as claim
use Rattle.auction_book.specs.Book.{BookData, persons_of}
use Rattle.auction_book.specs.Changes.{given_up}
use Rattle.auction_book.specs.Claims.{after_claim, claim_of}
use Rattle.auction_book.specs.Follows.{Follows}
use Rattle.auction_book.specs.Free.{IsFree}
use Rattle.auction_book.specs.Schedule.{IsWorkerState}
use Rattle.auction_book.specs.Session.{IsPrepared, book_left, book_next, book_kept_up, prepared, table_kept_up, version_kept_up}
use Rattle.auction_book.proofs.Claiming.{claim_by}
use Rattle.auction_book.proofs.Following.{given_up_follows}
use Rattle.auction_book.proofs.Places.{claimed_person}
use Rattle.auction_book.proofs.Runs.{IsAttended, attended, next_workers, same_offers}
use Rattle.auction_book.specs.declared.answers.Note.{Note}
use Rattle.async_workers.specs.declared.gate.Turn.{Turn}
use Rattle.async_workers.specs.declared.place.Claimed.{Claimed}
use Rattle.async_workers.specs.Desk.{DeskData, HeldData, IsAway, session_by}
use Rattle.async_workers.specs.inside.Hand.{IsInHand}
use Rattle.async_workers.specs.declared.rule.Known.{Known}
use Rattle.async_workers.specs.PlaceRule.{IsCurrent, Took}
use Rattle.async_workers.specs.Session.{EndsUndone, EndsWell, with_table}
use Rattle.async_workers.specs.Turns.{CanTurn, EndsRun, Faulted, HasOffer, Leaving, Serves, StepsOut, Turned}
use Rattle.async_workers.specs.Turns.{WorksOn, state_of, stopped_if, turn_of, without_claim}
use Rattle.async_workers.specs.Views.{claim_in, claim_with, known_after}
use Rattle.async_workers.proofs.Hands.{hand_follows}
use Rattle.async_workers.proofs.Sessions.{next_stopped, taken_stopped}

-- what a recorded claim says of the book
told_none : (o : Option ℕ) (ask : Ask) → None ≡ claim_with o ask → o ≡ None
told_none None ask e = refl
told_none (Some person) ask e = absurd cc

told_some : (o : Option ℕ) (ask : Ask) (c : Claimed) → claim_with o ask ≡ Some c → (o ≡ Some c.person) × (c.ask ≡ ask)
told_some None ask c e = absurd cc
told_some (Some person) ask c e =
    let x : Claimed = record { person = person; ask = ask } in
    let same = same_Some x c e in
    (ap (λ (x : Claimed). Some x.person) same, sym (ap (λ (x : Claimed). x.ask) same))

-- the desk's offer is the worker's in the terms of the core
prepared_from : (offer : Option Offer) (told : Option Claimed) (base : ScaledProblem) (table : List ℤ) (version : ℕ) (b : BookData) (worker : ℕ) →
    MatchOption offer (told ≡ None) (λ offer. (c : Claimed) × (told ≡ Some c) ×
    IsOffer base table version c.ask c.person offer) → told ≡ claim_in b worker → base ≡ b.base →
    IsPrepared b worker table version offer
prepared_from None told base table version b worker has is same = told_none (numbered b.claims worker None) b.ask (sym has ∙ is)
prepared_from (Some offer) told base table version b worker has is same =
    let s = told_some (numbered b.claims worker None) b.ask has.0 (sym is ∙ has.1) in
    (has.0.person, s.0, subst (λ (y : ScaledProblem × Ask). IsOffer y.0 table version y.1 has.0.person offer) (λ i. (same i, s.1 i)) has.2)

pub prepared_taken : (d e : DeskData) (b taken put : BookData) (offer : Option Offer) → IsAway d taken put →
    HasOffer d → Took d.view b e.view → e ≡ record d { view = e.view; offer = None } → offer ≡ d.offer →
    IsPrepared b e.known.number e.known.table e.known.version offer
prepared_taken d e b taken put offer away has took same is =
    let told = (took (session_by d taken put) away).told in
    let k = d.known in
    let prepared = prepared_from d.offer k.claim d.base k.table k.version b k.number has told.claim told.base in
    subst (λ (z : DeskData × Option Offer). IsPrepared b z.0.known.number z.0.known.table z.0.known.version z.1) (λ i. (sym same i, sym is i)) prepared

-- a desk is a worker of the core
seated : (d : DeskData) (b taken put : BookData) → HasOffer d → IsCurrent b (session_by d taken put) → IsWorkerState b d.known.number (state_of d)
seated d b taken put has told = record {
  long = told.below;
  earlier = told.earlier;
  told = told.accepted;
  prepared = prepared_from d.offer d.known.claim d.base d.known.table d.known.version b d.known.number has told.claim told.base;
}

-- the prepared offer is that of the claim
abbrev IsOffered : BookData → ℕ → List ℤ → ℕ → Claim → Type 0
IsOffered b worker table version answer = MatchOption (prepared b.base table version answer) (claim_in (after_claim b worker answer) worker ≡ None)
    (λ offer. (c : Claimed) × (claim_in (after_claim b worker answer) worker ≡ Some c) × IsOffer b.base table version c.ask c.person offer)

offered : (b : BookData) (worker : ℕ) (table : List ℤ) (version : ℕ) → IsFree b →
    numbered b.claims worker None ≡ None → IsNumber (length b.claims) worker →
    IsOffered b worker table version (claim_of b)
offered b worker table version free none number =
    let nobody : claim_in b worker ≡ None = ap (λ c. claim_with c b.ask) none in
    claim_by (IsOffered b worker table version) b (λ h. nobody) (λ h. nobody) (λ h. nobody) (λ going e. nobody) (λ person rest going e.
    let p = claimed_person (persons_of b) b.owners b.queue b.claims person rest free.placed_once e in
    let row = benefit_row_is b.base person free.problem p in
    let c : Claimed = record { person = person; ask = b.ask } in (
      c,
      ap (λ o. claim_with o b.ask) (numbered-same b.claims worker (Some (get_or b.queue 0 0))
          None number.first number.last ∙ ap (λ q. Some (get_or q 0 0)) e),
      offer_is b.base table version b.ask person row.rising,
    ))

claim_counts : (b : BookData) (worker : ℕ) (answer : Claim) → (after_claim b worker answer).counts ≡ b.counts
claim_counts b worker (claim.Person person ask) = refl
claim_counts b worker claim.Refuted = refl
claim_counts b worker claim.Done = refl
claim_counts b worker claim.Stopped = refl
claim_counts b worker claim.Wait = refl

-- a session that ends well, as an event of the core
abbrev Gives : ℕ → DeskData → DeskData → Note → Claim → Type 0
Gives refresh d k told answer = Serves d k (EndsWell refresh d.since d.known d.offer told answer)

event : (refresh : ℕ) (d k : DeskData) (told : Note) (answer : Claim) (taken put : BookData) → IsAway d taken put →
    HasOffer d → (g : Gives refresh d k told answer) →
    IsAttended d.known.number g.caught g.taken g.ends.submitted d.known.table d.known.version
event refresh d k told answer taken put away has g =
    let t = g.told taken put away in
    attended d.known.number g.caught g.taken g.ends.submitted (state_of d) g.free t.number (seated d g.taken taken put has t) (told, g.ends.noted)

-- the problem of the book before the claim is the desk's
event_base : (refresh : ℕ) (d k : DeskData) (told : Note) (answer : Claim) (taken put : BookData) →
    IsAway d taken put → HasOffer d → (g : Gives refresh d k told answer) →
    d.base ≡ (book_next g.caught g.ends.submitted d.known.number).base
event_base refresh d k told answer taken put away has g =
    let a = event refresh d k told answer taken put away has g in
    (g.told taken put away).base ∙ sym (a.ready.next.follows.goes_on.base ∙ a.ready.taken.follows.goes_on.base ∙ a.left.ends.follows.goes_on.base)

-- what the desk knows, in the terms of the core
given_known : (refresh : ℕ) (d k : DeskData) (told : Note) (answer : Claim) → (g : Gives refresh d k told answer) →
    k.known ≡ known_after (with_table g.caught g.ends.submitted d.known) (book_left g.caught g.ends.submitted d.known.number)
given_known refresh d k told answer g = ap (λ (d : DeskData). d.known) g.desk ∙ (λ i. known_after (g.ends.known i) (g.ends.book i))

-- a desk that has claimed and prepared may take a turn again
pub can_turn_again : (place : TableId) (refresh : ℕ) (d k e : DeskData) (told : Note) (answer : Claim) →
    CanTurn place d → Gives refresh d k told answer →
    e ≡ record k { offer = prepared k.base k.known.table k.known.version answer } → CanTurn place e
can_turn_again place refresh d k e told answer can g is =
    let away = can.ready.1 in
    let c = g.caught in
    let w = d.known.number in
    let b = book_next c g.ends.submitted w in
    let a = event refresh d k told answer away.0 away.1 away.2 can.offer g in
    let same_place : k.place ≡ place = ap (λ (d : DeskData). d.place) g.desk ∙ can.ready.0 in
    let base : k.base ≡ b.base = ap (λ (d : DeskData). d.base) g.desk ∙ event_base refresh d k told answer away.0 away.1 away.2 can.offer g in
    let made = offered b w k.known.table k.known.version a.ready.next.free a.ready.none
    (next_workers w c g.taken g.ends.submitted d.known.table d.known.version a) in
    let claim_is : k.known.claim ≡ claim_in (after_claim b w (claim_of b)) w = ap (λ (k : Known). k.claim) (given_known refresh d k told answer g) in
    let has : MatchOption (prepared k.base k.known.table k.known.version answer) (k.known.claim ≡ None)
    (λ offer. (c : Claimed) × (k.known.claim ≡ Some c) × IsOffer k.base k.known.table k.known.version c.ask
    c.person offer) =
    subst (λ (z : ScaledProblem × Claim × Option Claimed). MatchOption
    (prepared z.0 k.known.table k.known.version z.1) (z.2 ≡ None) (λ offer. (c : Claimed) × (z.2 ≡ Some c) ×
    IsOffer z.0 k.known.table k.known.version c.ask c.person offer))
    (λ i. (sym base i, sym g.ends.answered i, sym claim_is i)) made in
    subst (CanTurn place) (sym is) record { ready = (same_place, (g.taken, g.put, g.away)); offer = has }

-- a turn as an event of the core
pub turned : (refresh : ℕ) (place : TableId) (d k e : DeskData) (told : Note) (answer : Claim) (t : Turn) →
    CanTurn place d → Gives refresh d k told answer →
    e ≡ record k { offer = prepared k.base k.known.table k.known.version answer } → t ≡ turn_of answer →
    Turned refresh d e t
turned refresh place d k e told answer t can g is turn_is =
    let away = can.ready.1 in
    let c = g.caught in
    let w = d.known.number in
    let mid = g.ends.submitted in
    let b = book_next c mid w in
    let known = given_known refresh d k told answer g in
    let a = event refresh d k told answer away.0 away.1 away.2 can.offer g in
    let base : k.base ≡ b.base = ap (λ (d : DeskData). d.base) g.desk ∙ event_base refresh d k told answer away.0 away.1 away.2 can.offer g in
    let counts : numbered (book_left c mid w).counts w 0 ≡ numbered mid.counts w 0 =
    ap (λ c. numbered c w 0) (claim_counts b w (claim_of b) ∙ a.ready.counts) in
    let offer : prepared k.base k.known.table k.known.version answer ≡ prepared b.base
    (table_kept_up c mid d.known.table) (version_kept_up c mid d.known.version) (claim_of b) =
    same_offers k.base b.base k.known.table (table_kept_up c mid d.known.table) k.known.version (version_kept_up c mid d.known.version) answer (claim_of b)
    base (ap (λ (k : Known). k.table) known) (ap (λ (k : Known). k.version) known) g.ends.answered in
    record {
      note = told;
      claimed = answer;
      given = k;
      serves = g;
      state = ap state_of is ∙ (λ i. record {
        table = (known i).table;
        version = (known i).version;
        offer = offer i;
        accepted = ((ap (λ (k : Known). k.accepted) known ∙ counts) i);
      });
      desk = is ∙ ap (λ o. record k { offer = o }) (sym (ap (λ (d : DeskData). d.offer) is));
      answered = turn_is;
    }

-- after a stop that the desk asked for, a turn ends its run
pub stops_run : (refresh : ℕ) (place : TableId) (d k : DeskData) (told : Note) (answer : Claim) (t : Turn) →
    CanTurn place d → Gives refresh d k told answer → t ≡ turn_of answer → d.known.stop ≡ true → EndsRun t
stops_run refresh place d k told answer t can g is asked =
    let away = can.ready.1 in
    let c = g.caught in
    let w = d.known.number in
    let mid = g.ends.submitted in
    let b = book_next c mid w in
    let stopped : b.stopped ≡ true = next_stopped (book_kept_up c mid w) ∙ taken_stopped c mid w ∙
    (event refresh d k told answer away.0 away.1 away.2 can.offer g).left.ends.stopped ∙
    (g.told away.0 away.1 away.2).stopped asked in
    subst EndsRun (sym (is ∙ ap turn_of g.ends.answered)) (ends_stopped b stopped)
  where
    ends_stopped : (b : BookData) → b.stopped ≡ true → EndsRun (turn_of (claim_of b))
    ends_stopped b stopped = claim_by (λ c. EndsRun (turn_of c)) b (λ h. tt) (λ h. tt) (λ h. tt)
        (λ going e. absurd (true≢false (sym stopped ∙ going))) (λ person rest going e. absurd
        (true≢false (sym stopped ∙ going)))

pub works_with_offer : (d k e : DeskData) (offer : Option Offer) → WorksOn d k → e ≡ record k { offer = offer } → WorksOn d e
works_with_offer d k e offer works is = subst (WorksOn d) (sym is) record {
  place = works.place;
  base = works.base;
  number = works.number;
  extends = works.extends;
}

-- a turn that was refused memory
pub faulted : (refresh : ℕ) (d k : DeskData) (told : Note) → Serves d k (EndsUndone refresh d.since d.known d.offer told) → Faulted refresh d k
faulted refresh d k told s = record {
  note = told;
  serves = s;
  no_claim = ap (λ (d : DeskData). d.known.claim) s.desk ∙ ap (claim_in s.put) s.number ∙ ap (λ c. claim_with c s.put.ask) s.ends.none;
}

-- a session that steps out
stopped_claims : (stopping : Bool) (b : BookData) → (stopped_if stopping b).claims ≡ b.claims
stopped_claims true b = refl
stopped_claims false b = refl

pub given_up_none : (b : BookData) (worker : ℕ) (o : Option ℕ) → numbered b.claims worker None ≡ o → numbered (given_up b worker o).claims worker None ≡ None
given_up_none b worker None is = is
given_up_none b worker (Some person) is = let r = numbered_in b.claims worker person is in numbered-same b.claims worker None None r.0 r.1

pub let_go_hand : (d : DeskData) (taken b new : BookData) → IsInHand d taken b → new ≡ without_claim b d.known.number → IsFree new → IsInHand d taken new
let_go_hand d taken b new hand is free =
    hand_follows d taken b new hand (subst (Follows d.known.number b) (sym is) (given_up_follows b d.known.number))
    (ap (λ (b : BookData). b.stopped) is ∙ by_claim b d.known.number (numbered b.claims d.known.number None)) free
  where
    by_claim : (b : BookData) (worker : ℕ) (o : Option ℕ) → (given_up b worker o).stopped ≡ b.stopped
    by_claim b worker None = refl
    by_claim b worker (Some person) = refl

-- the result of a session that gives up the claim, and may stop the book
pub leaves_so : (stopping : Bool) (d e f : DeskData) (h one two : HeldData) → e ≡ record d {
  view = e.view;
  offer =
      None;
} → h.caught_up ≡ false → one ≡ record h { book = without_claim h.book e.known.number } →
    two ≡ record one { book = stopped_if stopping one.book } →
    f ≡ (let k : Known = e.known in record e { known = record k { stop = (stopping || k.stop) } }) →
    Leaving stopping d.known h.book f.known two.book two.caught_up
leaves_so stopping d e f h one two same fresh is_one is_two is_f =
    let known : e.known ≡ d.known = ap (λ (d : DeskData). d.known) same in record {
      book = ap (λ (h : HeldData). h.book) is_two ∙ ap (λ (h : HeldData). stopped_if stopping h.book) is_one ∙
          ap (λ (k : Known). stopped_if stopping (without_claim h.book k.number)) known;
      known = ap (λ (d : DeskData). d.known) is_f ∙ ap (λ (k : Known). record k { stop = (stopping || k.stop) }) known;
      caught_up = ap (λ (h : HeldData). h.caught_up) is_two ∙ ap (λ (h : HeldData). h.caught_up) is_one ∙ fresh;
    }

pub steps_out : (stopping : Bool) (d k : DeskData) → Serves d k (Leaving stopping d.known) → StepsOut stopping d k
steps_out stopping d k s =
    let w = d.known.number in
    let up = without_claim s.taken w in
    let none : numbered s.put.claims w None ≡ None =
    ap (λ (b : BookData). numbered b.claims w None) s.ends.book ∙ ap (λ c. numbered c w None)
    (stopped_claims stopping up) ∙ given_up_none s.taken w (numbered s.taken.claims w None) refl in
    record {
      serves = s;
      no_claim = ap (λ (d : DeskData). d.known.claim) s.desk ∙ ap (claim_in s.put) s.number ∙ ap (λ c. claim_with c s.put.ask) none;
    }

-- a desk left without claim and offer may take a turn
pub can_turn_without : (place : TableId) (EndsSo : BookData → Known → BookData → Bool → Type 0) (d k : DeskData) →
    Serves d k EndsSo → k.known.claim ≡ None → d.place ≡ place → CanTurn place k
can_turn_without place EndsSo d k s none same_place =
    let no_offer : k.offer ≡ None = ap (λ (d : DeskData). d.offer) s.desk in
    record {
      ready = (ap (λ (d : DeskData). d.place) s.desk ∙ same_place, (s.taken, s.put, s.away));
      offer = subst (λ o. MatchOption o (k.known.claim ≡ None) (λ offer. (c : Claimed) × (k.known.claim ≡ Some c) ×
          IsOffer k.base k.known.table k.known.version c.ask c.person offer)) (sym no_offer) none;
    }
