-- Each event keeps what holds of the core.
use Rattle.std.proofs.Common.{◌≡◌, ℕ, ℤ, zero, suc, ◌<◌, ◌≤◌, ◌≤ℤ◌, List, [], ◌∷◌, ◌++◌, length}
use Rattle.std.proofs.Common.{replicate, nat_le, Bool, true, false, ◌&&◌, MatchBool, refl, ap}
use Rattle.std.proofs.Common.{arith, sym, ◌∙◌, subst, Option, None, inl, inr}
use Rattle.std.proofs.lemmas.List.{get_or-replicate, length-replicate}
use Rattle.std.proofs.lemmas.Bool.Decides.{eqb_tells, nat_tests}
use Rattle.assign_core.specs.Numbered.{IsNumber, numbered, renumbered}
use Rattle.assign_core.specs.Rows.{IsProblem}
use Rattle.assign_core.specs.Prices.{IsTable}
use Rattle.assign_core.specs.declared.numbers.TheConstants.{GREATEST_FIRST_PRICE}
use Rattle.assign_core.proofs.Matchings.{below_itself}
use Rattle.assign_core.proofs.NumberedLemmas.{length-renumbered, numbered-other, numbered-replicate, numbered-same}
use Rattle.scaled_values.specs.Scaled.{ScaledProblem, greatest_of}
use Rattle.bidder.specs.declared.offers.Offer.{Offer}
use Rattle.auction_book.specs.declared.answers.Claim.{Claim}
use Rattle.auction_book.specs.declared.schedule.Event.{Event}
use Rattle.auction_book.specs.declared.schedule.WorkerState.{WorkerState}
use Rattle.auction_book.specs.Book.{BookData, persons_of}
use Rattle.auction_book.specs.Claims.{after_claim}
use Rattle.auction_book.specs.Follows.{GoesOn}
use Rattle.auction_book.specs.Free.{IsFree}
use Rattle.auction_book.specs.Phases.{opened}
use Rattle.auction_book.specs.Schedule.{CoreData, Happens, IsFit, IsWorkerState, Run, core_next, core_opened}
use Rattle.auction_book.specs.Schedule.{is_worker, state_at, state_next, state_of_prices}
use Rattle.auction_book.specs.Session.{Submits, book_left}
use Rattle.auction_book.specs.Session.{book_next, book_kept_up, next_if_over, prepared, table_kept_up}
use Rattle.auction_book.specs.Session.{version_kept_up}
use Rattle.auction_book.proofs.Claiming.{after_claim_by}
use Rattle.auction_book.proofs.Following.{goes_on_itself, goes_on_through}
use Rattle.auction_book.proofs.Opening.{opened_free}
use Rattle.auction_book.proofs.WorkerSteps.{IsLeft, IsOwn, IsStep, claim_is, in_range, next_same, noted_left}
use Rattle.auction_book.proofs.WorkerSteps.{own_kept, own_taken, state_kept, step_next, step_taken, taken_same}

-- the rest of a session, from the book after the submission
pub record IsReady (w : ℕ) (catch_up : Bool) (new : BookData) (table : List ℤ) (version : ℕ) : Type 0 where
  pub taken : IsStep w new (book_kept_up catch_up new w)
  pub next : IsStep w (book_kept_up catch_up new w) (book_next catch_up new w)
  pub none : numbered (book_next catch_up new w).claims w None ≡ None
  pub own : IsOwn (book_next catch_up new w) (table_kept_up catch_up new table) (version_kept_up catch_up new version)
  pub counts : (book_next catch_up new w).counts ≡ new.counts

pub ready : (w : ℕ) (catch_up : Bool) (new : BookData) (table : List ℤ) (version : ℕ) → IsFree new →
    numbered new.claims w None ≡ None → IsOwn new table version → IsReady w catch_up new table version
ready w catch_up new table version free none own =
    let taken = book_kept_up catch_up new w in
    let two = step_taken catch_up w new free in
    let same = taken_same catch_up w new in
    let three = step_next w taken two.free in
    let after = next_same taken in
    record {
      taken = two;
      next = three;
      none = ap (λ c. numbered c w None) (after.0 ∙ same.0) ∙ none;
      own = own_kept taken (next_if_over taken) (table_kept_up catch_up new table)
          (version_kept_up catch_up new version) two.free three.follows.goes_on
          (own_taken catch_up w new table version free own);
      counts = after.1 ∙ same.1;
    }

-- one event
pub record IsEvent (core new : CoreData) : Type 0 where
  pub fit : IsFit new
  pub on : GoesOn core.book new.book

happened_fit : (core : CoreData) (e : Event) (b : BookData) → IsFit core → IsNumber (length core.states) e.worker →
    Submits core.book e.worker (state_at core e.worker).offer b →
    IsEvent core (core_next core e (state_at core e.worker) b)
happened_fit core e b fit number submits =
    let w = e.worker in
    let state = state_at core w in
    let is = fit.each w number in
    let one = noted_left w core.book b state.table state.version state.offer submits.0 fit.book is.long is.prepared submits.1 in
    let left = one.ends in
    let own = own_kept core.book b state.table state.version fit.book left.follows.goes_on (record { long = is.long; earlier = is.earlier }) in
    let r = ready w e.catch_up b state.table state.version one.free left.none own in
    let taken = book_kept_up e.catch_up b w in
    let next = book_next e.catch_up b w in
    let more = left.follows.goes_on.workers in
    let more2 = r.taken.follows.goes_on.workers in
    let more3 = r.next.follows.goes_on.workers in
    let in_claims : w ≤ length next.claims = let x = fit.states in let l = number.last in omega arith in
    let table = table_kept_up e.catch_up b state.table in
    let version = version_kept_up e.catch_up b state.version in
    let four = claim_is w next table version r.next.free r.none (record { first = number.first; last = in_claims }) in
    let own3 = four.own r.own in
    let last_book = book_left e.catch_up b w in
    let mine : IsWorkerState last_book w (state_next e b state) = record {
      long = own3.long;
      earlier = own3.earlier;
      told = ap (λ c. numbered c w 0) (sym (four.counts ∙ r.counts));
      prepared = four.prepared;
    } in
    let long = length-renumbered core.states w (state_next e b state) in
    record {
      fit = record {
        book = four.step.free;
        states = let x = fit.states in let v = four.step.follows.goes_on.workers in omega arith;
        each = λ k in_states. elim (eqb_tells k w) [
          | inl t ↦ subst (λ m. IsWorkerState last_book m (numbered (renumbered core.states w (state_next e b state)) m (state_of_prices []))) (sym t.1)
              (subst (IsWorkerState last_book w) (sym (numbered-same core.states w (state_next e b state) (state_of_prices []) number.first number.last)) mine)
          | inr t ↦ subst (IsWorkerState last_book k) (sym (numbered-other core.states w k (state_next e b state) (state_of_prices []) t.1))
              (state_kept w k next last_book (state_at core k) r.next.free four.step.follows t.1
              (state_kept w k taken next (state_at core k) r.taken.free r.next.follows t.1
              (state_kept w k b taken (state_at core k) one.free r.taken.follows t.1
              (state_kept w k core.book b (state_at core k) fit.book left.follows t.1
              (fit.each k (record { first = in_states.first; last = let l = in_states.last in omega arith }))))))
        ];
      };
      on = goes_on_through core.book b last_book left.follows.goes_on
          (goes_on_through b taken last_book r.taken.follows.goes_on
          (goes_on_through taken next last_book r.next.follows.goes_on four.step.follows.goes_on));
    }

event_fit : (core : CoreData) (e : Event) (new : CoreData) (t : Bool) → is_worker core e.worker ≡ t → IsFit core →
    MatchBool t ((b : BookData) × Submits core.book e.worker (state_at core e.worker).offer b ×
    (new ≡ core_next core e (state_at core e.worker) b)) (new ≡ core) → IsEvent core new
event_fit core e new true is fit h = subst (IsEvent core) (sym h.2) (happened_fit core e h.0 fit (in_range (length core.states) e.worker is) h.1)
event_fit core e new false is fit h = subst (IsEvent core) (sym h) (record { fit = fit; on = goes_on_itself core.book })

pub run_fit : (core : CoreData) (events : List Event) (new : CoreData) → IsFit core → Run core events new → IsEvent core new
run_fit core [] new fit run = subst (IsEvent core) (sym run) (record { fit = fit; on = goes_on_itself core.book })
run_fit core (e ∷ events) new fit run =
    let first = event_fit core e run.0 (is_worker core e.worker) refl fit run.1 in
    let rest = run_fit run.0 events new first.fit run.2 in
    record { fit = rest.fit; on = goes_on_through core.book run.0.book new.book first.on rest.on }

same_state : (n w : ℕ) (state d : WorkerState) → 0 < w → w ≤ n → numbered (replicate n state) w d ≡ state
same_state n zero state d h l = absurd (omega arith)
same_state n (suc k) state d h l = get_or-replicate n k state d (omega arith)

pub opened_fit : (s : ScaledProblem) (prices : List ℤ) (workers : ℕ) → IsProblem s.problem → IsTable prices →
    length prices ≡ length s.problem → greatest_of prices ≤ℤ GREATEST_FIRST_PRICE → IsFit (core_opened s prices workers)
opened_fit s prices workers problem table long low =
    let l = length-replicate workers (state_of_prices prices) in
    record {
      book = opened_free s prices workers problem table long low;
      states = l ∙ sym (length-replicate workers None);
      each = λ w number. subst (IsWorkerState (opened s prices workers) w)
          (sym (same_state workers w (state_of_prices prices) (state_of_prices []) number.first (let x =
          number.last in omega arith))) (record {
            long = below_itself prices;
            earlier = record { reached = omega arith; same = λ h. refl; below = λ h. absurd (omega arith) };
            told = sym (numbered-replicate workers w 0);
            prepared = numbered-replicate workers w None;
          });
    }

pub runs_fit : (s : ScaledProblem) (prices : List ℤ) (workers : ℕ) (events : List Event) (core : CoreData) →
    IsProblem s.problem → IsTable prices → length prices ≡ length s.problem →
    greatest_of prices ≤ℤ GREATEST_FIRST_PRICE →
    Run (core_opened s prices workers) events core → IsFit core
runs_fit s prices workers events core problem table long low run =
    (run_fit (core_opened s prices workers) events core (opened_fit s prices workers problem table long low) run).fit

-- one more event
pub run_more : (core mid new : CoreData) (events : List Event) (e : Event) → Run core events mid → Happens mid e new → Run core (events ++ e ∷ []) new
run_more core mid new [] e run h = (new, subst (λ c. Happens c e new) run h, refl)
run_more core mid new (x ∷ events) e run h = (run.0, run.1, run_more run.0 mid new events e run.2 h)

-- an event of a worker
pub happens_at : (core : CoreData) (e : Event) (b : BookData) (new : CoreData) →
    IsNumber (length core.states) e.worker → Submits core.book e.worker (state_at core e.worker).offer b →
    new ≡ core_next core e (state_at core e.worker) b → Happens core e new
happens_at core e b new number submits is =
    let t : is_worker core e.worker ≡ true = yes (length core.states) e.worker number.first number.last in
    subst (λ t. MatchBool t ((b : BookData) × Submits core.book e.worker (state_at core e.worker).offer b ×
    (new ≡ core_next core e (state_at core e.worker) b)) (new ≡ core)) (sym t) (b, submits, is) where
      yes : (n w : ℕ) → 0 < w → w ≤ n → (nat_le 1 w && nat_le w n) ≡ true
      yes n w h l = grind (arith, nat_tests)

pub same_core : (b d : BookData) (s t : List WorkerState) (x y : CoreData) → x ≡ record { book = b; states = s } →
    y ≡ record { book = d; states = t } → b ≡ d → s ≡ t → x ≡ y
same_core b d s t x y p q e f =
    p ∙ ap (λ z. let c : CoreData = record { book = z; states = s } in c) e ∙ ap (λ z. let c : CoreData = record { book = d; states = z } in c) f ∙ sym q

-- the book after the submission
pub record IsAttended (w : ℕ) (catch_up : Bool) (b new : BookData) (table : List ℤ) (version : ℕ) : Type 0 where
  pub left : IsLeft w b new
  pub own : IsOwn new table version
  pub ready : IsReady w catch_up new table version
  pub number : IsNumber (length new.claims) w

pub attended : (w : ℕ) (catch_up : Bool) (b new : BookData) (state : WorkerState) → IsFree b →
    IsNumber (length b.claims) w → IsWorkerState b w state → Submits b w state.offer new →
    IsAttended w catch_up b new state.table state.version
attended w catch_up b new state free number is submits =
    let left = noted_left w b new state.table state.version state.offer submits.0 free is.long is.prepared submits.1 in
    let own = own_kept b new state.table state.version free left.ends.follows.goes_on (record { long = is.long; earlier = is.earlier }) in
    record {
      left = left;
      own = own;
      ready = ready w catch_up new state.table state.version left.free left.ends.none own;
      number = subst (λ n. IsNumber n w) (sym left.ends.follows.goes_on.workers) number;
    }

-- the number of workers before the claim
pub next_workers : (w : ℕ) (catch_up : Bool) (b new : BookData) (table : List ℤ) (version : ℕ) →
    IsAttended w catch_up b new table version → IsNumber (length (book_next catch_up new w).claims) w
next_workers w catch_up b new table version is =
    subst (λ n. IsNumber n w) (sym (is.ready.next.follows.goes_on.workers ∙ is.ready.taken.follows.goes_on.workers)) is.number

-- the table is as long as the problem
pub next_long : (w : ℕ) (catch_up : Bool) (b new : BookData) (table : List ℤ) (version : ℕ) →
    IsAttended w catch_up b new table version → length (table_kept_up catch_up new table) ≡ persons_of
    (book_next catch_up new w)
next_long w catch_up b new table version is = is.ready.own.long.long ∙ is.ready.next.free.sizes.priced

pub after_claim-base : (b : BookData) (w : ℕ) (answer : Claim) → (after_claim b w answer).base ≡ b.base
after_claim-base b w answer = after_claim_by (λ (n : BookData). n.base ≡ b.base) b w answer refl refl

pub same_states : (t u : List ℤ) (v w : ℕ) (o p : Option Offer) (m n : ℕ) → t ≡ u → v ≡ w → o ≡ p → m ≡ n →
    let first : WorkerState = record { table = t; version = v; offer = o; accepted = m } in
    let second : WorkerState = record { table = u; version = w; offer = p; accepted = n } in first ≡ second
same_states t u v w o p m n e f g h = rw (e, f, g, h) refl

-- the prepared offer
pub same_offers : (s r : ScaledProblem) (t u : List ℤ) (v w : ℕ) (x y : Claim) → s ≡ r → t ≡ u → v ≡ w → x ≡ y → prepared s t v x ≡ prepared r u w y
same_offers s r t u v w x y e f g h =
    ap (λ z. prepared z t v x) e ∙ ap (λ z. prepared r z v x) f ∙ ap (λ z. prepared r u z x) g ∙ ap (prepared r u w) h
