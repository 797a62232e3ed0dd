-- Who waits, who is claimed, and when nobody does.
use Rattle.std.proofs.Common.{◌≡◌, ℕ, pos, suc, ◌≤◌, List, [], ◌∷◌, length, Option, None, Some, true, true≢false}
use Rattle.std.proofs.Common.{cond, nat_eq, slice_index, refl, ap, arith, sym, ◌∙◌, subst, is_some}
use Rattle.std.specs.List.{count_by}
use Rattle.std.specs.Ordering.{int_eq}
use Rattle.std.proofs.lemmas.List.Sums.{sum_by-cons}
use Rattle.std.proofs.lemmas.Bool.{and_parts, eqb-true}
use Rattle.std.proofs.lemmas.Bool.Decides.{nat_tests}
use Rattle.assign_core.specs.Numbered.{numbered}
use Rattle.assign_core.proofs.NumberedLemmas.{length-renumbered}
use Rattle.auction_book.specs.declared.answers.Claim.{Claim}
use Rattle.auction_book.specs.declared.answers.Claim.TheVariants as claim
use Rattle.auction_book.specs.Book.{BookData, persons_of}
use Rattle.auction_book.specs.Changes.{claimed}
use Rattle.bidder.specs.declared.offers.Ask.{Ask}
use Rattle.auction_book.specs.Claims.{after_claim, claim_of}
use Rattle.auction_book.specs.Free.{IsFree}
use Rattle.auction_book.specs.Phases.{is_assigned}
use Rattle.auction_book.proofs.Claiming.{claim_by}
use Rattle.auction_book.proofs.Opening.{none_wait}
use Rattle.auction_book.proofs.Places.{everyone}
use Rattle.rounds.specs.Rounds.{IsAtRest, IsGoing}

-- ---- nobody is claimed
count_none : (xs : List (Option ℕ)) → ((k : ℕ) → numbered xs (suc k) None ≡ None) → count_by is_some xs ≡ 0
count_none [] h = refl
count_none (x ∷ xs) h =
    let s = sum_by-cons (λ y. cond (is_some y) 1 0) x xs in
    let first : x ≡ None = h 0 in
    let z : cond {A = ℕ} (is_some x) 1 0 ≡ 0 = ap (λ (y : Option ℕ). cond {A = ℕ} (is_some y) 1 0) first in
    let rest = count_none xs (λ k. h (suc k)) in
    omega arith

pub rest_claims : (b : BookData) → IsAtRest b → count_by is_some b.claims ≡ 0
rest_claims b rest = count_none b.claims (λ k. rest.unclaimed.others (suc k) (omega arith))

-- where everybody is assigned nobody waits
pub assigned_empty : (b : BookData) → IsFree b → is_assigned b ≡ true → b.queue ≡ []
assigned_empty b free all = none_wait b free (eqb-true (count_by is_some b.owners) (persons_of b) all)

-- where nobody waits and nobody is claimed everybody is assigned
pub empty_assigned : (b : BookData) → IsAtRest b → b.queue ≡ [] → is_assigned b ≡ true
empty_assigned b rest none =
    let e = everyone (persons_of b) b.owners b.queue b.claims rest.going.free.placed_once in
    let c = rest_claims b rest in
    let q : length b.queue ≡ 0 = ap length none in
    let all : count_by is_some b.owners ≡ persons_of b = omega arith in
    same (count_by is_some b.owners) (persons_of b) all where
      same : (m n : ℕ) → m ≡ n → nat_eq m n ≡ true
      same m n h = grind (arith, nat_tests)

-- as many wait as there are persons, or fewer
pub queue_few : (b : BookData) → IsFree b → length b.queue ≤ persons_of b
queue_few b free = let e = everyone (persons_of b) b.owners b.queue b.claims free.placed_once in omega arith

-- ---- what a claim answers
-- where a claim names nobody, nobody waits
pub nobody_claimed : (b new : BookData) (worker : ℕ) (answer : Claim) → IsGoing b → answer ≡ claim_of b →
    new ≡ after_claim b worker answer → ((p : ℕ) (a : Ask) → answer ≡ claim.Person p a → ⊥) → (b.queue ≡ []) × (new ≡ b)
nobody_claimed b new worker answer going e f h =
    let IsNobody : Claim → Type 0 = λ c. ((p : ℕ) (a : Ask) → c ≡ claim.Person p a → ⊥) → (b.queue ≡ []) × (after_claim b worker c ≡ b) in
    let claimed : IsNobody (claim_of b) = claim_by IsNobody b
    (λ refuted none. absurd (true≢false (sym refuted ∙ ap is_some going.unrefuted)))
    (λ done none. (assigned_empty b going.free (and_parts (is_assigned b) (int_eq b.ask.eps (pos 1)) done).0, refl))
    (λ stopped none. absurd (true≢false (sym stopped ∙ going.unstopped)))
    (λ on empty none. (empty, refl))
    (λ person rest on front none. absurd (none person b.ask refl)) in
    let r = subst IsNobody (sym e) claimed h in
    (r.0, f ∙ r.1)

-- a claimed person leaves the rest as it was
pub going_claimed : (b new : BookData) (worker : ℕ) → new ≡ claimed b worker → IsFree new → IsGoing b → IsGoing new
going_claimed b new worker e free going = subst IsGoing (sym e) (record {
  free = subst IsFree e free;
  unrefuted = going.unrefuted;
  unstopped = going.unstopped;
  workers = length-renumbered b.claims worker (Some (slice_index b.queue 0)) ∙ going.workers;
})

-- who a claim names is the front of the queue
pub claimed_front : (b : BookData) (person : ℕ) (ask : Ask) → claim_of b ≡ claim.Person person ask → (rest : List ℕ) × (b.queue ≡ person ∷ rest)
claimed_front b person ask = claim_by (λ c. c ≡ claim.Person person ask → (rest : List ℕ) × (b.queue ≡ person ∷ rest)) b
    (λ refuted e. absurd cc)
    (λ done e. absurd cc)
    (λ stopped e. absurd cc)
    (λ on empty e. absurd cc)
    (λ i rest on front e. let same : i ≡ person = cc in (rest, front ∙ ap (λ k. k ∷ rest) same))
