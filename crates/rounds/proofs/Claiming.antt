-- Workers claim the queue.
use Rattle.std.proofs.Common.{◌≡◌, ℕ, zero, suc, ◌+◌, ◌<◌, ◌≤◌, ◌⊎◌, inl, inr, List, [], ◌∷◌, ◌++◌, Option, None}
use Rattle.std.proofs.Common.{Some, length, get_or, drop, set, refl, ap, sym, ◌∙◌, subst, arith, append_assoc}
use Rattle.std.proofs.Common.{append-nil, length-append, get_or-set_same, get_or-set_other}
use Rattle.std.proofs.lemmas.Bool.{cases_eq}
use Rattle.std.proofs.lemmas.List.{length_push, get_or_push, get_or_append_left, nil_from_length}
use Rattle.assign_core.specs.Numbered.{numbered, renumbered}
use Rattle.auction_book.specs.Book.{BookData, persons_of}
use Rattle.auction_book.specs.Changes.{claimed}
use Rattle.rounds.specs.Rounds.{AreClaimed, IsAtRest, IsGoing}
use Rattle.rounds.specs.inside.Books.{IsClaimed}
use Rattle.rounds.proofs.Waiting.{queue_few}

here_or_before : (k i : ℕ) → k < i + 1 → (k ≡ i) ⊎ (k < i)
here_or_before k i h = grind arith

-- one person more is claimed
pub claimed_more : (persons : List ℕ) (claims : List (Option ℕ)) (p : ℕ) → length persons < length claims →
    AreClaimed persons 0 claims → AreClaimed (persons ++ p ∷ []) 0 (renumbered claims (suc (length persons)) (Some p))
claimed_more persons claims p room was =
    let i = length persons in
    let long : length (persons ++ p ∷ []) ≡ length persons + 1 = length_push persons p in
    record {
      held = λ k d from lt. elim (here_or_before k i (omega arith)) [
        | inl e ↦
            let same : get_or (set claims i (Some p)) k None ≡ Some p =
            subst (λ x. get_or (set claims i (Some p)) x None ≡ Some p) (sym e)
            (get_or-set_same claims i (Some p) None room) in
            same ∙ ap Some (sym (get_or_push persons p d k (sym e)))
        | inr less ↦
            let other = get_or-set_other claims i k (Some p) None (λ (e : k ≡ i). omega arith) in
            other ∙ was.held k d from less ∙ ap Some (sym (get_or_append_left persons (p ∷ []) d k less))
      ];
      past = past_none (renumbered claims (suc i) (Some p));
      others = λ w lt. others_more claims i p was.others w (omega arith);
    } where
      past_none : (claims : List (Option ℕ)) (w : ℕ) → w ≤ 0 → numbered claims w None ≡ None
      past_none claims zero le = refl
      past_none claims (suc k) le = absurd (omega arith)

      others_more : (claims : List (Option ℕ)) (i p : ℕ) → ((w : ℕ) → i < w → numbered claims w None ≡ None) →
          (w : ℕ) → i + 1 < w → numbered (renumbered claims (suc i) (Some p)) w None ≡ None
      others_more claims i p h zero lt = refl
      others_more claims i p h (suc k) lt = get_or-set_other claims i k (Some p) None (λ (e : k ≡ i). omega arith) ∙ h (suc k) (omega arith)

-- the claim of one person is over
pub claimed_less : (persons : List ℕ) (claims : List (Option ℕ)) (i : ℕ) → i < length claims →
    AreClaimed persons i claims → AreClaimed persons (i + 1) (renumbered claims (suc i) None)
claimed_less persons claims i room was = record {
  held = λ k d from lt. get_or-set_other claims i k None None (λ (e : k ≡ i). omega arith) ∙ was.held k d (omega arith) lt;
  past = past_more claims i room was.past;
  others = others_less claims i (length persons) was.others;
} where
  past_more : (claims : List (Option ℕ)) (i : ℕ) → i < length claims →
      ((w : ℕ) → w ≤ i → numbered claims w None ≡ None) → (w : ℕ) → w ≤ i + 1 →
      numbered (renumbered claims (suc i) None) w None ≡ None
  past_more claims i room h zero le = refl
  past_more claims i room h (suc k) le = elim (here_or_before k i (omega arith)) [
    | inl e ↦ subst (λ x. get_or (set claims i None) x None ≡ None) (sym e) (get_or-set_same claims i None None room)
    | inr less ↦ get_or-set_other claims i k None None (λ (e : k ≡ i). omega arith) ∙ h (suc k) (omega arith)
  ]

  by_place : (claims : List (Option ℕ)) (i k : ℕ) → k ≡ i → get_or claims k None ≡ None → get_or (set claims i None) k None ≡ None
  by_place [] i k e h = h
  by_place (x ∷ claims) zero zero e h = refl
  by_place (x ∷ claims) zero (suc k) e h = absurd (omega arith)
  by_place (x ∷ claims) (suc i) zero e h = absurd (omega arith)
  by_place (x ∷ claims) (suc i) (suc k) e h = by_place claims i k (omega arith) h

  others_less : (claims : List (Option ℕ)) (i n : ℕ) → ((w : ℕ) → n < w → numbered claims w None ≡ None) → (w : ℕ) →
      n < w → numbered (renumbered claims (suc i) None) w None ≡ None
  others_less claims i n h zero lt = refl
  others_less claims i n h (suc k) lt = elim (cases_eq k i) [
    | inl e ↦ by_place claims i k e (h (suc k) lt)
    | inr ne ↦ get_or-set_other claims i k None None ne ∙ h (suc k) lt
  ]

-- the first i workers have claimed these persons
pub record IsClaiming (old now : BookData) (persons : List ℕ) (i : ℕ) : Type 0 where
  pub going : IsGoing now
  pub count : length persons ≡ i
  pub all : persons ++ now.queue ≡ old.queue
  pub rest : now ≡ record old { queue = now.queue; claims = now.claims }
  pub claimed : AreClaimed persons 0 now.claims

claimed_front : (now : BookData) (worker p : ℕ) (rest : List ℕ) → now.queue ≡ p ∷ rest →
    claimed now worker ≡ record now { queue = rest; claims = renumbered now.claims worker (Some p) }
claimed_front now worker p rest e = ap (λ (q : List ℕ). record now { queue = drop 1 q; claims = renumbered now.claims worker (Some (get_or q 0 0)) }) e

-- one worker more
pub claiming_more : (old now new : BookData) (persons : List ℕ) (i worker p : ℕ) (rest : List ℕ) →
    IsClaiming old now persons i → worker ≡ suc i → worker ≤ length now.claims → now.queue ≡ p ∷ rest →
    new ≡ claimed now worker → IsGoing new → IsClaiming old new (persons ++ p ∷ []) (i + 1)
claiming_more old now new persons i worker p rest is w within front e going =
    let count = is.count in
    let after : new ≡ record now { queue = rest; claims = renumbered now.claims (suc i) (Some p) } =
    e ∙ ap (claimed now) w ∙ claimed_front now (suc i) p rest front in
    subst (λ x. IsClaiming old x (persons ++ p ∷ []) (i + 1)) (sym after) (record {
      going = subst IsGoing after going;
      count = let l : length (persons ++ p ∷ []) ≡ length persons + 1 = length_push persons p in omega arith;
      all = append_assoc persons (p ∷ []) rest ∙ ap (λ q. persons ++ q) (sym front) ∙ is.all;
      rest = ap (λ (b : BookData). record b { queue = rest; claims = renumbered now.claims (suc i) (Some p) }) is.rest;
      claimed = subst (λ k. AreClaimed (persons ++ p ∷ []) 0 (renumbered now.claims (suc k) (Some p))) count
          (claimed_more persons now.claims p (omega arith) is.claimed);
    })

-- all who waited are claimed
pub claiming_done : (old now : BookData) (persons : List ℕ) (i : ℕ) → IsClaiming old now persons i → now.queue ≡ [] → IsClaimed old persons now
claiming_done old now persons i is none = record {
  going = is.going;
  all = sym (append-nil persons) ∙ ap (λ q. persons ++ q) (sym none) ∙ is.all;
  rest = is.rest ∙ ap (λ (q : List ℕ). record old { queue = q; claims = now.claims }) none;
  claimed = is.claimed;
}

-- there is a worker for each person who waits
pub claiming_full : (old now : BookData) (persons : List ℕ) (i : ℕ) → IsAtRest old → IsClaiming old now persons i → persons_of old ≤ i → now.queue ≡ []
claiming_full old now persons i rest is full =
    let few = queue_few old rest.going.free in
    let count = is.count in
    let all = ap length is.all in
    let parts = length-append persons now.queue in
    nil_from_length now.queue (omega arith)

-- a worker is left for who waits
pub claiming_room : (old now : BookData) (persons : List ℕ) (i : ℕ) → IsClaiming old now persons i → i < persons_of old → i + 1 ≤ length now.claims
claiming_room old now persons i is lt =
    let same : persons_of now ≡ persons_of old = ap persons_of is.rest in
    let workers = is.going.workers in
    omega arith
