-- The answer of a book, and the counts of its workers.
use Rattle.std.proofs.Common.{◌≡◌, ℕ, ℤ, zero, suc, ◌+◌, List, [], ◌∷◌, ◌++◌, length, get_or, sum, add-one, None}
use Rattle.std.proofs.Common.{Some, MatchOption, refl, sym, ap, ◌∙◌, subst, arith, true≢false}
use Rattle.std.proofs.lemmas.List.{length-replicate}
use Rattle.std.proofs.lemmas.List.Sums.{sum_by-cons}
use Rattle.assign_core.specs.Hall.{HallLists, IsHallSet}
use Rattle.assign_core.specs.Numbered.{numbered}
use Rattle.assign_core.specs.declared.outcome.Outcome.{Outcome}
use Rattle.assign_core.specs.declared.outcome.Outcome.TheVariants.{Best, Hall}
use Rattle.scaled_values.specs.Scaled.{ScaledProblem}
use Rattle.auction_book.specs.Book.{BookData, persons_of}
use Rattle.auction_book.specs.Free.{IsFree}
use Rattle.auction_book.specs.Phases.{opened}
use Rattle.auction_book.proofs.Answering.{done_is}
use Rattle.auction_book.proofs.Following.{goes_on_through}
use Rattle.async_workers.specs.declared.solving.Tally.{Tally}
use Rattle.async_workers.specs.PlaceRule.{Extends}
use Rattle.async_workers.specs.Solving.{IsAnsweredBy, IsEndOf, IsEnough, IsSolved, accepted_in_all, tallies, tally_of}

pub recorded_hall : (b : BookData) (hall copy : HallLists) → IsFree b → b.refuted ≡ Some hall → copy ≡ hall → IsAnsweredBy b (Hall copy)
recorded_hall b hall copy free is same =
    let set : IsHallSet b.base.problem hall.persons hall.objects =
    subst (λ o. MatchOption o (Unit {0}) (λ h. IsHallSet b.base.problem h.persons h.objects)) is free.recorded in
    subst (λ (h : HallLists). (b.refuted ≡ Some h) × IsHallSet b.base.problem h.persons h.objects) (sym same) (is, set)

-- ---- the counts of all workers
first_sum : List ℕ → ℕ → ℕ
first_sum xs zero = 0
first_sum xs (suc n) = first_sum xs n + get_or xs n 0

first_cons : (x : ℕ) (xs : List ℕ) (n : ℕ) → first_sum (x ∷ xs) (suc n) ≡ x + first_sum xs n
unfolding first_sum
first_cons x xs zero = let e : 0 + x ≡ x + 0 = omega arith in e
first_cons x xs (suc n) =
    let e : (x + first_sum xs n) + get_or xs n 0 ≡ x + (first_sum xs n + get_or xs n 0) = omega arith in
    ap (λ m. m + get_or xs n 0) (first_cons x xs n) ∙ e

first_all : (xs : List ℕ) → first_sum xs (length xs) ≡ sum xs
unfolding first_sum
first_all [] = refl
first_all (x ∷ xs) = first_cons x xs (length xs) ∙ ap (λ m. x + m) (first_all xs) ∙ sym (sum_by-cons (λ y. y) x xs)

in_all_more : (told : List Tally) (t : Tally) → accepted_in_all (told ++ t ∷ []) ≡ accepted_in_all told + t.accepted
in_all_more [] t = let e : t.accepted + 0 ≡ 0 + t.accepted = omega arith in e
in_all_more (u ∷ told) t =
    let e : u.accepted + (accepted_in_all told + t.accepted) ≡ (u.accepted + accepted_in_all told) + t.accepted = omega arith in
    ap (λ m. u.accepted + m) (in_all_more told t) ∙ e

told_in_all : (b : BookData) (n : ℕ) → accepted_in_all (tallies b n) ≡ first_sum b.counts n
unfolding first_sum
told_in_all b zero = refl
told_in_all b (suc n) =
    let before = told_in_all b n in
    let last : numbered b.counts (n + 1) 0 ≡ get_or b.counts n 0 = ap (λ k. numbered b.counts k 0) (add-one n) in
    in_all_more (tallies b n) (tally_of b (n + 1)) ∙ (λ i. before i + last i)

-- enough bids were accepted for each person to be assigned by one
pub solved_enough : (s : ScaledProblem) (prices : List ℤ) (workers : ℕ) (outcome : Outcome) (told : List Tally) →
    IsSolved s prices workers outcome told → IsEnough (length s.problem) outcome told
solved_enough s prices workers (Hall h) told is = tt
solved_enough s prices workers (Best c) told is =
    let b = is.book in
    let all = (done_is b is.answers.0).assigned in
    let owned = is.free.progress.owned in
    let total = is.free.counts_total in
    let persons : persons_of b ≡ length s.problem = ap (λ (s : ScaledProblem). length s.problem) is.goes_on.base in
    let long : length b.counts ≡ workers = is.free.sizes.counted ∙ is.goes_on.workers ∙ length-replicate workers None in
    let sums : accepted_in_all told ≡ sum b.counts =
    ap accepted_in_all is.tallied ∙ told_in_all b workers ∙ ap (first_sum b.counts) (sym long) ∙ first_all b.counts in
    omega (arith, all, owned, total, persons, sums)

-- ---- a whole run
-- the workers' book has an end, and no Hall set was recorded in the opened one
pub solved : (s : ScaledProblem) (prices : List ℤ) (workers : ℕ) (opening worked : BookData) (outcome : Outcome)
    (told : List Tally) → opening ≡ opened s prices workers → Extends opening worked →
    IsEndOf worked (length worked.claims) outcome told → IsSolved s prices workers outcome told
solved s prices workers opening worked outcome told is extends end =
    let b = opened s prices workers in
    let on : Extends b worked = subst (λ o. Extends o worked) is extends in
    let same : length worked.claims ≡ workers = on.workers ∙ length-replicate workers None in
    record {
      book = end.book;
      free = end.free;
      goes_on = goes_on_through b worked end.book (record {
        base = on.base;
        workers = on.workers;
        below = on.below;
        log = on.log;
        refuted = λ h. absurd (true≢false (sym h));
      }) end.goes_on;
      answers = end.answers;
      tallied = end.tallied ∙ ap (tallies end.book) same;
    }
