-- Tables of counts, which grow by one at a time.
use Rattle.std.proofs.Common.{◌≡◌, ℕ, ◌<◌, ◌≤◌, ◌+◌, ◌-◌, List, [], length, take, set, replicate, nat_eq, true}
use Rattle.std.proofs.Common.{false, get_or, arith, inl, inr, sym, ◌∙◌, ap, subst, ◌==◌, ◌≢◌, All, Option, None}
use Rattle.std.proofs.Common.{Some, MatchOption}
use Rattle.std.specs.List.{IsDistinct}
use Rattle.std.proofs.lemmas.List.{length-take-le, take_all}
use Rattle.std.proofs.lemmas.List.Sums.{count_by_more_yes, count_by_more_no, count_by-le-length}
use Rattle.std.proofs.lemmas.Bool.Decides.{eqb_tells}
use Rattle.std.proofs.lemmas.Bool.{cases_lt}
use Rattle.std.proofs.lemmas.List.Elements.{All-weaker}
use Rattle.assign_core.specs.Numbered.{IsNumber, numbered, renumbered}
use Rattle.assign_core.proofs.NumberedLemmas.{numbered-same, numbered-other, length-renumbered, numbered-replicate, renumber-set}
use Rattle.dual_checker.specs.Faults.{IsFirst, IsGivenTwice}
use Rattle.dual_checker.specs.Counts.{AreCounts}
use Rattle.dual_checker.proofs.Places.{at_place}
use Rattle.dual_checker.proofs.Givings.{count_of, nowhere, distinct_from}

pub none_counted : (n : ℕ) (counts : List ℕ) → counts ≡ replicate n 0 → AreCounts counts []
none_counted n counts e j h = ap (λ l. numbered l j 0) e ∙ numbered-replicate n j 0

pub few_counted : (counts xs : List ℕ) (i x : ℕ) → AreCounts counts (take i xs) → i ≤ length xs → IsNumber (length counts) x → numbered counts x 0 ≤ i
few_counted counts xs i x h le within =
    let e : numbered counts x 0 ≡ count_of (take i xs) x = h x within in
    let few : count_of (take i xs) x ≤ length (take i xs) = count_by-le-length (λ y. y == x) (take i xs) in
    let long : length (take i xs) ≡ i = length-take-le i xs le in
    omega arith

one_renumbered : (counts xs : List ℕ) (i x : ℕ) → AreCounts counts (take i xs) → i < length xs → x ≡ get_or xs i x → IsNumber (length counts) x →
    AreCounts (renumbered counts x (numbered counts x 0 + 1)) (take (i + 1) xs)
one_renumbered counts xs i x h lt e within j inside =
    let at : numbered counts j 0 ≡ count_of (take i xs) j = h j (subst (λ m. IsNumber m j) (length-renumbered counts x (numbered counts x 0 + 1)) inside) in
    elim (eqb_tells x j) [
      | inl t ↦
          let here = ap (λ k. numbered counts k 0) t.1 in
          let same = numbered-same counts x (numbered counts x 0 + 1) 0 within.first within.last in
          let read = ap (λ k. numbered (renumbered counts x (numbered counts x 0 + 1)) k 0) t.1 in
          let more : count_of (take (i + 1) xs) j ≡ count_of (take i xs) j + 1 =
          count_by_more_yes (λ y. y == j) xs i x lt (subst (λ y. nat_eq y j ≡ true) e t.0) in
          sym read ∙ same ∙ ap (λ n. n + 1) (here ∙ at) ∙ sym more
      | inr t ↦
          let other = numbered-other counts x j (numbered counts x 0 + 1) 0 (λ s. t.1 (sym s)) in
          let same : count_of (take (i + 1) xs) j ≡ count_of (take i xs) j = count_by_more_no (λ y. y == j) xs i x lt (subst (λ y. nat_eq y j ≡ false) e t.0) in
          other ∙ at ∙ sym same
    ]

-- one more at an object's place
pub one_counted : (counts xs : List ℕ) (i x k : ℕ) → AreCounts counts (take i xs) → i < length xs → x ≡ get_or xs i x → IsNumber (length counts) x → k ≡ x - 1 →
    AreCounts (set counts k (get_or counts k 0 + 1)) (take (i + 1) xs)
one_counted counts xs i x k h lt e within at =
    let write : renumbered counts x (numbered counts x 0 + 1) ≡ set counts k (get_or counts k 0 + 1) =
    renumber-set counts x (numbered counts x 0 + 1) within.first ∙ ap (λ m. set counts m (numbered counts x 0 + 1)) (sym at)
    ∙ ap (λ m. set counts k (m + 1)) (sym (at_place counts x k 0 within at)) in
    subst (λ c. AreCounts c (take (i + 1) xs)) write (one_renumbered counts xs i x h lt e within)

-- all are counted
pub all_counted : (counts xs : List ℕ) (i : ℕ) → length xs ≤ i → AreCounts counts (take i xs) → AreCounts counts xs
all_counted counts xs i end h = subst (AreCounts counts) (take_all i xs end) h

-- a number outside 1 to n isn't in a list of numbers from 1 to n
none_outside : (xs : List ℕ) (n j : ℕ) → (IsNumber n j → ⊥) → All (IsNumber n) xs → count_of xs j ≡ 0
none_outside xs n j out h = nowhere xs j (All-weaker (IsNumber n) (λ x. x ≢ j) (λ x w e. out (subst (IsNumber n) e w)) xs h)

none_twice : (counts xs : List ℕ) (n : ℕ) → AreCounts counts xs → length counts ≡ n → All (IsNumber n) xs →
    ((j : ℕ) → IsNumber (length counts) j → numbered counts j 0 ≤ 1) → IsDistinct nat_eq xs
none_twice counts xs n h long within few = distinct_from xs (λ j. elim (cases_lt 0 j) [
  | inl some ↦ elim (cases_lt n j) [
    | inl past ↦ let none = none_outside xs n j (λ w. let last = w.last in omega arith) within in omega arith
    | inr last ↦ let at : IsNumber (length counts) j = record { first = some; last = omega arith } in let e = h j at in let f = few j at in omega arith
  ]
  | inr zero_or ↦ let none = none_outside xs n j (λ w. let some = w.first in omega arith) within in omega arith
])

some_twice : (counts xs : List ℕ) (n j : ℕ) → AreCounts counts xs → length counts ≡ n →
    IsFirst (λ k. 1 < numbered counts k 0) (length counts) j → IsFirst (IsGivenTwice xs) n j
some_twice counts xs n j h long f = record {
  number = subst (λ m. IsNumber m j) long f.number;
  here = let e = h j f.number in let over = f.here in omega arith;
  none_below = λ i some below twice.
      let last = f.number.last in
      let e = h i (record { first = some; last = omega arith }) in
      f.none_below i some below (omega arith);
}

-- what the table says of the list
pub finds_twice : (counts xs : List ℕ) (n : ℕ) (first : Option ℕ) → AreCounts counts xs → length counts ≡ n → All (IsNumber n) xs →
    MatchOption first ((j : ℕ) → IsNumber (length counts) j → numbered counts j 0 ≤ 1) (λ j. IsFirst (λ k. 1 < numbered counts k 0) (length counts) j) →
    MatchOption first (IsDistinct nat_eq xs) (λ j. IsFirst (IsGivenTwice xs) n j)
finds_twice counts xs n None h long within few = none_twice counts xs n h long within few
finds_twice counts xs n (Some j) h long within f = some_twice counts xs n j h long f
