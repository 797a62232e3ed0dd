-- A book at the start of a run, and at the start of a phase.
use Rattle.std.proofs.Common.{◌≡◌, ℕ, ℤ, pos, zero, suc, ◌+ℤ◌, ◌*ℤ◌, ◌≤ℤ◌, ◌+◌, ◌-◌, ◌<◌, ◌≤◌, List, [], ◌∷◌, ◌++◌}
use Rattle.std.proofs.Common.{length, replicate, nat_eq, sum, Bool, true, false, cond, refl, ap, arith, sym, ◌∙◌}
use Rattle.std.proofs.Common.{subst, Option, None, Some, is_some}
use Rattle.std.specs.List.{All, count_by}
use Rattle.std.specs.Option.{option_and_then}
use Rattle.std.proofs.lemmas.Int.{ints}
use Rattle.std.proofs.lemmas.List.{length-replicate, length_push, nil_from_length}
use Rattle.std.proofs.lemmas.List.Sums.{sum_by_push, sum_by-cons, sum_by-le-sum_by}
use Rattle.std.proofs.lemmas.Bool.{cond-false}
use Rattle.std.proofs.lemmas.Bool.Decides.{nat_tests}
use Rattle.std.proofs.Math.IntN.{suc_ℤ-*ℤ}
use lib.IntN.{zero-*ℤ}
use Rattle.assign_core.specs.Rows.{Listing, IsProblem}
use Rattle.assign_core.specs.Prices.{IsPrice, IsTable, price_of}
use Rattle.assign_core.specs.Matching.{IsMatching}
use Rattle.assign_core.proofs.NumberedLemmas.{numbered-replicate}
use Rattle.scaled_values.specs.Scaled.{ScaledProblem, eps_after, fifth, first_eps, greatest_of, next_eps, spread, top_of}
use Rattle.scaled_values.proofs.BenefitRange.{greatest_holds}
use Rattle.scaled_values.proofs.EpsList.{IsEps-first, few, next_is}
use Rattle.assign_core.specs.declared.numbers.TheConstants.{GREATEST_FIRST_PRICE}
use Rattle.auction_book.specs.Book.{BookData, is_person, one_if_person, persons_of, prices_of, version_of}
use Rattle.auction_book.specs.Changes.{phased}
use Rattle.auction_book.specs.Free.{IsFree, IsPriced}
use Rattle.auction_book.specs.Phases.{is_over, opened, persons}
use Rattle.price_log.specs.History.{sum_of}
use Rattle.price_log.proofs.Versions.{today_is_table}
use Rattle.price_log.proofs.Histories.{started_is}
use Rattle.auction_book.proofs.Answering.{over_is}
use Rattle.auction_book.proofs.Places.{everyone, person_is_some}
use Rattle.auction_book.proofs.PhaseBounds.{greatest_most, is_eps, price_greatest, span}

one_next : (n i : ℕ) → one_if_person (suc n) i ≡ one_if_person n i + cond (nat_eq i (suc n)) 1 0
one_next n zero = let e : cond {A = ℕ} (nat_eq 0 (suc n)) 1 0 ≡ 0 = apart n in let o : one_if_person n 0 ≡ 0 =
    refl in let p : one_if_person (suc n) 0 ≡ 0 = refl in omega arith where
      apart : (n : ℕ) → cond {A = ℕ} (nat_eq 0 (suc n)) 1 0 ≡ 0
      apart n = grind (arith, nat_tests)
one_next n (suc i) = grind (arith, nat_tests)

one_none : (i : ℕ) → one_if_person 0 i ≡ 0
one_none zero = refl
one_none (suc i) = grind (arith, nat_tests)

pub queued_once : (n i : ℕ) → count_by (nat_eq i) (persons n) ≡ one_if_person n i
queued_once zero i = sym (one_none i)
queued_once (suc n) i =
    let p = sum_by_push (λ x. cond (nat_eq i x) 1 0) (persons n) (suc n) in
    let h = queued_once n i in
    let o = one_next n i in
    omega arith

pub none_counted : (p : Option ℕ → Bool) (n : ℕ) → p None ≡ false → count_by p (replicate n None) ≡ 0
none_counted p zero h = refl
none_counted p (suc n) h =
    let c = sum_by-cons (λ x. cond (p x) 1 0) None (replicate n None) in
    let e : cond {A = ℕ} (p None) 1 0 ≡ 0 = cond-false (p None) 1 0 h in
    let i = none_counted p n h in
    omega arith

pub nothing_matched : (rows : List Listing) → IsMatching rows (replicate (length rows) None)
nothing_matched rows = record {
  long = length-replicate (length rows) None;
  listed = λ i j h. absurd (let o = numbered-replicate {A = Option ℕ} (length rows) j None in cc);
  apart = λ i j k h g. absurd (let o = numbered-replicate {A = Option ℕ} (length rows) j None in cc);
}

sum_zeros : (n : ℕ) → sum (replicate n 0) ≡ 0
sum_zeros zero = refl
sum_zeros (suc n) = let c = sum_by-cons (λ (x : ℕ). x) 0 (replicate n 0) in let i = sum_zeros n in omega arith

least_price : (p : List ℤ) → All IsPrice p → pos 0 ≤ℤ greatest_of p
least_price p h = greatest_holds (λ x. pos 0 ≤ℤ x) p (omega (arith, ints)) (λ k d lt. (h k d lt).least)

-- the first prices are at most 10^21
pub opened_free : (s : ScaledProblem) (prices : List ℤ) (workers : ℕ) → IsProblem s.problem → IsTable prices →
    length prices ≡ length s.problem → greatest_of prices ≤ℤ GREATEST_FIRST_PRICE → IsFree (opened s prices workers)
opened_free s prices workers problem table long low =
    let n = length s.problem in
    let eps = first_eps s in
    let least = least_price prices table.each in
    let w = span s eps problem (IsEps-first s eps refl) in
    let room = w.least in
    let z = zero-*ℤ (pos n *ℤ (spread s +ℤ eps)) in
    let y = zero-*ℤ eps in
    record {
      problem = problem;
      sizes = record {
        priced = long;
        started = long;
        counted = length-replicate workers 0 ∙
            sym (length-replicate workers None);
        noted = length-replicate workers 0 ∙
            sym (length-replicate workers None);
      };
      owners_match = nothing_matched s.problem;
      owners_slack = λ i j h. absurd (let o = numbered-replicate {A = Option ℕ} n j None in cc);
      placed_once = λ i.
          let o = none_counted (is_person i) n refl in
          let q = queued_once n i in
          let c = none_counted (is_person i) workers refl in
          omega arith;
      log_ascends = (started_is prices table).1;
      priced = λ j. subst (λ o. IsPriced eps (price_of prices j) (price_of prices j) o) (sym (numbered-replicate n j None)) refl;
      topped = λ j. let g = price_greatest prices j least in omega (arith, ints);
      in_phase = record { begins = omega arith; start_prices = table; slackness = refl; floor_is = refl; start_low = omega (arith, ints) };
      counts_total = sum_zeros workers;
      progress = record { begun = omega arith; owned = let o = none_counted is_some n refl in omega arith; risen = omega (arith, ints) };
      recorded = tt;
    }

pub phased_free : (b : BookData) → IsFree b → is_over b ≡ true → IsFree (phased b)
phased_free b free over =
    let s = b.base in
    let n = persons_of b in
    let eps = fifth b.ask.eps in
    let next = next_is b.ask.eps (over_is b over).more in
    let begins : 0 < b.ask.phase = free.in_phase.begins in
    let which : b.ask.phase + 1 - 1 ≡ suc (b.ask.phase - 1) = omega arith in
    let slackness : eps_after s (b.ask.phase + 1 - 1) ≡ Some eps = ap (eps_after s) which ∙ ap (option_and_then next_eps) free.in_phase.slackness ∙ next in
    let rise = pos n *ℤ (spread s +ℤ first_eps s) in
    let old = span s b.ask.eps free.problem (is_eps s b.ask b.start free.in_phase) in
    let new = span s eps free.problem (record { phases = b.ask.phase + 1 - 1; at = slackness }) in
    let first = old.first in
    let room = new.least in
    let table = today_is_table b.log free.log_ascends in
    let least = least_price (prices_of b) table.each in
    let low = free.in_phase.start_low in
    let bottom = free.topped 0 in
    let top : greatest_of (prices_of b) ≤ℤ top_of s (greatest_of b.start) b.ask.eps =
    greatest_most (prices_of b) (top_of s (greatest_of b.start) b.ask.eps) bottom free.topped in
    let more : pos (suc (b.ask.phase - 1)) *ℤ rise ≡ (pos (b.ask.phase - 1) *ℤ rise) +ℤ rise = suc_ℤ-*ℤ (pos (b.ask.phase - 1)) rise in
    let whole = everyone n b.owners b.queue b.claims free.placed_once in
    let all = (over_is b over).assigned in
    let z = zero-*ℤ eps in
    let d : version_of b - version_of b ≡ 0 = omega arith in
    record {
      problem = free.problem;
      sizes = record { priced = free.sizes.priced; started = free.sizes.priced; counted = free.sizes.counted; noted = free.sizes.noted };
      owners_match = nothing_matched s.problem;
      owners_slack = λ i j h. absurd (let o = numbered-replicate {A = Option ℕ} n j None in cc);
      placed_once = λ i.
          let o = none_counted (is_person i) n refl in
          let q = queued_once n i in
          let c = sum_by-le-sum_by (λ x. cond {A = ℕ} (is_person i x) 1 0) (λ x. cond {A = ℕ} (is_some x) 1 0) b.claims (person_is_some i) in
          omega arith;
      log_ascends = free.log_ascends;
      priced = λ j. subst (λ o. IsPriced eps (price_of (prices_of b) j) (price_of (prices_of b) j) o) (sym (numbered-replicate n j None)) refl;
      topped = λ j. let g = price_greatest (prices_of b) j least in omega (arith, ints);
      in_phase = record {
        begins = omega arith;
        start_prices = table;
        slackness = slackness;
        floor_is = refl;
        start_low = subst (λ m. greatest_of (prices_of b) ≤ℤ (GREATEST_FIRST_PRICE +ℤ (pos m *ℤ rise))) (sym which) (omega (arith, ints));
      };
      counts_total = free.counts_total;
      progress = record {
        begun = omega arith;
        owned = let o = none_counted is_some n refl in omega arith;
        risen = subst (λ m. (sum_of (prices_of b) +ℤ (pos m *ℤ eps)) ≤ℤ sum_of (prices_of b)) (sym d) (omega (arith, ints));
      };
      recorded = free.recorded;
    }

-- the greatest price at a phase's start is at least 0
pub start_least : (b : BookData) → IsFree b → pos 0 ≤ℤ greatest_of b.start
start_least b free = least_price b.start free.in_phase.start_prices.each

pub length-persons : (n : ℕ) → length (persons n) ≡ n
length-persons zero = refl
length-persons (suc n) = let i = length-persons n in let a : length (persons n ++ suc n ∷ []) ≡ length (persons n)
    + 1 = length_push (persons n) (suc n) in omega arith

-- the greatest of a table is a price
pub greatest_is_price : (p : List ℤ) → IsTable p → IsPrice (greatest_of p)
greatest_is_price p table = greatest_holds IsPrice p (record { least = omega (arith, ints); below = omega (arith, ints) }) table.each

-- the value read as the greatest of its slice is one too
pub greatest_read : (p slice : List ℤ) (g : ℤ) → g ≡ greatest_of slice → slice ≡ p → IsTable p → IsPrice g
greatest_read p slice g e same table = subst IsPrice (sym (e ∙ ap greatest_of same)) (greatest_is_price p table)

pub phase_few : (b : BookData) → IsFree b → b.ask.phase ≤ 23
phase_few b free = let f = few b.base (b.ask.phase - 1) b.ask.eps free.problem free.in_phase.slackness in let g = free.in_phase.begins in omega arith

-- if everybody is assigned, nobody waits
pub none_wait : (b : BookData) → IsFree b → count_by is_some b.owners ≡ persons_of b → b.queue ≡ []
none_wait b free all = let e = everyone (persons_of b) b.owners b.queue b.claims free.placed_once in nil_from_length b.queue (omega arith)

pub queue_empty : (b : BookData) → IsFree b → is_over b ≡ true → b.queue ≡ []
queue_empty b free over = none_wait b free (over_is b over).assigned

-- zeros may be first prices
pub zeros_low : (n : ℕ) → greatest_of (replicate n (pos 0)) ≤ℤ GREATEST_FIRST_PRICE
zeros_low n = greatest_holds (λ x. x ≤ℤ GREATEST_FIRST_PRICE) (replicate n (pos 0)) (omega (arith, ints)) (each n) where
  each : (n : ℕ) → All (λ x. x ≤ℤ GREATEST_FIRST_PRICE) (replicate n (pos 0))
  each zero k d lt = absurd (omega arith)
  each (suc n) zero d lt = omega (arith, ints)
  each (suc n) (suc k) d lt = each n k d (omega arith)
