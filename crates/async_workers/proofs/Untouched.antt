-- A book in which no worker has a claim and no bid was accepted.
use Rattle.std.proofs.Common.{◌≡◌, ℕ, ℤ, zero, suc, List, [], ◌∷◌, None, true≢false, refl, sym, ap, ◌∙◌, arith, sum, get_or, length}
use Rattle.std.proofs.lemmas.List.Sums.{sum_by-cons}
use Rattle.assign_core.specs.Numbered.{IsNumber, numbered}
use Rattle.assign_core.proofs.Matchings.{below_itself}
use Rattle.assign_core.proofs.NumberedLemmas.{numbered-replicate}
use Rattle.price_log.specs.History.{History, IsEarlier, last_version, table_at, today}
use Rattle.price_log.proofs.Histories.{today-at}
use Rattle.auction_book.specs.Book.{BookData, prices_of}
use Rattle.auction_book.specs.Free.{IsFree}
use Rattle.auction_book.specs.Phases.{opened}
use Rattle.scaled_values.specs.Scaled.{ScaledProblem}
use Rattle.async_workers.specs.PlaceRule.{IsCurrent, IsUntouched}
use Rattle.async_workers.specs.Views.{claim_with, first_session}
use Rattle.async_workers.proofs.Extending.{extends_itself}

zero_each : (counts : List ℕ) (k : ℕ) → sum counts ≡ 0 → get_or counts k 0 ≡ 0
zero_each [] k none = refl
zero_each (c ∷ counts) zero none = let all = sum_by-cons (λ x. x) c counts in let first : c ≡ 0 = omega (arith, all, none) in first
zero_each (c ∷ counts) (suc k) none = let all = sum_by-cons (λ x. x) c counts in zero_each counts k (omega (arith, all, none))

-- no worker has an acceptance
zero_numbered : (counts : List ℕ) (worker : ℕ) → sum counts ≡ 0 → numbered counts worker 0 ≡ 0
zero_numbered counts zero none = refl
zero_numbered counts (suc k) none = zero_each counts k none

-- the current table is that of version 0
first_earlier : (log : History) → last_version log ≡ 0 → IsEarlier log (today log) 0
first_earlier log none = record {
  reached = omega arith;
  same = λ h. sym (today-at log) ∙ ap (table_at log) none;
  below = λ h. absurd (omega (arith, none));
}

-- what a new desk knows is true of the book
pub first_told : (b : BookData) (number : ℕ) → IsFree b → IsUntouched b → IsNumber (length b.claims) number → IsCurrent b (first_session b number)
first_told b number free untouched in_range = record {
  taken_free = free;
  put_free = free;
  taken_on = extends_itself b;
  put_on = extends_itself b;
  base = refl;
  number = in_range;
  below = below_itself (prices_of b);
  earlier = first_earlier b.log untouched.no_acceptances;
  accepted = sym (zero_numbered b.counts number (free.counts_total ∙ untouched.no_acceptances));
  claim = sym (ap (λ c. claim_with c b.ask) (untouched.no_claims number));
  stopped = λ asked. absurd (true≢false (sym asked));
}

-- a book at the start of a run is untouched
pub opened_untouched : (s : ScaledProblem) (prices : List ℤ) (workers : ℕ) → IsUntouched (opened s prices workers)
opened_untouched s prices workers = record { no_claims = λ worker. numbered-replicate workers worker None; no_acceptances = refl }
