-- Rows of benefits, and objects that break slackness in them.
use Rattle.std.proofs.Common.{◌≡◌, ℕ, ℤ, pos, ◌+ℤ◌, ◌-ℤ◌, ◌≤ℤ◌, ◌<ℤ◌, ◌<◌, List, [], length, map, Some, IsSome}
use Rattle.std.proofs.Common.{arith, inl, inr, refl, ap, ◌∙◌, sym, unwrap_or, get_or, ◌+◌, subst}
use Rattle.std.specs.List.{All}
use Rattle.std.proofs.lemmas.Int.{ints}
use Rattle.std.proofs.lemmas.Bool.{cases_order}
use Rattle.std.proofs.lemmas.List.{get_or_default}
use Rattle.std.proofs.lemmas.List.Elements.{All-map}
use Rattle.assign_core.specs.declared.sense.Sense.{Sense}
use Rattle.assign_core.specs.Numbered.{IsNumber, numbered}
use Rattle.assign_core.specs.Assignment.{AreListed}
use Rattle.assign_core.proofs.Zips.{pair_number}
use Rattle.assign_core.proofs.NumberedLemmas.{numbered-next}
use Rattle.assign_core.specs.Rows.{Listing, IsListed, IsRow, IsRising, listed_in, listed_or_zero, row_of}
use Rattle.assign_core.specs.Benefits.{benefit, benefit_row}
use Rattle.assign_core.specs.Prices.{price_of}
use Rattle.assign_core.specs.Slackness.{HasSlack, IsWorth}
use Rattle.assign_core.proofs.Listed.{all_listed, rising_listed}
use Rattle.assign_core.proofs.BenefitRows.{row_of-benefits}
use Rattle.assign_core.proofs.Duality.{benefit_listed, benefit_value}
use Rattle.dual_checker.specs.Faults.{IsFirst, BreaksSlack, own_object}

pub slack_unbroken : (eps : ℤ) (prices : List ℤ) (row : Listing) (j k : ℕ) → HasSlack eps prices row j → BreaksSlack eps prices row j k → ⊥
slack_unbroken eps prices row j k h b =
    let worth = all_listed (IsWorth eps prices row j) row k h b.listed in
    let more = b.more in
    absurd (omega (arith, ints))

-- the object at place i is listed for person i + 1
pub own_listed : (rows : List Listing) (xs : List ℕ) (i x : ℕ) → AreListed rows xs → length xs ≡ length rows →
    i < length xs → x ≡ get_or xs i x → IsListed rows (i + 1) x
own_listed rows xs i x listed long lt is =
    let own : x ≡ numbered xs (i + 1) 0 = is ∙ get_or_default xs i x 0 lt ∙ sym (numbered-next xs i 0) in
    rw own (pair_number (λ row j. IsSome (listed_in row j)) rows xs (i + 1) [] 0 listed (omega arith) (omega arith))

-- the value of entry e, with its cost, is at most 1 above that of the own object
abbrev pub IsUnder : Sense → ℕ → List ℤ → ℤ → ℕ × ℤ → Type 0
IsUnder sense n prices own e = (benefit sense n e.1 -ℤ price_of prices e.0) ≤ℤ (own +ℤ pos 1)

pub slack_from : (sense : Sense) (n : ℕ) (prices : List ℤ) (row : Listing) (j : ℕ) (own : ℤ) →
    own ≡ benefit sense n (listed_or_zero row j) -ℤ price_of prices j →
    All (IsUnder sense n prices own) row → HasSlack (pos 1) prices (benefit_row sense n row) j
slack_from sense n prices row j own e h =
    let value : listed_or_zero (benefit_row sense n row) j ≡ benefit sense n (listed_or_zero row j) = benefit_value sense n row j in
    All-map (IsWorth (pos 1) prices (benefit_row sense n row) j) (λ f. (f.0, benefit sense n f.1)) row
    (λ k d lt. let under = h k d lt in omega (arith, ints))

-- no listed object below the one at place i breaks slackness, if no entry before it does
none_under : (sense : Sense) (n : ℕ) (prices : List ℤ) (row : Listing) (j i : ℕ) (own : ℤ) (d : ℕ × ℤ) → IsRising row → i < length row →
    own ≡ benefit sense n (listed_or_zero row j) -ℤ price_of prices j → ((k : ℕ) (f : ℕ × ℤ) → k < i → IsUnder sense n prices own (get_or row k f)) →
    (k : ℕ) → k < (get_or row i d).0 → BreaksSlack (pos 1) prices (benefit_row sense n row) j k → ⊥
none_under sense n prices row j i own d rising lt e before k below b =
    let value : listed_or_zero (benefit_row sense n row) j ≡ benefit sense n (listed_or_zero row j) = benefit_value sense n row j in
    let P : ℕ × ℤ → Type 0 = λ f. f.0 < (get_or row i d).0 → (f.1 -ℤ price_of prices f.0) ≤ℤ (own +ℤ pos 1) in
    let each : All P (benefit_row sense n row) = All-map P (λ f. (f.0, benefit sense n f.1)) row (λ m f l. elim (cases_order m i) [
      | inl s ↦ λ low. let same = ap (λ q. (get_or row q f).0) s in let default = ap (λ q. q.0) (get_or_default row i f d lt) in absurd (omega arith)
      | inr r ↦ elim r [
        | inl s ↦ λ low. before m f s
        | inr s ↦ λ low. let up = rising i m f s l in let default = ap (λ q. q.0) (get_or_default row i f d lt) in absurd (omega arith)
      ]
    ]) in
    let under = all_listed P (benefit_row sense n row) k each b.listed below in
    let more = b.more in
    absurd (omega (arith, ints))

pub first_break : (sense : Sense) (n : ℕ) (prices : List ℤ) (row : Listing) (j i : ℕ) (own : ℤ) (entry : ℕ × ℤ) →
    IsRow n row → i < length row → entry ≡ get_or row i entry →
    own ≡ benefit sense n (listed_or_zero row j) -ℤ price_of prices j → ((k : ℕ) (f : ℕ × ℤ) → k < i → IsUnder sense n prices own (get_or row k f)) →
    (own +ℤ pos 1) <ℤ (benefit sense n entry.1 -ℤ price_of prices entry.0) → IsFirst (BreaksSlack (pos 1) prices (benefit_row sense n row) j) n entry.0
first_break sense n prices row j i own entry r lt is e before over =
    let number : entry.0 ≡ (get_or row i entry).0 = ap (λ f. f.0) is in
    let cost : entry.1 ≡ (get_or row i entry).1 = ap (λ f. f.1) is in
    let range = r.within i entry lt in
    let found : listed_in row entry.0 ≡ Some entry.1 = ap (listed_in row) number ∙ rising_listed row i entry r.rising lt ∙ ap Some (sym cost) in
    let seen : IsSome (listed_in row entry.0) = rw found refl in
    let own_value : listed_or_zero (benefit_row sense n row) j ≡ benefit sense n (listed_or_zero row j) = benefit_value sense n row j in
    let value : listed_or_zero (benefit_row sense n row) entry.0 ≡ benefit sense n entry.1 =
    benefit_value sense n row entry.0 ∙ ap (λ o. benefit sense n (unwrap_or o (pos 0))) found in
    record {
      number = subst (IsNumber n) (sym number) range;
      here = record { listed = benefit_listed sense n row entry.0 seen; more = omega (arith, ints) };
      none_below = λ k some below. none_under sense n prices row j i own entry r.rising lt e before k (omega arith);
    }

-- what holds of a row and of an object as they were read holds of them by the person's number
pub by_number : (Q : Listing → ℕ → Type 0) (sense : Sense) (m : ℕ) (rows : List Listing) (xs : List ℕ)
    (row : Listing) (i j : ℕ) → row ≡ row_of rows i → j ≡ own_object xs i →
    Q (benefit_row sense m row) j → Q (row_of (map (benefit_row sense m) rows) i) (own_object xs i)
by_number Q sense m rows xs row i j read object h =
    let e : benefit_row sense m row ≡ row_of (map (benefit_row sense m) rows) i = ap (benefit_row sense m) read ∙ sym (row_of-benefits sense m rows i) in
    subst (λ r. Q r (own_object xs i)) e (subst (Q (benefit_row sense m row)) object h)
