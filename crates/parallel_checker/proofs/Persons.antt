-- Certificates, person by person.
use Rattle.std.proofs.Common.{◌≡◌, ℕ, ℤ, pos, ◌+◌, ◌-◌, ◌<◌, ◌-ℤ◌, ◌+ℤ◌, ◌≤ℤ◌, List, [], Bool, true, length, get_or, map, IsSome, arith, sym, subst, ◌∙◌}
use Rattle.std.specs.List.{All, IsDistinct}
use Rattle.std.specs.Prelude.{◌↔◌, IsTrue, nat_eq}
use Rattle.std.proofs.lemmas.Int.{ints}
use Rattle.std.proofs.lemmas.List.{get_or-map, length-map}
use Rattle.std.proofs.lemmas.List.Elements.{All-map}
use Rattle.assign_core.specs.declared.sense.Sense.{Sense}
use Rattle.assign_core.specs.Numbered.{IsNumber}
use Rattle.assign_core.specs.Rows.{Listing, listed_in, listed_or_zero}
use Rattle.assign_core.specs.Benefits.{benefit, benefit_row, benefit_rows}
use Rattle.assign_core.specs.Prices.{IsTable, price_of}
use Rattle.assign_core.specs.Slackness.{HasSlack, IsCertificate, IsWorth}
use Rattle.assign_core.proofs.Duality.{benefit_value}
use Rattle.assign_core.proofs.Zips.{pair_number, pairs_from}
use Rattle.parallel_checker.specs.Persons.{IsSlackPerson}

-- the value of an entry, with its cost, is at most 1 above this value
abbrev pub IsNear : Sense → ℕ → List ℤ → ℤ → ℕ × ℤ → Type 0
IsNear sense n prices own e = (benefit sense n e.1 -ℤ price_of prices e.0) ≤ℤ (own +ℤ pos 1)

pub slack_if_near : (sense : Sense) (n : ℕ) (prices : List ℤ) (row : Listing) (j : ℕ) (own : ℤ) →
    own ≡ benefit sense n (listed_or_zero row j) -ℤ price_of prices j →
    All (IsNear sense n prices own) row → HasSlack (pos 1) prices (benefit_row sense n row) j
slack_if_near sense n prices row j own e h =
    let value : listed_or_zero (benefit_row sense n row) j ≡ benefit sense n (listed_or_zero row j) = benefit_value sense n row j in
    All-map (IsWorth (pos 1) prices (benefit_row sense n row) j) (λ f. (f.0, benefit sense n f.1)) row
    (λ k d lt. let near = h k d lt in omega (arith, ints))

pub near_if_slack : (sense : Sense) (n : ℕ) (prices : List ℤ) (row : Listing) (j : ℕ) (own : ℤ) →
    own ≡ benefit sense n (listed_or_zero row j) -ℤ price_of prices j →
    HasSlack (pos 1) prices (benefit_row sense n row) j → All (IsNear sense n prices own) row
near_if_slack sense n prices row j own e h = λ k d lt.
    let F : ℕ × ℤ → ℕ × ℤ = λ f. (f.0, benefit sense n f.1) in
    let value : listed_or_zero (benefit_row sense n row) j ≡ benefit sense n (listed_or_zero row j) = benefit_value sense n row j in
    let size : length (map F row) ≡ length row = simp length-map in
    let worth = subst (IsWorth (pos 1) prices (benefit_row sense n row) j) (get_or-map F row k d (F d) lt) (h k (F d) (omega (arith, size, lt))) in
    omega (arith, ints)

-- a certificate is one of all persons
pub certificate_by_persons : (sense : Sense) (rows : List Listing) (xs : List ℕ) (prices : List ℤ) →
    IsDistinct nat_eq xs → IsTable prices → length xs ≡ length rows → length prices ≡ length rows →
    ((i : ℕ) → IsNumber (length rows) i → IsSlackPerson sense rows xs prices i) ↔ IsCertificate sense rows xs prices
certificate_by_persons sense rows xs prices apart table long priced =
    let same : length (benefit_rows sense rows) ≡ length rows = simp length-map in (
      λ each. record {
        assigned = record {
          listed = pairs_from (λ row j. IsSome (listed_in row j)) rows xs [] 0 (sym long)
              (λ i some last. (each i (record { first = some; last = last })).listed);
          apart = apart;
        };
        priced = priced;
        in_range = table.each;
        slack = pairs_from (HasSlack (pos 1) prices) (benefit_rows sense rows) xs [] 0 (same ∙ sym long)
            (λ i some last. (each i (record { first = some; last = omega (arith, same, last) })).slack);
      },
      λ h i number. record {
        listed = pair_number (λ row j. IsSome (listed_in row j)) rows xs i [] 0 h.assigned.listed number.first number.last;
        slack = let last = number.last in pair_number (HasSlack (pos 1) prices) (benefit_rows sense rows) xs i [] 0 h.slack number.first (omega (arith, same, last));
      },
    )

-- all marks are set exactly if all numbers have a property
pub all_marked : (P : ℕ → Type 0) (marks : List Bool) (n : ℕ) → length marks ≡ n →
    ((k : ℕ) (d : Bool) → k < n → IsTrue (get_or marks k d) ↔ P (k + 1)) → All IsTrue marks ↔ ((i : ℕ) → IsNumber n i → P i)
all_marked P marks n long each = (
  λ h i number.
      let first = number.first in
      let last = number.last in
      let lt : i - 1 < n = omega arith in
      let back : i - 1 + 1 ≡ i = omega arith in
      subst P back ((each (i - 1) true lt).0 (h (i - 1) true (omega (arith, long, lt)))),
  λ h k d lt. (each k d (omega (arith, long, lt))).1 (h (k + 1) (record { first = omega arith; last = omega (arith, long, lt) })),
)
