-- The result of checking a report against a problem.
use Rattle.std.specs.Prelude.{◌≡◌, ◌≢◌, ◌⊎◌, ℕ, ℤ, pos, List, ◌++◌, Option, None, Some, codes, decimal, length, map, unwrap_or}
use Rattle.std.specs.Fmt.{signed_decimal}
use Rattle.std.specs.List.{AllZip}
use Rattle.assign_core.specs.declared.sense.Sense.{Sense}
use Rattle.assign_core.specs.declared.sense.Sense.TheVariants.{Min, Max}
use Rattle.assign_core.specs.Numbered.{numbered}
use Rattle.assign_core.specs.Rows.{Listing, IsProblem, listed_in, row_of}
use Rattle.assign_core.specs.Assignment.{IsAssignment, IsBest, total}
use Rattle.assign_core.specs.Hall.{IsHallSet}
use Rattle.dual_checker.specs.Faults.{IsFirst}
use Rattle.dual_checker.specs.Verdicts.{IsVerdict}
use Rattle.dual_checker.specs.HallVerdicts.{IsHallVerdict}
use Rattle.dual_checker.specs.declared.verdict.Verdict.{Verdict}
use Rattle.dual_checker.specs.declared.verdict.Verdict.TheVariants as verdicts
use Rattle.dual_checker.specs.declared.hall_verdict.HallVerdict.{HallVerdict}
use Rattle.dual_checker.specs.declared.hall_verdict.HallVerdict.TheVariants as halls
use Rattle.report.specs.Reports.{Report, best, hall}
use Rattle.auction_command.specs.declared.finding.Finding.{Finding}
use Rattle.auction_command.specs.declared.finding.Finding.TheVariants.{OtherSense, NoPrices, Unproved, OtherCost, OtherTotal, Best, Hall}
use Rattle.auction_command.specs.declared.verify.Verified.{Verified}
use Rattle.auction_command.specs.declared.verify.Verified.TheVariants.{Yes, No}

-- a report without a sense minimises
abbrev pub sense_of : Option Sense → Sense
sense_of sense = unwrap_or sense Min

-- the objects of pairs of an object and a cost, one pair for each person
abbrev pub objects_of : List (ℕ × ℤ) → List ℕ
objects_of pairs = map (λ e. e.0) pairs

-- the pair of a person is listed at the given cost
abbrev pub HasCost : Listing → ℕ × ℤ → Type 0
HasCost row e = listed_in row e.0 ≡ Some e.1

-- each person's pair is listed at the given cost
abbrev pub HaveCosts : List Listing → List (ℕ × ℤ) → Type 0
HaveCosts rows pairs = AllZip HasCost rows pairs

-- the pair of person i isn't listed at the given cost
abbrev pub HasOtherCost : List Listing → List (ℕ × ℤ) → ℕ → Type 0
HasOtherCost rows pairs i = ¬ HasCost (row_of rows i) (numbered pairs i (0, pos 0))

-- person i is the lowest whose pair has another cost
abbrev pub IsFirstOther : List Listing → List (ℕ × ℤ) → Finding → Type 0
IsFirstOther rows pairs finding =
    (i : ℕ) × IsFirst (HasOtherCost rows pairs) (length rows) i × (finding ≡ OtherCost i)

-- the pairs have their costs, but another sum
abbrev pub HasOtherTotal : List Listing → ℤ → List (ℕ × ℤ) → Finding → Type 0
HasOtherTotal rows cost pairs finding =
    HaveCosts rows pairs × (cost ≢ total rows (objects_of pairs)) × (finding ≡ OtherTotal)

-- the pairs have their costs, and this sum
abbrev pub HasTotal : Sense → List Listing → ℤ → List (ℕ × ℤ) → Finding → Type 0
HasTotal sense rows cost pairs finding =
    HaveCosts rows pairs × (cost ≡ total rows (objects_of pairs)) × (finding ≡ Best sense cost)

-- the finding on the costs of an assignment that its prices prove optimal
abbrev pub IsFoundInCosts : Sense → List Listing → ℤ → List (ℕ × ℤ) → Finding → Type 0
IsFoundInCosts sense rows cost pairs finding =
    IsFirstOther rows pairs finding ⊎ HasOtherTotal rows cost pairs finding
    ⊎ HasTotal sense rows cost pairs finding

-- the checker's fault, or the further finding if there is no fault
abbrev pub Follows : (Finding → Type 0) → Verdict → Finding → Type 0
Follows IsBeyond verdicts.Yes finding = IsBeyond finding
Follows IsBeyond fault finding = finding ≡ Unproved fault

-- the finding on a report on an assignment with prices
abbrev pub IsFoundInBest : Sense → List Listing → ℤ → List (ℕ × ℤ) → List ℤ → Finding → Type 0
IsFoundInBest sense rows cost pairs prices finding =
    (v : Verdict) × IsVerdict sense rows (objects_of pairs) prices v
    × Follows (IsFoundInCosts sense rows cost pairs) v finding

-- the finding on a report on a Hall set
abbrev pub IsFoundInHall : List Listing → List ℕ → List ℕ → Finding → Type 0
IsFoundInHall rows persons objects finding =
    (v : HallVerdict) × IsHallVerdict (length rows) rows persons objects v × (finding ≡ Hall v)

-- the finding on a report for a problem
abbrev pub IsFoundInReport : List Listing → Report → Finding → Type 0
IsFoundInReport rows (best sense cost pairs None) finding = finding ≡ NoPrices
IsFoundInReport rows (best sense cost pairs (Some prices)) finding =
    IsFoundInBest (sense_of sense) rows cost pairs prices finding
IsFoundInReport rows (hall sense persons objects) finding = IsFoundInHall rows persons objects finding

-- the sense of a report, also of an infeasible one
abbrev pub report_sense : Report → Sense
report_sense (best sense cost pairs prices) = sense_of sense
report_sense (hall sense persons objects) = sense_of sense

-- a sense is requested, and it isn't this one
abbrev pub IsOtherSense : Option Sense → Sense → Type 0
IsOtherSense None sense = ⊥
IsOtherSense (Some wanted) sense = wanted ≢ sense

-- the finding on a report under this requested sense, or any: that it has the other sense, or else
-- the finding on it
abbrev pub IsFoundUnder : Option Sense → List Listing → Report → Finding → Type 0
IsFoundUnder wanted rows report finding =
    (IsOtherSense wanted (report_sense report) × (finding ≡ OtherSense))
    ⊎ ((IsOtherSense wanted (report_sense report) → ⊥) × IsFoundInReport rows report finding)

-- a problem and a report have only one finding for each requested sense or none
abbrev pub HaveOneFinding : Type 0
HaveOneFinding = (wanted : Option Sense) (rows : List Listing) (report : Report) (first second : Finding) → IsProblem rows
    → IsFoundUnder wanted rows report first → IsFoundUnder wanted rows report second → first ≡ second

-- whether there is no fault
abbrev pub verdict_of : Finding → Verified
verdict_of (Best sense cost) = Yes
verdict_of (Hall halls.Yes) = Yes
verdict_of finding = No

-- the report is right: an optimal assignment with its costs and their sum, or a Hall set, so that
-- no assignment exists
abbrev pub IsSo : List Listing → Report → Type 0
IsSo rows (best sense cost pairs prices) =
    IsBest (sense_of sense) rows (objects_of pairs) × HaveCosts rows pairs
    × (cost ≡ total rows (objects_of pairs))
IsSo rows (hall sense persons objects) =
    IsHallSet rows persons objects × ((xs : List ℕ) → IsAssignment rows xs → ⊥)

-- the line for an assignment that its prices don't prove optimal, without the line feed
abbrev pub unproved_line : Verdict → List ℕ
unproved_line verdicts.Length = codes "not verified: length"
unproved_line (verdicts.Unlisted i) = codes "not verified: person " ++ decimal i ++ codes " unlisted"
unproved_line (verdicts.Twice j) = codes "not verified: object " ++ decimal j ++ codes " twice"
unproved_line (verdicts.PriceRange j) = codes "not verified: price of object " ++ decimal j ++ codes " out of range"
unproved_line (verdicts.Slack i k) =
    codes "not verified: slack of person " ++ decimal i ++ codes " at object " ++ decimal k
unproved_line verdicts.Yes = codes "not verified"

-- the line for the lists of a Hall set
abbrev pub hall_line : HallVerdict → List ℕ
hall_line halls.Range = codes "not verified: number out of range"
hall_line halls.Order = codes "not verified: order"
hall_line (halls.Missing i j) = codes "not verified: object " ++ decimal j ++ codes " missing for person " ++ decimal i
hall_line (halls.Extra j) = codes "not verified: object " ++ decimal j ++ codes " extra"
hall_line halls.Count = codes "not verified: not fewer"
hall_line halls.Yes = codes "verified infeasible"

-- the line for a finding
abbrev pub finding_line : Finding → List ℕ
finding_line OtherSense = codes "not verified: sense"
finding_line NoPrices = codes "not verified: no prices"
finding_line (Unproved verdict) = unproved_line verdict
finding_line (OtherCost i) = codes "not verified: cost of person " ++ decimal i
finding_line OtherTotal = codes "not verified: total"
finding_line (Best Min cost) = codes "verified cost " ++ signed_decimal cost
finding_line (Best Max cost) = codes "verified max cost " ++ signed_decimal cost
finding_line (Hall verdict) = hall_line verdict
