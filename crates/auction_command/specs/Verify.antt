-- What a run of `verify` reads and writes, and how it ends.
use Rattle.std.specs.Prelude.{◌≡◌, ℕ, Bool, List, ◌++◌, Option, Result, Ok, Err, IfSome, codes}
use Rattle.std.specs.Io.KnownBytes.{Appends, Keeps}
use Rattle.assign_core.specs.declared.sense.Sense.{Sense}
use Rattle.assign_core.specs.Rows.{Listing}
use Rattle.report.specs.Answers as reports
use Rattle.report.specs.Reports.{Report}
use Rattle.report.specs.Writing.{IsCutOff}
use Rattle.auction_command.specs.Solve.{IsRefused, IsRefusedReport, Reads}
use Rattle.auction_command.specs.Findings.{IsFoundUnder, IsSo, finding_line, verdict_of}
use Rattle.auction_command.specs.declared.finding.Finding.{Finding}
use Rattle.auction_command.specs.declared.verify.Verified.{Verified}
use Rattle.auction_command.specs.declared.verify.Verified.TheVariants.{Yes}
use Rattle.auction_command.specs.declared.verify.Verifier.{Verifier}
use Rattle.auction_command.specs.declared.run.CliFault.{CliFault}
use Rattle.auction_command.specs.declared.run.CliFault.TheVariants as faults

-- a text that lists pairs or doesn't, and a requested sense or none
abbrev pub verifier_of : Bool → Option Sense → Verifier
verifier_of sparse sense = record { sparse = sparse; sense = sense }

-- a finding's line, with its line feed
abbrev pub whole_line : Finding → List ℕ
whole_line finding = finding_line finding ++ codes "\n"

-- known bytes are a problem and a report, with this finding under the requested sense or any; if
-- there is no fault, the report is right
pub record IsFinding (verifier : Verifier) (input text : Option (List ℕ)) (finding : Finding) : Type 0 where
  pub rows : List Listing
  pub report : Report
  pub problem : IfSome input (λ bytes. Reads verifier.sparse bytes (Ok rows))
  pub said : IfSome text (λ bytes. reports.Answers bytes (Ok report))
  pub found : IsFoundUnder verifier.sense rows report finding
  pub so : verdict_of finding ≡ Yes → IsSo rows report

-- what a run read, of the problem and of the report, and wrote, by its end: one line, or a
-- beginning of it if writing failed, or nothing
abbrev pub VerifyOutcome : Verifier → Option (List ℕ) → Option (List ℕ) → Option (List ℕ) →
    Option (List ℕ) → Result Verified CliFault → Type 0
VerifyOutcome verifier input text old new (Ok verified) =
    (finding : Finding) × IsFinding verifier input text finding × (verified ≡ verdict_of finding)
    × Appends old new (whole_line finding)
VerifyOutcome verifier input text old new (Err faults.Write) =
    (finding : Finding) × IsFinding verifier input text finding
    × IsCutOff old new (whole_line finding)
VerifyOutcome verifier input text old new (Err (faults.Input fault)) =
    IsRefused verifier.sparse input old new fault
VerifyOutcome verifier input text old new (Err (faults.Report fault)) =
    IsRefusedReport verifier.sparse input text old new fault
VerifyOutcome verifier input text old new (Err faults.Memory) = Keeps old new
VerifyOutcome verifier input text old new (Err (faults.Start fault)) = ⊥
VerifyOutcome verifier input text old new (Err (faults.Stuck person)) = ⊥
