-- The findings of a run of `verify`.
use Rattle.std.proofs.Common.{ℕ, List, Option, Ok}
use Rattle.std.specs.Prelude.{IfSome}
use Rattle.assign_core.specs.Rows.{Listing, IsProblem}
use Rattle.report.specs.Answers.{Answers}
use Rattle.report.specs.Reports.{Report}
use Rattle.auction_command.specs.declared.finding.Finding.{Finding}
use Rattle.auction_command.specs.Solve.{Reads}
use Rattle.auction_command.specs.declared.verify.Verifier.{Verifier}
use Rattle.auction_command.specs.Findings.{IsFoundUnder}
use Rattle.auction_command.specs.Verify.{IsFinding}
use Rattle.auction_command.proofs.Findings.{found_is_so}

pub finding_is : (verifier : Verifier) (input text : Option (List ℕ)) (rows : List Listing) (report : Report) (finding : Finding) → IsProblem rows →
    IfSome input (λ bytes. Reads verifier.sparse bytes (Ok rows)) → IfSome text (λ bytes. Answers bytes (Ok report))
    → IsFoundUnder verifier.sense rows report finding → IsFinding verifier input text finding
finding_is verifier input text rows report finding problem read said found = record {
  rows = rows;
  report = report;
  problem = read;
  said = said;
  found = found;
  so = found_is_so verifier.sense rows report finding problem found;
}
