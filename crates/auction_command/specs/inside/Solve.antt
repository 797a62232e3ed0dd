-- Runs of `solve` after the problem is read.
use Rattle.std.specs.Prelude.{◌≡◌, ℕ, ℤ, List, Option, Result, Ok, Err, IfSome, ⊤}
use Rattle.std.specs.Option.{IsSomeAnd}
use Rattle.std.specs.Io.KnownBytes.{Appends, Keeps}
use Rattle.assign_core.specs.Rows.{Listing}
use Rattle.assign_core.specs.declared.outcome.Outcome.{Outcome}
use Rattle.command_line.specs.declared.words.SolveOpts.{SolveOpts}
use Rattle.report.specs.Answers.{Answers}
use Rattle.report.specs.Lines.{report_text}
use Rattle.report.specs.Outcomes.{outcome_report}
use Rattle.report.specs.Reports as reports
use Rattle.report.specs.Starts.{HasStartFault}
use Rattle.report.specs.Writing.{IsCutOff}
use Rattle.auction_command.specs.Solve.{IsReportOn, end_of}
use Rattle.auction_command.specs.declared.run.Solver.{Solver}
use Rattle.auction_command.specs.declared.run.Ended.{Ended}
use Rattle.auction_command.specs.declared.run.CliFault.{CliFault}
use Rattle.auction_command.specs.declared.run.CliFault.TheVariants.{Report, Start, Write, Memory}

-- by the end of the writing of the report on an outcome: it was written, or a beginning of it
abbrev pub Puts : SolveOpts → List Listing → Outcome → Option (List ℕ) → Option (List ℕ) → Result Ended CliFault → Type 0
Puts options rows outcome old new (Ok ended) =
    (ended ≡ end_of outcome) × Appends old new (report_text (outcome_report rows options.sense outcome options.prices))
Puts options rows outcome old new (Err Write) = IsCutOff old new (report_text (outcome_report rows options.sense outcome options.prices))
Puts options rows outcome old new (Err fault) = ⊥

-- by the end of a run over a problem and first prices: the report was written, or a beginning of
-- it, or nothing
abbrev pub Reports : Solver → List Listing → List ℤ → Option (List ℕ) → Option (List ℕ) →
    Result Ended CliFault → Type 0
Reports solver rows prices old new (Ok ended) =
    (text : List ℕ) × IsReportOn solver rows prices ended text × Appends old new text
Reports solver rows prices old new (Err Write) =
    (ended : Ended) × (text : List ℕ) × IsReportOn solver rows prices ended text × IsCutOff old new text
Reports solver rows prices old new (Err Memory) = Keeps old new
Reports solver rows prices old new (Err fault) = ⊥

-- why a run with n objects can't begin at the prices of a report
abbrev pub HasNoStart : reports.Report → ℕ → CliFault → Type 0
HasNoStart report n (Start fault) = HasStartFault report n fault
HasNoStart report n Memory = ⊤
HasNoStart report n fault = ⊥

-- why a run with n objects can't begin at the named report: it is refused, or its prices are
abbrev pub FailsToBegin : Option (Option (List ℕ)) → ℕ → CliFault → Type 0
FailsToBegin start n (Report fault) = IsSomeAnd start (λ text. IfSome text (λ bytes. Answers bytes (Err fault)))
FailsToBegin start n (Start fault) =
    IsSomeAnd start (λ text. (report : reports.Report) × IfSome text (λ bytes. Answers bytes (Ok report)) × HasStartFault report n fault)
FailsToBegin start n Memory = ⊤
FailsToBegin start n fault = ⊥
