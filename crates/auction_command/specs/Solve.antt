-- What a run of `solve` reads and writes, and how it ends.
use Rattle.std.specs.Prelude.{◌≡◌, ℕ, ℤ, Bool, true, false, List, ◌++◌, Option, None, Some, Result, Ok, Err, IfSome, codes, decimal, pos, replicate, length}
use Rattle.std.specs.Option.{IsSomeAnd}
use Rattle.std.specs.Io.KnownBytes.{Appends, Keeps}
use Rattle.assign_core.specs.declared.sense.Sense.{Sense}
use Rattle.assign_core.specs.Rows.{Listing}
use Rattle.assign_core.specs.Assignment.{IsAssignment, IsBest}
use Rattle.assign_core.specs.declared.outcome.Outcome.{Outcome}
use Rattle.assign_core.specs.declared.outcome.Outcome.TheVariants.{Best, Hall}
use Rattle.scaled_values.specs.Scaled.{ScaledProblem}
use Rattle.rounds.specs.Outcomes.{IsDecided, IsOfRounds, IsProof}
use Rattle.async_workers.specs.declared.solving.Tally.{Tally}
use Rattle.async_workers.specs.Solving.{IsSolved}
use Rattle.report.specs.Lines.{report_text}
use Rattle.report.specs.Outcomes.{outcome_report}
use Rattle.report.specs.Writing.{IsCutOff}
use Rattle.orlib_reader.specs.FaultText.{fault_text}
use Rattle.orlib_reader.specs.Texts.{Answers, SparseAnswers, dense_reading, sparse_reading}
use Rattle.orlib_reader.specs.declared.fault.InputFault.{InputFault}
use Rattle.orlib_reader.specs.declared.fault.InputFault.TheVariants as inputs
use Rattle.report.specs.FaultText.{fault_text as report_fault_text, start_text}
use Rattle.report.specs.declared.fault.ReportFault.{ReportFault}
use Rattle.report.specs.declared.fault.ReportFault.TheVariants as refusals
use Rattle.report.specs.declared.fault.StartFault.{StartFault}
use Rattle.report.specs.Answers.{Answers as ReportAnswers}
use Rattle.report.specs.Reports as reports
use Rattle.report.specs.Starts.{HasStartFault, IsStart}
use Rattle.command_line.specs.declared.words.Method.{Method}
use Rattle.command_line.specs.declared.words.Method.TheVariants.{Auction, Paths}
use Rattle.command_line.specs.declared.words.Mode.{Mode}
use Rattle.command_line.specs.declared.words.Mode.TheVariants.{Rounds, Workers}
use Rattle.command_line.specs.declared.words.SolveOpts.{SolveOpts}
use Rattle.auction_command.specs.declared.run.Solver.{Solver}
use Rattle.auction_command.specs.declared.run.Ended.{Ended}
use Rattle.auction_command.specs.declared.run.Ended.TheVariants.{Optimal, Infeasible}
use Rattle.auction_command.specs.declared.run.CliFault.{CliFault}
use Rattle.auction_command.specs.declared.run.CliFault.TheVariants.{Input, Report, Start, Write, Memory, Stuck}

-- the problem of the bytes of a sparse or of a dense text, or their fault
abbrev pub Reads : Bool → List ℕ → Result (List Listing) InputFault → Type 0
Reads true bytes result = SparseAnswers result (sparse_reading bytes)
Reads false bytes result = Answers result (dense_reading bytes)

-- a problem under a sense
abbrev pub problem_under : Sense → List Listing → ScaledProblem
problem_under sense rows = record { problem = rows; sense = sense }

-- a method with these options
abbrev pub solver_of : Method → SolveOpts → Solver
solver_of method options = record { options = options; method = method }

-- an optimal assignment, or none exists
abbrev pub IsSettled : Sense → List Listing → Outcome → Type 0
IsSettled sense rows (Best c) = IsBest sense rows c.assignment
IsSettled sense rows (Hall h) = (xs : List ℕ) → IsAssignment rows xs → ⊥

-- the outcome of a mode from these prices: that of plain rounds, or one of this many workers
abbrev pub IsOutcomeIn : Mode → ℕ → ScaledProblem → List ℤ → Outcome → Type 0
IsOutcomeIn Rounds workers s prices outcome = IsOfRounds s prices outcome
IsOutcomeIn Workers workers s prices outcome = (tallies : List Tally) × IsSolved s prices workers outcome tallies

-- the outcome of a method from these prices: for the auction that of its mode; for shortest paths,
-- from any prices, an assignment exactly if one exists
abbrev pub IsOutcomeBy : Method → SolveOpts → ScaledProblem → List ℤ → Outcome → Type 0
IsOutcomeBy Auction options s prices outcome = IsOutcomeIn options.mode options.workers s prices outcome
IsOutcomeBy Paths options s prices outcome = IsDecided s outcome

-- an outcome of the requested method from these prices: an assignment with prices that prove it
-- optimal, or a Hall set
pub record IsSolution (solver : Solver) (rows : List Listing) (prices : List ℤ) (outcome : Outcome) : Type 0 where
  pub reached : IsOutcomeBy solver.method solver.options (problem_under solver.options.sense rows) prices outcome
  pub proof : IsProof (problem_under solver.options.sense rows) outcome
  pub settled : IsSettled solver.options.sense rows outcome

-- the end that belongs to an outcome
abbrev pub end_of : Outcome → Ended
end_of (Best c) = Optimal
end_of (Hall h) = Infeasible

-- the text is the report on an outcome of the requested method from these prices, under the
-- requested sense, with its prices if they are requested
pub record IsReportOn (solver : Solver) (rows : List Listing) (prices : List ℤ) (ended : Ended) (text : List ℕ) : Type 0 where
  pub outcome : Outcome
  pub solution : IsSolution solver rows prices outcome
  pub end : ended ≡ end_of outcome
  pub report : text ≡ report_text (outcome_report rows solver.options.sense outcome solver.options.prices)

-- the first prices: all 0 if no report is named, otherwise those of the report of these bytes, if
-- they are known
abbrev pub BeginsAt : Option (Option (List ℕ)) → List Listing → List ℤ → Type 0
BeginsAt None rows prices = prices ≡ replicate (length rows) (pos 0)
BeginsAt (Some text) rows prices =
    (report : reports.Report) × IfSome text (λ bytes. ReportAnswers bytes (Ok report)) × IsStart report (length rows) prices

-- known bytes are a problem that has this report, from the first prices
abbrev pub IsAnswer : Solver → Option (List ℕ) → Option (Option (List ℕ)) → Ended → List ℕ → Type 0
IsAnswer solver input start ended text =
    (rows : List Listing) × (prices : List ℤ) × IfSome input (λ bytes. Reads solver.options.sparse bytes (Ok rows))
    × BeginsAt start rows prices × IsReportOn solver rows prices ended text

-- known bytes aren't a problem, and this is their first fault; nothing was written
pub record IsRefused (sparse : Bool) (input old new : Option (List ℕ)) (fault : InputFault) : Type 0 where
  pub answer : IfSome input (λ bytes. Reads sparse bytes (Err fault))
  pub kept : Keeps old new

-- known bytes are a problem, and other known bytes aren't a report, with this as their first fault;
-- nothing was written
pub record IsRefusedReport (sparse : Bool) (input text old new : Option (List ℕ)) (fault : ReportFault) : Type 0 where
  pub rows : List Listing
  pub problem : IfSome input (λ bytes. Reads sparse bytes (Ok rows))
  pub answer : IfSome text (λ bytes. ReportAnswers bytes (Err fault))
  pub kept : Keeps old new

-- known bytes are a problem, and other known bytes a report at whose prices its run can't begin;
-- nothing was written
pub record IsRefusedStart (sparse : Bool) (input text old new : Option (List ℕ)) (fault : StartFault) : Type 0 where
  pub rows : List Listing
  pub report : reports.Report
  pub problem : IfSome input (λ bytes. Reads sparse bytes (Ok rows))
  pub said : IfSome text (λ bytes. ReportAnswers bytes (Ok report))
  pub unfit : HasStartFault report (length rows) fault
  pub kept : Keeps old new

-- what a run read, of the problem and of the named report, and wrote, by its end: the report and
-- nothing else, or a beginning of it if writing failed, or nothing
abbrev pub SolveOutcome : Solver → Option (List ℕ) → Option (Option (List ℕ)) → Option (List ℕ) →
    Option (List ℕ) → Result Ended CliFault → Type 0
SolveOutcome solver input start old new (Ok ended) =
    (text : List ℕ) × IsAnswer solver input start ended text × Appends old new text
SolveOutcome solver input start old new (Err Write) =
    (ended : Ended) × (text : List ℕ) × IsAnswer solver input start ended text × IsCutOff old new text
SolveOutcome solver input start old new (Err (Input fault)) = IsRefused solver.options.sparse input old new fault
SolveOutcome solver input start old new (Err (Report fault)) =
    IsSomeAnd start (λ text. IsRefusedReport solver.options.sparse input text old new fault)
SolveOutcome solver input start old new (Err (Start fault)) =
    IsSomeAnd start (λ text. IsRefusedStart solver.options.sparse input text old new fault)
SolveOutcome solver input start old new (Err Memory) = Keeps old new
SolveOutcome solver input start old new (Err (Stuck person)) = ⊥

-- 4 if the device failed or memory was refused, and 3 for a refused text
abbrev pub input_status : InputFault → ℕ
input_status inputs.Read = 4
input_status inputs.Memory = 4
input_status _ = 3

-- 4 if the device failed or memory was refused, and 3 for a refused report
abbrev pub report_status : ReportFault → ℕ
report_status refusals.Read = 4
report_status refusals.Memory = 4
report_status _ = 3

-- 0 for an assignment, 1 if none exists
abbrev pub end_status : Ended → ℕ
end_status Optimal = 0
end_status Infeasible = 1

-- the text of a fault, without its line feed
abbrev pub fault_line : CliFault → List ℕ
fault_line (Input fault) = fault_text fault
fault_line (Report fault) = report_fault_text fault
fault_line (Start fault) = start_text fault
fault_line Write = codes "device: write failed"
fault_line Memory = codes "memory refused"
fault_line (Stuck person) = codes "stuck at person " ++ decimal person

-- 4 for refused memory and failed devices, 5 if no answer was found, and otherwise the status of
-- the refused text
abbrev pub status : CliFault → ℕ
status (Input fault) = input_status fault
status (Report fault) = report_status fault
status (Start fault) = 3
status Write = 4
status Memory = 4
status (Stuck person) = 5
