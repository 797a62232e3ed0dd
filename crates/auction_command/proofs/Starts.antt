-- The first prices of a run.
use Rattle.std.proofs.Common.{ℕ, ℤ, ◌≤ℤ◌, List, Option, Result, Ok, Err, IfSome, arith}
use Rattle.std.proofs.lemmas.Int.{ints}
use Rattle.std.specs.List.{All}
use Rattle.assign_core.specs.declared.numbers.TheConstants.{GREATEST_FIRST_PRICE}
use Rattle.assign_core.specs.Rows.{Listing}
use Rattle.scaled_values.proofs.BenefitRange.{greatest_holds}
use Rattle.scaled_values.specs.Scaled.{greatest_of}
use Rattle.report.specs.Starts.{IsFirstPrice}
use Rattle.auction_command.specs.Solve.{BeginsAt, Reads, SolveOutcome}
use Rattle.auction_command.specs.inside.Solve.{Reports}
use Rattle.auction_command.specs.declared.run.Solver.{Solver}
use Rattle.auction_command.specs.declared.run.Ended.{Ended}
use Rattle.auction_command.specs.declared.run.CliFault.{CliFault}
use Rattle.auction_command.specs.declared.run.CliFault.TheVariants.{Input, Report as ReportFault, Start, Write, Memory, Stuck}

pub low_greatest : (prices : List ℤ) → All IsFirstPrice prices → greatest_of prices ≤ℤ GREATEST_FIRST_PRICE
low_greatest prices h = greatest_holds IsFirstPrice prices (omega (arith, ints)) h

-- the result of a run over a problem and first prices is the outcome of the whole run
pub reports_outcome : (solver : Solver) (input : Option (List ℕ)) (start : Option (Option (List ℕ)))
    (rows : List Listing) (prices : List ℤ) (old new : Option (List ℕ)) (result : Result Ended CliFault) →
    IfSome input (λ bytes. Reads solver.options.sparse bytes (Ok rows)) → BeginsAt start rows prices →
    Reports solver rows prices old new result → SolveOutcome solver input start old new result
reports_outcome solver input start rows prices old new (Ok ended) i b r = (r.0, (rows, prices, i, b, r.1), r.2)
reports_outcome solver input start rows prices old new (Err Write) i b r = (r.0, r.1, (rows, prices, i, b, r.2), r.3)
reports_outcome solver input start rows prices old new (Err Memory) i b r = r
reports_outcome solver input start rows prices old new (Err (Input fault)) i b r = absurd r
reports_outcome solver input start rows prices old new (Err (ReportFault fault)) i b r = absurd r
reports_outcome solver input start rows prices old new (Err (Start fault)) i b r = absurd r
reports_outcome solver input start rows prices old new (Err (Stuck person)) i b r = absurd r
