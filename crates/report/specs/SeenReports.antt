-- The reports of the program as plain data.
use Rattle.std.specs.Prelude.{Result, Ok, Err}
use Rattle.std.specs.Option.{option_map}
use Rattle.report.specs.declared.fault.ReportFault.{ReportFault}
use Rattle.report.specs.declared.value.Report.{Report}
use Rattle.report.specs.declared.value.Report.TheVariants.{Best, Hall}
use Rattle.report.specs.Reports as reports
use Rattle.report.specs.Reports.{best, hall}

-- a report of the program as plain data
abbrev pub seen_report : Report → reports.Report
seen_report (Best sense cost rows prices) =
    best sense cost rows.items (option_map (λ v. v.items) prices)
seen_report (Hall sense persons objects) = hall sense persons.items objects.items

-- the result as plain data
abbrev pub seen_result : Result Report ReportFault → Result reports.Report ReportFault
seen_result (Ok report) = Ok (seen_report report)
seen_result (Err fault) = Err fault
