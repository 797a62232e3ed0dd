-- The result of a step is the expected one; nothing is said of `Memory` and `Read`.
use Rattle.std.specs.Prelude.{◌≡◌, Result, Ok, Err}
use Rattle.report.specs.declared.fault.ReportFault.{ReportFault}
use Rattle.report.specs.declared.fault.ReportFault.TheVariants as faults
use Rattle.report.specs.declared.value.Report.{Report}
use Rattle.report.specs.Reports as reports
use Rattle.report.specs.SeenReports.{seen_report}

abbrev pub Fails : {Y : Type 0} → ReportFault → Result Y ReportFault → Type 0
Fails faults.Memory reading = Unit {0}
Fails faults.Read reading = Unit {0}
Fails fault reading = reading ≡ Err fault

abbrev pub Gives : {X Y : Type 0} → (X → Y) → Result X ReportFault → Result Y ReportFault → Type 0
Gives view (Ok x) reading = reading ≡ Ok (view x)
Gives view (Err e) reading = Fails e reading

abbrev pub Reads : Result Report ReportFault → Result reports.Report ReportFault → Type 0
Reads result reading = Gives seen_report result reading
