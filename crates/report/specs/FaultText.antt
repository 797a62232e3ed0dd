-- The text of a fault of a report.
use Rattle.std.specs.Prelude.{ℕ, List, ◌++◌, codes, decimal}
use Rattle.report.specs.declared.fault.ReportFault.{ReportFault}
use Rattle.report.specs.declared.fault.ReportFault.TheVariants.{Line, TooLong, Ends, Read, Memory}
use Rattle.report.specs.declared.fault.StartFault.{StartFault}
use Rattle.report.specs.declared.fault.StartFault.TheVariants.{NoPrices, Length, Price}

-- the line that reports a fault of reading, without its line feed
abbrev pub fault_text : ReportFault → List ℕ
fault_text (Line number) = codes "report: bad line " ++ decimal number
fault_text TooLong = codes "report: longer than 1048576 bytes"
fault_text (Ends number) = codes "report: ends before line " ++ decimal number
fault_text Read = codes "device: read failed"
fault_text Memory = codes "memory refused"

-- the line that reports why a run can't begin at these prices, without its line feed
abbrev pub start_text : StartFault → List ℕ
start_text NoPrices = codes "start: no prices"
start_text (Length found) = codes "start: " ++ decimal found ++ codes " prices"
start_text (Price j) = codes "start: price of object " ++ decimal j ++ codes " too great"
