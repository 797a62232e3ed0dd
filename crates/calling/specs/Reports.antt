-- What is confirmed of a report.
use Rattle.std.specs.Prelude.{◌≡◌, ℕ, ℤ, List, Option, None, Some, map}
use Rattle.assign_core.specs.declared.sense.Sense.{Sense}
use Rattle.assign_core.specs.declared.outcome.Outcome.{Outcome}
use Rattle.assign_core.specs.declared.outcome.Outcome.TheVariants.{Best, Hall}
use Rattle.assign_core.specs.Hall.{IsHallSet}
use Rattle.assign_core.specs.Rows.{Listing}
use Rattle.assign_core.specs.Slackness.{IsCertificate}
use Rattle.dual_checker.specs.Confirmed.{IsConfirmed}
use Rattle.report.specs.Answers.{IsTextOf}
use Rattle.report.specs.Reports.{Report, best, hall}

-- the object of each person
abbrev pub objects_of : List (ℕ × ℤ) → List ℕ
objects_of entries = map (λ e. e.0) entries

-- under this sense the lists of a report are a certificate or a Hall set, and this is their outcome; or they aren't, and
-- there is none. The sense and the cost that the report names don't count.
abbrev pub IsConfirmedReport : Sense → List Listing → Report → Option Outcome → Type 0
IsConfirmedReport sense rows (best named cost entries (Some prices)) found =
    IsConfirmed (IsCertificate sense rows (objects_of entries) prices)
    (Best (record { assignment = objects_of entries; prices = prices })) found
IsConfirmedReport sense rows (best named cost entries None) found = found ≡ None
IsConfirmedReport sense rows (hall named persons objects) found =
    IsConfirmed (IsHallSet rows persons objects)
    (Hall (record { persons = persons; objects = objects })) found

-- the bytes are the text of a report, of which this is confirmed
abbrev pub IsConfirmedText : Sense → List Listing → List ℕ → Option Outcome → Type 0
IsConfirmedText sense rows bytes found =
    (report : Report) × IsTextOf bytes report × IsConfirmedReport sense rows report found
