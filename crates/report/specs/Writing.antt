-- What is written.
use Rattle.std.specs.Prelude.{◌≡◌, ℕ, ◌<◌, List, ◌++◌, Option, Result, Ok, Err, length}
use Rattle.std.specs.Io.KnownBytes.{Appends}
use Rattle.report.specs.declared.fault.WriteFault.{WriteFault}

-- a beginning of the text was written, and this is left of it
abbrev pub Sent : Option (List ℕ) → Option (List ℕ) → List ℕ → List ℕ → Type 0
Sent old new text left = (out : List ℕ) × Appends old new out × (text ≡ out ++ left)

-- a beginning of the text was written, and not all of it
abbrev pub IsCutOff : Option (List ℕ) → Option (List ℕ) → List ℕ → Type 0
IsCutOff old new text = (left : List ℕ) × (0 < length left) × Sent old new text left

-- all of the text was written, or, after a fault, a beginning of it and not all
abbrev pub Writes : {X : Type 0} → Option (List ℕ) → Option (List ℕ)
    → Result X WriteFault → List ℕ → Type 0
Writes old new (Ok x) text = Appends old new text
Writes old new (Err e) text = IsCutOff old new text
