-- What is written, and what is held back.
use Rattle.std.specs.Prelude.{ℕ, List, ◌++◌, Option, Result, Ok, Err}
use Rattle.report.specs.declared.fault.WriteFault.{WriteFault}
use Rattle.report.specs.Writing.{Sent, IsCutOff}

-- what was held back and this text were written, except for what is then held back
abbrev pub Puts : {X : Type 0} → Option (List ℕ) → Option (List ℕ) → List ℕ → List ℕ
    → Result X WriteFault → List ℕ → Type 0
Puts old new kept held (Ok x) text = Sent old new (kept ++ text) held
Puts old new kept held (Err e) text = IsCutOff old new (kept ++ text)
