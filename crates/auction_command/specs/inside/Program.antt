-- Ends of the program on their way to its contract.
use Rattle.std.specs.Prelude.{◌≡◌, ℕ, List, Option}
use Rattle.auction_command.specs.Program.{IsWritten, line_of}
use Rattle.auction_command.specs.declared.run.CliFault.{CliFault}
use Rattle.auction_command.specs.declared.run.CliFault.TheVariants.{Memory}
use Rattle.auction_command.specs.declared.program.Named.{Named}
use Rattle.auction_command.specs.declared.program.NoFile.{NoFile}
use Rattle.auction_command.specs.declared.program.NoFile.TheVariants as no_file
use Rattle.auction_command.specs.declared.program.Written.{Written}
use Rattle.auction_command.specs.declared.program.ProgramEnd.{ProgramEnd}
use Rattle.auction_command.specs.declared.program.ProgramEnd.TheVariants.{Unopened, Failed}

-- how the program ends if a file can't be read
abbrev pub EndsAbsent : Named → NoFile → ProgramEnd → Type 0
EndsAbsent named no_file.Unopened end = (written : Written) × (end ≡ Unopened named written)
EndsAbsent named no_file.Memory end = (written : Written) × (end ≡ Failed Memory written)

-- a run with this fault, and what was written to standard error
abbrev pub EndsFailed : CliFault → Option (List ℕ) → Option (List ℕ) → ProgramEnd → Type 0
EndsFailed fault old new end =
    (written : Written) × (end ≡ Failed fault written) × IsWritten old new (line_of fault) written
