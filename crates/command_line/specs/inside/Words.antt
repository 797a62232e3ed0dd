-- Words on their way through the program.
use Rattle.std.specs.Prelude.{◌≡◌, ◌≢◌, ◌⊎◌, ℕ, List, Option, Some, codes, false, true, ⊤}
use Rattle.clap.specs.Words.{App, Row, Text, kind_of, one_of}
use Rattle.clap.specs.declared.error.Error.{Error}
use Rattle.clap.specs.declared.error.kind.ErrorKind.TheVariants.{OutOfMemory}
use Rattle.command_line.specs.Words.{Chooses, IsNumberFor, NamesNoMode, NamesNoSense}
use Rattle.command_line.specs.declared.words.TheConstants.{MOST_WORKERS, MOST_REFRESH}
use Rattle.command_line.specs.declared.words.Words.{Words}
use Rattle.command_line.specs.declared.words.WordsFault.{WordsFault}
use Rattle.command_line.specs.declared.words.WordsFault.TheVariants as wrong
use Rattle.command_line.specs.declared.words.WordsFault.TheVariants.{Clap, Memory}

-- a command before and after it has a version
abbrev pub without_version : App → App
without_version app = record app { top = record app.top { has_version = false } }

abbrev pub with_version : App → App
with_version app = record app { top = record app.top { has_version = true } }

-- the text is a number in range
abbrev pub IsNumberIn : Option Text → ℕ → ℕ → Type 0
IsNumberIn text least most = (number : ℕ) × IsNumberFor text least most number

-- both options of `solve` that take a number have one in range
pub record HasNumbers (rows : List Row) : Type 0 where
  pub workers : IsNumberIn (one_of (codes "workers") rows) 1 MOST_WORKERS
  pub refresh : IsNumberIn (one_of (codes "refresh") rows) 0 MOST_REFRESH

abbrev pub ChoosesVerifying : List Row → Words → Type 0
ChoosesVerifying rows words = Chooses (Some (codes "verify", rows)) words

-- why a subcommand and what clap finds after it choose nothing
abbrev pub IsChoiceFault : Option (Text × List Row) → WordsFault → Type 0
IsChoiceFault found wrong.Mode = NamesNoMode found
IsChoiceFault found wrong.Sense = NamesNoSense found
IsChoiceFault found Memory = ⊤
IsChoiceFault found (Clap error) = ⊥

-- one of the two subcommands
abbrev pub NamesCommand : Option (Text × List Row) → Type 0
NamesCommand found = (rows : List Row) × ((found ≡ Some (codes "solve", rows)) ⊎ (found ≡ Some (codes "verify", rows)))

-- an error of clap's is reported as it is, unless memory was refused
abbrev pub IsFaultOf : Error → WordsFault → Type 0
IsFaultOf error Memory = kind_of error ≡ OutOfMemory
IsFaultOf error (Clap told) = (told ≡ error) × (kind_of error ≢ OutOfMemory)
IsFaultOf error wrong.Mode = ⊥
IsFaultOf error wrong.Sense = ⊥

-- after `solve` both numbers are in range
abbrev pub HasNumbersIfSolving : Option (Text × List Row) → Type 0
HasNumbersIfSolving found = (rows : List Row) → found ≡ Some (codes "solve", rows) → HasNumbers rows
