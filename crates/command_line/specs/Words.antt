-- The command lines that are accepted, and what they choose.
use Rattle.std.specs.Prelude.{◌≡◌, ◌≢◌, ◌≤◌, ◌↔◌, ℕ, List, [], ◌∷◌, Bool, true, false, Option, Some, None, Result, Ok, Err, codes, unwrap_or, ⊤}
use Rattle.std.specs.Borrow.{Bor}
use Rattle.std.specs.Option.{option_map}
use Rattle.std.specs.String.{string_bytes}
use Rattle.std.specs.Str.Parse.{digits_value, without_leading_plus}
use Rattle.clap.specs.Words.{App, IsUnsignedIn, Row, Rule, Text, fault_of, first_of, IsAmong, kind_of, new_app}
use Rattle.clap.specs.Words.{new_rule, one_of, subcommand_of, with_rule, with_subcommand}
use Rattle.clap.specs.declared.builder.action.ArgAction.TheVariants.{SetTrue, Version}
use Rattle.clap.specs.declared.builder.value_parser.ValueParser.TheVariants.{Names, Unsigned}
use Rattle.clap.specs.declared.error.kind.ErrorKind.TheVariants.{DisplayVersion, OutOfMemory}
use Rattle.assign_core.specs.declared.sense.Sense.{Sense}
use Rattle.assign_core.specs.declared.sense.Sense.TheVariants.{Min, Max}
use Rattle.command_line.specs.declared.words.TheConstants.{MOST_WORKERS, MOST_REFRESH}
use Rattle.command_line.specs.declared.words.SolveOpts.{SolveOpts}
use Rattle.command_line.specs.declared.words.Words.{Words}
use Rattle.command_line.specs.declared.words.Words.TheVariants.{Solve, Verify}
use Rattle.command_line.specs.declared.words.Method.{Method}
use Rattle.command_line.specs.declared.words.Method.TheVariants.{Auction, Paths}
use Rattle.command_line.specs.declared.words.Mode.{Mode}
use Rattle.command_line.specs.declared.words.Mode.TheVariants.{Rounds, Workers}
use Rattle.command_line.specs.declared.words.WordsFault.{WordsFault}
use Rattle.command_line.specs.declared.words.WordsFault.TheVariants as wrong
use Rattle.command_line.specs.declared.words.WordsFault.TheVariants.{Clap, Memory}

-- an option without a value
abbrev pub flag_rule : Text → Rule
flag_rule name = record (new_rule name) { long = Some name; action = Some SetTrue }

-- an optional option with a value
abbrev pub optional_rule : Text → Rule
optional_rule name = record (new_rule name) { long = Some name; value_names = 1 }

-- an optional name of a file after `--start`
abbrev pub start_rule : Rule
start_rule = optional_rule (codes "start")

-- an optional name of a file after `--input`
abbrev pub input_rule : Rule
input_rule = optional_rule (codes "input")

-- an option with a value, and its default
abbrev pub valued_rule : Text → Text → Rule
valued_rule name usual = record (optional_rule name) { defaults = usual ∷ [] }

-- an option whose value is a number from `least` to `most`
abbrev pub numbered_rule : Text → Text → ℕ → ℕ → Rule
numbered_rule name usual least most = record (valued_rule name usual) { parser = Some (Unsigned least most) }

-- an option whose value is one of these names
abbrev pub named_rule : Text → Text → Bor (List (Bor Text)) → Rule
named_rule name usual names = record (valued_rule name usual) { parser = Some (Names names) }

-- where the names of the methods are in memory, which is a part of clap's command
pub record Places : Type 0 where
  pub list : ℕ × ℕ
  pub auction : ℕ × ℕ
  pub paths : ℕ × ℕ

-- a value at a place in memory
abbrev pub lying : {X : Type 0} → ℕ × ℕ → X → Bor X
lying place value = record { ref_ptr = place; now = value }

-- the names of the methods
abbrev pub method_names : Places → Bor (List (Bor Text))
method_names at = lying at.list (lying at.auction (codes "auction") ∷ lying at.paths (codes "paths") ∷ [])

-- the option `--method`, by default `auction`
abbrev pub method_rule : Places → Rule
method_rule at = named_rule (codes "method") (codes "auction") (method_names at)

-- `solve`, except for the options for its method and mode
abbrev pub plain_solve_app : App
plain_solve_app =
    with_rule (with_rule (with_rule (with_rule (with_rule (new_app (codes "solve")) (flag_rule (codes "sparse")))
    input_rule) (flag_rule (codes "max"))) (flag_rule (codes "prices"))) start_rule

-- `solve` with all its options
abbrev pub solve_app : Places → App
solve_app at = with_rule (with_rule (with_rule (with_rule (with_rule plain_solve_app (method_rule at))
    (valued_rule (codes "mode") (codes "rounds"))) (numbered_rule (codes "workers") (codes "4") 1 MOST_WORKERS))
    (numbered_rule (codes "refresh") (codes "1") 0 MOST_REFRESH)) (flag_rule (codes "progress"))

-- a required name of a file
abbrev pub report_rule : Rule
report_rule = record (new_rule (codes "REPORT")) { required = true }

-- `verify` with its options and its report
abbrev pub verify_app : App
verify_app = with_rule (with_rule (with_rule (with_rule (new_app (codes "verify")) (flag_rule (codes "sparse")))
    input_rule) (optional_rule (codes "sense"))) report_rule

-- the option for the version, without a short name
abbrev pub version_rule : Rule
version_rule = record (new_rule (codes "version")) { long = Some (codes "version"); action = Some Version }

-- a subcommand is required, and clap adds no option for the version
abbrev pub plain_program : App
plain_program = let plain = new_app (codes "auction_cli") in record plain {
  top = record plain.top {
    has_version =
        true;
    disable_version_flag = true;
    subcommand_required = true;
  };
}

-- the program without its subcommands
abbrev pub bare_program : App
bare_program = with_rule plain_program version_rule

-- the program as clap sees it: `solve` and `verify` with their options are the subcommands
abbrev pub program : Places → App
program at = with_subcommand (with_subcommand bare_program (solve_app at).top) verify_app.top

-- the flag by the text that clap has for its option
pub record IsFlag (text : Option Text) (flag : Bool) : Type 0 where
  pub set : text ≡ Some (codes "true") → flag ≡ true
  pub unset : text ≡ Some (codes "false") → flag ≡ false
  pub absent : text ≡ None → flag ≡ false

-- the sense is `Max`
abbrev pub is_max : Sense → Bool
is_max Min = false
is_max Max = true

-- the name of a mode
abbrev pub mode_name : Mode → Text
mode_name Rounds = codes "rounds"
mode_name Workers = codes "workers"

-- the value of `--mode` is the name of this mode
abbrev pub NamesMode : List Row → Mode → Type 0
NamesMode rows mode = first_of (codes "mode") rows ≡ Some (mode_name mode)

-- the name of a sense
abbrev pub sense_name : Sense → Text
sense_name Min = codes "min"
sense_name Max = codes "max"

-- the value of `--sense` is the name of the requested sense; without it any sense will do
abbrev pub NamesSense : List Row → Option Sense → Type 0
NamesSense rows sense = first_of (codes "sense") rows ≡ option_map sense_name sense

-- shortest paths exactly if the value of `--method` is `paths`
abbrev pub NamesMethod : List Row → Method → Type 0
NamesMethod rows method = (method ≡ Paths) ↔ (first_of (codes "method") rows ≡ Some (codes "paths"))

-- the name of a file is the value of this option, if it has one
abbrev pub NamesFile : Text → List Row → Option Text → Type 0
NamesFile option rows name = name ≡ first_of option rows

-- the text that clap has for an option is this number, which is in range
pub record IsNumberFor (text : Option Text) (least most number : ℕ) : Type 0 where
  pub digits : Text
  pub told : text ≡ Some digits
  pub in_range : IsUnsignedIn least most digits
  pub value : number ≡ digits_value 10 (without_leading_plus digits)

-- the options of `solve`, by what clap finds after it
pub record ChoosesSolving (rows : List Row) (options : SolveOpts) : Type 0 where
  pub sparse : IsFlag (one_of (codes "sparse") rows) options.sparse
  pub mode : NamesMode rows options.mode
  pub workers : IsNumberFor (one_of (codes "workers") rows) 1 MOST_WORKERS options.workers
  pub refresh : IsNumberFor (one_of (codes "refresh") rows) 0 MOST_REFRESH options.refresh
  pub prices : IsFlag (one_of (codes "prices") rows) options.prices
  pub sense : IsFlag (one_of (codes "max") rows) (is_max options.sense)

-- the options and the files of `verify`, by what clap finds after it
pub record ChoosesFile (rows : List Row) (lists_pairs : Bool) (wanted : Option Sense) (name : Text) (problem : Option Text) : Type 0 where
  pub sparse : IsFlag (one_of (codes "sparse") rows) lists_pairs
  pub sense : NamesSense rows wanted
  pub report : name ≡ unwrap_or (first_of (codes "REPORT") rows) []
  pub input : NamesFile (codes "input") rows problem

-- the request, by a subcommand and what clap finds after it
abbrev pub Chooses : Option (Text × List Row) → Words → Type 0
Chooses found (Solve options start method input progress) =
    (rows : List Row) × (found ≡ Some (codes "solve", rows)) × ChoosesSolving rows options
    × NamesFile (codes "start") rows (option_map string_bytes start) × NamesMethod rows method
    × NamesFile (codes "input") rows (option_map string_bytes input) × IsFlag (one_of (codes "progress") rows) progress
Chooses found (Verify sparse sense report input) =
    (rows : List Row) × (found ≡ Some (codes "verify", rows))
    × ChoosesFile rows sparse sense (string_bytes report) (option_map string_bytes input)

-- `solve` with a word for the mode that isn't a mode
abbrev pub NamesNoMode : Option (Text × List Row) → Type 0
NamesNoMode found = (rows : List Row) × (found ≡ Some (codes "solve", rows)) × ((mode : Mode) → NamesMode rows mode → ⊥)

-- `verify` with a word for the sense that isn't a sense
abbrev pub NamesNoSense : Option (Text × List Row) → Type 0
NamesNoSense found = (rows : List Row) × (found ≡ Some (codes "verify", rows)) × ((sense : Option Sense) → NamesSense rows sense → ⊥)

-- clap finds no fault in the words, and this is what they choose
abbrev pub AskFor : List Text → Words → Type 0
AskFor words asked = (at : Places) × (fault_of (program at) words ≡ []) × Chooses (subcommand_of (program at) words) asked

-- clap finds no fault in the words, but they name no mode
abbrev pub AskForNoModeAt : Places → List Text → Type 0
AskForNoModeAt at words = (fault_of (program at) words ≡ []) × NamesNoMode (subcommand_of (program at) words)

-- the same for some place of the names in memory
abbrev pub AskForNoMode : List Text → Type 0
AskForNoMode words = (at : Places) × AskForNoModeAt at words

-- clap finds no fault in the words, but they name no sense
abbrev pub AskForNoSenseAt : Places → List Text → Type 0
AskForNoSenseAt at words = (fault_of (program at) words ≡ []) × NamesNoSense (subcommand_of (program at) words)

-- the same for some place of the names in memory
abbrev pub AskForNoSense : List Text → Type 0
AskForNoSense words = (at : Places) × AskForNoSenseAt at words

-- words are accepted if clap finds no fault in them and the mode and the sense that they name
-- exist; they choose what clap finds after the subcommand. Otherwise one of their faults is
-- reported; requests for help count as faults
abbrev pub WordsOutcome : List Text → Result Words WordsFault → Type 0
WordsOutcome words (Ok asked) = AskFor words asked
WordsOutcome words (Err wrong.Mode) = AskForNoMode words
WordsOutcome words (Err wrong.Sense) = AskForNoSense words
WordsOutcome words (Err (Clap error)) = (at : Places) × IsAmong (kind_of error) (fault_of (program at) words) × (kind_of error ≢ OutOfMemory)
WordsOutcome words (Err Memory) = ⊤

-- at least one worker, and at most the most workers and sessions
pub record HasRanges (options : SolveOpts) : Type 0 where
  pub some_workers : 1 ≤ options.workers
  pub few_workers : options.workers ≤ MOST_WORKERS
  pub few_sessions : options.refresh ≤ MOST_REFRESH

-- the numbers of a request are in range
abbrev pub IsInRanges : Words → Type 0
IsInRanges (Solve options start method input progress) = HasRanges options
IsInRanges (Verify sparse sense report input) = ⊤

-- the request to solve the problem in the file of the first name, or else on standard input, by
-- this method with these options, and with the first prices of the report in the file of the other
-- name, if there is one
abbrev pub SolvesFrom : Option Text → Method → SolveOpts → Option Text → Words → Type 0
SolvesFrom problem by wanted name (Solve options start method input progress) =
    (options ≡ wanted) × (option_map string_bytes start ≡ name) × (method ≡ by)
    × (option_map string_bytes input ≡ problem)
SolvesFrom problem by wanted name (Verify lists_pairs sense report input) = ⊥

-- the same for a problem on standard input
abbrev pub SolvesBy : Method → SolveOpts → Option Text → Words → Type 0
SolvesBy method wanted name asked = SolvesFrom None method wanted name asked

-- the same by auction
abbrev pub Solves : SolveOpts → Option Text → Words → Type 0
Solves wanted name asked = SolvesBy Auction wanted name asked

-- the options of `solve` by default
abbrev pub usual_options : SolveOpts
usual_options = record { sparse = false; mode = Rounds; workers = 4; refresh = 1; prices = false; sense = Min }

-- a line with every option of the auction, after the program's name, and what it chooses
abbrev pub full_line : List Text
full_line = codes "solve" ∷ codes "--sparse" ∷ codes "--max" ∷ codes "--prices" ∷ codes "--start" ∷ codes "report" ∷
    codes "--mode" ∷ codes "workers" ∷ codes "--workers" ∷ codes "64" ∷ codes "--refresh" ∷ codes "0" ∷ []

-- the options that this line chooses
abbrev pub full_options : SolveOpts
full_options = record { sparse = true; mode = Workers; workers = 64; refresh = 0; prices = true; sense = Max }

-- the request to check a report: the name of the problem's file, or none for standard input,
-- whether its text lists pairs, the requested sense, if any, and the name of the report's file
abbrev pub VerifiesFrom : Option Text → Bool → Option Sense → Text → Words → Type 0
VerifiesFrom problem sparse wanted name (Solve options start method input progress) = ⊥
VerifiesFrom problem sparse wanted name (Verify lists_pairs sense report input) =
    (lists_pairs ≡ sparse) × (sense ≡ wanted) × (string_bytes report ≡ name) × (option_map string_bytes input ≡ problem)

-- the same for a problem on standard input
abbrev pub Verifies : Bool → Option Sense → Text → Words → Type 0
Verifies sparse wanted name asked = VerifiesFrom None sparse wanted name asked

-- a line of `verify` that requests a sense, after the program's name
abbrev pub full_verify_line : List Text
full_verify_line = codes "verify" ∷ codes "--sparse" ∷ codes "--sense" ∷ codes "max" ∷ codes "report" ∷ []

-- lines that name the problem's file
abbrev pub input_line : List Text
input_line = codes "solve" ∷ codes "--input" ∷ codes "problem" ∷ []

-- a line of `verify` that names the problem's file
abbrev pub input_verify_line : List Text
input_verify_line = codes "verify" ∷ codes "--input" ∷ codes "problem" ∷ codes "report" ∷ []

-- these words are accepted, unless memory is refused
abbrev pub IsTaken : (Words → Type 0) → Result Words WordsFault → Type 0
IsTaken P (Ok asked) = P asked
IsTaken P (Err fault) = fault ≡ Memory

-- the words request the version, unless memory is refused
abbrev pub AsksForVersion : Result Words WordsFault → Type 0
AsksForVersion (Ok asked) = ⊥
AsksForVersion (Err (Clap error)) = kind_of error ≡ DisplayVersion
AsksForVersion (Err fault) = fault ≡ Memory
