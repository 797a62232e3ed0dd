-- What the program writes on each stream, and its status, by its words and its end.
use Rattle.std.specs.Prelude.{◌≡◌, ◌≢◌, ◌⊎◌, ℕ, List, ◌++◌, Option, None, Some, Result, Ok, Err, codes, ⊤}
use Rattle.std.specs.Io.KnownBytes.{Appends, Keeps}
use Rattle.clap.specs.Words.{fault_of, IsAmong, Text}
use Rattle.clap.specs.declared.error.kind.ErrorKind.{ErrorKind}
use Rattle.clap.specs.declared.error.kind.ErrorKind.TheVariants.{DisplayHelp, DisplayVersion, OutOfMemory}
use Rattle.std.specs.Option.{IsSomeAnd, option_map}
use Rattle.std.specs.String.{string_bytes}
use Rattle.report.specs.Writing.{IsCutOff}
use Rattle.auction_command.specs.Solve.{SolveOutcome, end_status, fault_line, solver_of, status}
use Rattle.auction_command.specs.Verify.{VerifyOutcome, verifier_of}
use Rattle.command_line.specs.Words.{AskFor, AskForNoMode, AskForNoModeAt, AskForNoSense, AskForNoSenseAt, Places, program}
use Rattle.command_line.specs.declared.words.Words.{Words}
use Rattle.command_line.specs.declared.words.Words.TheVariants.{Solve, Verify}
use Rattle.auction_command.specs.declared.verify.Verified.TheVariants.{Yes, No}
use Rattle.auction_command.specs.declared.verify.Verifier.{Verifier}
use Rattle.auction_command.specs.declared.run.Solver.{Solver}
use Rattle.auction_command.specs.declared.run.CliFault.{CliFault}
use Rattle.auction_command.specs.declared.run.CliFault.TheVariants.{Write, Memory}
use Rattle.auction_command.specs.declared.program.NoWords.{NoWords}
use Rattle.auction_command.specs.declared.program.NoWords.TheVariants as no_words
use Rattle.auction_command.specs.declared.program.NoFile.{NoFile}
use Rattle.auction_command.specs.declared.program.NoFile.TheVariants as no_file
use Rattle.auction_command.specs.declared.program.Named.{Named}
use Rattle.auction_command.specs.declared.program.Named.TheVariants.{Report, Input}
use Rattle.auction_command.specs.declared.program.Written.{Written}
use Rattle.auction_command.specs.declared.program.Written.TheVariants.{Whole, Part}
use Rattle.auction_command.specs.declared.program.ProgramEnd.{ProgramEnd}
use Rattle.auction_command.specs.declared.program.ProgramEnd.TheVariants.{Reported, Checked, Helped, Refused, Unopened, Failed}

-- the words as texts, or why there are none
abbrev pub Given : Type 0
Given = Result (List Text) NoWords

-- the words as texts, or why there are none, from any form of words
abbrev pub given_by : {V : Type 0} → (V → List Text) → Result V NoWords → Given
given_by texts (Ok words) = Ok (texts words)
given_by texts (Err none) = Err none

-- clap finds no fault in the words, and this is what they choose
abbrev pub Asks : Given → Words → Type 0
Asks (Ok words) asked = AskFor words asked
Asks (Err none) asked = ⊥

-- a fault other than a request for help or for the version
abbrev pub IsMistake : ErrorKind → Type 0
IsMistake kind = (kind ≢ DisplayHelp) × (kind ≢ DisplayVersion)

-- clap finds a fault in the words that isn't a mistake: they request help
abbrev pub AsksForHelp : Given → Type 0
AsksForHelp (Ok words) =
    (at : Places) × (kind : ErrorKind) × IsAmong kind (fault_of (program at) words) × (IsMistake kind → ⊥)
AsksForHelp (Err none) = ⊥

-- clap finds a mistake in the words
abbrev pub AreMistaken : List Text → Type 0
AreMistaken words =
    (at : Places) × (kind : ErrorKind) × IsAmong kind (fault_of (program at) words) × (kind ≢ OutOfMemory) × IsMistake kind

-- clap finds a mistake in the words, they name no mode or no sense, or one of them isn't valid text
abbrev pub AreRefused : Given → Type 0
AreRefused (Ok words) = AreMistaken words ⊎ AskForNoMode words ⊎ AskForNoSense words
AreRefused (Err none) = none ≡ no_words.NoText

-- the result of opening a file: the bytes left to be read, if the reader specifies them, or why it
-- can't be read
abbrev pub Opening : Type 0
Opening = Result (Option (List ℕ)) NoFile

-- the result of opening, from the reader of a file
abbrev pub opening_of : {R : Type 0} → (R → Option (List ℕ)) → Result R NoFile → Opening
opening_of remaining (Ok file) = Ok (remaining file)
opening_of remaining (Err absent) = Err absent

-- the possible results of opening, by the file's name
abbrev pub Openings : Type 1
Openings = Text → Opening → Type 0

-- the report to check, or the one for the first prices
abbrev pub report_name : Words → Option Text
report_name (Solve options start method input progress) = option_map string_bytes start
report_name (Verify sparse sense name input) = Some (string_bytes name)

-- the file with the problem; without one it is on standard input
abbrev pub input_name : Words → Option Text
input_name (Solve options start method input progress) = option_map string_bytes input
input_name (Verify sparse sense name input) = option_map string_bytes input

-- opening a named file gave these bytes, or no file is named and none was opened
abbrev pub Opens : Openings → Option Text → Option (Option (List ℕ)) → Type 0
Opens files (Some name) (Some text) = files name (Ok text)
Opens files None None = ⊤
Opens files name text = ⊥

-- a file is named, and opening it failed like this
abbrev pub FailsToOpen : Openings → Option Text → NoFile → Type 0
FailsToOpen files name absent = IsSomeAnd name (λ n. files n (Err absent))

-- the bytes of the problem: those of the named file, or else those of standard input
abbrev pub IsProblemText : Openings → Option Text → Option (List ℕ) → Option (List ℕ) → Type 0
IsProblemText files (Some name) standard text = files name (Ok text)
IsProblemText files None standard text = text ≡ standard

-- how a run of `solve` ends the program
abbrev pub SolveEnd : Solver → Option (List ℕ) → Option (Option (List ℕ)) → Option (List ℕ) →
    Option (List ℕ) → ProgramEnd → Type 0
SolveEnd solver input start old new (Reported ended) = SolveOutcome solver input start old new (Ok ended)
SolveEnd solver input start old new (Failed fault written) = SolveOutcome solver input start old new (Err fault)
SolveEnd solver input start old new end = ⊥

-- how a run of `verify` ends the program
abbrev pub VerifyEnd : Verifier → Option (List ℕ) → Option (List ℕ) → Option (List ℕ) → Option (List ℕ) →
    ProgramEnd → Type 0
VerifyEnd verifier input text old new (Checked verified) = VerifyOutcome verifier input text old new (Ok verified)
VerifyEnd verifier input text old new (Failed fault written) = VerifyOutcome verifier input text old new (Err fault)
VerifyEnd verifier input text old new end = ⊥

-- the program did what the words request and ended like this: it opened the named files, the report
-- first, and wrote nothing to standard output if one of them can't be opened or memory is refused
abbrev pub Does : Words → Option (List ℕ) → Openings → Option (List ℕ) → Option (List ℕ) → ProgramEnd → Type 0
Does asked standard files old new (Unopened Report written) =
    FailsToOpen files (report_name asked) no_file.Unopened × Keeps old new
Does asked standard files old new (Unopened Input written) =
    ((text : Option (Option (List ℕ))) × Opens files (report_name asked) text)
    × FailsToOpen files (input_name asked) no_file.Unopened × Keeps old new
Does asked standard files old new (Failed Memory written) = Keeps old new
Does (Solve options start method input progress) standard files old new end =
    (text : Option (Option (List ℕ))) × Opens files (option_map string_bytes start) text
    × (problem : Option (List ℕ)) × IsProblemText files (option_map string_bytes input) standard problem
    × SolveEnd (solver_of method options) problem text old new end
Does (Verify sparse sense name input) standard files old new end =
    (text : Option (List ℕ)) × files (string_bytes name) (Ok text)
    × (problem : Option (List ℕ)) × IsProblemText files (option_map string_bytes input) standard problem
    × VerifyEnd (verifier_of sparse sense) problem text old new end

-- the words are refused, or request help, of which a beginning is written if writing fails, or
-- memory is refused
abbrev pub EndsAtWords : Given → Option (List ℕ) → Option (List ℕ) → ProgramEnd → Type 0
EndsAtWords given old new Helped = AsksForHelp given × (text : List ℕ) × Appends old new text
EndsAtWords given old new (Refused written) = AreRefused given × Keeps old new
EndsAtWords given old new (Failed Write written) = AsksForHelp given × (text : List ℕ) × IsCutOff old new text
EndsAtWords given old new (Failed Memory written) = Keeps old new
EndsAtWords given old new end = ⊥

-- the bytes of standard input and of the files, and what is written to standard output
abbrev pub ProgramOutcome : Given → Option (List ℕ) → Openings → Option (List ℕ) → Option (List ℕ) →
    ProgramEnd → Type 0
ProgramOutcome given standard files old new end =
    EndsAtWords given old new end
    ⊎ ((asked : Words) × Asks given asked × Does asked standard files old new end)

-- nothing is read if the words are refused, request help or name a file that can't be opened, and
-- otherwise only if it may be
abbrev pub IsReadWhere : Type 0 → Option (List ℕ) → Option (List ℕ) → ProgramEnd → Type 0
IsReadWhere may old new Helped = new ≡ old
IsReadWhere may old new (Refused written) = new ≡ old
IsReadWhere may old new (Unopened named written) = new ≡ old
IsReadWhere may old new end = (new ≡ old) ⊎ may

-- the same for standard input, which may be read if the words request a run that names no input
abbrev pub InputOutcome : Given → Option (List ℕ) → Option (List ℕ) → ProgramEnd → Type 0
InputOutcome given old new end =
    IsReadWhere ((asked : Words) × Asks given asked × (input_name asked ≡ None)) old new end

-- a text was written to a stream, or a beginning of it and not all
abbrev pub IsWritten : Option (List ℕ) → Option (List ℕ) → List ℕ → Written → Type 0
IsWritten old new text Whole = Appends old new text
IsWritten old new text Part = IsCutOff old new text

-- why the words are refused: the modes or the senses that there are, that a word isn't valid text,
-- or clap's own words, which are open
abbrev pub IsRefusal : Given → List ℕ → Type 0
IsRefusal (Ok words) text =
    (((at : Places) → AskForNoModeAt at words) → text ≡ codes "usage: mode is rounds or workers\n")
    × (((at : Places) → AskForNoSenseAt at words) → text ≡ codes "usage: sense is min or max\n")
IsRefusal (Err none) text = text ≡ codes "error: the words are no text\n"

-- the line for a file that can't be opened, with its line feed
abbrev pub unopened_line : Named → List ℕ
unopened_line Report = codes "device: cannot open the report\n"
unopened_line Input = codes "device: cannot open the input\n"

-- a fault's line, with its line feed
abbrev pub line_of : CliFault → List ℕ
line_of fault = fault_line fault ++ codes "\n"

-- what is written to standard error
abbrev pub ErrorOutcome : Given → Option (List ℕ) → Option (List ℕ) → ProgramEnd → Type 0
ErrorOutcome given old new (Reported ended) = Keeps old new
ErrorOutcome given old new (Checked verified) = Keeps old new
ErrorOutcome given old new Helped = Keeps old new
ErrorOutcome given old new (Refused written) =
    (text : List ℕ) × IsRefusal given text × IsWritten old new text written
ErrorOutcome given old new (Unopened named written) = IsWritten old new (unopened_line named) written
ErrorOutcome given old new (Failed fault written) = IsWritten old new (line_of fault) written

-- 0 for an assignment, for a right report and for help, 1 if no assignment exists, 2 for refused
-- words, 4 for a file that can't be opened, 5 for a wrong report, and otherwise the status of the
-- fault
abbrev pub exit_status : ProgramEnd → ℕ
exit_status (Reported ended) = end_status ended
exit_status (Checked Yes) = 0
exit_status (Checked No) = 5
exit_status Helped = 0
exit_status (Refused written) = 2
exit_status (Unopened named written) = 4
exit_status (Failed fault written) = status fault
