-- How the program ends, on each stream.
use Rattle.std.proofs.Common.{◌≡◌, ℕ, Bool, List, [], Option, None, Some, Ok, arith, codes, length-append, option_map, refl, append-nil, subst, sym}
use Rattle.std.specs.Io.KnownBytes.{Appends}
use Rattle.std.specs.String.{string_bytes}
use Rattle.std.specs.declared.alloc.Global.{Global}
use Rattle.std.specs.Prelude.{String}
use Rattle.clap.specs.Words.{Text}
use Rattle.std.proofs.KnownBytes.{Appends-nil, Keeps-refl}
use Rattle.report.specs.Writing.{IsCutOff}
use Rattle.auction_command.specs.Program.{Does, FailsToOpen, IsProblemText, Openings, Opens, SolveEnd, VerifyEnd, input_name, line_of, report_name}
use Rattle.auction_command.specs.inside.Program.{EndsAbsent}
use Rattle.auction_command.specs.Solve.{fault_line}
use Rattle.auction_command.specs.declared.run.CliFault.{CliFault}
use Rattle.auction_command.specs.declared.run.CliFault.TheVariants as faults
use Rattle.auction_command.specs.declared.run.Solver.{Solver}
use Rattle.auction_command.specs.declared.verify.Verifier.{Verifier}
use Rattle.auction_command.specs.declared.program.NoFile.{NoFile}
use Rattle.auction_command.specs.declared.program.NoFile.TheVariants as no_file
use Rattle.auction_command.specs.declared.program.Named.TheVariants as named_for
use Rattle.auction_command.specs.declared.program.ProgramEnd.{ProgramEnd}
use Rattle.auction_command.specs.declared.program.ProgramEnd.TheVariants.{Reported, Checked, Helped, Refused, Unopened, Failed}
use Rattle.command_line.specs.declared.words.Words.{Words}
use Rattle.command_line.specs.declared.words.Words.TheVariants.{Solve, Verify}

-- nothing is done if the input can't be read after the report
pub no_input_done : (asked : Words) (standard : Option (List ℕ)) (files : Openings)
    (text : Option (Option (List ℕ))) (old : Option (List ℕ)) (why : NoFile) (end : ProgramEnd) →
    FailsToOpen files (input_name asked) why → EndsAbsent named_for.Input why end → Opens files (report_name asked) text → Does asked standard files old old end
no_input_done asked standard files text old no_file.Unopened end f e o = rw e.1 ((text, o), f, Keeps-refl old)
no_input_done asked standard files text old no_file.Memory end f e o = rw e.1 (Keeps-refl old)

-- nothing of a line was written
pub line_cut_off : (old : Option (List ℕ)) (fault : CliFault) → IsCutOff old old (line_of fault)
line_cut_off old fault =
    let long = length-append (fault_line fault) (codes "\n") in
    (line_of fault, omega arith, ([], Appends-nil old, refl))

-- the problem is the text of the named file
pub file_text : {X : Type 0} (files : Openings) (name : Option Text) (standard : Option (List ℕ)) (remaining : X →
    Option (List ℕ)) (x : X) → Opens files name (option_map remaining (Some x)) → IsProblemText files name standard
    (remaining x)
file_text files (Some name) standard remaining x o = o
file_text files None standard remaining x o = absurd o

-- the problem is that of standard input
pub standard_text : {X : Type 0} (files : Openings) (name : Option Text) (standard : Option (List ℕ))
    (remaining : X → Option (List ℕ)) → Opens files name (option_map remaining None) →
    IsProblemText files name standard standard
standard_text files (Some name) standard remaining o = absurd o
standard_text files None standard remaining o = refl

-- a run of `solve` on opened files is done
pub solve_done : (solver : Solver) (start input : Option (String Global)) (progress : Bool)
    (standard problem : Option (List ℕ)) (files : Openings) (text : Option (Option (List ℕ)))
    (old new : Option (List ℕ)) (end : ProgramEnd) →
    Opens files (option_map string_bytes start) text → IsProblemText files (option_map string_bytes input)
    standard problem → SolveEnd solver problem text old new end →
    Does (Solve solver.options start solver.method input progress) standard files old new end
solve_done solver start input progress standard problem files text old new (Reported ended) o p h = (text, o, problem, p, h)
solve_done solver start input progress standard problem files text old new (Checked verified) o p h = absurd h
solve_done solver start input progress standard problem files text old new Helped o p h = absurd h
solve_done solver start input progress standard problem files text old new (Refused written) o p h = absurd h
solve_done solver start input progress standard problem files text old new (Unopened named written) o p h = absurd h
solve_done solver start input progress standard problem files text old new (Failed faults.Memory written) o p h = h
solve_done solver start input progress standard problem files text old new (Failed faults.Write written) o p h = (text, o, problem, p, h)
solve_done solver start input progress standard problem files text old new (Failed (faults.Input fault) written) o p h = (text, o, problem, p, h)
solve_done solver start input progress standard problem files text old new (Failed (faults.Report fault) written) o p h = (text, o, problem, p, h)
solve_done solver start input progress standard problem files text old new (Failed (faults.Start fault) written) o p h = (text, o, problem, p, h)
solve_done solver start input progress standard problem files text old new (Failed (faults.Stuck person) written) o p h = (text, o, problem, p, h)

-- a run of `verify` on opened files is done
pub verify_done : (verifier : Verifier) (name : String Global) (input : Option (String Global))
    (standard problem : Option (List ℕ)) (files : Openings) (text old new : Option (List ℕ)) (end : ProgramEnd) →
    files (string_bytes name) (Ok text) → IsProblemText files (option_map string_bytes input) standard problem → VerifyEnd verifier problem text old new end →
    Does (Verify verifier.sparse verifier.sense name input) standard files old new end
verify_done verifier name input standard problem files text old new (Reported ended) o p h = absurd h
verify_done verifier name input standard problem files text old new (Checked verified) o p h = (text, o, problem, p, h)
verify_done verifier name input standard problem files text old new Helped o p h = absurd h
verify_done verifier name input standard problem files text old new (Refused written) o p h = absurd h
verify_done verifier name input standard problem files text old new (Unopened named written) o p h = absurd h
verify_done verifier name input standard problem files text old new (Failed faults.Memory written) o p h = h
verify_done verifier name input standard problem files text old new (Failed faults.Write written) o p h = (text, o, problem, p, h)
verify_done verifier name input standard problem files text old new (Failed (faults.Input fault) written) o p h = (text, o, problem, p, h)
verify_done verifier name input standard problem files text old new (Failed (faults.Report fault) written) o p h = (text, o, problem, p, h)
verify_done verifier name input standard problem files text old new (Failed (faults.Start fault) written) o p h = (text, o, problem, p, h)
verify_done verifier name input standard problem files text old new (Failed (faults.Stuck person) written) o p h = (text, o, problem, p, h)
