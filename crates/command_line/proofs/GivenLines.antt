-- Given command lines, and the values that clap finds in them.
use Rattle.std.proofs.Common.{◌≡◌, refl, codes, Bool}
use Rattle.std.proofs.Common.{true, false, List, [], ◌∷◌, Option, Some, None, option_map}
use Rattle.clap.specs.Words.{Row, Text, fault_of, first_of}
use Rattle.clap.specs.Words.{is_simple, is_simple_and_free, one_of, subcommand_of}
use Rattle.clap.specs.Words.{takes}
use Rattle.clap.specs.declared.error.kind.ErrorKind.TheVariants.{DisplayVersion}
use Rattle.clap.proofs.OnLiterals.{clap_on_literals}
use Rattle.assign_core.specs.declared.sense.Sense.{Sense}
use Rattle.assign_core.specs.declared.sense.Sense.TheVariants.{Max}
use Rattle.command_line.specs.Words.{IsFlag}
use Rattle.command_line.specs.Words.{Places, full_line, full_options}
use Rattle.command_line.specs.Words.{full_verify_line, input_line, input_verify_line, is_max}
use Rattle.command_line.specs.Words.{mode_name, program, sense_name, usual_options}
use Rattle.command_line.specs.declared.words.Method.{Method}
use Rattle.command_line.specs.declared.words.Method.TheVariants.{Auction, Paths}
use Rattle.command_line.specs.declared.words.SolveOpts.{SolveOpts}

-- the words of each given line after the program's name
abbrev pub plain_line : List Text
plain_line = codes "solve" ∷ []

abbrev pub paths_line : List Text
paths_line = codes "solve" ∷ codes "--method" ∷ codes "paths" ∷ []

abbrev pub file_line : List Text
file_line = codes "verify" ∷ codes "--sparse" ∷ codes "report" ∷ []

pub plain_is_taken : (at : Places) (name : Text) → takes (program at) (name ∷ plain_line) ≡ true
unfolding clap_on_literals
plain_is_taken at name = refl

pub full_is_taken : (at : Places) (name : Text) → takes (program at) (name ∷ full_line) ≡ true
unfolding clap_on_literals
full_is_taken at name = refl

pub paths_is_taken : (at : Places) (name : Text) → takes (program at) (name ∷ paths_line) ≡ true
unfolding clap_on_literals
paths_is_taken at name = refl

pub file_is_taken : (at : Places) (name : Text) → takes (program at) (name ∷ file_line) ≡ true
unfolding clap_on_literals
file_is_taken at name = refl

pub input_is_taken : (at : Places) (name : Text) → takes (program at) (name ∷ input_line) ≡ true
unfolding clap_on_literals
input_is_taken at name = refl

pub input_file_is_taken : (at : Places) (name : Text) → takes (program at) (name ∷ input_verify_line) ≡ true
unfolding clap_on_literals
input_file_is_taken at name = refl

pub full_file_is_taken : (at : Places) (name : Text) → takes (program at) (name ∷ full_verify_line) ≡ true
unfolding clap_on_literals
full_file_is_taken at name = refl

pub version_is_asked : (at : Places) (name : Text) → fault_of (program at) (name ∷ codes "--version" ∷ []) ≡ DisplayVersion ∷ []
unfolding clap_on_literals
version_is_asked at name = refl

pub simple_program : (at : Places) → is_simple (program at) ≡ true
unfolding clap_on_literals
simple_program at = refl

pub free_program : (at : Places) → is_simple_and_free (program at) ≡ true
unfolding clap_on_literals
free_program at = refl

-- the values of the options of `solve`, and its files
pub record Flags : Type 0 where
  pub name : Text
  pub sparse : Option Text
  pub max : Option Text
  pub prices : Option Text
  pub start : Option Text
  pub method : Option Text
  pub mode : Option Text
  pub workers : Option Text
  pub refresh : Option Text
  pub input : Option Text

-- a subcommand, and the values of its options of `solve`
abbrev pub flags_of : Option (Text × List Row) → Option Flags
flags_of = option_map (λ f. record {
  name = f.0;
  sparse = one_of (codes "sparse") f.1;
  max = one_of (codes "max") f.1;
  prices = one_of (codes "prices") f.1;
  start = first_of (codes "start") f.1;
  method = first_of (codes "method") f.1;
  mode = first_of (codes "mode") f.1;
  workers = one_of (codes "workers") f.1;
  refresh = one_of (codes "refresh") f.1;
  input = first_of (codes "input") f.1;
})

-- the values of the options and the files of `verify`
pub record File : Type 0 where
  pub name : Text
  pub sparse : Option Text
  pub sense : Option Text
  pub report : Option Text
  pub input : Option Text

-- a subcommand, and the values of its options of `verify`
abbrev pub file_of : Option (Text × List Row) → Option File
file_of = option_map (λ f. record {
  name = f.0;
  sparse = one_of (codes "sparse") f.1;
  sense = first_of (codes "sense") f.1;
  report = first_of (codes "REPORT") f.1;
  input = first_of (codes "input") f.1;
})

abbrev pub flag_word : Bool → Text
flag_word true = codes "true"
flag_word false = codes "false"

abbrev pub method_word : Method → Text
method_word Auction = codes "auction"
method_word Paths = codes "paths"

-- the values of the options, with the digits of both numbers
abbrev pub solve_flags : Method → SolveOpts → Text → Text → Option Text → Option Text → Flags
solve_flags method o workers refresh start input = record {
  name = codes "solve";
  sparse = Some (flag_word o.sparse);
  max = Some (flag_word (is_max o.sense));
  prices = Some (flag_word o.prices);
  start = start;
  method = Some (method_word method);
  mode = Some (mode_name o.mode);
  workers = Some workers;
  refresh = Some refresh;
  input = input;
}

pub plain_flags : (at : Places) (name : Text) → flags_of (subcommand_of (program at) (name ∷ plain_line)) ≡ Some
    (solve_flags Auction usual_options (codes "4") (codes "1") None None)
unfolding clap_on_literals
plain_flags at name = refl

pub paths_flags : (at : Places) (name : Text) → flags_of (subcommand_of (program at) (name ∷ paths_line)) ≡ Some
    (solve_flags Paths usual_options (codes "4") (codes "1") None None)
unfolding clap_on_literals
paths_flags at name = refl

pub full_flags : (at : Places) (name : Text) → flags_of (subcommand_of (program at) (name ∷ full_line)) ≡ Some
    (solve_flags Auction full_options (codes "64") (codes "0") (Some (codes "report")) None)
unfolding clap_on_literals
full_flags at name = refl

pub input_flags : (at : Places) (name : Text) → flags_of (subcommand_of (program at) (name ∷ input_line)) ≡ Some
    (solve_flags Auction usual_options (codes "4") (codes "1") None (Some (codes "problem")))
unfolding clap_on_literals
input_flags at name = refl

abbrev pub verify_file : Bool → Option Sense → Text → Option Text → File
verify_file sparse wanted report input = record {
  name = codes "verify";
  sparse = Some (flag_word sparse);
  sense = option_map sense_name wanted;
  report = Some report;
  input = input;
}

pub file_words : (at : Places) (name : Text) → file_of (subcommand_of (program at) (name ∷ file_line)) ≡ Some (verify_file true None (codes "report") None)
unfolding clap_on_literals
file_words at name = refl

pub full_file_words : (at : Places) (name : Text) → file_of (subcommand_of (program at) (name ∷ full_verify_line))
    ≡ Some (verify_file true (Some Max) (codes "report") None)
unfolding clap_on_literals
full_file_words at name = refl

pub input_file_words : (at : Places) (name : Text) → file_of (subcommand_of (program at) (name ∷ input_verify_line))
    ≡ Some (verify_file false None (codes "report") (Some (codes "problem")))
unfolding clap_on_literals
input_file_words at name = refl

pub flag_is : (text : Option Text) (flag b : Bool) → IsFlag text flag → text ≡ Some (flag_word b) → flag ≡ b
flag_is text flag true f e = f.set e
flag_is text flag false f e = f.unset e

pub other_command : codes "verify" ≡ codes "solve" → ⊥
other_command e = cc
