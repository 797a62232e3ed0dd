-- What the values of options choose.
use Rattle.std.proofs.Common.{◌≡◌, ◌∙◌, ◌↔◌, refl, sym, ap, subst, codes, ℕ, Bool, List, [], Option, Some, None}
use Rattle.std.specs.Prelude.{Result, Ok, Err, IfOk, IfErr, IfSome}
use Rattle.std.specs.Option.{ok_or}
use Rattle.std.specs.Str.Parse.{ParsesUnsigned, digits_value, without_leading_plus}
use Rattle.std.proofs.lemmas.Option.{same_Some}
use Rattle.clap.specs.Words.{IsUnsignedIn, ReadsOne, Row, Text, fault_of, first_of, subcommand_of}
use Rattle.assign_core.specs.declared.sense.Sense.{Sense}
use Rattle.command_line.specs.Words.{Chooses, IsTaken, NamesMethod, NamesMode, NamesNoMode, NamesNoSense}
use Rattle.command_line.specs.Words.{NamesSense, Places, SolvesFrom, VerifiesFrom, WordsOutcome, mode_name, program}
use Rattle.command_line.specs.Words.{sense_name}
use Rattle.command_line.specs.inside.Words.{IsChoiceFault}
use Rattle.command_line.specs.declared.words.Method.{Method}
use Rattle.command_line.specs.declared.words.Method.TheVariants.{Auction, Paths}
use Rattle.command_line.specs.declared.words.Mode.{Mode}
use Rattle.command_line.specs.declared.words.SolveOpts.{SolveOpts}
use Rattle.command_line.specs.declared.words.Words.{Words}
use Rattle.command_line.specs.declared.words.WordsFault.{WordsFault}
use Rattle.command_line.specs.declared.words.WordsFault.TheVariants as wrong
use Rattle.command_line.specs.declared.words.WordsFault.TheVariants.{Clap, Memory}
use Rattle.command_line.proofs.GivenLines.{file_of, flags_of}
use Rattle.command_line.proofs.CommandLines.{mode_is_named, no_file_mode, no_solve_sense}
use Rattle.command_line.proofs.GivenLines.{solve_flags, verify_file}
use Rattle.command_line.proofs.CommandLines.{sense_is_named, solves, verifies}

-- a text of a number in range is read as that number
pub number_read : (E : Type 0) (G : List ℕ → Result ℕ E → Type 0) (digits : Text) (o : Option ℕ) (least most : ℕ) →
    ReadsOne G digits o → ((u : List ℕ) (x : Result ℕ E) → G u x → ParsesUnsigned 64 10 u x) →
    IsUnsignedIn least most digits → o ≡ Some (digits_value 10 (without_leading_plus digits))
number_read E G digits (Some v) least most h only within = ap Some (only digits (Ok v) h).1
number_read E G digits None least most h only within = absurd (only digits (Err h.0) h.1 (within.0, within.1))

pub none_is_some : {A : Type 0} (x : A) → None ≡ Some x → ⊥
none_is_some x e = cc

pub mode_told : (rows : List Row) (name : Text) (o : Option Mode) (r : Result Mode WordsFault) →
    Some name ≡ first_of (codes "mode") rows → IfSome o (λ mode. name ≡ mode_name mode) → r ≡ ok_or o wrong.Mode →
    IfOk r (NamesMode rows)
mode_told rows name None r f s e = rw e tt
mode_told rows name (Some mode) r f s e = rw e (sym f ∙ ap Some s)

pub mode_untold : (rows : List Row) (name : Text) (o : Option Mode) (r : Result Mode WordsFault) →
    Some name ≡ first_of (codes "mode") rows → (o ≡ None → (mode : Mode) → name ≡ mode_name mode → ⊥) →
    r ≡ ok_or o wrong.Mode →
    IfErr r (λ fault. (fault ≡ wrong.Mode) × ((mode : Mode) → NamesMode rows mode → ⊥))
mode_untold rows name None r f n e = rw e (refl, λ mode is. n refl mode (same_Some _ _ (f ∙ is)))
mode_untold rows name (Some mode) r f n e = rw e tt

-- the named sense, if there is one
pub sense_told : (rows : List Row) (name : Text) (sense : Sense) → Some name ≡ first_of (codes "sense") rows →
    name ≡ sense_name sense → NamesSense rows (Some sense)
sense_told rows name sense f s = sym f ∙ ap Some s

pub sense_untold : (rows : List Row) (name : Text) → Some name ≡ first_of (codes "sense") rows →
    ((sense : Sense) → name ≡ sense_name sense → ⊥) → (sense : Option Sense) → NamesSense rows sense → ⊥
sense_untold rows name f n None is = none_is_some name (sym (f ∙ is))
sense_untold rows name f n (Some sense) is = n sense (same_Some _ _ (f ∙ is))

pub no_mode : (rows : List Row) → None ≡ first_of (codes "mode") rows → (wrong.Mode ≡ wrong.Mode) × ((mode : Mode) → NamesMode rows mode → ⊥)
no_mode rows f = (refl, λ mode is. none_is_some _ (f ∙ is))

pub method_told : (rows : List Row) (name : Text) (method : Method) → Some name ≡ first_of (codes "method") rows →
    (method ≡ Paths) ↔ (name ≡ codes "paths") → NamesMethod rows method
method_told rows name method f is = ((λ p. sym f ∙ ap Some (is.0 p)), (λ p. is.1 (same_Some _ _ (f ∙ p))))

pub method_untold : (rows : List Row) → None ≡ first_of (codes "method") rows → NamesMethod rows Auction
method_untold rows f = ((λ p. cc), (λ p. absurd (none_is_some _ (f ∙ p))))

-- the result of words without a fault of clap's
pub chosen_outcome : (at : Places) (words : List Text) (found : Option (Text × List Row))
    (r : Result Words WordsFault) → fault_of (program at) words ≡ [] → found ≡ subcommand_of (program at) words →
    IfOk r (Chooses found) → IfErr r (IsChoiceFault found) →
    WordsOutcome words r
chosen_outcome at words found (Ok asked) none is ok err = (at, none, subst (λ f. Chooses f asked) is ok)
chosen_outcome at words found (Err wrong.Mode) none is ok err = (at, (none, subst NamesNoMode is err))
chosen_outcome at words found (Err wrong.Sense) none is ok err = (at, (none, subst NamesNoSense is err))
chosen_outcome at words found (Err Memory) none is ok err = tt
chosen_outcome at words found (Err (Clap error)) none is ok err = absurd err

-- a line of `solve`, by the values of its options
pub solve_taken : (found : Option (Text × List Row)) (r : Result Words WordsFault) (method : Method)
    (wanted : SolveOpts) (workers refresh : Text) (start input : Option Text) →
    flags_of found ≡ Some (solve_flags method wanted workers refresh start input) →
    wanted.workers ≡ digits_value 10 (without_leading_plus workers) → wanted.refresh ≡ digits_value 10 (without_leading_plus refresh) →
    IfOk r (Chooses found) → IfErr r (IsChoiceFault found) → IsTaken (SolvesFrom input method wanted start) r
solve_taken found (Ok asked) method wanted workers refresh start input e w h ok err = solves found asked method wanted workers refresh start input e w h ok
solve_taken found (Err wrong.Mode) method wanted workers refresh start input e w h ok err =
    absurd (mode_is_named found method wanted workers refresh start input e err)
solve_taken found (Err wrong.Sense) method wanted workers refresh start input e w h ok err =
    absurd (no_solve_sense found method wanted workers refresh start input e err)
solve_taken found (Err Memory) method wanted workers refresh start input e w h ok err = refl
solve_taken found (Err (Clap error)) method wanted workers refresh start input e w h ok err = absurd err

-- a line of `verify`, by the values of its options
pub verify_taken : (found : Option (Text × List Row)) (r : Result Words WordsFault) (s : Bool)
    (wanted : Option Sense) (name : Text) (problem : Option Text) →
    file_of found ≡ Some (verify_file s wanted name problem) → IfOk r (Chooses found) →
    IfErr r (IsChoiceFault found) → IsTaken (VerifiesFrom problem s wanted name) r
verify_taken found (Ok asked) s wanted name problem e ok err = verifies found asked s wanted name problem e ok
verify_taken found (Err wrong.Mode) s wanted name problem e ok err = absurd (no_file_mode found s wanted name problem e err)
verify_taken found (Err wrong.Sense) s wanted name problem e ok err = absurd (sense_is_named found s wanted name problem e err)
verify_taken found (Err Memory) s wanted name problem e ok err = refl
verify_taken found (Err (Clap error)) s wanted name problem e ok err = absurd err
