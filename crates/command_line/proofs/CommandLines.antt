-- What clap finds in words, and given command lines.
use Rattle.std.proofs.Common.{arith, ◌≡◌, ◌≢◌, ◌∙◌, ◌≤◌, ℕ, refl, sym, ap, ap₂, subst, inl, inr, codes, map, Bool}
use Rattle.std.proofs.Common.{true, false, List, [], ◌∷◌, Option, Some, None, option_map, unwrap_or}
use Rattle.std.specs.Borrow.{Bor}
use Rattle.std.specs.Prelude.{Err, IfOk, Ok, Result}
use Rattle.clap.specs.Words.{App, HasKind, HasMatchesOf, IsAmong, Row, Text, fault_of, first_of, found_of}
use Rattle.clap.specs.Words.{is_simple, is_simple_and_free, kind_of, one_of, one_text, rows_of, subcommand_of}
use Rattle.clap.specs.Words.{subcommand_rows_of}
use Rattle.clap.specs.declared.parser.matches.ArgMatches.{ArgMatches}
use Rattle.clap.proofs.WalkLemmas.{one_text-rows}
use Rattle.clap.specs.declared.error.Error.{Error}
use Rattle.clap.specs.declared.error.kind.ErrorKind.TheVariants.{DisplayVersion, OutOfMemory}
use Rattle.std.specs.Str.Parse.{digits_value, without_leading_plus}
use Rattle.std.proofs.lemmas.Option.{same_Some}
use Rattle.assign_core.specs.declared.sense.Sense.{Sense}
use Rattle.assign_core.specs.declared.sense.Sense.TheVariants.{Min, Max}
use Rattle.command_line.specs.Words.{AskForNoModeAt, AskForNoSenseAt, AsksForVersion, Chooses, ChoosesSolving}
use Rattle.command_line.specs.Words.{IsFlag, IsInRanges, IsNumberFor, NamesMethod, NamesNoMode, NamesNoSense}
use Rattle.command_line.specs.Words.{Places, SolvesFrom, VerifiesFrom, WordsOutcome}
use Rattle.command_line.specs.Words.{is_max, lying, method_names}
use Rattle.command_line.specs.Words.{mode_name, program, sense_name}
use Rattle.command_line.specs.inside.Words.{IsFaultOf}
use Rattle.command_line.specs.declared.words.Method.{Method}
use Rattle.command_line.specs.declared.words.Method.TheVariants.{Auction, Paths}
use Rattle.command_line.specs.declared.words.Mode.{Mode}
use Rattle.command_line.specs.declared.words.Mode.TheVariants.{Rounds, Workers}
use Rattle.command_line.specs.declared.words.SolveOpts.{SolveOpts}
use Rattle.command_line.specs.declared.words.WordsFault.TheVariants as wrong
use Rattle.command_line.specs.declared.words.Words.{Words}
use Rattle.command_line.specs.declared.words.Words.TheVariants.{Solve, Verify}
use Rattle.command_line.specs.declared.words.WordsFault.{WordsFault}
use Rattle.command_line.specs.declared.words.WordsFault.TheVariants.{Clap, Memory}
use Rattle.command_line.proofs.GivenLines.{File, Flags, file_of, flag_is, flags_of, free_program, method_word}
use Rattle.command_line.proofs.GivenLines.{other_command, simple_program, solve_flags, verify_file}
use Rattle.command_line.proofs.GivenLines.{version_is_asked}

-- the number of a known text
number_is : (text : Option Text) (least most : ℕ) {number : ℕ} (digits : Text) →
    IsNumberFor text least most number → text ≡ Some digits → number ≡ digits_value 10 (without_leading_plus digits)
number_is text least most digits h e = h.value ∙ ap (λ (d : Text). digits_value 10 (without_leading_plus d)) (same_Some _ _ (sym h.told ∙ e))

same_sense : (a b : Sense) → is_max a ≡ is_max b → a ≡ b
same_sense Min Min e = refl
same_sense Max Max e = refl
same_sense Min Max e = cc
same_sense Max Min e = cc

abbrev second_code : Text → ℕ
second_code [] = 0
second_code (a ∷ []) = 0
second_code (a ∷ b ∷ rest) = b

same_name : (a b : Sense) → sense_name a ≡ sense_name b → a ≡ b
same_name Min Min e = refl
same_name Max Max e = refl
same_name Min Max e =
    let bad : 105 ≡ 97 = ap second_code e in
    absurd (omega (arith, bad))
same_name Max Min e =
    let bad : 97 ≡ 105 = ap second_code e in
    absurd (omega (arith, bad))

same_wanted : (a b : Option Sense) → option_map sense_name a ≡ option_map sense_name b → a ≡ b
same_wanted None None e = refl
same_wanted (Some a) (Some b) e = ap Some (same_name a b (same_Some _ _ e))
same_wanted None (Some b) e = cc
same_wanted (Some a) None e = cc

same_mode : (a b : Mode) → mode_name a ≡ mode_name b → a ≡ b
same_mode Rounds Rounds e = refl
same_mode Workers Workers e = refl
same_mode Rounds Workers e = cc
same_mode Workers Rounds e = cc

pub at_most : (text : Option Text) (least most number : ℕ) → IsNumberFor text least most number → number ≤ most
at_most text least most number h = rw h.value h.in_range.3

at_least : (text : Option Text) (least most number : ℕ) → IsNumberFor text least most number → least ≤ number
at_least text least most number h = rw h.value h.in_range.2

pub in_ranges : (found : Option (Text × List Row)) (r : Result Words WordsFault) → IfOk r (Chooses found) → IfOk r IsInRanges
in_ranges found (Ok (Solve options start method input progress)) h = record {
  some_workers = at_least _ _ _ _ h.2.workers;
  few_workers = at_most _ _ _ _ h.2.workers;
  few_sessions = at_most _ _ _ _ h.2.refresh;
}
in_ranges found (Ok (Verify sparse sense report input)) h = tt
in_ranges found (Err fault) h = tt

-- the options that belong to the values of a line
pub options_are : (rows : List Row) (method : Method) (o wanted : SolveOpts) (workers refresh : Text)
    (start input : Option Text) → flags_of (Some (codes "solve", rows)) ≡ Some
    (solve_flags method wanted workers refresh start input) → ChoosesSolving rows o →
    wanted.workers ≡ digits_value 10 (without_leading_plus workers) →
    wanted.refresh ≡ digits_value 10 (without_leading_plus refresh) → o ≡ wanted
options_are rows method o wanted workers refresh start input e h w r =
    let all = same_Some _ _ e in
    let sparse : o.sparse ≡ wanted.sparse = flag_is _ _ wanted.sparse h.sparse (ap (λ (q : Flags). q.sparse) all) in
    let mode : o.mode ≡ wanted.mode = same_mode _ _ (same_Some _ _ (sym h.mode ∙ ap (λ (q : Flags). q.mode) all)) in
    let many : o.workers ≡ wanted.workers = number_is _ _ _ workers h.workers (ap (λ (q : Flags). q.workers) all) ∙ sym w in
    let often : o.refresh ≡ wanted.refresh = number_is _ _ _ refresh h.refresh (ap (λ (q : Flags). q.refresh) all) ∙ sym r in
    let prices : o.prices ≡ wanted.prices = flag_is _ _ wanted.prices h.prices (ap (λ (q : Flags). q.prices) all) in
    let sense : o.sense ≡ wanted.sense = same_sense _ _ (flag_is _ _ (is_max wanted.sense) h.sense (ap (λ (q : Flags). q.max) all)) in
    λ i. record { sparse = sparse i; mode = mode i; workers = many i; refresh = often i; prices = prices i; sense = sense i }

same_method : (rows : List Row) (m method : Method) → NamesMethod rows m → first_of (codes "method") rows ≡ Some (method_word method) → m ≡ method
same_method rows m Paths h e = h.1 e
same_method rows Auction Auction h e = refl
same_method rows Paths Auction h e =
    let other : codes "auction" ≡ codes "paths" = same_Some _ _ (sym e ∙ h.0 refl) in
    cc

pub solves : (found : Option (Text × List Row)) (asked : Words) (method : Method) (wanted : SolveOpts)
    (workers refresh : Text) (start input : Option Text) →
    flags_of found ≡ Some (solve_flags method wanted workers refresh start input) →
    wanted.workers ≡ digits_value 10 (without_leading_plus workers) → wanted.refresh ≡ digits_value 10 (without_leading_plus refresh) →
    Chooses found asked → SolvesFrom input method wanted start asked
solves found (Solve options file by problem progress) method wanted workers refresh start input e w r h =
    let told : flags_of (Some (codes "solve", h.0)) ≡ Some (solve_flags method wanted workers refresh start input) = ap flags_of (sym h.1) ∙ e in (
      options_are h.0 method options wanted workers refresh start input told h.2 w r,
      h.3 ∙ ap (λ (q : Flags). q.start) (same_Some _ _ told),
      same_method h.0 by method h.4 (ap (λ (q : Flags). q.method) (same_Some _ _ told)),
      h.5 ∙ ap (λ (q : Flags). q.input) (same_Some _ _ told),
    )
solves found (Verify sparse sense report file) method wanted workers refresh start input e w r h =
    absurd (other_command (ap (λ (q : Flags). q.name) (same_Some _ _ (ap flags_of (sym h.1) ∙ e))))

-- a line that names its mode is refused for no mode
pub mode_is_named : (found : Option (Text × List Row)) (method : Method) (wanted : SolveOpts)
    (workers refresh : Text) (start input : Option Text) →
    flags_of found ≡ Some (solve_flags method wanted workers refresh start input) → NamesNoMode found → ⊥
mode_is_named found method wanted workers refresh start input e h =
    let told : flags_of (Some (codes "solve", h.0)) ≡ Some (solve_flags method wanted workers refresh start input) = ap flags_of (sym h.1) ∙ e in
    h.2 wanted.mode (ap (λ (q : Flags). q.mode) (same_Some _ _ told))

-- a line of `solve` is refused for no sense
pub no_solve_sense : (found : Option (Text × List Row)) (method : Method) (wanted : SolveOpts)
    (workers refresh : Text) (start input : Option Text) →
    flags_of found ≡ Some (solve_flags method wanted workers refresh start input) → NamesNoSense found → ⊥
no_solve_sense found method wanted workers refresh start input e h = other_command (ap (λ (q : Flags). q.name) (same_Some _ _ (ap flags_of (sym h.1) ∙ e)))

pub verifies : (found : Option (Text × List Row)) (asked : Words) (s : Bool) (wanted : Option Sense) (name : Text)
    (problem : Option Text) → file_of found ≡ Some (verify_file s wanted name problem) →
    Chooses found asked → VerifiesFrom problem s wanted name asked
verifies found (Solve options start method input progress) s wanted name problem e h =
    absurd (other_command (sym (ap (λ (q : File). q.name) (same_Some _ _ (ap file_of (sym h.1) ∙ e)))))
verifies found (Verify sparse sense report input) s wanted name problem e h =
    let all = same_Some _ _ (ap file_of (sym h.1) ∙ e) in (
      flag_is _ _ s h.2.sparse (ap (λ (q : File). q.sparse) all),
      same_wanted _ _ (sym h.2.sense ∙ ap (λ (q : File). q.sense) all),
      h.2.report ∙ ap (λ (q : File). unwrap_or q.report []) all,
      h.2.input ∙ ap (λ (q : File). q.input) all,
    )

-- a line of `verify` is refused for no mode
pub no_file_mode : (found : Option (Text × List Row)) (s : Bool) (wanted : Option Sense) (name : Text)
    (problem : Option Text) → file_of found ≡ Some (verify_file s wanted name problem) → NamesNoMode found → ⊥
no_file_mode found s wanted name problem e h = other_command (sym (ap (λ (q : File). q.name) (same_Some _ _ (ap file_of (sym h.1) ∙ e))))

-- one that names its sense, or none, is refused for no sense
pub sense_is_named : (found : Option (Text × List Row)) (s : Bool) (wanted : Option Sense) (name : Text)
    (problem : Option Text) → file_of found ≡ Some (verify_file s wanted name problem) → NamesNoSense found → ⊥
sense_is_named found s wanted name problem e h = h.2 wanted (ap (λ (q : File). q.sense) (same_Some _ _ (ap file_of (sym h.1) ∙ e)))

-- words that name no mode are different from those that name no sense
pub no_mode_or_sense : (at : Places) (words : List Text) → AskForNoModeAt at words → AskForNoSenseAt at words → ⊥
no_mode_or_sense at words m s = other_command (ap (λ (q : Text × List Row). q.0) (same_Some _ _ (sym s.1.1 ∙ m.1.1)))

-- accepted words have no fault, and the subcommand of the matches
pub taken_words : (at : Places) (app : App) (words : List Text) (m : ArgMatches) → app ≡ program at →
    (is_simple_and_free app ≡ true → fault_of app words ≡ []) → HasMatchesOf app words m →
    (fault_of (program at) words ≡ []) × (subcommand_rows_of m ≡ subcommand_of (program at) words)
taken_words at app words m a none h = (
  subst (λ x. fault_of x words ≡ []) a (none (ap is_simple_and_free a ∙ free_program at)),
  (h (ap is_simple a ∙ simple_program at)).1 ∙ ap (λ x. subcommand_of x words) a,
)

-- the result of words in which clap finds a fault
pub told_outcome : (at : Places) (app : App) (words : List Text) (error : Error) (fault : WordsFault) →
    app ≡ program at → (is_simple_and_free app ≡ true → HasKind (fault_of app words) error) → IsFaultOf error fault →
    WordsOutcome words (Err fault)
told_outcome at app words error Memory a kinds f = tt
told_outcome at app words error wrong.Mode a kinds f = absurd f
told_outcome at app words error wrong.Sense a kinds f = absurd f
told_outcome at app words error (Clap told) a kinds f = go (subst (λ x. HasKind (fault_of x words) error) a (kinds (ap is_simple_and_free a ∙ free_program at)))
  where
    go : HasKind (fault_of (program at) words) error → WordsOutcome words (Err (Clap told))
    go (inl memory) = absurd (f.1 memory)
    go (inr among) = (
      at,
      subst (λ (e : Error). IsAmong (kind_of e) (fault_of (program at) words)) (sym f.0) among,
      subst (λ (e : Error). kind_of e ≢ OutOfMemory) (sym f.0) f.1,
    )

-- a flag of the matches is that of their rows
pub flag_told : (m : ArgMatches) (name : Text) (flag : Bool) → (one_text (found_of m) name ≡ None → flag ≡ false) →
    (one_text (found_of m) name ≡ Some (codes "true") → flag ≡ true) →
    (one_text (found_of m) name ≡ Some (codes "false") → flag ≡ false) → IsFlag (one_of name (rows_of (found_of m))) flag
flag_told m name flag absent set unset =
    let same = one_text-rows (found_of m) name in
    record { set = λ e. set (same ∙ e); unset = λ e. unset (same ∙ e); absent = λ e. absent (same ∙ e) }

-- two texts in memory are the names of the methods
pub names_are : (names : Bor (List (Bor Text))) → map (λ s. s.now) names.now ≡ codes "auction" ∷ codes "paths" ∷ [] → (at : Places) × (names ≡ method_names at)
names_are names e = go names.now refl e
  where
    two : (a b : Bor Text) → a.now ≡ codes "auction" → b.now ≡ codes "paths" → names.now ≡ a ∷ b ∷ [] → (at : Places) × (names ≡ method_names at)
    two a b f g is = (
      record { list = names.ref_ptr; auction = a.ref_ptr; paths = b.ref_ptr },
      λ i. record { ref_ptr = names.ref_ptr; now = (is ∙ ap₂ (λ x y. lying a.ref_ptr x ∷ lying b.ref_ptr y ∷ []) f g) i },
    )

    go : (l : List (Bor Text)) → names.now ≡ l → map (λ s. s.now) l ≡ codes "auction" ∷ codes "paths" ∷ [] → (at : Places) × (names ≡ method_names at)
    go [] is e = cc
    go (a ∷ []) is e = cc
    go (a ∷ b ∷ []) is e =
        let f : a.now ≡ codes "auction" = cc in
        let g : b.now ≡ codes "paths" = cc in
        two a b f g is
    go (a ∷ b ∷ c ∷ l) is e = cc

pub is_memory : (error : Error) (fault : WordsFault) → IsFaultOf error fault → kind_of error ≡ OutOfMemory → fault ≡ Memory
is_memory error Memory h k = refl
is_memory error (Clap told) h k = absurd (h.1 k)
is_memory error wrong.Mode h k = absurd h
is_memory error wrong.Sense h k = absurd h

-- words that ask for the version have a fault, and no other
pub version_is_fault : (at : Places) (words : List Text) (name : Text) → words ≡ name ∷ codes "--version" ∷ [] → fault_of (program at) words ≡ [] → ⊥
version_is_fault at words name e none =
    let bad : DisplayVersion ∷ [] ≡ [] = sym (version_is_asked at name) ∙ sym (ap (fault_of (program at)) e) ∙ none in
    cc

pub version_told : (at : Places) (app : App) (words : List Text) (name : Text) (error : Error) (fault : WordsFault)
    → app ≡ program at → words ≡ name ∷ codes "--version" ∷ [] →
    (is_simple_and_free app ≡ true → HasKind (fault_of app words) error) → IsFaultOf error fault → AsksForVersion (Err fault)
version_told at app words name error Memory a e h f = refl
version_told at app words name error wrong.Mode a e h f = absurd f
version_told at app words name error wrong.Sense a e h f = absurd f
version_told at app words name error (Clap told) a e h f =
    go (subst (λ k. HasKind k error) (ap₂ fault_of a e ∙ version_is_asked at name)
    (h (ap is_simple_and_free a ∙ free_program at)))
  where
    go : HasKind (DisplayVersion ∷ []) error → kind_of told ≡ DisplayVersion
    go (inl memory) = absurd (f.1 memory)
    go (inr (inl kind)) = ap kind_of f.0 ∙ kind
    go (inr (inr none)) = absurd none

-- the text of a reference, or none
pub text_or_none : (o : Option (Bor Text)) (d : Bor Text) (found : Option Text) →
    option_map (λ s. s.now) o ≡ found → d.now ≡ [] → (unwrap_or o d).now ≡ unwrap_or found []
text_or_none None d found e n = n ∙ ap (λ (x : Option Text). unwrap_or x []) e
text_or_none (Some s) d found e n = ap (λ (x : Option Text). unwrap_or x []) e
