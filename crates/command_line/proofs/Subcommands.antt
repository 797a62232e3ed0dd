-- Words without a fault name one of a command's own subcommands, and not `help`.
use Rattle.std.proofs.Common.{◌≡◌, ap, sym, refl, subst, inl, inr, codes, ℕ, Bool, true, false, not, is_some, List, [], ◌∷◌, Option, None, Some}
use Rattle.std.specs.Prelude.{⊤, ◌||◌, ◌&&◌, find, fold, option_map, if◌then◌else◌}
use Rattle.std.specs.Str.{bytes_eq}
use Rattle.std.proofs.lemmas.Slice.Eq.{bytes_eq-Decides}
use Rattle.command_line.specs.Words.{Places, program}
use Rattle.command_line.specs.inside.Words.{NamesCommand}
use Rattle.clap.specs.Kinds.{Kinds, or_else}
use Rattle.clap.specs.Walk.{Held, Names, Outcome, Rule, Row, Step, Text, Waiting, Walk, walk, walk_from, walked}
use Rattle.clap.specs.Walk.{walked_from, after_step, to_positional, arg_by_index, word_met, subcommand_or_other}
use Rattle.clap.specs.Walk.{subcommand_met, long_or_other, short_or_plain, after_flag, plain_word, next, trailing}
use Rattle.clap.specs.Walk.{subcommand, value, idle, option, positional, done, waits, plain, refused, answers_to}
use Rattle.clap.specs.Walk.{nothing_held, stop_after, long_met, arg_by_long, bundle, finished}
use Rattle.clap.specs.Lexer.{long_of, short_of}
use Rattle.clap.specs.Simple.{App, Shape, entered, label_of, names_of, rows_at, argument_words, built, subcommand_of}
use Rattle.clap.specs.Faults.{word_fault, other_fault, turn_fault, step_fault, walk_fault, built_fault, entered_fault, fault_of, check_fault}

pub first_none : (a b : Kinds) → or_else a b ≡ [] → a ≡ []
first_none [] b e = refl
first_none (k ∷ ks) b e = cc

pub then_none : (a b : Kinds) → or_else a b ≡ [] → b ≡ []
then_none [] b e = e
then_none (k ∷ ks) b e = cc

-- a walk has not stopped at `help`
abbrev IsElsewhere : Option (Text × List Text) → Type 0
IsElsewhere None = ⊤
IsElsewhere (Some p) = bytes_eq p.0 (codes "help") ≡ false

-- a word isn't a call of `help`
abbrev GoesElsewhere : Step → Type 0
GoesElsewhere (subcommand name) = bytes_eq name (codes "help") ≡ false
GoesElsewhere (next w) = ⊤
GoesElsewhere (trailing p) = ⊤
GoesElsewhere value = ⊤

plain_elsewhere : (c : List Rule) (waiting : Waiting) (word : Text) (h : Held) → GoesElsewhere (plain_word c waiting word h).1
plain_elsewhere c idle word h = tt
plain_elsewhere c (option id) word h = tt
plain_elsewhere c positional word h = tt

flag_elsewhere : (c : List Rule) (waiting : Waiting) (word : Text) (h : Held) (o : Outcome) → GoesElsewhere (after_flag c waiting word h o).1
flag_elsewhere c waiting word h done = tt
flag_elsewhere c waiting word h (waits id) = tt
flag_elsewhere c waiting word h plain = plain_elsewhere c waiting word h
flag_elsewhere c waiting word h refused = plain_elsewhere c waiting word h

short_elsewhere : (c : List Rule) (waiting : Waiting) (word : Text) (o : Option Text) (h : Held) → GoesElsewhere (short_or_plain c waiting word o h).1
short_elsewhere c waiting word None h = plain_elsewhere c waiting word h
short_elsewhere c waiting word (Some flags) h = flag_elsewhere c waiting word (bundle c flags h).0 (bundle c flags h).1

long_elsewhere : (c : List Rule) (waiting : Waiting) (word : Text) (o : Option (Text × Option Text)) (h : Held) →
    GoesElsewhere (long_or_other c waiting word o h).1
long_elsewhere c waiting word None h = short_elsewhere c waiting word (short_of word) h
long_elsewhere c waiting word (Some p) h = flag_elsewhere c waiting word (long_met c (arg_by_long c p.0) p.1 h).0 (long_met c (arg_by_long c p.0) p.1 h).1

no_help : (b off : Bool) (kinds : Kinds) → off ≡ false → (if b && not off then kinds else []) ≡ [] → (kinds ≡ [] → ⊥) → b ≡ false
no_help true true kinds d e some = cc
no_help true false kinds d e some = absurd (some e)
no_help false off kinds d e some = refl

other_elsewhere : (s : Shape) (o : Option Text) (waiting : Waiting) (position : ℕ) (word : Text) (h : Held) →
    s.disable_help_subcommand ≡ false → other_fault s o word h ≡ [] →
    GoesElsewhere (subcommand_or_other s.rules o waiting position word h).1
other_elsewhere s (Some name) waiting position word h d e = no_help _ s.disable_help_subcommand _ d e (λ bad. cc)
other_elsewhere s None waiting position word h d e = go (bytes_eq word (45 ∷ 45 ∷ [])) refl
  where
    go : (b : Bool) → bytes_eq word (45 ∷ 45 ∷ []) ≡ b → GoesElsewhere (subcommand_or_other s.rules None waiting position word h).1
    go true b = rw b tt
    go false b = rw b (long_elsewhere s.rules waiting word (long_of word) h)

word_elsewhere : (s : Shape) (names : Names) (is_trailing : Bool) (waiting : Waiting) (position : ℕ) (word : Text)
    (h : Held) → s.disable_help_subcommand ≡ false →
    word_fault s names is_trailing waiting word h ≡ [] → GoesElsewhere (word_met s.rules names is_trailing waiting position word h).1
word_elsewhere s names true waiting position word h d e = tt
word_elsewhere s names false waiting position word h d e = other_elsewhere s (subcommand_met names waiting word) waiting position word h d e

value_elsewhere : (c : List Rule) (a : Option Rule) (word : Text) (w : Walk) (h : Held) → w.stopped ≡ None → IsElsewhere (to_positional c a word w h).stopped
value_elsewhere c None word w h e = subst IsElsewhere (sym e) tt
value_elsewhere c (Some a) word w h e = tt

step_elsewhere : (c : List Rule) (word : Text) (w : Walk) (h : Held) (step : Step) → w.stopped ≡ None →
    GoesElsewhere step → IsElsewhere (after_step c word w h step).stopped
step_elsewhere c word w h (next waiting) e g = subst IsElsewhere (sym e) tt
step_elsewhere c word w h (trailing position) e g = subst IsElsewhere (sym e) tt
step_elsewhere c word w h (subcommand name) e g = g
step_elsewhere c word w h value e g = value_elsewhere c (arg_by_index c w.position) word w h e

turn_elsewhere : (s : Shape) (names : Names) (w : Walk) (word : Text) → s.disable_help_subcommand ≡ false →
    IsElsewhere w.stopped → turn_fault s names w word ≡ [] →
    IsElsewhere (walked s.rules names w word).stopped
unfolding walked
turn_elsewhere s names w word d n e = go w.stopped refl
  where
    go : (o : Option (Text × List Text)) → w.stopped ≡ o → IsElsewhere (walked_from s.rules names w.stopped w word).stopped
    go (Some p) is =
        subst (λ (v : Walk). IsElsewhere v.stopped)
        (sym (ap (λ (o : Option (Text × List Text)). walked_from s.rules names o w word) is))
        (subst IsElsewhere is n)
    go None is =
        let met = word_met s.rules names w.is_trailing w.waiting w.position word w.held in
        let none : or_else (word_fault s names w.is_trailing w.waiting word w.held) (step_fault s w.position met.0 met.1) ≡ [] = rw is at e in
        let there = step_elsewhere s.rules word w met.0 met.1 is
        (word_elsewhere s names w.is_trailing w.waiting w.position word w.held d (first_none _ _ none)) in
        subst (λ (v : Walk). IsElsewhere v.stopped) (sym (ap (λ (o : Option (Text × List Text)). walked_from s.rules names o w word) is)) there

walk_elsewhere : (s : Shape) (names : Names) (w : Walk) (words : List Text) → s.disable_help_subcommand ≡ false →
    IsElsewhere w.stopped → walk_fault s names w words ≡ [] →
    IsElsewhere (fold (walked s.rules names) w words).stopped
unfolding walk_fault
walk_elsewhere s names w [] d n e = n
walk_elsewhere s names w (word ∷ rest) d n e =
    walk_elsewhere s names (walked s.rules names w word) rest d (turn_elsewhere s names w word d n (first_none _ _ e)) (then_none _ _ e)

-- if a subcommand is required and nothing is wrong, there is one
entered_some : (s : Shape) (rows : List Row) (has : Bool) → s.arg_required_else_help ≡ false →
    s.subcommand_required ≡ true → check_fault s rows has ≡ [] → has ≡ true
entered_some s rows true a r e = refl
entered_some s rows false a r e =
    let bad = rw (a, r) at e in
    cc

-- where the walk stopped
record StopsElsewhere (a : App) (stop : Option (Text × List Text)) : Type 0 where
  pub elsewhere : IsElsewhere stop
  pub entered : is_some (entered a stop) ≡ true

stops : (a : App) (words : List Text) → a.top.disable_help_subcommand ≡ false → a.top.arg_required_else_help ≡ false → a.top.subcommand_required ≡ true →
    built_fault a nothing_held words ≡ [] → StopsElsewhere a (stop_after a.top.rules (names_of a) words)
stops a words d r q e =
    let stop = stop_after a.top.rules (names_of a) words in
    let rest = then_none _ _ (then_none (entered_fault a stop) _ (then_none (walk_fault a.top (names_of a) (walk_from nothing_held) words) _ e)) in
    record {
      elsewhere = walk_elsewhere a.top (names_of a) (walk_from nothing_held) words d tt (first_none _ _ e);
      entered = entered_some a.top (finished a.top.rules (walk a.top.rules (names_of a) nothing_held words).held) _ r q (then_none _ _ rest);
    }

pub or_false : (b : Bool) → (b || false) ≡ true → b ≡ true
or_false true e = refl
or_false false e = e

find_named : (p : Text × List Text) (solve verify help : Shape) → label_of solve ≡ (codes "solve", []) →
    label_of verify ≡ (codes "verify", []) → label_of help ≡ (codes "help", []) →
    bytes_eq p.0 (codes "help") ≡ false →
    is_some (option_map (λ s. rows_at s p.1) (find (λ s. answers_to p.0 (label_of s))
    (solve ∷ verify ∷ help ∷ []))) ≡ true →
    NamesCommand (option_map (λ s. rows_at s p.1) (find (λ s. answers_to p.0 (label_of s)) (solve ∷ verify ∷ help ∷ [])))
find_named p solve verify help x y z n e = go (answers_to p.0 (label_of solve)) (answers_to p.0 (label_of verify))
    (answers_to p.0 (label_of help)) refl refl refl
  where
    go : (a b c : Bool) → answers_to p.0 (label_of solve) ≡ a → answers_to p.0 (label_of verify) ≡ b → answers_to p.0 (label_of help) ≡ c →
        NamesCommand (option_map (λ s. rows_at s p.1) (find (λ s. answers_to p.0 (label_of s)) (solve ∷ verify ∷ help ∷ [])))
    go true b c f g h = rw f ((rows_at solve p.1).1, inl (ap (λ (l : Text × List Text). Some (l.0, (rows_at solve p.1).1)) x))
    go false true c f g h = rw (f, g) ((rows_at verify p.1).1, inr (ap (λ (l : Text × List Text). Some (l.0, (rows_at verify p.1).1)) y))
    go false false true f g h =
        let help_named : bytes_eq (codes "help") p.0 ≡ true = or_false _ (subst (λ (l : Text × List Text). answers_to p.0 l ≡ true) z h) in
        let is : codes "help" ≡ p.0 = (bytes_eq-Decides (codes "help") p.0).0 help_named in
        let bad : bytes_eq (codes "help") (codes "help") ≡ false = subst (λ (w : Text). bytes_eq w (codes "help") ≡ false) (sym is) n in
        cc
    go false false false f g h =
        let bad = rw (f, g, h) at e in
        cc

-- the words of a command line without a fault
pub names_command : (at : Places) (words : List Text) → fault_of (program at) words ≡ [] → NamesCommand (subcommand_of (program at) words)
names_command at words e = go (stop_after (built (program at)).top.rules (names_of (built (program at)))
    (argument_words (program at) words)) (stops (built (program at)) (argument_words (program at) words)
    refl refl refl e)
  where
    go : (stop : Option (Text × List Text)) → StopsElsewhere (built (program at)) stop → NamesCommand (entered (built (program at)) stop)
    go None h =
        let bad = h.entered in
        cc
    go (Some p) h = find_named p _ _ _ refl refl refl h.elsewhere h.entered
