-- Rows of an option that takes a number, on the way through words without a fault.
use Rattle.std.proofs.Common.{◌≡◌, ◌∙◌, ◌+◌, ◌++◌, ap, sym, refl, subst, ℕ, zero, suc, Bool, true, false}
use Rattle.std.proofs.Common.{true≢false, List, [], ◌∷◌, Option, None, Some, length, min, slice_get}
use Rattle.std.specs.Prelude.{⊤, ◌||◌, ◌&&◌, find, fold, if◌then◌else◌, is_some}
use Rattle.std.specs.List.{list_any}
use Rattle.std.specs.Option.{option_and_then, option_map_or}
use Rattle.std.specs.Str.{bytes_eq, chars}
use Rattle.std.proofs.lemmas.Bool.{or_left, or_right}
use Rattle.std.proofs.lemmas.Slice.Eq.{bytes_eq-Decides}
use Rattle.command_line.specs.Words.{numbered_rule}
use Rattle.command_line.specs.inside.Words.{IsNumberIn}
use Rattle.command_line.proofs.Subcommands.{first_none, or_false, then_none}
use Rattle.clap.proofs.ValueTestLemmas.{accepts-Accepts}
use Rattle.clap.specs.Faults.{bundle_fault, bundle_step_fault, default_fault, defaults_fault, flag_word_fault}
use Rattle.clap.specs.Faults.{flags_fault, given_default_fault, level_fault, long_fault, option_fault, other_fault}
use Rattle.clap.specs.Faults.{positional_fault, react_fault, repeat_fault, settle_fault, short_fault, step_fault}
use Rattle.clap.specs.Faults.{stray_fault, turn_fault, use_fault, values_fault, walk_fault, word_fault}
use Rattle.clap.specs.Kinds.{Kinds, or_else, range_kinds, value_kinds}
use Rattle.clap.specs.Lexer.{long_of, short_of}
use Rattle.clap.specs.Simple.{Shape, filled, with_index}
use Rattle.clap.specs.ValueTests.{is_unsigned_in}
use Rattle.clap.specs.Walk.{Held, Names, Outcome, Row, Rule, Step, Text, Waiting, Walk, action_of, after_flag}
use Rattle.clap.specs.Walk.{after_step, arg_by_id, arg_by_index, arg_by_long, arg_by_short, at_row, attached_value}
use Rattle.clap.specs.Walk.{bundle_met, bundle_step, count_of, default_rows, done, flag_met, has_row, idle}
use Rattle.clap.specs.Walk.{is_empty, is_pending, long_met, long_or_other, more_values, new_count, next}
use Rattle.clap.specs.Walk.{nothing_held, one_of, option, option_met, option_word, plain, plain_word, positional}
use Rattle.clap.specs.Walk.{positional_held, pushed, reacted, reading_by, refused, row_text, rows_after, settled}
use Rattle.clap.specs.Walk.{settled_rows, short_met, short_or_plain, subcommand, subcommand_met}
use Rattle.clap.specs.Walk.{subcommand_or_other, takes_several, takes_values, to_positional, trailing, used}
use Rattle.clap.specs.Walk.{used_as, used_by_id, value, values_or_missing, waits, walk, walk_from, walked}
use Rattle.clap.specs.Walk.{walked_from, with_count, with_default, with_values, without, word_met}
use Rattle.clap.specs.declared.builder.action.ArgAction.{ArgAction}
use Rattle.clap.specs.declared.builder.action.ArgAction.TheVariants as action
use Rattle.clap.specs.declared.builder.value_parser.Reading.{Reading}
use Rattle.clap.specs.declared.builder.value_parser.Reading.TheVariants.{AsWritten}
use Rattle.clap.specs.declared.builder.value_parser.ValueParser.TheVariants.{Unsigned}
use Rattle.clap.specs.declared.error.kind.ErrorKind.TheVariants as kind
use Rattle.clap.specs.declared.parser.matches.ValueSource.{ValueSource}
use Rattle.clap.specs.declared.parser.matches.ValueSource.TheVariants.{CommandLine, DefaultValue}

or_more : (a b d : Bool) → (b ≡ true → d ≡ true) → (a || b) ≡ true → (a || d) ≡ true
or_more true b d f e = refl
or_more false b d f e = f e

module _ (name usual : Text) (low high : ℕ) where
  -- the rule of the option, as it is built
  abbrev own : Rule
  own = with_index 1 (filled (numbered_rule name usual low high))

  -- the row has a first value, a number in range
  abbrev IsRead : Row → Type 0
  IsRead r = (v : Text) × (vs : List Text) × (r.values ≡ v ∷ vs) × (is_unsigned_in low high v ≡ true) × (r.reading ≡ AsWritten)

  -- so has each row of the option
  abbrev AllRead : List Row → Type 0
  AllRead [] = ⊤
  AllRead (r ∷ rs) = (bytes_eq r.id name ≡ true → IsRead r) × AllRead rs

  -- rows as they are read, row by row
  joined : (xs ys : List Row) → AllRead xs → AllRead ys → AllRead (xs ++ ys)
  joined [] ys a b = b
  joined (x ∷ xs) ys a b = (a.0, joined xs ys a.1 b)

  -- a change of the first row of an id, or a new row where there is none
  changed : (id : Text) (change : Row → List Row) (missing rows : List Row) → ((r : Row) → bytes_eq r.id id ≡ true →
      (bytes_eq r.id name ≡ true → IsRead r) → AllRead (change r)) →
      AllRead missing → AllRead rows → AllRead (at_row id change missing rows)
  changed id change missing [] c m h = m
  changed id change missing (r ∷ rs) c m h = go (bytes_eq r.id id) refl (changed id change missing rs c m h.1)
    where
      go : (b : Bool) → bytes_eq r.id id ≡ b → AllRead (at_row id change missing rs) → AllRead (if b then change r ++ rs else (r ∷ at_row id change missing rs))
      go true e rest = joined (change r) rs (c r e h.0) h.1
      go false e rest = (h.0, rest)

  gone : (id : Text) (rows : List Row) → AllRead rows → AllRead (without id rows)
  gone id rows h = changed id (λ _. []) [] rows (λ r e f. tt) tt h

  -- values of the option's own
  own_values : (s : ValueSource) (v : Text) (vs : List Text) (rows : List Row) → is_unsigned_in low high v ≡ true →
      AllRead rows → AllRead (with_values name AsWritten s (v ∷ vs) rows)
  own_values s v vs rows t h =
      changed name (more_values s (v ∷ vs)) _ rows
      (λ r e f. ((λ n. let g = f n in (g.0, g.1 ++ v ∷ vs, ap (λ l. l ++ v ∷ vs) g.2, g.3, g.4)), tt)) ((λ n. (v, vs, refl, t, refl)), tt) h

  -- values of another option
  no_other : {A : Type 0} (id x : Text) → bytes_eq id name ≡ false → bytes_eq x id ≡ true → bytes_eq x name ≡ true → A
  no_other id x n e t =
      let same : x ≡ id = (bytes_eq-Decides x id).0 e in
      absurd (true≢false (sym t ∙ ap (λ i. bytes_eq i name) same ∙ n))

  other_values : (id : Text) (how : Reading) (s : ValueSource) (values : List Text) (rows : List Row) →
      bytes_eq id name ≡ false → AllRead rows → AllRead (with_values id how s values rows)
  other_values id how s values rows n h = changed id (more_values s values) _ rows
      (λ r e f. ((λ t. no_other id r.id n e t), tt)) ((λ t. absurd (true≢false (sym t ∙ n))), tt) h

  other_count : (id : Text) (how : Reading) (s : ValueSource) (k : ℕ) (rows : List Row) → bytes_eq id name ≡ false →
      AllRead rows → AllRead (with_count id how s k rows)
  other_count id how s k rows n h = changed id (new_count s k) _ rows (λ r e f. ((λ t. no_other id r.id n e t), tt))
      ((λ t. absurd (true≢false (sym t ∙ n))), tt) h

  used_other : (x : ArgAction) (id : Text) (how : Reading) (values : List Text) (rows : List Row) →
      bytes_eq id name ≡ false → AllRead rows → AllRead (used_as x id how values rows)
  used_other action.Set id how values rows n h = other_values id how CommandLine values _ n (gone id rows h)
  used_other action.SetTrue id how values rows n h = other_values id how CommandLine values _ n (gone id rows h)
  used_other action.SetFalse id how values rows n h = other_values id how CommandLine values _ n (gone id rows h)
  used_other action.Append id how values rows n h = other_values id how CommandLine values rows n h
  used_other action.Count id how [] rows n h = other_count id how CommandLine (min (count_of id rows + 1) 255) _ n (gone id rows h)
  used_other action.Count id how (v ∷ vs) rows n h = other_values id how CommandLine (v ∷ vs) _ n (gone id rows h)
  used_other action.Help id how values rows n h = h
  used_other action.HelpShort id how values rows n h = h
  used_other action.HelpLong id how values rows n h = h
  used_other action.Version id how values rows n h = h

  -- a value that passes the option's parser is a number in range
  in_range : (v : Text) (vs : List Text) → values_fault own (v ∷ vs) ≡ [] → is_unsigned_in low high v ≡ true
  in_range v vs e =
      let none : value_kinds false (Unsigned low high) v ≡ [] = first_none _ _ e in
      go (is_unsigned_in low high v) none
    where
      go : (b : Bool) → (if b then [] else kind.ValueValidation ∷ []) ≡ [] → b ≡ true
      go true e = refl
      go false e = cc

  -- a use of the option without a fault has a value, which passes
  used_own : (again : Bool) (values : List Text) (rows : List Row) → use_fault again own values rows ≡ [] → AllRead rows → AllRead (used own values rows)
  used_own again [] rows e h = cc
  used_own again (v ∷ vs) rows e h =
      own_values CommandLine v vs _ (in_range v vs (then_none (repeat_fault again name rows) _
      (then_none (range_kinds 1 1 (length (v ∷ vs))) _ e))) (gone name rows h)

  -- a rule with the option's name is the option's
  abbrev IsKnown : Rule → Type 0
  IsKnown a = bytes_eq a.id name ≡ true → a ≡ own

  abbrev pub AllKnown : List Rule → Type 0
  AllKnown [] = ⊤
  AllKnown (b ∷ bs) = IsKnown b × AllKnown bs

  abbrev IsKnownIfAny : Option Rule → Type 0
  IsKnownIfAny None = ⊤
  IsKnownIfAny (Some a) = IsKnown a

  -- a rule found among known rules is known
  found_known : (p : Rule → Bool) (bs : List Rule) → AllKnown bs → IsKnownIfAny (find p bs)
  found_known p [] k = tt
  found_known p (b ∷ bs) k = go (p b) (found_known p bs k.1)
    where
      go : (x : Bool) → IsKnownIfAny (find p bs) → IsKnownIfAny (if x then Some b else find p bs)
      go true rest = k.0
      go false rest = rest

  -- a use of any rule without a fault
  used_read : (again : Bool) (a : Rule) (values : List Text) (rows : List Row) → IsKnown a →
      use_fault again a values rows ≡ [] → AllRead rows → AllRead (used a values rows)
  used_read again a values rows k e h = go (bytes_eq a.id name) refl
    where
      go : (b : Bool) → bytes_eq a.id name ≡ b → AllRead (used a values rows)
      go true t =
          let is = k t in
          subst (λ (x : Rule). AllRead (used x values rows)) (sym is) (used_own again values rows
          (subst (λ (x : Rule). use_fault again x values rows ≡ []) is e) h)
      go false n = used_other (action_of a) a.id (reading_by a) (values_or_missing a values) rows n h

  -- ---- the walk over the words of a subcommand

  module _ (s : Shape) (known : AllKnown s.rules) where
    used_if_any : (found : Option Rule) (values : List Text) (rows : List Row) → IsKnownIfAny found →
        option_map_or (λ a. use_fault s.args_override_self a values rows) found [] ≡ [] → AllRead rows → AllRead (used_by_id found values rows)
    used_if_any None values rows k e h = h
    used_if_any (Some a) values rows k e h = used_read s.args_override_self a values rows k e h

    -- the pending option is used
    settled_read : (h : Held) → settle_fault s.rules s.args_override_self h ≡ [] → AllRead h.rows → AllRead (settled s.rules h).rows
    settled_read h e f = go h.pending e
      where
        go : (p : Option (Text × List Text)) →
            option_map_or (λ q. option_map_or (λ a. use_fault s.args_override_self a q.1 h.rows)
            (arg_by_id s.rules q.0) []) p [] ≡ [] →
            AllRead (settled_rows s.rules p h.rows)
        go None e = f
        go (Some q) e = used_if_any (arg_by_id s.rules q.0) q.1 h.rows (found_known (λ a. bytes_eq a.id q.0) s.rules known) e f

    reacted_read : (a : Rule) (values : List Text) (h : Held) → IsKnown a →
        react_fault s.rules s.args_override_self a values h ≡ [] → AllRead h.rows →
        AllRead (reacted s.rules a values h).rows
    reacted_read a values h k e f = used_read s.args_override_self a values (settled s.rules h).rows k (then_none _ _ e) (settled_read h (first_none _ _ e) f)

    -- an option in a word, with its attached value
    option_read : (a : Rule) (v : Option Text) (h : Held) → IsKnown a →
        option_fault s.rules s.args_override_self a v h ≡ [] → AllRead h.rows →
        AllRead (option_met s.rules a v h).0.rows
    option_read a None h k e f = settled_read h e f
    option_read a (Some v) h k e f = reacted_read a (v ∷ []) h k e f

    long_read : (found : Option Rule) (v : Option Text) (h : Held) → IsKnownIfAny found →
        long_fault s.rules s.args_override_self found v h ≡ [] → AllRead h.rows →
        AllRead (long_met s.rules found v h).0.rows
    long_read None v h k e f = f
    long_read (Some a) v h k e f = go (takes_values a) v e
      where
        go : (b : Bool) (v : Option Text) → (if b then option_fault s.rules s.args_override_self a v h else
            (if is_some v then kind.TooManyValues ∷ [] else react_fault s.rules s.args_override_self a [] h)) ≡ [] →
            AllRead (if b then option_met s.rules a v h else flag_met s.rules a v h).0.rows
        go true v e = option_read a v h k e f
        go false None e = reacted_read a [] h k e f
        go false (Some v) e = f

    short_read : (found : Option Rule) (rest : Text) (h : Held) (more : Held → Held × Outcome) (fault : Held → Kinds) →
        ((g : Held) → fault g ≡ [] → AllRead g.rows → AllRead (more g).0.rows) → IsKnownIfAny found →
        short_fault s.rules s.args_override_self found rest h fault ≡ [] → AllRead h.rows →
        AllRead (short_met s.rules found rest h more).0.rows
    short_read None rest h more fault on k e f = f
    short_read (Some a) rest h more fault on k e f = go (takes_values a) e
      where
        go : (b : Bool) → (if b then option_fault s.rules s.args_override_self a (attached_value rest) h
            else or_else (react_fault s.rules s.args_override_self a [] h) (fault (reacted s.rules a [] h))) ≡ [] →
            AllRead (if b then option_met s.rules a (attached_value rest) h else more (reacted s.rules a [] h)).0.rows
        go true e = option_read a (attached_value rest) h k e f
        go false e = on (reacted s.rules a [] h) (then_none _ _ e) (reacted_read a [] h k (first_none _ _ e) f)

    -- short flags in one word
    bundle_read : (n : ℕ) (flags : Text) (skip : ℕ) (so_far : Outcome) (h : Held) →
        flags_fault s.rules s.args_override_self n flags skip h ≡ [] → AllRead h.rows →
        AllRead (bundle_met s.rules n flags skip so_far h).0.rows
    unfolding bundle_met flags_fault
    bundle_read zero flags skip so_far h e f = f
    bundle_read (suc n) flags skip so_far h e f = go (slice_get (chars flags) 0) skip (λ t i o g. bundle_read n t i o g) e
      where
        go : (x : Option ℕ) (skip : ℕ) →
            ((t : Text) (i : ℕ) (o : Outcome) (g : Held) → flags_fault s.rules s.args_override_self n t i g ≡ [] →
            AllRead g.rows → AllRead (bundle_met s.rules n t i o g).0.rows) →
            bundle_step_fault s.rules s.args_override_self x flags skip h
            (flags_fault s.rules s.args_override_self n) ≡ [] →
            AllRead (bundle_step s.rules x flags skip so_far h (bundle_met s.rules n)).0.rows
        go None skip more e = f
        go (Some x) zero more e = short_read (arg_by_short s.rules x) _ h _ _ (more _ 0 done) (found_known _ s.rules known) e f
        go (Some x) (suc skip) more e = more _ skip so_far h e f

    -- a word that isn't a flag
    plain_read : (waiting : Waiting) (word : Text) (h : Held) → AllRead h.rows → AllRead (plain_word s.rules waiting word h).0.rows
    plain_read idle word h f = f
    plain_read positional word h f = f
    plain_read (option id) word h f = go (arg_by_id s.rules id)
      where
        go : (found : Option Rule) → AllRead (option_word found id word h).0.rows
        go None = f
        go (Some a) = f

    after_read : (waiting : Waiting) (word : Text) (h : Held) (o : Outcome) → AllRead h.rows → AllRead (after_flag s.rules waiting word h o).0.rows
    after_read waiting word h done f = f
    after_read waiting word h (waits id) f = f
    after_read waiting word h plain f = plain_read waiting word h f
    after_read waiting word h refused f = plain_read waiting word h f

    flag_read : (waiting : Waiting) (word : Text) (long : Option (Text × Option Text)) (h : Held) →
        flag_word_fault s.rules s.args_override_self long word h ≡ [] → AllRead h.rows →
        AllRead (long_or_other s.rules waiting word long h).0.rows
    flag_read waiting word (Some p) h e f = after_read waiting word _ _ (long_read (arg_by_long s.rules p.0) p.1 h (found_known _ s.rules known) e f)
    flag_read waiting word None h e f = go (short_of word) e
      where
        go : (o : Option Text) → option_map_or (λ flags. bundle_fault s.rules s.args_override_self flags h)
            o [] ≡ [] → AllRead (short_or_plain s.rules waiting word o h).0.rows
        go None e = plain_read waiting word h f
        go (Some flags) e = after_read waiting word _ _ (bundle_read (length flags) flags h.skip plain (record h { skip = 0 }) e f)

    other_read : (o : Option Text) (waiting : Waiting) (position : ℕ) (word : Text) (h : Held) →
        other_fault s o word h ≡ [] → AllRead h.rows →
        AllRead (subcommand_or_other s.rules o waiting position word h).0.rows
    other_read (Some name) waiting position word h e f = f
    other_read None waiting position word h e f = go (bytes_eq word (45 ∷ 45 ∷ [])) e
      where
        go : (b : Bool) → (if b then [] else flag_word_fault s.rules s.args_override_self (long_of word) word h) ≡ [] →
            AllRead (if b then (h, trailing position) else long_or_other s.rules waiting word (long_of word) h).0.rows
        go true e = f
        go false e = flag_read waiting word (long_of word) h e f

    -- any word
    word_read : (names : Names) (is_trailing : Bool) (waiting : Waiting) (position : ℕ) (word : Text) (h : Held) →
        word_fault s names is_trailing waiting word h ≡ [] → AllRead h.rows →
        AllRead (word_met s.rules names is_trailing waiting position word h).0.rows
    word_read names true waiting position word h e f = f
    word_read names false waiting position word h e f = other_read (subcommand_met names waiting word) waiting position word h e f

    positional_read : (a : Rule) (word : Text) (h : Held) → positional_fault s.rules s.args_override_self a h ≡ [] →
        AllRead h.rows → AllRead (positional_held s.rules a word h).rows
    positional_read a word h e f = go (is_pending a h.pending && takes_several a) e
      where
        go : (b : Bool) → (if b then [] else settle_fault s.rules s.args_override_self h) ≡ [] →
            AllRead (pushed a.id word (if b then h else settled s.rules h)).rows
        go true e = f
        go false e = settled_read h e f

    step_read : (word : Text) (w : Walk) (h : Held) (step : Step) → step_fault s w.position h step ≡ [] →
        AllRead h.rows → AllRead (after_step s.rules word w h step).held.rows
    step_read word w h (next waiting) e f = f
    step_read word w h (trailing position) e f = f
    step_read word w h (subcommand name) e f = f
    step_read word w h value e f = go (arg_by_index s.rules w.position) e
      where
        go : (found : Option Rule) → option_map_or (λ a. positional_fault s.rules s.args_override_self a h) found
            (stray_fault s) ≡ [] → AllRead (to_positional s.rules found word w h).held.rows
        go None e = f
        go (Some a) e = positional_read a word h e f

    turn_read : (names : Names) (w : Walk) (word : Text) → turn_fault s names w word ≡ [] → AllRead w.held.rows →
        AllRead (walked s.rules names w word).held.rows
    unfolding walked
    turn_read names w word e f = go w.stopped e
      where
        met : Held × Step
        met = word_met s.rules names w.is_trailing w.waiting w.position word w.held

        go : (o : Option (Text × List Text)) →
            (if is_some o then [] else or_else (word_fault s names w.is_trailing w.waiting word w.held)
            (step_fault s w.position met.0 met.1)) ≡ [] →
            AllRead (walked_from s.rules names o w word).held.rows
        go (Some p) e = f
        go None e = step_read word w met.0 met.1 (then_none _ _ e) (word_read names w.is_trailing w.waiting w.position word w.held (first_none _ _ e) f)

    -- all words
    walk_read : (names : Names) (w : Walk) (words : List Text) → walk_fault s names w words ≡ [] →
        AllRead w.held.rows → AllRead (fold (walked s.rules names) w words).held.rows
    unfolding walk_fault
    walk_read names w [] e f = f
    walk_read names w (word ∷ rest) e f = walk_read names (walked s.rules names w word) rest (then_none _ _ e) (turn_read names w word (first_none _ _ e) f)

  -- ---- defaults

  default_read : (rows : List Row) (a : Rule) → IsKnown a → default_fault rows a ≡ [] → AllRead rows → AllRead (with_default rows a)
  default_read rows a k e h = go (has_row a.id rows) e
    where
      given : (b : Bool) → bytes_eq a.id name ≡ b →
          (if is_empty a.defaults then [] else given_default_fault a a.defaults) ≡ [] →
          AllRead (default_rows a.id (reading_by a) a.defaults rows)
      given true t e =
          let is = k t in
          subst (λ (x : Rule). AllRead (default_rows x.id (reading_by x) x.defaults rows)) (sym is)
          (own_values DefaultValue usual [] rows
          (in_range usual [] (subst (λ (x : Rule). (if is_empty x.defaults then [] else
          given_default_fault x x.defaults) ≡ []) is e)) h)
      given false n e = others a.defaults
        where
          others : (values : List Text) → AllRead (default_rows a.id (reading_by a) values rows)
          others [] = h
          others (v ∷ vs) = other_values a.id (reading_by a) DefaultValue (v ∷ vs) rows n h

      go : (b : Bool) → (if b || is_empty a.defaults then [] else given_default_fault a a.defaults) ≡ [] →
          AllRead (if b then rows else default_rows a.id (reading_by a) a.defaults rows)
      go true e = h
      go false e = given (bytes_eq a.id name) refl e

  defaults_read : (bs : List Rule) (rows : List Row) → AllKnown bs → defaults_fault rows bs ≡ [] → AllRead rows → AllRead (fold with_default rows bs)
  unfolding defaults_fault
  defaults_read [] rows k e h = h
  defaults_read (b ∷ bs) rows k e h = defaults_read bs (with_default rows b) k.1 (then_none _ _ e) (default_read rows b k.0 (first_none _ _ e) h)

  -- ---- the option has a row

  -- the row stays, whatever row is changed or added
  row_stays : (id : Text) (s : ValueSource) (values : List Text) (missing rows : List Row) →
      has_row name rows ≡ true → has_row name (at_row id (more_values s values) missing rows) ≡ true
  row_stays id s values missing [] e = absurd (true≢false (sym e))
  row_stays id s values missing (r ∷ rs) e = go (bytes_eq r.id id) (row_stays id s values missing rs)
    where
      go : (b : Bool) → (has_row name rs ≡ true → has_row name (at_row id (more_values s values) missing rs) ≡ true) →
          has_row name (if b then more_values s values r ++ rs else (r ∷ at_row id (more_values s values) missing rs)) ≡ true
      go true rest = e
      go false rest = or_more (bytes_eq r.id name) _ _ rest e

  row_made : (how : Reading) (s : ValueSource) (values : List Text) (rows : List Row) → has_row name (with_values name how s values rows) ≡ true
  row_made how s values [] = or_left _ _ ((bytes_eq-Decides name name).1 refl)
  row_made how s values (r ∷ rs) = go (bytes_eq r.id name) refl (row_made how s values rs)
    where
      go : (b : Bool) → bytes_eq r.id name ≡ b → has_row name (with_values name how s values rs) ≡ true →
          has_row name (if b then more_values s values r ++ rs else (r ∷ with_values name how s values rs)) ≡ true
      go true t rest = or_left _ _ t
      go false t rest = or_right _ _ rest

  default_stays : (rows : List Row) (a : Rule) → has_row name rows ≡ true → has_row name (with_default rows a) ≡ true
  default_stays rows a e = go (has_row a.id rows)
    where
      given : (values : List Text) → has_row name (default_rows a.id (reading_by a) values rows) ≡ true
      given [] = e
      given (v ∷ vs) = row_stays a.id DefaultValue (v ∷ vs) _ rows e

      go : (b : Bool) → has_row name (if b then rows else default_rows a.id (reading_by a) a.defaults rows) ≡ true
      go true = e
      go false = given a.defaults

  default_made : (rows : List Row) → has_row name (with_default rows own) ≡ true
  default_made rows = go (has_row name rows) refl
    where
      go : (b : Bool) → has_row name rows ≡ b → has_row name (if b then rows else with_values name AsWritten DefaultValue (usual ∷ []) rows) ≡ true
      go true e = e
      go false e = row_made AsWritten DefaultValue (usual ∷ []) rows

  abbrev pub is_among : List Rule → Bool
  is_among = list_any (λ b. bytes_eq b.id name)

  -- the defaults leave a row, if the option is among the rules
  row_there : (bs : List Rule) (rows : List Row) → AllKnown bs → (has_row name rows || is_among bs) ≡ true → has_row name (fold with_default rows bs) ≡ true
  row_there [] rows k e = or_false _ e
  row_there (b ∷ bs) rows k e = row_there bs (with_default rows b) k.1 (go (has_row name rows) (bytes_eq b.id name) refl refl e)
    where
      go : (x y : Bool) → has_row name rows ≡ x → bytes_eq b.id name ≡ y → (x || (y || is_among bs)) ≡ true →
          (has_row name (with_default rows b) || is_among bs) ≡ true
      go true y is t e = or_left _ _ (default_stays rows b is)
      go false true is t e = or_left _ _ (subst (λ (x : Rule). has_row name (with_default rows x) ≡ true) (sym (k.0 t)) (default_made rows))
      go false false is t e = or_right _ _ e

  -- the text of the option's first row is a number in range
  number_read : (rows : List Row) → has_row name rows ≡ true → AllRead rows → IsNumberIn (one_of name rows) low high
  number_read [] e h = absurd (true≢false (sym e))
  number_read (r ∷ rs) e h = go (bytes_eq r.id name) refl e (λ x. number_read rs x h.1)
    where
      go : (b : Bool) → bytes_eq r.id name ≡ b → (b || has_row name rs) ≡ true → (has_row name rs ≡ true → IsNumberIn (one_of name rs) low high) →
          IsNumberIn (option_and_then row_text (if b then Some r else find (λ x. bytes_eq x.id name) rs)) low high
      go true t e rest =
          let g = h.0 t in
          let told : row_text r ≡ Some g.0 = rw (g.2, g.4) refl in
          (_, record { digits = g.0; told = told; in_range = accepts-Accepts false (Unsigned low high) g.0 g.3; value = refl })
      go false t e rest = rest e

  -- words after a subcommand that has the option
  pub number_there : (s : Shape) (words : List Text) → AllKnown s.rules → is_among s.rules ≡ true →
      level_fault s [] nothing_held words false [] ≡ [] → IsNumberIn (one_of name (rows_after s.rules [] words))
      low high
  number_there s words known among e =
      let end = (walk s.rules [] nothing_held words).held in
      let begun = walk_read s known [] (walk_from nothing_held) words (first_none _ _ e) tt in
      let rest = then_none (walk_fault s [] (walk_from nothing_held) words) _ e in
      let met = settled_read s known end (first_none _ _ rest) begun in
      let all = defaults_read s.rules (settled s.rules end).rows known
      (first_none _ _ (then_none (settle_fault s.rules s.args_override_self end) _ rest)) met in
      number_read _ (row_there s.rules (settled s.rules end).rows known (or_right _ _ among)) all
