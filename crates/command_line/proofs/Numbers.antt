-- Words of `solve` without a fault have both numbers in range.
use Rattle.std.proofs.Common.{◌≡◌, ap, sym, refl, subst, codes, Bool, true, false, true≢false, List, [], ◌∷◌, Option, None, Some}
use Rattle.std.specs.Prelude.{find, if◌then◌else◌, option_map}
use Rattle.std.specs.Option.{option_map_or}
use Rattle.std.proofs.lemmas.Option.{same_Some}
use Rattle.command_line.specs.Words.{Places, program, solve_app, verify_app}
use Rattle.command_line.specs.inside.Words.{HasNumbers, HasNumbersIfSolving}
use Rattle.command_line.specs.declared.words.TheConstants.{MOST_WORKERS, MOST_REFRESH}
use Rattle.command_line.proofs.GivenLines.{other_command}
use Rattle.command_line.proofs.Rows.{AllKnown, number_there}
use Rattle.command_line.proofs.Subcommands.{first_none, then_none}
use Rattle.clap.specs.Faults.{entered_fault, fault_of, level_fault, walk_fault}
use Rattle.clap.specs.Simple.{Shape, argument_words, built, built_leaf, entered, help_shape, inherited, label_of}
use Rattle.clap.specs.Simple.{marked_built, names_of, rows_at, subcommand_of, with_leaf_noted}
use Rattle.clap.specs.Walk.{Row, Text, answers_to, nothing_held, rows_after, stop_after, walk_from}

-- a subcommand as it is built
abbrev built_sub : Places → Shape → Shape
built_sub at s = built_leaf (inherited (with_leaf_noted (marked_built (program at).top)) s)

abbrev solve_shape : Places → Shape
solve_shape at = built_sub at (solve_app at).top

never : {A : Type 0} → false ≡ true → A
never e = absurd (true≢false (sym e))

knows_workers : (at : Places) → AllKnown (codes "workers") (codes "4") 1 MOST_WORKERS (solve_shape at).rules
knows_workers at = (never, (never, (never, (never, (never, (never, (never, ((λ e. refl), (never, (never, (never, tt)))))))))))

knows_refresh : (at : Places) → AllKnown (codes "refresh") (codes "1") 0 MOST_REFRESH (solve_shape at).rules
knows_refresh at = (never, (never, (never, (never, (never, (never, (never, (never, ((λ e. refl), (never, (never, tt)))))))))))

help_is_other : codes "help" ≡ codes "solve" → ⊥
help_is_other e = cc

solve_numbers : (at : Places) (words : List Text) → level_fault (solve_shape at) [] nothing_held words false [] ≡ []
    → HasNumbers (rows_after (solve_shape at).rules [] words)
solve_numbers at words e = record {
  workers = number_there (codes "workers") (codes "4") 1 MOST_WORKERS (solve_shape at) words (knows_workers at) refl e;
  refresh = number_there (codes "refresh") (codes "1") 0 MOST_REFRESH (solve_shape at) words (knows_refresh at) refl e;
}

find_numbers : (p : Text × List Text) (solve verify help : Shape) →
    ((words : List Text) → level_fault solve [] nothing_held words false [] ≡ [] →
    HasNumbers (rows_after solve.rules [] words)) →
    (verify.name ≡ codes "solve" → ⊥) → (help.name ≡ codes "solve" → ⊥) →
    option_map_or (λ s. level_fault s [] nothing_held p.1 false []) (find (λ s. answers_to p.0 (label_of s)) (solve ∷ verify ∷ help ∷ [])) [] ≡ [] →
    HasNumbersIfSolving (option_map (λ s. rows_at s p.1) (find (λ s. answers_to p.0 (label_of s)) (solve ∷ verify ∷ help ∷ [])))
find_numbers p solve verify help numbers v h e = go (answers_to p.0 (label_of solve)) (answers_to p.0 (label_of verify)) (answers_to p.0 (label_of help)) e
  where
    go : (a b c : Bool) → option_map_or (λ s. level_fault s [] nothing_held p.1 false []) (if a then Some solve else
        (if b then Some verify else (if c then Some help else None))) [] ≡ [] →
        HasNumbersIfSolving (option_map (λ s. rows_at s p.1) (if a then Some solve else (if b then Some verify else (if c then Some help else None))))
    go true b c e = λ rows is. subst HasNumbers (ap (λ (q : Text × List Row). q.1) (same_Some _ _ is)) (numbers p.1 e)
    go false true c e = λ rows is. absurd (v (ap (λ (q : Text × List Row). q.0) (same_Some _ _ is)))
    go false false true e = λ rows is. absurd (h (ap (λ (q : Text × List Row). q.0) (same_Some _ _ is)))
    go false false false e = λ rows is. cc

-- the words of a command line without a fault
pub has_numbers : (at : Places) (words : List Text) → fault_of (program at) words ≡ [] → HasNumbersIfSolving (subcommand_of (program at) words)
has_numbers at words e =
    go (stop_after (built (program at)).top.rules (names_of (built (program at))) (argument_words (program at) words))
    (first_none _ _ (then_none (walk_fault (built (program at)).top (names_of (built (program at)))
    (walk_from nothing_held) (argument_words (program at) words)) _ e))
  where
    go : (stop : Option (Text × List Text)) → entered_fault (built (program at)) stop ≡ [] → HasNumbersIfSolving (entered (built (program at)) stop)
    go None e = λ rows is. cc
    go (Some p) e = find_numbers p (solve_shape at) (built_sub at verify_app.top) (built_leaf help_shape) (solve_numbers at) other_command help_is_other e
