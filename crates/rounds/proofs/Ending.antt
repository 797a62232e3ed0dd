-- An outcome is determined by how a run ends.
use Rattle.std.proofs.Common.{◌≡◌, ℕ, ℤ, suc, List, Option, Some, length, get_or, refl, ap, sym, ◌∙◌, subst, arith}
use Rattle.std.proofs.lemmas.Grind.{same_number_lists}
use Rattle.assign_core.specs.Numbered.{IsNumber, numbered}
use Rattle.assign_core.specs.Matching.{owner_of}
use Rattle.assign_core.specs.declared.certificate.Certificate.{Certificate}
use Rattle.assign_core.specs.declared.outcome.Outcome.{Outcome}
use Rattle.assign_core.specs.declared.outcome.Outcome.TheVariants.{Best, Hall}
use Rattle.scaled_values.specs.Scaled.{ScaledProblem}
use Rattle.hall_refuter.proofs.Determined.{refuted_once}
use Rattle.auction_book.specs.Answers.{IsAnswer}
use Rattle.auction_book.specs.Book.{BookData, persons_of}
use Rattle.auction_book.specs.Free.{IsFree}
use Rattle.rounds.specs.Outcomes.{IsOfRounds, IsOutcome, IsOwned}
use Rattle.rounds.specs.Plain.{End, Finished, Halted, opening}
use Rattle.rounds.proofs.Runs.{once}

-- the book's answer gives each person what it owns
pub answer_owned : (b : BookData) (c : Certificate) → IsFree b → IsAnswer b c → IsOwned b.owners (persons_of b) c.assignment
answer_owned b c free is = record {
  long = is.long;
  owned = λ i j number. (
    (λ e. subst (λ k. owner_of b.owners k ≡ Some i) e (is.owned i number)),
    (λ own. free.owners_match.apart i (numbered c.assignment i 0) j (is.owned i number) own),
  );
}

owned_once : (owners : List (Option ℕ)) (n : ℕ) (xs ys : List ℕ) → IsOwned owners n xs → IsOwned owners n ys → xs ≡ ys
owned_once owners n xs ys f g =
    let long = f.long in
    same_number_lists xs ys (f.long ∙ sym g.long) (λ k lt.
    let number : IsNumber n (suc k) = record { first = omega arith; last = omega arith } in
    let own = (f.owned (suc k) (get_or xs k 0) number).0 refl in
    sym ((g.owned (suc k) (get_or xs k 0) number).1 own))

same_certificate : (c d : Certificate) → c.assignment ≡ d.assignment → c.prices ≡ d.prices → c ≡ d
same_certificate c d e f = ap (λ (xs : List ℕ). record c { assignment = xs }) e ∙ ap (λ (p : List ℤ). record d { prices = p }) f

same_outcome : (s : ScaledProblem) (end : End) (first second : Outcome) → IsOutcome s end first → IsOutcome s end second → first ≡ second
same_outcome s (Finished b) (Best c) (Best d) f g =
    ap Best (same_certificate c d (owned_once b.owners (length s.problem) c.assignment d.assignment f.0 g.0) (f.1 ∙
    sym g.1))
same_outcome s (Finished b) (Best c) (Hall h) f g = absurd g
same_outcome s (Finished b) (Hall h) second f g = absurd f
same_outcome s (Halted person b) (Hall h) (Hall l) f g = ap Hall (refuted_once s.problem b.owners person h l f g)
same_outcome s (Halted person b) (Hall h) (Best d) f g = absurd g
same_outcome s (Halted person b) (Best c) second f g = absurd f

-- plain rounds from the same prices have one outcome
pub one_outcome : (s : ScaledProblem) (prices : List ℤ) (first second : Outcome) → IsOfRounds s prices first → IsOfRounds s prices second → first ≡ second
one_outcome s prices first second f g =
    let same = once s (opening s prices) f.0 g.0 f.1 g.1 f.2 g.2 in
    same_outcome s g.1 first second (subst (λ end. IsOutcome s end first) same f.3) g.3
