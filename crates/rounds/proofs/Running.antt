-- A run of rounds over a book, up to its end.
use Rattle.std.proofs.Common.{◌≡◌, ℕ, ℤ, pos, suc, ◌<◌, ◌&&◌, List, [], None, Some, Bool, true, false, not, cond}
use Rattle.std.proofs.Common.{nat_eq, length, refl, ap, sym, ◌∙◌, subst, arith, is_some}
use Rattle.std.specs.List.{count_by}
use Rattle.std.specs.Ordering.{int_eq}
use Rattle.std.proofs.lemmas.List.{length-replicate}
use Rattle.assign_core.specs.declared.outcome.Outcome.{Outcome}
use Rattle.assign_core.proofs.NumberedLemmas.{numbered-replicate}
use Rattle.scaled_values.specs.Scaled.{ScaledProblem}
use Rattle.auction_book.specs.Book.{BookData, prices_of}
use Rattle.auction_book.specs.Free.{IsFree}
use Rattle.auction_book.specs.Changes.{phased}
use Rattle.auction_book.specs.Phases.{is_over, opened}
use Rattle.auction_book.specs.Session.{next_if_over}
use Rattle.rounds.specs.declared.rounds.Round.TheVariants as came
use Rattle.rounds.specs.Rounds.{IsAtRest, IsRound, plain_of, room}
use Rattle.rounds.specs.Outcomes.{IsOfRounds, IsOutcome, IsProof}
use Rattle.rounds.specs.Plain.{Plain, Goes, Ends, Finished, Halted, next_round, opening, ready, round, round_or_end, run}
use Rattle.rounds.proofs.Runs.{run-goes, run-zero}
use Rattle.rounds.proofs.Phasing.{none_ready, not_begun, went_on}

-- the book stands where some number of plain rounds stand
pub record IsRunning (s : ScaledProblem) (prices : List ℤ) (b : BookData) : Type 0 where
  pub rest : IsAtRest b
  pub base : b.base ≡ s
  pub ran : (m : ℕ) × (run s m (opening s prices) ≡ Goes (plain_of b))

pub running_first : (s : ScaledProblem) (prices : List ℤ) (workers : ℕ) (b : BookData) →
    b ≡ opened s prices workers → IsFree b → workers ≡ length s.problem → IsRunning s prices b
running_first s prices workers b e free n = subst (IsRunning s prices) (sym e) (record {
  rest = record {
    going = record { free = subst IsFree e free; unrefuted = refl; unstopped = refl; workers = length-replicate workers None ∙ n };
    unclaimed = record {
      held = λ k d from lt. absurd (omega arith);
      past = λ w le. numbered-replicate workers w None;
      others = λ w lt. numbered-replicate workers w None;
    };
  };
  base = refl;
  ran = (0, run-zero s (opening s prices));
})

-- the same round of the definition
next_is : (s : ScaledProblem) (b mid : BookData) → IsAtRest b → b.base ≡ s → mid ≡ next_if_over b →
    0 < length mid.queue → next_round s (plain_of b) ≡ round s (plain_of mid)
next_is s b mid rest base e some =
    let t = is_over b in
    let went = went_on b t rest refl (subst (λ (x : BookData). 0 < length x.queue) e some) in
    let at : ready s (plain_of b) ≡ Some (plain_of mid) = ap (λ x. ready x (plain_of b)) (sym base) ∙ went ∙ ap (λ x. Some (plain_of x)) (sym e) in
    ap (round_or_end s (plain_of b)) at

based : (t : Bool) (b : BookData) → (cond t (phased b) b).base ≡ b.base
based true b = refl
based false b = refl

priced : (t : Bool) (b : BookData) → prices_of (cond t (phased b) b) ≡ prices_of b
priced true b = refl
priced false b = refl

pub mid_base : (s : ScaledProblem) (b mid : BookData) → b.base ≡ s → mid ≡ next_if_over b → mid.base ≡ s
mid_base s b mid base e = ap (λ (x : BookData). x.base) e ∙ based (is_over b) b ∙ base

pub mid_prices : (b mid : BookData) → mid ≡ next_if_over b → prices_of mid ≡ prices_of b
mid_prices b mid e = ap prices_of e ∙ priced (is_over b) b

-- one round more
pub running_more : (s : ScaledProblem) (prices : List ℤ) (b mid new : BookData) → IsRunning s prices b →
    mid ≡ next_if_over b → IsRound mid came.More new → new.base ≡ mid.base → IsRunning s prices new
running_more s prices b mid new is e round_is same =
    let base = mid_base s b mid is.base e in
    let made : round s (plain_of mid) ≡ Goes (plain_of new) = subst (λ x. round x (plain_of mid) ≡ Goes (plain_of new)) base round_is.1 in
    record {
      rest = round_is.2;
      base = same ∙ base;
      ran = (suc is.ran.0, run-goes s is.ran.0 (opening s prices) (plain_of b) is.ran.1 ∙ next_is s b mid is.rest is.base e round_is.0 ∙ made);
    }

pub running_smaller : (b mid new : BookData) → mid ≡ next_if_over b → IsRound mid came.More new → room (prices_of new) < room (prices_of b)
running_smaller b mid new e round_is = subst (λ p. room (prices_of new) < room p) (mid_prices b mid e) round_is.3

-- the run ends at a person
pub running_halted : (s : ScaledProblem) (prices : List ℤ) (b mid new : BookData) (person : ℕ) (outcome : Outcome) →
    IsRunning s prices b → mid ≡ next_if_over b → IsRound mid (came.Halted person) new → new.base ≡ mid.base →
    IsOutcome new.base (Halted person (plain_of new)) outcome → IsOfRounds s prices outcome
running_halted s prices b mid new person outcome is e round_is same told =
    let base = mid_base s b mid is.base e in
    let made : round s (plain_of mid) ≡ Ends (Halted person (plain_of new)) =
    subst (λ x. round x (plain_of mid) ≡ Ends (Halted person (plain_of new))) base round_is.1 in (
      suc is.ran.0,
      Halted person (plain_of new),
      run-goes s is.ran.0 (opening s prices) (plain_of b) is.ran.1 ∙
          next_is s b mid is.rest is.base e round_is.0 ∙ made,
      subst (λ x. IsOutcome x (Halted person (plain_of new)) outcome) (same ∙ base) told,
    )

abbrev over_of : Plain → ScaledProblem → Bool
over_of p s = nat_eq (count_by is_some p.owners) (length s.problem) && not (int_eq p.ask.eps (pos 1))

over_is_of : (b : BookData) → is_over b ≡ over_of (plain_of b) b.base
over_is_of b = refl

-- nobody waits: no phase follows
over_last : (b mid : BookData) → IsAtRest b → mid ≡ next_if_over b → mid.queue ≡ [] → is_over b ≡ false
over_last b mid rest e none = not_begun b (is_over b) rest (ap (λ (x : BookData). x.queue) (sym e) ∙ none)

same_book : (b mid : BookData) → mid ≡ next_if_over b → is_over b ≡ false → mid ≡ b
same_book b mid e last = e ∙ ap (λ t. cond t (phased b) b) last

pub running_last : (s : ScaledProblem) (prices : List ℤ) (b mid new : BookData) → IsRunning s prices b →
    mid ≡ next_if_over b → IsRound mid came.Over new → new.base ≡ mid.base → is_over new ≡ false
running_last s prices b mid new is e round_is same =
    let last = over_last b mid is.rest e round_is.0 in
    let to = same_book b mid e last in
    over_is_of new ∙ ap (λ p. over_of p new.base) round_is.1 ∙ ap (over_of (plain_of mid)) same ∙ sym (over_is_of mid) ∙ ap is_over to ∙ last

-- the run ends where nobody waits in the last phase
pub running_over : (s : ScaledProblem) (prices : List ℤ) (b mid new : BookData) (outcome : Outcome) →
    IsRunning s prices b → mid ≡ next_if_over b → IsRound mid came.Over new → new.base ≡ mid.base →
    IsOutcome new.base (Finished (plain_of new)) outcome → IsOfRounds s prices outcome
running_over s prices b mid new outcome is e round_is same told =
    let base = mid_base s b mid is.base e in
    let last = over_last b mid is.rest e round_is.0 in
    let to = same_book b mid e last in
    let plain = round_is.1 ∙ ap plain_of to in
    let none : ready s (plain_of b) ≡ None = subst (λ x. ready x (plain_of b) ≡ None) is.base
    (none_ready b is.rest (ap (λ (x : BookData). x.queue) (sym to) ∙ round_is.0) last) in (
      suc is.ran.0,
      Finished (plain_of b),
      run-goes s is.ran.0 (opening s prices) (plain_of b) is.ran.1 ∙
          ap (round_or_end s (plain_of b)) none,
      subst (λ p. IsOutcome s (Finished p) outcome) plain
          (subst (λ x. IsOutcome x (Finished (plain_of new)) outcome) (same ∙ base) told),
    )

pub proof_of : (s : ScaledProblem) (prices : List ℤ) (b mid new : BookData) (outcome : Outcome) →
    IsRunning s prices b → mid ≡ next_if_over b → new.base ≡ mid.base → IsProof new.base outcome → IsProof s outcome
proof_of s prices b mid new outcome is e same h = subst (λ x. IsProof x outcome) (same ∙ mid_base s b mid is.base e) h
