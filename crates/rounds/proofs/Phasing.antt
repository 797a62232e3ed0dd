-- Phases follow each other, and a round is one of the plain definition.
use Rattle.std.proofs.Common.{◌≡◌, ℕ, pos, ◌+◌, ◌<◌, ◌&&◌, List, [], ◌∷◌, None, Some, option_map, Bool, true, false}
use Rattle.std.proofs.Common.{not, cond, length, refl, ap, sym, ◌∙◌, subst, arith}
use Rattle.std.specs.Ordering.{int_eq}
use Rattle.std.specs.Cmp.Derive.{both_true}
use Rattle.std.proofs.lemmas.Bool.{and_parts, not-false}
use Rattle.scaled_values.specs.Scaled.{ScaledProblem, fifth, next_eps}
use Rattle.scaled_values.proofs.EpsList.{next_is}
use Rattle.auction_book.specs.Book.{BookData, persons_of, prices_of}
use Rattle.auction_book.specs.Changes.{phased}
use Rattle.auction_book.specs.Free.{IsFree}
use Rattle.auction_book.specs.Phases.{is_assigned, is_done, is_over, persons}
use Rattle.auction_book.specs.Session.{next_if_over}
use Rattle.auction_book.proofs.Opening.{length-persons}
use Rattle.auction_book.proofs.Answering.{over_is}
use Rattle.rounds.specs.Rounds.{IsAtRest, plain_of}
use Rattle.rounds.specs.Plain.{Plain, begun, ready, ready_by}
use Rattle.rounds.proofs.Waiting.{assigned_empty, empty_assigned}

and_true : (x y : Bool) → x ≡ true → x && y ≡ false → y ≡ false
and_true true y h k = k
and_true false y h k = absurd cc

-- where nobody waits or is claimed and no phase follows, it is the last phase
last_phase : (b : BookData) → IsAtRest b → b.queue ≡ [] → is_over b ≡ false → int_eq b.ask.eps (pos 1) ≡ true
last_phase b rest none last = not-false (int_eq b.ask.eps (pos 1)) (and_true (is_assigned b) (not (int_eq b.ask.eps (pos 1))) (empty_assigned b rest none) last)

-- so everything is done
pub all_done : (b : BookData) → IsAtRest b → b.queue ≡ [] → is_over b ≡ false → is_done b ≡ true
all_done b rest none last = both_true (empty_assigned b rest none) (last_phase b rest none last)

ready_as : (s : ScaledProblem) (b : Plain) (queue : List ℕ) → b.queue ≡ queue → ready s b ≡ ready_by s b queue
ready_as s b queue e = ap (ready_by s b) e

-- and no round follows
pub none_ready : (b : BookData) → IsAtRest b → b.queue ≡ [] → is_over b ≡ false → ready b.base (plain_of b) ≡ None
none_ready b rest none last =
    let one = last_phase b rest none last in
    let no : next_eps b.ask.eps ≡ None = ap (λ t. cond t None (Some (fifth b.ask.eps))) one in
    ready_as b.base (plain_of b) [] none ∙ ap (option_map (begun b.base (prices_of b) (b.ask.phase + 1))) no

-- somebody waits: a round follows
pub some_ready : (s : ScaledProblem) (b : Plain) → 0 < length b.queue → ready s b ≡ Some b
some_ready s b some = by_queue s b b.queue refl some where
  by_queue : (s : ScaledProblem) (b : Plain) (queue : List ℕ) → b.queue ≡ queue → 0 < length queue → ready s b ≡ Some b
  by_queue s b [] e lt = absurd (omega arith)
  by_queue s b (i ∷ queue) e lt = ready_as s b (i ∷ queue) e

-- the phase is over: the next one follows
pub phase_ready : (b : BookData) → IsFree b → is_over b ≡ true → ready b.base (plain_of b) ≡ Some (plain_of (phased b))
phase_ready b free over =
    let is = over_is b over in
    let none = assigned_empty b free (and_parts (is_assigned b) (not (int_eq b.ask.eps (pos 1))) over).0 in
    ready_as b.base (plain_of b) [] none ∙ ap (option_map (begun b.base (prices_of b) (b.ask.phase + 1))) (next_is b.ask.eps is.more)

-- a phase begins with nobody claimed where nobody was
rest_next : (b : BookData) (t : Bool) → IsAtRest b → IsFree (cond t (phased b) b) → IsAtRest (cond t (phased b) b)
rest_next b true rest free = record {
  going = record { free = free; unrefuted = rest.going.unrefuted; unstopped = rest.going.unstopped; workers = rest.going.workers };
  unclaimed = rest.unclaimed;
}
rest_next b false rest free = rest

pub next_rests : (b mid : BookData) → IsAtRest b → mid ≡ next_if_over b → IsFree mid → IsAtRest mid
next_rests b mid rest e free = subst IsAtRest (sym e) (rest_next b (is_over b) rest (subst IsFree e free))

-- what follows a book at rest, once its next phase has begun where it does
pub went_on : (b : BookData) (t : Bool) → IsAtRest b → is_over b ≡ t → 0 < length (cond t (phased b) b).queue →
    ready b.base (plain_of b) ≡ Some (plain_of (cond t (phased b) b))
went_on b true rest over some = phase_ready b rest.going.free over
went_on b false rest over some = some_ready b.base (plain_of b) some

-- a phase that begins has waiting persons, so where nobody waits none has begun
pub not_begun : (b : BookData) (t : Bool) → IsAtRest b → (cond t (phased b) b).queue ≡ [] → t ≡ false
not_begun b true rest none =
    let long = length-persons (persons_of b) in
    let some = rest.going.free.problem.size.some in
    let zero_long : length (persons (persons_of b)) ≡ 0 = ap length none in
    absurd (omega arith)
not_begun b false rest none = refl
