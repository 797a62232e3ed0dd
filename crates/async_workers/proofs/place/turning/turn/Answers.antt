use Rattle.std.proofs.Common.{subst, Result}
use Rattle.std.proofs.lemmas.Result.{err_from_is_err_and}
use Rattle.std.specs.declared.alloc.AllocError.{AllocError}
use Rattle.auction_book.specs.declared.answers.Claim.{Claim}
use Rattle.async_workers.specs.inside.Hand.{Ends}
use Rattle.async_workers.specs.Session.{EndsUndone, EndsWell}
use Rattle.async_workers.specs.Turns.{Serves}
use Rattle.async_workers.proofs.Hands.{serves_on}
use Rattle.async_workers.proofs.Turning.{can_turn_again, can_turn_without, faulted, stops_run, turned, works_with_offer}
use Rattle.async_workers.proofs.place.turning.turn.Given as given
use Rattle.async_workers.proofs.place.turning.turn.Goals as goal
use Rattle.async_workers.proofs.place.turning.turn.Goals.{In_err-outcome, In_ok-outcome}

-- the session if no growth was refused
well : (g : given.Over) (c : In_ok-outcome g) → (let d = c.args.desk.now in Serves d c.one_session-outcome.new.desk
    (EndsWell c.args.refresh d.since d.known d.offer c.one_session-outcome.result.0.note c.in_ok-outcome.field-0))
well g c =
    let d = c.args.desk.now in
    subst (λ (o : Result Claim AllocError). Serves d c.one_session-outcome.new.desk
    (Ends c.args.refresh d.since d.known d.offer c.one_session-outcome.result.0.note o))
    c.in_ok-outcome.was c.one_session-outcome.ensures.serves

-- the session if a growth was refused
undone : (g : given.Over) (c : In_err-outcome g) →
    (let d = c.args.desk.now in Serves d c.one_session-outcome.new.desk
    (EndsUndone c.args.refresh d.since d.known d.offer c.one_session-outcome.result.0.note))
undone g c =
    let d = c.args.desk.now in
    subst (λ (o : Result Claim AllocError). Serves d c.one_session-outcome.new.desk
    (Ends c.args.refresh d.since d.known d.offer c.one_session-outcome.result.0.note o))
    c.in_err-outcome.was c.one_session-outcome.ensures.serves

pub returns-clause-can_turn : goal.returns-clause-can_turn
returns-clause-can_turn g c =
    can_turn_again c.args.place.now c.args.refresh c.args.desk.now c.one_session-outcome.new.desk
    c.prepare_offer.new.desk _ _ c.requires (well g (goal.at.returns-clause-can_turn g c).In_ok-outcome)
    c.prepare_offer.ensures.desk

pub returns-clause-turned : goal.returns-clause-turned
returns-clause-turned g c =
    turned c.args.refresh c.args.place.now c.args.desk.now c.one_session-outcome.new.desk c.prepare_offer.new.desk _
    _ c.prepare_offer.result c.requires (well g (goal.at.returns-clause-turned g c).In_ok-outcome)
    c.prepare_offer.ensures.desk c.prepare_offer.ensures.turn

pub returns-clause-works : goal.returns-clause-works
returns-clause-works g c =
    let s = well g (goal.at.returns-clause-works g c).In_ok-outcome in
    works_with_offer c.args.desk.now c.one_session-outcome.new.desk c.prepare_offer.new.desk _
    (serves_on _ c.args.desk.now c.one_session-outcome.new.desk s) c.prepare_offer.ensures.desk

pub returns-clause-stops : goal.returns-clause-stops
returns-clause-stops g c asked =
    stops_run c.args.refresh c.args.place.now c.args.desk.now c.one_session-outcome.new.desk _ _
    c.prepare_offer.result c.requires (well g (goal.at.returns-clause-stops g c).In_ok-outcome)
    c.prepare_offer.ensures.turn asked

pub returns-in_err-outcome-clause-can_turn : goal.returns-in_err-outcome-clause-can_turn
returns-in_err-outcome-clause-can_turn g c =
    let s = undone g (goal.at.returns-in_err-outcome-clause-can_turn g c).In_err-outcome in
    can_turn_without c.args.place.now _ c.args.desk.now c.one_session-outcome.new.desk s
    (faulted c.args.refresh c.args.desk.now c.one_session-outcome.new.desk c.one_session-outcome.result.0.note
    s).no_claim c.requires.ready.0

pub returns-in_err-outcome-clause-fault : goal.returns-in_err-outcome-clause-fault
returns-in_err-outcome-clause-fault g c =
    let s = undone g (goal.at.returns-in_err-outcome-clause-fault g c).In_err-outcome in
    let memory = err_from_is_err_and c.from_residual.result c.from_residual.ensures.1 in
    rw memory.1 (memory.2, faulted c.args.refresh c.args.desk.now c.one_session-outcome.new.desk c.one_session-outcome.result.0.note s)

pub returns-in_err-outcome-clause-works : goal.returns-in_err-outcome-clause-works
returns-in_err-outcome-clause-works g c = serves_on _ c.args.desk.now c.one_session-outcome.new.desk
    (undone g (goal.at.returns-in_err-outcome-clause-works g c).In_err-outcome)
