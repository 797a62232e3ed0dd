use Rattle.std.proofs.Common.{◌≤◌, ◌<◌, length, refl, sym, ap, subst, ◌∙◌, arith, []}
use Rattle.assign_core.specs.Numbered.{renumbered}
use Rattle.assign_core.proofs.NumberedLemmas.{numbered_read, renumber-set}
use Rattle.auction_book.specs.declared.schedule.WorkerState.{WorkerState}
use Rattle.auction_book.specs.Schedule.{CoreData, IsWorkerState, state_next, state_of_prices}
use Rattle.auction_book.specs.Session.{Submits}
use Rattle.auction_book.proofs.Runs.{happens_at, same_core}
use Rattle.auction_book.proofs.schedule.happen.Goals as goal

pub attend-requires-clause-state : goal.attend-requires-clause-state
attend-requires-clause-state c =
    let w = c.args.event.worker in
    let some : 0 < w = omega arith in
    let few : w ≤ length c.args.states.now = omega arith in
    let e = numbered_read c.args.states.now w c.index-states-worker.result (state_of_prices []) some few c.index-states-worker.is in
    subst (IsWorkerState c.args.book.now w) (sym e ∙ c.index-states-worker.is) (c.requires.each w (record { first = some; last = few }))

pub returns : goal.returns
returns c =
    let w = c.args.event.worker in
    let states = c.args.states.now in
    let core : CoreData = record { book = c.args.book.now; states = states } in
    let some : 0 < w = omega arith in
    let few : w ≤ length states = omega arith in
    let x = c.in_ok-attend.ensures in
    let e = sym c.index-states-worker.is ∙ numbered_read states w c.index-states-worker.result (state_of_prices []) some few c.index-states-worker.is in
    let submits = subst (λ (s : WorkerState). Submits c.args.book.now w s.offer x.0) e x.1 in
    let state = x.3 ∙ ap (state_next c.args.event x.0) e in
    let written = sym (renumber-set states w c.attend.new.state some) ∙ ap (renumbered states w) state in
    happens_at core c.args.event x.0 _ (record { first = some; last = few }) submits (same_core _ _ _ _ _ _ refl refl x.2 written)
