use Rattle.std.proofs.Common.{◌+◌, ◌++◌, ◌∷◌, [], take, drop, length, get_or, sym, ap, subst, ◌∙◌, List, false}
use Rattle.std.specs.Arc.{arc_value}
use Rattle.std.proofs.lemmas.List.{take_at, take_more}
use Rattle.assign_core.specs.Rows.{IsProblem}
use Rattle.scaled_values.specs.Scaled.{ScaledProblem}
use Rattle.auction_book.specs.declared.schedule.Event.{Event}
use Rattle.auction_book.specs.declared.schedule.WorkerState.{WorkerState}
use Rattle.auction_book.specs.Schedule.{CoreData, Happens, Run, core_opened}
use Rattle.auction_book.proofs.Runs.{run_more, runs_fit}
use Rattle.auction_book.proofs.schedule.run_schedule_from.Goals as goal

pub happen-requires : goal.happen-requires
happen-requires c =
    let problem = subst (λ (b : ScaledProblem). IsProblem b.problem) c.deref.ensures c.n-n.ensures.rule in
    rw c.as_mut_slice.ensures.value (runs_fit (arc_value c.args.scaled) c.args.prices c.args.workers _ _ problem
    c.as_slice-table.ensures.table c.requires.long c.requires.low c.loop-event.invariant)

pub loop-event-preserved : goal.loop-event-preserved
loop-event-preserved c =
    let start = core_opened (arc_value c.args.scaled) c.args.prices c.args.workers in
    let events = c.args.events.now in
    let i = c.loop-event.event-index in
    let lt = c.loop-event-test.true in
    let e : Event = get_or events i (record { worker = 0; catch_up = false }) in
    let mid : CoreData = record { book = c.loop-event.book; states = c.loop-event.states.items } in
    let new : CoreData = record { book = c.happen.new.book; states = c.happen.new.states } in
    let happens = subst (λ (s : List WorkerState). Happens (record { book = c.loop-event.book; states = s }) e new)
    c.as_mut_slice.ensures.value c.in_ok-happen.ensures in
    let step : Run start (take i events ++ e ∷ []) new = run_more start mid new (take i events) e c.loop-event.invariant happens in
    let whole = take_at c.happen.new.states (drop (length c.happen.new.states) c.loop-event.states.items)
    c.loop-event.states.len (c.happen.auto.states ∙ ap length c.as_mut_slice.ensures.value ∙
    sym c.loop-event.states.ok.0) in
    subst (λ (s : List WorkerState). Run start (take (i + 1) events) (record {
      book = c.happen.new.book;
      states =
          s;
    })) (sym whole) (subst (λ es. Run start es new)
    (sym (take_more events i (record { worker = 0; catch_up = false }) lt)) step)

pub returns-clause-fit : goal.returns-clause-fit
returns-clause-fit c =
    let problem = subst (λ (b : ScaledProblem). IsProblem b.problem) c.deref.ensures c.n-n.ensures.rule in
    runs_fit (arc_value c.args.scaled) c.args.prices c.args.workers _ _ problem c.as_slice-table.ensures.table
    c.requires.long c.requires.low c.loop-event.invariant
