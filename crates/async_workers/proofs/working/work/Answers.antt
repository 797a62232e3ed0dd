use Rattle.std.proofs.Common.{sym, subst}
use Rattle.async_workers.specs.declared.working.Worker.{Worker}
use Rattle.async_workers.specs.Turns.{WorksOn}
use Rattle.async_workers.proofs.Runs.{works_through}
use Rattle.async_workers.proofs.working.work.Goals as goal
use Rattle.async_workers.proofs.working.work.Goals.{then-is_some, else-is_some}

pub returns-clause-works : goal.returns-clause-works
returns-clause-works g c =
    let old = c.args.worker.now.desk in
    elim c.if-is_some.branch [
      | then-is_some w ↦ subst (λ (x : Worker). WorksOn old x.desk) (sym w.worker-is)
          (works_through old c.take_turns-fault.new.desk w.ask_stop.new.desk c.take_turns-fault.ensures.works
          w.ask_stop.ensures.works)
      | else-is_some w ↦ subst (λ (x : Worker). WorksOn old x.desk) (sym w.worker-is) c.take_turns-fault.ensures.works
    ]
