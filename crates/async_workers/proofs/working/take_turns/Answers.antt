use Rattle.std.proofs.Common.{subst}
use Rattle.async_workers.specs.declared.gate.Turn.TheVariants as turn
use Rattle.async_workers.specs.Turns.{Turned, WorksOn}
use Rattle.async_workers.proofs.Runs.{works_through}
use Rattle.async_workers.proofs.working.take_turns.Given as given
use Rattle.async_workers.proofs.working.take_turns.Goals as goal
use Rattle.async_workers.proofs.working.take_turns.Goals.{After-turn}

-- the turns so far and one more
works : (g : given.Over) (c : After-turn g) → WorksOn c.args.desk.now c.turn.new.desk
works g c = works_through c.args.desk.now c.loop.desk c.turn.new.desk c.loop.invariant.works c.turn.ensures.works

pub loop-preserved-in-Ok-Claimed : goal.loop-preserved-in-Ok-Claimed
loop-preserved-in-Ok-Claimed g c = record { can_turn = c.turn.ensures.can_turn; works = works g (goal.at.loop-preserved-in-Ok-Claimed g c).After-turn }

pub loop-preserved : goal.loop-preserved
loop-preserved g c = record { can_turn = c.turn.ensures.can_turn; works = works g (goal.at.loop-preserved g c).After-turn }

pub returns-in-Ok-Done : goal.returns-in-Ok-Done
returns-in-Ok-Done g c = record {
  can_turn = c.turn.ensures.can_turn;
  works = works g (goal.at.returns-in-Ok-Done g c).After-turn;
  fault = tt;
  last = (
    c.loop.desk,
    c.loop.invariant.can_turn,
    c.loop.invariant.works,
    (
      turn.Done,
      subst (Turned c.args.refresh c.loop.desk c.turn.new.desk) c.in-Ok-Done.field-0-is
          c.in-Ok-Done.ensures.turned,
      tt,
    ),
  );
}

pub returns-in-Ok-Refuted : goal.returns-in-Ok-Refuted
returns-in-Ok-Refuted g c = record {
  can_turn = c.turn.ensures.can_turn;
  works = works g (goal.at.returns-in-Ok-Refuted g c).After-turn;
  fault = tt;
  last = (
    c.loop.desk,
    c.loop.invariant.can_turn,
    c.loop.invariant.works,
    (
      turn.Refuted,
      subst (Turned c.args.refresh c.loop.desk c.turn.new.desk) c.in-Ok-Refuted.field-0-is
          c.in-Ok-Refuted.ensures.turned,
      tt,
    ),
  );
}

pub returns-in-Ok-Stopped : goal.returns-in-Ok-Stopped
returns-in-Ok-Stopped g c = record {
  can_turn = c.turn.ensures.can_turn;
  works = works g (goal.at.returns-in-Ok-Stopped g c).After-turn;
  fault = tt;
  last = (
    c.loop.desk,
    c.loop.invariant.can_turn,
    c.loop.invariant.works,
    (
      turn.Stopped,
      subst (Turned c.args.refresh c.loop.desk c.turn.new.desk) c.in-Ok-Stopped.field-0-is
          c.in-Ok-Stopped.ensures.turned,
      tt,
    ),
  );
}

pub returns-in-Err-clause-works : goal.returns-in-Err-clause-works
returns-in-Err-clause-works g c = works g (goal.at.returns-in-Err-clause-works g c).After-turn

pub returns-in-Err-clause-last : goal.returns-in-Err-clause-last
returns-in-Err-clause-last g c = (c.loop.desk, c.loop.invariant.can_turn, c.loop.invariant.works, c.in-Err.ensures.fault.1)
