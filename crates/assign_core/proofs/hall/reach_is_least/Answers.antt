use Rattle.std.proofs.Common.{IsTrue}
use Rattle.assign_core.proofs.HallReach.{reached_itself, reached_on, reached_within}
use Rattle.assign_core.proofs.hall.reach_is_least.Goals as goal

pub returns : goal.returns
returns c = record {
  itself = reached_itself;
  on = reached_on;
  least = λ rows owners members i x first closed reached. reached_within (λ y. IsTrue (members y)) rows owners i x closed first reached;
}
