use Rattle.std.proofs.Common.{◌≡◌, ◌≤◌, ◌+◌, ◌++◌, map, length, vec_len, vec_capacity}
use Rattle.std.specs.List.{All}
use Rattle.async_workers.specs.Turns.{IsMemory}
use Rattle.async_workers.specs.inside.Working.{desk_in, fault_in}
use Rattle.async_workers.proofs.working.unseat_workers.Given as goal

abbrev pub invariant-loop-worker : goal.invariant-loop-worker
invariant-loop-worker l = record {
  desks : l.desks.items ++ map desk_in l.worker-iterator.rest.items ≡ map desk_in l.fn.workers.items;
  room : vec_len l.desks + length l.worker-iterator.rest.items ≤ vec_capacity l.desks;
  faults : All (λ w. IsMemory (fault_in w)) l.worker-iterator.rest.items;
  first : IsMemory l.first;
}
