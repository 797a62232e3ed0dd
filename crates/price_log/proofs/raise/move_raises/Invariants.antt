use Rattle.std.proofs.Common.{◌≡◌, take, drop}
use Rattle.std.specs.VecDeque.{deque_capacity}
use Rattle.price_log.specs.History.{raised}
use Rattle.price_log.proofs.raise.move_raises.Given as goal

abbrev pub invariant-loop : goal.invariant-loop
invariant-loop l = record {
  rest : l.raises.items ≡ drop l.counter l.fn.raises.items;
  table : l.table ≡ raised l.fn.table (take l.counter l.fn.raises.items);
  capacity : deque_capacity l.raises ≡ deque_capacity l.fn.raises;
}
