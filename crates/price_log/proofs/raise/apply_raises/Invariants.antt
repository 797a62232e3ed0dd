use Rattle.std.proofs.Common.{◌≡◌, drop}
use Rattle.price_log.specs.History.{Rises, raised}
use Rattle.price_log.proofs.raise.apply_raises.Given as goal

abbrev pub invariant-loop-i : goal.invariant-loop-i
invariant-loop-i l = record {
  rises : Rises l.table (drop l.i l.raises.items);
  table : raised l.table (drop l.i l.raises.items) ≡ raised l.fn.table (drop l.first l.raises.items);
}
