use Rattle.std.proofs.Common.{◌≡◌, ◌-◌, length, length-drop, drop, arith, rules, ap, sym, ◌∙◌, SFits}
use Rattle.std.specs.Int.{w128}
use Rattle.std.proofs.lemmas.Int.{to_z-of_z}
use Rattle.price_log.proofs.Histories.{next_at, moved_on}
use Rattle.price_log.proofs.raise.move_raises.Goals as goal
use Rattle.price_log.proofs.raise.move_raises.Goals.{in-Some, in_default}

pub set-requires-clause-object : goal.set-requires-clause-object
set-requires-clause-object c = (next_at _ _ _ _ _ _ _ c.requires.rises c.loop.invariant.table c.loop.invariant.rest c.in-Some.ensures.items).object

pub set-requires-clause-price : goal.set-requires-clause-price
set-requires-clause-price c =
    let f : SFits w128 c.in-Some.raise.level = search rules in
    simp to_z-of_z (next_at c.args.table.now c.loop.table c.args.raises.now.items c.loop.raises.items c.loop.counter
    c.in-Some.raise c.pop_front.new.self.items c.requires.rises c.loop.invariant.table c.loop.invariant.rest
    c.in-Some.ensures.items).price

pub loop-preserved : goal.loop-preserved
loop-preserved c =
    elim c.match-pop_front.branch [
      | in-Some w ↦
          let f : SFits w128 w.in-Some.raise.level = search rules in
          let set = simp to_z-of_z at w.set.ensures in
          let on = moved_on c.args.table.now c.args.raises.now.items c.loop.counter w.in-Some.raise
          c.pop_front.new.self.items (sym c.loop.invariant.rest ∙ w.in-Some.ensures.items) in
          record { rest = on.0; table = w.table-is ∙ set ∙ rw c.loop.invariant.table on.1; capacity = c.pop_front.ensures.capacity ∙ c.loop.invariant.capacity }
      | in_default w ↦
          let z : c.loop.raises.len ≡ 0 = w.in_default.ensures.cases.0 in
          let ok = c.loop.raises.ok in
          let d : length (drop c.loop.counter c.args.raises.now.items) ≡ length c.args.raises.now.items -
          c.loop.counter = length-drop c.loop.counter c.args.raises.now.items in
          let e = ap length c.loop.invariant.rest in
          let t = c.loop-test.true in
          absurd (omega arith)
    ]
