use Rattle.std.proofs.Common.{◌≡◌, ◌∙◌, ◌++◌, ◌∷◌, [], ◌+◌, length, map, ap, subst, arith}
use Rattle.std.specs.List.{All}
use Rattle.std.proofs.lemmas.List.{length_push}
use Rattle.std.proofs.lemmas.List.Elements.{All-tail}
use Rattle.async_workers.specs.declared.working.Worker.{Worker}
use Rattle.async_workers.specs.Turns.{IsMemory}
use Rattle.async_workers.specs.inside.Working.{desk_in, fault_in}
use Rattle.async_workers.proofs.Runs.{moved_out}
use Rattle.async_workers.proofs.working.unseat_workers.Goals as goal

pub loop-worker-preserved : goal.loop-worker-preserved
loop-worker-preserved c =
    let old = c.loop-worker.worker-iterator.rest in
    let left = c.next.new.self.rest in
    let worker = c.in-Some.worker in
    let before = c.loop-worker.desks in
    let after = c.push_reserved.new.self in
    let inv = c.loop-worker.invariant in
    let step : old.items ≡ worker ∷ left.items = c.in-Some.ensures.steps.0 in
    let fewer = ap length step in
    let pushed : after.items ≡ before.items ++ desk_in worker ∷ [] = c.push_reserved.ensures.items ∙
    ap (λ (w : Worker). before.items ++ w.desk ∷ []) c.into_inner-desk.ensures in
    let long : length after.items ≡ length before.items + 1 = ap length pushed ∙ length_push before.items (desk_in worker) in
    let room = inv.room in
    let capacity = c.push_reserved.ensures.capacity in
    record {
      desks = ap (λ ds. ds ++ map desk_in left.items) pushed ∙ moved_out desk_in before.items left.items old.items worker step ∙ inv.desks;
      room = omega (arith, fewer, long, room, capacity, before.ok, after.ok);
      faults = All-tail (λ w. IsMemory (fault_in w)) worker left.items (subst (All (λ w. IsMemory (fault_in w))) step inv.faults);
      first = c.earlier_fault-first.ensures;
    }
