use Rattle.std.proofs.Common.{◌≡◌, ◌∙◌, ◌++◌, ◌∷◌, map, sym, ap, append-nil, arith}
use Rattle.std.proofs.lemmas.List.{nil_from_length}
use Rattle.async_workers.specs.declared.working.Worker.{Worker}
use Rattle.async_workers.specs.inside.Working.{desk_in}
use Rattle.async_workers.proofs.Runs.{moved}
use Rattle.async_workers.proofs.working.seat_workers.Goals as goal

pub loop-desk-init : goal.loop-desk-init
loop-desk-init c = ap (λ ws. map desk_in ws ++ c.into_iter-desk-iterator.result.rest.items)
    c.in_ok-workers.ensures.items ∙ c.into_iter-desk-iterator.ensures.into_iter_gives.0

pub loop-desk-preserved : goal.loop-desk-preserved
loop-desk-preserved c =
    let left = c.next.new.self.rest.items in
    let old = c.loop-desk.desk-iterator.rest.items in
    let step : old ≡ desk_in c.new.result ∷ left = c.in-Some.ensures.steps.0 ∙ ap (λ (w : Worker). w.desk ∷ left) (sym c.new.ensures) in
    ap (λ ws. map desk_in ws ++ left) c.in_ok-push.ensures.items ∙ moved desk_in c.loop-desk.workers.items left old c.new.result step ∙ c.loop-desk.invariant

pub returns : goal.returns
returns c =
    let rest = c.loop-desk.desk-iterator.rest in
    let none = nil_from_length rest.items (omega (arith, rest.ok, c.in-None.ensures.steps.0)) in
    sym (append-nil (map desk_in c.loop-desk.workers.items)) ∙ ap (λ l. map desk_in c.loop-desk.workers.items ++ l) (sym none) ∙ c.loop-desk.invariant
