use Rattle.std.proofs.Common.{◌≡◌, ◌∙◌, ap, map, length, arith}
use Rattle.std.proofs.lemmas.List.{length-map}
use Rattle.async_workers.specs.Desk.{new_desks}
use Rattle.async_workers.specs.inside.Working.{desk_in}
use Rattle.async_workers.proofs.Runs.{back_extends, back_ready, faults_in, length_workers, workers_can}
use Rattle.async_workers.proofs.solving.worked_book.Goals as goal

pub run_all-workers-requires-clause-some : goal.run_all-workers-requires-clause-some
run_all-workers-requires-clause-some g c κs within =
    let b = c.args.book in
    let l = length_workers c.in_ok-place.place b (length b.claims) c.in_ok-workers.workers.items (c.in_ok-workers.ensures ∙ c.in_ok-place.ensures) in
    let some = c.requires.some in
    omega (arith, l, some, c.in_ok-workers.workers.ok)

pub run_all-workers-requires-clause-ready : goal.run_all-workers-requires-clause-ready
run_all-workers-requires-clause-ready g c κs within =
    let b = c.args.book in
    workers_can c.in_ok-place.place b (length b.claims) c.in_ok-workers.workers.items (c.in_ok-workers.ensures ∙ c.in_ok-place.ensures)

pub unseat_workers-desks-requires-clause-faults : goal.unseat_workers-desks-requires-clause-faults
unseat_workers-desks-requires-clause-faults g c = faults_in c.in_ok-workers.workers.items c.run_all-workers.result.items c.run_all-workers.ensures

pub close_place-requires-clause-some_desk : goal.close_place-requires-clause-some_desk
close_place-requires-clause-some_desk g c =
    let b = c.args.book in
    let l = length_workers c.in_ok-place.place b (length b.claims) c.in_ok-workers.workers.items (c.in_ok-workers.ensures ∙ c.in_ok-place.ensures) in
    let some = c.requires.some in
    let back = ap length c.unseat_workers-desks.ensures.desks ∙ length-map c.run_all-workers.result.items desk_in in
    let same = c.run_all-workers.ensures.0 in
    omega (arith, l, some, c.in_ok-workers.workers.ok, back, same, c.run_all-workers.result.ok, c.unseat_workers-desks.result.0.ok)

pub close_place-requires-clause-ready : goal.close_place-requires-clause-ready
close_place-requires-clause-ready g c =
    let b = c.args.book in
    let xs = c.in_ok-workers.workers in
    let ys = c.run_all-workers.result in
    back_ready c.in_ok-place.place b (length b.claims) xs.items ys.items c.unseat_workers-desks.result.0.items (c.in_ok-workers.ensures ∙ c.in_ok-place.ensures)
    c.run_all-workers.ensures c.unseat_workers-desks.ensures.desks

pub returns-clause-extends : goal.returns-clause-extends
returns-clause-extends g c =
    let b = c.args.book in
    let xs = c.in_ok-workers.workers in
    let ys = c.run_all-workers.result in
    let is : map desk_in xs.items ≡ new_desks c.in_ok-place.place b (length b.claims) = c.in_ok-workers.ensures ∙ c.in_ok-place.ensures in
    let l = length_workers c.in_ok-place.place b (length b.claims) xs.items is in
    let some = c.requires.some in
    let back = ap length c.unseat_workers-desks.ensures.desks ∙ length-map ys.items desk_in in
    let worked = c.run_all-workers.ensures in
    let same = worked.0 in
    back_extends c.in_ok-place.place b c.close_place.result (length b.claims) xs.items ys.items c.unseat_workers-desks.result.0.items is
    worked c.unseat_workers-desks.ensures.desks (omega (arith, l, some, back, same)) c.close_place.ensures.current
