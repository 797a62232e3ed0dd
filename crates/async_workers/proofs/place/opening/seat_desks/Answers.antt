use Rattle.std.proofs.Common.{◌∙◌, ◌<◌, arith, length, ap}
use Rattle.crossbeam_queue.specs.Passes.{view}
use Rattle.async_workers.specs.Views.{desk_made, opener_next}
use Rattle.async_workers.proofs.Desks.{desks_more}
use Rattle.async_workers.proofs.Steps.{desk_made-at, forks_from, opener_next-at}
use Rattle.async_workers.proofs.place.opening.seat_desks.Goals as goal

pub another-theirs-requires-clause-rule : goal.another-theirs-requires-clause-rule
another-theirs-requires-clause-rule g c =
    let few : c.loop-made.made < length c.args.book.now.claims = omega (arith, c.loop-made-test.true, c.workers-workers.ensures.workers) in
    rw c.requires.book (forks_from _ _ c.args.book.now c.loop-made.made c.loop-made.invariant.opener c.invariant.ensures c.requires.untouched few)

pub loop-made-preserved : goal.loop-made-preserved
loop-made-preserved g c =
    let b = c.args.book.now in
    let inv = c.loop-made.invariant in
    let pass = c.another-theirs.ensures.queue in
    let views = c.another-theirs.ensures.rule in
    record {
      same = (pass.0.0 ∙ inv.same.0, pass.0.1 ∙ inv.same.1, pass.0.2 ∙ inv.same.2);
      opener = views.0 ∙ ap (λ o. opener_next o (view c.loop-made.pass)) c.requires.book ∙ ap (opener_next b) inv.opener ∙ opener_next-at b c.loop-made.made;
      desks = desks_more _ _ b c.loop-made.made _ _ _ _ _ _ _ (c.in_ok-scaled.ensures ∙ c.scaled.ensures.scaled) pass.1.0
          (views.1 ∙ ap (λ o. desk_made o (view c.loop-made.pass)) c.requires.book ∙ ap (desk_made b) inv.opener ∙ desk_made-at b c.loop-made.made)
          (c.in_ok-table.ensures ∙ c.prices.ensures.prices) (c.first_known.ensures b) inv.desks c.reserve.ensures.items c.push_reserved.ensures.items;
    }
