use Rattle.std.proofs.Common.{◌≡◌, ◌∙◌, ap}
use Rattle.crossbeam_queue.specs.Passes.{ruled_capacity}
use Rattle.async_workers.specs.Views.{keeps_empty}
use Rattle.async_workers.proofs.Steps.{not_both, opener_keeps_empty, opener_sees_from, opens_from}
use Rattle.async_workers.proofs.place.opening.open_with.Goals as goal

pub push_as-requires-clause-rule : goal.push_as-requires-clause-rule
push_as-requires-clause-rule g c =
    let one : ruled_capacity c.in_ok-queue.queue ≡ 1 = c.in_ok-queue.ensures.0 in
    let opener = c.in_ok-desks.ensures.opener in
    rw (one, c.in_ok-boxed.ensures) (opens_from _ _ _ _ c.invariant.ensures opener, opener_sees_from _ _ _ _ opener)

pub unreachable-requires : goal.unreachable-requires
unreachable-requires g c =
    let full = c.in-Err.ensures.rule.2 in
    not_both full.0 _ full.1 c.in_ok-queue.ensures.0 (full.2 (ap keeps_empty c.in_ok-desks.ensures.opener ∙ opener_keeps_empty c.args.book _))
