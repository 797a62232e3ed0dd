use Rattle.std.proofs.Common.{◌≡◌, length, ap, sym, ◌∙◌, rules}
use Rattle.std.specs.Arc.{arc_value}
use Rattle.rounds.specs.Rounds.{RoundsData}
use Rattle.rounds.proofs.Running.{running_first}
use Rattle.solver_tests.proofs.by_rounds.round_by_round.shown.Goals as goal

pub loop-init : goal.loop-init
loop-init c =
    let s = arc_value c.in_ok-scaled.scaled in
    let n : c.size-n.result ≡ length s.problem = search rules in
    let running = running_first s c.in_ok-prices.prices c.size-n.result c.in_ok-book.book c.in_ok-book.ensures.book c.in_ok-book.ensures.free n in
    let kept = c.in_ok-clone.ensures.cases in
    let same : arc_value c.in_ok-clone.field-0 ≡ s = cc in
    (running.rest, running.base ∙ sym (ap (λ (r : RoundsData). r.base) c.in_ok-rounds.ensures ∙ same))
