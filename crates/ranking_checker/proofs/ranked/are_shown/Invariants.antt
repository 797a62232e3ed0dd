use Rattle.std.proofs.Common.{ℕ, ◌<◌}
use Rattle.ranking_checker.specs.inside.Parts.{IsShown, margin_at}
use Rattle.ranking_checker.proofs.ranked.are_shown.Given as goal

abbrev pub invariant-loop-t : goal.invariant-loop-t
invariant-loop-t l =
    (k : ℕ) → k < l.t → IsShown l.base.bound l.lists l.base.objects.now l.base.prices.now l.tree k (margin_at l.lists.sense l.is_all l.totals k)
