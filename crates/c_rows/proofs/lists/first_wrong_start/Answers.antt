use Rattle.std.proofs.Common.{◌≡◌, true, below_more, sym, ◌∙◌}
use Rattle.c_rows.specs.Lists.{is_start}
use Rattle.c_rows.proofs.lists.first_wrong_start.Goals as goal

pub loop-i-preserved : goal.loop-i-preserved
loop-i-preserved c = below_more (λ k. is_start c.args.starts.now c.args.terms k ≡ true)
    c.loop-i.i c.loop-i.invariant (sym c.is_start.ensures ∙ c.if-not-is_start.false)
