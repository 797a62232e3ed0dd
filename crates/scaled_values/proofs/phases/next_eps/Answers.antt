use Rattle.std.proofs.Common.{◌≡◌, rules, Some, sym, ap, ◌∙◌}
use Rattle.std.proofs.lemmas.Int.{to_z-of_z}
use mir.Val.{SFits, of_z}
use mir.Syntax.{w64}
use Rattle.scaled_values.specs.Scaled.{fifth}
use Rattle.scaled_values.proofs.EpsList.{IsEps-next, next_is}
use Rattle.scaled_values.proofs.phases.next_eps.Goals as goal

pub returns-else-eps-eq1-clause-listed : goal.returns-else-eps-eq1-clause-listed
returns-else-eps-eq1-clause-listed c =
    let eps_fits = c.ranges.eps in
    let next_fits : SFits w64 c.fifth.result = search rules in
    let is : c.fifth.result ≡ fifth c.args.eps = simp to_z-of_z at c.fifth.ensures in
    let next = next_is c.args.eps (λ e. c.if-eps-eq1.false (ap (of_z w64) e)) in
    simp to_z-of_z (λ s later h e. IsEps-next s c.args.eps later h (next ∙ ap Some (sym is) ∙ e))
