use Rattle.std.proofs.Common.{◌≡◌, rules, ap, ◌∙◌}
use Rattle.std.proofs.lemmas.Int.{to_z-of_z}
use mir.Val.{SFits}
use mir.Syntax.{w64}
use Rattle.scaled_values.specs.Scaled.{fifth}
use Rattle.scaled_values.proofs.EpsList.{IsEps-first}
use Rattle.scaled_values.proofs.scaled.Scaled.first_eps.Goals as goal

pub returns-clause-listed : goal.returns-clause-listed
returns-clause-listed c =
    let spread_fits : SFits w64 c.spread.result = search rules in
    let eps_fits : SFits w64 c.fifth.result = search rules in
    let is : c.fifth.result ≡ fifth c.spread.result = simp to_z-of_z at c.fifth.ensures in
    simp to_z-of_z (IsEps-first c.args.self.now c.fifth.result (is ∙ ap fifth c.spread.ensures.value))
