use Rattle.std.proofs.Common.{ap, sym, ◌∙◌, subst}
use Rattle.rounds.specs.inside.Similar.{AreSimilar}
use Rattle.rounds.specs.Rounds.{RoundsData}
use Rattle.rounds.proofs.rounds.Rounds.run_round.Goals as goal

pub invariant_of-self : goal.invariant_of-self
invariant_of-self g c =
    let same = c.requires.problem ∙ ap (λ (r : RoundsData). r.base) (sym c.self.view_is) in
    subst (λ s. AreSimilar s c.run_shared_round.new.similar) same c.run_shared_round.ensures.similar
