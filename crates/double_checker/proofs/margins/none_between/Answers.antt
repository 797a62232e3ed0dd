use Rattle.std.proofs.Common.{refl}
use Rattle.double_checker.proofs.Lanes.{lanes_not}
use Rattle.double_checker.proofs.margins.none_between.Goals as goal

pub returns : goal.returns
returns c none = lanes_not c.args.costs.now c.args.from c.args.low c.args.high _ _ _ c.requires none (λ a b. refl)
    (λ a b. refl) refl
