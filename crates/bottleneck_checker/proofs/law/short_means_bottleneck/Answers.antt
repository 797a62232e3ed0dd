use Rattle.bottleneck_checker.proofs.Bottlenecks.{shown_best}
use Rattle.bottleneck_checker.proofs.law.short_means_bottleneck.Goals as goal

pub returns : goal.returns
returns c = shown_best
