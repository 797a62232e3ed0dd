use Rattle.bidder.proofs.Sound.{sound_topped}
use Rattle.bidder.proofs.law.level_is_at_most_top.Goals as goal

pub returns : goal.returns
returns c = λ s start ask prices bid problem floor sound. sound_topped s start ask prices bid problem.size.some floor sound
