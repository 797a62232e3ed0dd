use Rattle.std.proofs.Common.{◌≡◌, length, map}
use Rattle.report.specs.inside.Reading.{read_rising}
use Rattle.report.proofs.RisingLoop.{with_front}
use Rattle.report.proofs.lists.rising.Given as goal

abbrev pub invariant-loop-word : goal.invariant-loop-word
invariant-loop-word g l = with_front (map g.N.Numbered.number_of l.numbers.items) (read_rising l.last l.words) ≡ read_rising 0 l.fn.words

abbrev pub decreases-loop-word : goal.decreases-loop-word
decreases-loop-word g l = length l.words
