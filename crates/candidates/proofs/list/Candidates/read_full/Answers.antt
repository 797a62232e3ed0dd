use Rattle.std.proofs.Common.{length, subst, arith}
use Rattle.std.proofs.lemmas.List.{take_all}
use Rattle.assign_core.specs.Dense.{row_from}
use Rattle.candidates.specs.Candidates.{AreCandidates}
use Rattle.candidates.proofs.list.Candidates.read_full.Goals as goal

pub returns : goal.returns
returns c =
    let benefits = c.args.benefits.now in
    subst (λ l. AreCandidates (row_from 1 l) c.args.narrow.now c.read_each.new.self) (take_all (length benefits) benefits (omega arith))
    c.read_each.ensures.candidates

pub loop-at-init : goal.loop-at-init
loop-at-init c = record {
  within = omega arith;
  reading = c.restart-reading.ensures c.args.narrow.now;
}
