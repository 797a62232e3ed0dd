use Rattle.std.proofs.Common.{length, subst, sym}
use Rattle.std.specs.List.{All}
use Rattle.std.proofs.lemmas.List.Sorted.{All-permutation}
use Rattle.assign_core.specs.Numbered.{IsNumber}
use Rattle.rounds.proofs.similar.SimilarPersons.find.Goals as goal

pub rehashed_persons-requires : goal.rehashed_persons-requires
rehashed_persons-requires c =
    let n = length c.args.scaled.now.problem in
    subst (All (λ e. IsNumber n e.1)) (sym c.as_slice.ensures.value) (All-permutation (λ e. IsNumber n e.1)
    c.in_ok-hashed.hashed.items c.sort_unstable.new.self.items c.sort_unstable.ensures.permutation
    c.in_ok-hashed.ensures)

pub among-requires : goal.among-requires
among-requires c =
    let n = length c.args.scaled.now.problem in
    subst (All (λ e. IsNumber n e.1)) (sym c.as_slice-2.ensures.value) (All-permutation (λ e. IsNumber n e.1)
    c.in_ok-again.again.items c.sort_unstable-2.new.self.items c.sort_unstable-2.ensures.permutation
    c.in_ok-again.ensures)
