use Rattle.std.proofs.Common.{◌≡◌, suc, Some, arith, sym, subst}
use Rattle.candidates.specs.Candidates.{HaveCandidates}
use Rattle.candidates.proofs.Persons.{lists_set}
use Rattle.candidates.proofs.lists.CandidateLists.put.Goals as goal
use Rattle.candidates.proofs.lists.CandidateLists.put.Goals.{in-Some-1, in-None-1}

pub returns-then-place-len : goal.returns-then-place-len
returns-then-place-len c = λ s prices have are.
    let place = c.place-place.result in
    let first = c.requires in
    let next : suc place ≡ c.args.person = omega (arith, c.place-place.ensures) in
    let done = lists_set s prices c.self.inside.lists.items place c.args.person (Some c.args.list) next
    (omega (arith, c.if-place-len.true, c.len.ensures)) (subst (HaveCandidates s prices) (sym c.self.view_is) have) are in
    elim c.match-index_mut.branch [
      | in-Some-1 w ↦ subst (HaveCandidates s prices) (sym w.self-is) done
      | in-None-1 w ↦ subst (HaveCandidates s prices) (sym w.self-is) done
    ]
