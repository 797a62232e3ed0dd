use Rattle.std.proofs.Common.{ℕ, length}
use Rattle.assign_core.specs.Numbered.{IsMarked}
use Rattle.dual_checker.specs.HallVerdicts.{ListsUnnamed}
use Rattle.dual_checker.proofs.HallFaults.{neighbours_marked}
use Rattle.dual_checker.proofs.HallFirsts.{first_named}
use Rattle.dual_checker.proofs.hall_marks.first_missing.Goals as goal

pub returns-in-Some : goal.returns-in-Some
returns-in-Some c =
    let rows = c.args.problem.now in
    let object = c.in-Some.ensures in (
      first_named (λ i. (j : ℕ) × ListsUnnamed rows (IsMarked c.args.named.now) i j) c.args.persons.now
          (length rows) c.loop-person.person-index c.person-item.result
          c.requires.rise c.requires.persons c.loop-person-test.true c.person-item.is
          (λ k low g. g.1.1 (c.loop-person.invariant k g.0 low g.1.0)) (c.in-Some.object, object.here),
      object,
    )

pub returns : goal.returns
returns c = neighbours_marked c.args.problem.now c.args.persons.now c.loop-person.person-index c.args.named.now c.loop-person-test.false c.loop-person.invariant
