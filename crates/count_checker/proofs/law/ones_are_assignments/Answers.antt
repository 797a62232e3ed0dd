use Rattle.count_checker.proofs.OnesLaw.{ones_are_assignments}
use Rattle.count_checker.proofs.law.ones_are_assignments.Goals as goal

pub returns : goal.returns
returns c = ones_are_assignments
