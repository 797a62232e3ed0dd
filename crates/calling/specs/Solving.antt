-- Problems in the form that the solvers' contracts speak of.
use Rattle.std.specs.Prelude.{List}
use Rattle.assign_core.specs.declared.sense.Sense.{Sense}
use Rattle.assign_core.specs.Rows.{Listing}
use Rattle.scaled_values.specs.Scaled.{ScaledProblem}

-- a problem with the sense under which it is solved
abbrev pub problem_under : Sense → List Listing → ScaledProblem
problem_under sense rows = record { problem = rows; sense = sense }
