use Rattle.std.proofs.Common.{map, sym, ◌∙◌}
use Rattle.row_checker.specs.Rows.{row_in}
use Rattle.row_checker.proofs.Soundness.{verdict_sound}
use Rattle.row_checker.proofs.tree.verdict_of.Goals as goal

pub returns-clause-none : goal.returns-clause-none
returns-clause-none c = λ e. verdict_sound c.args.variables (map row_in c.args.rows.items) c.args.numbers.now (sym c.in_ok-verdict.ensures ∙ e)
