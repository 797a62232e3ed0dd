use Rattle.std.proofs.Common.{codes}
use Rattle.command_line.proofs.CommandLines.{flag_told}
use Rattle.command_line.proofs.words.progress_flag.Goals as goal

pub returns : goal.returns
returns c = flag_told c.args.solve.now (codes "progress") c.get_flag.result c.get_flag.ensures.none c.get_flag.ensures.value c.get_flag.ensures.other
