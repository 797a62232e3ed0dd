use Rattle.std.proofs.Common.{◌≤◌, arith, codes, subst, sym}
use Rattle.command_line.specs.Words.{IsFlag}
use Rattle.command_line.specs.declared.words.TheConstants.{MOST_WORKERS, MOST_REFRESH}
use Rattle.clap.specs.Words.{found_of, one_of, rows_of}
use Rattle.command_line.proofs.CommandLines.{at_most, flag_told}
use Rattle.command_line.proofs.words.solve_options.Goals as goal

pub overflow_cast-result : goal.overflow_cast-result
overflow_cast-result c =
    let most : c.chosen_number.result ≤ MOST_WORKERS = at_most _ _ _ _ (c.chosen_number.ensures 1 MOST_WORKERS c.requires.numbers.workers) in
    omega arith

pub returns : goal.returns
returns c = record {
  sparse = flag_told c.args.solve.now (codes "sparse") c.get_flag.result c.get_flag.ensures.none c.get_flag.ensures.value c.get_flag.ensures.other;
  mode = c.requires.mode;
  workers = c.chosen_number.ensures 1 MOST_WORKERS c.requires.numbers.workers;
  refresh = c.chosen_number-2.ensures 0 MOST_REFRESH c.requires.numbers.refresh;
  prices = flag_told c.args.solve.now (codes "prices") c.get_flag-2.result c.get_flag-2.ensures.none c.get_flag-2.ensures.value c.get_flag-2.ensures.other;
  sense = subst (λ flag. IsFlag (one_of (codes "max") (rows_of (found_of c.args.solve.now))) flag) (sym c.sense_by.ensures)
      (flag_told c.args.solve.now (codes "max") c.get_flag-3.result c.get_flag-3.ensures.none c.get_flag-3.ensures.value c.get_flag-3.ensures.other);
}
