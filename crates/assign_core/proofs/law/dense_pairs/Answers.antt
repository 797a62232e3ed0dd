use Rattle.assign_core.proofs.DenseRows.{length-rows_cut}
use Rattle.assign_core.proofs.DensePairs.{dense_widths, dense_entry, dense_place}
use Rattle.assign_core.proofs.law.dense_pairs.Goals as goal

pub returns : goal.returns
returns c = record {
  persons = λ n costs. length-rows_cut n n costs;
  objects = dense_widths;
  entries = λ n costs i j l h k. dense_entry n i j costs l h k;
  places = λ n costs k l lt. dense_place n k costs l lt;
}
