-- The caller's buffers before an answer.
use Rattle.c_counts.specs.declared.judge.Outputs.{Outputs}
use Rattle.c_counts.specs.Ends.{Buffers, buffers}

abbrev pub buffers_of : Outputs → Buffers
buffers_of b = buffers b.plan.now b.row_numbers.now b.column_numbers.now b.row_marks.now b.column_marks.now b.info.now
