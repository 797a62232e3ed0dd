use Rattle.std.proofs.Common.{arith, sym}
use Rattle.report.proofs.Written.{appends_more}
use Rattle.report.proofs.send.write_text.Goals as goal

pub loop-at-preserved : goal.loop-at-preserved
loop-at-preserved g c = let b = c.in-Ok.ensures.bound in let l = c.split_at.ensures.back_len in let e = c.split_at.ensures.back in record {
  inside = omega arith;
  written = appends_more _ _ _ c.args.text.now c.loop-at.at c.in-Ok.count c.loop-at.invariant.written (rw (sym e) c.in-Ok.ensures.bytes);
}
