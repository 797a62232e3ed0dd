use Rattle.std.proofs.Common.{length-set}
use Rattle.hall_refuter.proofs.Marking.{marked_more}
use Rattle.hall_refuter.proofs.lists.marks_of.Goals as goal

pub loop-one-preserved : goal.loop-one-preserved
loop-one-preserved c =
    record {
      long = simp length-set c.loop-one.invariant.long;
      marked =
          marked_more c.args.found.now c.loop-one.marks.items c.args.n c.loop-one.one-index c.place.result c.one-item.result c.place.ensures
          c.loop-one-test.true c.one-item.is c.requires c.loop-one.invariant.long c.loop-one.invariant.marked;
    }
