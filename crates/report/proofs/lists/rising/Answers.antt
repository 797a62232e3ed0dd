use Rattle.std.proofs.Common.{map, sym}
use Rattle.report.proofs.RisingLoop.{pushed_on, stops, falls, is_done}
use Rattle.report.proofs.lists.rising.Goals as goal

pub returns-in_default-number_in : goal.returns-in_default-number_in
returns-in_default-number_in g c =
    stops (map g.N.Numbered.number_of c.loop-word.numbers.items) c.loop-word.last c.in-Some.word.now
    c.loop-word.words c.next.new.self _ c.in-Some.ensures (sym c.in_default-number_in.ensures.value)
    c.loop-word.invariant

pub returns-then-number-last : goal.returns-then-number-last
returns-then-number-last g c =
    falls (map g.N.Numbered.number_of c.loop-word.numbers.items) c.loop-word.last c.in-Some.word.now
    c.loop-word.words c.next.new.self c.in-Some-number_in.number _ c.in-Some.ensures
    (sym c.in-Some-number_in.ensures.value) c.if-number-last.true c.loop-word.invariant

pub loop-word-preserved : goal.loop-word-preserved
loop-word-preserved g c =
    pushed_on g.N.Numbered.number_of c.loop-word.numbers.items c.push.new.self.items c.with_number.result
    c.loop-word.last c.in-Some.word.now c.loop-word.words c.next.new.self c.in-Some-number_in.number _
    c.in_ok-push.ensures.items c.with_number.ensures c.in-Some.ensures (sym c.in-Some-number_in.ensures.value) c.if-number-last.false c.loop-word.invariant

pub returns : goal.returns
returns g c = is_done (map g.N.Numbered.number_of c.loop-word.numbers.items) c.loop-word.last c.loop-word.words _ c.in_default.ensures c.loop-word.invariant
