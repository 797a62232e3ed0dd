use Rattle.std.proofs.Common.{◌≢◌, ◌∙◌, pos, get_or, arith, rules, SFits, w64}
use Rattle.std.proofs.lemmas.Int.{to_z-of_z}
use Rattle.hungarian.proofs.Relaxed.{relaxed_more}
use Rattle.hungarian.proofs.relaxing.relax.Goals as goal

pub relax_object-requires-clause-cost : goal.relax_object-requires-clause-cost
relax_object-requires-clause-cost c =
    let a : SFits w64 (get_or c.args.row.now c.loop-j.j (pos 0)) = search rules in
    simp to_z-of_z (c.requires.costs c.loop-j.j)

pub relax_object-requires-clause-path : goal.relax_object-requires-clause-path
relax_object-requires-clause-path c =
    let f = c.ranges.to_person in
    simp to_z-of_z c.requires.path

pub loop-j-preserved : goal.loop-j-preserved
loop-j-preserved c =
    let f = c.ranges.to_person in
    let j = c.loop-j.j in
    let l = c.loop-j in
    let a : SFits w64 (get_or c.args.row.now j (pos 0)) = search rules in
    let here = simp to_z-of_z at c.relax_object.ensures.here in
    let done = simp to_z-of_z at l.invariant.done in
    simp to_z-of_z (record {
      done =
          relaxed_more c.args.person c.args.to_person c.args.row.now c.args.ranks.now c.args.to_objects.now
          c.args.predecessors.now
          l.to_objects c.relax_object.new.to_objects l.predecessors c.relax_object.new.predecessors j
          done (l.invariant.costs j (omega arith))
          (l.invariant.persons j (omega arith)) here c.relax_object.ensures.costs c.relax_object.ensures.persons;
      costs = λ k h. let ne : k ≢ j = omega arith in c.relax_object.ensures.costs k ne
          ∙ l.invariant.costs k (omega arith);
      persons = λ k h. let ne : k ≢ j = omega arith in c.relax_object.ensures.persons k ne
          ∙ l.invariant.persons k (omega arith);
    })

pub returns : goal.returns
returns c =
    let f = c.ranges.to_person in
    let done = simp to_z-of_z at c.loop-j.invariant.done in
    λ k lt. done k (let end = c.loop-j-test.false in omega arith)
