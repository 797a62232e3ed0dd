use Rattle.std.proofs.Common.{◌∙◌}
use Rattle.std.proofs.lemmas.Int.{to_z-of_z}
use Rattle.std.proofs.lemmas.List.{with_items_is}
use Rattle.std.specs.Vec.{with_items}
use Rattle.hungarian.proofs.Scanning.{row_relaxed, row_costs}
use Rattle.hungarian.proofs.search.relax_row.Goals as goal

pub relax-requires-clause-costs : goal.relax-requires-clause-costs
relax-requires-clause-costs c = row_costs c.args.lists.now c.args.person c.args.row.now c.persons-persons.ensures.rule
    c.requires.row

pub returns-clause-relaxed : goal.returns-clause-relaxed
returns-clause-relaxed c =
    let fits = c.ranges.to_person in
    let tree = c.args.tree.now in
    let relaxed = rw (c.as_mut_slice.ensures.value, c.as_mut_slice-2.ensures.value, c.as_slice.ensures.value) at
    (simp to_z-of_z at c.relax.ensures) in
    row_relaxed c.args.lists.now tree (record tree {
      to_objects = with_items tree.to_objects c.relax.new.to_objects;
      predecessors = with_items tree.predecessors
          c.relax.new.predecessors;
    })
    c.args.person c.args.to_person c.args.row.now c.relax.new.to_objects c.relax.new.predecessors
    c.persons-persons.ensures.rule c.requires.long c.requires.row_long c.requires.row
    (rw c.as_mut_slice.ensures.value at c.relax.auto.to_objects)
    (rw c.as_mut_slice-2.ensures.value at c.relax.auto.predecessors) relaxed
    (with_items_is tree.to_objects c.relax.new.to_objects (c.relax.auto.to_objects ∙ c.as_mut_slice.ensures.len))
    (with_items_is tree.predecessors c.relax.new.predecessors
    (c.relax.auto.predecessors ∙ c.as_mut_slice-2.ensures.len))
