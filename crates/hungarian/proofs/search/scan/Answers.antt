use Rattle.std.proofs.Common.{◌∙◌, ◌-ℤ◌, ◌<◌, pos, length, get_or, ap, arith, rules, subst, sym, SFits, w64}
use Rattle.hungarian.specs.inside.Trees.{IsStepCost}
use Rattle.std.proofs.lemmas.Int.{to_z-of_z}
use Rattle.std.proofs.lemmas.List.{get_or_read}
use Rattle.hungarian.proofs.Scanning.{back_fits, row_cost, scan_is}
use Rattle.hungarian.proofs.search.scan.Goals as goal

pub path_back-to_person-requires-clause-cost : goal.path_back-to_person-requires-clause-cost
path_back-to_person-requires-clause-cost c =
    let fits : SFits w64 (get_or c.set_row.new.row c.args.object (pos 0)) = search rules in
    let within : c.args.object < length c.set_row.new.row = let a = c.requires.row in let b = c.set_row.auto.row in
    let e = c.requires.object in omega arith in
    simp to_z-of_z (row_cost c.args.lists.now c.args.owner c.args.object c.set_row.new.row
    c.persons-persons.ensures.rule c.in_ok-set_row.ensures within c.requires.listed)

pub relax_row-requires-clause-path : goal.relax_row-requires-clause-path
relax_row-requires-clause-path c =
    let fits_cost : SFits w64 (get_or c.set_row.new.row c.args.object (pos 0)) = search rules in
    let fits_path : SFits w64 c.index.result.now = search rules in
    let read = get_or_read c.args.tree.now.to_objects.items c.args.object c.index.result.now
    (let a = c.requires.long.costs_long in let e = c.requires.object in omega arith) c.index.ensures (pos 0) in
    let fits : SFits w64 c.path_back-to_person.result = search rules in
    let within : c.args.object < length c.set_row.new.row = let a = c.requires.row in let b = c.set_row.auto.row in
    let e = c.requires.object in omega arith in
    let cost = row_cost c.args.lists.now c.args.owner c.args.object c.set_row.new.row c.persons-persons.ensures.rule
    c.in_ok-set_row.ensures within c.requires.listed in
    let sum = simp to_z-of_z at c.path_back-to_person.ensures in
    simp to_z-of_z (back_fits c.index.result.now
    (get_or c.set_row.new.row c.args.object (pos 0)) c.path_back-to_person.result
    (subst IsStepCost (sym read) c.requires.path) cost sum)

pub returns-clause-scan : goal.returns-clause-scan
returns-clause-scan c =
    let tree = c.args.tree.now in
    let fits_cost : SFits w64 (get_or c.set_row.new.row c.args.object (pos 0)) = search rules in
    let fits_path : SFits w64 c.index.result.now = search rules in
    let read = get_or_read c.args.tree.now.to_objects.items c.args.object c.index.result.now
    (let a = c.requires.long.costs_long in let e = c.requires.object in omega arith) c.index.ensures (pos 0) in
    let fits : SFits w64 c.path_back-to_person.result = search rules in
    let within : c.args.object < length c.set_row.new.row = let a = c.requires.row in let b = c.set_row.auto.row in
    let e = c.requires.object in omega arith in
    let sum = simp to_z-of_z at c.path_back-to_person.ensures in
    let cost = ap (λ y. get_or c.args.tree.now.to_objects.items c.args.object (pos 0) -ℤ y)
    (c.in_ok-set_row.ensures.each c.args.object within) in
    scan_is c.args.lists.now tree c.mark_scanned.new.tree c.relax_row.new.tree c.args.owner c.args.object c.args.rank
    c.path_back-to_person.result c.requires.long
    c.requires.owner.last c.requires.object c.requires.some
    (sum ∙ ap (λ y. y -ℤ get_or c.set_row.new.row c.args.object (pos 0)) read ∙ cost)
    c.in_ok-mark_scanned.ensures.ranks (simp to_z-of_z at c.in_ok-mark_scanned.ensures.to_persons)
    c.in_ok-mark_scanned.ensures.to_objects
    c.in_ok-mark_scanned.ensures.predecessors
    (simp to_z-of_z at c.relax_row.ensures.relaxed) c.relax_row.ensures.ranks c.relax_row.ensures.to_persons
