use Rattle.std.proofs.Common.{◌<◌, length, arith, sym, ◌∙◌}
use Rattle.std.proofs.lemmas.Bool.{eqb-false, eqb-true}
use Rattle.exact_checker.proofs.HallPairs.{full_added, none_added}
use Rattle.exact_checker.proofs.hall_full.mark_of_full.Goals as goal

pub returns-then-is_empty : goal.returns-then-is_empty
returns-then-is_empty c = λ rows all within.
    let empty = eqb-true (length c.args.persons.now) 0 (sym c.is_empty.ensures ∙ c.if-is_empty.true) in
    none_added rows (length c.args.listed.now) c.args.persons.now all within c.args.listed.now empty

pub returns : goal.returns
returns c = λ rows all within.
    let no_zero = eqb-false (length c.args.persons.now) 0 (sym c.is_empty.ensures ∙ c.if-is_empty.false) in
    let some : 0 < length c.args.persons.now = omega arith in
    full_added rows (length c.args.listed.now) c.args.persons.now all within c.args.listed.now c.mark_each.new.marks some c.requires c.mark_each.ensures
