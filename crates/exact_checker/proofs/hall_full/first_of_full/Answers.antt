use Rattle.std.proofs.Common.{◌<◌, length, arith, sym, ◌∙◌}
use Rattle.std.proofs.lemmas.Bool.{eqb-false, eqb-true}
use Rattle.exact_checker.proofs.HallPairs.{full_first, full_neighbours, none_near}
use Rattle.exact_checker.proofs.hall_full.first_of_full.Goals as goal

pub returns-then-is_empty : goal.returns-then-is_empty
returns-then-is_empty c = λ rows all within j near.
    let empty = eqb-true (length c.args.persons.now) 0 (sym c.is_empty.ensures ∙ c.if-is_empty.true) in
    absurd (none_near rows (length c.args.named.now) c.args.persons.now all within empty j near)

pub returns-in-Some : goal.returns-in-Some
returns-in-Some c = λ rows all within.
    let no_zero = eqb-false (length c.args.persons.now) 0 (sym c.is_empty.ensures ∙ c.if-is_empty.false) in
    let some : 0 < length c.args.persons.now = omega arith in
    full_first rows (length c.args.named.now) c.args.persons.now all within c.args.named.now c.in-Some.object some c.requires.rise c.in-Some.ensures

pub returns-in-None : goal.returns-in-None
returns-in-None c = λ rows all within j near.
    let no_zero = eqb-false (length c.args.persons.now) 0 (sym c.is_empty.ensures ∙ c.if-is_empty.false) in
    let some : 0 < length c.args.persons.now = omega arith in
    full_neighbours rows (length c.args.named.now) c.args.persons.now all within c.args.named.now some c.in-None.ensures j near
