use Rattle.std.proofs.Common.{rules, ◌≡◌, ◌+◌, ◌-◌, ◌<◌, ◌≤◌, List, None, ◌++◌, [], ◌∷◌, map, length, ap, ◌∙◌, arith}
use Rattle.std.proofs.lemmas.List.{length-map, map-append}
use Rattle.row_checker.specs.declared.tree.TheConstants.{MOST_DEPTH}
use Rattle.row_checker.specs.Rows.{LinearRow, row_in}
use Rattle.row_checker.specs.Trees.{first_unnamed, low_row, multiples_at, number_at}
use Rattle.row_checker.proofs.Climbing.{goes_down, stops_deep, stops_unnamed}
use Rattle.row_checker.proofs.Named.{split_is}
use Rattle.row_checker.proofs.tree.go_down.Goals as goal

pub returns-then-len-given-ge-MOST_DEPTH-clause-step :
    goal.returns-then-len-given-ge-MOST_DEPTH-clause-step
returns-then-len-given-ge-MOST_DEPTH-clause-step c = λ given all long at.
    let rows : List LinearRow = map row_in c.args.rows.now.items in
    let l : length rows ≡ length c.args.rows.now.items = length-map c.args.rows.now.items row_in in
    let full : MOST_DEPTH ≤ length rows - length given = omega (arith, c.len.ensures, c.if-len-given-ge-MOST_DEPTH.true) in
    (tt, stops_deep c.args.variables c.args.numbers.now given rows all c.args.place c.args.pairs full c.requires.split at)

pub returns-in-Some-clause-step : goal.returns-in-Some-clause-step
returns-in-Some-clause-step c = λ given all long at.
    let rows : List LinearRow = map row_in c.args.rows.now.items in
    let l : length rows ≡ length c.args.rows.now.items = length-map c.args.rows.now.items row_in in
    let room : length rows - length given < MOST_DEPTH = omega (arith, c.len.ensures, c.if-len-given-ge-MOST_DEPTH.false) in (
      tt,
      stops_unnamed c.args.variables c.args.numbers.now given rows all c.args.place c.args.pairs
          c.in-Some.unnamed room c.requires.split c.in-Some.ensures at,
    )

pub returns-clause-step : goal.returns-clause-step
returns-clause-step c = λ given all long at.
    let numbers = c.args.numbers.now in
    let p = c.args.place in
    let k = c.args.pairs in
    let rows : List LinearRow = map row_in c.args.rows.now.items in
    let l : length rows ≡ length c.args.rows.now.items = length-map c.args.rows.now.items row_in in
    let room : length rows - length given < MOST_DEPTH = omega (arith, c.len.ensures, c.if-len-given-ge-MOST_DEPTH.false) in
    let split = split_is numbers p k c.requires.split in
    let none : None ≡ first_unnamed numbers (p + 3) k c.args.variables = search rules in
    let grown : map row_in c.push.new.self.items ≡ rows ++ low_row (multiples_at numbers (p + 3) k) (number_at numbers (p + 2)) ∷ [] =
    ap (map row_in) c.in_ok-push.ensures.items ∙ map-append row_in c.args.rows.now.items
    (c.in_ok-low_row.field-0 ∷ []) ∙ ap (λ r. rows ++ r ∷ []) c.in_ok-low_row.ensures in (
      omega arith,
      c.requires.room,
      goes_down c.args.variables numbers given rows all p k room c.requires.split none
          split.less at (map row_in c.push.new.self.items) grown,
    )
