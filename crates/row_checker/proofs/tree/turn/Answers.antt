use Rattle.std.proofs.Common.{rules, ◌≡◌, ℤ, pos, ◌^◌, ◌-◌, List, [], ◌∷◌, ◌++◌, None, map, length, length-append, ap, sym, ◌∙◌, subst, arith, SFits, w64}
use Rattle.std.specs.Prelude.{◌<ℤ◌}
use Rattle.std.proofs.lemmas.Int.{to_z-of_z}
use Rattle.std.proofs.lemmas.List.{map-append}
use Rattle.row_checker.specs.Rows.{LinearRow, row_in}
use Rattle.row_checker.specs.Trees.{high_row, tree_ends}
use Rattle.row_checker.specs.inside.Paths.{IsAt, left_over}
use Rattle.row_checker.proofs.Climbing.{turns_high, turns_low}
use Rattle.row_checker.proofs.tree.turn.Goals as goal

pub returns-in_default-most-clause-turned : goal.returns-in_default-most-clause-turned
returns-in_default-most-clause-turned c = λ n numbers given all q room at.
    let rows : List LinearRow = map row_in c.args.rows.now.items in
    let init : List LinearRow = map row_in c.pop.new.self.items in
    let row : LinearRow = row_in c.in-Some.row in
    let is : rows ≡ init ++ row ∷ [] = ap (map row_in) c.in-Some.ensures.items ∙ map-append row_in c.pop.new.self.items (c.in-Some.row ∷ []) in
    let most : row.most ≡ None = c.in_default-most.is in
    turns_high n numbers given rows init at.path row all q at.are at.deep at.less at.ends is
    (omega (arith, room, ap length is, length-append init (row ∷ []))) most

pub returns-clause-turned : goal.returns-clause-turned
returns-clause-turned c = λ n numbers given all q room at.
    let rows : List LinearRow = map row_in c.args.rows.now.items in
    let init : List LinearRow = map row_in c.pop.new.self.items in
    let row : LinearRow = row_in c.in-Some.row in
    let t : ℤ = c.in-Some-most.most in
    let is : rows ≡ init ++ row ∷ [] = ap (map row_in) c.in-Some.ensures.items ∙ map-append row_in c.pop.new.self.items (c.in-Some.row ∷ []) in
    let f : SFits w64 t = search rules in
    let low = turns_low n numbers given rows init at.path row all q t at.are at.deep at.less at.ends is
    (omega (arith, room, ap length is, length-append init (row ∷ []))) c.in-Some-most.is in
    let high : t <ℤ pos (2 ^ 63 - 1) → row_in c.high_row.result ≡ high_row row.terms t = simp to_z-of_z at c.high_row.ensures in
    let grown : map row_in c.push.new.self.items ≡ init ++ high_row row.terms t ∷ [] =
    ap (map row_in) c.in_ok-push.ensures.items ∙ map-append row_in c.pop.new.self.items (c.high_row.result ∷ [])
    ∙ ap (λ r. init ++ r ∷ []) (high low.0) in
    subst (λ l. IsAt n numbers given l all (tree_ends n numbers (left_over given l) l q)) (sym grown) low.1
