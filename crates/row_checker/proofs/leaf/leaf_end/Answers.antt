use Rattle.std.proofs.Common.{rules, ◌≡◌, ℕ, ℤ, pos, false, List, ◌++◌, min, ◌<◌, ◌^◌, ◌-◌, map, length, ap, arith, SFits, subst, ◌∙◌, inl, inr}
use Rattle.std.specs.Int.{w128}
use Rattle.std.specs.Prelude.{if◌then◌else◌, int_lt, ◌&&◌}
use Rattle.row_checker.specs.declared.leaf.LeafEnd.TheVariants.{Shows, Lacks}
use Rattle.std.proofs.lemmas.Bool.{cases_lt}
use Rattle.std.proofs.lemmas.Int.{to_z-of_z}
use Rattle.std.proofs.lemmas.List.{get_or_past}
use Rattle.row_checker.specs.Rows.{LinearRow, row_in}
use Rattle.row_checker.specs.Leaves.{greatest, has_sides, size, touched_by, weight}
use Rattle.row_checker.specs.inside.Weights.{is_among}
use Rattle.row_checker.proofs.Draining.{greatest_is, weight_none}
use Rattle.row_checker.proofs.Ending.{end_is}
use Rattle.row_checker.proofs.leaf.leaf_end.Goals as goal

pub drain-most-requires : goal.drain-most-requires
drain-most-requires c = λ k none.
    let rows : List LinearRow = map row_in c.args.rows.now in
    let ms = c.args.multiples.now in
    let t : c.as_slice.result.now ≡ touched_by rows ms = c.as_slice.ensures.value ∙ c.in_ok-touch_rows.ensures ∙
    ap (λ l. l ++ touched_by rows ms) c.clear.ensures.items in
    let z = weight_none rows ms k (subst (λ l. is_among k l ≡ false) t none) in
    elim (cases_lt k (length c.args.weights.now)) [
      | inl lt ↦ c.add_rows.ensures k lt ∙ z
      | inr ge ↦ get_or_past c.add_rows.new.weights k (pos 0) (omega arith)
    ]

pub returns-clause-end : goal.returns-clause-end
returns-clause-end c =
    let rows : List LinearRow = map row_in c.args.rows.now in
    let ms = c.args.multiples.now in
    let n = length c.args.weights.now in
    let b : ℤ = c.bound_of-bound.result in
    let most : ℕ = c.drain-most.result in
    let fits : SFits w128 b = search rules in
    let long : length c.add_rows.new.weights ≡ n = search rules in
    let small : size rows ms < 2 ^ 127 = omega (arith, c.size_of.ensures, c.if-size_of.false) in
    let cut : most ≡ min (greatest n (weight rows ms)) (2 ^ 128 - 1) =
    c.drain-most.ensures.sum ∙ ap (λ g. min g (2 ^ 128 - 1)) (greatest_is c.add_rows.new.weights (weight rows ms)
    (λ k lt. c.add_rows.ensures k (omega (arith, lt, long))) ∙ ap (λ l. greatest l (weight rows ms)) long) in
    let below : c.is_below.result ≡ int_lt (pos most) b = simp to_z-of_z at c.is_below.ensures in
    c.shown.ensures ∙ ap (λ h. if h && c.is_below.result then Shows else Lacks) c.have_sides-have_sides.ensures
    ∙ ap (λ t. if has_sides rows ms && t then Shows else Lacks) below
    ∙ end_is n rows ms most b small cut c.bound_of-bound.ensures fits
