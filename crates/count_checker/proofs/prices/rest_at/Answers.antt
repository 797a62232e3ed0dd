use Rattle.std.proofs.Common.{rules, ◌≡◌, ◌-ℤ◌, ◌-◌, ◌<◌, ℕ, pos, get_or, length, SFits, w64, arith, refl, sym, ◌∙◌, subst}
use Rattle.std.specs.Int.{w128}
use Rattle.std.proofs.lemmas.Int.{ints, to_z-of_z}
use Rattle.cost_lists.specs.Own.{minimised}
use Rattle.assign_core.specs.Numbered.{IsNumber}
use Rattle.dual_checker.proofs.Places.{at_place}
use Rattle.count_checker.proofs.prices.rest_at.Goals as goal

pub returns : goal.returns
returns c =
    let l = c.args.lists in
    let k = c.args.place in
    let i : ℕ = get_or l.rows.now k 0 in
    let j : ℕ = get_or l.columns.now k 0 in
    let lists = c.requires.lists in
    let row : IsNumber (length c.args.row_prices.now) i = subst (λ n. IsNumber n i) (sym c.requires.rows) (lists.rows_in k 0 c.requires.place) in
    let inside : k < length l.columns.now = let e = lists.columns_long in let p = c.requires.place in omega arith in
    let long : length c.args.column_prices.now ≡ length l.groups.now = c.requires.columns ∙ sym lists.groups_long in
    let column : IsNumber (length c.args.column_prices.now) j = subst (λ n. IsNumber n j) (sym long) (lists.columns_in k 0 inside) in
    let r = at_place c.args.row_prices.now i (i - 1) (pos 0) row refl in
    let v = at_place c.args.column_prices.now j (j - 1) (pos 0) column refl in
    let a : SFits w64 c.cost_at.result = search rules in
    let b : SFits w64 (get_or c.args.row_prices.now (i - 1) (pos 0)) = search rules in
    let d : SFits w64 (get_or c.args.column_prices.now (j - 1) (pos 0)) = search rules in
    let f : SFits w128 c.rest.result = search rules in
    let t : c.cost_at.result ≡ minimised l.sense (get_or l.costs.now k (pos 0)) = c.cost_at.ensures in
    let e : c.rest.result ≡ c.cost_at.result -ℤ get_or c.args.row_prices.now (i - 1) (pos 0) -ℤ get_or c.args.column_prices.now (j - 1) (pos 0) = simp to_z-of_z at c.rest.ensures in
    simp to_z-of_z (omega (arith, ints))
