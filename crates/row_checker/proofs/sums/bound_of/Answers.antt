use Rattle.std.proofs.Common.{rules, ◌≡◌, ◌+◌, ◌<◌, ◌^◌, ℤ, ◌+ℤ◌, ◌*ℤ◌, List, ◌∷◌, drop, map, get_or, ap, arith, SFits, w64, pos, subst, sym, ◌∙◌, to_z}
use Rattle.std.specs.Int.{w128}
use Rattle.std.specs.Int.RustNames.{unsigned_abs}
use Rattle.std.proofs.lemmas.Int.{ints, to_z-of_z, fits_signed_from_abs}
use Rattle.std.proofs.lemmas.List.{drop_all, drop_more}
use Rattle.row_checker.specs.declared.row.Multiple.{Multiple}
use Rattle.row_checker.specs.Leaves.{bound, side_or_0}
use Rattle.row_checker.specs.Rows.{LinearRow, row_in}
use Rattle.row_checker.proofs.Weighing.{IsBounding, side_added, side_fits}
use Rattle.row_checker.proofs.sums.bound_of.Goals as goal

pub overflow_add-sum : goal.overflow_add-sum
overflow_add-sum c =
    let i = c.loop-multiple.multiple-index in
    let ms = c.args.multiples.now in
    let rows : List LinearRow = map row_in c.args.rows.now in
    let m : Multiple = get_or ms i (record { of = 0; times = pos 0 }) in
    let before : ℤ = to_z w128 c.loop-multiple.sum-bits in
    let fm : SFits w64 m.times = search rules in
    let fs : SFits w64 c.side_of_multiple-side.result = search rules in
    let fp : SFits w128 c.product-sum.result = search rules in
    let p : c.product-sum.result ≡ m.times *ℤ c.side_of_multiple-side.result = simp to_z-of_z at c.product-sum.ensures in
    let x : c.product-sum.result ≡ m.times *ℤ side_or_0 rows m = p ∙ ap (λ v. m.times *ℤ v) c.side_of_multiple-side.ensures in
    let d : IsBounding rows before ms (m ∷ drop (i + 1) ms) = subst (IsBounding rows before ms)
    (drop_more ms i _ c.loop-multiple-test.true) c.loop-multiple.invariant in
    let fits : SFits w128 (before +ℤ c.product-sum.result) =
    fits_signed_from_abs w128 _ (subst (λ v. unsigned_abs (before +ℤ v) < 2 ^ 127) (sym x)
    (side_fits rows before ms (drop (i + 1) ms) m d)) in
    simp to_z-of_z fits

pub loop-multiple-preserved : goal.loop-multiple-preserved
loop-multiple-preserved c =
    let i = c.loop-multiple.multiple-index in
    let ms = c.args.multiples.now in
    let rows : List LinearRow = map row_in c.args.rows.now in
    let m : Multiple = get_or ms i (record { of = 0; times = pos 0 }) in
    let before : ℤ = to_z w128 c.loop-multiple.sum-bits in
    let fm : SFits w64 m.times = search rules in
    let fs : SFits w64 c.side_of_multiple-side.result = search rules in
    let fp : SFits w128 c.product-sum.result = search rules in
    let p : c.product-sum.result ≡ m.times *ℤ c.side_of_multiple-side.result = simp to_z-of_z at c.product-sum.ensures in
    let x : c.product-sum.result ≡ m.times *ℤ side_or_0 rows m = p ∙ ap (λ v. m.times *ℤ v) c.side_of_multiple-side.ensures in
    let d : IsBounding rows before ms (m ∷ drop (i + 1) ms) = subst (IsBounding rows before ms)
    (drop_more ms i _ c.loop-multiple-test.true) c.loop-multiple.invariant in
    let fits : SFits w128 (before +ℤ c.product-sum.result) =
    fits_signed_from_abs w128 _ (subst (λ v. unsigned_abs (before +ℤ v) < 2 ^ 127) (sym x)
    (side_fits rows before ms (drop (i + 1) ms) m d)) in
    let s : IsBounding rows (before +ℤ c.product-sum.result) ms (drop (i + 1) ms) =
    side_added rows before (before +ℤ c.product-sum.result) ms (drop (i + 1) ms) m d (ap (λ v. before +ℤ v) x) in
    simp to_z-of_z s

pub returns : goal.returns
returns c =
    let rows : List LinearRow = map row_in c.args.rows.now in
    let n : bound rows (drop c.loop-multiple.multiple-index c.args.multiples.now) ≡ pos 0 =
    ap (bound rows) (drop_all c.loop-multiple.multiple-index c.args.multiples.now
    (omega (arith, c.loop-multiple-test.false))) in
    let h = c.loop-multiple.invariant.sums in
    omega (arith, ints)
