use Rattle.std.proofs.Common.{rules, ◌≡◌, ℕ, ◌+◌, ◌<◌, ◌^◌, ◌+ℤ◌, ◌*ℤ◌, List, ◌∷◌, drop, map, get_or, length, ap, arith, SFits, w64, pos, subst, sym, ◌∙◌}
use Rattle.std.specs.Int.RustNames.{unsigned_abs}
use Rattle.std.proofs.lemmas.Int.{ints, to_z-of_z}
use Rattle.std.proofs.lemmas.List.{drop_all, drop_more}
use Rattle.row_checker.specs.declared.row.Multiple.{Multiple}
use Rattle.row_checker.specs.Leaves.{coefficient, terms_size, weight}
use Rattle.row_checker.specs.Rows.{LinearRow, row_in}
use Rattle.row_checker.proofs.Weighing.{IsWeighing, row_fits, row_weighed}
use Rattle.row_checker.proofs.sums.add_rows.Goals as goal

pub add_terms-requires : goal.add_terms-requires
add_terms-requires c =
    let i = c.loop-multiple.multiple-index in
    let ms = c.args.multiples.now in
    let n = length c.args.weights.now in
    let ws = c.loop-multiple.weights in
    let rows : List LinearRow = map row_in c.args.rows.now in
    let m : Multiple = get_or ms i (record { of = 0; times = pos 0 }) in
    let fm : SFits w64 m.times = search rules in
    let d : IsWeighing rows n ws ms (m ∷ drop (i + 1) ms) =
    subst (IsWeighing rows n ws ms) (drop_more ms i _ c.loop-multiple-test.true) c.loop-multiple.invariant in
    let all : (k : ℕ) → k < length ws → unsigned_abs (get_or ws k (pos 0)) + terms_size m.times c.terms_at.result.now < 2 ^ 127 =
    λ k lt. subst (λ t. unsigned_abs (get_or ws k (pos 0)) + terms_size m.times t < 2 ^ 127)
    (sym c.terms_at.ensures) (row_fits rows n ws ms (drop (i + 1) ms) m d k (omega (arith, lt))) in
    simp to_z-of_z all

pub loop-multiple-preserved : goal.loop-multiple-preserved
loop-multiple-preserved c =
    let i = c.loop-multiple.multiple-index in
    let ms = c.args.multiples.now in
    let n = length c.args.weights.now in
    let ws = c.loop-multiple.weights in
    let rows : List LinearRow = map row_in c.args.rows.now in
    let m : Multiple = get_or ms i (record { of = 0; times = pos 0 }) in
    let fm : SFits w64 m.times = search rules in
    let d : IsWeighing rows n ws ms (m ∷ drop (i + 1) ms) =
    subst (IsWeighing rows n ws ms) (drop_more ms i _ c.loop-multiple-test.true) c.loop-multiple.invariant in
    let added : (k : ℕ) → k < length ws → get_or c.add_terms.new.weights k (pos 0) ≡ get_or ws k (pos 0) +ℤ
    (m.times *ℤ coefficient k c.terms_at.result.now) = simp to_z-of_z at c.add_terms.ensures in
    row_weighed rows n ws c.add_terms.new.weights ms (drop (i + 1) ms) m d
    (λ k lt. added k (omega (arith, lt)) ∙ ap (λ t. get_or ws k (pos 0) +ℤ (m.times *ℤ coefficient k t)) c.terms_at.ensures)

pub loop-multiple-init : goal.loop-multiple-init
loop-multiple-init c = record {
  small = λ k lt.
      let z = ap unsigned_abs (c.requires.zero k) in
      let s = c.requires.small in
      omega arith;
  sums = λ k lt.
      let z = c.requires.zero k in
      omega (arith, ints);
}

pub returns : goal.returns
returns c = λ k lt.
    let rows : List LinearRow = map row_in c.args.rows.now in
    let e : weight rows (drop c.loop-multiple.multiple-index c.args.multiples.now) k ≡ pos 0 =
    ap (λ l. weight rows l k) (drop_all c.loop-multiple.multiple-index c.args.multiples.now
    (omega (arith, c.loop-multiple-test.false))) in
    let h = c.loop-multiple.invariant.sums k lt in
    omega (arith, ints)
