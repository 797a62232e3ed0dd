use Rattle.std.proofs.Common.{◌≡◌, ℕ, ℤ, List, Some, None, pos, ◌<◌, ◌+◌, ◌*◌, ◌≤ℤ◌, ◌<ℤ◌, length, map, get_or, refl, arith, rules, sym, ap, subst, ◌∙◌, SFits}
use Rattle.std.specs.Int.{w128}
use Rattle.std.proofs.lemmas.Int.{to_z-of_z}
use Rattle.std.proofs.lemmas.List.{length-map}
use Rattle.assign_core.specs.Dense.{rows_cut}
use Rattle.cost_lists.specs.Source.{part_of}
use Rattle.cost_lists.proofs.CutRows.{part_fits, part_long}
use Rattle.exact_checker.specs.inside.Sums.{sum_at}
use Rattle.wide_checker.specs.WideNumbers.{wide_value}
use Rattle.exact_checker.proofs.Better.{under_shown}
use Rattle.exact_checker.proofs.RowSums.{first_under_is, none_more, none_under}
use Rattle.wide_checker.proofs.rows.first_of_rows.Goals as goal

pub returns-in-Some : goal.returns-in-Some
returns-in-Some c =
    let i : ℕ = c.loop-i.i in
    let j : ℕ = c.in-Some.j in
    let sense = c.args.sense in
    let costs : List ℤ = map wide_value c.args.costs.now in
    let prices : List ℤ = map wide_value c.args.prices.now in
    let values = c.args.values.now in
    let n : ℕ = length values in
    let same : length prices ≡ length c.args.prices.now = length-map c.args.prices.now wide_value in
    let long : length costs ≡ n * length prices = length-map c.args.costs.now wide_value ∙ c.requires.costs.long ∙ ap (λ m. n * m) (sym same) in
    let v : SFits w128 (get_or values i (pos 0)) = search rules in
    let found = simp to_z-of_z at c.in-Some.ensures in
    let whole = length-map c.part-row.result.now wide_value in
    let P : List ℤ → Type 0 = λ r. (j < length r) × (sum_at sense r prices j <ℤ get_or values i (pos 0)) ×
    ((q : ℕ) → q < j → get_or values i (pos 0) ≤ℤ sum_at sense r prices q) in
    let room : j < length (map wide_value c.part-row.result.now) = let lt = found.0 in omega arith in
    let there : P (part_of (length c.args.prices.now) i costs) = subst P c.part-row.ensures.values (room, found.1, found.2) in
    let h : P (part_of (length prices) i costs) = subst (λ m. P (part_of m i costs)) (sym same) there in
    let full = part_long (length prices) i costs (part_fits n (length prices) i costs long c.loop-i-test.true) in
    let lt = h.0 in
    under_shown sense sense (rows_cut (length prices) n costs) (rows_cut (length c.args.prices.now) n costs) n n
    (length prices) (length c.args.prices.now) prices values (Some (i + 1, j + 1)) refl (ap (λ m. rows_cut m n costs) same) refl same
    (first_under_is sense costs prices values long i j c.loop-i-test.true (omega arith) c.loop-i.invariant h.1 h.2)

pub loop-i-preserved : goal.loop-i-preserved
loop-i-preserved c =
    let i : ℕ = c.loop-i.i in
    let sense = c.args.sense in
    let costs : List ℤ = map wide_value c.args.costs.now in
    let prices : List ℤ = map wide_value c.args.prices.now in
    let values = c.args.values.now in
    let same : length prices ≡ length c.args.prices.now = length-map c.args.prices.now wide_value in
    let v : SFits w128 (get_or values i (pos 0)) = search rules in
    let none = simp to_z-of_z at c.in_default.ensures in
    let whole = length-map c.part-row.result.now wide_value in
    let P : List ℤ → Type 0 = λ r. (q : ℕ) → q < length r → get_or values i (pos 0) ≤ℤ sum_at sense r prices q in
    let there : P (part_of (length c.args.prices.now) i costs) = subst P c.part-row.ensures.values (λ q lt. none q (omega arith)) in
    let h : P (part_of (length prices) i costs) = subst (λ m. P (part_of m i costs)) (sym same) there in
    let long : length costs ≡ length values * length prices =
    length-map c.args.costs.now wide_value ∙ c.requires.costs.long ∙ ap (λ m. length values * m) (sym same) in
    let full = part_long (length prices) i costs (part_fits (length values) (length prices) i costs long c.loop-i-test.true) in
    none_more sense costs prices values i c.loop-i.invariant (λ j room. h j (omega arith))

pub returns : goal.returns
returns c =
    let sense = c.args.sense in
    let costs : List ℤ = map wide_value c.args.costs.now in
    let prices : List ℤ = map wide_value c.args.prices.now in
    let values = c.args.values.now in
    let n : ℕ = length values in
    let same : length prices ≡ length c.args.prices.now = length-map c.args.prices.now wide_value in
    let long : length costs ≡ n * length prices = length-map c.args.costs.now wide_value ∙ c.requires.costs.long ∙ ap (λ m. n * m) (sym same) in
    under_shown sense sense (rows_cut (length prices) n costs) (rows_cut (length c.args.prices.now) n costs) n n
    (length prices) (length c.args.prices.now) prices values None refl (ap (λ m. rows_cut m n costs) same) refl same
    (none_under sense costs prices values long c.loop-i.i c.loop-i.invariant c.loop-i-test.false)
