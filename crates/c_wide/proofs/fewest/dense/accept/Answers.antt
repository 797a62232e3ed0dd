use Rattle.std.proofs.Common.{◌≡◌, ℕ, ℤ, pos, ◌*◌, List, length, map, get_or, refl, true, nat_eq, arith, rules, ap, sym, subst, ◌∙◌, IsTrue}
use Rattle.std.specs.List.{All, IsDistinct}
use Rattle.assign_core.specs.Assignment.{IsBest}
use Rattle.assign_core.specs.Dense.{rows_cut}
use Rattle.assign_core.specs.Numbered.{IsNumber}
use Rattle.cost_lists.specs.Exact.{AreFree}
use Rattle.cost_lists.specs.ListedCosts.{ListedCosts}
use Rattle.c_calls.specs.declared.lists.form.Form.{Form}
use Rattle.c_calls.specs.declared.lists.form.Form.TheVariants.{Dense}
use Rattle.c_calls.specs.lists.Input.{HasPairs, InputLists}
use Rattle.wide_checker.specs.WideNumbers.{IsInPrices, wide_value}
use Rattle.wide_checker.specs.WideOptimum.{IsWideOptimum}
use Rattle.c_wide.specs.fewest.Changes.{combined_lists, combined_rows}
use Rattle.c_wide.proofs.CombinedLists.{dense_lists}
use Rattle.c_wide.proofs.CombinedPlans.{optimum_at}
use Rattle.c_wide.proofs.fewest.dense.accept.Goals as goal

pub plan_of-requires : goal.plan_of-requires
plan_of-requires c =
    let g : InputLists = c.args.input.now in
    let s = c.args.shape in
    let kept : List ℕ = c.args.kept.now in
    let costs : List ℤ = c.input.inside.costs.now in
    let xs : List ℕ = c.as_slice-6.result.now in
    let own : List ℕ = c.args.found.objects.items in
    let prices : List ℤ = c.as_slice-5.result.now in
    let wide : List ℤ = map wide_value c.in_ok-wide.wide.items in
    let levels : List ℤ = c.as_slice-7.result.now in
    let costs_are : costs ≡ g.costs = ap (λ (i : InputLists). i.costs) c.input.view_is in
    let n_is : c.input.inside.n ≡ g.n = ap (λ (i : InputLists). i.n) c.input.view_is in
    let m_is : c.input.inside.m ≡ g.m = ap (λ (i : InputLists). i.m) c.input.view_is in
    let xs_are : xs ≡ own = c.as_slice-6.ensures.value in
    let prices_are : wide ≡ prices = c.in_ok-wide.ensures ∙ c.as_slice-2.ensures.value ∙ sym c.as_slice-5.ensures.value in
    let seen_are : map wide_value c.as_slice-4.result.now ≡ prices = ap (map wide_value) c.as_slice-4.ensures.value ∙ prices_are in
    let given_are : c.as_slice-3.result.now ≡ xs = c.as_slice-3.ensures.value ∙ sym xs_are in
    let persons = c.requires.shape.persons in
    let objects = c.requires.shape.objects in
    let kept_long : length kept ≡ s.n = c.requires.kept ∙ sym persons in
    let has : HasPairs Dense g = subst (λ (h : Form). HasPairs h g) c.requires.form c.requires.whole.shape.lengths.pairs in
    let long : length costs ≡ s.n * s.m =
    ap length costs_are ∙ has.2 ∙ ap (λ (k : ℕ). k * g.m) (sym persons) ∙ ap (λ (k : ℕ). s.n * k) (sym objects) in
    let xs_long : length xs ≡ s.n = ap length xs_are ∙ (let a = c.if-len-input.false in let b = c.len.ensures in omega arith) in
    let priced : length prices ≡ s.m =
    ap length c.as_slice-5.ensures.value ∙ (let a = c.if-len-input-2.false in let b = c.len-else-len-input.ensures in omega arith) in
    let within : All (IsNumber s.m) xs = search rules in
    let apart_yes : c.in_ok-are_apart.field-0 ≡ true = rw c.if-not-branch.false refl in
    let least_yes : IsTrue c.are_least.result = rw c.if-not-are_least.false refl in
    let apart : IsDistinct nat_eq xs = subst (IsDistinct nat_eq) given_are (c.in_ok-are_apart.ensures.apart apart_yes) in
    let in_range : All IsInPrices prices = subst (All IsInPrices) seen_are (c.in_ok-are_apart.ensures.range apart_yes) in
    let free : AreFree s.m prices xs = subst (AreFree s.m prices) given_are
    (subst (λ (p : List ℤ). AreFree s.m p c.as_slice-3.result.now) seen_are (c.in_ok-are_apart.ensures.free apart_yes)) in
    let each = c.in_ok-levels.ensures in
    let same : levels ≡ c.in_ok-levels.levels.items = c.as_slice-7.ensures.value in
    let least = c.are_least.ensures least_yes in
    let o = optimum_at s.sense s.n s.m kept costs kept_long long xs prices levels priced xs_long within (ap length same ∙ each.long ∙ xs_long)
    (λ i lt. ap (λ (v : List ℤ). get_or v i (pos 0)) same ∙ each.each i (omega (arith, lt, xs_long))) least apart in_range free in
    let Lists : List ℤ → ListedCosts = λ cs. record { sense = s.sense; m = s.m; rows = combined_rows s.sense s.n kept (rows_cut s.m s.n cs) } in
    let is : Lists costs ≡ combined_lists kept c.lists_of-lists.result =
    ap Lists costs_are ∙ dense_lists s.sense g kept c.requires.kept s.n s.m persons objects c.requires.form
    ∙ ap (combined_lists kept) (sym c.lists_of-lists.ensures.lists) in
    record {
      kept = c.requires.kept ∙ sym c.lists_of-lists.ensures.persons;
      optimum = subst (λ (l : ListedCosts). IsWideOptimum l own wide) is
          (subst (λ (x : List ℕ). IsWideOptimum (Lists costs) x wide) xs_are (subst (IsWideOptimum (Lists costs) xs) (sym prices_are) o.0));
      best = subst (λ (l : ListedCosts). IsBest l.sense l.rows own) is
          (subst (λ (x : List ℕ). IsBest s.sense (combined_rows s.sense s.n kept (rows_cut s.m s.n costs)) x) xs_are o.1);
    }
