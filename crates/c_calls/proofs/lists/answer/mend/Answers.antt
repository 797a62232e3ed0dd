use Rattle.std.proofs.Common.{◌≡◌, ℤ, IsTrue, SFits, w64, refl, rules, sym, subst, ap, ◌∙◌}
use Rattle.std.proofs.lemmas.Int.{to_z-of_z}
use Rattle.list_solver.specs.declared.found.Found.TheVariants.{Best}
use Rattle.plan_repair.specs.Mended.{IsMended}
use Rattle.c_calls.specs.declared.lists.form.Form.TheVariants.{Dense}
use Rattle.c_calls.specs.lists.Answers.{IsSearched}
use Rattle.c_calls.specs.lists.Input.{InputLists}
use Rattle.c_calls.proofs.MendedPlans.{ended, mended_searched}
use Rattle.c_calls.proofs.lists.answer.mend.Goals as goal

pub returns : goal.returns
returns c =
    let g = c.args.input.now in
    let shape = c.args.shape in
    let mended = c.in-Ok-Some.mended in
    let dense : g.form ≡ Dense = sym (ap (λ (i : InputLists). i.form) c.input.view_is) ∙ c.in-Dense.is in
    let yes : IsTrue c.may_mend.result = rw c.if-not-may_mend.false refl in
    let Holds : InputLists → Type 0 = λ i. IsMended shape.sense shape.n shape.m i.costs mended in
    let holds = rw c.in-Ok-Some.field-0-is at c.in-Ok-Some.ensures in
    let Ends : ℤ → Type 0 = λ sum. IsSearched g c.args.budget (record (ended shape mended c.cold.result) { found = Best sum }) in
    let fits : SFits w64 c.in-Ok-Some.mended.total = search rules in
    subst Ends (sym (to_z-of_z w64 c.in-Ok-Some.mended.total fits))
    (mended_searched g shape c.args.budget mended c.cold.result dense c.requires (c.may_mend.ensures yes)
    (subst Holds c.input.view_is holds))
