use Rattle.std.proofs.Common.{◌≡◌, ◌∙◌, ap₂, codes, rules}
use Rattle.std.proofs.lemmas.Result.{IfOk-weaker}
use Rattle.clap.specs.Words.{app_of, new_app, with_rule}
use Rattle.command_line.specs.Words.{flag_rule, input_rule}
use Rattle.command_line.proofs.words.plain_solve_command.Goals as goal

pub returns : goal.returns
returns c =
    let plain : app_of c.after_help.result ≡ new_app (codes "solve") = search rules in
    let first : app_of c.in_ok-arg.field-0 ≡ with_rule (new_app (codes "solve")) (flag_rule (codes "sparse")) =
    c.in_ok-arg.ensures.shape (search rules) ∙ ap₂ with_rule plain c.sparse_flag.ensures.rule in
    let second : app_of c.in_ok-arg-2.field-0 ≡ with_rule (with_rule (new_app (codes "solve"))
    (flag_rule (codes "sparse"))) input_rule = c.in_ok-arg-2.ensures.shape (search rules) ∙
    ap₂ with_rule first c.input_option.ensures.rule in
    let third : app_of c.in_ok-arg-3.field-0 ≡ with_rule
    (with_rule (with_rule (new_app (codes "solve")) (flag_rule (codes "sparse"))) input_rule)
    (flag_rule (codes "max")) = c.in_ok-arg-3.ensures.shape (search rules) ∙
    ap₂ with_rule second c.flag.ensures.rule in
    let fourth : app_of c.in_ok-arg-4.field-0 ≡ with_rule
    (with_rule (with_rule (with_rule (new_app (codes "solve")) (flag_rule (codes "sparse"))) input_rule)
    (flag_rule (codes "max"))) (flag_rule (codes "prices")) = c.in_ok-arg-4.ensures.shape (search rules) ∙
    ap₂ with_rule third c.flag-2.ensures.rule in
    IfOk-weaker c.arg-5.result _ _ (λ r h. h.shape (search rules) ∙ ap₂ with_rule fourth c.start_option.ensures.rule) c.arg-5.ensures
