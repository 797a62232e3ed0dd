use Rattle.std.proofs.Common.{◌≡◌, ◌∙◌, ap₂, codes, rules}
use Rattle.std.proofs.lemmas.Result.{IfOk-weaker}
use Rattle.clap.specs.Words.{app_of, new_app, with_rule}
use Rattle.command_line.specs.Words.{flag_rule, input_rule, optional_rule}
use Rattle.command_line.proofs.words.verify_command.Goals as goal

pub returns : goal.returns
returns c =
    let plain : app_of c.after_help.result ≡ new_app (codes "verify") = search rules in
    let first : app_of c.in_ok-arg.field-0 ≡ with_rule (new_app (codes "verify")) (flag_rule (codes "sparse")) =
    c.in_ok-arg.ensures.shape (search rules) ∙ ap₂ with_rule plain c.sparse_flag.ensures.rule in
    let second : app_of c.in_ok-arg-2.field-0 ≡ with_rule (with_rule (new_app (codes "verify"))
    (flag_rule (codes "sparse"))) input_rule = c.in_ok-arg-2.ensures.shape (search rules) ∙
    ap₂ with_rule first c.input_option.ensures.rule in
    let third : app_of c.in_ok-arg-3.field-0 ≡ with_rule
    (with_rule (with_rule (new_app (codes "verify")) (flag_rule (codes "sparse"))) input_rule)
    (optional_rule (codes "sense")) = c.in_ok-arg-3.ensures.shape (search rules) ∙
    ap₂ with_rule second c.sense_option.ensures.rule in
    IfOk-weaker c.arg-4.result _ _ (λ r h. h.shape (search rules) ∙ ap₂ with_rule third c.report_argument.ensures.rule) c.arg-4.ensures
