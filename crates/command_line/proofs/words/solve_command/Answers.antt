use Rattle.std.proofs.Common.{◌≡◌, ◌∙◌, ap₂, codes, rules}
use Rattle.std.proofs.lemmas.Result.{IfOk-weaker}
use Rattle.clap.specs.Words.{app_of, with_rule}
use Rattle.command_line.specs.Words.{method_rule, numbered_rule, plain_solve_app, valued_rule}
use Rattle.command_line.specs.declared.words.TheConstants.{MOST_REFRESH, MOST_WORKERS}
use Rattle.command_line.proofs.words.solve_command.Goals as goal

pub returns : goal.returns
returns c =
    let at = c.method_option.ensures.rule.0 in
    let method : app_of c.in_ok-arg.field-0 ≡ with_rule plain_solve_app (method_rule at) =
    c.in_ok-arg.ensures.shape (search rules) ∙ ap₂ with_rule c.in_ok-plain_solve_command.ensures
    c.method_option.ensures.rule.1 in
    let mode : app_of c.in_ok-arg-2.field-0 ≡ with_rule (with_rule plain_solve_app (method_rule at))
    (valued_rule (codes "mode") (codes "rounds")) = c.in_ok-arg-2.ensures.shape (search rules) ∙
    ap₂ with_rule method c.valued.ensures.rule in
    let workers : app_of c.in_ok-arg-3.field-0 ≡ with_rule (with_rule (with_rule plain_solve_app (method_rule at))
    (valued_rule (codes "mode") (codes "rounds"))) (numbered_rule (codes "workers") (codes "4")
    1 MOST_WORKERS) = c.in_ok-arg-3.ensures.shape (search rules) ∙ ap₂ with_rule mode c.numbered.ensures.rule in
    let refresh : app_of c.in_ok-arg-4.field-0 ≡ with_rule
    (with_rule (with_rule (with_rule plain_solve_app (method_rule at)) (valued_rule (codes "mode")
    (codes "rounds"))) (numbered_rule (codes "workers") (codes "4") 1 MOST_WORKERS))
    (numbered_rule (codes "refresh") (codes "1") 0 MOST_REFRESH) = c.in_ok-arg-4.ensures.shape (search rules) ∙
    ap₂ with_rule workers c.numbered-2.ensures.rule in
    IfOk-weaker c.arg-5.result _ _ (λ r h. (at, h.shape (search rules) ∙ ap₂ with_rule refresh c.flag.ensures.rule)) c.arg-5.ensures
