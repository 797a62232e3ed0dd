use Rattle.std.proofs.Common.{◌≡◌, ◌∙◌, ap, ap₂, rules}
use Rattle.std.proofs.lemmas.Result.{IfOk-weaker}
use Rattle.clap.specs.Words.{App, app_of, with_rule, with_subcommand}
use Rattle.clap.proofs.SimpleLemmas.{plain_fields}
use Rattle.command_line.specs.Words.{bare_program, plain_program, solve_app}
use Rattle.command_line.specs.inside.Words.{without_version}
use Rattle.command_line.proofs.words.unversioned_command.Goals as goal

pub returns : goal.returns
returns c =
    let at = c.in_ok-solve_command.ensures.0 in
    let plain : app_of c.subcommand_required.result ≡ without_version plain_program = search rules in
    let start : app_of c.in_ok-arg.field-0 ≡ without_version bare_program = c.in_ok-arg.ensures.shape (search rules)
    ∙ ap₂ with_rule plain c.version_flag.ensures.rule in
    let solve = ap (λ (a : App). a.top) c.in_ok-solve_command.ensures.1 in
    let verify = ap (λ (a : App). a.top) c.in_ok-verify_command.ensures in
    let first : app_of c.in_ok-subcommand.field-0 ≡ with_subcommand (without_version bare_program)
    (solve_app at).top = c.in_ok-subcommand.ensures.shape (plain_fields c.in_ok-solve_command.field-0
    (ap (λ (a : App). a.top.is_plain) c.in_ok-solve_command.ensures.1)).globals ∙ ap₂ with_subcommand start solve in
    IfOk-weaker c.subcommand-2.result _ _
    (λ r h. (
      at,
      h.shape (plain_fields c.in_ok-verify_command.field-0 (ap (λ (a : App). a.top.is_plain)
          c.in_ok-verify_command.ensures)).globals ∙ ap₂ with_subcommand first verify,
    )) c.subcommand-2.ensures
