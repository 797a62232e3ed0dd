use Rattle.std.proofs.Common.{◌≡◌, ◌∙◌, ap}
use Rattle.clap.specs.Simple.{app_of_fields}
use Rattle.clap.specs.Words.{App, app_of}
use Rattle.command_line.specs.Words.{program}
use Rattle.command_line.specs.inside.Words.{with_version}
use Rattle.command_line.proofs.words.command.Goals as goal

pub returns-clause-program : goal.returns-clause-program
returns-clause-program c =
    let plain = c.in_ok-unversioned_command.ensures in
    let shown : app_of c.version.result ≡ with_version (app_of c.in_ok-unversioned_command.field-0) = ap app_of_fields c.version.ensures in
    (plain.0, shown ∙ ap with_version plain.1)
