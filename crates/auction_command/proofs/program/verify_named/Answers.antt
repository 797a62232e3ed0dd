use Rattle.std.proofs.Common.{Some, option_map, subst}
use Rattle.std.specs.String.{string_bytes}
use Rattle.command_line.specs.declared.words.Words.TheVariants.{Verify}
use Rattle.auction_command.specs.Program.{Opens}
use Rattle.auction_command.proofs.Ends.{file_text, no_input_done, standard_text, verify_done}
use Rattle.auction_command.proofs.program.verify_named.Goals as goal

pub returns-in-Err-clause-output : goal.returns-in-Err-clause-output
returns-in-Err-clause-output g c = λ name opened.
    no_input_done (Verify c.args.verifier.sparse c.args.verifier.sense name c.args.input)
    (g.R.Read.remaining c.args.devices.now.input) (g.F.Files.may_open c.args.devices.now.files)
    (Some (g.F.File.Read.remaining c.args.report)) (g.W.Write.contents c.args.devices.now.outputs.output)
    c.in-Err.absent c.report_absent.result c.in-Err.ensures.err c.report_absent.ensures.end opened

pub returns-in-Ok-None-clause-output : goal.returns-in-Ok-None-clause-output
returns-in-Ok-None-clause-output g c = λ name opened.
    let files = g.F.Files.may_open c.args.devices.now.files in
    let wanted = option_map string_bytes c.args.input in
    let standard = g.R.Read.remaining c.args.devices.now.input in
    let is = subst (λ file. Opens files wanted (option_map g.F.File.Read.remaining file)) c.in-Ok-None.field-0-is c.in-Ok-None.ensures.ok in
    verify_done c.args.verifier name c.args.input standard standard files _ _ _ c.verify.result opened
    (standard_text files wanted standard g.F.File.Read.remaining is) c.verify.ensures.output

pub returns-in-Ok-Some-clause-output : goal.returns-in-Ok-Some-clause-output
returns-in-Ok-Some-clause-output g c = λ name opened.
    let files = g.F.Files.may_open c.args.devices.now.files in
    let wanted = option_map string_bytes c.args.input in
    let standard = g.R.Read.remaining c.args.devices.now.input in
    let is = subst (λ file. Opens files wanted (option_map g.F.File.Read.remaining file)) c.in-Ok-Some.field-0-is c.in-Ok-Some.ensures.ok in
    verify_done c.args.verifier name c.args.input standard (g.F.File.Read.remaining c.in-Ok-Some.input)
    files _ _ _ c.verify-in-Ok-Some.result opened (file_text files wanted standard g.F.File.Read.remaining
    c.in-Ok-Some.input is) c.verify-in-Ok-Some.ensures.output
