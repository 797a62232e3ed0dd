use Rattle.std.proofs.Common.{option_map, subst}
use Rattle.std.specs.String.{string_bytes}
use Rattle.auction_command.specs.Program.{Opens}
use Rattle.auction_command.proofs.Ends.{file_text, solve_done, standard_text}
use Rattle.auction_command.proofs.program.solve_named.Goals as goal

pub returns-in-Ok-None-clause-output : goal.returns-in-Ok-None-clause-output
returns-in-Ok-None-clause-output g c = λ name progress opened.
    let files = g.F.Files.may_open c.args.devices.now.files in
    let wanted = option_map string_bytes c.args.input in
    let standard = g.R.Read.remaining c.args.devices.now.input in
    let is = subst (λ file. Opens files wanted (option_map g.F.File.Read.remaining file)) c.in-Ok-None.field-0-is c.in-Ok-None.ensures.ok in
    solve_done c.args.solver name c.args.input progress standard standard files _ _ _ c.solve.result opened
    (standard_text files wanted standard g.F.File.Read.remaining is) c.solve.ensures.output

pub returns-in-Ok-Some-clause-output : goal.returns-in-Ok-Some-clause-output
returns-in-Ok-Some-clause-output g c = λ name progress opened.
    let files = g.F.Files.may_open c.args.devices.now.files in
    let wanted = option_map string_bytes c.args.input in
    let standard = g.R.Read.remaining c.args.devices.now.input in
    let is = subst (λ file. Opens files wanted (option_map g.F.File.Read.remaining file)) c.in-Ok-Some.field-0-is c.in-Ok-Some.ensures.ok in
    solve_done c.args.solver name c.args.input progress standard (g.F.File.Read.remaining c.in-Ok-Some.input)
    files _ _ _ c.solve-in-Ok-Some.result opened (file_text files wanted standard g.F.File.Read.remaining
    c.in-Ok-Some.input is) c.solve-in-Ok-Some.ensures.output
