use Rattle.std.proofs.Common.{refl}
use Rattle.auction_command.proofs.verify.found_in.Goals as goal

pub returns-in_ok-verdict-in-Hall : goal.returns-in_ok-verdict-in-Hall
returns-in_ok-verdict-in-Hall c =
    let is = rw (c.as_slice-in-Hall.ensures.value, c.as_slice-in-Hall-2.ensures.value) at c.in_ok-verdict-in-Hall.ensures.verdict in
    rw c.in-Hall.is (c.in_ok-verdict-in-Hall.verdict, is, refl)
