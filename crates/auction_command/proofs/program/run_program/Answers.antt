use Rattle.std.proofs.Common.{codes, refl}
use Rattle.auction_command.proofs.program.run_program.Goals as goal

pub returns-in-Err-NoText-clause-errors : goal.returns-in-Err-NoText-clause-errors
returns-in-Err-NoText-clause-errors g c = rw c.in-Err-NoText.is (codes "error: the words are no text\n", refl, c.write_error.ensures)

pub returns-in-Ok-clause-output : goal.returns-in-Ok-clause-output
returns-in-Ok-clause-output g c = rw (c.in-Ok.is, ← c.as_slice.ensures.value) c.run_words.ensures.output

pub returns-in-Ok-clause-errors : goal.returns-in-Ok-clause-errors
returns-in-Ok-clause-errors g c = rw (c.in-Ok.is, ← c.as_slice.ensures.value) c.run_words.ensures.errors

pub returns-in-Ok-clause-unread : goal.returns-in-Ok-clause-unread
returns-in-Ok-clause-unread g c = rw (c.in-Ok.is, ← c.as_slice.ensures.value) c.run_words.ensures.unread
