use Rattle.rounds.proofs.Phasing.{next_rests}
use Rattle.solver_tests.proofs.by_rounds.round_by_round.show_round.Goals as goal

pub run_round-requires-clause-rest : goal.run_round-requires-clause-rest
run_round-requires-clause-rest c = next_rests c.args.book.now c.begin_next_if_over.new.book c.requires.rest
    c.in_ok-begin_next_if_over.ensures.ok c.in_ok-begin_next_if_over.ensures.free
