use Rattle.std.proofs.Common.{◌≡◌, length, ap, sym, ◌∙◌, subst}
use Rattle.std.specs.Arc.{arc_value}
use Rattle.std.proofs.lemmas.Result.{IfOk-weaker}
use Rattle.scaled_values.specs.Scaled.{ScaledProblem}
use Rattle.auction_book.specs.Book.{prices_of}
use Rattle.candidates.specs.Candidates.{HaveCandidates}
use Rattle.rounds.specs.Rounds.{IsRound, plain_of}
use Rattle.rounds.specs.inside.Similar.{AreSimilar}
use Rattle.rounds.proofs.Listed.{lists_as}
use Rattle.rounds.specs.Outcomes.{IsOfRounds, IsOutcome, IsProof}
use Rattle.rounds.specs.Plain.{Finished, Halted}
use Rattle.rounds.proofs.Phasing.{next_rests}
use Rattle.rounds.proofs.Running.{mid_base, mid_prices, proof_of, running_first, running_halted, running_last, running_more, running_over, running_smaller}
use Rattle.rounds.proofs.rounds.run_rounds.Goals as goal

pub rounds-init : goal.rounds-init
rounds-init g c =
    let s = arc_value c.args.scaled in
    let n = c.n-n.ensures.count ∙ ap (λ (x : ScaledProblem). length x.problem) c.deref.ensures in
    let opened_is = ap prices_of c.in_ok-book.ensures.book in
    let deref = c.deref-3.ensures in
    let long : length c.args.prices ≡ length c.deref-3.result.now.problem = c.requires.long ∙ ap (λ (x : ScaledProblem). length x.problem) (sym deref) in
    record {
      running = running_first s c.args.prices c.n-n.result c.in_ok-book.book c.in_ok-book.ensures.book
          c.in_ok-book.ensures.free n;
      similar = subst (λ x. AreSimilar x c.in_ok-similar.similar) c.deref-2.ensures c.in_ok-similar.ensures;
      lists = lists_as s c.deref-3.result.now (prices_of c.in_ok-book.book) c.args.prices c.new-lists.result (sym deref) opened_is
          (c.new-lists.ensures c.args.prices c.as_slice-table.ensures.table long);
    }

pub finish-requires-clause-last : goal.finish-requires-clause-last
finish-requires-clause-last g c =
    let round = subst (λ r. IsRound c.begin_next_if_over.new.book r c.run_shared_round.new.book) c.in-Over.is c.in_ok-run_shared_round.ensures.round in
    running_last (arc_value c.args.scaled) c.args.prices c.rounds.book c.begin_next_if_over.new.book
    c.run_shared_round.new.book c.rounds.invariant.running c.in_ok-begin_next_if_over.ensures.ok round
    c.in_ok-run_shared_round.ensures.goes_on.base

pub returns-in-Over-clause-rounds : goal.returns-in-Over-clause-rounds
returns-in-Over-clause-rounds g c =
    let s = arc_value c.args.scaled in
    let new = c.run_shared_round.new.book in
    let round = subst (λ r. IsRound c.begin_next_if_over.new.book r new) c.in-Over.is c.in_ok-run_shared_round.ensures.round in
    IfOk-weaker c.finish.result (IsOutcome new.base (Finished (plain_of new))) (IsOfRounds s c.args.prices)
    (λ o h. running_over s c.args.prices c.rounds.book c.begin_next_if_over.new.book new o c.rounds.invariant.running
    c.in_ok-begin_next_if_over.ensures.ok round c.in_ok-run_shared_round.ensures.goes_on.base h) c.finish.ensures.outcome

pub returns-in-Over-clause-proof : goal.returns-in-Over-clause-proof
returns-in-Over-clause-proof g c =
    let s = arc_value c.args.scaled in
    let new = c.run_shared_round.new.book in
    IfOk-weaker c.finish.result (IsProof new.base) (IsProof s)
    (λ o h. proof_of s c.args.prices c.rounds.book c.begin_next_if_over.new.book new o c.rounds.invariant.running
    c.in_ok-begin_next_if_over.ensures.ok c.in_ok-run_shared_round.ensures.goes_on.base h) c.finish.ensures.proof

pub returns-in-Halted-clause-rounds : goal.returns-in-Halted-clause-rounds
returns-in-Halted-clause-rounds g c =
    let s = arc_value c.args.scaled in
    let new = c.run_shared_round.new.book in
    let person = c.in-Halted.person in
    let round = subst (λ r. IsRound c.begin_next_if_over.new.book r new) c.in-Halted.is c.in_ok-run_shared_round.ensures.round in
    IfOk-weaker c.halt.result (IsOutcome new.base (Halted person (plain_of new))) (IsOfRounds s c.args.prices)
    (λ o h. running_halted s c.args.prices c.rounds.book c.begin_next_if_over.new.book new person o
    c.rounds.invariant.running c.in_ok-begin_next_if_over.ensures.ok round c.in_ok-run_shared_round.ensures.goes_on.base h)
    c.halt.ensures.outcome

pub returns-in-Halted-clause-proof : goal.returns-in-Halted-clause-proof
returns-in-Halted-clause-proof g c =
    let s = arc_value c.args.scaled in
    let new = c.run_shared_round.new.book in
    IfOk-weaker c.halt.result (IsProof new.base) (IsProof s)
    (λ o h. proof_of s c.args.prices c.rounds.book c.begin_next_if_over.new.book new o c.rounds.invariant.running
    c.in_ok-begin_next_if_over.ensures.ok c.in_ok-run_shared_round.ensures.goes_on.base h) c.halt.ensures.proof

pub rounds-smaller : goal.rounds-smaller
rounds-smaller g c =
    let round = subst (λ r. IsRound c.begin_next_if_over.new.book r c.run_shared_round.new.book) c.in-More.is c.in_ok-run_shared_round.ensures.round in
    running_smaller c.rounds.book c.begin_next_if_over.new.book c.run_shared_round.new.book c.in_ok-begin_next_if_over.ensures.ok round

pub rounds-preserved : goal.rounds-preserved
rounds-preserved g c =
    let s = arc_value c.args.scaled in
    let round = subst (λ r. IsRound c.begin_next_if_over.new.book r c.run_shared_round.new.book) c.in-More.is c.in_ok-run_shared_round.ensures.round in
    let base = mid_base s c.rounds.book c.begin_next_if_over.new.book c.rounds.invariant.running.base c.in_ok-begin_next_if_over.ensures.ok in
    record {
      running = running_more s c.args.prices c.rounds.book c.begin_next_if_over.new.book
          c.run_shared_round.new.book c.rounds.invariant.running c.in_ok-begin_next_if_over.ensures.ok round
          c.in_ok-run_shared_round.ensures.goes_on.base;
      similar = subst (λ x. AreSimilar x c.run_shared_round.new.similar) base c.in_ok-run_shared_round.ensures.similar;
      lists = subst (λ x. HaveCandidates x (prices_of c.run_shared_round.new.book) c.run_shared_round.new.lists) base
          c.in_ok-run_shared_round.ensures.lists;
    }

pub run_shared_round-requires-clause-rest : goal.run_shared_round-requires-clause-rest
run_shared_round-requires-clause-rest g c = next_rests c.rounds.book c.begin_next_if_over.new.book
    c.rounds.invariant.running.rest c.in_ok-begin_next_if_over.ensures.ok c.in_ok-begin_next_if_over.ensures.free

pub run_shared_round-requires-clause-similar : goal.run_shared_round-requires-clause-similar
run_shared_round-requires-clause-similar g c =
    let base = mid_base (arc_value c.args.scaled) c.rounds.book c.begin_next_if_over.new.book c.rounds.invariant.running.base
    c.in_ok-begin_next_if_over.ensures.ok in
    subst (λ x. AreSimilar x c.rounds.similar) (sym base) c.rounds.invariant.similar

pub run_shared_round-requires-clause-lists : goal.run_shared_round-requires-clause-lists
run_shared_round-requires-clause-lists g c =
    let s = arc_value c.args.scaled in
    let mid = c.begin_next_if_over.new.book in
    let same = c.in_ok-begin_next_if_over.ensures.ok in
    lists_as mid.base s (prices_of mid) (prices_of c.rounds.book) c.rounds.lists
    (mid_base s c.rounds.book mid c.rounds.invariant.running.base same) (mid_prices c.rounds.book mid same) c.rounds.invariant.lists
