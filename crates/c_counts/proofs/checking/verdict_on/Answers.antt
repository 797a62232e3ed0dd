use Rattle.std.proofs.Common.{subst}
use Rattle.count_checker.specs.CountFaults.{IsCountVerdict}
use Rattle.c_counts.specs.Answers.{marks_of}
use Rattle.c_counts.proofs.checking.verdict_on.Goals as goal

pub returns-clause-verdict : goal.returns-clause-verdict
returns-clause-verdict c =
    let r = c.args.row_numbers.now in
    let v = c.args.column_numbers.now in
    let verdict = c.in_ok-verdict.verdict in
    record {
      lists = c.lists_of-lists.result;
      meant = c.lists_of-lists.ensures;
      whole = c.in_ok-problem.ensures.whole;
      holds = subst (λ k. IsCountVerdict k (marks_of c.args.plan.now) r v verdict) c.in_ok-problem.ensures.problem
          (subst (λ m. IsCountVerdict c.in_ok-problem.problem m r v verdict) c.of-marks.ensures c.in_ok-verdict.ensures.verdict);
    }
