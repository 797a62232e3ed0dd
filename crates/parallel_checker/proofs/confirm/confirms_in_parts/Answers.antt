use Rattle.std.proofs.Common.{IfOk, IsTrue, subst, sym}
use Rattle.assign_core.specs.Outcomes.{IsProof}
use Rattle.parallel_checker.proofs.confirm.confirms_in_parts.Goals as goal

pub returns-in-Best : goal.returns-in-Best
returns-in-Best g c =
    let P = IsProof c.args.sense c.args.problem.now in
    subst (λ o. IfOk c.is_certificate.result (λ yes. (IsTrue yes → P o) × (P o → IsTrue yes))) (sym c.in-Best.is) c.is_certificate.ensures
