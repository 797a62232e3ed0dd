-- A report has only one finding.
use Rattle.std.proofs.Common.{◌≡◌, ℕ, ℤ, pos, List, [], length, sym, ap, ◌∙◌, subst, refl, inl, inr, None, Some, Option}
use Rattle.assign_core.specs.declared.sense.Sense.{Sense}
use Rattle.assign_core.specs.Rows.{Listing, IsProblem}
use Rattle.assign_core.specs.Assignment.{total}
use Rattle.assign_core.proofs.Duality.{best_by_slack}
use Rattle.assign_core.proofs.HallSets.{no_assignment}
use Rattle.assign_core.proofs.Zips.{pair_number}
use Rattle.dual_checker.specs.declared.verdict.Verdict.{Verdict}
use Rattle.dual_checker.specs.declared.verdict.Verdict.TheVariants as verdicts
use Rattle.dual_checker.specs.declared.hall_verdict.HallVerdict.{HallVerdict}
use Rattle.dual_checker.specs.declared.hall_verdict.HallVerdict.TheVariants as halls
use Rattle.dual_checker.specs.Faults.{IsFirst}
use Rattle.dual_checker.specs.Verdicts.{IsVerdict}
use Rattle.dual_checker.specs.HallVerdicts.{IsHallVerdict}
use Rattle.dual_checker.proofs.Firsts.{firsts_agree}
use Rattle.dual_checker.proofs.Differences.{differ}
use Rattle.dual_checker.proofs.HallDifferences.{halls_differ}
use Rattle.report.specs.Reports.{Report, best, hall}
use Rattle.auction_command.specs.declared.finding.Finding.{Finding}
use Rattle.auction_command.specs.declared.finding.Finding.TheVariants.{Hall, OtherCost}
use Rattle.auction_command.specs.declared.verify.Verified.TheVariants.{Yes, No}
use Rattle.auction_command.specs.Findings.{HaveOneFinding, Follows, HasCost, HasOtherCost, HaveCosts}
use Rattle.auction_command.specs.Findings.{IsFoundInReport, IsFoundInCosts, IsFoundUnder, IsSo, objects_of}
use Rattle.auction_command.specs.Findings.{sense_of, verdict_of}

no_is_yes : No ≡ Yes → ⊥
no_is_yes e = cc

-- if each pair has its cost, no person's has another
no_other : (rows : List Listing) (pairs : List (ℕ × ℤ)) (i : ℕ) → HaveCosts rows pairs → IsFirst (HasOtherCost rows pairs) (length rows) i → ⊥
no_other rows pairs i h f = f.here (pair_number HasCost rows pairs i [] (0, pos 0) h f.number.first f.number.last)

costs_differ : (sense : Sense) (rows : List Listing) (cost : ℤ) (pairs : List (ℕ × ℤ)) (first second : Finding) →
    IsFoundInCosts sense rows cost pairs first → IsFoundInCosts sense rows cost pairs second → first ≡ second
costs_differ sense rows cost pairs first second (inl a) (inl b) = a.2 ∙ ap OtherCost (firsts_agree _ _ a.0 b.0 a.1 b.1) ∙ sym b.2
costs_differ sense rows cost pairs first second (inl a) (inr (inl b)) = absurd (no_other rows pairs a.0 b.0 a.1)
costs_differ sense rows cost pairs first second (inl a) (inr (inr b)) = absurd (no_other rows pairs a.0 b.0 a.1)
costs_differ sense rows cost pairs first second (inr (inl a)) (inl b) = absurd (no_other rows pairs b.0 a.0 b.1)
costs_differ sense rows cost pairs first second (inr (inl a)) (inr (inl b)) = a.2 ∙ sym b.2
costs_differ sense rows cost pairs first second (inr (inl a)) (inr (inr b)) = absurd (a.1 b.1)
costs_differ sense rows cost pairs first second (inr (inr a)) (inl b) = absurd (no_other rows pairs b.0 a.0 b.1)
costs_differ sense rows cost pairs first second (inr (inr a)) (inr (inl b)) = absurd (b.1 a.1)
costs_differ sense rows cost pairs first second (inr (inr a)) (inr (inr b)) = a.2 ∙ sym b.2

-- a verdict has only one finding, if there is only one further finding
one_follows : (IsBeyond : Finding → Type 0) (v : Verdict) (first second : Finding) → ((f s : Finding) → IsBeyond f → IsBeyond s → f ≡ s) →
    Follows IsBeyond v first → Follows IsBeyond v second → first ≡ second
one_follows IsBeyond verdicts.Yes first second one a b = one first second a b
one_follows IsBeyond fault first second one a b = a ∙ sym b

reports_differ : (rows : List Listing) (report : Report) (first second : Finding) → IsProblem rows →
    IsFoundInReport rows report first → IsFoundInReport rows report second → first ≡ second
reports_differ rows (best sense cost pairs None) first second problem a b = a ∙ sym b
reports_differ rows (best sense cost pairs (Some prices)) first second problem a b =
    let v = differ _ rows _ prices a.0 b.0 a.1 b.1 in
    one_follows _ b.0 first second (costs_differ _ rows cost pairs) (subst (λ w. Follows _ w first) v a.2) b.2
reports_differ rows (hall sense persons objects) first second problem a b =
    let v = halls_differ (length rows) rows persons objects a.0 b.0 problem.each a.1 b.1 in cc

pub findings_differ : HaveOneFinding
findings_differ wanted rows report first second problem (inl a) (inl b) = a.1 ∙ sym b.1
findings_differ wanted rows report first second problem (inl a) (inr b) = absurd (b.0 a.0)
findings_differ wanted rows report first second problem (inr a) (inl b) = absurd (a.0 b.0)
findings_differ wanted rows report first second problem (inr a) (inr b) = reports_differ rows report first second problem a.1 b.1

-- an assignment with prices that prove it optimal, and its costs with their sum
costs_are_so : (sense : Sense) (rows : List Listing) (cost : ℤ) (pairs : List (ℕ × ℤ)) (finding : Finding) →
    IsFoundInCosts sense rows cost pairs finding → verdict_of finding ≡ Yes →
    HaveCosts rows pairs × (cost ≡ total rows (objects_of pairs))
costs_are_so sense rows cost pairs finding (inl a) y = absurd (no_is_yes (sym (ap verdict_of a.2) ∙ y))
costs_are_so sense rows cost pairs finding (inr (inl a)) y = absurd (no_is_yes (sym (ap verdict_of a.2) ∙ y))
costs_are_so sense rows cost pairs finding (inr (inr a)) y = (a.0, a.1)

-- a fault of the checker isn't its Yes
follows_yes : (IsBeyond : Finding → Type 0) (v : Verdict) (finding : Finding) → Follows IsBeyond v finding →
    verdict_of finding ≡ Yes → (v ≡ verdicts.Yes) × IsBeyond finding
follows_yes IsBeyond verdicts.Yes finding f y = (refl, f)
follows_yes IsBeyond fault finding f y = absurd (no_is_yes (sym (ap verdict_of f) ∙ y))

hall_yes : (v : HallVerdict) → verdict_of (Hall v) ≡ Yes → v ≡ halls.Yes
hall_yes halls.Yes y = refl
hall_yes fault y = absurd (no_is_yes y)

-- if there is no fault, the report is right
found_in_is_so : (rows : List Listing) (report : Report) (finding : Finding) → IsProblem rows →
    IsFoundInReport rows report finding → verdict_of finding ≡ Yes → IsSo rows report
found_in_is_so rows (best sense cost pairs None) finding problem found y = absurd (no_is_yes (sym (ap verdict_of found) ∙ y))
found_in_is_so rows (best sense cost pairs (Some prices)) finding problem found y =
    let beyond = follows_yes _ found.0 finding found.2 y in
    let costs = costs_are_so (sense_of sense) rows cost pairs finding beyond.1 y in
    let certificate = subst (IsVerdict (sense_of sense) rows (objects_of pairs) prices) beyond.0 found.1 in
    (best_by_slack (sense_of sense) rows (objects_of pairs) prices problem certificate.assigned certificate.slack, costs.0, costs.1)
found_in_is_so rows (hall sense persons objects) finding problem found y =
    let v = hall_yes found.0 (sym (ap verdict_of found.2) ∙ y) in
    let set = subst (IsHallVerdict (length rows) rows persons objects) v found.1 in
    (set, λ xs a. no_assignment rows persons objects xs set a)

pub found_is_so : (wanted : Option Sense) (rows : List Listing) (report : Report) (finding : Finding) →
    IsProblem rows → IsFoundUnder wanted rows report finding → verdict_of finding ≡ Yes → IsSo rows report
found_is_so wanted rows report finding problem (inl other) y = absurd (no_is_yes (sym (ap verdict_of other.1) ∙ y))
found_is_so wanted rows report finding problem (inr found) y = found_in_is_so rows report finding problem found.1 y
