-- What the call for fewest changes leaves.
use Rattle.std.proofs.Common.{◌≡◌, ℕ, ℤ, List, Some, length, map, ap, subst, inl}
use Rattle.assign_core.specs.declared.sense.Sense.{Sense}
use Rattle.assign_core.specs.Assignment.{AreListed, IsBest, total}
use Rattle.assign_core.specs.Hall.{IsHallSet}
use Rattle.cost_lists.specs.ListedCosts.{ListedCosts}
use Rattle.c_calls.specs.declared.fault.Fault.TheVariants.{Memory}
use Rattle.c_calls.specs.declared.lists.info.Info.{Info}
use Rattle.c_calls.specs.Sizes.{sense_of}
use Rattle.c_calls.specs.lists.Faults.{IsWhole}
use Rattle.c_calls.specs.lists.Input.{InputLists, lists_in}
use Rattle.wide_checker.specs.declared.numbers.Wide.{Wide}
use Rattle.wide_checker.specs.WideNumbers.{wide_value}
use Rattle.wide_checker.specs.WideOptimum.{IsWideOptimum}
use Rattle.c_wide.specs.declared.fewest.answer.FewestPlan.{FewestPlan}
use Rattle.c_wide.specs.declared.fewest.kept.Refusal.{Refusal}
use Rattle.c_wide.specs.declared.fewest.kept.Refusal.TheVariants.{Given}
use Rattle.c_wide.specs.fewest.Answers.{IsFewestPlan}
use Rattle.c_wide.specs.fewest.Changes.{changes, combined_lists}
use Rattle.c_wide.specs.fewest.Combined.{AreKept}
use Rattle.c_wide.specs.fewest.Ends.{FewestBuffers, HasRefusal, IsFewestRefused, IsFewestReported, IsFewestShown, fewest_buffers, refusal_code, with_refusal}
use Rattle.c_wide.proofs.CombinedRows.{hall_combined, listed_both}
use Rattle.c_wide.proofs.FewestLaws.{combined_fewest}

pub listed_there : (l : ListedCosts) (kept xs : List ℕ) → length kept ≡ length l.rows → AreListed (combined_lists kept l).rows xs → AreListed l.rows xs
listed_there l kept xs long listed = (listed_both l.sense (length l.rows) kept l.rows xs long).1 listed

pub hall_there : (l : ListedCosts) (kept persons objects : List ℕ) → length kept ≡ length l.rows →
    IsHallSet (combined_lists kept l).rows persons objects → IsHallSet l.rows persons objects
hall_there l kept persons objects long h = hall_combined l.sense (length l.rows) kept l.rows persons objects long h

-- a best plan at combined costs is one of the given problem
pub plan_there : (l : ListedCosts) (kept : List ℕ) (plan : FewestPlan) → length kept ≡ length l.rows →
    IsWideOptimum (combined_lists kept l) plan.objects.items (map wide_value plan.prices.items) →
    IsBest l.sense (combined_lists kept l).rows plan.objects.items →
    plan.total ≡ total l.rows plan.objects.items → plan.changes ≡ changes kept plan.objects.items → IsFewestPlan l kept plan
plan_there l kept plan long proof best sum count = record {
  fewest = combined_fewest l kept plan.objects.items long best;
  proof = proof;
  sum = sum;
  count = count;
}

-- a refusal leaves the buffers
pub refused : (g : InputLists) (kept : List ℕ) (refusal : Refusal) (objects persons : List ℕ) (prices : List Wide) (changed : ℕ)
    (before after : Info) (code : ℤ) → code ≡ refusal_code refusal → HasRefusal g kept refusal → after ≡ with_refusal refusal before →
    IsFewestRefused g kept (fewest_buffers objects persons prices changed before) (fewest_buffers objects persons prices changed after) code
refused g kept refusal objects persons prices changed before after code is first stays = record {
  refusal = refusal;
  is = is;
  first = first;
  stays = ap (fewest_buffers objects persons prices changed) stays;
}

pub memory_after_kept : (g : InputLists) (kept : List ℕ) → IsWhole g → AreKept g.m kept → HasRefusal g kept (Given Memory)
memory_after_kept g kept whole all = (whole, λ _. all)

-- an answer to the given problem
pub reported : (sense : Sense) (g : InputLists) (kept : List ℕ) (l : ListedCosts) (before after : FewestBuffers) (code : ℤ) →
    sense_of g.sense ≡ Some sense → IsWhole g → AreKept g.m kept → l ≡ lists_in sense g → IsFewestShown l kept before after code →
    IsFewestReported g kept before after code
reported sense g kept l before after code wanted whole all is shown = inl (record {
  sense = sense;
  wanted = wanted;
  whole = whole;
  holds = (all, subst (λ (o : ListedCosts). IsFewestShown o kept before after code) is shown);
})
