-- What calls on a plan leave where memory was refused.
use Rattle.std.proofs.Common.{◌≡◌, ℤ, pos, refl}
use Rattle.c_calls.specs.declared.fault.Fault.TheVariants.{Memory}
use Rattle.c_calls.specs.lists.Faults.{IsWhole}
use Rattle.c_calls.specs.lists.Input.{InputLists}
use Rattle.c_plans.specs.Groups.{AreGroupsRefused, GroupBuffers}
use Rattle.c_plans.specs.Next.{IsNextRefused, NextBuffers}
use Rattle.c_plans.specs.Ranked.{IsRankedRefused, RankedBuffers}
use Rattle.c_plans.specs.Unique.{IsUniqueRefused, UniqueBuffers}

-- buffers that are the same, part by part
same_buffers : (a b : UniqueBuffers) → a.other ≡ b.other → a.ranks ≡ b.ranks → a.info ≡ b.info → a ≡ b
same_buffers a b other ranks info = rw (other, ranks, info) refl

pub memory_refused : (g : InputLists) (before after : UniqueBuffers) (code : ℤ) → IsWhole g → code ≡ pos 9 →
    after.other ≡ before.other → after.ranks ≡ before.ranks → after.info ≡ before.info → IsUniqueRefused g before after code
memory_refused g before after code whole is other ranks info = record {
  fault = Memory;
  is = is;
  first = whole;
  stays = same_buffers after before other ranks info;
}

same_next : (a b : NextBuffers) → a.other ≡ b.other → a.margin ≡ b.margin → a.info ≡ b.info → a ≡ b
same_next a b other margin info = rw (other, margin, info) refl

pub next_refused : (g : InputLists) (before after : NextBuffers) (code : ℤ) → IsWhole g → code ≡ pos 9 →
    after.other ≡ before.other → after.margin ≡ before.margin → after.info ≡ before.info → IsNextRefused g before after code
next_refused g before after code whole is other margin info = record {
  fault = Memory;
  is = is;
  first = whole;
  stays = same_next after before other margin info;
}

same_ranked : (a b : RankedBuffers) → a.plans ≡ b.plans → a.totals ≡ b.totals → a.found ≡ b.found → a.info ≡ b.info → a ≡ b
same_ranked a b plans totals found info = rw (plans, totals, found, info) refl

pub ranked_refused : (g : InputLists) (before after : RankedBuffers) (code : ℤ) → IsWhole g → code ≡ pos 9 →
    after.plans ≡ before.plans → after.totals ≡ before.totals → after.found ≡ before.found → after.info ≡ before.info → IsRankedRefused g before after code
ranked_refused g before after code whole is plans totals found info = record {
  fault = Memory;
  is = is;
  first = whole;
  stays = same_ranked after before plans totals found info;
}

same_groups : (a b : GroupBuffers) → a.groups ≡ b.groups → a.info ≡ b.info → a ≡ b
same_groups a b groups info = rw (groups, info) refl

pub groups_refused : (g : InputLists) (before after : GroupBuffers) (code : ℤ) → IsWhole g → code ≡ pos 9 →
    after.groups ≡ before.groups → after.info ≡ before.info → AreGroupsRefused g before after code
groups_refused g before after code whole is groups info = record {
  fault = Memory;
  is = is;
  first = whole;
  stays = same_groups after before groups info;
}
