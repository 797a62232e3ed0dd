-- What a call on a block leaves where memory was refused.
use Rattle.std.proofs.Common.{◌≡◌, ℤ, pos, refl}
use Rattle.c_calls.specs.declared.fault.Fault.TheVariants.{Memory}
use Rattle.c_calls.specs.lists.Faults.{IsWhole}
use Rattle.c_calls.specs.lists.Input.{InputLists}
use Rattle.c_blocks.specs.Blocks.{BlockBuffers, IsBlockRefused}

-- buffers that are the same, part by part
same_buffers : (a b : BlockBuffers) → a.least ≡ b.least → a.own ≡ b.own → a.better.persons ≡ b.better.persons →
    a.better.objects ≡ b.better.objects → a.better.costs ≡ b.better.costs → a.info ≡ b.info → a ≡ b
same_buffers a b least own persons objects costs info = rw (least, own, persons, objects, costs, info) refl

pub memory_refused : (g : InputLists) (before after : BlockBuffers) (code : ℤ) → IsWhole g → code ≡ pos 9 →
    after.least ≡ before.least → after.own ≡ before.own → after.better.persons ≡ before.better.persons →
    after.better.objects ≡ before.better.objects → after.better.costs ≡ before.better.costs → after.info ≡ before.info →
    IsBlockRefused g before after code
memory_refused g before after code whole is least own persons objects costs info = record {
  fault = Memory;
  is = is;
  first = whole;
  stays = same_buffers after before least own persons objects costs info;
}
