-- What a call on a bottleneck leaves where memory was refused.
use Rattle.std.proofs.Common.{◌≡◌, ℤ, pos, refl}
use Rattle.c_calls.specs.declared.fault.Fault.TheVariants.{Memory}
use Rattle.c_calls.specs.lists.Faults.{IsWhole}
use Rattle.c_calls.specs.lists.Input.{InputLists}
use Rattle.c_bottleneck.specs.Bottleneck.{Buffers, IsRefused}

-- buffers that are the same, part by part
same_buffers : (a b : Buffers) → a.objects ≡ b.objects → a.persons ≡ b.persons → a.few ≡ b.few → a.info ≡ b.info → a ≡ b
same_buffers a b objects persons few info = rw (objects, persons, few, info) refl

pub memory_refused : (g : InputLists) (before after : Buffers) (code : ℤ) → IsWhole g → code ≡ pos 9 →
    after.objects ≡ before.objects → after.persons ≡ before.persons → after.few ≡ before.few → after.info ≡ before.info → IsRefused g before after code
memory_refused g before after code whole is objects persons few info = record {
  fault = Memory;
  is = is;
  first = whole;
  stays = same_buffers after before objects persons few info;
}
