-- What calls leave where memory was refused.
use Rattle.std.proofs.Common.{◌≡◌, ℤ, pos}
use Rattle.c_calls.specs.declared.fault.Fault.TheVariants.{Memory}
use Rattle.c_calls.specs.declared.lists.info.Info.{Info}
use Rattle.c_wide.specs.Ends.{IsWideRefused}
use Rattle.c_wide.specs.Given.{GivenWide, IsWideWhole}

pub memory_refused : (g : GivenWide) (before after : Info) (code : ℤ) → IsWideWhole g → code ≡ pos 9 → after ≡ before →
    IsWideRefused g before after code
memory_refused g before after code whole is stays = record {
  fault = Memory;
  is = is;
  first = whole;
  stays = stays;
}
