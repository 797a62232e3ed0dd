-- Tables of the chosen pairs by group.
use Rattle.std.specs.Prelude.{◌≡◌, ℕ, ◌+◌, ◌-◌, ◌*◌, ◌<◌, ◌≤◌, List, Bool, length, if◌then◌else◌, nat_lt, slice_index}
use Rattle.assign_core.specs.Numbered.{numbered}
use Rattle.count_checker.specs.declared.lists.CountLists.{CountLists}
use Rattle.count_checker.specs.declared.shortage.Side.{Side}
use Rattle.count_checker.specs.CountLists.{pair_at}
use Rattle.count_checker.specs.Shortages.{is_outside}
use Rattle.count_checker.specs.CountFaults.{AreRivalsAt, IsChosen}

-- the group of column j, or a number of its own above those of groups
abbrev pub slot_of : List ℕ → ℕ → ℕ
slot_of groups j = let g = numbered groups j 0 in if nat_lt 0 g then g else length groups + j

abbrev pub slot_at : CountLists → ℕ → ℕ
slot_at l k = slot_of l.groups.now (slice_index l.columns.now k)

-- of the chosen pairs before a place with this slot, h is the place after the last one, or 0
pub record IsHeld (l : CountLists) (plan : List Bool) (end s h : ℕ) : Type 0 where
  pub last : (q : ℕ) → q < end → IsChosen plan q → slot_at l q ≡ s → q < h
  pub most : h ≤ end
  pub taken : 0 < h → IsChosen plan (h - 1)
  pub slot : 0 < h → slot_at l (h - 1) ≡ s

-- so it is at each slot
pub record IsHolding (l : CountLists) (plan : List Bool) (end : ℕ) (holders : List ℕ) : Type 0 where
  pub long : length holders ≡ 2 * length l.groups.now + 1
  pub inside : end ≤ length l.rows.now
  pub each : (s : ℕ) → s < length holders → IsHeld l plan end s (slice_index holders s)

-- a chosen rival of the pair at a place, before it
pub record HasHeldRival (l : CountLists) (plan : List Bool) (place : ℕ) : Type 0 where
  pub rival : ℕ
  pub less : rival < place
  pub taken : IsChosen plan rival
  pub rivals : AreRivalsAt l rival place

-- a byte for each pair, above 0 if it is of the marked ones on the side that lacks and of none on the other
pub record AreOutside (l : CountLists) (side : Side) (rows columns : List Bool) (bytes : List ℕ) : Type 0 where
  pub long : length bytes ≡ length l.rows.now
  pub each : (k : ℕ) → k < length l.rows.now → nat_lt 0 (slice_index bytes k) ≡ is_outside side rows columns (pair_at l k)
