-- What a worker's run keeps.
use Rattle.std.specs.Prelude.{◌≡◌, ◌<◌, ℕ, List, Option, length, slice_index_or}
use Rattle.crossbeam_utils.specs.declared.cache_padded.CachePadded.{CachePadded}
use Rattle.crossbeam_utils.specs.Padded.{padded_value}
use Rattle.assign_core.specs.declared.outcome.SolveFault.{SolveFault}
use Rattle.async_workers.specs.declared.working.Worker.{Worker}
use Rattle.async_workers.specs.Desk.{DeskData}
use Rattle.async_workers.specs.Turns.{IsMemory, WorksOn}

abbrev pub desk_in : CachePadded Worker → DeskData
desk_in w = (padded_value w).desk

abbrev pub fault_in : CachePadded Worker → Option SolveFault
fault_in w = (padded_value w).fault

-- a worker after its run
pub record HasWorked (old new : CachePadded Worker) : Type 0 where
  pub works : WorksOn (desk_in old) (desk_in new)
  pub fault : IsMemory (fault_in new)

-- workers after their runs
abbrev pub HaveWorked : List (CachePadded Worker) → List (CachePadded Worker) → Type 0
HaveWorked old new = (length new ≡ length old) × ((k : ℕ) (d : CachePadded Worker) → k < length old →
    HasWorked (slice_index_or old k d) (slice_index_or new k d))
