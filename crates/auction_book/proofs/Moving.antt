-- The rest of the invariant stays when other persons wait or are claimed, or another Hall set is
-- recorded.
use Rattle.std.proofs.Common.{◌≡◌, ℕ, List, Option, MatchOption, length, sym, ◌∙◌}
use Rattle.assign_core.specs.Hall.{HallLists, IsHallSet}
use Rattle.auction_book.specs.Book.{BookData, places}
use Rattle.auction_book.specs.Free.{IsFree}

pub moved_free : (b : BookData) (queue : List ℕ) (claims : List (Option ℕ)) (refuted : Option HallLists) → IsFree b → length claims ≡ length b.claims →
    ((i : ℕ) → places b.owners queue claims i ≡ places b.owners b.queue b.claims i) →
    MatchOption refuted (Unit {0}) (λ h. IsHallSet b.base.problem h.persons h.objects) → IsFree (record b { queue = queue; claims = claims; refuted = refuted })
moved_free b queue claims refuted free long placed hall = record {
  problem = free.problem;
  sizes = record {
    priced = free.sizes.priced;
    started = free.sizes.started;
    counted = free.sizes.counted ∙ sym long;
    noted = free.sizes.noted ∙ sym long;
  };
  owners_match = free.owners_match;
  owners_slack = free.owners_slack;
  placed_once = λ i. placed i ∙ free.placed_once i;
  log_ascends = free.log_ascends;
  priced = free.priced;
  topped = free.topped;
  in_phase = free.in_phase;
  counts_total = free.counts_total;
  progress = free.progress;
  recorded = hall;
}
