-- Claims, recorded Hall sets, stops and catching up keep the invariant.
use Rattle.std.proofs.Common.{◌≡◌, ℕ, ◌<◌, ◌≤◌, List, [], ◌∷◌, length, drop, get_or, fold, min, nat_le, refl, ap, arith, sym, ◌∙◌, Option, None, Some, inl, inr}
use Rattle.std.proofs.lemmas.Bool.{cond-true, cond-false}
use Rattle.std.proofs.lemmas.Bool.Decides.{leb_tells}
use Rattle.assign_core.specs.Numbered.{numbered, renumbered}
use Rattle.assign_core.specs.Hall.{HallLists, IsHallSet}
use Rattle.assign_core.proofs.NumberedLemmas.{length-renumbered}
use Rattle.auction_book.specs.Book.{BookData, Holds, version_of}
use Rattle.auction_book.specs.Changes.{caught_up, claimed, least_taken, released, recorded, trimmed_to, with_set}
use Rattle.auction_book.specs.Free.{IsFree}
use Rattle.price_log.specs.Changes.{trimmed}
use Rattle.price_log.specs.History.{Continues, History, IsHistory, last_version, today}
use Rattle.price_log.proofs.Trims.{continues-refl, continues-trim, today-trim, trim_version, trimmed_is}
use Rattle.auction_book.proofs.Places.{claimed_places}
use Rattle.auction_book.proofs.Accepting.{released_free}
use Rattle.auction_book.proofs.Moving.{moved_free}

pub claimed_free : (b : BookData) (worker : ℕ) → IsFree b → 0 < worker → worker ≤ length b.claims →
    numbered b.claims worker None ≡ None → 0 < length b.queue → IsFree (claimed b worker)
claimed_free b worker free first last none some =
    let front : Option ℕ = Some (get_or b.queue 0 0) in
    moved_free b (drop 1 b.queue) (renumbered b.claims worker front) b.refuted free (length-renumbered b.claims worker front)
    (λ i. claimed_places b.owners b.queue b.claims worker i first last none some) free.recorded

pub set_free : (b : BookData) (lists : HallLists) → IsFree b → IsHallSet b.base.problem lists.persons lists.objects → IsFree (with_set b lists)
set_free b lists free hall = moved_free b b.queue b.claims (Some lists) free refl (λ i. refl) hall

pub recorded_free : (b : BookData) (worker person : ℕ) (lists : HallLists) → IsFree b → Holds b worker person →
    IsHallSet b.base.problem lists.persons lists.objects → IsFree (recorded b worker person lists)
recorded_free b worker person lists free held hall = set_free (released b worker person) lists (released_free b worker person free held) hall

pub least_le : (taken : List ℕ) (now : ℕ) → fold min now taken ≤ now
least_le [] now = omega arith
least_le (v ∷ taken) now = let i = least_le taken (min now v) in omega arith

trimmed_to-cases : (P : History → Type 0) (l : History) (v : ℕ) → (l.first_kept ≤ v → P (trimmed l v)) → P l → P (trimmed_to l v)
trimmed_to-cases P l v trim keep = elim (leb_tells l.first_kept v) [
  | inl t ↦ rw (cond-true (nat_le l.first_kept v) (trimmed l v) l t.0) (trim t.1)
  | inr t ↦ rw (cond-false (nat_le l.first_kept v) (trimmed l v) l t.0) keep
]

-- the facts that a trim keeps
pub record IsTrimmed (old new : History) : Type 0 where
  pub is : IsHistory new
  pub prices : today new ≡ today old
  pub version : last_version new ≡ last_version old
  pub log : Continues old new

pub trimmed_to_is : (l : History) (v : ℕ) → IsHistory l → v ≤ last_version l → IsTrimmed l (trimmed_to l v)
trimmed_to_is l v is le = trimmed_to-cases (IsTrimmed l) l v
    (λ h. record { is = trimmed_is l v is h le; prices = today-trim l v; version = trim_version l v h le; log = continues-trim l v h le })
    (record { is = is; prices = refl; version = refl; log = continues-refl l })

pub caught_up_free : (b : BookData) (worker : ℕ) → IsFree b → IsFree (caught_up b worker)
caught_up_free b worker free =
    let taken = renumbered b.taken worker (version_of b) in
    let trim = trimmed_to_is b.log (least_taken taken (version_of b)) free.log_ascends (least_le taken (version_of b)) in
    let p = sym trim.prices in
    let v = sym trim.version in
    record {
      problem = free.problem;
      sizes = record {
        priced = ap length trim.prices ∙ free.sizes.priced;
        started = free.sizes.started;
        counted = free.sizes.counted;
        noted = length-renumbered b.taken worker (version_of b) ∙ free.sizes.noted;
      };
      owners_match = free.owners_match;
      owners_slack = rw (← p) free.owners_slack;
      placed_once = free.placed_once;
      log_ascends = trim.is;
      priced = rw (← p) free.priced;
      topped = rw (← p) free.topped;
      in_phase = free.in_phase;
      counts_total = free.counts_total ∙ v;
      progress = rw (← p, ← v) free.progress;
      recorded = free.recorded;
    }

pub caught_up_trimmed : (b : BookData) (worker : ℕ) → IsFree b → IsTrimmed b.log (caught_up b worker).log
caught_up_trimmed b worker free = let taken = renumbered b.taken worker (version_of b) in
    trimmed_to_is b.log (least_taken taken (version_of b)) free.log_ascends (least_le taken (version_of b))
