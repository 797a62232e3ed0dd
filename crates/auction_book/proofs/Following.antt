-- Each change keeps what other workers rely on.
use Rattle.std.proofs.Common.{◌≡◌, ℕ, get_or, Bool, true, refl, arith, sym, ◌∙◌, subst, Option, None, Some}
use Rattle.assign_core.specs.Hall.{HallLists}
use Rattle.assign_core.specs.Numbered.{numbered}
use Rattle.assign_core.specs.Prices.{IsBelow}
use Rattle.assign_core.proofs.Matchings.{below_itself, below_through}
use Rattle.assign_core.proofs.NumberedLemmas.{length-renumbered, numbered-other, numbered_in}
use Rattle.price_log.proofs.Trims.{continues-refl, continues-trans}
use Rattle.auction_book.specs.Book.{BookData, Holds, persons_of, prices_of}
use Rattle.auction_book.specs.Phases.{is_over}
use Rattle.auction_book.specs.Changes.{caught_up, claimed, given_up, phased, recorded}
use Rattle.auction_book.specs.Follows.{Follows, GoesOn}
use Rattle.auction_book.specs.Free.{IsFree}
use Rattle.auction_book.proofs.Accepting.{released_follows}
use Rattle.auction_book.proofs.Answering.{over_is}
use Rattle.auction_book.proofs.OtherChanges.{caught_up_trimmed}
use Rattle.auction_book.proofs.Places.{everyone, some_there as some_claim}

pub goes_on_itself : (b : BookData) → GoesOn b b
goes_on_itself b = record { base = refl; workers = refl; below = below_itself (prices_of b); log = continues-refl b.log; refuted = λ h. h }

pub goes_on_through : (a b c : BookData) → GoesOn a b → GoesOn b c → GoesOn a c
goes_on_through a b c f g = record {
  base = g.base ∙ f.base;
  workers = g.workers ∙ f.workers;
  below = below_through (prices_of a) (prices_of b) (prices_of c) f.below g.below;
  log = continues-trans a.log b.log c.log f.log g.log;
  refuted = λ h. g.refuted (f.refuted h);
}

pub follows_itself : (b : BookData) (w : ℕ) → Follows w b b
follows_itself b w = record { goes_on = goes_on_itself b; counts = λ k ne. refl; claims = λ k ne. refl; asked = λ k person ne h. refl }

pub follows_through : (a b c : BookData) (w : ℕ) → Follows w a b → Follows w b c → Follows w a c
follows_through a b c w f g = record {
  goes_on = goes_on_through a b c f.goes_on g.goes_on;
  counts = λ k ne. g.counts k ne ∙ f.counts k ne;
  claims = λ k ne. g.claims k ne ∙ f.claims k ne;
  asked = λ k person ne h. g.asked k person ne (f.claims k ne ∙ h) ∙ f.asked k person ne h;
}

pub claimed_follows : (b : BookData) (w : ℕ) → Follows w b (claimed b w)
claimed_follows b w = record {
  goes_on = record {
    base = refl;
    workers = length-renumbered b.claims w (Some (get_or b.queue 0 0));
    below = below_itself (prices_of b);
    log = continues-refl b.log;
    refuted = λ h. h;
  };
  counts = λ k ne. refl;
  claims = λ k ne. numbered-other b.claims w k (Some (get_or b.queue 0 0)) None ne;
  asked = λ k person ne h. refl;
}

pub given_up_follows : (b : BookData) (w : ℕ) → Follows w b (given_up b w (numbered b.claims w None))
given_up_follows b w = by_claim b w (numbered b.claims w None) where
  by_claim : (b : BookData) (w : ℕ) (o : Option ℕ) → Follows w b (given_up b w o)
  by_claim b w None = follows_itself b w
  by_claim b w (Some person) = released_follows b w person

pub recorded_follows : (b : BookData) (w person : ℕ) (lists : HallLists) → Follows w b (recorded b w person lists)
recorded_follows b w person lists =
    let f = released_follows b w person in
    record {
      goes_on = record { base = refl; workers = f.goes_on.workers; below = below_itself (prices_of b); log = continues-refl b.log; refuted = λ h. refl };
      counts = f.counts;
      claims = f.claims;
      asked = λ k p ne h. refl;
    }

pub caught_up_follows : (b : BookData) (w : ℕ) → IsFree b → Follows w b (caught_up b w)
caught_up_follows b w free =
    let t = caught_up_trimmed b w free in
    record {
      goes_on = record {
        base = refl;
        workers = refl;
        below = subst (IsBelow (prices_of b)) (sym t.prices) (below_itself (prices_of b));
        log = t.log;
        refuted = λ h. h;
      };
      counts = λ k ne. refl;
      claims = λ k ne. refl;
      asked = λ k person ne h. refl;
    }

-- if everybody is assigned, nobody is claimed
pub no_claims : (b : BookData) (k person : ℕ) → IsFree b → is_over b ≡ true → Holds b k person → ⊥
no_claims b k person free over held =
    let whole = everyone (persons_of b) b.owners b.queue b.claims free.placed_once in
    let all = (over_is b over).assigned in
    let r = numbered_in b.claims k person held in
    let s = some_claim b.claims k person held r.0 r.1 in
    absurd (omega arith)

pub phased_follows : (b : BookData) (w : ℕ) → IsFree b → is_over b ≡ true → Follows w b (phased b)
phased_follows b w free over = record {
  goes_on = record { base = refl; workers = refl; below = below_itself (prices_of b); log = continues-refl b.log; refuted = λ h. h };
  counts = λ k ne. refl;
  claims = λ k ne. refl;
  asked = λ k person ne h. absurd (no_claims b k person free over h);
}

pub stop_follows : (b : BookData) (w : ℕ) (s : Bool) → Follows w b (record b { stopped = s })
stop_follows b w s = record {
  goes_on = record { base = refl; workers = refl; below = below_itself (prices_of b); log = continues-refl b.log; refuted = λ h. h };
  counts = λ k ne. refl;
  claims = λ k ne. refl;
  asked = λ k person ne h. refl;
}
