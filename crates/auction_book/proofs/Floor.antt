-- If a person's offer is below the floor, each object that it reaches is owned.
use Rattle.std.proofs.Common.{◌≡◌, ℕ, ℤ, pos, negsuc, suc, ◌+◌, ◌*◌, ◌/◌, ◌+ℤ◌, ◌-ℤ◌, ◌*ℤ◌, ◌≤ℤ◌, ◌<ℤ◌, ◌-◌, ◌≤◌}
use Rattle.std.proofs.Common.{List, [], ◌∷◌, length, get_or, drop, drop-cons, ◌<◌, int_div, refl, ap, ◌∙◌, arith}
use Rattle.std.proofs.Common.{sym, subst, inl, inr, ◌⊎◌, Option, None, Some, IsSome}
use Rattle.std.proofs.lemmas.Int.{ints}
use Rattle.std.proofs.Math.IntN.{suc_ℤ-*ℤ, pos-*ℤ-pos}
use Rattle.std.proofs.lemmas.Nat.{le-div}
use lib.IntN.{zero-*ℤ}
use Rattle.auction_book.specs.Book.{BookData, persons_of, phase_accepted, phase_bound, prices_of, room_under}
use Rattle.auction_book.specs.Free.{IsFree, IsPriced}
use Rattle.price_log.specs.History.{sum_of}
use Rattle.assign_core.specs.Rows.{Listing, IsListed, listed_or_zero}
use Rattle.assign_core.specs.Prices.{IsBelow, price_of}
use Rattle.assign_core.specs.Matching.{owner_of}
use Rattle.assign_core.specs.Slackness.{IsWorth}
use Rattle.assign_core.specs.Reach.{IsBlocked, IsPath, IsReached, Walks}
use Rattle.assign_core.proofs.Listed.{all_listed}
use Rattle.assign_core.proofs.HallReach.{path_open, reached_within}
use Rattle.scaled_values.specs.Scaled.{greatest_benefit, greatest_of, floor_of, least_benefit, spread, top_of}
use Rattle.std.specs.List.{All}
use Rattle.std.proofs.lemmas.List.Elements.{All-weaker}
use Rattle.scaled_values.proofs.BenefitRange.{IsSpread-spread, greatest_bounds}
use Rattle.scaled_values.proofs.EpsList.{IsStep-spread}
use Rattle.scaled_values.proofs.RowFacts.{benefits_between}
use Rattle.bidder.specs.Offers.{IsUnder, benefits_at}
use Rattle.assign_core.proofs.Listed.{listed_range}
use Rattle.auction_book.proofs.Listings.{listed_benefits}
use Rattle.auction_book.proofs.PhaseBounds.{is_eps, price_greatest, span}
use Rattle.auction_book.proofs.Accepting.{eps_least}
use Rattle.auction_book.proofs.Opening.{start_least}
use Rattle.auction_book.proofs.Gap.{empty_step, rung, rung_first, rung_more, rung_rises}

-- the most by which an object's price can be below that of the object before it, along a walk
abbrev step_in : BookData → ℤ
step_in b = spread b.base +ℤ b.ask.eps

abbrev start_top : BookData → ℤ
start_top b = greatest_of b.start

bounds_listed : (b : BookData) (i k : ℕ) → IsListed b.base.problem i k →
    (least_benefit b.base ≤ℤ listed_or_zero (benefits_at b.base i) k) ×
    (listed_or_zero (benefits_at b.base i) k ≤ℤ greatest_benefit b.base)
bounds_listed b i k l = all_listed (λ e. (least_benefit b.base ≤ℤ e.1) × (e.1 ≤ℤ greatest_benefit b.base))
    (benefits_at b.base i) k (benefits_between b.base i) (listed_benefits b.base i k l)

-- the first person lists an object
lists_one : (rows : List Listing) (owners : List (Option ℕ)) (i : ℕ) (js : List ℕ) (x j : ℕ) →
    Walks rows owners i js x → IsListed rows x j → (k : ℕ) × IsListed rows i k
lists_one rows owners i [] x j w l = (j, subst (λ u. IsListed rows u j) (sym w) l)
lists_one rows owners i (k ∷ js) x j w l = (k, w.0)

-- an object of a person whose offer is below the floor has a high price
first_high : (b : BookData) (q : List ℤ) (i k : ℕ) → IsFree b → IsBelow q (prices_of b) →
    IsUnder (benefits_at b.base i) q b.ask.floor → IsListed b.base.problem i k →
    rung (start_top b) (step_in b) (persons_of b - 1) <ℤ price_of (prices_of b) k
first_high b q i k free below under l =
    let floor : b.ask.floor ≡ floor_of b.base (greatest_of b.start) b.ask.eps = free.in_phase.floor_is in
    let a = bounds_listed b i k l in
    let u : listed_or_zero (benefits_at b.base i) k <ℤ (b.ask.floor +ℤ price_of q k) =
    all_listed (λ e. e.1 <ℤ (b.ask.floor +ℤ price_of q e.0)) (benefits_at b.base i) k under
    (listed_benefits b.base i k l) in
    let c : price_of q k ≤ℤ price_of (prices_of b) k = below.each k in
    omega (arith, ints)

-- the owner of an object lists objects whose prices are at most one step lower
next_high : (b : BookData) (v j k : ℕ) → IsFree b → owner_of b.owners j ≡ Some v → IsListed b.base.problem v k →
    price_of (prices_of b) j ≤ℤ (price_of (prices_of b) k +ℤ step_in b)
next_high b v j k free o lk =
    let row = benefits_at b.base v in
    let p = prices_of b in
    let a = bounds_listed b v j (free.owners_match.listed v j o) in
    let c = bounds_listed b v k lk in
    let s : (listed_or_zero row k +ℤ price_of p j) ≤ℤ (listed_or_zero row j +ℤ price_of p k +ℤ b.ask.eps) =
    all_listed (IsWorth b.ask.eps p row j) row k (free.owners_slack v j o) (listed_benefits b.base v k lk) in
    omega (arith, ints)

some_or_none : (o : Option ℕ) → (IsSome o) ⊎ (o ≡ None)
some_or_none None = inr refl
some_or_none (Some i) = inl refl

pub blocked : (b : BookData) (q : List ℤ) (i : ℕ) → IsFree b → IsBelow q (prices_of b) →
    IsUnder (benefits_at b.base i) q b.ask.floor → IsBlocked b.base.problem b.owners i
blocked b q i free below under = λ x j reach l. elim (some_or_none (owner_of b.owners j)) [
  | inl s ↦ s
  | inr free_one ↦ absurd (broken x j reach l free_one)
] where
  broken : (x j : ℕ) → IsReached b.base.problem b.owners i x → IsListed b.base.problem x j → owner_of b.owners j ≡ None → ⊥
  broken x j reach l free_one =
      let m : ℕ = persons_of b - 1 in
      let some = free.problem.size.some in
      let range = listed_range b.base.problem x j free.problem l in
      let step = IsStep-spread b.base b.ask.eps (IsSpread-spread b.base free.problem) (is_eps b.base b.ask b.start free.in_phase) in
      let positive = step.least in
      let least = start_least b free in
      let first : price_of (prices_of b) j ≡ price_of b.start j =
      subst (λ o. IsPriced b.ask.eps (price_of b.start j) (price_of (prices_of b) j) o) free_one (free.priced j) in
      let most : price_of b.start j ≤ℤ start_top b = price_greatest b.start j least in
      let one = lists_one b.base.problem b.owners i reach.0 x j reach.1 l in
      let s = empty_step (start_top b) (step_in b) (prices_of b) m j one.0 least positive (let e =
      free.sizes.priced in omega arith) range.object.first (subst (λ k. j ≤ k) (sym free.sizes.priced)
      range.object.last) (omega (arith, ints))
      (first_high b q i one.0 free below under one.1) in
      let dear : (u : ℕ) → Type 0 = λ u. (k : ℕ) → IsListed b.base.problem u k → rung (start_top b) (step_in b) (suc s.0) <ℤ price_of (prices_of b) k in
      let start : dear i = λ k lk. let f = first_high b q i k free below under lk in let g =
      rung_rises (start_top b) (step_in b) (suc s.0) m positive (let h = s.1.before in omega arith) in
      omega (arith, ints) in
      let next : (u k v : ℕ) → dear u → IsListed b.base.problem u k → owner_of b.owners k ≡ Some v → dear v = λ u k v d lk o h lh.
      let c = next_high b v k h free o lh in
      let e = d k lk in
      let g = rung_more (start_top b) (step_in b) s.0 in
      s.1.empty h (omega (arith, ints)) in
      let last = reached_within dear b.base.problem b.owners i x next start reach j l in
      let g = rung_rises (start_top b) (step_in b) 0 (suc s.0) positive (omega arith) in
      let z = rung_first (start_top b) (step_in b) in
      omega (arith, ints)

-- no path to an unowned object follows an offer below the floor
pub no_path : (b : BookData) (q : List ℤ) (i : ℕ) (js : List ℕ) → IsFree b → IsBelow q (prices_of b) →
    IsUnder (benefits_at b.base i) q b.ask.floor → IsPath b.base.problem b.owners i js → ⊥
no_path b q i js free below under path = path_open b.base.problem b.owners i js path (blocked b q i free below under)

sum_most : (p : List ℤ) (top : ℤ) → ((k : ℕ) → get_or p k (pos 0) ≤ℤ top) → sum_of p ≤ℤ (pos (length p) *ℤ top)
sum_most [] top h = let z = zero-*ℤ top in omega (arith, ints)
sum_most (x ∷ p) top h =
    let i = sum_most p top (λ k. h (suc k)) in
    let a = h 0 in
    let s : pos (suc (length p)) *ℤ top ≡ (pos (length p) *ℤ top) +ℤ top = suc_ℤ-*ℤ (pos (length p)) top in
    omega (arith, ints)

-- the bids accepted in a phase, times eps, are at most the sum of top less price at the phase's start
raised_bound : (b : BookData) → IsFree b → (pos (phase_accepted b) *ℤ b.ask.eps) ≤ℤ
    ((pos (persons_of b) *ℤ top_of b.base (greatest_of b.start) b.ask.eps) -ℤ sum_of b.start)
raised_bound b free =
    let top = top_of b.base (greatest_of b.start) b.ask.eps in
    let t = sum_most (prices_of b) top (λ k. free.topped (suc k)) in
    let r = free.progress.risen in
    let u = subst (λ m. sum_of (prices_of b) ≤ℤ (pos m *ℤ top)) free.sizes.priced t in
    omega (arith, ints)

room_is : (top : ℤ) (p : List ℤ) → room_under top p ≡ (pos (length p) *ℤ top) -ℤ sum_of p
room_is top [] = let z = zero-*ℤ top in omega (arith, ints)
room_is top (x ∷ p) =
    let i = room_is top p in
    let s : pos (suc (length p)) *ℤ top ≡ (pos (length p) *ℤ top) +ℤ top = suc_ℤ-*ℤ (pos (length p)) top in
    omega (arith, ints)

bound_div : (x : ℕ) (room eps : ℤ) → pos 1 ≤ℤ eps → (pos x *ℤ eps) ≤ℤ room → pos x ≤ℤ int_div room eps
bound_div x (pos r) (pos e) some h =
    let p : pos x *ℤ pos e ≡ pos (x * e) = pos-*ℤ-pos x e in
    let g : x * e ≤ r = omega (arith, ints) in
    let d : x ≤ r / e = le-div x r e (omega (arith, ints)) g in
    omega (arith, ints)
bound_div x (negsuc r) (pos e) some h = let p : pos x *ℤ pos e ≡ pos (x * e) = pos-*ℤ-pos x e in absurd (omega (arith, ints))
bound_div x r (negsuc e) some h = absurd (omega (arith, ints))

-- the bids accepted in a phase are at most the steps of eps under its top
pub accepted_bound : (b : BookData) → IsFree b → pos (phase_accepted b) ≤ℤ phase_bound b
accepted_bound b free =
    let top = top_of b.base (greatest_of b.start) b.ask.eps in
    let r = raised_bound b free in
    let long : length b.start ≡ persons_of b = free.sizes.started in
    let room : room_under top b.start ≡ (pos (persons_of b) *ℤ top) -ℤ sum_of b.start = room_is top b.start ∙ ap (λ m. (pos m *ℤ top) -ℤ sum_of b.start) long in
    bound_div (phase_accepted b) (room_under top b.start) b.ask.eps (eps_least b free) (rw room r)

-- no price at the phase's start is above its top
pub start_under : (b : BookData) → IsFree b → All (λ p. p ≤ℤ top_of b.base (greatest_of b.start) b.ask.eps) b.start
start_under b free =
    let room = (span b.base b.ask.eps free.problem (is_eps b.base b.ask b.start free.in_phase)).least in
    All-weaker (λ p. p ≤ℤ greatest_of b.start) (λ p. p ≤ℤ top_of b.base (greatest_of b.start) b.ask.eps)
    (λ p h. omega (arith, ints)) b.start (greatest_bounds b.start)

-- the room under the top with one more price
pub room_more : (top : ℤ) (ps : List ℤ) (i room gap : ℕ) (whole : ℤ) → i < length ps →
    pos gap ≡ top -ℤ get_or ps i (pos 0) → (pos room +ℤ room_under top (drop i ps)) ≡ whole →
    (pos (room + gap) +ℤ room_under top (drop (i + 1) ps)) ≡ whole
room_more top ps i room gap whole lt e h =
    let d : drop i ps ≡ get_or ps i (pos 0) ∷ drop (suc i) ps = drop-cons ps i (pos 0) lt in
    let r : room_under top (drop i ps) ≡ (top -ℤ get_or ps i (pos 0)) +ℤ room_under top (drop (suc i) ps) = ap (room_under top) d in
    let s : room_under top (drop (i + 1) ps) ≡ room_under top (drop (suc i) ps) = let one : i + 1 ≡ suc i =
    omega arith in ap (λ m. room_under top (drop m ps)) one in
    omega (arith, ints)
