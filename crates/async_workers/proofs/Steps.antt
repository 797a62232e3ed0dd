-- Each step on the place keeps its rule.
use Rattle.std.proofs.Common.{◌≡◌, ℕ, zero, suc, ◌+◌, ◌<◌, List, [], ◌∷◌, length, set}
use Rattle.std.proofs.Common.{true, refl, sym, ap, ◌∙◌, subst, inl, inr, ⊎_elim, arith}
use Rattle.std.proofs.Common.{add-one}
use mathlib.Core.Option.{some}
use lib.ListN.{get_elem?}
use Rattle.crossbeam_queue.specs.Fifo.{Pushes, Pops, Forks, Merges, Learns}
use Rattle.crossbeam_queue.proofs.Lists.{at_set, set_here, set_else}
use Rattle.auction_book.specs.Book.{BookData}
use Rattle.auction_book.specs.Free.{IsFree}
use Rattle.async_workers.specs.declared.rule.Known.{Known}
use Rattle.async_workers.specs.declared.rule.LastSession.{LastSession}
use Rattle.async_workers.specs.declared.rule.View.{View}
use Rattle.async_workers.specs.declared.rule.View.TheVariants.{Fresh, Opening, Away, Holding, Meeting, Spent}
use Rattle.async_workers.specs.Views.{desk_made, keeps_empty, met, opener_next, session_at, first_session}
use Rattle.async_workers.specs.inside.Passing.{opener_at}
use Rattle.async_workers.specs.PlaceRule.{Fits, Gave, HasItsNumber, IsRunning, IsCurrent}
use Rattle.async_workers.specs.PlaceRule.{IsUntouched, MayFollow, Rule, Takes, Took, content}
use Rattle.async_workers.specs.inside.Passing.{IsClosing, IsVacant, MetIsCurrent}
use Rattle.async_workers.proofs.OtherViews.{each_set, fresh_holding, fresh_meeting, fresh_opening, running}
use Rattle.async_workers.proofs.OtherViews.{same_pass, takes, there_is}
use Rattle.async_workers.proofs.Giving.{gives}
use Rattle.async_workers.proofs.Splitting.{forks, forks_first, opens, sees_vacant, unopened}

-- join
merged : (items : List BookData) (views : List View) (pass other : ℕ) (v : View) (t : LastSession)
    (taken : BookData) (u : LastSession) (g : IsRunning items views) → get_elem? views pass ≡ some v →
    (g.holder ≡ some pass) × (taken ≡ g.book) × IsCurrent g.book t × HasItsNumber g.made g.pass_of pass t →
    ¬ (other ≡ pass) → get_elem? (set views pass (Meeting t taken u)) other ≡ some (Away u) →
    IsRunning items (set (set views pass (Meeting t taken u)) other Spent)
merged items views pass other v t taken u g at mine apart theirs_at =
    let both : View = Meeting t taken u in
    let vs : List View = set views pass both in
    let F : ℕ → View → Type 0 = Fits g.book g.holder g.made g.pass_of in
    let was : get_elem? views other ≡ some (Away u) = ⊎_elim (λ x. absurd (apart x.0)) (λ x. x.1) (at_set views pass other both (Away u) theirs_at) in
    let theirs = g.each other (Away u) was in
    let now : (j : ℕ) (y : View) → get_elem? vs j ≡ some y → F j y = each_set F views pass both (
      mine.0,
      mine.1,
      mine.2,
      mine.3,
      theirs.1,
    ) (λ j y _ e. g.each j y e) in
    record {
      book = g.book;
      holder = g.holder;
      made = g.made;
      pass_of = g.pass_of;
      free = g.free;
      place = g.place;
      held = λ q e. (
        both,
        subst (λ q. get_elem? (set vs other Spent) q ≡ some both) (same_pass pass q g.holder mine.0 e)
            (set_else vs other pass Spent (λ x. apart (sym x)) ∙ set_here views pass both (there_is views pass v at)),
        refl,
      );
      each = each_set F vs other Spent theirs.0 (λ j y _ e. now j y e);
    }

merges : (pass : ℕ) (t : LastSession) (taken : BookData) (other : ℕ) (u : LastSession) →
    Merges Rule pass (Holding t taken) other (Away u) (Meeting t taken u) Spent
merges pass t taken other u items views rule at apart theirs_at =
    let g : IsRunning items views = running items views pass (Holding t taken) rule at (fresh_holding t taken) in
    inr (merged items views pass other (Holding t taken) t taken u g at (g.each pass (Holding t taken) at) apart theirs_at)

merges_more : (pass : ℕ) (t : LastSession) (taken : BookData) (s : LastSession) (other : ℕ) (u : LastSession) →
    Merges Rule pass (Meeting t taken s) other (Away u) (Meeting t taken u) Spent
merges_more pass t taken s other u items views rule at apart theirs_at =
    let g : IsRunning items views = running items views pass (Meeting t taken s) rule at (fresh_meeting t taken s) in
    let mine = g.each pass (Meeting t taken s) at in
    inr (merged items views pass other (Meeting t taken s) t taken u g at (mine.0, mine.1, mine.2, mine.3) apart theirs_at)

-- what a closer learns of the desk that it met last
hears : (pass : ℕ) (t : LastSession) (taken : BookData) (u : LastSession) → Learns Rule pass (Meeting t taken u) (λ items. IsCurrent taken u)
hears pass t taken u items views rule at =
    let g : IsRunning items views = running items views pass (Meeting t taken u) rule at (fresh_meeting t taken u) in
    let mine = g.each pass (Meeting t taken u) at in
    subst (λ b. IsCurrent b u) (sym mine.1) mine.4

-- before the first step
pub begins : Rule [] (Fresh ∷ [])
begins = inl (refl, refl)

-- the same steps from a view that an equation names
same_told : (t u : LastSession) → Away t ≡ Away u → t ≡ u
same_told t u e = cc

pub same_held : (t u : LastSession) (b c : BookData) → Holding t b ≡ Holding u c → (t ≡ u) × (b ≡ c)
same_held t u b c e = (cc, cc)

pub takes_from : (pass : ℕ) (v : View) (t : LastSession) → v ≡ Away t → Pops Rule pass v (Took v)
takes_from pass v t is = subst (λ u. Pops Rule pass u (Took u)) (sym is) (λ x items views rule at.
    let r = takes pass t x items views rule at in (r.0, r.1, λ u e. subst (λ s. Takes s x r.0) (same_told t u e) r.2))

pub gives_from : (pass : ℕ) (v : View) (t : LastSession) (taken x : BookData) (k : Known) → v ≡ Holding t taken →
    t.known.number ≡ k.number → MayFollow k taken x → Pushes Rule 1 pass v x (Gave k v x)
gives_from pass v t taken x k is same may = subst (λ u. Pushes Rule 1 pass u x (Gave k u x)) (sym is) (λ items views room rule at.
    let r = gives pass t taken x k same may items views room rule at in
    (r.0, r.1, λ u c e number. r.2 ∙ ap (λ c. Away (session_at k c x)) (same_held t u taken c e).1))

pub sees_vacant_from : (pass : ℕ) (v : View) (t : LastSession) (taken : BookData) → v ≡ Holding t taken → Learns Rule pass v (IsVacant v)
sees_vacant_from pass v t taken is = subst (λ u. Learns Rule pass u (IsVacant u)) (sym is)
    (λ items views rule at _. sees_vacant pass t taken items views rule at)

pub opens_from : (pass : ℕ) (v : View) (b : BookData) (made : ℕ) → IsFree b → v ≡ opener_at b made → Pushes Rule 1 pass v b (λ w. w ≡ Spent)
opens_from pass v b made free is = subst (λ u. Pushes Rule 1 pass u b (λ w. w ≡ Spent)) (sym is) (opens pass b made free)

opener_sees : (pass : ℕ) (b : BookData) (made : ℕ) → Learns Rule pass (opener_at b made) (IsVacant (opener_at b made))
opener_sees pass b zero items views rule at _ = (unopened items views pass rule at).0
opener_sees pass b (suc made) items views rule at _ =
    let g : IsRunning items views = running items views pass (Opening b (suc made)) rule at (fresh_opening b (suc made)) in
    g.place ∙ ap (λ h. content h g.book) (g.each pass (Opening b (suc made)) at).0

pub opener_sees_from : (pass : ℕ) (v : View) (b : BookData) (made : ℕ) → v ≡ opener_at b made → Learns Rule pass v (IsVacant v)
opener_sees_from pass v b made is = subst (λ u. Learns Rule pass u (IsVacant u)) (sym is) (opener_sees pass b made)

pub opener_keeps_empty : (b : BookData) (made : ℕ) → keeps_empty (opener_at b made) ≡ true
opener_keeps_empty b zero = refl
opener_keeps_empty b (suc made) = refl

forks_at : (pass : ℕ) (b : BookData) (made : ℕ) → IsFree b → IsUntouched b → made < length b.claims →
    Forks Rule pass (opener_at b made) (opener_next b (opener_at b made)) (desk_made b (opener_at b made))
forks_at pass b zero free untouched few = forks_first pass b free untouched few
forks_at pass b (suc made) free untouched few = forks pass b (suc made) untouched few

pub forks_from : (pass : ℕ) (v : View) (b : BookData) (made : ℕ) → v ≡ opener_at b made → IsFree b → IsUntouched b →
    made < length b.claims → Forks Rule pass v (opener_next b v) (desk_made b v)
forks_from pass v b made is free untouched few = subst (λ u. Forks Rule pass u (opener_next b u) (desk_made b u))
    (sym is) (forks_at pass b made free untouched few)

pub opener_next-at : (b : BookData) (made : ℕ) → opener_next b (opener_at b made) ≡ opener_at b (made + 1)
opener_next-at b zero = refl
opener_next-at b (suc made) = rw add-one refl

pub desk_made-at : (b : BookData) (made : ℕ) → desk_made b (opener_at b made) ≡ Away (first_session b (made + 1))
desk_made-at b zero = refl
desk_made-at b (suc made) = refl

pub met-closing : (v : View) (t : LastSession) (taken : BookData) (u : LastSession) → IsClosing v t taken → met v (Away u) ≡ Meeting t taken u
met-closing v t taken u c = ⊎_elim (λ (e : v ≡ Holding t taken). ap (λ x. met x (Away u)) e)
    (λ (e : (s : LastSession) × (v ≡ Meeting t taken s)). ap (λ x. met x (Away u)) e.1) c

pub merges_from : (pass : ℕ) (v : View) (t : LastSession) (taken : BookData) (other : ℕ) (w : View)
    (u : LastSession) → IsClosing v t taken → w ≡ Away u → Merges Rule pass v other w (met v w) Spent
merges_from pass v t taken other w u c is = subst (λ y. Merges Rule pass v other y (met v y) Spent) (sym is) (⊎_elim
    (λ (e : v ≡ Holding t taken). subst (λ x. Merges Rule pass x other (Away u) (met x (Away u)) Spent) (sym e) (merges pass t taken other u))
    (λ (e : (s : LastSession) × (v ≡ Meeting t taken s)). subst (λ x. Merges Rule pass x other (Away u)
    (met x (Away u)) Spent) (sym e.1) (merges_more pass t taken e.0 other u))
    c)

same_meeting : (t u s x : LastSession) (b c : BookData) → Meeting t b s ≡ Meeting u c x → (b ≡ c) × (s ≡ x)
same_meeting t u s x b c e = (cc, cc)

hears_from : (pass : ℕ) (v : View) (t : LastSession) (taken : BookData) (u : LastSession) → v ≡ Meeting t taken u → Learns Rule pass v (λ items. MetIsCurrent v)
hears_from pass v t taken u is = subst (λ x. Learns Rule pass x (λ items. MetIsCurrent x)) (sym is) (λ items views rule at s b x e.
    let same = same_meeting t s u x taken b e in
    subst (λ (y : BookData × LastSession). IsCurrent y.0 y.1) (λ i. (same.0 i, same.1 i)) (hears pass t taken u items views rule at))

pub hears_meeting : (pass : ℕ) (v w : View) (t : LastSession) (taken : BookData) (u : LastSession) →
    IsClosing v t taken → w ≡ Away u → Learns Rule pass (met v w) (λ items. MetIsCurrent (met v w))
hears_meeting pass v w t taken u c is = hears_from pass (met v w) t taken u (ap (met v) is ∙ met-closing v t taken u c)

-- a place for one book isn't full and empty at once
pub not_both : (items : List BookData) (n : ℕ) → length items ≡ n → n ≡ 1 → items ≡ [] → ⊥
not_both items n full one empty = let z = ap length empty in omega (arith, full, one, z)
