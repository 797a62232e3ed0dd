-- Numbers and desks are made.
use Rattle.std.proofs.Common.{◌≡◌, ◌≢◌, ℕ, zero, suc, ◌+◌, ◌<◌, List, [], ◌∷◌, ◌++◌, length, set}
use Rattle.std.proofs.Common.{refl, sym, ap, ◌∙◌, subst, inr, ⊎_elim, arith, cond, eqb}
use Rattle.std.proofs.Common.{eq-eqb, ne_eqb}
use Rattle.std.proofs.lemmas.List.{length-set, set-set}
use mathlib.Core.Option.{Option as Maybe, some, none, some-ne-none, some-injective}
use lib.ListN.{get_elem?}
use Rattle.crossbeam_queue.specs.Fifo.{Pushes, Forks, Learns}
use Rattle.crossbeam_queue.proofs.Lists.{set_here, at_longer}
use Rattle.auction_book.specs.Book.{BookData}
use Rattle.auction_book.specs.Free.{IsFree}
use Rattle.async_workers.specs.declared.rule.LastSession.{LastSession}
use Rattle.async_workers.specs.declared.rule.View.{View}
use Rattle.async_workers.specs.declared.rule.View.TheVariants.{Fresh, Opening, Away, Holding, Meeting, Spent}
use Rattle.async_workers.specs.Views.{first_session}
use Rattle.async_workers.specs.inside.Passing.{opener_at}
use Rattle.async_workers.specs.PlaceRule.{Fits, IsRunning, IsCurrent, IsUnopened}
use Rattle.async_workers.specs.PlaceRule.{IsUntouched, Rule, content}
use Rattle.async_workers.proofs.Untouched.{first_told}
use Rattle.async_workers.proofs.OtherViews.{at_end, each_set, fresh_holding, fresh_opening, running, same_pass}
use Rattle.async_workers.proofs.OtherViews.{there_is}

-- miss: while a pass holds the book, the place is empty
pub sees_vacant : (pass : ℕ) (t : LastSession) (taken : BookData) → Learns Rule pass (Holding t taken) (λ items. items ≡ [])
sees_vacant pass t taken items views rule at =
    let g : IsRunning items views = running items views pass (Holding t taken) rule at (fresh_holding t taken) in
    let mine = g.each pass (Holding t taken) at in
    g.place ∙ ap (λ h. content h g.book) mine.0

-- the passes of numbers, with one more number
pub with_pass : (ℕ → Maybe ℕ) → ℕ → ℕ → ℕ → Maybe ℕ
with_pass pass_of number pass m = cond (eqb m number) (some pass) (pass_of m)

pub with_pass-same : (pass_of : ℕ → Maybe ℕ) (number pass : ℕ) → with_pass pass_of number pass number ≡ some pass
unfolding with_pass
with_pass-same pass_of number pass = ap (λ b. cond b (some pass) (pass_of number)) (eq-eqb number number refl)

pub with_pass-other : (pass_of : ℕ → Maybe ℕ) (number pass m : ℕ) → m ≢ number → with_pass pass_of number pass m ≡ pass_of m
unfolding with_pass
with_pass-other pass_of number pass m ne = ap (λ b. cond b (some pass) (pass_of m)) (ne_eqb m number ne)

-- the other views when a desk is made
pub others_split : (b : BookData) (holder : Maybe ℕ) (made : ℕ) (pass_of : ℕ → Maybe ℕ) (pass j new : ℕ) (u : View) →
    holder ≡ some pass → j ≢ pass → Fits b holder made pass_of j u →
    Fits b holder (made + 1) (with_pass pass_of (made + 1) new) j u
others_split b holder made pass_of pass j new Fresh held apart f = f
others_split b holder made pass_of pass j new (Opening o n) held apart f = absurd (apart (same_pass j pass holder f.0 held))
others_split b holder made pass_of pass j new (Away t) held apart f =
    let last = f.2.1 in
    (f.0, f.1, (with_pass-other pass_of (made + 1) new t.known.number (λ e. let e' : t.known.number ≡ made + 1 = e in omega arith) ∙ f.2.0, omega arith))
others_split b holder made pass_of pass j new (Holding t taken) held apart f = absurd (apart (same_pass j pass holder f.0 held))
others_split b holder made pass_of pass j new (Meeting t taken u) held apart f = absurd (apart (same_pass j pass holder f.0 held))
others_split b holder made pass_of pass j new Spent held apart f = f

-- split
pub splits : (items : List BookData) (views : List View) (pass : ℕ) (b : BookData) (made : ℕ) → IsUntouched b →
    IsRunning items views → get_elem? views pass ≡ some (Opening b made) → made < length b.claims →
    IsRunning items (set views pass (Opening b (made + 1)) ++ Away (first_session b (made + 1)) ∷ [])
splits items views pass b made untouched g at few =
    let mine = g.each pass (Opening b made) at in
    let left : View = Opening b (made + 1) in
    let right : View = Away (first_session b (made + 1)) in
    let vs : List View = set views pass left in
    let new : ℕ = length vs in
    let long : new ≡ length views = length-set views pass left in
    let here : pass < length views = there_is views pass (Opening b made) at in
    let pass_of : ℕ → Maybe ℕ = with_pass g.pass_of (g.made + 1) new in
    let free : IsFree b = subst IsFree (sym mine.1) g.free in
    let F : ℕ → View → Type 0 = Fits g.book g.holder (g.made + 1) pass_of in
    let is : made ≡ g.made = mine.2 in
    let old : (j : ℕ) (u : View) → get_elem? vs j ≡ some u → F j u =
    each_set F views pass left (mine.0, mine.1, ap (λ k. k + 1) mine.2)
    (λ j u apart e. others_split g.book g.holder g.made g.pass_of pass j new u mine.0 apart (g.each j u e)) in
    let told : IsCurrent b (first_session b (made + 1)) = first_told b (made + 1) free untouched (record { first = omega arith; last = omega arith }) in
    let added : F new right = (
      (λ e. let same : new ≡ pass = same_pass new pass g.holder e mine.0 in omega arith),
      subst (λ c. IsCurrent c (first_session b (made + 1))) mine.1 told,
      (ap (λ k. pass_of (k + 1)) is ∙ with_pass-same g.pass_of (g.made + 1) new, omega arith),
    ) in
    record {
      book = g.book;
      holder = g.holder;
      made = g.made + 1;
      pass_of = pass_of;
      free = g.free;
      place = g.place;
      held = λ q e. (
        left,
        at_longer vs (right ∷ []) q left (subst (λ q. get_elem? vs q ≡ some left)
            (same_pass pass q g.holder mine.0 e) (set_here views pass left here)),
        refl,
      );
      each = λ j u e. ⊎_elim (λ (x : (j ≡ new) × (right ≡ u)). subst (λ (y : ℕ × View). F y.0 y.1)
          (λ i. (sym x.0 i, x.1 i)) added) (λ x. old j u x) (at_end vs right u j e);
    }

pub forks : (pass : ℕ) (b : BookData) (made : ℕ) → IsUntouched b → made < length b.claims →
    Forks Rule pass (Opening b made) (Opening b (made + 1)) (Away (first_session b (made + 1)))
forks pass b made untouched few items views rule at =
    inr (splits items views pass b made untouched (running items views pass (Opening b made) rule at (fresh_opening b made)) at few)

-- an unopened place with the book in the opener's hand
pub opened_hand : (items : List BookData) (views : List View) (pass : ℕ) (b : BookData) → IsFree b →
    IsUnopened items views → get_elem? views pass ≡ some Fresh → IsRunning items (set views pass (Opening b 0))
opened_hand items views pass b free fresh at =
    let start : View = Opening b 0 in
    let F : ℕ → View → Type 0 = Fits b (some pass) 0 (λ _. none) in
    let here : pass < length views = there_is views pass Fresh at in
    record {
      book = b;
      holder = some pass;
      made = 0;
      pass_of = λ _. none;
      free = free;
      place = fresh.0;
      held = λ q e. (start, subst (λ q. get_elem? (set views pass start) q ≡ some start) (some-injective pass q e) (set_here views pass start here), refl);
      each = each_set F views pass start (refl, refl, refl) (λ j u apart e. absurd (apart (alone views pass j u fresh.1 here e)));
    }
  where
    alone : (views : List View) (pass j : ℕ) (u : View) → views ≡ Fresh ∷ [] → pass < length views → get_elem? views j ≡ some u → j ≡ pass
    alone views pass j u is here e = let a = there_is views j u e in let l : length views ≡ 1 = ap length is in omega arith

pub unopened : (items : List BookData) (views : List View) (pass : ℕ) → Rule items views → get_elem? views pass ≡ some Fresh → IsUnopened items views
unopened items views pass rule at = ⊎_elim (λ (x : IsUnopened items views). x) (λ (x : IsRunning items views). absurd (x.each pass Fresh at)) rule

-- the first split brings the book
pub forks_first : (pass : ℕ) (b : BookData) → IsFree b → IsUntouched b → 0 < length b.claims → Forks Rule pass Fresh (Opening b 1) (Away (first_session b 1))
forks_first pass b free untouched some_worker items views rule at =
    let start : View = Opening b 0 in
    let g = opened_hand items views pass b free (unopened items views pass rule at) at in
    inr (subst (λ l. IsRunning items (l ++ Away (first_session b 1) ∷ [])) (set-set views pass start (Opening b 1))
    (splits items (set views pass start) pass b 0 untouched g (set_here views pass start (there_is views pass Fresh at)) some_worker))

-- the other views when the opener puts the book in
pub others_opened : (b : BookData) (holder : Maybe ℕ) (made : ℕ) (pass_of : ℕ → Maybe ℕ) (pass j : ℕ) (u : View) →
    holder ≡ some pass → j ≢ pass → Fits b holder made pass_of j u → Fits b none made pass_of j u
others_opened b holder made pass_of pass j Fresh held apart f = f
others_opened b holder made pass_of pass j (Opening o n) held apart f = absurd (apart (same_pass j pass holder f.0 held))
others_opened b holder made pass_of pass j (Away t) held apart f = ((λ e. some-ne-none j (sym e)), f.1, f.2)
others_opened b holder made pass_of pass j (Holding t taken) held apart f = absurd (apart (same_pass j pass holder f.0 held))
others_opened b holder made pass_of pass j (Meeting t taken u) held apart f = absurd (apart (same_pass j pass holder f.0 held))
others_opened b holder made pass_of pass j Spent held apart f = λ e. some-ne-none j (sym e)

-- the opener's give
pub put_in : (items : List BookData) (views : List View) (pass : ℕ) (b : BookData) (made : ℕ) → IsRunning items views →
    get_elem? views pass ≡ some (Opening b made) → IsRunning (items ++ b ∷ []) (set views pass Spent)
put_in items views pass b made g at =
    let mine = g.each pass (Opening b made) at in
    let empty : items ≡ [] = g.place ∙ ap (λ h. content h g.book) mine.0 in
    let F : ℕ → View → Type 0 = Fits b none g.made g.pass_of in
    record {
      book = b;
      holder = none;
      made = g.made;
      pass_of = g.pass_of;
      free = subst IsFree (sym mine.1) g.free;
      place = ap (λ l. l ++ b ∷ []) empty;
      held = λ q e. absurd (some-ne-none q (sym e));
      each = each_set F views pass Spent (λ e. some-ne-none pass (sym e)) (λ j u apart e.
          subst (λ c. Fits c none g.made g.pass_of j u) (sym mine.1) (others_opened g.book g.holder g.made g.pass_of pass j u mine.0 apart (g.each j u e)));
    }

pub opens : (pass : ℕ) (b : BookData) (made : ℕ) → IsFree b → Pushes Rule 1 pass (opener_at b made) b (λ w. w ≡ Spent)
opens pass b zero free items views room rule at =
    let start : View = Opening b 0 in
    let g = opened_hand items views pass b free (unopened items views pass rule at) at in
    let in_place = put_in items (set views pass start) pass b 0 g (set_here views pass start (there_is views pass Fresh at)) in
    (Spent, inr (subst (λ l. IsRunning (items ++ b ∷ []) l) (set-set views pass start Spent) in_place), refl)
opens pass b (suc made) free items views room rule at =
    (Spent, inr (put_in items views pass b (suc made) (running items views pass (Opening b (suc made)) rule at (fresh_opening b (suc made))) at), refl)
