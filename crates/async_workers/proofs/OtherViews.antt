-- The other views, when one of them changes.
use Rattle.std.proofs.Common.{◌≡◌, ◌≢◌, ◌⊎◌, ℕ, zero, suc, ◌<◌, List, [], ◌∷◌, ◌++◌, length, set, Option}
use Rattle.std.proofs.Common.{None, Some, true, refl, sym, ap, ◌∙◌, subst, inl, inr, ⊎_elim, arith}
use mathlib.Core.Option.{Option as Maybe, some, none, some-ne-none, some-injective}
use lib.ListN.{get_elem?}
use Rattle.crossbeam_queue.specs.Fifo.{Pops}
use Rattle.crossbeam_queue.proofs.Lists.{at_set, set_here}
use Rattle.assign_core.specs.Numbered.{IsNumber, numbered}
use Rattle.auction_book.specs.Book.{BookData}
use Rattle.auction_book.specs.Free.{IsFree}
use Rattle.async_workers.specs.declared.rule.LastSession.{LastSession}
use Rattle.async_workers.specs.declared.rule.View.{View}
use Rattle.async_workers.specs.declared.rule.View.TheVariants.{Fresh, Opening, Away, Holding, Meeting, Spent}
use Rattle.async_workers.specs.Views.{claim_in, claim_with}
use Rattle.async_workers.specs.PlaceRule.{ExtendsBy, Fits, IsRunning, IsCurrent, IsUnopened}
use Rattle.async_workers.specs.PlaceRule.{Rule, Takes, content}
use Rattle.async_workers.proofs.Extending.{extends_through, own_extended}

-- the elements of a list with one more at its end
pub at_end : (l : List View) (a b : View) (j : ℕ) → get_elem? (l ++ a ∷ []) j ≡ some b → ((j ≡ length l) × (a ≡ b)) ⊎ (get_elem? l j ≡ some b)
at_end [] a b zero e = inl (refl, some-injective a b e)
at_end [] a b (suc j) e = absurd (some-ne-none b (sym e))
at_end (x ∷ xs) a b zero e = inr e
at_end (x ∷ xs) a b (suc j) e = ⊎_elim (λ t. inl (ap suc t.0, t.1)) (λ t. inr t) (at_end xs a b j e)

pub there_is : (l : List View) (j : ℕ) (v : View) → get_elem? l j ≡ some v → j < length l
there_is [] j v e = absurd (some-ne-none v (sym e))
there_is (x ∷ xs) zero v e = omega arith
there_is (x ∷ xs) (suc j) v e = let h = there_is xs j v e in omega arith

-- a fact of each view after one of them has changed
pub each_set : (F : ℕ → View → Type 0) (views : List View) (pass : ℕ) (w : View) → F pass w → ((j : ℕ) (u : View) → j ≢ pass → get_elem? views j ≡ some u → F j u) →
    (j : ℕ) (u : View) → get_elem? (set views pass w) j ≡ some u → F j u
each_set F views pass w mine others j u e = ⊎_elim
    (λ (x : (j ≡ pass) × (w ≡ u)). subst (λ (y : ℕ × View). F y.0 y.1) (λ i. (sym x.0 i, x.1 i)) mine)
    (λ (x : (j ≢ pass) × (get_elem? views j ≡ some u)). others j u x.0 x.1)
    (at_set views pass j w u e)

-- in an unopened place there is only the first view
pub only_fresh : (views : List View) (pass : ℕ) (v : View) → views ≡ Fresh ∷ [] → get_elem? views pass ≡ some v → Fresh ≡ v
only_fresh views zero v is at = some-injective Fresh v (ap (λ l. get_elem? l zero) (sym is) ∙ at)
only_fresh views (suc pass) v is at = absurd (some-ne-none v (sym (ap (λ l. get_elem? l (suc pass)) (sym is) ∙ at)))

pub running : (items : List BookData) (views : List View) (pass : ℕ) (v : View) → Rule items views →
    get_elem? views pass ≡ some v → Fresh ≢ v → IsRunning items views
running items views pass v rule at other =
    ⊎_elim (λ (x : IsUnopened items views). absurd (other (only_fresh views pass v x.1 at))) (λ (x : IsRunning items views). x) rule

pub fresh_away : (t : LastSession) → Fresh ≢ Away t
fresh_away t e = cc

pub fresh_holding : (t : LastSession) (b : BookData) → Fresh ≢ Holding t b
fresh_holding t b e = cc

pub fresh_meeting : (t : LastSession) (b : BookData) (u : LastSession) → Fresh ≢ Meeting t b u
fresh_meeting t b u e = cc

pub fresh_opening : (b : BookData) (n : ℕ) → Fresh ≢ Opening b n
fresh_opening b n e = cc

-- another worker's claim, and what is asked of it, stay
pub claim_kept : (b c : BookData) (number k : ℕ) (o : Option ℕ) → ExtendsBy number b c → k ≢ number → numbered b.claims k None ≡ o → claim_in b k ≡ claim_in c k
claim_kept b c number k None follows other is =
    ap (λ x. claim_with x b.ask) is ∙ sym (ap (λ x. claim_with x c.ask) (follows.claims k other ∙ is))
claim_kept b c number k (Some person) follows other is =
    let asked : b.ask ≡ c.ask = sym (follows.asked k person other is) in
    ap (λ x. claim_with x b.ask) is ∙ ap (λ a. claim_with (Some person) a) asked ∙ sym (ap (λ x. claim_with x c.ask) (follows.claims k other ∙ is))

-- what a desk last learnt stays true through a change by another worker
pub told_kept : (b c : BookData) (number : ℕ) (t : LastSession) → IsFree b → IsCurrent b t → ExtendsBy number b c →
    (b.stopped ≡ true → c.stopped ≡ true) → t.known.number ≢ number → IsCurrent c t
told_kept b c number t free told follows stays other =
    let on = follows.goes_on in
    let own = own_extended b c t.known.table t.known.version free on told.below told.earlier in
    record {
      taken_free = told.taken_free;
      put_free = told.put_free;
      taken_on = told.taken_on;
      put_on = extends_through t.put b c told.put_on on;
      base = told.base ∙ sym on.base;
      number = subst (λ n. IsNumber n t.known.number) (sym on.workers) told.number;
      below = own.long;
      earlier = own.earlier;
      accepted = told.accepted ∙ sym (follows.counts t.known.number other);
      claim = told.claim ∙ claim_kept b c number t.known.number (numbered b.claims t.known.number None) follows other refl;
      stopped = λ asked. stays (told.stopped asked);
    }

pub not_held : (pass : ℕ) (holder : Maybe ℕ) → holder ≡ none → holder ≢ some pass
not_held pass holder a b = some-ne-none pass (sym b ∙ a)

pub same_pass : (p q : ℕ) (holder : Maybe ℕ) → holder ≡ some p → holder ≡ some q → p ≡ q
same_pass p q holder a b = some-injective p q (sym a ∙ b)

-- a book in the place is the book, and nobody holds it
pub lies_there : (holder : Maybe ℕ) (b x : BookData) (items : List BookData) → x ∷ items ≡ content holder b → (holder ≡ none) × (x ≡ b) × (items ≡ [])
lies_there none b x items e = (refl, cc, cc)
lies_there (some p) b x items e = absurd cc

-- the other views when a pass takes the book
pub others_taken : (b : BookData) (holder : Maybe ℕ) (made : ℕ) (pass_of : ℕ → Maybe ℕ) (pass j : ℕ) (u : View) →
    holder ≡ none → j ≢ pass → Fits b holder made pass_of j u → Fits b (some pass) made pass_of j u
others_taken b holder made pass_of pass j Fresh empty apart f = f
others_taken b holder made pass_of pass j (Opening o n) empty apart f = absurd (not_held j holder empty f.0)
others_taken b holder made pass_of pass j (Away t) empty apart f = ((λ e. apart (sym (some-injective pass j e))), f.1, f.2)
others_taken b holder made pass_of pass j (Holding t taken) empty apart f = absurd (not_held j holder empty f.0)
others_taken b holder made pass_of pass j (Meeting t taken u) empty apart f = absurd (not_held j holder empty f.0)
others_taken b holder made pass_of pass j Spent empty apart f = λ e. apart (sym (some-injective pass j e))

-- take
pub takes : (pass : ℕ) (t : LastSession) → Pops Rule pass (Away t) (λ x w. Takes t x w)
takes pass t x items views rule at =
    let g : IsRunning (x ∷ items) views = running (x ∷ items) views pass (Away t) rule at (fresh_away t) in
    let lies = lies_there g.holder g.book x items g.place in
    let mine = g.each pass (Away t) at in
    let w : View = Holding t x in
    let F : ℕ → View → Type 0 = Fits g.book (some pass) g.made g.pass_of in (
      w,
      inr record {
        book = g.book;
        holder = some pass;
        made = g.made;
        pass_of = g.pass_of;
        free = g.free;
        place = lies.2;
        held = λ q e. (
          w,
          subst (λ q. get_elem? (set views pass w) q ≡ some w) (some-injective pass q e)
              (set_here views pass w (there_is views pass (Away t) at)),
          refl,
        );
        each = each_set F views pass w (refl, lies.1, mine.1, mine.2)
            (λ j u apart e. others_taken g.book g.holder g.made g.pass_of pass j u lies.0 apart (g.each j u e));
      },
      record { view = refl; free = subst IsFree (sym lies.1) g.free; told = subst (λ b. IsCurrent b t) (sym lies.1) mine.1 },
    )
