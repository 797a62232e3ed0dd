-- A pass gives the book back.
use Rattle.std.proofs.Common.{◌≡◌, ◌≢◌, ℕ, ◌≤◌, [], ◌∷◌, ◌++◌, length}
use Rattle.std.proofs.Common.{true, refl, sym, ap, ◌∙◌, subst, inr}
use mathlib.Core.Option.{Option as Maybe, some, none, some-ne-none}
use Rattle.crossbeam_queue.specs.Fifo.{Pushes}
use Rattle.assign_core.specs.Numbered.{IsNumber}
use Rattle.auction_book.specs.Book.{BookData}
use Rattle.auction_book.specs.Free.{IsFree}
use Rattle.async_workers.specs.declared.rule.Known.{Known}
use Rattle.async_workers.specs.declared.rule.LastSession.{LastSession}
use Rattle.async_workers.specs.declared.rule.View.{View}
use Rattle.async_workers.specs.declared.rule.View.TheVariants.{Fresh, Opening, Away, Holding, Meeting, Spent}
use Rattle.async_workers.specs.Views.{session_at}
use Rattle.async_workers.specs.PlaceRule.{ExtendsBy, Fits, IsRunning, IsCurrent}
use Rattle.async_workers.specs.PlaceRule.{MayFollow, Rule, content}
use Rattle.async_workers.proofs.Extending.{extends_itself}
use Rattle.async_workers.proofs.OtherViews.{each_set, fresh_holding, running, same_pass, told_kept}

-- the other views when a pass puts the book x in place of b
pub others_given : (b x : BookData) (holder : Maybe ℕ) (made : ℕ) (pass_of : ℕ → Maybe ℕ) (pass j number : ℕ) (u : View)
    → IsFree b → holder ≡ some pass → j ≢ pass → pass_of number ≡ some pass →
    ExtendsBy number b x → (b.stopped ≡ true → x.stopped ≡ true) → Fits b holder made pass_of j u → Fits x none made pass_of j u
others_given b x holder made pass_of pass j number Fresh free held apart mine follows stays f = f
others_given b x holder made pass_of pass j number (Opening o n) free held apart mine follows stays f = absurd (apart (same_pass j pass holder f.0 held))
others_given b x holder made pass_of pass j number (Away t) free held apart mine follows stays f =
    let other : t.known.number ≢ number = λ e. apart (same_pass j pass (pass_of number) (subst (λ n. pass_of n ≡ some j) e f.2.0) mine) in
    ((λ e. some-ne-none j (sym e)), told_kept b x number t free f.1 follows stays other, f.2)
others_given b x holder made pass_of pass j number (Holding t taken) free held apart mine follows stays f = absurd (apart (same_pass j pass holder f.0 held))
others_given b x holder made pass_of pass j number (Meeting t taken u) free held apart mine follows stays f = absurd (apart (same_pass j pass holder f.0 held))
others_given b x holder made pass_of pass j number Spent free held apart mine follows stays f = λ e. some-ne-none j (sym e)

-- what the giver last learnt is true of the book that it puts back
pub told_given : (k : Known) (taken x : BookData) → IsFree taken → IsNumber (length taken.claims) k.number →
    MayFollow k taken x → IsCurrent x (session_at k taken x)
told_given k taken x free number may = record {
  taken_free = free;
  put_free = may.free;
  taken_on = may.extends.goes_on;
  put_on = extends_itself x;
  base = refl;
  number = subst (λ n. IsNumber n k.number) (sym may.extends.goes_on.workers) number;
  below = may.below;
  earlier = may.earlier;
  accepted = refl;
  claim = refl;
  stopped = may.stopped;
}

-- give
pub gives : (pass : ℕ) (t : LastSession) (taken x : BookData) (k : Known) → t.known.number ≡ k.number →
    MayFollow k taken x → Pushes Rule 1 pass (Holding t taken) x (λ w. w ≡ Away (session_at k taken x))
gives pass t taken x k same may items views room rule at =
    let g : IsRunning items views = running items views pass (Holding t taken) rule at (fresh_holding t taken) in
    let mine = g.each pass (Holding t taken) at in
    let empty : items ≡ [] = g.place ∙ ap (λ h. content h g.book) mine.0 in
    let w : View = Away (session_at k taken x) in
    let F : ℕ → View → Type 0 = Fits x none g.made g.pass_of in
    let free : IsFree taken = subst IsFree (sym mine.1) g.free in
    let number : IsNumber (length taken.claims) k.number =
    subst (λ (z : BookData × ℕ). IsNumber (length z.0.claims) z.1) (λ i. (sym mine.1 i, same i)) mine.2.number in
    let has_number : (g.pass_of k.number ≡ some pass) × (k.number ≤ g.made) = subst (λ n. (g.pass_of n ≡ some pass) × (n ≤ g.made)) same mine.3 in (
      w,
      inr record {
        book = x;
        holder = none;
        made = g.made;
        pass_of = g.pass_of;
        free = may.free;
        place = ap (λ l. l ++ x ∷ []) empty;
        held = λ q e. absurd (some-ne-none q (sym e));
        each = each_set F views pass w ((λ e. some-ne-none pass (sym e)), told_given k taken x free number may, has_number)
            (λ j u apart e. others_given g.book x g.holder g.made g.pass_of pass j k.number u g.free mine.0 apart has_number.0
            (subst (λ b. ExtendsBy k.number b x) mine.1 may.extends)
            (subst (λ (b : BookData). b.stopped ≡ true → x.stopped ≡ true) mine.1 may.stays_stopped)
            (g.each j u e));
      },
      refl,
    )
