-- The desks of a new place.
use Rattle.std.proofs.Common.{◌≡◌, ℕ, ℤ, zero, suc, ◌+◌, arith, refl, subst, List, [], ◌∷◌, ◌++◌, sym, ap, ◌∙◌, add-one}
use Rattle.std.specs.List.{All}
use Rattle.std.proofs.lemmas.List.Elements.{All-push}
use Rattle.atomic_table.specs.Seated.{TableId}
use Rattle.scaled_values.specs.Scaled.{ScaledProblem}
use Rattle.auction_book.specs.Book.{BookData, prices_of}
use Rattle.async_workers.specs.declared.rule.Known.{Known}
use Rattle.async_workers.specs.declared.rule.View.{View}
use Rattle.async_workers.specs.declared.rule.View.TheVariants.{Away}
use Rattle.async_workers.specs.Desk.{DeskData, new_desk, new_desks}
use Rattle.async_workers.specs.Turns.{CanTurn}
use Rattle.async_workers.specs.Views.{first_known, first_session}

-- a new desk made of these parts
abbrev pub desk_of : BookData → ScaledProblem → TableId → View → ℕ → Known → DeskData
desk_of b base place view number known = record (new_desk place b number) { base = base; view = view; known = known }

-- one more desk
pub desks_more : (place p : TableId) (b : BookData) (made : ℕ) (base : ScaledProblem) (view : View) (table : List ℤ)
    (known : Known) (before between after : List DeskData) →
    base ≡ b.base → p ≡ place → view ≡ Away (first_session b (made + 1)) → table ≡ prices_of b →
    (let k : Known = first_known b (made + 1) in known ≡ record k { table = table }) →
    before ≡ new_desks place b made → between ≡ before →
    after ≡ between ++ desk_of b base p view (made + 1) known ∷ [] → after ≡ new_desks place b (made + 1)
desks_more place p b made base view table known before between after same_base same_place same_view same_table same_known was kept is =
    let k : Known = first_known b (made + 1) in
    let known_is : known ≡ k = same_known ∙ ap (λ t. let k' : Known = record k { table = t } in k') same_table in
    is ∙ ap (λ l. l ++ desk_of b base p view (made + 1) known ∷ []) (kept ∙ was)
    ∙ (λ i. new_desks place b made ++ desk_of b (same_base i) (same_place i) (same_view i) (made + 1) (known_is i) ∷ [])
    ∙ ap (new_desks place b) (sym (add-one made))

-- a new desk may take a turn
pub new_desks_can : (place : TableId) (b : BookData) (n : ℕ) (desks : List DeskData) → desks ≡ new_desks place b n → All (CanTurn place) desks
new_desks_can place b n desks is = subst (All (CanTurn place)) (sym is) (each n) where
  each : (n : ℕ) → All (CanTurn place) (new_desks place b n)
  each zero = λ k d lt. absurd (omega arith)
  each (suc n) = All-push (CanTurn place) (new_desks place b n) (new_desk place b (n + 1)) (each n) (record { ready = (refl, (b, b, refl)); offer = refl })
