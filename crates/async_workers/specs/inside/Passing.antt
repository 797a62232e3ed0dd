-- What the steps of openers and closers require of a view.
use Rattle.std.specs.Prelude.{ℕ, zero, suc, [], true, ◌≡◌, ◌⊎◌, List}
use Rattle.assign_core.specs.declared.sense.Sense.TheVariants.{Min}
use Rattle.auction_book.specs.Book.{BookData}
use Rattle.auction_book.specs.Phases.{opened}
use Rattle.async_workers.specs.declared.rule.LastSession.{LastSession}
use Rattle.async_workers.specs.declared.rule.View.{View}
use Rattle.async_workers.specs.declared.rule.View.TheVariants.{Fresh, Opening, Holding, Meeting}
use Rattle.async_workers.specs.Views.{keeps_empty}
use Rattle.async_workers.specs.PlaceRule.{IsCurrent}

-- the opener's view when it has made this many desks
abbrev pub opener_at : BookData → ℕ → View
opener_at b zero = Fresh
opener_at b (suc made) = Opening b (suc made)

-- a placeholder where a proof must name some book
abbrev pub no_book : BookData
no_book = opened (record { problem = []; sense = Min }) [] 0

abbrev pub IsVacant : View → List BookData → Type 0
IsVacant v items = keeps_empty v ≡ true → items ≡ []

abbrev pub MetIsCurrent : View → Type 0
MetIsCurrent v = (t : LastSession) (taken : BookData) (u : LastSession) → v ≡ Meeting t taken u → IsCurrent taken u

-- a closer with this book in hand
abbrev pub IsClosing : View → LastSession → BookData → Type 0
IsClosing v t taken = (v ≡ Holding t taken) ⊎ ((u : LastSession) × (v ≡ Meeting t taken u))

-- a closer with some book in hand
abbrev pub Closes : View → Type 0
Closes v = (t : LastSession) × (taken : BookData) × IsClosing v t taken
