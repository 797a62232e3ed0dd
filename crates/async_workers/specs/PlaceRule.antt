-- The rule of the place: what holds between any two steps on it.
use Rattle.std.specs.Prelude.{◌≡◌, ◌≢◌, ◌⊎◌, ℕ, ◌≤◌, List, [], ◌∷◌, None, true, length}
use mathlib.Core.Option.{Option as Maybe, some, none}
use lib.ListN.{get_elem?}
use Rattle.assign_core.specs.Numbered.{IsNumber, numbered}
use Rattle.assign_core.specs.Prices.{IsBelow}
use Rattle.price_log.specs.History.{IsEarlier}
use Rattle.auction_book.specs.Book.{BookData, prices_of, version_of}
use Rattle.auction_book.specs.Follows.{Follows, GoesOn}
use Rattle.auction_book.specs.Free.{IsFree}
use Rattle.async_workers.specs.declared.rule.Known.{Known}
use Rattle.async_workers.specs.declared.rule.LastSession.{LastSession}
use Rattle.async_workers.specs.declared.rule.View.{View}
use Rattle.async_workers.specs.declared.rule.View.TheVariants.{Fresh, Opening, Away, Holding, Meeting, Spent}
use Rattle.async_workers.specs.Views.{claim_in, keeps_empty, session_at}

-- the later book has the same problem and number of workers, no price is lower, and its log
-- continues; it need not have the earlier one's Hall set
abbrev pub Extends : BookData → BookData → Type 0
Extends old new = GoesOn (record old { refuted = None }) new

-- the same by one worker: other workers' counts and claims stay, and if one of them has a claim,
-- the same is asked of its bid
abbrev pub ExtendsBy : ℕ → BookData → BookData → Type 0
ExtendsBy worker old new = Follows worker (record old { refuted = None }) new

-- all that a desk last learnt is true of the book. The books that it last took and put back are
-- free, and have the same problem and number of workers. The book extends the one put back, its
-- prices are at least those of the desk's table, and the table is the log's as far back as the log
-- reaches. The desk's acceptances, claim and what is asked of its bid are the book's. If the desk
-- asked for a stop, the book is stopped
pub record IsCurrent (b : BookData) (t : LastSession) : Type 0 where
  pub taken_free : IsFree t.taken
  pub put_free : IsFree t.put
  pub taken_on : Extends t.taken t.put
  pub put_on : Extends t.put b
  pub base : t.base ≡ b.base
  pub number : IsNumber (length b.claims) t.known.number
  pub below : IsBelow t.known.table (prices_of b)
  pub earlier : IsEarlier b.log t.known.table t.known.version
  pub accepted : t.known.accepted ≡ numbered b.counts t.known.number 0
  pub claim : t.known.claim ≡ claim_in b t.known.number
  pub stopped : t.known.stop ≡ true → b.stopped ≡ true

-- only this pass has the number of its desk, and the opener has given this number out
abbrev pub HasItsNumber : ℕ → (ℕ → Maybe ℕ) → ℕ → LastSession → Type 0
HasItsNumber made pass_of pass t = (pass_of t.known.number ≡ some pass) × (t.known.number ≤ made)

-- what one view requires of the book, of its holder and of the numbers given out
abbrev pub Fits : BookData → Maybe ℕ → ℕ → (ℕ → Maybe ℕ) → ℕ → View → Type 0
Fits b holder made pass_of pass Fresh = ⊥
Fits b holder made pass_of pass (Opening o n) = (holder ≡ some pass) × (o ≡ b) × (n ≡ made)
Fits b holder made pass_of pass (Away t) = (holder ≢ some pass) × IsCurrent b t × HasItsNumber made pass_of pass t
Fits b holder made pass_of pass (Holding t taken) = (holder ≡ some pass) × (taken ≡ b) × IsCurrent b t × HasItsNumber made pass_of pass t
Fits b holder made pass_of pass (Meeting t taken u) = (holder ≡ some pass) × (taken ≡ b) × IsCurrent b t × HasItsNumber made pass_of pass t × IsCurrent b u
Fits b holder made pass_of pass Spent = holder ≢ some pass

-- the book is in the place exactly when no pass holds it
abbrev pub content : Maybe ℕ → BookData → List BookData
content none b = b ∷ []
content (some pass) b = []

-- the holder of the book, if there is one, is a pass of the place, and knows that it holds the book
abbrev pub IsHolder : Maybe ℕ → List View → Type 0
IsHolder holder views = (pass : ℕ) → holder ≡ some pass → (v : View) × (get_elem? views pass ≡ some v) × (keeps_empty v ≡ true)

-- one free book, in the place or held by one pass, and each view fits it
pub record IsRunning (items : List BookData) (views : List View) : Type 0 where
  pub book : BookData
  pub holder : Maybe ℕ
  pub made : ℕ
  pub pass_of : ℕ → Maybe ℕ
  pub free : IsFree book
  pub place : items ≡ content holder book
  pub held : IsHolder holder views
  pub each : (pass : ℕ) (v : View) → get_elem? views pass ≡ some v → Fits book holder made pass_of pass v

-- the opener alone, and no book
abbrev pub IsUnopened : List BookData → List View → Type 0
IsUnopened items views = (items ≡ []) × (views ≡ Fresh ∷ [])

-- an unopened place, or one that runs
abbrev pub Rule : List BookData → List View → Type 0
Rule items views = IsUnopened items views ⊎ IsRunning items views

-- no worker has a claim, and no bid was accepted
pub record IsUntouched (b : BookData) : Type 0 where
  pub no_claims : (worker : ℕ) → numbered b.claims worker None ≡ None
  pub no_acceptances : version_of b ≡ 0

-- what a desk with this last session learns when it takes the book
pub record Takes (t : LastSession) (b : BookData) (after : View) : Type 0 where
  pub view : after ≡ Holding t b
  pub free : IsFree b
  pub told : IsCurrent b t

-- a book that may be put back after a change by one worker. It is free, extends the book taken by
-- this worker's changes alone, and is stopped if that was. It fits what the desk knows: its table,
-- the table's version, and a stop that it asked for
pub record MayFollow (k : Known) (taken b : BookData) : Type 0 where
  pub free : IsFree b
  pub extends : ExtendsBy k.number taken b
  pub stays_stopped : taken.stopped ≡ true → b.stopped ≡ true
  pub below : IsBelow k.table (prices_of b)
  pub earlier : IsEarlier b.log k.table k.version
  pub stopped : k.stop ≡ true → b.stopped ≡ true

-- what a desk learns when it takes the book
abbrev pub Took : View → BookData → View → Type 0
Took before b after = (t : LastSession) → before ≡ Away t → Takes t b after

-- what a desk that knows this learns when it puts the book back
abbrev pub Gave : Known → View → BookData → View → Type 0
Gave k before b after = (t : LastSession) (taken : BookData) → before ≡ Holding t taken → t.known.number ≡ k.number → after ≡ Away (session_at k taken b)
