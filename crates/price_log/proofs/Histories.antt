-- Logs, their tables and their trims.
use Rattle.std.proofs.Common.{◌≡◌, ℕ, ℤ, pos, suc, ◌≤ℤ◌, ◌<ℤ◌, ◌+◌, ◌-◌, ◌<◌, ◌≤◌, List, []}
use Rattle.std.proofs.Common.{◌∷◌, ◌++◌, length, get_or, take, drop, take-add, refl, ap, arith, sym}
use Rattle.std.proofs.Common.{◌∙◌, subst, length-append, length-drop, inl, inr, Result, Ok, Err, OnOk, IfOk}
use Rattle.std.specs.List.{All}
use Rattle.std.proofs.lemmas.Int.{ints}
use Rattle.std.proofs.lemmas.List.{take_all, take_more}
use Rattle.std.proofs.Math.Seq.{drop-cons}
use Rattle.std.proofs.lemmas.List.Elements.{All-head, All-tail}
use Rattle.std.proofs.lemmas.Bool.Decides.{leb_tells}
use Rattle.assign_core.specs.Numbered.{IsNumber, renumbered}
use Rattle.assign_core.specs.Prices.{IsBelow, IsPrice, IsTable, price_of}
use Rattle.assign_core.proofs.Matchings.{below_itself, below_through}
use Rattle.price_log.specs.declared.raise.Raise.{Raise}
use Rattle.price_log.specs.History.{Continues, History, IsEarlier, IsHistory, IsRaise, Rises, last_version, raised}
use Rattle.price_log.specs.History.{started, sum_of, table_at, today}
use Rattle.price_log.specs.Changes.{after_raise, trimmed, with_room, with_raise}
use Rattle.price_log.specs.declared.log.TheConstants.{MOST_KEPT}
use Rattle.price_log.proofs.Versions.{Rises-append, raise_up, raised-append, raises_up}
use Rattle.price_log.proofs.Trims.{HasRoom, continues-refl, continues-trans, cut, today-trim, today-with_room}
use Rattle.price_log.proofs.Trims.{trimmed_is, version-with_room, with_room_has, with_room_is}

-- one more raise
pub today-with_raise : (l : History) (j : ℕ) (level : ℤ) → today (with_raise l j level) ≡ renumbered (today l) j level
today-with_raise l j level = let r : Raise = record { object = j; level = level } in raised-append l.base l.raises (r ∷ [])

pub version-with_raise : (l : History) (j : ℕ) (level : ℤ) → last_version (with_raise l j level) ≡ last_version l + 1
version-with_raise l j level = let r : Raise = record { object = j; level = level } in
    let long : length (l.raises ++ r ∷ []) ≡ length l.raises + 1 = length-append l.raises (r ∷ []) in omega arith

pub with_raise_is : (l : History) (j : ℕ) (level : ℤ) → IsHistory l → HasRoom l → IsNumber (length (today l)) j →
    price_of (today l) j <ℤ level → IsPrice level → IsHistory (with_raise l j level)
with_raise_is l j level is room h above price =
    let r : Raise = record { object = j; level = level } in
    let long : length (l.raises ++ r ∷ []) ≡ length l.raises + 1 = length-append l.raises (r ∷ []) in
    record {
      base = is.base;
      rises = Rises-append l.base l.raises (r ∷ []) is.rises (record { object = h; above = above; price = price }, tt);
      early = is.early;
      short = omega arith;
    }

-- tables of earlier versions are below those of later ones
pub table_rises : (l : History) (u v : ℕ) → IsHistory l → u ≤ v → IsBelow (table_at l u) (table_at l v)
table_rises l u v is le =
    let a = u - l.first_kept in
    let b = v - l.first_kept in
    let d : b ≡ a + (b - a) = omega arith in
    let c = cut l.base a l.raises is.rises in
    let e : table_at l v ≡ raised (raised l.base (take a l.raises)) (take (b - a) (drop a l.raises)) =
    ap (λ m. raised l.base (take m l.raises)) d ∙ ap (raised l.base) (take-add a (b - a) l.raises) ∙
    raised-append l.base (take a l.raises) (take (b - a) (drop a l.raises)) in
    subst (IsBelow (table_at l u)) (sym e) (raises_up (table_at l u) (take (b - a) (drop a l.raises)) (cut (table_at l u) (b - a) (drop a l.raises) c.1).0)

pub today-at : (l : History) → table_at l (last_version l) ≡ today l
today-at l = let e : last_version l - l.first_kept ≡ length l.raises = omega arith in
    ap (λ m. raised l.base (take m l.raises)) e ∙ ap (raised l.base) (take_all (length l.raises) l.raises (omega arith))

-- the next raise
pub next_raise : (t : List ℤ) (xs : List Raise) (i : ℕ) (r : Raise) (rest : List Raise) → Rises t xs → drop i xs ≡ r ∷ rest → IsRaise (raised t (take i xs)) r
next_raise t xs i r rest f e = let c = cut t i xs f in (subst (Rises (raised t (take i xs))) e c.1).0

-- the table after the next raise
pub moved_on : (t : List ℤ) (xs : List Raise) (i : ℕ) (r : Raise) (rest : List Raise) → drop i xs ≡ r ∷ rest →
    (rest ≡ drop (i + 1) xs) × (renumbered (raised t (take i xs)) r.object r.level ≡ raised t (take (i + 1) xs))
moved_on t xs i r rest e =
    let long : length (drop i xs) ≡ length xs - i = length-drop i xs in
    let some : length (drop i xs) ≡ length rest + 1 = ap length e ∙ omega arith in
    let lt : i < length xs = omega arith in
    let d : drop i xs ≡ get_or xs i r ∷ drop (suc i) xs = drop-cons xs i r lt in
    let first : get_or xs i r ≡ r = cc in
    let later : rest ≡ drop (suc i) xs = cc in
    let one : i + 1 ≡ suc i = omega arith in (
      later ∙ ap (λ m. drop m xs) (sym one),
      ap (λ (x : Raise). renumbered (raised t (take i xs)) x.object x.level) (sym first)
          ∙ sym (raised-append t (take i xs) (get_or xs i r ∷ []))
          ∙ ap (raised t) (sym (take_more xs i r lt)),
    )

pub next_at : (t table : List ℤ) (xs left : List Raise) (i : ℕ) (r : Raise) (rest : List Raise) → Rises t xs →
    table ≡ raised t (take i xs) → left ≡ drop i xs → left ≡ r ∷ rest → IsRaise table r
next_at t table xs left i r rest f e g h = subst (λ u. IsRaise u r) (sym e) (next_raise t xs i r rest f (sym g ∙ h))

-- a log before the first raise
pub started_is : (prices : List ℤ) → IsTable prices → (prices ≡ today (started prices)) × IsHistory (started prices)
started_is prices table = (refl, record { base = table; rises = tt; early = sum_least prices table.each; short = omega arith }) where
  sum_least : (p : List ℤ) → All IsPrice p → pos 0 ≤ℤ sum_of p
  sum_least [] h = omega (arith, ints)
  sum_least (x ∷ p) h = let i = sum_least p (All-tail IsPrice x p h) in let a = (All-head IsPrice x p h).least in omega (arith, ints)

-- a full log is trimmed to its last version
pub full_trim : (l : History) → length l.raises ≡ MOST_KEPT → trimmed l (last_version l) ≡ record {
  first_kept =
      l.first_kept + MOST_KEPT;
  base = raised l.base (take MOST_KEPT l.raises);
  raises = drop MOST_KEPT l.raises;
}
full_trim l e =
    let v : last_version l ≡ l.first_kept + MOST_KEPT = omega arith in
    let d : (l.first_kept + MOST_KEPT) - l.first_kept ≡ MOST_KEPT = omega arith in
    ap (trimmed l) v ∙ ap (λ m. let h : History = record {
      first_kept = l.first_kept + MOST_KEPT;
      base =
          raised l.base (take m l.raises);
      raises = drop m l.raises;
    } in h) d

-- the facts that a raise of an open log keeps
pub raised_is : (l : History) (j : ℕ) (level : ℤ) (prices new : List ℤ) → prices ≡ today l →
    new ≡ renumbered prices j level → IsHistory l → HasRoom l → IsNumber (length (today l)) j →
    price_of (today l) j <ℤ level → IsPrice level →
    (new ≡ today (with_raise l j level)) × IsHistory (with_raise l j level)
raised_is l j level prices new e f is room h above price = (
  f ∙ ap (λ t. renumbered t j level) e ∙
      sym (today-with_raise l j level),
  with_raise_is l j level is room h above price,
)

-- the first raise after a full log was trimmed
abbrev pub afresh : History → ℕ → ℤ → History
afresh l j level = with_raise (record {
  first_kept = l.first_kept + MOST_KEPT;
  base =
      raised l.base (take MOST_KEPT l.raises);
  raises = drop MOST_KEPT l.raises;
}) j level

pub afresh-trimmed : (l : History) (j : ℕ) (level : ℤ) → length l.raises ≡ MOST_KEPT → afresh l j level ≡ with_raise (trimmed l (last_version l)) j level
afresh-trimmed l j level e = ap (λ h. with_raise h j level) (sym (full_trim l e))

pub afresh_is : (l : History) (j : ℕ) (level : ℤ) (prices new : List ℤ) → prices ≡ today l →
    new ≡ renumbered prices j level → IsHistory l → length l.raises ≡ MOST_KEPT → IsNumber (length (today l)) j →
    price_of (today l) j <ℤ level → IsPrice level →
    (new ≡ today (afresh l j level)) × IsHistory (afresh l j level)
afresh_is l j level prices new e f is full h above price =
    let t = sym (today-trim l (last_version l)) in
    let d : length (drop (last_version l - l.first_kept) l.raises) ≡ length l.raises -
    (last_version l - l.first_kept) = length-drop (last_version l - l.first_kept) l.raises in
    subst (λ m. (new ≡ today m) × IsHistory m) (sym (afresh-trimmed l j level full))
    (raised_is (trimmed l (last_version l)) j level prices new (e ∙ t) f (trimmed_is l (last_version l) is (omega arith) (omega arith)) (omega arith)
    (subst (λ u. IsNumber (length u) j) t h) (subst (λ u. price_of u j <ℤ level) t above) price)

-- the prices, the version and the invariant after one more raise
pub today-after_raise : (l : History) (j : ℕ) (level : ℤ) → today (after_raise l j level) ≡ renumbered (today l) j level
today-after_raise l j level = today-with_raise (with_room l) j level ∙ ap (λ t. renumbered t j level) (today-with_room l)

pub version-after_raise : (l : History) (j : ℕ) (level : ℤ) → last_version (after_raise l j level) ≡ last_version l + 1
version-after_raise l j level = version-with_raise (with_room l) j level ∙ ap (λ v. v + 1) (version-with_room l)

pub after_raise_is : (l : History) (j : ℕ) (level : ℤ) → IsHistory l → IsNumber (length (today l)) j →
    price_of (today l) j <ℤ level → IsPrice level → IsHistory (after_raise l j level)
after_raise_is l j level is h above price =
    let t = sym (today-with_room l) in
    with_raise_is (with_room l) j level (with_room_is l is) (with_room_has l is) (subst (λ u. IsNumber (length u) j)
    t h) (subst (λ u. price_of u j <ℤ level) t above) price

-- a table that can catch up still can after the log went on
pub earlier_stays : (old new : History) (table : List ℤ) (v : ℕ) → IsHistory old → Continues old new →
    IsBelow (today old) (today new) → IsEarlier old table v → IsEarlier new table v
earlier_stays old new table v is goes below early =
    let reached = early.reached in
    let kept = goes.kept in
    let later = goes.later in
    record {
      reached = omega arith;
      same = λ h. early.same (omega arith) ∙ sym (goes.same v h reached);
      below = λ h. below_through table (today old) (today new) (was_below old table v is early) below;
    } where
      was_below : (old : History) (table : List ℤ) (v : ℕ) → IsHistory old → IsEarlier old table v → IsBelow table (today old)
      was_below old table v is early =
          let reached = early.reached in
          elim (leb_tells old.first_kept v) [
            | inl l ↦ subst (λ t. IsBelow t (today old)) (sym (early.same l.1)) (subst (IsBelow (table_at old v))
                (today-at old) (table_rises old v (last_version old) is reached))
            | inr l ↦ early.below l.1
          ]

-- no price falls in a raise
pub after_raise_up : (l : History) (j : ℕ) (level : ℤ) → IsNumber (length (today l)) j →
    price_of (today l) j <ℤ level → IsPrice level → IsBelow (today l) (today (after_raise l j level))
after_raise_up l j level number above price =
    let r : Raise = record { object = j; level = level } in
    subst (IsBelow (today l)) (sym (today-after_raise l j level)) (raise_up (today l) r (record { object = number; above = above; price = price }))

-- the facts that a log keeps of an earlier one
pub record GoesOn (old new : History) : Type 0 where
  pub continues : Continues old new
  pub below : IsBelow (today old) (today new)
  pub log : IsHistory new

pub goes_on_itself : (l : History) → IsHistory l → GoesOn l l
goes_on_itself l is = record { continues = continues-refl l; below = below_itself (today l); log = is }

pub goes_on_through : (a b c : History) → GoesOn a b → Continues b c → IsBelow (today b) (today c) → IsHistory c → GoesOn a c
goes_on_through a b c goes continues below log = record {
  continues = continues-trans a b c goes.continues continues;
  below = below_through (today a) (today b) (today c) goes.below below;
  log = log;
}

-- a raise that succeeded
pub on_ok : {A E : Type 0} {P Q : Type 0} (r : Result A E) → OnOk r P → (P → Q) → IfOk r (λ x. Q)
on_ok (Ok x) p f = f p
on_ok (Err e) p f = tt

-- a copy of the current table can catch up after the log went on
pub copy_stays : (old new : History) (table : List ℤ) (v : ℕ) → table ≡ today old → v ≡ last_version old →
    IsHistory old → Continues old new → IsBelow (today old) (today new) → IsEarlier new table v
copy_stays old new table v e f is goes below = earlier_stays old new table v is goes below (record {
  reached = omega arith;
  same = λ h. e ∙ sym (today-at old) ∙ ap (table_at old) (sym f);
  below = λ h. absurd (omega arith);
})
