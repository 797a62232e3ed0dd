-- Trims keep tables, and a log makes room.
use Rattle.std.proofs.Common.{◌≡◌, ℕ, ℤ, ◌+◌, ◌-◌, ◌<◌, ◌≤◌, List, []}
use Rattle.std.proofs.Common.{◌∷◌, ◌++◌, length, take, drop, take-add, nat_eq, refl, ap, arith, sym}
use Rattle.std.proofs.Common.{◌∙◌, length-append, length-drop, inl, inr}
use Rattle.std.proofs.lemmas.Int.{ints}
use Rattle.std.proofs.lemmas.List.{take-append-le, take-append-drop, length-take-le}
use Rattle.std.proofs.lemmas.Bool.{cond-true, cond-false}
use Rattle.std.proofs.lemmas.Bool.Decides.{eqb_tells}
use Rattle.price_log.specs.declared.raise.Raise.{Raise}
use Rattle.price_log.specs.History.{Continues, History, IsHistory, Rises, last_version, raised, table_at, today}
use Rattle.price_log.specs.Changes.{trimmed, with_room, with_raise}
use Rattle.price_log.specs.declared.log.TheConstants.{MOST_KEPT}
use Rattle.price_log.proofs.Versions.{Rises-rest, raised-append, raised_table, sum_raised}

-- a trim keeps every later table
table_split : (log : History) (u v : ℕ) → log.first_kept ≤ u → u ≤ v → table_at log v ≡ raised (table_at log u)
    (take (v - u) (drop (u - log.first_kept) log.raises))
table_split log u v h k =
    let e : v - log.first_kept ≡ (u - log.first_kept) + (v - u) = omega arith in
    ap (λ m. raised log.base (take m log.raises)) e
    ∙ ap (raised log.base) (take-add (u - log.first_kept) (v - u) log.raises)
    ∙ raised-append log.base (take (u - log.first_kept) log.raises) (take (v - u) (drop (u - log.first_kept) log.raises))

pub continues-refl : (l : History) → Continues l l
continues-refl l = record { kept = omega arith; later = omega arith; same = λ v a b. refl }

pub continues-trans : (a b c : History) → Continues a b → Continues b c → Continues a c
continues-trans a b c f g = record {
  kept = let x = f.kept in let y = g.kept in omega arith;
  later = let x = f.later in let y = g.later in omega arith;
  same = λ v h k. let x = f.later in let y = g.kept in g.same v h (omega arith) ∙ f.same v (omega arith) k;
}

pub continues-raise : (l : History) (j : ℕ) (level : ℤ) → Continues l (with_raise l j level)
continues-raise l j level =
    let r : Raise = record { object = j; level = level } in
    let long : length (l.raises ++ r ∷ []) ≡ length l.raises + 1 = length-append l.raises (r ∷ []) in
    record {
      kept = omega arith;
      later = omega arith;
      same = λ v h k. ap (raised l.base) (take-append-le (v - l.first_kept) l.raises (r ∷ []) (omega arith));
    }

pub trim_version : (l : History) (v : ℕ) → l.first_kept ≤ v → v ≤ last_version l → last_version (trimmed l v) ≡ last_version l
trim_version l v h k = let d : length (drop (v - l.first_kept) l.raises) ≡ length l.raises - (v - l.first_kept) =
    length-drop (v - l.first_kept) l.raises in omega arith

pub continues-trim : (l : History) (v : ℕ) → l.first_kept ≤ v → v ≤ last_version l → Continues l (trimmed l v)
continues-trim l v h k = record {
  kept = h;
  later = let e = trim_version l v h k in omega arith;
  same = λ u a b. sym (table_split l v u h a);
}

-- a trim changes no price
pub today-trim : (l : History) (v : ℕ) → today (trimmed l v) ≡ today l
today-trim l v = sym (raised-append l.base (take (v - l.first_kept) l.raises) (drop (v - l.first_kept) l.raises)) ∙
    ap (raised l.base) (take-append-drop (v - l.first_kept) l.raises)

pub cut : (t : List ℤ) (k : ℕ) (xs : List Raise) → Rises t xs → Rises t (take k xs) × Rises (raised t (take k xs)) (drop k xs)
cut t k xs f = Rises-rest t (take k xs) (drop k xs) (rw take-append-drop f)

pub trimmed_is : (l : History) (v : ℕ) → IsHistory l → l.first_kept ≤ v → v ≤ last_version l → IsHistory (trimmed l v)
trimmed_is l v is h k =
    let c = cut l.base (v - l.first_kept) l.raises is.rises in
    let d : length (drop (v - l.first_kept) l.raises) ≡ length l.raises - (v - l.first_kept) = length-drop (v - l.first_kept) l.raises in
    record {
      base = raised_table l.base (take (v - l.first_kept) l.raises) c.0 is.base;
      rises = c.1;
      early =
          let s = sum_raised l.base (take (v - l.first_kept) l.raises) c.0 in
          let t : length (take (v - l.first_kept) l.raises) ≡ v - l.first_kept = length-take-le (v - l.first_kept) l.raises (omega arith) in
          let e = is.early in
          omega (arith, ints);
      short = let s = is.short in omega arith;
    }

-- a log that makes room
abbrev pub HasRoom : History → Type 0
HasRoom l = length l.raises < MOST_KEPT

pub with_room-cases : (P : History → Type 0) (l : History) → (length l.raises ≡ MOST_KEPT →
    P (trimmed l (last_version l))) → ((length l.raises ≡ MOST_KEPT → ⊥) → P l) → P (with_room l)
with_room-cases P l full free = elim (eqb_tells (length l.raises) MOST_KEPT) [
  | inl t ↦ rw (cond-true (nat_eq (length l.raises) MOST_KEPT) (trimmed l (last_version l)) l t.0) (full t.1)
  | inr t ↦ rw (cond-false (nat_eq (length l.raises) MOST_KEPT) (trimmed l (last_version l)) l t.0) (free t.1)
]

pub today-with_room : (l : History) → today (with_room l) ≡ today l
today-with_room l = with_room-cases (λ m. today m ≡ today l) l (λ e. today-trim l (last_version l)) (λ e. refl)

pub version-with_room : (l : History) → last_version (with_room l) ≡ last_version l
version-with_room l = with_room-cases (λ m. last_version m ≡ last_version l) l (λ e. trim_version l (last_version l) (omega arith) (omega arith)) (λ e. refl)

pub continues-with_room : (l : History) → Continues l (with_room l)
continues-with_room l = with_room-cases (Continues l) l (λ e. continues-trim l (last_version l) (omega arith) (omega arith)) (λ e. continues-refl l)

pub continues-kept_raise : (l : History) (j : ℕ) (level : ℤ) → Continues l (with_raise (with_room l) j level)
continues-kept_raise l j level = continues-trans l (with_room l) (with_raise (with_room l) j level)
    (continues-with_room l) (continues-raise (with_room l) j level)

pub with_room_is : (l : History) → IsHistory l → IsHistory (with_room l)
with_room_is l is = with_room-cases IsHistory l (λ e. trimmed_is l (last_version l) is (omega arith) (omega arith)) (λ e. is)

pub with_room_has : (l : History) → IsHistory l → HasRoom (with_room l)
with_room_has l is = with_room-cases HasRoom l (λ e. let d : length (drop (last_version l - l.first_kept) l.raises)
    ≡ length l.raises - (last_version l - l.first_kept) = length-drop (last_version l - l.first_kept) l.raises in
    omega arith) (λ e. let s = is.short in omega arith)
