-- If everybody is assigned in the last phase, the owners and the prices are a certificate.
use Rattle.std.proofs.Common.{◌≡◌, ◌≢◌, ℕ, ℤ, pos, suc, ◌+◌, ◌<◌, ◌≤◌, List, [], ◌∷◌, length, get_or, nat_eq, true}
use Rattle.std.proofs.Common.{not, cond, refl, ap, arith, sym, ◌∙◌, subst, Option, None, Some, inl, inr, ◌⊎◌}
use Rattle.std.proofs.Common.{is_some}
use Rattle.std.specs.List.{count_by}
use Rattle.std.specs.Ordering.{int_eq}
use Rattle.std.specs.Cmp.{signed_Decides}
use Rattle.std.proofs.lemmas.Bool.{and_parts, eqb-true, not-true}
use Rattle.std.proofs.lemmas.Bool.Decides.{eqb_tells}
use Rattle.std.proofs.lemmas.List.Sums.{count_by-le-length, sum_by-cons, sum_by-le-sum_by}
use Rattle.std.proofs.lemmas.Option.{same_Some}
use Rattle.assign_core.specs.Numbered.{IsNumber, numbered, renumbered}
use Rattle.assign_core.specs.Matching.{owner_of}
use Rattle.assign_core.specs.Slackness.{HasSlack, IsCertificate}
use Rattle.assign_core.proofs.BenefitRows.{length-benefit_rows}
use Rattle.assign_core.proofs.Matchings.{owned_assigned, zip_from_places}
use Rattle.assign_core.proofs.NumberedLemmas.{numbered-other, numbered-same}
use Rattle.price_log.proofs.Versions.{today_is_table}
use Rattle.scaled_values.specs.Scaled.{benefits_of}
use Rattle.bidder.specs.Offers.{benefits_at}
use Rattle.std.proofs.lemmas.List.{get_or_default}
use Rattle.auction_book.specs.Answers.{IsAnswer}
use Rattle.auction_book.specs.Book.{BookData, is_person, persons_of, prices_of}
use Rattle.auction_book.specs.Free.{IsFree}
use Rattle.auction_book.specs.Phases.{is_assigned, is_done, is_over}
use Rattle.auction_book.proofs.Places.{everyone, one_yes, person_is_some}

-- the list gives each person that owns one of the first n objects its object
abbrev pub IsInverse : List (Option ℕ) → List ℕ → ℕ → Type 0
IsInverse owners objects n = (i j : ℕ) → j ≤ n → owner_of owners j ≡ Some i → numbered objects i 0 ≡ j

abbrev pub OwnsOne : List (Option ℕ) → Type 0
OwnsOne owners = (i j k : ℕ) → owner_of owners j ≡ Some i → owner_of owners k ≡ Some i → j ≡ k

last_or_before : (j n : ℕ) → j ≤ n + 1 → (j ≡ n + 1) ⊎ (j ≤ n)
last_or_before j n h = elim (eqb_tells j (n + 1)) [
  | inl t ↦ inl t.1
  | inr t ↦ inr (let ne = t.1 in omega arith)
]

-- one more owner
pub inverse_more : (owners : List (Option ℕ)) (objects : List ℕ) (n p : ℕ) → OwnsOne owners →
    IsNumber (length objects) p → owner_of owners (n + 1) ≡ Some p → IsInverse owners objects n →
    IsInverse owners (renumbered objects p (n + 1)) (n + 1)
inverse_more owners objects n p apart number own was i j h e = elim (last_or_before j n h) [
  | inl last ↦
      let who : p ≡ i = same_Some p i (sym own ∙ ap (owner_of owners) (sym last) ∙ e) in
      subst (λ k. numbered (renumbered objects p (n + 1)) k 0 ≡ j) who (numbered-same objects p (n + 1) 0 number.first number.last ∙ sym last)
  | inr before ↦
      let other : i ≡ p → ⊥ = λ same. let both : j ≡ n + 1 = apart i j (n + 1) e (own ∙ ap Some (sym same)) in absurd (omega arith) in
      numbered-other objects p i (n + 1) 0 other ∙ was i j before e
]

-- one more unowned object
pub inverse_on : (owners : List (Option ℕ)) (objects : List ℕ) (n : ℕ) → owner_of owners (n + 1) ≡ None →
    IsInverse owners objects n → IsInverse owners objects (n + 1)
inverse_on owners objects n none was i j h e = elim (last_or_before j n h) [
  | inl last ↦ absurd (let f : owner_of owners j ≡ None = ap (owner_of owners) last ∙ none in cc)
  | inr before ↦ was i j before e
]

-- who is counted has a place
there : (i : ℕ) (xs : List (Option ℕ)) → 0 < count_by (is_person i) xs → (k : ℕ) × (get_or xs k None ≡ Some i)
there i [] h = absurd (omega arith)
there i (None ∷ xs) h =
    let c = sum_by-cons (λ y. cond {A = ℕ} (is_person i y) 1 0) None xs in
    let r = there i xs (omega arith) in
    (suc r.0, r.1)
there i (Some m ∷ xs) h = elim (eqb_tells i m) [
  | inl t ↦ (0, ap Some (sym t.1))
  | inr t ↦
      let c = sum_by-cons (λ y. cond {A = ℕ} (is_person i y) 1 0) (Some m) xs in
      let z : cond {A = ℕ} (nat_eq i m) 1 0 ≡ 0 = ap (λ b. cond {A = ℕ} b 1 0) t.0 in
      let r = there i xs (omega arith) in
      (suc r.0, r.1)
]

-- everybody is assigned in the last phase
pub record IsComplete (b : BookData) : Type 0 where
  pub assigned : count_by is_some b.owners ≡ persons_of b
  pub last : b.ask.eps ≡ pos 1

pub done_is : (b : BookData) → is_done b ≡ true → IsComplete b
done_is b h =
    let w = and_parts (is_assigned b) (int_eq b.ask.eps (pos 1)) h in
    record { assigned = eqb-true (count_by is_some b.owners) (persons_of b) w.0; last = (signed_Decides b.ask.eps (pos 1)).0 w.1 }

-- everybody is assigned, and a phase follows
pub record IsOver (b : BookData) : Type 0 where
  pub assigned : count_by is_some b.owners ≡ persons_of b
  pub more : b.ask.eps ≢ pos 1

pub over_is : (b : BookData) → is_over b ≡ true → IsOver b
over_is b h =
    let w = and_parts (is_assigned b) (not (int_eq b.ask.eps (pos 1))) h in
    let n = not-true (int_eq b.ask.eps (pos 1)) w.1 in
    record {
      assigned = eqb-true (count_by is_some b.owners) (persons_of b) w.0;
      more = λ e. let t = (signed_Decides b.ask.eps (pos 1)).1 e in cc;
    }

-- if everybody is assigned, each person owns an object
owns : (b : BookData) (i : ℕ) → IsFree b → IsComplete b → IsNumber (persons_of b) i → (j : ℕ) × (owner_of b.owners j ≡ Some i)
owns b i free complete number =
    let whole = everyone (persons_of b) b.owners b.queue b.claims free.placed_once in
    let all = complete.assigned in
    let once = free.placed_once i in
    let one = one_yes (persons_of b) i number.first number.last in
    let claims = sum_by-le-sum_by (λ x. cond {A = ℕ} (is_person i x) 1 0) (λ x. cond {A = ℕ} (is_some x) 1 0) b.claims (person_is_some i) in
    let queue = count_by-le-length (nat_eq i) b.queue in
    let r = there i b.owners (omega arith) in
    (suc r.0, r.1)

-- a list that gives each owner its object then gives each person the object that it owns
pub all_own : (b : BookData) (objects : List ℕ) → IsFree b → IsComplete b → ((i j : ℕ) → owner_of b.owners j ≡ Some i → numbered objects i 0 ≡ j) →
    (i : ℕ) → IsNumber (persons_of b) i → owner_of b.owners (numbered objects i 0) ≡ Some i
all_own b objects free complete inverse i number =
    let o = owns b i free complete number in
    ap (owner_of b.owners) (inverse i o.0 o.1) ∙ o.1

pub certified : (b : BookData) (objects : List ℕ) → IsFree b → IsComplete b → length objects ≡ persons_of b →
    ((i : ℕ) → IsNumber (persons_of b) i → owner_of b.owners (numbered objects i 0) ≡ Some i) →
    IsCertificate b.base.sense b.base.problem objects (prices_of b)
certified b objects free complete long own = record {
  assigned = owned_assigned b.base.problem b.owners objects free.owners_match long (λ i first last. own i (record { first = first; last = omega arith }));
  priced = free.sizes.priced;
  in_range = (today_is_table b.log free.log_ascends).each;
  slack =
      let rows = benefits_of b.base in
      let same : length rows ≡ persons_of b = length-benefit_rows b.base.sense b.base.problem in
      zip_from_places (HasSlack (pos 1) (prices_of b)) rows objects [] 0 (long ∙ sym same)
      (λ k lt. subst (λ eps. HasSlack eps (prices_of b) (benefits_at b.base (suc k)) (get_or objects k 0))
      complete.last
      (free.owners_slack (suc k) (get_or objects k 0) (own (suc k) (record { first = omega arith; last = omega arith }))));
}

-- the result of a read of an owner's place
pub read_owner : (owners : List (Option ℕ)) (place : ℕ) (d o : Option ℕ) → place < length owners → get_or owners place d ≡ o → owner_of owners (place + 1) ≡ o
read_owner owners place d o lt e =
    let one : place + 1 ≡ suc place = omega arith in
    ap (owner_of owners) one ∙ get_or_default owners place None d lt ∙ e

pub answered : (b : BookData) (objects xs : List ℕ) (prices : List ℤ) → IsFree b → IsComplete b → xs ≡ objects →
    prices ≡ prices_of b → length objects ≡ persons_of b →
    ((i j : ℕ) → owner_of b.owners j ≡ Some i → numbered objects i 0 ≡ j) → IsAnswer b (record { assignment = xs; prices = prices })
answered b objects xs prices free complete e f long inverse =
    subst (λ ys. IsAnswer b (record { assignment = ys; prices = prices })) (sym e)
    (subst (λ p. IsAnswer b (record { assignment = objects; prices = p })) (sym f)
    (let own = all_own b objects free complete inverse in record {
      long = long;
      owned = own;
      priced = refl;
      proves =
          certified b objects free complete long own;
    }))
