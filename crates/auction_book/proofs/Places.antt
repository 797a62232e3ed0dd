-- Each person has one place, so there are as many places as persons.
use Rattle.std.proofs.Common.{◌≡◌, ◌≢◌, ℕ, zero, suc, ◌+◌, ◌<◌, ◌≤◌, List, [], ◌∷◌, ◌++◌, length, map, drop, set}
use Rattle.std.proofs.Common.{◌-◌, get_or, nat_eq, cond, refl, ap, arith, sym, ◌∙◌, subst, inl, inr, Option, None}
use Rattle.std.proofs.Common.{Some, is_some}
use Rattle.std.specs.List.{count_by}
use Rattle.std.proofs.lemmas.List.Sums.{sum_by-cons, sum_by_push, get_or-le-sum_by}
use Rattle.std.proofs.lemmas.Bool.{cond-true, cond-false}
use Rattle.std.proofs.lemmas.Bool.Decides.{eqb_tells, nat_tests}
use Rattle.assign_core.specs.Numbered.{IsNumber, numbered, renumbered}
use Rattle.assign_core.specs.Matching.{owner_of}
use Rattle.assign_core.proofs.NumberedLemmas.{count-renumbered, renumber-set, numbered_in}
use Rattle.auction_book.specs.Book.{is_person, one_if_person, places}
use Rattle.auction_book.specs.Changes.{requeued}

-- f 1 + .. + f n
abbrev pub up_to : (ℕ → ℕ) → ℕ → ℕ
up_to f zero = 0
up_to f (suc n) = up_to f n + f (suc n)

up_to_sum : (f g : ℕ → ℕ) (n : ℕ) → up_to (λ i. f i + g i) n ≡ up_to f n + up_to g n
up_to_sum f g zero = refl
up_to_sum f g (suc n) = let i = up_to_sum f g n in omega arith

up_to_same : (f g : ℕ → ℕ) (n : ℕ) → ((i : ℕ) → f i ≡ g i) → up_to f n ≡ up_to g n
up_to_same f g zero h = refl
up_to_same f g (suc n) h = let i = up_to_same f g n h in let e = h (suc n) in omega arith

pub one_yes : (n k : ℕ) → 0 < k → k ≤ n → one_if_person n k ≡ 1
one_yes n k h l = grind (arith, nat_tests)

one_no : (n k : ℕ) → n < k → one_if_person n k ≡ 0
one_no n k h = grind (arith, nat_tests)

one_most : (n k : ℕ) → one_if_person n k ≤ 1
one_most n k = grind (arith, nat_tests)

one_self : (k : ℕ) → cond {A = ℕ} (nat_eq k k) 1 0 ≡ 1
one_self k = grind (arith, nat_tests)

-- among 1 to n, a person is found once, and another number isn't found
up_to_one : (n k : ℕ) → up_to (λ i. cond (nat_eq i k) 1 0) n ≡ one_if_person n k
up_to_one zero zero = refl
up_to_one zero (suc k) = sym (one_no 0 (suc k) (omega arith))
up_to_one (suc n) k = elim (eqb_tells (suc n) k) [
  | inl t ↦
      let i = up_to_one n k in
      let e : cond {A = ℕ} (nat_eq (suc n) k) 1 0 ≡ 1 = cond-true (nat_eq (suc n) k) 1 0 t.0 in
      let a : one_if_person n k ≡ 0 = one_no n k (let s = t.1 in omega arith) in
      let c : one_if_person (suc n) k ≡ 1 = one_yes (suc n) k (let s = t.1 in omega arith) (let s = t.1 in omega arith) in
      omega arith
  | inr t ↦
      let i = up_to_one n k in
      let e : cond {A = ℕ} (nat_eq (suc n) k) 1 0 ≡ 0 = cond-false (nat_eq (suc n) k) 1 0 t.0 in
      let c : one_if_person (suc n) k ≡ one_if_person n k = same_one n k t.1 in
      omega arith
] where
  same_one : (n k : ℕ) → suc n ≢ k → one_if_person (suc n) k ≡ one_if_person n k
  same_one n zero h = refl
  same_one n (suc k) h = grind (arith, nat_tests)

up_to_zero : (n : ℕ) → up_to (λ i. 0) n ≡ 0
up_to_zero zero = refl
up_to_zero (suc n) = let i = up_to_zero n in omega arith

-- the number of elements that are persons
abbrev one_at : ℕ → Option ℕ → ℕ
one_at n None = 0
one_at n (Some k) = one_if_person n k

abbrev in_all : ℕ → List (Option ℕ) → ℕ
in_all n [] = 0
in_all n (x ∷ xs) = one_at n x + in_all n xs

up_to_at : (n : ℕ) (x : Option ℕ) → up_to (λ i. cond (is_person i x) 1 0) n ≡ one_at n x
up_to_at n None = up_to_zero n
up_to_at n (Some k) = up_to_one n k

up_to_count : (n : ℕ) (xs : List (Option ℕ)) → up_to (λ i. count_by (is_person i) xs) n ≡ in_all n xs
up_to_count n [] = up_to_zero n
up_to_count n (x ∷ xs) =
    let a = up_to_same (λ i. count_by (is_person i) (x ∷ xs)) (λ i. cond (is_person i x) 1 0 + count_by
    (is_person i) xs) n (λ i. sum_by-cons (λ y. cond (is_person i y) 1 0) x xs) in
    let c = up_to_sum (λ i. cond (is_person i x) 1 0) (λ i. count_by (is_person i) xs) n in
    let d = up_to_at n x in
    let e = up_to_count n xs in
    omega arith

-- if nobody else is in the list, its elements are persons
all_persons : (n : ℕ) (xs : List (Option ℕ)) → ((i : ℕ) → count_by (is_person i) xs ≤ one_if_person n i) → in_all n xs ≡ count_by is_some xs
all_persons n [] h = refl
all_persons n (None ∷ xs) h = let i = all_persons n xs (λ i. let a = h i in let e =
    sum_by-cons (λ y. cond (is_person i y) 1 0) None xs in omega arith) in let f =
    sum_by-cons (λ y. cond (is_some y) 1 0) None xs in omega arith
all_persons n (Some k ∷ xs) h =
    let i = all_persons n xs (λ i. let a = h i in let e = sum_by-cons (λ y. cond (is_person i y) 1 0) (Some k) xs in omega arith) in
    let f = sum_by-cons (λ y. cond (is_some y) 1 0) (Some k) xs in
    let g = sum_by-cons (λ y. cond (is_person k y) 1 0) (Some k) xs in
    let a = h k in
    let t : cond {A = ℕ} (nat_eq k k) 1 0 ≡ 1 = one_self k in
    let o : one_if_person n k ≤ 1 = one_most n k in
    omega arith

queue_count : (i : ℕ) (q : List ℕ) → count_by (nat_eq i) q ≡ count_by (is_person i) (map Some q)
queue_count i [] = refl
queue_count i (x ∷ q) = let a = sum_by-cons (λ y. cond (nat_eq i y) 1 0) x q in let c =
    sum_by-cons (λ y. cond (is_person i y) 1 0) (Some x) (map Some q) in let h = queue_count i q in omega arith

queue_length : (q : List ℕ) → count_by is_some (map Some q) ≡ length q
queue_length [] = refl
queue_length (x ∷ q) = let c = sum_by-cons (λ y. cond (is_some y) 1 0) (Some x) (map Some q) in let h = queue_length q in omega arith

one_sum : (n m : ℕ) → n ≤ m → up_to (one_if_person m) n ≡ n
one_sum zero m h = refl
one_sum (suc n) m h = let i = one_sum n m (omega arith) in let e = one_yes m (suc n) (omega arith) h in omega arith

-- each person stands in one place
abbrev pub IsPlaced : ℕ → List (Option ℕ) → List ℕ → List (Option ℕ) → Type 0
IsPlaced n owners queue claims = (i : ℕ) → places owners queue claims i ≡ one_if_person n i

-- owners, queue and claims are together as many as the persons
pub everyone : (n : ℕ) (owners : List (Option ℕ)) (queue : List ℕ) (claims : List (Option ℕ)) →
    IsPlaced n owners queue claims → count_by is_some owners + length queue + count_by is_some claims ≡ n
everyone n owners queue claims placed =
    let whole = one_sum n n (omega arith) in
    let each = up_to_same (places owners queue claims) (one_if_person n) n placed in
    let two = up_to_sum (λ i. count_by (is_person i) owners + count_by (nat_eq i) queue) (λ i. count_by (is_person i) claims) n in
    let one = up_to_sum (λ i. count_by (is_person i) owners) (λ i. count_by (nat_eq i) queue) n in
    let mid = up_to_same (λ i. count_by (nat_eq i) queue) (λ i. count_by (is_person i) (map Some queue)) n (λ i. queue_count i queue) in
    let o = up_to_count n owners in
    let q = up_to_count n (map Some queue) in
    let c = up_to_count n claims in
    let o' = all_persons n owners (λ i. let p = placed i in omega arith) in
    let q' = all_persons n (map Some queue) (λ i. let p = placed i in let e = queue_count i queue in omega arith) in
    let c' = all_persons n claims (λ i. let p = placed i in omega arith) in
    let l = queue_length queue in
    omega arith

pub some_there : (xs : List (Option ℕ)) (j i : ℕ) → numbered xs j None ≡ Some i → 0 < j → j ≤ length xs → 0 < count_by is_some xs
some_there xs zero i e h l = absurd (omega arith)
some_there xs (suc k) i e h l =
    let c : cond {A = ℕ} (is_some (get_or xs k None)) 1 0 ≤ count_by is_some xs = get_or-le-sum_by (λ x. cond (is_some x) 1 0) xs k None (omega arith) in
    let f : cond {A = ℕ} (is_some (get_or xs k None)) 1 0 ≡ 1 = ap (λ (x : Option ℕ). cond {A = ℕ} (is_some x) 1 0) e in
    omega arith

person_there : (xs : List (Option ℕ)) (j i : ℕ) → numbered xs j None ≡ Some i → 0 < j → j ≤ length xs → 0 < count_by (is_person i) xs
person_there xs zero i e h l = absurd (omega arith)
person_there xs (suc k) i e h l =
    let c : cond {A = ℕ} (is_person i (get_or xs k None)) 1 0 ≤ count_by (is_person i) xs =
    get_or-le-sum_by (λ x. cond (is_person i x) 1 0) xs k None (omega arith) in
    let f : cond {A = ℕ} (is_person i (get_or xs k None)) 1 0 ≡ cond {A = ℕ} (is_person i (Some i)) 1 0 =
    ap (λ (x : Option ℕ). cond {A = ℕ} (is_person i x) 1 0) e in
    let g : cond {A = ℕ} (is_person i (Some i)) 1 0 ≡ 1 = one_self i in
    omega arith

-- while a person is claimed the queue has room
pub has_room : (n : ℕ) (owners : List (Option ℕ)) (queue : List ℕ) (claims : List (Option ℕ)) (worker person : ℕ) →
    IsPlaced n owners queue claims → numbered claims worker None ≡ Some person → length queue < n
has_room n owners queue claims worker person placed held =
    let w = numbered_in claims worker person held in
    let s = some_there claims worker person held w.0 w.1 in
    let e = everyone n owners queue claims placed in
    omega arith

-- a claimed person owns nothing
pub unowned : (n : ℕ) (owners : List (Option ℕ)) (queue : List ℕ) (claims : List (Option ℕ)) (worker person j : ℕ) →
    IsPlaced n owners queue claims → numbered claims worker None ≡ Some person → owner_of owners j ≡ Some person → ⊥
unowned n owners queue claims worker person j placed held own =
    let w = numbered_in claims worker person held in
    let c = person_there claims worker person held w.0 w.1 in
    let v = numbered_in owners j person own in
    let o = person_there owners j person own v.0 v.1 in
    let p = placed person in
    let m = one_most n person in
    absurd (omega arith)

requeued_count : (i : ℕ) (queue : List ℕ) (o : Option ℕ) → count_by (nat_eq i) (requeued queue o) ≡ count_by (nat_eq i) queue + cond (is_person i o) 1 0
requeued_count i queue None = omega arith
requeued_count i queue (Some k) = sum_by_push (λ x. cond (nat_eq i x) 1 0) queue k

shifted : (o1 o2 q1 q2 c1 c2 x y : ℕ) → o2 + x ≡ o1 + y → q2 ≡ q1 + x → c2 + y ≡ c1 + 0 → o2 + q2 + c2 ≡ o1 + q1 + c1
shifted o1 o2 q1 q2 c1 c2 x y f g h = omega arith

-- a claim ends
claim_over : (i : ℕ) (claims : List (Option ℕ)) (worker person : ℕ) → numbered claims worker None ≡ Some person →
    count_by (is_person i) (renumbered claims worker None) + cond (is_person i (Some person)) 1 0 ≡ count_by
    (is_person i) claims + 0
claim_over i claims worker person e =
    let w = numbered_in claims worker person e in
    subst (λ o. count_by (is_person i) (renumbered claims worker None) + cond (is_person i o) 1 0 ≡ count_by
    (is_person i) claims + 0) e (count-renumbered (is_person i) claims worker None None w.0 w.1)

-- the claimed person gets the object, and its owner waits
pub accepted_places : (owners : List (Option ℕ)) (queue : List ℕ) (claims : List (Option ℕ)) (worker person j i : ℕ)
    → 0 < j → j ≤ length owners → numbered claims worker None ≡ Some person →
    places (renumbered owners j (Some person)) (requeued queue (owner_of owners j)) (renumbered claims worker None) i ≡ places owners queue claims i
accepted_places owners queue claims worker person j i h l e =
    shifted _ _ _ _ _ _ _ _ (count-renumbered (is_person i) owners j (Some person) None h l)
    (requeued_count i queue (owner_of owners j)) (claim_over i claims worker person e)

-- the claimed person waits again
pub released_places : (owners : List (Option ℕ)) (queue : List ℕ) (claims : List (Option ℕ)) (worker person i : ℕ) → numbered claims worker None ≡ Some person →
    places owners (queue ++ person ∷ []) (renumbered claims worker None) i ≡ places owners queue claims i
released_places owners queue claims worker person i e =
    shifted (count_by (is_person i) owners) (count_by (is_person i) owners) (count_by (nat_eq i) queue) _
    (count_by (is_person i) claims) _ (cond (nat_eq i person) 1 0) (cond (nat_eq i person) 1 0) refl
    (sum_by_push (λ x. cond (nat_eq i x) 1 0) queue person)
    (claim_over i claims worker person e)

pub person_is_some : (i : ℕ) (x : Option ℕ) → cond {A = ℕ} (is_person i x) 1 0 ≤ cond {A = ℕ} (is_some x) 1 0
person_is_some i None = omega arith
person_is_some i (Some k) = elim (eqb_tells i k) [
  | inl t ↦ let e : cond {A = ℕ} (nat_eq i k) 1 0 ≡ 1 = cond-true (nat_eq i k) 1 0 t.0 in omega arith
  | inr t ↦ let e : cond {A = ℕ} (nat_eq i k) 1 0 ≡ 0 = cond-false (nat_eq i k) 1 0 t.0 in omega arith
]

-- the front of the queue goes to the claims
pub claimed_places : (owners : List (Option ℕ)) (queue : List ℕ) (claims : List (Option ℕ)) (worker i : ℕ) →
    0 < worker → worker ≤ length claims → numbered claims worker None ≡ None → 0 < length queue →
    places owners (drop 1 queue) (renumbered claims worker (Some (get_or queue 0 0))) i ≡ places owners queue claims i
claimed_places owners queue claims worker i h l free some =
    let c = count-renumbered (is_person i) claims worker (Some (get_or queue 0 0)) None h l in
    let f : cond {A = ℕ} (is_person i (numbered claims worker None)) 1 0 ≡ 0 = ap (λ (x : Option ℕ). cond {A = ℕ} (is_person i x) 1 0) free in
    let q = front i queue some in
    moved _ _ _ _ _ _ _ c f q where
      front : (i : ℕ) (q : List ℕ) → 0 < length q → count_by (nat_eq i) q ≡ cond (nat_eq i (get_or q 0 0)) 1 0 + count_by (nat_eq i) (drop 1 q)
      front i [] h = absurd (omega arith)
      front i (x ∷ q) h = sum_by-cons (λ y. cond (nat_eq i y) 1 0) x q

      moved : (o q1 q2 c1 c2 x y : ℕ) → c2 + y ≡ c1 + x → y ≡ 0 → q1 ≡ x + q2 → o + q2 + c2 ≡ o + q1 + c1
      moved o q1 q2 c1 c2 x y f g h = omega arith

one_at_least : (n k : ℕ) → 0 < one_if_person n k → IsNumber n k
one_at_least n k h = record { first = grind (arith, nat_tests); last = grind (arith, nat_tests) }

-- a claimed person is one of the problem
pub held_person : (n : ℕ) (owners : List (Option ℕ)) (queue : List ℕ) (claims : List (Option ℕ)) (worker person : ℕ)
    → IsPlaced n owners queue claims → numbered claims worker None ≡ Some person → IsNumber n person
held_person n owners queue claims worker person placed held =
    let w = numbered_in claims worker person held in
    let c = person_there claims worker person held w.0 w.1 in
    let p = placed person in
    one_at_least n person (omega arith)

-- the person who waits first is one of the problem
pub claimed_person : (n : ℕ) (owners : List (Option ℕ)) (queue : List ℕ) (claims : List (Option ℕ)) (person : ℕ)
    (rest : List ℕ) → IsPlaced n owners queue claims → queue ≡ person ∷ rest → IsNumber n person
claimed_person n owners queue claims person rest placed e =
    let p = placed person in
    let c : count_by (nat_eq person) queue ≡ cond (nat_eq person person) 1 0 + count_by (nat_eq person) rest =
    ap (count_by (nat_eq person)) e ∙ sum_by-cons (λ y. cond (nat_eq person y) 1 0) person rest in
    let s = one_self person in
    one_at_least n person (omega arith)

-- the number of owned objects, after one more got an owner
pub owned_more : (owners : List (Option ℕ)) (j p k was more : ℕ) (old : Option ℕ) → k ≡ j - 1 → 0 < j →
    j ≤ length owners → was ≡ count_by is_some owners → old ≡ numbered owners j None →
    more + cond (is_some old) 1 0 ≡ 1 →
    was + more ≡ count_by is_some (set owners k (Some p))
owned_more owners j p k was more old e h l w o m =
    let c = count-renumbered is_some owners j (Some p) None h l in
    let s : count_by is_some (set owners k (Some p)) ≡ count_by is_some (renumbered owners j (Some p)) =
    ap (λ x. count_by is_some (set owners x (Some p))) e ∙
    ap (count_by is_some) (sym (renumber-set owners j (Some p) h)) in
    let d : cond {A = ℕ} (is_some old) 1 0 ≡ cond {A = ℕ} (is_some (numbered owners j None)) 1 0 = ap (λ (x : Option ℕ). cond {A = ℕ} (is_some x) 1 0) o in
    omega arith
