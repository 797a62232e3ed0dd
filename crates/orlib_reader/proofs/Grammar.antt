-- The bytes of a text, read one by one, give what its tokens give.
use Rattle.std.proofs.Common.{◌≡◌, ℕ, ◌+◌, ◌*◌, ◌%◌, ◌≤◌, ℤ, pos, negsuc, List, [], ◌∷◌, ◌++◌, Option, Some, None}
use Rattle.std.proofs.Common.{Ok, Err, Result, IfSome, true, refl, ◌⊎◌, inl, inr, rules, length, sym, ap, ◌∙◌}
use Rattle.std.proofs.Common.{nat_lt, nat_le, nat_eq, nat_abs}
use Rattle.std.proofs.lemmas.Bool.{cases_Bool, and_parts, leb-true}
use Rattle.assign_core.specs.declared.numbers.TheConstants.{MOST_PERSONS}
use Rattle.assign_core.specs.Rows.{Listing}
use Rattle.orlib_reader.specs.declared.machine.TheConstants.{TEXT_LIMIT}
use Rattle.orlib_reader.proofs.Streams.{after_err, fails_along}
use Rattle.orlib_reader.proofs.Numbers.{IsRead, IsBounded, read_begun, read_on, judged_same}
use Rattle.orlib_reader.specs.Tokens.{Token, Piece, beyond, grown, closed, left_open, cut, is_space}
use Rattle.orlib_reader.specs.Numbers.{is_digit, judged, judged_number, is_among}
use Rattle.orlib_reader.specs.Texts.{wanted_in, ended, and_then, judged_open, numbers_from, numbers_in}
use Rattle.orlib_reader.specs.Texts.{dense_problem, dense_reading, sparse_list, sparse_reading, Answers}
use Rattle.orlib_reader.specs.Texts.{SparseAnswers, Meets}
use Rattle.orlib_reader.specs.inside.Steps.{State, begun, continued, begun_where, in_token, with_token, token_number, after, start, finished}
use Rattle.orlib_reader.specs.declared.fault.InputFault.{InputFault}
use Rattle.orlib_reader.specs.declared.fault.InputFault.TheVariants as faults
use Rattle.orlib_reader.specs.declared.layout.Layout.{Layout}
use Rattle.orlib_reader.specs.declared.layout.Layout.TheVariants as layouts
use Rattle.orlib_reader.specs.Wanted.{Wanted}
use Rattle.orlib_reader.specs.Wanted as wanted
use Rattle.orlib_reader.specs.declared.token.OpenToken.{OpenToken}

-- a token may stand here
abbrev IsOpen : Wanted → Type 0
IsOpen w = w ≡ wanted.Nothing → ⊥

nothing_or : (w : Wanted) → (w ≡ wanted.Nothing) ⊎ IsOpen w
nothing_or wanted.Size = inr (λ e. cc)
nothing_or wanted.Cost = inr (λ e. cc)
nothing_or (wanted.Index n) = inr (λ e. cc)
nothing_or wanted.Nothing = inl refl

pub begun_is : (w : Wanted) (at b : ℕ) → IsOpen w → begun_where w at b ≡ Ok (begun at b)
begun_is wanted.Size at b h = refl
begun_is wanted.Cost at b h = refl
begun_is (wanted.Index n) at b h = refl
begun_is wanted.Nothing at b h = absurd (h refl)

-- where no token may stand, each has the same fault
extra_is : (place : ℕ) (o : Option ℤ) → judged_number wanted.Nothing place o ≡ Err (faults.Extra place)
extra_is place None = refl
extra_is place (Some v) = refl

open_is : (w : Wanted) (place : ℕ) → IsOpen w → judged_open w place ≡ faults.TooLong
open_is wanted.Size place h = refl
open_is wanted.Cost place h = refl
open_is (wanted.Index n) place h = refl
open_is wanted.Nothing place h = absurd (h refl)

-- the size found, if there is one, is in range
abbrev pub IsSized : List ℤ → Type 0
IsSized [] = Unit {0}
IsSized (n ∷ others) = nat_abs n ≤ MOST_PERSONS

bounded : (layout : Layout) (found : List ℤ) → IsSized found → IsBounded (wanted_in layout found)
bounded layouts.Dense [] h = tt
bounded layouts.Sparse [] h = tt
bounded layouts.Dense (n ∷ costs) h = elim (cases_Bool (nat_lt (length costs) (nat_abs n * nat_abs n))) [ inl t ↦ simp t tt | inr t ↦ simp t tt ]
bounded layouts.Sparse (n ∷ triples) h = elim (cases_Bool (nat_eq (length triples % 3) 2)) [ inl t ↦ simp t tt | inr t ↦ simp t h ]

size_is : (layout : Layout) → wanted_in layout [] ≡ wanted.Size
size_is layouts.Dense = refl
size_is layouts.Sparse = refl

among_small : (n : ℕ) (v : ℤ) → is_among n v ≡ true → nat_abs v ≤ n
among_small n (pos k) h = leb-true k n (and_parts (nat_le 1 k) (nat_le k n) h).1
among_small n (negsuc k) h = absurd cc

size_small : (place : ℕ) (o : Option ℤ) (v : ℤ) → judged_number wanted.Size place o ≡ Ok v → nat_abs v ≤ MOST_PERSONS
size_small place None v h = absurd cc
size_small place (Some k) v h = elim (cases_Bool (is_among MOST_PERSONS k)) [
  | inl t ↦ let e : Ok k ≡ Ok v = simp t at h in let same : k ≡ v = cc in rw (sym same) (among_small MOST_PERSONS k t)
  | inr t ↦ absurd (let e : Err faults.Size ≡ Ok v = simp t at h in cc)
]

sized_more : (layout : Layout) (found : List ℤ) (place : ℕ) (o : Option ℤ) (v : ℤ) → IsSized found →
    judged_number (wanted_in layout found) place o ≡ Ok v → IsSized (found ++ v ∷ [])
sized_more layout [] place o v h e = size_small place o v (rw (size_is layout) at e)
sized_more layout (n ∷ others) place o v h e = h

-- the state that is kept of the token that has begun
abbrev IsBegun : Layout → List ℤ → Option Token → Option OpenToken → Type 0
IsBegun layout found None None = Unit {0}
IsBegun layout found None (Some p) = ⊥
IsBegun layout found (Some t) None = ⊥
IsBegun layout found (Some t) (Some p) = (p.place ≡ t.place) × IsRead t.bytes p × IsOpen (wanted_in layout found)

-- what an ended token gives
abbrev token_gives : Layout → List ℤ → Option Token → Result (List ℤ) InputFault
token_gives layout found None = Ok found
token_gives layout found (Some t) = and_then (judged (wanted_in layout found) t) (λ v. Ok (found ++ v ∷ []))

with_is : (layout : Layout) (found : List ℤ) (b : Option Token) (o : Option OpenToken) → IsSized found →
    IsBegun layout found b o → with_token layout o found ≡ token_gives layout found b
with_is layout found None None z h = refl
with_is layout found None (Some p) z h = absurd h
with_is layout found (Some t) None z h = absurd h
with_is layout found (Some t) (Some p) z h =
    ap (λ r. and_then r (λ v. Ok (found ++ v ∷ [])))
    (ap (λ place. judged_number (wanted_in layout found) place (token_number p)) h.0
    ∙ judged_same (wanted_in layout found) t.place t.bytes p (bounded layout found z) h.1)

sized_with : (layout : Layout) (found : List ℤ) (o : Option OpenToken) (new : List ℤ) → IsSized found → with_token layout o found ≡ Ok new → IsSized new
sized_with layout found None new z e = let same : found ≡ new = cc in rw (sym same) z
sized_with layout found (Some p) new z e = elim (judged_number (wanted_in layout found) p.place (token_number p)) as
    (λ r. judged_number (wanted_in layout found) p.place (token_number p) ≡ r →
    and_then r (λ v. Ok (found ++ v ∷ [])) ≡ Ok new → IsSized new) [
      | Ok v ↦ λ is h. let same : found ++ v ∷ [] ≡ new = cc in rw (sym same) (sized_more layout found p.place (token_number p) v z is)
      | Err f ↦ λ is h. absurd cc
    ] refl e

assoc : {X Y Z : Type 0} (r : Result X InputFault) (g : X → Y) (k : Y → Result Z InputFault) →
    and_then (and_then r (λ x. Ok (g x))) k ≡ and_then r (λ x. k (g x))
assoc (Ok x) g k = refl
assoc (Err e) g k = refl

-- the pieces that follow an ended token
closed_is : (layout : Layout) (found : List ℤ) (b : Option Token) (pieces : List Piece) →
    and_then (token_gives layout found b) (λ new. numbers_from layout new pieces) ≡ numbers_from layout found (closed b ++ pieces)
closed_is layout found None pieces = refl
closed_is layout found (Some t) pieces = assoc (judged (wanted_in layout found) t) (λ v. found ++ v ∷ []) (λ new. numbers_from layout new pieces)

closed_last : (layout : Layout) (found : List ℤ) (b : Option Token) →
    and_then (token_gives layout found b) (λ new. ended layout new) ≡ numbers_from layout found (closed b)
closed_last layout found None = refl
closed_last layout found (Some t) = assoc (judged (wanted_in layout found) t) (λ v. found ++ v ∷ []) (λ new. ended layout new)

-- where no token may stand, a token that has begun is the fault, whatever its bytes
extra_stays : (layout : Layout) (found : List ℤ) (at : ℕ) (t : Token) (bytes : List ℕ) → wanted_in layout found ≡ wanted.Nothing →
    numbers_from layout found (cut at (Some t) bytes) ≡ Err (faults.Extra t.place)
extra_stays layout found at t [] h = simp (h, extra_is) refl
extra_stays layout found at t (b ∷ bytes) h = elim (cases_Bool (nat_le TEXT_LIMIT at)) [
  | inl far ↦ simp (far, h) refl
  | inr near ↦ elim (cases_Bool (is_space b)) [
    | inl s ↦ simp (near, s, h, extra_is) refl
    | inr s ↦ simp (near, s) (extra_stays layout found (at + 1) (grown at (Some t) b) bytes h)
  ]
]

beyond_is : (layout : Layout) (found : List ℤ) (b : Option Token) (o : Option OpenToken) →
    IsBegun layout found b o → numbers_from layout found (left_open b ++ beyond ∷ []) ≡ Err faults.TooLong
beyond_is layout found None None h = refl
beyond_is layout found None (Some p) h = refl
beyond_is layout found (Some t) None h = absurd h
beyond_is layout found (Some t) (Some p) h = ap Err (open_is (wanted_in layout found) t.place h.2)

abbrev passed : State → List ℤ → State
passed s new = record { layout = s.layout; at = s.at + 1; token = None; found = new }

abbrev held : State → OpenToken → State
held s p = record { layout = s.layout; at = s.at + 1; token = Some p; found = s.found }

place_on : (p : OpenToken) (t : Token) (x : ℕ) → p.place ≡ t.place → (continued p x).place ≡ t.place
place_on p t x h = elim (cases_Bool (is_digit x)) [ inl d ↦ simp d h | inr d ↦ simp d h ]

place_first : (at x : ℕ) → (begun at x).place ≡ at
place_first at x = elim (cases_Bool (is_digit x)) [ inl d ↦ simp d refl | inr d ↦ simp d refl ]

-- white space
space_is : (bytes : List ℕ) (s : State) (b : Option Token) → IsSized s.found → IsBegun s.layout s.found b s.token →
    ((new : List ℤ) → IsSized new → finished (after (Ok (passed s new)) bytes) ≡ numbers_from s.layout new (cut (s.at + 1) None bytes)) →
    finished (after (and_then (with_token s.layout s.token s.found) (λ new. Ok (passed s new))) bytes)
    ≡ numbers_from s.layout s.found (closed b ++ cut (s.at + 1) None bytes)
space_is bytes s b z h then =
    let given = with_is s.layout s.found b s.token z h in
    let other = closed_is s.layout s.found b (cut (s.at + 1) None bytes) in
    elim (with_token s.layout s.token s.found) as (λ r. with_token s.layout s.token s.found ≡ r →
    finished (after (and_then r (λ new. Ok (passed s new))) bytes) ≡ numbers_from s.layout s.found (closed b ++ cut (s.at + 1) None bytes)) [
      | Ok new ↦ λ e. then new (sized_with s.layout s.found s.token new z e)
          ∙ sym (ap (λ r. and_then r (λ found. numbers_from s.layout found (cut (s.at + 1) None bytes))) (sym given ∙ e)) ∙ other
      | Err f ↦ λ e. ap finished (after_err f bytes)
          ∙ sym (ap (λ r. and_then r (λ found. numbers_from s.layout found (cut (s.at + 1) None bytes))) (sym given ∙ e)) ∙ other
    ] refl

-- a byte other than white space, with no token open
first_is : (x : ℕ) (bytes : List ℕ) (s : State) →
    (IsOpen (wanted_in s.layout s.found) → finished (after (Ok (held s (begun s.at x))) bytes)
    ≡ numbers_from s.layout s.found (cut (s.at + 1) (Some (grown s.at None x)) bytes)) →
    finished (after (and_then (begun_where (wanted_in s.layout s.found) s.at x) (λ p. Ok (held s p))) bytes)
    ≡ numbers_from s.layout s.found (cut (s.at + 1) (Some (grown s.at None x)) bytes)
first_is x bytes s then = elim (nothing_or (wanted_in s.layout s.found)) [
  | inl none ↦ simp none (ap finished (after_err (faults.Extra s.at) bytes)) ∙ sym (extra_stays s.layout s.found (s.at + 1) (grown s.at None x) bytes none)
  | inr some ↦ ap (λ r. finished (after (and_then r (λ p. Ok (held s p))) bytes)) (begun_is (wanted_in s.layout s.found) s.at x some) ∙ then some
]

-- a byte other than white space
token_is : (x : ℕ) (bytes : List ℕ) (s : State) (o : Option OpenToken) (b : Option Token) → IsBegun s.layout s.found b o →
    (IsOpen (wanted_in s.layout s.found) → finished (after (Ok (held s (begun s.at x))) bytes)
    ≡ numbers_from s.layout s.found (cut (s.at + 1) (Some (grown s.at None x)) bytes)) →
    ((t : Token) (p : OpenToken) → IsBegun s.layout s.found (Some (grown s.at (Some t) x)) (Some (continued p x)) →
    finished (after (Ok (held s (continued p x))) bytes) ≡ numbers_from s.layout s.found (cut (s.at + 1) (Some (grown s.at (Some t) x)) bytes)) →
    finished (after (and_then (in_token s.layout s.at o s.found x) (λ p. Ok (held s p))) bytes)
    ≡ numbers_from s.layout s.found (cut (s.at + 1) (Some (grown s.at b x)) bytes)
token_is x bytes s None None h first next = first_is x bytes s first
token_is x bytes s (Some p) None h first next = absurd h
token_is x bytes s None (Some t) h first next = absurd h
token_is x bytes s (Some p) (Some t) h first next = next t p (place_on p t x h.0, read_on t.bytes p x h.1, h.2)

pub reads : (bytes : List ℕ) (s : State) (b : Option Token) → IsSized s.found → IsBegun s.layout s.found b s.token →
    finished (after (Ok s) bytes) ≡ numbers_from s.layout s.found (cut s.at b bytes)
reads [] s b z h = ap (λ r. and_then r (λ new. ended s.layout new)) (with_is s.layout s.found b s.token z h) ∙ closed_last s.layout s.found b
reads (x ∷ bytes) s b z h = elim (cases_Bool (nat_le TEXT_LIMIT s.at)) [
  | inl far ↦ simp far (ap finished (after_err faults.TooLong bytes) ∙ sym (beyond_is s.layout s.found b s.token h))
  | inr near ↦ elim (cases_Bool (is_space x)) [
    | inl space ↦ simp (near, space) (space_is bytes s b z h (λ new sized. reads bytes (passed s new) None sized tt))
    | inr black ↦ simp (near, black) (token_is x bytes s s.token b h
        (λ some. reads bytes (held s (begun s.at x)) (Some (grown s.at None x)) z (place_first s.at x, read_begun s.at x, some))
        (λ t p r. reads bytes (held s (continued p x)) (Some (grown s.at (Some t) x)) z r))
  ]
]

-- a text, read byte by byte, gives the numbers of its tokens
pub reads_whole : (layout : Layout) (bytes : List ℕ) → finished (after (Ok (start layout)) bytes) ≡ numbers_in layout bytes
reads_whole layout bytes = reads bytes (start layout) None tt tt

weaker : (o : Option (List ℕ)) (P Q : List ℕ → Type 0) → IfSome o P → ((x : List ℕ) → P x → Q x) → IfSome o Q
weaker None P Q h f = search rules
weaker (Some x) P Q h f = f x h

dense_meets : (result : Result (List Listing) InputFault) (numbers : Result (List ℤ) InputFault) →
    Meets layouts.Dense result numbers → Answers result (and_then numbers (λ ns. Ok (dense_problem ns)))
dense_meets (Ok rows) (Ok numbers) h = ap Ok h
dense_meets (Ok rows) (Err e) h = absurd h
dense_meets (Err e) numbers h = fails_along (λ r. and_then r (λ ns. Ok (dense_problem ns))) (λ _. refl) e numbers h

pub by_tokens : (o : Option (List ℕ)) (result : Result (List Listing) InputFault) →
    IfSome o (λ bytes. Meets layouts.Dense result (finished (after (Ok (start layouts.Dense)) bytes))) →
    IfSome o (λ bytes. Answers result (dense_reading bytes))
by_tokens o result h = weaker o _ _ h (λ bytes g. dense_meets result (numbers_in layouts.Dense bytes) (rw (sym (reads_whole layouts.Dense bytes)) g))

sparse_meets : (result : Result (List Listing) InputFault) (numbers : Result (List ℤ) InputFault) →
    Meets layouts.Sparse result numbers → SparseAnswers result (and_then numbers (λ ns. Ok (sparse_list ns)))
sparse_meets (Ok rows) (Ok numbers) h = h
sparse_meets (Ok rows) (Err e) h = absurd h
sparse_meets (Err e) numbers h = fails_along (λ r. and_then r (λ ns. Ok (sparse_list ns))) (λ _. refl) e numbers h

pub by_triples : (o : Option (List ℕ)) (result : Result (List Listing) InputFault) →
    IfSome o (λ bytes. Meets layouts.Sparse result (finished (after (Ok (start layouts.Sparse)) bytes))) →
    IfSome o (λ bytes. SparseAnswers result (sparse_reading bytes))
by_triples o result h = weaker o _ _ h (λ bytes g. sparse_meets result (numbers_in layouts.Sparse bytes) (rw (sym (reads_whole layouts.Sparse bytes)) g))
