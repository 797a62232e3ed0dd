-- Triples that are gathered as numbers come.
use Rattle.std.proofs.Common.{◌≡◌, ℕ, ℤ, pos, ◌<◌, ◌≤◌, ◌+◌, ◌*◌, ◌%◌, List, [], ◌∷◌, ◌++◌, true, false, length}
use Rattle.std.proofs.Common.{flat_map, refl, arith, sym, subst, ◌∙◌, ap, append_assoc, append-nil, length-append}
use Rattle.std.proofs.Common.{nat_eq, Ok, Err}
use Rattle.std.specs.List.{All}
use Rattle.std.proofs.lemmas.Grind.{flat_map-append}
use Rattle.std.proofs.lemmas.List.Elements.{All-push, All-head, All-tail}
use Rattle.std.proofs.lemmas.Bool.{cond-true, cond-false, ne_eqb}
use Rattle.assign_core.specs.Rows.{Listing, IsCost}
use Rattle.assign_core.specs.Sparse.{Triple, IsTriple, IsSparse}
use Rattle.orlib_reader.specs.Wanted.{Wanted}
use Rattle.orlib_reader.specs.Wanted as wanted
use Rattle.orlib_reader.specs.Texts.{wanted_in, ended, Meets, triples_of}
use Rattle.orlib_reader.specs.inside.Gathered.{gathered, numbers_of, begun_numbers, sparse_numbers, AreWithin, IsGathered}
use Rattle.orlib_reader.specs.declared.machine.TheConstants.{TEXT_LIMIT}
use Rattle.orlib_reader.specs.declared.sparse.TheConstants.{PIECE_LENGTH}
use Rattle.orlib_reader.specs.declared.sparse.Begun.{Begun}
use Rattle.orlib_reader.specs.declared.sparse.Begun.TheVariants as begun
use Rattle.orlib_reader.specs.declared.layout.Layout.TheVariants.{Sparse}
use Rattle.orlib_reader.specs.declared.fault.InputFault.TheVariants as faults

pieces_length : (pieces : List (List Triple)) → All (λ p. length p ≡ PIECE_LENGTH) pieces → length (flat_map (λ p. p) pieces) ≡ length pieces * PIECE_LENGTH
pieces_length [] h = omega arith
pieces_length (p ∷ pieces) h =
    let first = All-head (λ q. length q ≡ PIECE_LENGTH) p pieces h in
    let others = pieces_length pieces (All-tail (λ q. length q ≡ PIECE_LENGTH) p pieces h) in
    let both = length-append p (flat_map (λ q. q) pieces) in
    both ∙ omega arith

pub gathered_length : (pieces : List (List Triple)) (piece : List Triple) → All (λ p. length p ≡ PIECE_LENGTH)
    pieces → length (gathered pieces piece) ≡ length pieces * PIECE_LENGTH + length piece
gathered_length pieces piece h = let a = pieces_length pieces h in let b = length-append (flat_map (λ p. p) pieces) piece in omega arith

flat_length : (ts : List Triple) → length (flat_map numbers_of ts) ≡ 3 * length ts
flat_length [] = omega arith
flat_length (t ∷ ts) = let others = flat_length ts in omega arith

third : (a k : ℕ) → k < 3 → (3 * a + k) % 3 ≡ k
third a k h = omega arith

behind : (ts : List Triple) (b : Begun) (k : ℕ) → length (begun_numbers b) ≡ k → k < 3 → length (flat_map numbers_of ts ++ begun_numbers b) % 3 ≡ k
behind ts b k e h =
    let both : length (flat_map numbers_of ts ++ begun_numbers b) ≡ 3 * length ts + k =
    length-append (flat_map numbers_of ts) (begun_numbers b) ∙ (let flat = flat_length ts in omega arith) in
    ap (λ m. m % 3) both ∙ third (length ts) k h

-- what is expected after the numbers of a triple that has begun
abbrev pub wanted_behind : ℕ → Begun → Wanted
wanted_behind n begun.Nothing = wanted.Index n
wanted_behind n (begun.Person i) = wanted.Index n
wanted_behind n (begun.Pair i j) = wanted.Cost

pub sparse_wants : (n : ℕ) (ts : List Triple) (b : Begun) → wanted_in Sparse (sparse_numbers n ts b) ≡ wanted_behind n b
sparse_wants n ts begun.Nothing = cond-false _ wanted.Cost (wanted.Index n) (ap (λ m. nat_eq m 2) (behind ts begun.Nothing 0 refl (omega arith)))
sparse_wants n ts (begun.Person i) = cond-false _ wanted.Cost (wanted.Index n) (ap (λ m. nat_eq m 2) (behind ts (begun.Person i) 1 refl (omega arith)))
sparse_wants n ts (begun.Pair i j) = cond-true _ wanted.Cost (wanted.Index n) (ap (λ m. nat_eq m 2) (behind ts (begun.Pair i j) 2 refl (omega arith)))

-- the same for the numbers as a contract sees them
pub sparse_wanted : (n : ℕ) (ts : List Triple) (b known : Begun) (numbers : List ℤ) → b ≡ known →
    sparse_numbers n ts b ≡ numbers → wanted_in Sparse numbers ≡ wanted_behind n known
sparse_wanted n ts b known numbers is shown = ap (wanted_in Sparse) (sym shown) ∙ sparse_wants n ts b ∙ ap (wanted_behind n) is

-- the object that follows a person
pub object_taken : (n : ℕ) (ts : List Triple) (b : Begun) (i k : ℕ) (numbers : List ℤ) → b ≡ begun.Person i →
    sparse_numbers n ts b ≡ numbers → sparse_numbers n ts (begun.Pair i k) ≡ numbers ++ pos k ∷ []
object_taken n ts b i k numbers is shown =
    ap (λ l. pos n ∷ l) (sym (append_assoc (flat_map numbers_of ts) (pos i ∷ []) (pos k ∷ [])))
    ∙ ap (λ x. sparse_numbers n ts x ++ pos k ∷ []) (sym is) ∙ ap (λ l. l ++ pos k ∷ []) shown

-- the cost that follows a person and an object
pub cost_taken : (n : ℕ) (ts new : List Triple) (b : Begun) (i j : ℕ) (c : ℤ) (numbers : List ℤ) →
    b ≡ begun.Pair i j → sparse_numbers n ts b ≡ numbers → new ≡ ts ++ (i, j, c) ∷ [] →
    sparse_numbers n new begun.Nothing ≡ numbers ++ c ∷ []
cost_taken n ts new b i j c numbers is shown e =
    ap (λ l. pos n ∷ l) (append-nil (flat_map numbers_of new))
    ∙ ap (λ l. pos n ∷ flat_map numbers_of l) e
    ∙ ap (λ l. pos n ∷ l) (flat_map-append numbers_of ts ((i, j, c) ∷ []))
    ∙ ap (λ l. pos n ∷ l) (sym (append_assoc (flat_map numbers_of ts) (pos i ∷ pos j ∷ []) (c ∷ [])))
    ∙ ap (λ x. sparse_numbers n ts x ++ c ∷ []) (sym is) ∙ ap (λ l. l ++ c ∷ []) shown

pub triple_kept : (n : ℕ) (pieces old : List (List Triple)) (piece last : List Triple) (b : Begun) (i j : ℕ) (c : ℤ)
    → IsGathered n old last b → b ≡ begun.Pair i j → IsCost c →
    All (λ p. length p ≡ PIECE_LENGTH) pieces → gathered pieces piece ≡ gathered old last ++ (i, j, c) ∷ [] → IsGathered n pieces piece begun.Nothing
triple_kept n pieces old piece last b i j c h is cost full e =
    let within : AreWithin n (begun.Pair i j) = subst (AreWithin n) is h.within in
    record {
      size = h.size;
      within = tt;
      full = full;
      triples = rw e (All-push (IsTriple n) (gathered old last) (i, j, c) h.triples (record { person = within.0; object = within.1; cost = cost }));
    }

sparse_length : (n : ℕ) (ts : List Triple) (b : Begun) (k : ℕ) → length (begun_numbers b) ≡ k → length (sparse_numbers n ts b) ≡ 1 + 3 * length ts + k
sparse_length n ts b k e = let flat = flat_length ts in let both = length-append (flat_map numbers_of ts) (begun_numbers b) in omega arith

pub few_triples : (n : ℕ) (ts : List Triple) (b : Begun) (numbers : List ℤ) → sparse_numbers n ts b ≡ numbers →
    length numbers ≤ TEXT_LIMIT → length ts ≤ TEXT_LIMIT
few_triples n ts b numbers shown few = let long = sparse_length n ts b (length (begun_numbers b)) refl in let same = ap length shown in omega arith

-- the fault at the end of a text that ends within a triple
sparse_short : (n : ℕ) (ts : List Triple) (b : Begun) (k : ℕ) (numbers : List ℤ) (count : ℕ) →
    length (begun_numbers b) ≡ k → 0 < k → k < 3 → sparse_numbers n ts b ≡ numbers → count ≡ 3 * length ts + k + 1 →
    ended Sparse numbers ≡ Err (faults.Truncated count)
sparse_short n ts b k numbers count e some less shown c =
    let rest = behind ts b k e less in
    let long = sparse_length n ts b k e in
    let short : nat_eq (length (flat_map numbers_of ts ++ begun_numbers b) % 3) 0 ≡ false = ne_eqb _ 0 (λ z. omega arith) in
    ap (ended Sparse) (sym shown) ∙ cond-false _ _ _ short ∙ ap (λ m. Err (faults.Truncated m)) (omega arith)

pub short_of_pair : (n : ℕ) (ts : List Triple) (b : Begun) (i j : ℕ) (numbers : List ℤ) (count : ℕ) →
    b ≡ begun.Pair i j → sparse_numbers n ts b ≡ numbers → count ≡ 3 * length ts + 2 + 1 →
    ended Sparse numbers ≡ Err (faults.Truncated count)
short_of_pair n ts b i j numbers count is shown c = sparse_short n ts b 2 numbers count
    (ap (λ x. length (begun_numbers x)) is) (omega arith) (omega arith) shown c

pub short_of_person : (n : ℕ) (ts : List Triple) (b : Begun) (i : ℕ) (numbers : List ℤ) (count : ℕ) →
    b ≡ begun.Person i → sparse_numbers n ts b ≡ numbers → count ≡ 3 * length ts + 1 + 1 →
    ended Sparse numbers ≡ Err (faults.Truncated count)
short_of_person n ts b i numbers count is shown c = sparse_short n ts b 1 numbers count
    (ap (λ x. length (begun_numbers x)) is) (omega arith) (omega arith) shown c

triples_again : (ts : List Triple) → triples_of (flat_map numbers_of ts) ≡ ts
triples_again [] = refl
triples_again (t ∷ ts) = ap (λ l. t ∷ l) (triples_again ts)

-- the problem at the end of whole triples
pub sparse_done : (n : ℕ) (ts : List Triple) (b : Begun) (numbers : List ℤ) (rows : List Listing) →
    b ≡ begun.Nothing → sparse_numbers n ts b ≡ numbers → IsSparse n ts rows →
    Meets Sparse (Ok rows) (ended Sparse numbers)
sparse_done n ts b numbers rows is shown h =
    let numbers_now : numbers ≡ pos n ∷ flat_map numbers_of ts = sym shown ∙ ap (sparse_numbers n ts) is ∙
    ap (λ l. pos n ∷ l) (append-nil (flat_map numbers_of ts)) in
    let whole : nat_eq (length (flat_map numbers_of ts) % 3) 0 ≡ true =
    ap (λ m. nat_eq m 0) (ap (λ m. m % 3) (flat_length ts ∙ omega arith) ∙ third (length ts) 0 (omega arith)) in
    let ends : ended Sparse numbers ≡ Ok (pos n ∷ flat_map numbers_of ts) = ap (ended Sparse) numbers_now ∙ cond-true _ _ _ whole in
    rw ends (rw triples_again h)
