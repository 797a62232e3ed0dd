-- Tokens taken by the run of their digits.
use Rattle.std.proofs.Common.{◌≡◌, ℕ, ◌<◌, ◌≤◌, ◌+◌, ℤ, List, [], ◌∷◌, ◌++◌, Some, None, Ok, Err, true, refl, arith}
use Rattle.std.proofs.Common.{length, drop, get_or, sym, ap, ◌∙◌, add-one}
use Rattle.std.proofs.lemmas.Bool.{lt-leb}
use Rattle.std.proofs.lemmas.List.{drop_more, length_push}
use Rattle.orlib_reader.specs.declared.fault.InputFault.{InputFault}
use Rattle.orlib_reader.specs.declared.layout.Layout.{Layout}
use Rattle.orlib_reader.specs.declared.machine.TheConstants.{TEXT_LIMIT}
use Rattle.orlib_reader.specs.declared.token.OpenToken.{OpenToken}
use Rattle.orlib_reader.specs.Numbers.{judged_number}
use Rattle.orlib_reader.specs.Tokens.{is_space}
use Rattle.orlib_reader.specs.Texts.{wanted_in, and_then, Fails}
use Rattle.orlib_reader.specs.inside.Steps.{State, Begins, after, begun, step, token_number, with_token, within_token}
use Rattle.orlib_reader.proofs.Grammar.{begun_is}
use Rattle.orlib_reader.proofs.Streams.{err_step, fails_along}

first_step : (s : State) (bytes : List ℕ) → Begins s bytes →
    step s (get_or bytes 0 0) ≡ Ok (within_token s.layout (s.at + 1) (begun s.at (get_or bytes 0 0)) s.found)
first_step s bytes h =
    let some = h.some in
    let near = h.near in
    simp (lt-leb TEXT_LIMIT s.at (omega arith), h.dark, h.none_open, begun_is (wanted_in s.layout s.found) s.at (get_or bytes 0 0) h.wanted) refl

-- a token's first byte and the digits after it
after_first : (s : State) (bytes : List ℕ) (token : OpenToken) (digits : ℕ) → Begins s bytes →
    after (Ok (within_token s.layout (s.at + 1 + digits) token s.found)) (drop digits (drop 1 bytes)) ≡ after
    (Ok (within_token s.layout (s.at + 1) (begun s.at (get_or bytes 0 0)) s.found)) (drop 1 bytes) →
    after (Ok (within_token s.layout (s.at + (digits + 1)) token s.found)) (drop (digits + 1) bytes) ≡ after (Ok s) bytes
after_first s [] token digits h run = let some = h.some in absurd (omega (arith, some))
after_first s (b ∷ bytes) token digits h run =
    let same : s.at + 1 + digits ≡ s.at + (digits + 1) = omega arith in
    let left : drop (digits + 1) (b ∷ bytes) ≡ drop digits bytes = rw add-one refl in
    rw (sym same, left) (run ∙ ap (λ r. after r bytes) (sym (first_step s (b ∷ bytes) h)))

-- the digits lead from the first token to the other one
abbrev pub Runs : List ℕ → OpenToken → OpenToken → ℕ → Type 0
Runs bytes first token digits = (layout : Layout) (at : ℕ) (found : List ℤ) → at + length bytes ≤ TEXT_LIMIT →
    after (Ok (within_token layout (at + digits) token found)) (drop digits bytes) ≡ after (Ok (within_token layout at first found)) bytes

pub begins : (s : State) (bytes rest : List ℕ) (first token : OpenToken) (digits : ℕ) → Begins s bytes →
    rest ≡ drop 1 bytes → length rest + 1 ≡ length bytes → first ≡ begun s.at (get_or bytes 0 0) →
    Runs rest first token digits →
    after (Ok (within_token s.layout (s.at + (digits + 1)) token s.found)) (drop (digits + 1) bytes) ≡ after (Ok s) bytes
begins s bytes rest first token digits h is long one run =
    let near = h.near in
    let within : s.at + 1 + length rest ≤ TEXT_LIMIT = omega (arith, long, near) in
    let e = run s.layout (s.at + 1) s.found within in
    after_first s bytes token digits h (rw (is, one) at e)

-- the white byte that ends a token
white_step : (layout : Layout) (at : ℕ) (token : OpenToken) (found : List ℤ) (b : ℕ) → at < TEXT_LIMIT → is_space b ≡ true →
    step (within_token layout at token found) b ≡ and_then (with_token layout (Some token) found)
    (λ new. Ok (record { layout = layout; at = at + 1; token = None; found = new }))
white_step layout at token found b near w = simp (lt-leb TEXT_LIMIT at near, w) refl

ends : (layout : Layout) (at : ℕ) (token : OpenToken) (found new : List ℤ) (bytes : List ℕ) (i : ℕ) →
    i < length bytes → at < TEXT_LIMIT → is_space (get_or bytes i 0) ≡ true →
    with_token layout (Some token) found ≡ Ok new →
    after (Ok (record { layout = layout; at = at + 1; token = None; found = new })) (drop (i + 1) bytes) ≡ after
    (Ok (within_token layout at token found)) (drop i bytes)
ends layout at token found new bytes i lt near w is =
    rw (drop_more bytes i 0 lt) (ap (λ r. after r (drop (i + 1) bytes)) (sym (white_step layout at token found (get_or bytes i 0) near w
    ∙ ap (λ r. and_then r (λ found. Ok (record { layout = layout; at = at + 1; token = None; found = found }))) is)))

-- a token that ends
pub ended : (s : State) (bytes : List ℕ) (token : OpenToken) (digits : ℕ) (layout : Layout) (new : List ℤ) → Begins s bytes →
    after (Ok (within_token s.layout (s.at + (digits + 1)) token s.found)) (drop (digits + 1) bytes) ≡ after (Ok s) bytes →
    digits + 1 < length bytes → is_space (get_or bytes (digits + 1) 0) ≡ true → layout ≡ s.layout → with_token s.layout (Some token) s.found ≡ Ok new →
    after (Ok (record { layout = layout; at = s.at + (digits + 1 + 1); token = s.token; found = new })) (drop (digits + 1 + 1) bytes) ≡ after (Ok s) bytes
ended s bytes token digits layout new h before lt w same is =
    let near = h.near in
    let sum : s.at + (digits + 1 + 1) ≡ s.at + (digits + 1) + 1 = omega arith in
    let e = ends s.layout (s.at + (digits + 1)) token s.found new bytes (digits + 1) lt (omega (arith, near, lt)) w is in
    rw (sum, same) (ap (λ t. after (Ok (record {
      layout = s.layout;
      at = s.at + (digits + 1) + 1;
      token = t;
      found =
          new;
    })) (drop (digits + 1 + 1) bytes)) h.none_open ∙ e ∙ before)

ends_badly : (layout : Layout) (at : ℕ) (token : OpenToken) (found : List ℤ) (e : InputFault) (bytes : List ℕ)
    (i : ℕ) → i < length bytes → at < TEXT_LIMIT → is_space (get_or bytes i 0) ≡ true →
    Fails e (with_token layout (Some token) found) → Fails e (after (Ok (within_token layout at token found)) (drop i bytes))
ends_badly layout at token found e bytes i lt near w fails =
    err_step e (within_token layout at token found) bytes i lt
    (rw (white_step layout at token found (get_or bytes i 0) near w)
    (fails_along (λ r. and_then r (λ new. Ok (record { layout = layout; at = at + 1; token = None; found = new })))
    (λ _. refl) e (with_token layout (Some token) found) fails))

pub ended_badly : (s : State) (bytes : List ℕ) (token : OpenToken) (digits : ℕ) (e : InputFault) → Begins s bytes →
    after (Ok (within_token s.layout (s.at + (digits + 1)) token s.found)) (drop (digits + 1) bytes) ≡ after (Ok s) bytes →
    digits + 1 < length bytes → is_space (get_or bytes (digits + 1) 0) ≡ true →
    Fails e (with_token s.layout (Some token) s.found) → Fails e (after (Ok s) bytes)
ended_badly s bytes token digits e h before lt w fails =
    let near = h.near in
    rw (sym before) (ends_badly s.layout (s.at + (digits + 1)) token s.found e bytes (digits + 1) lt (omega (arith, near, lt)) w fails)

pub one_more : (layout : Layout) (token : OpenToken) (found new : List ℤ) → with_token layout (Some token) found ≡ Ok new → length new ≡ length found + 1
one_more layout token found new e = elim (judged_number (wanted_in layout found) token.place (token_number token))
    as (λ r. and_then r (λ v. Ok (found ++ v ∷ [])) ≡ Ok new → length new ≡ length found + 1) [
      | Ok v ↦ λ h. let same : found ++ v ∷ [] ≡ new = cc in rw (sym same) (length_push found v)
      | Err f ↦ λ h. absurd cc
    ] e
