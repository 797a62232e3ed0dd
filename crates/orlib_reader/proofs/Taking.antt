-- Tokens that have ended, as what is expected.
use Rattle.std.proofs.Common.{◌≡◌, ℤ, List, [], ◌∷◌, ◌++◌, Some, Ok, Err, Result, sym, ap, ◌∙◌}
use Rattle.orlib_reader.specs.Wanted.{Wanted}
use Rattle.orlib_reader.specs.Numbers.{judged_number}
use Rattle.orlib_reader.specs.Texts.{wanted_in, and_then, Fails}
use Rattle.orlib_reader.specs.inside.Steps.{with_token, token_number}
use Rattle.orlib_reader.specs.declared.fault.InputFault.{InputFault}
use Rattle.orlib_reader.specs.declared.fault.InputFault.TheVariants as faults
use Rattle.orlib_reader.specs.declared.layout.Layout.{Layout}
use Rattle.orlib_reader.specs.declared.token.OpenToken.{OpenToken}

fails_itself : {X : Type 0} (fault : InputFault) (r : Result X InputFault) → r ≡ Err fault → Fails fault r
fails_itself faults.Memory r h = tt
fails_itself faults.Read r h = tt
fails_itself fault r h = h

-- what an ended token gives where this is expected
ends : (layout : Layout) (found : List ℤ) (token : OpenToken) (w : Wanted) (number : Result ℤ InputFault) →
    wanted_in layout found ≡ w → judged_number w token.place (token_number token) ≡ number →
    with_token layout (Some token) found ≡ and_then number (λ v. Ok (found ++ v ∷ []))
ends layout found token w number is judged =
    ap (λ x. and_then (judged_number x token.place (token_number token)) (λ v. Ok (found ++ v ∷ []))) is ∙
    ap (λ r. and_then r (λ v. Ok (found ++ v ∷ []))) judged

pub refused : (layout : Layout) (found : List ℤ) (token : OpenToken) (w : Wanted) (fault : InputFault) →
    wanted_in layout found ≡ w → judged_number w token.place (token_number token) ≡ Err fault →
    Fails fault (with_token layout (Some token) found)
refused layout found token w fault is judged = fails_itself fault _ (ends layout found token w (Err fault) is judged)

pub taken : (layout : Layout) (found new : List ℤ) (token : OpenToken) (w : Wanted) (v : ℤ) →
    wanted_in layout found ≡ w → judged_number w token.place (token_number token) ≡ Ok v → new ≡ found ++ v ∷ [] →
    with_token layout (Some token) found ≡ Ok new
taken layout found new token w v is judged e = ends layout found token w (Ok v) is judged ∙ ap Ok (sym e)
