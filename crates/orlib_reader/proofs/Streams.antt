-- Reading in pieces.
use Rattle.std.proofs.Common.{◌≡◌, ℕ, ◌<◌, ◌+◌, List, [], ◌∷◌, ◌++◌, Option, Some, None, Ok, Err, Result, refl}
use Rattle.std.proofs.Common.{IfSome, rules, length, drop, get_or, sym, ap, ◌∙◌}
use Rattle.std.specs.Prelude.{⊤}
use Rattle.std.proofs.lemmas.List.{drop_more}
use Rattle.orlib_reader.specs.declared.fault.InputFault.{InputFault}
use Rattle.orlib_reader.specs.declared.fault.InputFault.TheVariants as faults
use Rattle.orlib_reader.specs.declared.layout.Layout.{Layout}
use Rattle.orlib_reader.specs.Texts.{Fails}
use Rattle.orlib_reader.specs.inside.Steps.{State, after, start, step, finished}
use Rattle.std.specs.Io.KnownBytes.{Consumes}

pub after_err : (e : InputFault) (ys : List ℕ) → after (Err e) ys ≡ Err e
after_err e [] = refl
after_err e (y ∷ ys) = refl

pub after-append : (r : Result State InputFault) (xs ys : List ℕ) → after r (xs ++ ys) ≡ after (after r xs) ys
after-append (Ok s) [] ys = refl
after-append (Ok s) (x ∷ xs) ys = after-append (step s x) xs ys
after-append (Err e) [] ys = refl
after-append (Err e) (x ∷ xs) ys = sym (after_err e ys)

-- a fault that is passed on stays the expected one
pub fails_along : {X Y : Type 0} (f : Result X InputFault → Result Y InputFault) (same : (e : InputFault) →
    f (Err e) ≡ Err e) (e : InputFault) (w : Result X InputFault) → Fails e w → Fails e (f w)
fails_along f same faults.Memory w h = tt
fails_along f same faults.Read w h = tt
fails_along f same fault w h = ap f h ∙ same fault

-- a fault stays, whatever follows it
pub err_more : (e : InputFault) (w : Result State InputFault) (ys : List ℕ) → Fails e w → Fails e (after w ys)
err_more e w ys h = fails_along (λ r. after r ys) (λ f. after_err f ys) e w h

pub err_step : (e : InputFault) (s : State) (bytes : List ℕ) (i : ℕ) → i < length bytes →
    Fails e (step s (get_or bytes i 0)) → Fails e (after (Ok s) (drop i bytes))
err_step e s bytes i lt h = rw (drop_more bytes i 0 lt) (err_more e (step s (get_or bytes i 0)) (drop (i + 1) bytes) h)

-- what is left of the text leads to the end of the whole text
abbrev pub Follows : Layout → Option (List ℕ) → Option (List ℕ) → State → Type 0
Follows layout None left s = ⊤
Follows layout (Some all) None s = ⊥
Follows layout (Some all) (Some left) s = after (Ok s) left ≡ after (Ok (start layout)) all

whole : (layout : Layout) (all left bs ys : List ℕ) (s : State) → after (Ok s) left ≡ after (Ok (start layout))
    all → left ≡ bs ++ ys → after (after (Ok s) bs) ys ≡ after (Ok (start layout)) all
whole layout all left bs ys s h e = sym (after-append (Ok s) bs ys) ∙ ap (after (Ok s)) (sym e) ∙ h

-- a piece is read
pub follows_more : (layout : Layout) (old left new : Option (List ℕ)) (s s' : State) (bs : List ℕ) →
    Follows layout old left s → Consumes left new bs → after (Ok s) bs ≡ Ok s' → Follows layout old new s'
follows_more layout None left new s s' bs f k h = tt
follows_more layout (Some all) None new s s' bs f k h = absurd f
follows_more layout (Some all) (Some left) None s s' bs f k h = absurd k
follows_more layout (Some all) (Some left) (Some ys) s s' bs f k h = ap (λ r. after r ys) (sym h) ∙ whole layout all left bs ys s f k

-- a piece has a fault
pub fault_comes : (layout : Layout) (old left new : Option (List ℕ)) (s : State) (e : InputFault) (bs : List ℕ) →
    Follows layout old left s → Consumes left new bs → Fails e (after (Ok s) bs) →
    IfSome old (λ all. Fails e (finished (after (Ok (start layout)) all)))
fault_comes layout None left new s e bs f k h = search rules
fault_comes layout (Some all) None new s e bs f k h = absurd f
fault_comes layout (Some all) (Some left) None s e bs f k h = absurd k
fault_comes layout (Some all) (Some left) (Some ys) s e bs f k h =
    fails_along finished (λ _. refl) e (after (Ok (start layout)) all) (rw (sym (whole layout all left bs ys s f k)) (err_more e (after (Ok s) bs) ys h))
