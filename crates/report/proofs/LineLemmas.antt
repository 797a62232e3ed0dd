-- Lines: what is read was written like this, and what is written is read again.
use Rattle.std.proofs.Common.{◌≡◌, ℕ, pos, List, [], ◌∷◌, Bool, true}
use Rattle.std.proofs.Common.{false, cond, eqb, ltb, Option, Some, None, length, map, refl, sym, ap}
use Rattle.std.proofs.Common.{subst, ◌∙◌, decimal, codes}
use Rattle.std.specs.Fmt.{signed_decimal}
use Rattle.std.specs.Str.{bytes_eq}
use Rattle.std.proofs.lemmas.Bool.{eqb-true, ltb-true}
use Rattle.std.proofs.lemmas.Option.{cond_some}
use Rattle.std.proofs.lemmas.Slice.Eq.{bytes_eq-Decides}
use Rattle.assign_core.specs.declared.numbers.TheConstants.{MOST_PERSONS}
use Rattle.assign_core.specs.declared.sense.Sense.{Sense}
use Rattle.assign_core.specs.declared.sense.Sense.TheVariants.{Min, Max}
use Rattle.report.specs.Words.{joined}
use Rattle.report.specs.inside.WordsLeft.{words_of}
use Rattle.report.specs.Reports.{is_rising}
use Rattle.report.specs.Lines.{Line, sense_line, cost_line, assign_line, price_line, infeasible_line, persons_line}
use Rattle.report.specs.Lines.{objects_line, sense_word, line_words, line_text}
use Rattle.report.specs.inside.Numerals.{◌>>=◌, cost_in, price_in, number_in}
use Rattle.report.specs.inside.Reading.{first_by, at_end, sense_in, read_sense, read_cost, read_assign, read_price}
use Rattle.report.specs.inside.Reading.{read_infeasible, read_rising, read_list, read_behind, read_words, line_in}
use Rattle.report.specs.inside.Reading.{IsInRange}
use Rattle.report.proofs.WordLemmas.{joined-words_of}
use Rattle.report.proofs.NumeralLemmas.{bind_some, within_takes, cost_takes, price_takes}
use Rattle.report.proofs.LineWords.{rising_more}

-- ---- what is read was written so

first_takes : {A : Type 0} (read : List ℕ → Option A) (ws : List (List ℕ)) (x : A × List (List ℕ)) →
    first_by read ws ≡ Some x → (w : List ℕ) × (ws ≡ w ∷ x.1) × (read w ≡ Some x.0)
first_takes read [] x e = absurd cc
first_takes {A} read (w ∷ ws) x e =
    let b = bind_some (read w) (λ y. Some (y, ws)) x e in
    let pair : ◌≡◌ {A = A × List (List ℕ)} (b.0, ws) x = cc (b.2) in
    (w, ap (λ (p : A × List (List ℕ)). w ∷ p.1) pair, b.1 ∙ ap (λ (p : A × List (List ℕ)). Some p.0) pair)

end_takes : {A : Type 0} (x y : A) (ws : List (List ℕ)) → at_end x ws ≡ Some y → (ws ≡ []) × (x ≡ y)
end_takes x y [] e = (refl, cc)
end_takes x y (w ∷ ws) e = absurd cc

abbrev IsWritten : List ℕ → List (List ℕ) → Line → Type 0
IsWritten word ws line = (line_words line ≡ word ∷ ws) × IsInRange line

one_written : (word : List ℕ) (ws r : List (List ℕ)) (w x : List ℕ) → ws ≡ w ∷ r → r ≡ [] → w ≡ x → word ∷ x ∷ [] ≡ word ∷ ws
one_written word ws r w x e f g = cc

two_written : (word : List ℕ) (ws r s : List (List ℕ)) (v w x y : List ℕ) → ws ≡ v ∷ r → r ≡ w ∷ s → s ≡ [] → v ≡ x → w ≡ y → word ∷ x ∷ y ∷ [] ≡ word ∷ ws
two_written word ws r s v w x y e f g h k = cc

three_written : (word : List ℕ) (ws r s t : List (List ℕ)) (u v w x y z : List ℕ) → ws ≡ u ∷ r → r ≡ v ∷ s →
    s ≡ w ∷ t → t ≡ [] → u ≡ x → v ≡ y → w ≡ z → word ∷ x ∷ y ∷ z ∷ [] ≡ word ∷ ws
three_written word ws r s t u v w x y z e f g h i j k = cc

pushed : (w x : List ℕ) (ws xs : List (List ℕ)) → w ≡ x → ws ≡ xs → w ∷ ws ≡ x ∷ xs
pushed w x ws xs e f = cc

listed : (ws r : List (List ℕ)) (w x y : List ℕ) (xs : List (List ℕ)) → ws ≡ w ∷ r → w ≡ x → y ≡ x → r ≡ xs → ws ≡ y ∷ xs
listed ws r w x y xs e f g h = cc

sense_word_is : (word : List ℕ) (sense : Sense) → sense_in word ≡ Some sense → word ≡ sense_word sense
sense_word_is word sense e = picked_sense (bytes_eq word (codes "min")) (bytes_eq word (codes "max")) refl refl e
  where
    picked_sense : (s t : Bool) → bytes_eq word (codes "min") ≡ s → bytes_eq word (codes "max") ≡ t →
        cond s (Some Min) (cond t (Some Max) None) ≡ Some sense → word ≡ sense_word sense
    picked_sense true t p q e = let is : Min ≡ sense = cc in (bytes_eq-Decides word (codes "min")).0 p ∙ ap sense_word is
    picked_sense false true p q e = let is : Max ≡ sense = cc in (bytes_eq-Decides word (codes "max")).0 q ∙ ap sense_word is
    picked_sense false false p q e = absurd cc

-- a line with one word after its name
one_takes : {A : Type 0} (read : List ℕ → Option A) (made : A → Line) (name : List ℕ) (written : A → List ℕ)
    → ((w : List ℕ) (x : A) → read w ≡ Some x → (w ≡ written x) × IsInRange (made x)) → ((x : A) → line_words (made x) ≡ name ∷ written x ∷ [])
    → (ws : List (List ℕ)) (line : Line) → (first_by read ws >>= λ s. at_end (made s.0) s.1) ≡ Some line → IsWritten name ws line
one_takes read made name written takes words ws line e =
    let s = bind_some (first_by read ws) (λ s. at_end (made s.0) s.1) line e in
    let w = first_takes read ws s.0 s.1 in
    let z = end_takes (made s.0.0) line s.0.1 s.2 in
    let t = takes w.0 s.0.0 w.2 in
    subst (IsWritten name ws) z.1 (words s.0.0 ∙ one_written name ws s.0.1 w.0 (written s.0.0) w.1 z.0 t.0, t.1)

sense_takes : (ws : List (List ℕ)) (line : Line) → read_sense ws ≡ Some line → IsWritten (codes "sense") ws line
unfolding read_sense
sense_takes ws line e = one_takes sense_in sense_line (codes "sense") sense_word (λ w sense s. (sense_word_is w sense s, tt)) (λ sense. refl) ws line e

cost_line_takes : (ws : List (List ℕ)) (line : Line) → read_cost ws ≡ Some line → IsWritten (codes "cost") ws line
unfolding read_cost
cost_line_takes ws line e = one_takes cost_in cost_line (codes "cost") signed_decimal cost_takes (λ c. refl) ws line e

assign_takes : (ws : List (List ℕ)) (line : Line) → read_assign ws ≡ Some line → IsWritten (codes "assign") ws line
unfolding read_assign
assign_takes ws line e =
    let i = bind_some (first_by number_in ws) (λ i. first_by number_in i.1 >>= λ j. first_by cost_in j.1 >>= λ c.
    at_end (assign_line i.0 j.0 c.0) c.1) line e in
    let j = bind_some (first_by number_in i.0.1) (λ j. first_by cost_in j.1 >>= λ c. at_end (assign_line i.0.0 j.0 c.0) c.1) line i.2 in
    let c = bind_some (first_by cost_in j.0.1) (λ c. at_end (assign_line i.0.0 j.0.0 c.0) c.1) line j.2 in
    let wi = first_takes number_in ws i.0 i.1 in
    let wj = first_takes number_in i.0.1 j.0 j.1 in
    let wc = first_takes cost_in j.0.1 c.0 c.1 in
    let z = end_takes (assign_line i.0.0 j.0.0 c.0.0) line c.0.1 c.2 in
    let ti = within_takes MOST_PERSONS wi.0 i.0.0 wi.2 in
    let tj = within_takes MOST_PERSONS wj.0 j.0.0 wj.2 in
    let tc = cost_takes wc.0 c.0.0 wc.2 in
    subst (IsWritten (codes "assign") ws) z.1 (
      three_written (codes "assign") ws i.0.1 j.0.1 c.0.1 wi.0 wj.0 wc.0
          (decimal i.0.0) (decimal j.0.0) (signed_decimal c.0.0) wi.1 wj.1 wc.1 z.0 ti.0 tj.0 tc.0,
      (ti.1, tj.1, tc.1),
    )

price_line_takes : (ws : List (List ℕ)) (line : Line) → read_price ws ≡ Some line → IsWritten (codes "price") ws line
unfolding read_price
price_line_takes ws line e =
    let j = bind_some (first_by number_in ws) (λ j. first_by price_in j.1 >>= λ p. at_end (price_line j.0 p.0) p.1) line e in
    let p = bind_some (first_by price_in j.0.1) (λ p. at_end (price_line j.0.0 p.0) p.1) line j.2 in
    let wj = first_takes number_in ws j.0 j.1 in
    let wp = first_takes price_in j.0.1 p.0 p.1 in
    let z = end_takes (price_line j.0.0 p.0.0) line p.0.1 p.2 in
    let tj = within_takes MOST_PERSONS wj.0 j.0.0 wj.2 in
    let tp = price_takes wp.0 p.0.0 wp.2 in
    let price : price_line j.0.0 (pos tp.0) ≡ line = ap (price_line j.0.0) (sym tp.1) ∙ z.1 in
    subst (IsWritten (codes "price") ws) price (
      two_written (codes "price") ws j.0.1 p.0.1 wj.0 wp.0 (decimal j.0.0)
          (decimal tp.0) wj.1 wp.1 z.0 tj.0 tp.2,
      (tj.1, tp.3),
    )

infeasible_takes : (ws : List (List ℕ)) (line : Line) → read_infeasible ws ≡ Some line → IsWritten (codes "infeasible") ws line
unfolding read_infeasible
infeasible_takes ws line e = let z = end_takes infeasible_line line ws e in
    subst (IsWritten (codes "infeasible") ws) z.1 (ap (λ (r : List (List ℕ)). codes "infeasible" ∷ r) (sym z.0), tt)

rising_takes : (last : ℕ) (ws : List (List ℕ)) (xs : List ℕ) → read_rising last ws ≡ Some xs → (ws ≡ map decimal xs) × (is_rising last xs ≡ true)
unfolding read_rising
rising_takes last [] xs e = let is : [] ≡ xs = cc in subst (λ ys. ([] ≡ map decimal ys) × (is_rising last ys ≡ true)) is (refl, refl)
rising_takes last (w ∷ ws) xs e =
    let n = bind_some (number_in w) (λ n. cond (ltb last n) (read_rising n ws) None >>= λ ns. Some (n ∷ ns)) xs e in
    let ns = bind_some (cond (ltb last n.0) (read_rising n.0 ws) None) (λ ns. Some (n.0 ∷ ns)) xs n.2 in
    let t = within_takes MOST_PERSONS w n.0 n.1 in
    let c = cond_same (ltb last n.0) (read_rising n.0 ws) ns.0 ns.1 in
    let r = rising_takes n.0 ws ns.0 c.1 in
    let is : n.0 ∷ ns.0 ≡ xs = cc (ns.2) in
    subst (λ ys. (w ∷ ws ≡ map decimal ys) × (is_rising last ys ≡ true)) is
    (pushed w (decimal n.0) ws (map decimal ns.0) t.0 r.0, rising_more last n.0 ns.0 (ltb-true _ _ c.0) t.1 r.1)
  where
    cond_same : (b : Bool) (x : Option (List ℕ)) (y : List ℕ) → cond b x None ≡ Some y → (b ≡ true) × (x ≡ Some y)
    cond_same true x y e = (refl, e)
    cond_same false x y e = absurd cc

list_takes : (ws : List (List ℕ)) (xs : List ℕ) → read_list ws ≡ Some xs → (ws ≡ decimal (length xs) ∷ map decimal xs) × (is_rising 0 xs ≡ true)
unfolding read_list
list_takes ws xs e =
    let n = bind_some (first_by number_in ws) (λ n. read_rising 0 n.1 >>= λ ns. cond (eqb (length ns) n.0) (Some ns) None) xs e in
    let ns = bind_some (read_rising 0 n.0.1) (λ ns. cond (eqb (length ns) n.0.0) (Some ns) None) xs n.2 in
    let w = first_takes number_in ws n.0 n.1 in
    let t = within_takes MOST_PERSONS w.0 n.0.0 w.2 in
    let r = rising_takes 0 n.0.1 ns.0 ns.1 in
    let c = cond_some (eqb (length ns.0) n.0.0) ns.0 xs ns.2 in
    let count = eqb-true (length ns.0) n.0.0 c.0 in
    subst (λ ys. (ws ≡ decimal (length ys) ∷ map decimal ys) × (is_rising 0 ys ≡ true)) c.1 (
      listed ws n.0.1 w.0 (decimal n.0.0) (decimal (length ns.0)) (map decimal ns.0) w.1 t.0 (ap decimal count)
          r.0,
      r.1,
    )

-- a line with a list after its name
list_line_takes : (made : List ℕ → Line) (name : List ℕ) →
    ((xs : List ℕ) → line_words (made xs) ≡ name ∷ decimal (length xs) ∷ map decimal xs) →
    ((xs : List ℕ) → is_rising 0 xs ≡ true → IsInRange (made xs))
    → (ws : List (List ℕ)) (line : Line) → (read_list ws >>= λ xs. Some (made xs)) ≡ Some line → IsWritten name ws line
list_line_takes made name words range ws line e =
    let xs = bind_some (read_list ws) (λ xs. Some (made xs)) line e in
    let t = list_takes ws xs.0 xs.1 in
    let is : made xs.0 ≡ line = cc (xs.2) in
    subst (IsWritten name ws) is (words xs.0 ∙ ap (λ (r : List (List ℕ)). name ∷ r) (sym t.0), range xs.0 t.1)

persons_takes : (ws : List (List ℕ)) (line : Line) → (read_list ws >>= λ xs. Some (persons_line xs)) ≡ Some line → IsWritten (codes "persons") ws line
persons_takes ws line e = list_line_takes persons_line (codes "persons") (λ xs. refl) (λ xs h. h) ws line e

objects_takes : (ws : List (List ℕ)) (line : Line) → (read_list ws >>= λ xs. Some (objects_line xs)) ≡ Some line → IsWritten (codes "objects") ws line
objects_takes ws line e = list_line_takes objects_line (codes "objects") (λ xs. refl) (λ xs h. h) ws line e

picked : {R : Type 0} (b : Bool) (x y : Option Line) (line : Line) → cond b x y ≡ Some line → (b ≡ true → x ≡ Some line → R) → (y ≡ Some line → R) → R
picked true x y line e f g = f refl e
picked false x y line e f g = g e

at_word : (word given : List ℕ) (ws : List (List ℕ)) (line : Line) → bytes_eq word given ≡ true → IsWritten given ws line → IsWritten word ws line
at_word word given ws line t w = subst (λ g. IsWritten g ws line) (sym ((bytes_eq-Decides word given).0 t)) w

abbrev from_objects : List ℕ → List (List ℕ) → Option Line
from_objects w ws = cond (bytes_eq w (codes "objects")) (read_list ws >>= λ xs. Some (objects_line xs)) None

abbrev from_persons : List ℕ → List (List ℕ) → Option Line
from_persons w ws = cond (bytes_eq w (codes "persons")) (read_list ws >>= λ xs. Some (persons_line xs)) (from_objects w ws)

abbrev from_infeasible : List ℕ → List (List ℕ) → Option Line
from_infeasible w ws = cond (bytes_eq w (codes "infeasible")) (read_infeasible ws) (from_persons w ws)

abbrev from_price : List ℕ → List (List ℕ) → Option Line
from_price w ws = cond (bytes_eq w (codes "price")) (read_price ws) (from_infeasible w ws)

abbrev from_assign : List ℕ → List (List ℕ) → Option Line
from_assign w ws = cond (bytes_eq w (codes "assign")) (read_assign ws) (from_price w ws)

abbrev from_cost : List ℕ → List (List ℕ) → Option Line
from_cost w ws = cond (bytes_eq w (codes "cost")) (read_cost ws) (from_assign w ws)

behind_takes : (w : List ℕ) (ws : List (List ℕ)) (line : Line) → read_behind w ws ≡ Some line → IsWritten w ws line
behind_takes w ws line e =
    picked (bytes_eq w (codes "sense")) (read_sense ws) (from_cost w ws) line e (λ t r. at_word w (codes "sense") ws line t (sense_takes ws line r)) (λ e.
    picked (bytes_eq w (codes "cost")) (read_cost ws) (from_assign w ws) line e (λ t r. at_word w (codes "cost") ws line t (cost_line_takes ws line r)) (λ e.
    picked (bytes_eq w (codes "assign")) (read_assign ws) (from_price w ws) line e (λ t r. at_word w (codes "assign") ws line t (assign_takes ws line r)) (λ e.
    picked (bytes_eq w (codes "price")) (read_price ws) (from_infeasible w ws) line e
    (λ t r. at_word w (codes "price") ws line t (price_line_takes ws line r)) (λ e.
    picked (bytes_eq w (codes "infeasible")) (read_infeasible ws) (from_persons w ws) line e
    (λ t r. at_word w (codes "infeasible") ws line t (infeasible_takes ws line r)) (λ e.
    picked (bytes_eq w (codes "persons")) (read_list ws >>= λ xs. Some (persons_line xs)) (from_objects w ws) line e
    (λ t r. at_word w (codes "persons") ws line t (persons_takes ws line r)) (λ e.
    picked (bytes_eq w (codes "objects")) (read_list ws >>= λ xs. Some (objects_line xs)) None line e
    (λ t r. at_word w (codes "objects") ws line t (objects_takes ws line r)) (λ e. absurd cc)))))))

words_take : (ws : List (List ℕ)) (line : Line) → read_words ws ≡ Some line → (line_words line ≡ ws) × IsInRange line
words_take [] line e = absurd cc
words_take (w ∷ ws) line e = behind_takes w ws line e

pub line_takes : (bytes : List ℕ) (line : Line) → line_in bytes ≡ Some line → (line_text line ≡ bytes) × IsInRange line
unfolding line_in
line_takes bytes line e =
    let t = words_take (words_of bytes) line e in
    (ap joined t.0 ∙ joined-words_of bytes, t.1)
