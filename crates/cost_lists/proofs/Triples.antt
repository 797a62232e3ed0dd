-- Three lists as triples, by place.
use Rattle.std.proofs.Common.{◌≡◌, ℕ, ℤ, pos, ◌<◌, zero, suc, List, [], ◌∷◌, length, get_or, refl, arith, ap, sym, subst, ◌∙◌}
use Rattle.std.specs.List.{All, Contains}
use Rattle.assign_core.specs.Numbered.{IsNumber}
use Rattle.assign_core.specs.Rows.{IsCost}
use Rattle.assign_core.specs.Sparse.{Triple, IsTripleAmong}
use Rattle.cost_lists.specs.Given.{triples_of}

-- the triple at a place
abbrev pub triple_at : List ℕ → List ℕ → List ℤ → ℕ → Triple
triple_at persons objects costs q = (get_or persons q 0, get_or objects q 0, get_or costs q (pos 0))

pub length-triples : (persons objects : List ℕ) (costs : List ℤ) → length objects ≡ length persons → length costs ≡ length persons →
    length (triples_of persons objects costs) ≡ length persons
length-triples [] objects costs e f = refl
length-triples (i ∷ persons) [] costs e f = absurd (omega (arith, e))
length-triples (i ∷ persons) (j ∷ objects) [] e f = absurd (omega (arith, f))
length-triples (i ∷ persons) (j ∷ objects) (c ∷ costs) e f = ap suc (length-triples persons objects costs (omega (arith, e)) (omega (arith, f)))

pub triples-index : (persons objects : List ℕ) (costs : List ℤ) (q : ℕ) (d : Triple) → length objects ≡ length persons → length costs ≡ length persons →
    q < length persons → get_or (triples_of persons objects costs) q d ≡ triple_at persons objects costs q
triples-index [] objects costs q d e f lt = absurd (omega arith)
triples-index (i ∷ persons) [] costs q d e f lt = absurd (omega (arith, e))
triples-index (i ∷ persons) (j ∷ objects) [] q d e f lt = absurd (omega (arith, f))
triples-index (i ∷ persons) (j ∷ objects) (c ∷ costs) zero d e f lt = refl
triples-index (i ∷ persons) (j ∷ objects) (c ∷ costs) (suc q) d e f lt =
    triples-index persons objects costs q d (omega (arith, e)) (omega (arith, f)) (omega arith)

-- where a triple stands
pub record IsAtPlace (persons objects : List ℕ) (costs : List ℤ) (i j : ℕ) (c : ℤ) : Type 0 where
  pub place : ℕ
  pub below : place < length persons
  pub person : get_or persons place 0 ≡ i
  pub object : get_or objects place 0 ≡ j
  pub cost : get_or costs place (pos 0) ≡ c

module _ (persons objects : List ℕ) (costs : List ℤ) (e : length objects ≡ length persons) (f : length costs ≡ length persons) where
  pub place_of_triple : (i j : ℕ) (c : ℤ) → Contains (triples_of persons objects costs) (i, j, c) → IsAtPlace persons objects costs i j c
  place_of_triple i j c h =
      let long = length-triples persons objects costs e f in
      let below = h.1 in
      let lt : h.0 < length persons = omega arith in
      let at = sym (triples-index persons objects costs h.0 (i, j, c) e f lt) ∙ h.2 in
      record { place = h.0; below = lt; person = ap (λ (t : Triple). t.0) at; object = ap (λ (t : Triple). t.1) at; cost = ap (λ (t : Triple). t.2) at }

  pub triple_contained : (q : ℕ) → q < length persons → Contains (triples_of persons objects costs) (triple_at persons objects costs q)
  triple_contained q lt =
      let long = length-triples persons objects costs e f in
      (q, omega arith, triples-index persons objects costs q (triple_at persons objects costs q) e f lt)

  pub triple_numbers : (n m : ℕ) → All (IsNumber n) persons → All (IsNumber m) objects → (i j : ℕ) (c : ℤ) →
      Contains (triples_of persons objects costs) (i, j, c) → IsNumber n i × IsNumber m j
  triple_numbers n m p o i j c h =
      let t = place_of_triple i j c h in
      let lt = t.below in
      (subst (IsNumber n) t.person (p t.place 0 lt), subst (IsNumber m) t.object (o t.place 0 (omega (arith, e))))

  pub triple_cost : (IsIn : ℤ → Type 0) → All IsIn costs → (i j : ℕ) (c : ℤ) → Contains (triples_of persons objects costs) (i, j, c) → IsIn c
  triple_cost IsIn each i j c h =
      let t = place_of_triple i j c h in
      let lt = t.below in
      subst IsIn t.cost (each t.place (pos 0) (omega (arith, f)))

  pub triples_among : (n m : ℕ) → All (IsNumber n) persons → All (IsNumber m) objects → All IsCost costs →
      All (IsTripleAmong n m) (triples_of persons objects costs)
  triples_among n m p o c q d lt =
      let long = length-triples persons objects costs e f in
      let below : q < length persons = omega arith in
      rw (triples-index persons objects costs q d e f below)
      (record { person = p q 0 below; object = o q 0 (omega (arith, e)); cost = c q (pos 0) (omega (arith, f)) })
