-- Walks without repeated vertices, and the turn of a closed one: each of its vertices goes to the
-- next, and all others stay.
use Rattle.std.proofs.Common.{◌≡◌, ◌≢◌, ℕ, ℤ, List, [], ◌∷◌, nat_eq, cond, true, false, ◌⊎◌, inl, inr, refl, arith, sym, subst, ◌∙◌}
use Rattle.std.specs.List.{Contains, IsDistinct}
use Rattle.std.proofs.lemmas.Bool.{cond-true, cond-false, eqb-false}
use Rattle.std.proofs.lemmas.Bool.Decides.{eqb_tells}
use Rattle.std.proofs.lemmas.Map.Keys.{IsDistinct-cons, IsDistinct-from_apart, IsDistinct-head, IsDistinct-tail}
use Rattle.assign_core.proofs.Members.{contains_first, contains_later, first_or_later}
use Rattle.cost_lists.specs.ListedCosts.{ListedCosts}
use Rattle.plan_checker.proofs.Covered.{IsWithout, held}
use Rattle.group_checker.specs.Groups.{IsArrow, Leads}
use Rattle.group_checker.proofs.Sums.{without_not}

-- the first of some vertices, or z
abbrev first : List ℕ → ℕ → ℕ
first [] z = z
first (v ∷ vs) z = v

-- the vertex after y among some vertices, of which z comes after the last; y itself if it isn't among them
abbrev pub after : List ℕ → ℕ → ℕ → ℕ
after [] z y = y
after (v ∷ vs) z y = cond (nat_eq y v) (first vs z) (after vs z y)

at_here : (v : ℕ) (vs : List ℕ) (z y : ℕ) → nat_eq y v ≡ true → after (v ∷ vs) z y ≡ first vs z
at_here v vs z y e = cond-true (nat_eq y v) (first vs z) (after vs z y) e

at_later : (v : ℕ) (vs : List ℕ) (z y : ℕ) → nat_eq y v ≡ false → after (v ∷ vs) z y ≡ after vs z y
at_later v vs z y e = cond-false (nat_eq y v) (first vs z) (after vs z y) e

not_first_of : (a : ℕ) (vs : List ℕ) (z : ℕ) → IsWithout a vs → z ≢ a → first vs z ≢ a
not_first_of a [] z none other e = other e
not_first_of a (v ∷ vs) z none other e = eqb-false a v none.0 (sym e)

not_among : (a : ℕ) (vs : List ℕ) (z y : ℕ) → IsWithout a vs → z ≢ a → y ≢ a → after vs z y ≢ a
not_among a [] z y none other here e = here e
not_among a (v ∷ vs) z y none other here e = elim (eqb_tells y v) [
  | inl t ↦ not_first_of a vs z none.1 other (sym (at_here v vs z y t.0) ∙ e)
  | inr t ↦ not_among a vs z y none.1 other here (sym (at_later v vs z y t.0) ∙ e)
]

-- none but z goes to the first one
not_to_first : (vs : List ℕ) (z y : ℕ) → IsDistinct nat_eq vs → IsWithout z vs → y ≢ z → after vs z y ≢ first vs z
not_to_first [] z y apart none other e = other e
not_to_first (v ∷ vs) z y apart none other e =
    let rest = IsDistinct-head nat_eq v vs apart in
    let last : z ≢ v = λ h. eqb-false z v none.0 h in
    elim (eqb_tells y v) [
      | inl t ↦ not_first_of v vs z rest last (sym (at_here v vs z y t.0) ∙ e)
      | inr t ↦ not_among v vs z y rest last t.1 (sym (at_later v vs z y t.0) ∙ e)
    ]

apart_after : (vs : List ℕ) (z x y : ℕ) → IsDistinct nat_eq vs → IsWithout z vs → x ≢ z → y ≢ z → after vs z x ≡ after vs z y → x ≡ y
apart_after [] z x y apart none a b e = e
apart_after (v ∷ vs) z x y apart none a b e =
    let tail = IsDistinct-tail nat_eq v vs apart in
    elim (eqb_tells x v) [
      | inl t ↦ elim (eqb_tells y v) [
        | inl u ↦ t.1 ∙ sym u.1
        | inr u ↦ absurd (not_to_first vs z y tail none.1 b (sym (at_later v vs z y u.0) ∙ sym e ∙ at_here v vs z x t.0))
      ]
      | inr t ↦ elim (eqb_tells y v) [
        | inl u ↦ absurd (not_to_first vs z x tail none.1 a (sym (at_later v vs z x t.0) ∙ e ∙ at_here v vs z y u.0))
        | inr u ↦ apart_after vs z x y tail none.1 a b (sym (at_later v vs z x t.0) ∙ e ∙ at_later v vs z y u.0)
      ]
    ]

-- a turn moves no two vertices to one
pub turn_apart : (v : ℕ) (vs : List ℕ) (x y : ℕ) → IsDistinct nat_eq (v ∷ vs) → after (v ∷ vs) v x ≡ after (v ∷ vs) v y → x ≡ y
turn_apart v vs x y apart e =
    let tail = IsDistinct-tail nat_eq v vs apart in
    let none = IsDistinct-head nat_eq v vs apart in
    elim (eqb_tells x v) [
      | inl t ↦ elim (eqb_tells y v) [
        | inl u ↦ t.1 ∙ sym u.1
        | inr u ↦ absurd (not_to_first vs v y tail none u.1 (sym (at_later v vs v y u.0) ∙ sym e ∙ at_here v vs v x t.0))
      ]
      | inr t ↦ elim (eqb_tells y v) [
        | inl u ↦ absurd (not_to_first vs v x tail none t.1 (sym (at_later v vs v x t.0) ∙ e ∙ at_here v vs v y u.0))
        | inr u ↦ apart_after vs v x y tail none t.1 u.1 (sym (at_later v vs v x t.0) ∙ e ∙ at_later v vs v y u.0)
      ]
    ]

pub stays_put : (vs : List ℕ) (z y : ℕ) → IsWithout y vs → after vs z y ≡ y
stays_put [] z y none = refl
stays_put (v ∷ vs) z y none = at_later v vs z y none.0 ∙ stays_put vs z y none.1

-- each vertex but the first, and z, comes after one of them
pub comes_after : (v : ℕ) (vs : List ℕ) (z t : ℕ) → IsDistinct nat_eq (v ∷ vs) → Contains vs t ⊎ (t ≡ z) →
    (y : ℕ) × Contains (v ∷ vs) y × (after (v ∷ vs) z y ≡ t)
comes_after v [] z t apart (inl c) = absurd (omega (arith, c.1))
comes_after v [] z t apart (inr e) = (v, contains_first v [], at_here v [] z v (elim (eqb_tells v v) [ inl s ↦ s.0 | inr s ↦ absurd (s.1 refl) ]) ∙ sym e)
comes_after v (w ∷ ws) z t apart h = elim (eqb_tells t w) [
  | inl s ↦ (v, contains_first v (w ∷ ws), at_here v (w ∷ ws) z v (elim (eqb_tells v v) [ inl r ↦ r.0 | inr r ↦ absurd (r.1 refl) ]) ∙ sym s.1)
  | inr s ↦
      let later : Contains ws t ⊎ (t ≡ z) = elim h [
        | inl c ↦ elim (first_or_later w ws t c) [ inl e ↦ absurd (s.1 (sym e)) | inr more ↦ inl more ]
        | inr e ↦ inr e
      ] in
      let r = comes_after w ws z t (IsDistinct-tail nat_eq v (w ∷ ws) apart) later in
      let none = IsDistinct-head nat_eq v (w ∷ ws) apart in
      let other : nat_eq r.0 v ≡ false = elim (eqb_tells r.0 v) [
        | inl u ↦ absurd (without_not v (w ∷ ws) none (subst (Contains (w ∷ ws)) u.1 r.1))
        | inr u ↦ u.0
      ] in
      (r.0, contains_later v (w ∷ ws) r.0 r.1, at_later v (w ∷ ws) z r.0 other ∙ r.2)
]

module _ (l : ListedCosts) (xs : List ℕ) (prices : List ℤ) where
  -- arrows lead to x over different vertices
  pub record IsPath (u x : ℕ) : Type 0 where
    pub path : List ℕ
    pub leads : Leads l xs prices u path x
    pub apart : IsDistinct nat_eq (u ∷ path)

  from_vertex : (u w : ℕ) (ws : List ℕ) (x : ℕ) → Contains (w ∷ ws) u → Leads l xs prices w ws x → IsDistinct nat_eq (w ∷ ws) → IsPath u x
  from_vertex u w [] x c leads apart = elim (first_or_later w [] u c) [
    | inl e ↦ subst (λ k. IsPath k x) e (record { path = []; leads = leads; apart = apart })
    | inr later ↦ absurd (omega (arith, later.1))
  ]
  from_vertex u w (v ∷ vs) x c leads apart = elim (first_or_later w (v ∷ vs) u c) [
    | inl e ↦ subst (λ k. IsPath k x) e (record { path = v ∷ vs; leads = leads; apart = apart })
    | inr later ↦ from_vertex u v vs x later leads.1 (IsDistinct-tail nat_eq w (v ∷ vs) apart)
  ]

  -- a walk becomes one without repeated vertices
  pub path_of : (u : ℕ) (ws : List ℕ) (x : ℕ) → Leads l xs prices u ws x → IsPath u x
  path_of u [] x e = record { path = []; leads = e; apart = IsDistinct-from_apart nat_eq (u ∷ []) (λ i j d lt within. absurd (omega arith)) }
  path_of u (w ∷ ws) x leads =
      let rest = path_of w ws x leads.1 in
      elim (held u (w ∷ rest.path)) [
        | inl c ↦ from_vertex u w rest.path x c rest.leads rest.apart
        | inr none ↦ record { path = w ∷ rest.path; leads = (leads.0, rest.leads); apart = IsDistinct-cons nat_eq u (w ∷ rest.path) none rest.apart }
      ]

  -- where the last vertex has an arrow to z, each goes along an arrow
  pub goes : (v : ℕ) (vs : List ℕ) (x z : ℕ) → Leads l xs prices v vs x → IsArrow l xs prices x z → (y : ℕ) → Contains (v ∷ vs) y →
      IsArrow l xs prices y (after (v ∷ vs) z y)
  goes v [] x z leads close y c = elim (first_or_later v [] y c) [
    | inl e ↦
        let here : nat_eq y v ≡ true = elim (eqb_tells y v) [ inl t ↦ t.0 | inr t ↦ absurd (t.1 (sym e)) ] in
        subst (IsArrow l xs prices y) (sym (at_here v [] z y here)) (subst (λ k. IsArrow l xs prices k z) (sym leads ∙ e) close)
    | inr later ↦ absurd (omega (arith, later.1))
  ]
  goes v (w ∷ ws) x z leads close y c = elim (eqb_tells y v) [
    | inl t ↦ subst (IsArrow l xs prices y) (sym (at_here v (w ∷ ws) z y t.0)) (subst (λ k. IsArrow l xs prices k w) (sym t.1) leads.0)
    | inr t ↦ elim (first_or_later v (w ∷ ws) y c) [
      | inl e ↦ absurd (t.1 (sym e))
      | inr later ↦ subst (IsArrow l xs prices y) (sym (at_later v (w ∷ ws) z y t.0)) (goes w ws x z leads.1 close y later)
    ]
  ]

  ends : (v : ℕ) (vs : List ℕ) (x : ℕ) → Leads l xs prices v vs x → Contains (v ∷ vs) x
  ends v [] x leads = subst (Contains (v ∷ [])) leads (contains_first v [])
  ends v (w ∷ ws) x leads = contains_later v (w ∷ ws) x (ends w ws x leads.1)

  -- the last vertex goes to z
  pub last_goes : (v : ℕ) (vs : List ℕ) (x z : ℕ) → Leads l xs prices v vs x → IsDistinct nat_eq (v ∷ vs) → after (v ∷ vs) z x ≡ z
  last_goes v [] x z leads apart = at_here v [] z x (elim (eqb_tells x v) [ inl t ↦ t.0 | inr t ↦ absurd (t.1 (sym leads)) ])
  last_goes v (w ∷ ws) x z leads apart = elim (eqb_tells x v) [
    | inl t ↦ absurd (without_not v (w ∷ ws) (IsDistinct-head nat_eq v (w ∷ ws) apart) (subst (Contains (w ∷ ws)) t.1 (ends w ws x leads.1)))
    | inr t ↦ at_later v (w ∷ ws) z x t.0 ∙ last_goes w ws x z leads.1 (IsDistinct-tail nat_eq v (w ∷ ws) apart)
  ]
