use Rattle.std.proofs.Common.{pos, false, below_more, get_or, inl, inr, rules, sym, ◌∙◌, SFits, w32, w64}
use mathlib.Core.Bool.{true≢false}
use Rattle.std.proofs.lemmas.Int.{to_z-of_z}
use Rattle.assign_core.proofs.NumberedLemmas.{numbered-next}
use Rattle.plan_checker.specs.inside.Rises.{IsFreeAt}
use Rattle.plan_checker.proofs.free.are_free.Goals as goal

pub returns-then-not-is_free : goal.returns-then-not-is_free
returns-then-not-is_free c =
    let p = c.args.plan in
    let owned = c.args.owned.now in
    let j = c.loop-j.j in
    let a : SFits w64 (get_or p.prices.now j (pos 0)) = search rules in
    let b : SFits w32 (get_or p.ranks.now j (pos 0)) = search rules in
    let d : SFits w64 p.bound = search rules in
    let both = simp to_z-of_z at c.is_free.ensures.free in
    let low = simp to_z-of_z at c.is_low-low.ensures in (
      (λ e. absurd (true≢false (sym e))),
      (λ all.
          let here : IsFreeAt owned p j = all j c.loop-j-test.true in
          absurd (true≢false (sym (both.1 (
            elim here.unowned [ inl marked ↦ inl (sym (numbered-next owned j false) ∙ marked) | inr zero ↦ inr zero ],
            c.is_unpriced-unpriced.ensures.1 (elim here.unpriced [ inl marked ↦ inl (sym (numbered-next owned j false) ∙ marked) | inr zero ↦ inr zero ]),
            (λ yes. let l = low.0 yes in here.free l.0 l.1),
          )) ∙ c.if-not-is_free.true))),
    )

pub loop-j-preserved : goal.loop-j-preserved
loop-j-preserved c =
    let p = c.args.plan in
    let j = c.loop-j.j in
    let a : SFits w64 (get_or p.prices.now j (pos 0)) = search rules in
    let b : SFits w32 (get_or p.ranks.now j (pos 0)) = search rules in
    let d : SFits w64 p.bound = search rules in
    let in_range = simp to_z-of_z at c.is_free.ensures.in_range in
    let both = simp to_z-of_z at c.is_free.ensures.free in
    let here = both.0 c.if-not-is_free.false in
    let low = simp to_z-of_z at c.is_low-low.ensures in
    let at : IsFreeAt c.args.owned.now p j = record {
      in_range = in_range;
      unowned = elim here.0 [ inl owned ↦ inl (numbered-next c.args.owned.now j false ∙ owned) | inr zero ↦ inr zero ];
      unpriced = elim (c.is_unpriced-unpriced.ensures.0 here.1) [ inl owned ↦ inl (numbered-next c.args.owned.now j false ∙ owned) | inr zero ↦ inr zero ];
      free = λ below stays. here.2 (low.1 (below, stays));
    } in
    below_more _ _ c.loop-j.invariant at
