use Rattle.std.proofs.Common.{[], Option, Some, sym, subst, rules, SFits}
use Rattle.std.specs.Int.{w64}
use Rattle.std.proofs.lemmas.Int.{to_z-of_z}
use Rattle.candidates.specs.declared.mark.Mark.{Mark}
use Rattle.candidates.specs.inside.Reading.{IsReading}
use Rattle.candidates.proofs.Reading.{reading_none}
use Rattle.candidates.proofs.list.Candidates.restart.Goals as goal

pub returns : goal.returns
returns c = λ narrow.
    let h : SFits w64 c.limit_of.result = search rules in
    let f : SFits w64 c.saturating_sub.result = search rules in
    let bound : Option Mark = Some record { value = c.saturating_sub.result; object = 0 } in
    simp to_z-of_z (subst (λ l. IsReading [] narrow record { objects = l; bound = bound } c.limit_of.result) (sym c.clear.ensures.items)
    (reading_none narrow bound c.limit_of.result (simp to_z-of_z at c.limit_of.ensures)))
