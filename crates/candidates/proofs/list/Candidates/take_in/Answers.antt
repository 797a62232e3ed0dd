use Rattle.std.proofs.Common.{[], ◌∷◌, ◌++◌, Some, length, sym, subst, rules, SFits}
use Rattle.std.specs.Int.{w64}
use Rattle.std.proofs.lemmas.Int.{to_z-of_z}
use Rattle.std.proofs.lemmas.List.Elements.{All-push}
use Rattle.std.specs.List.{All}
use Rattle.assign_core.specs.Numbered.{IsNumber}
use Rattle.assign_core.specs.Benefits.{IsBenefit}
use Rattle.scaled_values.specs.Scaled.{IsBenefitRow}
use Rattle.candidates.specs.Candidates.{AreCandidates}
use Rattle.candidates.specs.inside.Reading.{IsReading}
use Rattle.candidates.proofs.Reading.{pushed, taken_in, limit_after}
use Rattle.candidates.proofs.list.Candidates.take_in.Goals as goal

pub drop_at-requires-clause-within : goal.drop_at-requires-clause-within
drop_at-requires-clause-within c =
    let g = c.ranges.benefit in
    let items = simp to_z-of_z at c.push_reserved.ensures.items in
    let n = length c.args.narrow.now in
    let row = subst (λ l. IsBenefitRow n l.objects) (sym c.self.view_is) c.requires.row in
    subst (All (λ e. IsNumber n e.0)) (sym items)
    (All-push (λ e. IsNumber n e.0) c.self.inside.objects.items (c.args.object, c.args.benefit) row.within c.requires.object)

pub drop_at-requires-clause-benefits : goal.drop_at-requires-clause-benefits
drop_at-requires-clause-benefits c =
    let g = c.ranges.benefit in
    let items = simp to_z-of_z at c.push_reserved.ensures.items in
    let n = length c.args.narrow.now in
    let row = subst (λ l. IsBenefitRow n l.objects) (sym c.self.view_is) c.requires.row in
    subst (All (λ e. IsBenefit e.1)) (sym items)
    (All-push (λ e. IsBenefit e.1) c.self.inside.objects.items (c.args.object, c.args.benefit) row.benefits c.requires.benefit)

pub returns-then-count-lt-MOST_CANDIDATES : goal.returns-then-count-lt-MOST_CANDIDATES
returns-then-count-lt-MOST_CANDIDATES c = λ row rising up is.
    let g = c.ranges.benefit in
    let items = simp to_z-of_z at c.push_reserved.ensures.items in
    let q = c.args.narrow.now in
    let j = c.args.object in
    let a = c.args.benefit in
    let inner = subst (λ l. IsReading row q l c.args.reading.now.limit) (sym c.self.view_is) is in
    subst (λ l. IsReading (row ++ (j, a) ∷ []) q record { objects = l; bound = c.self.inside.bound } c.args.reading.now.limit) (sym items)
    (taken_in row q c.self.inside.objects.items c.self.inside.bound c.args.reading.now.limit j a up inner)

pub returns : goal.returns
returns c = λ row rising up is.
    let g = c.ranges.benefit in
    let h : SFits w64 c.limit_of-reading.result = search rules in
    let items = simp to_z-of_z at c.push_reserved.ensures.items in
    let q = c.args.narrow.now in
    let j = c.args.object in
    let a = c.args.benefit in
    let objects = c.self.inside.objects.items in
    let old = c.self.inside.bound in
    let bound = Some c.drop_at.result in
    let inner = subst (AreCandidates row q) (sym c.self.view_is) is.candidates in
    let more = subst (λ l. AreCandidates (row ++ (j, a) ∷ []) q record { objects = l; bound = old }) (sym items) (pushed row q objects old j a up inner) in
    let told : IsReading (row ++ (j, a) ∷ []) q record { objects = c.drop_at.new.objects.items; bound = bound } c.limit_of-reading.result = record {
      candidates = c.drop_at.ensures.candidates (row ++ (j, a) ∷ []) rising more;
      rest = limit_after row q bound j a c.limit_of-reading.result c.limit_of-reading.ensures;
    } in
    simp to_z-of_z told
