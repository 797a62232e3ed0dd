use Rattle.std.proofs.Common.{◌≡◌, ◌-◌, ap, arith, map, sym, subst, ◌∙◌}
use Rattle.assign_core.specs.Rows.{IsRising, listed_in}
use Rattle.assign_core.proofs.RowLemmas.{IsRow-row_of, read_at}
use Rattle.assign_core.proofs.problem.Problem.cost_of.Goals as goal

pub find-requires : goal.find-requires
find-requires c =
    let lookup = c.in_ok-row.ensures.lookup in
    let before = c.in_ok-place.ensures in
    let number = c.person.view_is in
    let place : c.in_ok-place.place ≡ c.args.person - 1 = omega arith in
    let read = read_at (λ r. r.items) c.deref.result.now c.args.self.now c.args.person c.in_ok-place.place
    c.in_ok-row.row.now c.as_slice.result.now (ap (map (λ r. r.items)) c.deref.ensures.value ∙ c.self.view_is)
    (omega arith) place lookup.3.0 lookup.1 c.as_slice.ensures.value in
    subst IsRising (sym read.here) (IsRow-row_of _ c.args.self.now c.args.person (rw c.self.view_is at c.self.invariant.each) read.first read.last).rising

pub returns : goal.returns
returns c =
    let lookup = c.in_ok-row.ensures.lookup in
    let before = c.in_ok-place.ensures in
    let number = c.person.view_is in
    let place : c.in_ok-place.place ≡ c.args.person - 1 = omega arith in
    let read = read_at (λ r. r.items) c.deref.result.now c.args.self.now c.args.person c.in_ok-place.place
    c.in_ok-row.row.now c.as_slice.result.now (ap (map (λ r. r.items)) c.deref.ensures.value ∙ c.self.view_is)
    (omega arith) place lookup.3.0 lookup.1 c.as_slice.ensures.value in
    c.find.ensures ∙ ap (λ r. listed_in r c.args.object) read.here
