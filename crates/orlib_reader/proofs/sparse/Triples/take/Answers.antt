use Rattle.std.proofs.Common.{refl, rules, to_z-of_z, SFits, w64}
use Rattle.std.proofs.lemmas.Result.{err_from_is_err_and}
use Rattle.orlib_reader.specs.Wanted as wanted
use Rattle.orlib_reader.specs.declared.sparse.Begun.TheVariants as begun
use Rattle.orlib_reader.specs.declared.layout.Layout.TheVariants.{Sparse}
use Rattle.orlib_reader.proofs.Gathered.{sparse_wanted, object_taken, cost_taken, triple_kept}
use Rattle.orlib_reader.proofs.Taking.{refused, taken}
use Rattle.orlib_reader.proofs.sparse.Triples.take.Goals as goal

pub returns-in_err-person-in-Nothing-clause-found : goal.returns-in_err-person-in-Nothing-clause-found
returns-in_err-person-in-Nothing-clause-found c =
    let passed = err_from_is_err_and c.from_residual.result c.from_residual.ensures.1 in
    let wants = sparse_wanted _ _ c.self.inside.begun begun.Nothing _ c.in-Nothing.is c.self.view_is in
    rw (passed.1, passed.2) (refused Sparse c.args.self.now c.args.token (wanted.Index c.self.inside.n)
    c.in_err-person-in-Nothing.field-0.0 wants c.in_err-person-in-Nothing.ensures.gives)

pub returns-in_err-object-in-Person-clause-found : goal.returns-in_err-object-in-Person-clause-found
returns-in_err-object-in-Person-clause-found c =
    let passed = err_from_is_err_and c.from_residual-in_err-object-in-Person.result c.from_residual-in_err-object-in-Person.ensures.1 in
    let wants = sparse_wanted _ _ c.self.inside.begun (begun.Person c.in-Person.person) _ c.in-Person.is c.self.view_is in
    rw (passed.1, passed.2) (refused Sparse c.args.self.now c.args.token (wanted.Index c.self.inside.n)
    c.in_err-object-in-Person.field-0.0 wants c.in_err-object-in-Person.ensures.gives)

pub returns-in_err-cost-in-Pair-clause-found : goal.returns-in_err-cost-in-Pair-clause-found
returns-in_err-cost-in-Pair-clause-found c =
    let passed = err_from_is_err_and c.from_residual-in_err-cost-in-Pair.result c.from_residual-in_err-cost-in-Pair.ensures.1 in
    let wants = sparse_wanted _ _ c.self.inside.begun (begun.Pair c.in-Pair.person c.in-Pair.object) _ c.in-Pair.is c.self.view_is in
    rw (passed.1, passed.2) (refused Sparse c.args.self.now c.args.token wanted.Cost c.in_err-cost-in-Pair.field-0.0 wants c.in_err-cost-in-Pair.ensures.gives)

pub invariant_of-self-in-Pair : goal.invariant_of-self-in-Pair
invariant_of-self-in-Pair c =
    let fits : SFits w64 c.in_ok-cost-in-Pair.field-0 = search rules in
    triple_kept _ _ _ _ _ c.self.inside.begun c.in-Pair.person c.in-Pair.object c.in_ok-cost-in-Pair.field-0
    c.self.invariant c.in-Pair.is c.in_ok-cost-in-Pair.ensures.range c.in_ok-add_triple-in-Pair.ensures.full
    (rw c.in_ok-add_triple-in-Pair.ensures.ok (simp to_z-of_z refl))

pub returns-in_ok-object-in-Person-clause-found : goal.returns-in_ok-object-in-Person-clause-found
returns-in_ok-object-in-Person-clause-found c =
    let wants = sparse_wanted _ _ c.self.inside.begun (begun.Person c.in-Person.person) _ c.in-Person.is c.self.view_is in
    taken Sparse c.args.self.now _ c.args.token (wanted.Index c.self.inside.n)
    _ wants c.in_ok-object-in-Person.ensures.gives (object_taken _ _ c.self.inside.begun c.in-Person.person
    c.in_ok-object-in-Person.object _ c.in-Person.is c.self.view_is)

pub returns-in_ok-add_triple-in-Pair-clause-found : goal.returns-in_ok-add_triple-in-Pair-clause-found
returns-in_ok-add_triple-in-Pair-clause-found c =
    let fits : SFits w64 c.in_ok-cost-in-Pair.field-0 = search rules in
    let wants = sparse_wanted _ _ c.self.inside.begun (begun.Pair c.in-Pair.person c.in-Pair.object) _ c.in-Pair.is c.self.view_is in
    taken Sparse c.args.self.now _ c.args.token wanted.Cost c.in_ok-cost-in-Pair.field-0 wants c.in_ok-cost-in-Pair.ensures.gives
    (cost_taken _ _ _ c.self.inside.begun c.in-Pair.person c.in-Pair.object c.in_ok-cost-in-Pair.field-0 _
    c.in-Pair.is c.self.view_is (rw c.in_ok-add_triple-in-Pair.ensures.ok (simp to_z-of_z refl)))
