use Rattle.std.proofs.Common.{◌∙◌, refl, arith, sym, subst}
use Rattle.std.proofs.lemmas.Result.{err_from_is_err_and}
use Rattle.orlib_reader.specs.inside.Held.{found_in, layout_in}
use Rattle.orlib_reader.specs.inside.Steps.{Begins}
use Rattle.orlib_reader.proofs.Runs.{begins, ended, ended_badly, one_more}
use Rattle.orlib_reader.proofs.machine.Machine.feed_token.Goals as goal

pub returns-in_err-take-clause-fault : goal.returns-in_err-take-clause-fault
returns-in_err-take-clause-fault c =
    let passed = err_from_is_err_and c.from_residual.result c.from_residual.ensures.1 in
    let start = subst (λ s. Begins s c.args.bytes.now) (sym c.self.view_is) c.requires in
    let run = c.go_on_by_digits-digits.ensures.after in
    let before = begins _ _ _ _ _ _ start c.split_at.ensures.back c.split_at.ensures.back_len c.begin.ensures.token run in
    rw (passed.1, passed.2, sym c.self.view_is)
    (ended_badly _ _ _ _ _ start before c.if-count-bytes.true (sym c.is_white.ensures ∙ c.if-is_white.true) c.in_err-take.ensures.found)

pub invariant_of-self-then-is_white : goal.invariant_of-self-then-is_white
invariant_of-self-then-is_white c =
    let start = subst (λ s. Begins s c.args.bytes.now) (sym c.self.view_is) c.requires in
    let near = start.near in
    let lt = c.if-count-bytes.true in
    let count = c.self.invariant.count in
    let more = one_more (layout_in c.self.inside.pairs) c.go_on_by_digits-digits.result.0
    (found_in c.self.inside.pairs) (found_in c.take.new.self) c.in_ok-take.ensures.found in
    record {
      near = omega (arith, near, lt);
      value = c.self.invariant.value;
      count = omega (arith, count, more);
    }

pub returns-then-is_white-clause-taken : goal.returns-then-is_white-clause-taken
returns-then-is_white-clause-taken c =
    let start = subst (λ s. Begins s c.args.bytes.now) (sym c.self.view_is) c.requires in
    let run = c.go_on_by_digits-digits.ensures.after in
    let before = begins _ _ _ _ _ _ start c.split_at.ensures.back c.split_at.ensures.back_len c.begin.ensures.token run in
    let lt = c.if-count-bytes.true in
    rw (sym c.self.view_is) (record {
      some = omega arith;
      few = omega (arith, lt);
      after_rest = ended _ _ _ _ _ _ start before lt (sym c.is_white.ensures ∙ c.if-is_white.true) c.in_ok-take.ensures.layout c.in_ok-take.ensures.found;
      layout = c.in_ok-take.ensures.layout;
      at = refl;
    })

pub returns-clause-taken : goal.returns-clause-taken
returns-clause-taken c =
    let start = subst (λ s. Begins s c.args.bytes.now) (sym c.self.view_is) c.requires in
    let run = c.go_on_by_digits-digits.ensures.after in
    let long = c.split_at.ensures.back_len in
    let few = c.go_on_by_digits-digits.ensures.count in
    rw (sym c.self.view_is) (record {
      some = omega arith;
      few = omega (arith, long, few);
      after_rest = begins _ _ _ _ _ _ start c.split_at.ensures.back long c.begin.ensures.token run;
      layout = refl;
      at = refl;
    })
