use Rattle.std.proofs.Common.{rules, ◌≡◌, ◌+◌, ◌*◌, true, false, ap, sym, ◌∙◌, SFits, w64}
use Rattle.std.proofs.lemmas.Int.{to_z-of_z}
use Rattle.row_checker.specs.Trees.{is_named, number_at}
use Rattle.row_checker.proofs.Named.{unnamed_here, unnamed_more}
use Rattle.row_checker.proofs.numbers.first_unnamed.Goals as goal

pub returns-then-not-is_named : goal.returns-then-not-is_named
returns-then-not-is_named c =
    let f : SFits w64 c.number_at.result = search rules in
    let e : c.is_named.result ≡ is_named c.number_at.result c.args.limit = simp to_z-of_z at c.is_named.ensures in
    let named : is_named (number_at c.args.numbers.now (c.args.from + 2 * c.loop-i.i)) c.args.limit ≡ false =
    ap (λ z. is_named z c.args.limit) (sym c.number_at.ensures) ∙ sym e ∙ c.if-not-is_named.true in
    unnamed_here c.args.numbers.now c.args.from c.args.pairs c.args.limit c.loop-i.i c.loop-i-test.true named ∙ c.loop-i.invariant

pub loop-i-preserved : goal.loop-i-preserved
loop-i-preserved c =
    let f : SFits w64 c.number_at.result = search rules in
    let e : c.is_named.result ≡ is_named c.number_at.result c.args.limit = simp to_z-of_z at c.is_named.ensures in
    let named : is_named (number_at c.args.numbers.now (c.args.from + 2 * c.loop-i.i)) c.args.limit ≡ true =
    ap (λ z. is_named z c.args.limit) (sym c.number_at.ensures) ∙ sym e ∙ c.if-not-is_named.false in
    unnamed_more c.args.numbers.now c.args.from c.args.pairs c.args.limit c.loop-i.i c.loop-i-test.true named ∙ c.loop-i.invariant
