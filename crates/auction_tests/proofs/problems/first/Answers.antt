use Rattle.std.proofs.Common.{◌+◌, ◌++◌, ◌∷◌, [], ap, sym, map, arith, ◌∙◌}
use Rattle.std.specs.List.{range_with_len}
use Rattle.std.proofs.lemmas.List.{map-append}
use Rattle.std.proofs.lemmas.List.FromFn.{map-range_with_len_more}
use Rattle.auction_tests.proofs.problems.first.Goals as goal

pub loop-i-preserved : goal.loop-i-preserved
loop-i-preserved g c =
    ap (map g.T.Numbered.number_of) c.in_ok-push.ensures.items
    ∙ map-append g.T.Numbered.number_of c.loop-i.numbers.items (c.with_number.result ∷ [])
    ∙ ap (λ l. l ++ g.T.Numbered.number_of c.with_number.result ∷ []) c.loop-i.invariant
    ∙ ap (λ m. map (λ i. i) (range_with_len 1 c.loop-i.i) ++ m ∷ []) c.with_number.ensures
    ∙ sym (map-range_with_len_more (λ i. i) 1 c.loop-i.i (c.loop-i.i + 1) (omega arith))
