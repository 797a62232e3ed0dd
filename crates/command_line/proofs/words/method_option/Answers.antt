use Rattle.std.proofs.Common.{◌≡◌, ◌∙◌, ◌∷◌, [], ap, codes, map, rules}
use Rattle.command_line.specs.Words.{named_rule}
use Rattle.command_line.proofs.CommandLines.{names_are}
use Rattle.command_line.proofs.words.method_option.Goals as goal

pub returns-clause-rule : goal.returns-clause-rule
returns-clause-rule c =
    let texts : map (λ s. s.now) c.as_slice.result.now ≡ codes "auction" ∷ codes "paths" ∷ [] = search rules in
    let is = names_are c.as_slice.result texts in
    (is.0, c.named.ensures.rule ∙ ap (λ names. named_rule (codes "method") (codes "auction") names) is.1)
