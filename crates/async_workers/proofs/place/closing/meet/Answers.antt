use Rattle.std.proofs.Common.{◌∙◌, sym, ap, subst}
use Rattle.crossbeam_queue.specs.Fifo.{Learns}
use Rattle.async_workers.specs.declared.rule.View.{View}
use Rattle.async_workers.specs.Views.{met}
use Rattle.async_workers.specs.PlaceRule.{Rule}
use Rattle.async_workers.specs.inside.Passing.{MetIsCurrent}
use Rattle.async_workers.proofs.Steps.{hears_meeting, merges_from, met-closing}
use Rattle.async_workers.proofs.place.closing.meet.Goals as goal

pub absorb-requires-clause-rule : goal.absorb-requires-clause-rule
absorb-requires-clause-rule c =
    let h = c.requires.closing in
    let o = c.requires.away in
    merges_from _ _ h.0 h.1 _ _ o.0 h.2 o.1

pub learn_as-requires-clause-rule : goal.learn_as-requires-clause-rule
learn_as-requires-clause-rule c =
    let h = c.requires.closing in
    let o = c.requires.away in
    subst (λ (v : View). Learns Rule c.absorb.new.pass.id v (λ items. MetIsCurrent v)) (sym c.absorb.ensures.rule) (hears_meeting _ _ _ h.0 h.1 o.0 h.2 o.1)

pub returns-clause-current : goal.returns-clause-current
returns-clause-current c t taken u closing away = c.learn_as.ensures.rule.1 t taken u (c.absorb.ensures.rule ∙
    ap (met _) away ∙ met-closing _ t taken u closing)
