use Rattle.std.proofs.Common.{◌≡◌, ◌-◌, set, sym, ap, subst, ◌∙◌, arith}
use Rattle.std.specs.Arc.{arc_value}
use Rattle.assign_core.specs.Numbered.{renumbered}
use Rattle.assign_core.proofs.NumberedLemmas.{renumber-set}
use Rattle.candidates.specs.Candidates.{HaveCandidates}
use Rattle.auction_book.specs.Stored.{book_of}
use Rattle.auction_book.specs.Changes.{least_taken, trimmed_to}
use Rattle.price_log.specs.History.{last_version}
use Rattle.auction_book.proofs.OtherChanges.{caught_up_free, caught_up_trimmed, least_le}
use Rattle.auction_book.proofs.book.Book.catch_up.Goals as goal

pub trim_to-requires : goal.trim_to-requires
trim_to-requires c =
    let e = c.least_of-least.ensures in
    let l = least_le c.as_slice.result.now c.catch_up.new.version in
    let v = c.catch_up.ensures.version in
    omega arith

pub invariant_of-self : goal.invariant_of-self
invariant_of-self c =
    let s = c.self.inside in
    let w = c.args.worker in
    let v : c.catch_up.new.version ≡ last_version s.log = c.catch_up.ensures.version in
    let taken : set s.taken.items (w - 1) c.catch_up.new.version ≡ renumbered s.taken.items w (last_version s.log) =
    ap (set s.taken.items (w - 1)) v ∙ sym (renumber-set s.taken.items w (last_version s.log) c.requires.worker.first) in
    let least : c.least_of-least.result ≡ least_taken (renumbered s.taken.items w (last_version s.log)) (last_version s.log) =
    c.least_of-least.ensures ∙ ap (λ l. least_taken l c.catch_up.new.version) (c.as_slice.ensures.value ∙ taken) ∙
    ap (least_taken (renumbered s.taken.items w (last_version s.log))) v in
    let log = c.trim_to.ensures ∙ ap (trimmed_to s.log) least in
    let same = (caught_up_trimmed (book_of s) w c.self.invariant.3).prices in (
      c.self.invariant.0,
      c.self.invariant.1,
      c.self.invariant.2,
      rw (taken, log) (caught_up_free _ w c.self.invariant.3),
      rw log (subst (λ q. HaveCandidates (arc_value s.scaled) q s.lists) (sym same) c.self.invariant.4),
    )

pub returns-clause-free : goal.returns-clause-free
returns-clause-free c = (invariant_of-self c).3
