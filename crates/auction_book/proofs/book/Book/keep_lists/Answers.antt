use Rattle.std.proofs.Common.{length, sym, ap, ◌∙◌, subst}
use Rattle.scaled_values.specs.Scaled.{ScaledProblem}
use Rattle.candidates.specs.Candidates.{HaveCandidates}
use Rattle.price_log.specs.History.{today}
use Rattle.price_log.proofs.Versions.{today_is_table}
use Rattle.auction_book.proofs.book.Book.keep_lists.Goals as goal

pub invariant_of-self : goal.invariant_of-self
invariant_of-self c =
    let now = today c.self.inside.log in
    let v = c.self.invariant in
    let long = v.3.sizes.priced ∙ ap (λ (s : ScaledProblem). length s.problem) (sym c.deref.ensures) in (
      v.0,
      v.1,
      v.2,
      v.3,
      subst (λ s. HaveCandidates s now c.new.result) c.deref.ensures (c.new.ensures now (today_is_table _ v.3.log_ascends) long),
    )
