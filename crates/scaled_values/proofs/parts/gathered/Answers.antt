use Rattle.std.proofs.Common.{◌≡◌, ◌≢◌, ◌<◌, ◌+◌, [], ◌++◌, IfSome, ap, append-nil, arith, drop, length, map, subst, sym, ◌∙◌}
use Rattle.std.proofs.lemmas.List.{drop_all, get_or-set_other, length-map}
use Rattle.std.proofs.lemmas.List.Elements.{All-push}
use Rattle.assign_core.specs.Rows.{row_of}
use Rattle.assign_core.specs.Benefits.{benefit_row, benefit_rows}
use Rattle.assign_core.proofs.DenseRows.{rows_moved}
use Rattle.scaled_values.specs.Scaled.{values_in}
use Rattle.scaled_values.specs.inside.Made.{IsMadeRow}
use Rattle.scaled_values.specs.inside.Range.{joined, range_with}
use Rattle.scaled_values.specs.inside.Stored.{stored_entries, HasStoredForm}
use Rattle.scaled_values.proofs.Ranges.{IsWide, IsWide-joined, range_joined, range_row, rows_next}
use Rattle.scaled_values.proofs.parts.gathered.Goals as goal

pub loop-i-preserved : goal.loop-i-preserved
loop-i-preserved c =
    let i = c.loop-i.i in
    let one = c.in-Some.made in
    let own = c.index-places-i.result in
    let lt : i < length c.args.places.now = omega (arith, c.loop-i-test.true) in
    let same = c.in-Some.ensures.value ∙ c.loop-i.invariant.rest i own (omega arith) in
    record {
      made = λ sense rows long made.
          let n = length rows in
          let inv = c.loop-i.invariant.made sense rows long made in
          let below : i < length rows = omega (arith, lt, long) in
          let is : IsMadeRow sense rows i one = subst (λ o. IfSome o (IsMadeRow sense rows i)) (sym same) (made i own lt) in
          let rest = drop (i + 1) (benefit_rows sense rows) in
          let values = map (λ e. e.1) (benefit_row sense n (row_of rows (i + 1))) in
          let wider : c.joined-range.result ≡ range_with c.loop-i.range values =
          c.joined-range.ensures ∙ ap (joined c.loop-i.range) is.range ∙ range_joined c.loop-i.range values c.loop-i.invariant.wide in (
            ap (λ l. map stored_entries l ++ rest) c.push_reserved.ensures.items
                ∙ rows_moved stored_entries c.loop-i.rows.items one.row (benefit_row sense n (row_of rows (i + 1))) rest is.entries
                ∙ ap (λ l. map stored_entries c.loop-i.rows.items ++ l) (sym (rows_next sense n rows i below)) ∙ inv.0,
            rw c.push_reserved.ensures.items (All-push (HasStoredForm n) c.loop-i.rows.items one.row inv.1 is.form),
            range_row sense n rows i c.loop-i.range c.joined-range.result below wider ∙ inv.2,
          );
      wide = subst IsWide (sym c.joined-range.ensures) (IsWide-joined c.loop-i.range one.range c.loop-i.invariant.wide);
      rest = λ k d le.
          let other : k ≢ i = λ e. absurd (omega (arith, le, e)) in
          get_or-set_other c.loop-i.places i k c.take.new.self d other ∙ c.loop-i.invariant.rest k d (omega (arith, le));
      long = omega (arith, c.push_reserved.ensures.len, c.loop-i.invariant.long);
      room = c.push_reserved.ensures.capacity ∙ c.loop-i.invariant.room;
    }

pub returns : goal.returns
returns c = λ sense rows long made.
    let inv = c.loop-i.invariant.made sense rows long made in
    let all = benefit_rows sense rows in
    let size : length (benefit_rows sense rows) ≡ length rows = simp length-map in
    let past : drop c.loop-i.i (benefit_rows sense rows) ≡ [] = drop_all c.loop-i.i all (omega (arith, size, long, c.loop-i-test.false)) in
    let whole = map stored_entries c.loop-i.rows.items in
    record {
      entries = sym (append-nil whole) ∙ ap (λ l. whole ++ l) (sym past) ∙ inv.0;
      form = inv.1;
      range = ap (λ l. range_with c.loop-i.range (values_in l)) (sym past) ∙ inv.2;
    }
