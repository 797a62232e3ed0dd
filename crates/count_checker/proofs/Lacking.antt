-- Shortages: what the pairs outside come to.
use Rattle.std.proofs.Common.{◌≡◌, ℕ, ◌+◌, ◌<◌, List, Bool, false, length, map, refl, ap, sym, ◌∙◌, arith, inl, inr, subst}
use Rattle.std.specs.Prelude.{nat_lt, filter}
use Rattle.std.proofs.lemmas.List.{get_or-map, length-map}
use Rattle.count_checker.specs.declared.lists.CountLists.{CountLists}
use Rattle.count_checker.specs.declared.shortage.Side.{Side}
use Rattle.count_checker.specs.declared.shortage.Side.TheVariants.{Rows, Columns}
use Rattle.count_checker.specs.declared.shortage.ShortageVerdict.{ShortageVerdict}
use Rattle.count_checker.specs.declared.shortage.ShortageVerdict.TheVariants.{Length, Enough, Yes}
use Rattle.count_checker.specs.Counts.{CountProblem, IsPlan, chosen}
use Rattle.count_checker.specs.CountLists.{AreCountLists, problem_in}
use Rattle.count_checker.specs.CountSets.{apart_count}
use Rattle.count_checker.specs.Shortages.{IsShortage, IsShortageVerdict, ShortageVerdictsDiffer, is_outside, need_of, room_of}
use Rattle.count_checker.specs.inside.Holders.{AreOutside}
use Rattle.count_checker.proofs.CountSets.{sets_leave_none}
use Rattle.count_checker.proofs.Taking.{filter_chosen}
use Rattle.count_checker.proofs.VerdictLaws.{at, given, long_pairs}

pub outside_chosen : (l : CountLists) → AreCountLists l → (side : Side) (rows columns : List Bool) (bytes : List ℕ) → AreOutside l side rows columns bytes →
    chosen (problem_in l).pairs (map (nat_lt 0) bytes) ≡ filter (is_outside side rows columns) (problem_in l).pairs
outside_chosen l lists side rows columns bytes is =
    let e = long_pairs l lists in
    filter_chosen (is_outside side rows columns) (problem_in l).pairs (map (nat_lt 0) bytes) (length-map bytes (nat_lt 0) ∙ is.long ∙ sym e)
    (λ k d lt.
    let here : k < length l.rows.now = omega arith in
    get_or-map (nat_lt 0) bytes k 0 false (let f = is.long in omega arith) ∙ is.each k here ∙ ap (is_outside side rows columns) (sym (at l lists k d here)))

pub short_means : (p : CountProblem) (side : Side) (rows columns : List Bool) (apart : ℕ) → apart ≡ apart_count p.groups (filter (is_outside side rows columns) p.pairs) →
    room_of side p rows columns + apart < need_of side p rows columns → IsShortage p side rows columns
short_means p Rows rows columns apart e h = subst (λ n. room_of Rows p rows columns + n < need_of Rows p rows columns) e h
short_means p Columns rows columns apart e h = subst (λ n. room_of Columns p rows columns + n < need_of Columns p rows columns) e h

pub shortage_means : (p : CountProblem) (side : Side) (rows columns : List Bool) (apart : ℕ) → apart ≡ apart_count p.groups (filter (is_outside side rows columns) p.pairs) →
    IsShortage p side rows columns → room_of side p rows columns + apart < need_of side p rows columns
shortage_means p Rows rows columns apart e h = subst (λ n. room_of Rows p rows columns + n < need_of Rows p rows columns) (sym e) h
shortage_means p Columns rows columns apart e h = subst (λ n. room_of Columns p rows columns + n < need_of Columns p rows columns) (sym e) h

pub shortage_leaves_none : (l : CountLists) → AreCountLists l → (side : Side) (rows columns : List Bool) → IsShortage (problem_in l) side rows columns →
    (plan : List Bool) → IsPlan (problem_in l) plan → ⊥
shortage_leaves_none l lists Rows rows columns h = sets_leave_none (problem_in l) rows columns (given l lists) (inl h)
shortage_leaves_none l lists Columns rows columns h = sets_leave_none (problem_in l) rows columns (given l lists) (inr h)

pub verdict_none : (l : CountLists) → AreCountLists l → (side : Side) (rows columns : List Bool) (v : ShortageVerdict) → IsShortageVerdict (problem_in l) side rows columns v →
    v ≡ Yes → (plan : List Bool) → IsPlan (problem_in l) plan → ⊥
verdict_none l lists side rows columns Yes h e = shortage_leaves_none l lists side rows columns h.1
verdict_none l lists side rows columns Enough h e = absurd cc
verdict_none l lists side rows columns Length h e = absurd cc

-- at most one verdict holds of marks
pub shortages_differ : ShortageVerdictsDiffer
shortages_differ p side rows columns Length Length a b = refl
shortages_differ p side rows columns Enough Enough a b = refl
shortages_differ p side rows columns Yes Yes a b = refl
shortages_differ p side rows columns Length Enough a b = absurd (a b.0)
shortages_differ p side rows columns Length Yes a b = absurd (a b.0)
shortages_differ p side rows columns Enough Length a b = absurd (b a.0)
shortages_differ p side rows columns Yes Length a b = absurd (b a.0)
shortages_differ p side rows columns Enough Yes a b = absurd (a.1 b.1)
shortages_differ p side rows columns Yes Enough a b = absurd (b.1 a.1)
