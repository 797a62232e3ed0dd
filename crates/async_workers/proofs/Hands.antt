-- The book in hand, from its take to its give.
use Rattle.std.proofs.Common.{◌≡◌, Bool, true, None, refl, sym, ap, ◌∙◌, subst, length}
use Rattle.assign_core.specs.Numbered.{IsNumber}
use Rattle.scaled_values.specs.Scaled.{ScaledProblem}
use Rattle.auction_book.specs.Book.{BookData}
use Rattle.auction_book.specs.Changes.{caught_up}
use Rattle.auction_book.specs.Follows.{Follows}
use Rattle.auction_book.specs.Free.{IsFree}
use Rattle.auction_book.proofs.Following.{caught_up_follows, follows_itself}
use Rattle.auction_book.proofs.OtherChanges.{caught_up_free}
use Rattle.auction_book.proofs.WorkerSteps.{IsOwn, caught_up_own, own_kept}
use Rattle.async_workers.specs.declared.rule.Known.{Known}
use Rattle.async_workers.specs.declared.rule.LastSession.{LastSession}
use Rattle.async_workers.specs.declared.rule.View.TheVariants.{Away, Holding}
use Rattle.async_workers.specs.PlaceRule.{Gave, Took}
use Rattle.async_workers.specs.Desk.{DeskData, IsAway, session_by}
use Rattle.async_workers.specs.inside.Hand.{IsInHand}
use Rattle.async_workers.specs.Session.{counted, with_table}
use Rattle.async_workers.specs.Turns.{Serves, WorksOn}
use Rattle.async_workers.specs.Views.{known_after}
use Rattle.async_workers.proofs.Extending.{extends_by, extends_by_through, extends_through}
use Rattle.async_workers.proofs.Steps.{same_held}

-- a take
pub hand_taken : (d e : DeskData) (b taken put : BookData) → IsAway d taken put → Took d.view b e.view →
    e ≡ record d { view = e.view; offer = None } → IsInHand e b b
hand_taken d e b taken put away took same =
    let t : LastSession = session_by d taken put in
    let k = took t away in
    subst (λ (e : DeskData). IsInHand e b b) (sym same) record {
      told = t;
      holding = k.view;
      same_number = refl;
      same_base = k.told.base;
      in_range = k.told.number;
      may = record {
        free = k.free;
        extends = extends_by b b d.known.number (follows_itself b d.known.number);
        stays_stopped = λ e. e;
        below = k.told.below;
        earlier = k.told.earlier;
        stopped = k.told.stopped;
      };
    }

-- the desk's table belongs to the book in hand
pub hand_own : (d : DeskData) (taken b : BookData) → IsInHand d taken b → IsOwn b d.known.table d.known.version
hand_own d taken b hand = record { long = hand.may.below; earlier = hand.may.earlier }

-- a change by the desk's worker
pub hand_follows : (d : DeskData) (taken b new : BookData) → IsInHand d taken b → Follows d.known.number b new →
    new.stopped ≡ b.stopped → IsFree new → IsInHand d taken new
hand_follows d taken b new hand follows stopped free =
    let own = own_kept b new d.known.table d.known.version hand.may.free follows.goes_on (hand_own d taken b hand) in
    record {
      told = hand.told;
      holding = hand.holding;
      same_number = hand.same_number;
      same_base = hand.same_base ∙ sym follows.goes_on.base;
      in_range = subst (λ n. IsNumber n d.known.number) (sym follows.goes_on.workers) hand.in_range;
      may = record {
        free = free;
        extends = extends_by_through taken b new d.known.number hand.may.extends follows;
        stays_stopped = λ e. stopped ∙ hand.may.stays_stopped e;
        below = own.long;
        earlier = own.earlier;
        stopped = λ e. stopped ∙ hand.may.stopped e;
      };
    }

-- the desk catches up
pub hand_caught : (d : DeskData) (taken b : BookData) → IsInHand d taken b →
    IsInHand (record d { known = with_table true b d.known }) taken (caught_up b d.known.number)
hand_caught d taken b hand =
    let w = d.known.number in
    let new = caught_up b w in
    let own = caught_up_own w b hand.may.free in
    record {
      told = hand.told;
      holding = hand.holding;
      same_number = hand.same_number;
      same_base = hand.same_base;
      in_range = hand.in_range;
      may = record {
        free = caught_up_free b w hand.may.free;
        extends = extends_by_through taken b new w hand.may.extends (caught_up_follows b w hand.may.free);
        stays_stopped = hand.may.stays_stopped;
        below = own.long;
        earlier = own.earlier;
        stopped = hand.may.stopped;
      };
    }

pub hand_kept_up : (d e : DeskData) (taken b new : BookData) → IsInHand d taken b →
    e ≡ record d { known = with_table true b d.known } → new ≡ caught_up b d.known.number → IsInHand e taken new
hand_kept_up d e taken b new hand is_e is_new =
    subst (λ (z : DeskData × BookData). IsInHand z.0 taken z.1) (λ i. (sym is_e i, sym is_new i)) (hand_caught d taken b hand)

-- a session, from its take to its give
pub serves : (EndsSo : BookData → Known → BookData → Bool → Type 0) (d e f k : DeskData) (b new : BookData)
    (caught : Bool) (taken put : BookData) → IsAway d taken put → Took d.view b e.view →
    e ≡ record d { view = e.view; offer = None } → f ≡ record e { known = f.known } → IsInHand f b new →
    EndsSo b f.known new caught → Gave f.known f.view new k.view →
    k ≡ counted caught (record f { view = k.view; known = known_after f.known new }) → Serves d k EndsSo
serves EndsSo d e f k b new caught taken put away took same is_f hand ends gave now =
    let t : LastSession = session_by d taken put in
    let takes = took t away in
    let f_is : f ≡ record d { view = e.view; offer = None; known = f.known } = is_f ∙ ap (λ (e : DeskData). record e { known = f.known }) same in
    let view : Holding hand.told b ≡ Holding t b = sym hand.holding ∙ ap (λ (d : DeskData). d.view) is_f ∙ takes.view in
    record {
      taken = b;
      put = new;
      left = f.known;
      caught = caught;
      free = takes.free;
      told = λ a p away. (took (session_by d a p) away).told;
      number = sym hand.same_number ∙ ap (λ (t : LastSession). t.known.number) (same_held hand.told t b b view).0;
      may = hand.may;
      ends = ends;
      away = subst (λ (k : DeskData). k.view ≡ Away (session_by k b new)) (sym now)
          (gave hand.told b hand.holding hand.same_number ∙
          (λ i. Away (record {
            base = sym hand.same_base i;
            known = known_after f.known new;
            taken = b;
            put =
                new;
          })));
      desk = now ∙ ap (λ (f' : DeskData). counted caught (record f' { view = k.view; known = known_after f.known new })) f_is;
    }

-- what a run relies on of a session
pub serves_on : (EndsSo : BookData → Known → BookData → Bool → Type 0) (d k : DeskData) → Serves d k EndsSo → WorksOn d k
serves_on EndsSo d k s = record {
  place = ap (λ (d : DeskData). d.place) s.desk;
  base = ap (λ (d : DeskData). d.base) s.desk;
  number = ap (λ (d : DeskData). d.known.number) s.desk ∙ s.number;
  extends = λ a p away. (s.taken, s.put, s.away, extends_through p s.taken s.put (s.told a p away).put_on s.may.extends.goes_on);
}

-- the problem of a desk is that of the book in hand, so its table has a price for each object
pub table_long : (f k : DeskData) (b new : BookData) (caught : Bool) → IsInHand f b new →
    k ≡ counted caught (record f { view = k.view; known = known_after f.known new }) →
    length k.known.table ≡ length k.base.problem
table_long f k b new caught hand now =
    ap (λ (d : DeskData). length d.known.table) now ∙ hand.may.below.long ∙ hand.may.free.sizes.priced ∙
    ap (λ (s : ScaledProblem). length s.problem) (sym hand.same_base ∙ sym (ap (λ (d : DeskData). d.base) now))
