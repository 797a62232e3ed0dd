-- Each accepted bid brings the prices nearer to their end.
use Rattle.std.proofs.Common.{◌≡◌, ℕ, ℤ, pos, zero, suc, ◌<◌, ◌≤◌, ◌<ℤ◌, ◌-ℤ◌, List, length, get_or, arith, subst}
use Rattle.std.proofs.lemmas.Int.{ints}
use Rattle.std.proofs.lemmas.List.Sums.{sum_by-set}
use Rattle.std.specs.List.{All}
use Rattle.std.specs.Int.RustNames.{unsigned_abs}
use Rattle.assign_core.specs.Numbered.{renumbered}
use Rattle.assign_core.specs.declared.numbers.TheConstants.{PRICE_END}
use Rattle.assign_core.specs.Prices.{IsPrice, price_of}
use Rattle.assign_core.proofs.NumberedLemmas.{length-renumbered, numbered-same}
use Rattle.auction_book.proofs.Accepting.{price_in}
use Rattle.rounds.specs.Rounds.{room}

room_less : (p q : ℤ) → IsPrice p → IsPrice q → p <ℤ q → unsigned_abs (PRICE_END -ℤ q) < unsigned_abs (PRICE_END -ℤ p)
room_less p q f g h = let a = f.least in let b = g.below in omega (arith, ints)

room_set : (prices : List ℤ) (j : ℕ) (level : ℤ) → 0 < j → j ≤ length prices → All IsPrice prices → IsPrice level →
    price_of prices j <ℤ level → room (renumbered prices j level) < room prices
room_set prices zero level first last each fit above = absurd (omega arith)
room_set prices (suc k) level first last each fit above =
    let lt : k < length prices = omega arith in
    let less = room_less (get_or prices k (pos 0)) level (each k (pos 0) lt) fit above in
    let s = sum_by-set (λ p. unsigned_abs (PRICE_END -ℤ p)) prices k level (pos 0) lt in
    omega arith

-- a price that rises, to a price
pub room_falls : (prices : List ℤ) (j : ℕ) (level : ℤ) → 0 < j → j ≤ length prices → All IsPrice prices →
    All IsPrice (renumbered prices j level) → price_of prices j <ℤ level →
    room (renumbered prices j level) < room prices
room_falls prices j level first last each after above =
    let long : length (renumbered prices j level) ≡ length prices = length-renumbered prices j level in
    room_set prices j level first last each (subst IsPrice (numbered-same prices j level (pos 0) first last)
    (price_in (renumbered prices j level) j after first (omega arith))) above
