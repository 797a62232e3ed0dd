use Rattle.std.proofs.Common.{refl}
use Rattle.double_search.proofs.Numbers.{equal_is, kept, magic_is}
use Rattle.double_search.proofs.whole.last_bits_of.Goals as goal

pub float_to_bits-bits : goal.float_to_bits-bits
float_to_bits-bits c = kept _ _ c.args.sums _ (λ a b. refl) (λ a e. equal_is a e) (magic_is, (magic_is, (magic_is, (magic_is, tt))))
