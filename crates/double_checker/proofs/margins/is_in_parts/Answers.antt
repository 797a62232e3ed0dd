use lib.Dec.{leb→le}
use Rattle.std.proofs.lemmas.Float.{T_from_true}
use Rattle.double_checker.proofs.MarginSizes.{size_in_parts}
use Rattle.double_checker.proofs.margins.is_in_parts.Goals as goal

pub returns : goal.returns
returns c = λ h.
    size_in_parts c.args.limit c.args.margin c.digits_of-one.result c.digits_of-other.result c.digits_of-one.ensures
    c.digits_of-other.ensures
    c.if-one-other.false (leb→le _ _ (T_from_true _ h))
