use Rattle.price_log.proofs.Trims.{continues-refl, continues-trans, continues-kept_raise, continues-trim}
use Rattle.price_log.proofs.law.logs_continue.Goals as goal

pub returns : goal.returns
returns c = record {
  itself = continues-refl;
  through = continues-trans;
  raise = continues-kept_raise;
  trim = continues-trim;
}
