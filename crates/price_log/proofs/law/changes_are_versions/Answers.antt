use Rattle.price_log.proofs.Trims.{today-trim, trim_version}
use Rattle.price_log.proofs.Histories.{today-after_raise, version-after_raise}
use Rattle.price_log.proofs.law.changes_are_versions.Goals as goal

pub returns : goal.returns
returns c = record {
  raise_prices = today-after_raise;
  raise_version = version-after_raise;
  trim_prices = today-trim;
  trim_version = trim_version;
}
