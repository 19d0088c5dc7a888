use Rattle.std.proofs.Common.{◌∙◌}
use Rattle.listed.specs.Listed.{bank_digits}
use Rattle.listed.proofs.OnList.{found_listed}
use Rattle.listed.proofs.has_bank.Goals as goal

pub returns : goal.returns
returns c = c.is_some.ensures ∙ found_listed (bank_digits c.args.bsb) c.args.list.now.held.rows _ c.find.ensures
