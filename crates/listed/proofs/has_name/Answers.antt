use Rattle.std.proofs.Common.{◌∙◌, rules, tests}
use Rattle.std.specs.Str.{bytes_eq}
use Rattle.std.proofs.lemmas.Iterator.{YieldsList-from_slice}
use Rattle.std.proofs.lemmas.Iterator.Search.{any_from_yields_List}
use Rattle.listed.specs.Listed.{BankOf, bank_of}
use Rattle.listed.proofs.OnList.{list_any_map}
use Rattle.listed.proofs.has_name.Goals as goal

pub returns : goal.returns
returns c =
    any_from_yields_List (λ row. bytes_eq row.value.now c.args.name.now) _ _ _ c.any.ensures.ran (YieldsList-from_slice c.args.list.now.held.rows cc) (λ x b q k. search (rules, tests))
    ∙ list_any_map bank_of (λ (bank : BankOf). bytes_eq bank.name c.args.name.now) c.args.list.now.held.rows
