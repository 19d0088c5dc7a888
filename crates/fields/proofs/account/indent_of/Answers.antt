use Rattle.std.proofs.Common.{length, ap, ◌∙◌, unwrap_or}
use Rattle.fields.proofs.Indents.{indent_found}
use Rattle.fields.proofs.account.indent_of.Goals as goal

pub returns-clause-blanks : goal.returns-clause-blanks
returns-clause-blanks c =
    let bs = c.args.field.now in
    c.unwrap_or.ensures ∙ ap (λ o. unwrap_or o (length bs)) c.first_solid.ensures ∙ indent_found bs
