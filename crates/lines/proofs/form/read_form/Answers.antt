use Rattle.std.proofs.Common.{◌≡◌, length, None, rules}
use Rattle.kinds.specs.Forms.{LawfulForm, record_fault}
use Rattle.kinds.proofs.Answers.{gave}
use Rattle.kinds.proofs.Forms.{spells_back}
use Rattle.lines.proofs.form.read_form.Goals as goal

pub returns-clause-spelled_back : goal.returns-clause-spelled_back
returns-clause-spelled_back g c =
    let form = g.F.RecordForm.form in
    let line = c.args.line.number in
    let bs = c.args.line.columns.now in
    let ok : LawfulForm form = search rules in
    let long : length bs ≡ 120 = search rules in
    let proper : record_fault form line bs ≡ None = search rules in
    rw (gave _ _ _ c.in_ok-form.ensures) (spells_back form ok line bs long proper)
