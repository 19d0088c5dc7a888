use Rattle.std.proofs.Common.{◌≡◌, None, rules}
use Rattle.kinds.specs.Forms.{LawfulForm, record_wrong}
use Rattle.kinds.proofs.Forms.{reads_back}
use Rattle.lines.proofs.form.spell_form.Goals as goal

pub returns-clause-reads_back : goal.returns-clause-reads_back
returns-clause-reads_back g c =
    let form = g.F.RecordForm.form in
    let value = g.F.RecordForm.shown c.args.form.now in
    let ok : LawfulForm form = search rules in
    let admitted : record_wrong form value ≡ None = search rules in
    rw c.in_ok-spell_fields.ensures.after (reads_back form ok value admitted)
