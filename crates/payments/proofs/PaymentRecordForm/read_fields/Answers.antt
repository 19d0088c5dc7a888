use Rattle.std.proofs.Common.{ap, ◌∙◌}
use Rattle.kinds.specs.Kinds.{answered}
use Rattle.std.proofs.lemmas.Result.{err_from_is_err_and}
use Rattle.kinds.proofs.Answers.{refused}
use Rattle.kinds.specs.Layouts.{first_fault, values}
use Rattle.payments.specs.Payments.{payment_row, payment_value}
use Rattle.payments.proofs.PaymentRecordForm.read_fields.Goals as goal

pub returns-in_err-bsb : goal.returns-in_err-bsb
unfolding payment_value
returns-in_err-bsb c =
    let e = err_from_is_err_and c.from_residual.result c.from_residual.ensures.1 in
    let bs = c.args.line.columns.now in
    rw (e.1, e.2) (refused (first_fault payment_row c.start.result bs) (values payment_row bs) (payment_value bs) _ c.in_err-bsb.ensures ∙ ap (λ p. answered (first_fault payment_row p bs) (payment_value bs)) c.start.ensures)
