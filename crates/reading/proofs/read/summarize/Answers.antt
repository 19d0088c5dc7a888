use Rattle.std.proofs.Common.{Ok, Err, sym, ap, ◌∙◌, rules}
use Rattle.payments.specs.Payments.{payment_of}
use Rattle.reading.proofs.Sofar.{started, line_refused, tag_refused, at_trailer, too_many, detail_refused, one_more}
use Rattle.reading.proofs.read.summarize.Goals as goal

pub loop-number-init : goal.loop-number-init
loop-number-init g c = started (g.H.House.rules c.args.house.now) c.args.file.now _ _ c.in_ok-rest.ensures c.new-tally.ensures

pub returns-in_err-line : goal.returns-in_err-line
returns-in_err-line g c =
    let e = line_refused _ _ _ _ _ c.loop-number.invariant _ c.in_err-line.ensures in
    search rules

pub returns-in_err-expect_later : goal.returns-in_err-expect_later
returns-in_err-expect_later g c =
    let cut = c.in_ok-line in
    let e = tag_refused _ _ _ _ _ c.loop-number.invariant cut.line.number cut.line.columns.now cut.after.now cut.ensures _ c.in_err-expect_later.ensures in
    search rules

pub returns-in-Trailer : goal.returns-in-Trailer
returns-in-Trailer g c =
    let cut = c.in_ok-line in
    c.close.ensures ∙ at_trailer _ _ _ _ _ c.loop-number.invariant cut.line.number cut.line.columns.now cut.after.now cut.ensures (sym (ap Ok c.in-Trailer.is) ∙ c.in_ok-expect_later.ensures)

pub returns-then-number-gt-LAST_DETAIL : goal.returns-then-number-gt-LAST_DETAIL
returns-then-number-gt-LAST_DETAIL g c =
    let cut = c.in_ok-line in
    ap Err c.at.ensures ∙ too_many _ _ _ _ _ c.loop-number.invariant cut.line.number cut.line.columns.now cut.after.now cut.ensures (sym (ap Ok c.in-Detail.is) ∙ c.in_ok-expect_later.ensures) c.if-number-gt-LAST_DETAIL.true

pub returns-in_err-payment-in-Detail : goal.returns-in_err-payment-in-Detail
returns-in_err-payment-in-Detail g c =
    let cut = c.in_ok-line in
    let e = detail_refused _ _ _ _ _ c.loop-number.invariant cut.line.number cut.line.columns.now cut.after.now cut.ensures (sym (ap Ok c.in-Detail.is) ∙ c.in_ok-expect_later.ensures)
    c.if-number-gt-LAST_DETAIL.false _ c.in_err-payment-in-Detail.ensures in
    search rules

pub loop-number-preserved : goal.loop-number-preserved
loop-number-preserved g c =
    let cut = c.in_ok-line in
    one_more _ _ _ _ _ c.loop-number.invariant cut.line.number cut.line.columns.now cut.after.now cut.ensures (sym (ap Ok c.in-Detail.is) ∙ c.in_ok-expect_later.ensures)
    c.if-number-gt-LAST_DETAIL.false (payment_of c.in_ok-payment-in-Detail.payment) c.in_ok-payment-in-Detail.ensures _ c.add.ensures
