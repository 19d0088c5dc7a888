use Rattle.std.proofs.Common.{Err, refl, ap}
use Rattle.std.proofs.lemmas.Bool.{le-ltb, lt-ltb}
use Rattle.book.proofs.Climbing.{at_last}
use Rattle.book.proofs.rows.expect_above.Goals as goal

pub returns-then-number-last : goal.returns-then-number-last
returns-then-number-last g c =
    rw (at_last c.args.number c.args.rows.now c.last-item.result c.in-len1-up.len_at_least c.last-item.is, le-ltb c.last-item.result.number c.args.number c.if-number-last.true) (ap Err c.at.ensures)

pub returns : goal.returns
returns g c =
    rw (at_last c.args.number c.args.rows.now c.last-item.result c.in-len1-up.len_at_least c.last-item.is, lt-ltb c.last-item.result.number c.args.number c.if-number-last.false) refl
