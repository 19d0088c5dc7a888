use Rattle.std.proofs.Common.{sym, ap, ◌∙◌, arith}
use Rattle.std.proofs.lemmas.List.{get_or_read}
use Rattle.book.proofs.Climbing.{key_of, not_found, rises_climbing}
use Rattle.book.proofs.book.Book.find.Goals as goal
use Rattle.book.proofs.book.Book.find.Goals.{else-place-rows-via-then-place-rows+else-rows-place, else-place-rows-via-else-place-rows}

pub returns-else-place-rows : goal.returns-else-place-rows
returns-else-place-rows g c =
    let rows = c.rows-rows.result.now in
    let rises = rises_climbing rows c.rows-rows.ensures.rising in
    rw (sym c.rows-rows.ensures.all) (not_found c.args.number c.search-place.result rows rises (c.search-place.ensures.found rises) (λ d inside same.
    elim c.else-place-rows.branch [
      | else-place-rows-via-then-place-rows+else-rows-place w ↦ w.if-rows-place.false (ap key_of (sym w.index-rows-place.is ∙ get_or_read rows _ _ inside w.index-rows-place.is d) ∙ same)
      | else-place-rows-via-else-place-rows w ↦ omega (arith, w.if-place-rows.false)
    ]))
