use Rattle.std.proofs.Common.{rules, Ok, Result, ◌≡◌, ◌∷◌, [], ◌+◌, ◌++◌, take, set, sym, ap, ◌∙◌, subst, arith, length-set}
use Rattle.std.proofs.lemmas.List.{take_more_set}
use Rattle.kinds.proofs.Answers.{passed}
use Rattle.faults.specs.declared.Fault.{Fault}
use Rattle.kinds.specs.Kinds.{answered}
use Rattle.book.specs.Books.{row_fault}
use Rattle.book.specs.Added.{added_is}
use Rattle.book.specs.Search.{Climbs}
use Rattle.book.proofs.Climbing.{key_of, climbs_on}
use Rattle.book.proofs.book.Book.add.Goals as goal

pub invariant_of-self-inside-2 : goal.invariant_of-self-inside-2
invariant_of-self-inside-2 g c =
    let book = c.self.inside in
    let row = c.args.row in
    let more : c.rows.result.now ++ row ∷ [] ≡ take (book.used + 1) (set book.rows.now book.used row) =
    ap (λ rows. rows ++ row ∷ []) (c.rows.ensures.all ∙ sym (ap (λ book. book.held.rows) c.self.view_is)) ∙ sym (take_more_set book.rows.now book.used row c.if-self.false) in
    (omega (arith, length-set book.rows.now book.used row), (subst (Climbs key_of) more (climbs_on _ row c.rows.ensures.rising (passed _ _ _ c.in_ok-expect_above.ensures)), tt))

pub returns-clause-whole : goal.returns-clause-whole
returns-clause-whole g c =
    let book = c.self.inside in
    let row = c.args.row in
    let answer : ◌≡◌ {A = Result (Unit {0}) Fault} (Ok tt) (answered (row_fault c.args.self.now.held row.number) tt) = search rules in
    let rows = take_more_set book.rows.now book.used row c.if-self.false ∙ ap (λ b. b.held.rows ++ row ∷ []) c.self.view_is in
    let room = length-set book.rows.now book.used row ∙ ap (λ b. b.held.room) c.self.view_is in
    added_is c.args.self.now row _ (passed _ _ _ answer) (λ i. record { rows = rows i; room = room i })
