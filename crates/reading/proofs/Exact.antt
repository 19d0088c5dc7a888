-- Reading accepts exactly the files that there are.
use Rattle.std.proofs.Common.{◌≡◌, ℕ, List, [], ◌++◌, get_or, take, drop, None, Ok, sym, refl, ap, ◌∙◌, subst}
use Rattle.std.specs.List.{AllByRecursion}
use Rattle.headers.specs.Headers.{HeaderOf, header_fault, header_value, header_bytes}
use Rattle.lines.specs.Lines.{line_fault, head_fault}
use Rattle.payments.specs.Payments.{PaymentOf}
use Rattle.houses.specs.Rules.{Rules}
use Rattle.reading.specs.Exact.{line_of, file_of, Agreed, Admissible, FileOf}
use Rattle.reading.specs.Reading.{objected, details, read_of, opening}
use Rattle.reading.proofs.Listed.{Listed, payment_lines, trailer_line, details_only, details_all}
use Rattle.reading.proofs.Passed.{passed, passes, unobjected, went_on, went_well, same_ok}
use Rattle.reading.proofs.Spelled.{header_spelling}
use Rattle.reading.proofs.Taken.{Begins, taken_admitted, taken_spelled, begins}

module _ (R : Rules) (bytes : List ℕ) (ps : List PaymentOf) where
  file_from : line_fault 1 bytes ≡ None → header_fault 1 (take 120 bytes) ≡ None → R.header (header_value (take 120 bytes)) ≡ None → Listed R [] (drop 122 bytes) ps → FileOf R bytes ps
  file_from h proper agreed l =
      let c = l.closed in
      record {
        header = header_value (take 120 bytes);
        admissible = record {
          header_admitted = taken_admitted header_spelling 1 bytes h proper;
          header_agreed = agreed;
          payments_agreed = subst (AllByRecursion (Agreed R)) l.whole l.agreed;
          some = c.some;
          most = c.most;
          credits_fit = c.credits_fit;
          debits_fit = c.debits_fit;
          tally_agreed = c.tally_agreed;
        };
        spelled =
            taken_spelled header_spelling 1 bytes h proper
            ∙ ap (λ bs. line_of (header_bytes (header_value (take 120 bytes))) ++ bs) (l.spelled ∙ ap (λ qs. payment_lines qs ++ trailer_line ps) l.whole);
      }

  read_only : read_of R bytes ≡ Ok ps → FileOf R bytes ps
  unfolding read_of
  read_only e =
      let opened = went_on (opening R bytes) (details R 999999 2 []) ps e in
      let rest = opened.0 in
      let whole = passed (line_fault 1 bytes) _ rest opened.1 in
      let first = passed (head_fault 1 (get_or bytes 0 0)) _ rest whole.1 in
      let proper = passed (header_fault 1 (take 120 bytes)) _ rest first.1 in
      let agreed = passed (objected 1 (R.header (header_value (take 120 bytes)))) _ rest proper.1 in
      let is : drop 122 bytes ≡ rest = same_ok _ _ agreed.1 in
      file_from whole.0 proper.0 (unobjected 1 (R.header (header_value (take 120 bytes))) agreed.0) (subst (λ xs. Listed R [] xs ps) (sym is) (details_only R 999999 2 [] rest ps opened.2))

  -- the header's line, and what comes after it
  header_read : (h : HeaderOf) (more : List ℕ) → Begins header_spelling 1 bytes h more → R.header h ≡ None → details R 999999 2 [] more ≡ Ok ps → read_of R bytes ≡ Ok ps
  unfolding read_of
  header_read h more b agreed later =
      let opened : opening R bytes ≡ Ok more =
      passes (line_fault 1 bytes) _ more b.whole
      (passes (head_fault 1 (get_or bytes 0 0)) _ more (ap (head_fault 1) b.first)
      (passes (header_fault 1 (take 120 bytes)) _ more b.proper
      (passes (objected 1 (R.header (header_value (take 120 bytes)))) _ more (ap (λ g. objected 1 (R.header g)) b.says ∙ ap (objected 1) agreed) (ap Ok b.then)))) in
      went_well (opening R bytes) (details R 999999 2 []) more (sym opened) ∙ later

read_all : (R : Rules) (h : HeaderOf) (ps : List PaymentOf) → Admissible R h ps → read_of R (file_of h ps) ≡ Ok ps
read_all R h ps a =
    let after = payment_lines ps ++ trailer_line ps in
    header_read R (file_of h ps) ps h after (begins header_spelling 1 h after a.header_admitted) a.header_agreed
    (details_all R 999999 2 [] ps ps a.most refl a.payments_agreed
    (record { some = a.some; most = a.most; credits_fit = a.credits_fit; debits_fit = a.debits_fit; tally_agreed = a.tally_agreed }))

-- reading accepts exactly the files that there are, each with its payments
pub record Exactly (R : Rules) (bytes : List ℕ) : Type 0 where
  pub only : (ps : List PaymentOf) → read_of R bytes ≡ Ok ps → FileOf R bytes ps
  pub all : (ps : List PaymentOf) → FileOf R bytes ps → read_of R bytes ≡ Ok ps

pub exactly : (R : Rules) (bytes : List ℕ) → Exactly R bytes
exactly R bytes = record {
  only = λ ps. read_only R bytes ps;
  all = λ ps f. ap (read_of R) f.spelled ∙ read_all R f.header ps f.admissible;
}
