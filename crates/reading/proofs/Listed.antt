-- The payments' lines and the trailer's, read one by one.
use Rattle.std.proofs.Common.{◌≡◌, ℕ, zero, suc, ◌+◌, ◌≤◌, List, [], ◌∷◌, ◌++◌, length, get_or, take, drop, None, Ok, sym, ap, ◌∙◌, subst, ⊎_elim, append_assoc, append-nil, arith}
use Rattle.std.specs.List.{flat_map, AllByRecursion}
use Rattle.lines.specs.Lines.{line_fault, tagged}
use Rattle.payments.specs.Payments.{PaymentOf, payment_fault, payment_value, payment_bytes}
use Rattle.trailers.specs.Trailers.{trailer_bytes}
use Rattle.houses.specs.Rules.{Rules}
use Rattle.tally.specs.Tallies.{totals}
use Rattle.reading.specs.Exact.{line_of, Agreed}
use Rattle.reading.specs.Reading.{past, objected, closing, details, agreed, and_then}
use Rattle.reading.proofs.Closed.{Closed, closed_admitted, closing_only, closing_all}
use Rattle.reading.proofs.Passed.{passed, passes, no_ok, by_either, by_detail, unobjected, went_on, same_ok}
use Rattle.reading.proofs.Spelled.{payment_spelling, trailer_spelling}
use Rattle.reading.proofs.Taken.{Begins, taken_admitted, taken_spelled, begins}

abbrev pub payment_lines : List PaymentOf → List ℕ
payment_lines ps = flat_map (λ p. line_of (payment_bytes p)) ps

abbrev pub trailer_line : List PaymentOf → List ℕ
trailer_line ps = line_of (trailer_bytes (totals ps))

-- bytes that list the payments of qs after those of ps, and then the trailer of qs
pub record Listed (R : Rules) (ps : List PaymentOf) (rest : List ℕ) (qs : List PaymentOf) : Type 0 where
  pub more : List PaymentOf
  pub whole : ps ++ more ≡ qs
  pub agreed : AllByRecursion (Agreed R) more
  pub spelled : rest ≡ payment_lines more ++ trailer_line qs
  pub closed : Closed R qs

module _ (R : Rules) (line : ℕ) (ps : List PaymentOf) (rest : List ℕ) (qs : List PaymentOf) (h : line_fault line rest ≡ None) where
  listed_none : closing R line ps rest ≡ Ok qs → Listed R ps rest qs
  listed_none e =
      let c = closing_only R line ps rest qs h e in
      record { more = []; whole = append-nil ps ∙ c.0; agreed = tt; spelled = c.1 ∙ ap trailer_line c.0; closed = subst (Closed R) c.0 c.2 }

  listed_more : payment_fault line (take 120 rest) ≡ None → R.payment (payment_value (take 120 rest)) ≡ None → Listed R (ps ++ (payment_value (take 120 rest) ∷ [])) (drop 122 rest) qs → Listed R ps rest qs
  listed_more proper agreed l =
      let p = payment_value (take 120 rest) in
      record {
        more = p ∷ l.more;
        whole = sym (append_assoc ps (p ∷ []) l.more) ∙ l.whole;
        agreed = ((taken_admitted payment_spelling line rest h proper, agreed), l.agreed);
        spelled =
            taken_spelled payment_spelling line rest h proper ∙ ap (λ bs. line_of (payment_bytes p) ++ bs) l.spelled
            ∙ sym (append_assoc (line_of (payment_bytes p)) (payment_lines l.more) (trailer_line qs));
        closed = l.closed;
      }

pub details_only : (R : Rules) (left line : ℕ) (ps : List PaymentOf) (rest : List ℕ) (qs : List PaymentOf) → details R left line ps rest ≡ Ok qs → Listed R ps rest qs
details_only R zero line ps rest qs e =
    let h = passed (line_fault line rest) _ qs e in
    ⊎_elim (λ d. absurd (no_ok _ qs d)) (listed_none R line ps rest qs h.0) (by_either (tagged line (get_or rest 0 0)) _ (closing R line ps rest) qs h.1)
details_only R (suc left) line ps rest qs e =
    let h = passed (line_fault line rest) _ qs e in
    let p = payment_value (take 120 rest) in
    ⊎_elim
    (λ d.
    let step = went_on (agreed R line (take 120 rest)) (λ q. details R left (line + 1) (ps ++ (q ∷ [])) (drop 122 rest)) qs d in
    let proper = passed (payment_fault line (take 120 rest)) _ step.0 step.1 in
    let consent = passed (objected line (R.payment p)) _ step.0 proper.1 in
    let is : p ≡ step.0 = same_ok _ _ consent.1 in
    listed_more R line ps rest qs h.0 proper.0 (unobjected line (R.payment p) consent.0)
    (subst (λ q. Listed R (ps ++ (q ∷ [])) (drop 122 rest) qs) (sym is) (details_only R left (line + 1) (ps ++ (step.0 ∷ [])) (drop 122 rest) qs step.2)))
    (listed_none R line ps rest qs h.0) (by_either (tagged line (get_or rest 0 0)) _ (closing R line ps rest) qs h.1)

-- the trailer's line; that its first byte is a trailer's computes, so the way of a detail is gone
trailer_read : (R : Rules) (line : ℕ) (ps qs : List PaymentOf) → ps ++ [] ≡ qs → Closed R qs → past (line_fault line (trailer_line qs)) (closing R line ps (trailer_line qs)) ≡ Ok qs
trailer_read R line ps qs whole c =
    let rest = trailer_line qs in
    let b : Begins trailer_spelling line rest (totals qs) [] = subst (λ bs. Begins trailer_spelling line bs (totals qs) []) (append-nil rest) (begins trailer_spelling line (totals qs) [] (closed_admitted R qs c)) in
    passes (line_fault line rest) _ qs b.whole (ap (λ xs. closing R line xs rest) (sym (append-nil ps) ∙ whole) ∙ closing_all R line qs rest b c)

-- a payment's line, and what comes after it
detail_read : (R : Rules) (left line : ℕ) (ps : List PaymentOf) (rest : List ℕ) (p : PaymentOf) (more : List ℕ) (qs : List PaymentOf) → Begins payment_spelling line rest p more → R.payment p ≡ None → details R left (line + 1) (ps ++ (p ∷ [])) more ≡ Ok qs → details R (suc left) line ps rest ≡ Ok qs
detail_read R left line ps rest p more qs b consent later =
    let said : agreed R line (take 120 rest) ≡ Ok p =
    passes (payment_fault line (take 120 rest)) _ p b.proper
    (passes (objected line (R.payment (payment_value (take 120 rest)))) _ p (ap (λ q. objected line (R.payment q)) b.says ∙ ap (objected line) consent) (ap Ok b.says)) in
    passes (line_fault line rest) _ qs b.whole
    (by_detail line (get_or rest 0 0) _ _ qs b.first
    ((λ i. and_then (said i) (λ q. details R left (line + 1) (ps ++ (q ∷ [])) (b.then i))) ∙ later))

pub details_all : (R : Rules) (left line : ℕ) (ps more qs : List PaymentOf) → length more ≤ left → ps ++ more ≡ qs → AllByRecursion (Agreed R) more → Closed R qs → details R left line ps (payment_lines more ++ trailer_line qs) ≡ Ok qs
unfolding trailer_bytes
details_all R zero line ps [] qs few whole agreed c = trailer_read R line ps qs whole c
details_all R zero line ps (p ∷ more) qs few whole agreed c = absurd (omega arith)
details_all R (suc left) line ps [] qs few whole agreed c = trailer_read R line ps qs whole c
details_all R (suc left) line ps (p ∷ more) qs few whole agreed c =
    let after = payment_lines more ++ trailer_line qs in
    subst (λ rest. details R (suc left) line ps rest ≡ Ok qs) (sym (append_assoc (line_of (payment_bytes p)) (payment_lines more) (trailer_line qs)))
    (detail_read R left line ps (line_of (payment_bytes p) ++ after) p after qs (begins payment_spelling line p after agreed.0.0) agreed.0.1
    (details_all R left (line + 1) (ps ++ (p ∷ [])) more qs (omega arith) (append_assoc ps (p ∷ []) more ∙ whole) agreed.1 c))
