-- What has been read of a file before a line, and what each step comes to.
use Rattle.std.proofs.Common.{◌≡◌, ℕ, zero, suc, ◌+◌, ◌-◌, ◌^◌, ◌≤◌, true, ltb, leb, List, [], ◌∷◌, ◌++◌, length, get_or, take, drop, Some, None, Ok, Err, Result, sym, refl, ap, ◌∙◌, subst, arith}
use Rattle.std.specs.List.{AllByRecursion}
use Rattle.std.proofs.ByRecursion.{All-push, All-weaker}
use Rattle.std.proofs.lemmas.List.{length_push}
use Rattle.std.proofs.lemmas.Bool.{ltb-true}
use Rattle.faults.specs.declared.Cause.TheVariants.{TooManyDetails, TooWide, NoSuchValue, Empty}
use Rattle.faults.specs.declared.Fault.{Fault}
use Rattle.kinds.specs.Kinds.{answered, map_ok}
use Rattle.kinds.specs.Admitted.{unless_false}
use Rattle.fields.specs.Laws.Numbers.{unless_none}
use Rattle.fields.specs.Numbers.{in_table, whole, unless}
use Rattle.kinds.proofs.Answers.{stopped}
use Rattle.kinds.proofs.Forms.{each_admitted}
use Rattle.lines.specs.declared.Tag.{Tag}
use Rattle.lines.specs.declared.Tag.TheVariants.{Detail, Trailer as IsTrailer}
use Rattle.faults.specs.Faults.{fault_at}
use Rattle.lines.specs.Lines.{line_fault, tagged, cut}
use Rattle.payments.specs.Payments.{PaymentOf, payment_form, payment_fault, payment_value, payment_wrong}
use Rattle.payments.specs.Laws.{payment_lawful}
use Rattle.houses.specs.Rules.{Rules}
use Rattle.tally.specs.Tallies.{TallyOf, tallied, with_payment}
use Rattle.tally.proofs.Tallied.{tallied_more}
use Rattle.reading.specs.ByTally.{tally_closing}
use Rattle.reading.specs.Reading.{past, and_then, by_tag, objected, opening, agreed, details, closing, read_of, summed}
use Rattle.reading.proofs.Closings.{closing_tallied}
use Rattle.reading.proofs.Cuts.{no_line_fault, number_is, columns_are, after_is, first_byte}
use Rattle.reading.proofs.Passed.{passed, same_ok, went_well, went_wrong}
use Rattle.reading.proofs.Spelled.{payment_spelling}
use Rattle.reading.proofs.Taken.{taken_admitted}

-- a payment that was read has a code of the table and at most ten digits
abbrev pub Sane : PaymentOf → Type 0
Sane p = (p.cents ≤ 9999999999) × (in_table p.code ≡ true)

pub sane_payment : (p : PaymentOf) → payment_wrong p ≡ None → Sane p
unfolding payment_wrong
sane_payment p h =
    let fields = each_admitted payment_form payment_lawful p h in
    let code = unless_false (ltb p.code 100) (whole TooWide) (unless (in_table p.code) NoSuchValue) fields.1.1.1.1.0 in
    let cents = unless_false (ltb p.cents (10 ^ 10)) (whole TooWide) (unless (leb 1 p.cents) Empty) fields.1.1.1.1.1.0 in
    (omega (arith, ltb-true p.cents (10 ^ 10) cents.0), unless_none (in_table p.code) NoSuchValue code.1)

-- the payments before a line
pub record Sofar (R : Rules) (file : List ℕ) (line : ℕ) (rest : List ℕ) (t : TallyOf) : Type 0 where
  pub payments : List PaymentOf
  pub reading : read_of R file ≡ details R (1000001 - line) line payments rest
  pub tally : t ≡ tallied payments
  pub count : length payments + 2 ≡ line
  pub most : line ≤ 1000001
  pub sane : AllByRecursion Sane payments

module _ (R : Rules) (file : List ℕ) where
  pub started : (rest : List ℕ) (t : TallyOf) → Ok rest ≡ opening R file → t ≡ tallied [] → Sofar R file 2 rest t
  unfolding read_of
  started rest t h e = record {
    payments = [];
    reading = went_well (opening R file) (details R 999999 2 []) rest h;
    tally = e;
    count = refl;
    most = omega arith;
    sane = tt;
  }

-- the step that a detail is
abbrev another : Rules → ℕ → List ℕ → List PaymentOf → ℕ → Result (List PaymentOf) Fault
another R line rest ps left = and_then (agreed R line (take 120 rest)) (λ p. details R left (line + 1) (ps ++ (p ∷ [])) (drop 122 rest))

-- a line, by what comes of a detail there
abbrev at_line : Rules → ℕ → List ℕ → List PaymentOf → Result (List PaymentOf) Fault → Result (List PaymentOf) Fault
at_line R line rest ps detail = past (line_fault line rest) (by_tag (tagged line (get_or rest 0 0)) detail (closing R line ps rest))

-- a step of what is left, whatever comes of a detail there
module _ (R : Rules) (line : ℕ) (rest : List ℕ) (ps : List PaymentOf) (detail : Result (List PaymentOf) Fault) where
  no_line : (f : Fault) → line_fault line rest ≡ Some f → Err f ≡ at_line R line rest ps detail
  no_line f h = sym (ap (λ o. past o (by_tag (tagged line (get_or rest 0 0)) detail (closing R line ps rest))) h)

  module _ (t : Result Tag Fault) (whole_line : line_fault line rest ≡ None) (h : t ≡ tagged line (get_or rest 0 0)) where
    tag_here : by_tag t detail (closing R line ps rest) ≡ at_line R line rest ps detail
    tag_here = (λ i. by_tag (h i) detail (closing R line ps rest)) ∙ sym (ap (λ o. past o (by_tag (tagged line (get_or rest 0 0)) detail (closing R line ps rest))) whole_line)

-- what is left is such a step, whether or not a detail may still come
details_are : (R : Rules) (left line : ℕ) (ps : List PaymentOf) (rest : List ℕ) → (detail : Result (List PaymentOf) Fault) × (details R left line ps rest ≡ at_line R line rest ps detail)
details_are R zero line ps rest = (Err (fault_at TooManyDetails line 1), refl)
details_are R (suc left) line ps rest = (another R line rest ps left, refl)

module _ (R : Rules) (file : List ℕ) (line : ℕ) (rest : List ℕ) (t : TallyOf) (s : Sofar R file line rest t) where
  abbrev step : (detail : Result (List PaymentOf) Fault) × (details R (1000001 - line) line s.payments rest ≡ at_line R line rest s.payments detail)
  step = details_are R (1000001 - line) line s.payments rest

  reads : read_of R file ≡ at_line R line rest s.payments step.0
  reads = s.reading ∙ step.1

  pub line_refused : (f : Fault) → Err f ≡ answered (line_fault line rest) (cut line rest) → Err f ≡ map_ok summed (read_of R file)
  line_refused f h = ap (map_ok summed) (no_line R line rest s.payments step.0 f (stopped _ _ f h) ∙ sym reads)

  module _ (n : ℕ) (cols after : List ℕ) (h : Ok ((n, cols), after) ≡ answered (line_fault line rest) (cut line rest)) where
    whole_line : line_fault line rest ≡ None
    whole_line = no_line_fault line rest n cols after h

    tagged_so : (t : Result Tag Fault) → t ≡ tagged n (get_or cols 0 0) → t ≡ tagged line (get_or rest 0 0)
    tagged_so t k = k ∙ (λ i. tagged (number_is line rest n cols after h i) (first_byte line rest n cols after h i))

    pub tag_refused : (f : Fault) → Err f ≡ tagged n (get_or cols 0 0) → Err f ≡ map_ok summed (read_of R file)
    tag_refused f k = ap (map_ok summed) (tag_here R line rest s.payments step.0 (Err f) whole_line (tagged_so (Err f) k) ∙ sym reads)

    pub at_trailer : Ok IsTrailer ≡ tagged n (get_or cols 0 0) → tally_closing R n t cols after ≡ map_ok summed (read_of R file)
    at_trailer k =
        (λ i. tally_closing R (number_is line rest n cols after h i) (s.tally i) (columns_are line rest n cols after h i) (after_is line rest n cols after h i))
        ∙ closing_tallied R line s.payments rest (All-weaker Sane _ (λ p x. x.1) s.payments s.sane)
        ∙ ap (map_ok summed) (tag_here R line rest s.payments step.0 (Ok IsTrailer) whole_line (tagged_so (Ok IsTrailer) k) ∙ sym reads)

    module _ (k : Ok Detail ≡ tagged n (get_or cols 0 0)) where
      -- the line after the last that a detail may stand on
      pub too_many : 1000001 ≤ line → Err (fault_at TooManyDetails line 1) ≡ map_ok summed (read_of R file)
      too_many past_most =
          let none : 1000001 - line ≡ 0 = omega (arith, s.most) in
          ap (map_ok summed) (tag_here R line rest s.payments (Err (fault_at TooManyDetails line 1)) (Ok Detail) whole_line (tagged_so (Ok Detail) k)
          ∙ sym (s.reading ∙ ap (λ left. details R left line s.payments rest) none))

      module _ (room : line ≤ 1000000) where
        one_less : 1000001 - line ≡ suc (1000000 - line)
        one_less = omega arith

        on : read_of R file ≡ another R line rest s.payments (1000000 - line)
        on = s.reading ∙ ap (λ left. details R left line s.payments rest) one_less ∙ sym (tag_here R line rest s.payments (another R line rest s.payments (1000000 - line)) (Ok Detail) whole_line (tagged_so (Ok Detail) k))

        abbrev next : PaymentOf → Result (List PaymentOf) Fault
        next p = details R (1000000 - line) (line + 1) (s.payments ++ (p ∷ [])) (drop 122 rest)

        abbrev bs : List ℕ
        bs = take 120 rest

        pub detail_refused : (f : Fault) → Err f ≡ agreed R n cols → Err f ≡ map_ok summed (read_of R file)
        detail_refused f m =
            let here = m ∙ (λ i. agreed R (number_is line rest n cols after h i) (columns_are line rest n cols after h i)) in
            ap (map_ok summed) (went_wrong (agreed R line bs) next f here ∙ sym on)

        module _ (p : PaymentOf) (m : Ok p ≡ agreed R n cols) where
          here : ◌≡◌ {A = Result PaymentOf Fault} (Ok p) (agreed R line bs)
          here = m ∙ (λ i. agreed R (number_is line rest n cols after h i) (columns_are line rest n cols after h i))

          goes_on : read_of R file ≡ next p
          goes_on = on ∙ went_well (agreed R line bs) next p here

          sane_here : Sane p
          sane_here =
              let steps = passed (payment_fault line bs) _ p (sym here) in
              let is : payment_value bs ≡ p = same_ok _ _ (passed (objected line (R.payment (payment_value bs))) _ p steps.1).1 in
              subst Sane is (sane_payment (payment_value bs) (taken_admitted payment_spelling line rest whole_line steps.0))

          pub one_more : (t' : TallyOf) → t' ≡ with_payment t p → Sofar R file (line + 1) after t'
          one_more t' e = record {
            payments = s.payments ++ (p ∷ []);
            reading =
                let left : 1000000 - line ≡ 1000001 - (line + 1) = omega arith in
                goes_on ∙ (λ i. details R (left i) (line + 1) (s.payments ++ (p ∷ [])) (sym (after_is line rest n cols after h) i));
            tally =
                e ∙ ap (λ t. with_payment t p) s.tally ∙ tallied_more s.payments p (omega (arith, s.count)) (All-weaker Sane _ (λ q x. x.0) s.payments s.sane) sane_here.0;
            count = omega (arith, length_push s.payments p, s.count);
            most = omega arith;
            sane = All-push Sane s.payments p s.sane sane_here;
          }
