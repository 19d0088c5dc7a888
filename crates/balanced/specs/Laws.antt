-- Proofs that the balanced house's rules are sound. They stand here, since the house cites them; nothing here need be believed.
use Rattle.std.specs.Prelude.{◌≡◌, ℕ, ◌+◌, ◌≤◌, ◌||◌, List, length, take, Some, None, codes, Option, ◌==◌, nat_lt}
use Rattle.std.proofs.Common.{ap, refl, arith, length-take}
use Rattle.std.specs.Str.{bytes_eq}
use Rattle.std.proofs.lemmas.List.{take_all}
use Rattle.std.proofs.lemmas.Bool.{ltb-false}
use Rattle.std.proofs.lemmas.List.Quantifiers.{position-Some}
use Rattle.kinds.specs.Admitted.{unless_true}
use Rattle.fields.specs.Texts.{text_kind}
use Rattle.houses.specs.Laws.{Fair, Reason, fair_none, fair_cond, fair_or, fair_map, fair_no, fair_reason}
use Rattle.houses.specs.Rules.{Sensible, Sound}
use Rattle.tally.specs.Tallies.{LastOf, TallyOf, rows_credit, rows_debit, side_count}
use Rattle.balanced.specs.Balanced.{balanced_rules, balanced_last, in_text, semicolon, settles}

fair_semicolon : (column : ℕ) (bs : List ℕ) → 1 ≤ column → column + length bs ≤ 121 → Fair Sensible (semicolon column bs)
fair_semicolon column bs low high = fair_map Sensible _ _ (λ i at. let first = position-Some (λ b. b == 59) bs i 0 at in (omega arith, omega arith, omega arith, omega (arith, first.0)))

fair_text : (column width : ℕ) (text : List ℕ) → 1 ≤ column → column + width ≤ 121 → Fair Sensible (in_text column width text)
fair_text column width text low high = fair_semicolon column (take width text) low (simp length-take (omega arith))

-- a text that its kind admits is looked at whole
pub whole_text : (column width : ℕ) (text : List ℕ) → (text_kind width).wrong text ≡ None → in_text column width text ≡ semicolon column text
whole_text column width text admitted =
    ap (semicolon column) (take_all width text (ltb-false width (length text) (unless_true (nat_lt width (length text)) _ _ admitted).0))

module _ (bsb : ℕ) (account : List ℕ) where
  fair_last : (t : TallyOf) (last : Option LastOf) → Fair Reason (balanced_last bsb account t last)
  fair_last t None = fair_reason 5 refl
  fair_last t (Some last) =
      fair_cond Reason (settles bsb account last) _ _ (fair_cond Reason (side_count t.rows last.code == 1) _ _ (fair_none Reason) (fair_reason 6 refl)) (fair_reason 5 refl)

  pub balanced_sound : Sound (balanced_rules bsb account)
  balanced_sound = record {
    header = λ h.
        let texts = fair_or Sensible _ _ (fair_text 31 26 h.user_name (omega arith) (omega arith)) (fair_text 63 12 h.description (omega arith) (omega arith)) in
        fair_cond Sensible (bytes_eq h.bank (codes "BQL")) _ _ texts (fair_no 1 21 refl);
    payment = λ p.
        let front = fair_or Sensible _ _ (fair_text 31 32 p.title (omega arith) (omega arith)) (fair_text 63 18 p.reference (omega arith) (omega arith)) in
        let texts = fair_or Sensible _ _ front (fair_text 97 16 p.remitter (omega arith) (omega arith)) in
        fair_cond Sensible (p.code == 51 || p.code == 52) _ _ (fair_no 2 19 refl) texts;
    tally = λ t. fair_cond Reason (rows_credit t.rows == rows_debit t.rows) _ _ (fair_last t t.last) (fair_reason 4 refl);
  }
