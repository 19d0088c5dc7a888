-- A payment is a lawful form, and what is wrong with a field of it stands in that field, or right behind it.
use Rattle.std.specs.Prelude.{◌≡◌, ℕ, Bool, true, false, cond, Some, None, refl}
use Rattle.faults.specs.declared.Cause.TheVariants.{NoSuchValue, TaxUnmarked}
use Rattle.faults.specs.Faults.{fault_at}
use Rattle.fields.specs.Laws.Accounts.{account_lawful, account_in_field}
use Rattle.fields.specs.Laws.Dates.{bsb_lawful, bsb_in_field}
use Rattle.fields.specs.Laws.Fixed.{fixed_lawful, fixed_in_field}
use Rattle.fields.specs.Laws.Numbers.{numeral_lawful, numeral_in_field, number_lawful, number_in_field}
use Rattle.fields.specs.Laws.Texts.{text_lawful, text_in_field, mark_lawful, mark_in_field}
use Rattle.fields.specs.Numbers.{in_table}
use Rattle.kinds.specs.Forms.{LawfulForm}
use Rattle.kinds.specs.Layouts.{AllInField}
use Rattle.payments.specs.Payments.{payment_form}

-- whether tax stands beside its mark does not depend on the line
tax_anywhere : (t : Bool) (i j : ℕ) → cond t None (Some (fault_at TaxUnmarked i 113)) ≡ None → cond t None (Some (fault_at TaxUnmarked j 113)) ≡ None
tax_anywhere true i j none = refl
tax_anywhere false i j none = absurd cc

pub payment_lawful : LawfulForm payment_form
payment_lawful = record {
  lawful = (
    fixed_lawful _,
    (
      bsb_lawful,
      (
        account_lawful,
        (
          mark_lawful,
          (
            numeral_lawful 2 in_table NoSuchValue,
            (
              number_lawful 10 1,
              (
                text_lawful 32,
                (text_lawful 18, (bsb_lawful, (account_lawful, (text_lawful 16, (number_lawful 8 0, tt))))),
              ),
            ),
          ),
        ),
      ),
    ),
  );
  wide = refl;
  fields_said = λ _. refl;
  said_fields = λ _. refl;
  flaw_anywhere = λ i j _ none. tax_anywhere _ i j none;
}

pub payment_in_field : AllInField payment_form.row
payment_in_field = (
  fixed_in_field _,
  (
    bsb_in_field,
    (
      account_in_field,
      (
        mark_in_field,
        (
          numeral_in_field 2 in_table NoSuchValue,
          (
            number_in_field 10 1,
            (
              text_in_field 32,
              (text_in_field 18, (bsb_in_field, (account_in_field, (text_in_field 16, (number_in_field 8 0, tt))))),
            ),
          ),
        ),
      ),
    ),
  ),
)
