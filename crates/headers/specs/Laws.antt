-- A header is a lawful form, and what is wrong with a field of it stands in that field, or right behind it.
use Rattle.std.specs.Prelude.{refl}
use Rattle.fields.specs.Laws.Dates.{date_lawful, date_in_field}
use Rattle.fields.specs.Laws.Fixed.{fixed_lawful, fixed_in_field}
use Rattle.fields.specs.Laws.Numbers.{number_lawful, number_in_field}
use Rattle.fields.specs.Laws.Texts.{text_lawful, text_in_field}
use Rattle.kinds.specs.Forms.{LawfulForm}
use Rattle.kinds.specs.Layouts.{AllInField}
use Rattle.headers.specs.Headers.{header_form}

pub header_lawful : LawfulForm header_form
header_lawful = record {
  lawful = (fixed_lawful _, (text_lawful 3, (fixed_lawful _, (text_lawful 26, (number_lawful 6 0, (text_lawful 12, (date_lawful, (fixed_lawful _, tt))))))));
  wide = refl;
  fields_said = λ _. refl;
  said_fields = λ _. refl;
  flaw_anywhere = λ _ _ _ none. none;
}

pub header_in_field : AllInField header_form.row
header_in_field = (fixed_in_field _, (text_in_field 3, (fixed_in_field _, (text_in_field 26, (number_in_field 6 0, (text_in_field 12, (date_in_field, (fixed_in_field _, tt))))))))
