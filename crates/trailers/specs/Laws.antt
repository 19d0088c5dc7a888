-- A trailer is a lawful form, and what is wrong with a field of it stands in that field, or right behind it.
use Rattle.std.specs.Prelude.{refl}
use Rattle.fields.specs.Laws.Fixed.{fixed_lawful, fixed_in_field}
use Rattle.fields.specs.Laws.Numbers.{number_lawful, number_in_field}
use Rattle.kinds.specs.Forms.{LawfulForm}
use Rattle.kinds.specs.Layouts.{AllInField}
use Rattle.trailers.specs.Trailers.{trailer_form}

pub trailer_lawful : LawfulForm trailer_form
trailer_lawful = record {
  lawful = (fixed_lawful _, (number_lawful 10 0, (number_lawful 10 0, (number_lawful 10 0, (fixed_lawful _, (number_lawful 6 0, (fixed_lawful _, tt)))))));
  wide = refl;
  fields_said = λ _. refl;
  said_fields = λ _. refl;
  flaw_anywhere = λ _ _ _ none. none;
}

pub trailer_in_field : AllInField trailer_form.row
trailer_in_field = (fixed_in_field _, (number_in_field 10 0, (number_in_field 10 0, (number_in_field 10 0, (fixed_in_field _, (number_in_field 6 0, (fixed_in_field _, tt)))))))
