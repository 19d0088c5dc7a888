-- The law of fixed bytes.
use Rattle.std.proofs.Common.{sym, zero-add, arith}
use Rattle.std.specs.Prelude.{ℕ, List, length, None, nat_lt, refl}
use Rattle.std.proofs.lemmas.List.{ext_get_or}
use Rattle.std.proofs.lemmas.Bool.{and_from, and_parts, eq-eqb, eqb-true, lt-ltb}
use Rattle.kinds.specs.Kinds.{Lawful, InField}
use Rattle.fields.specs.Texts.{fixed_kind}
use Rattle.kinds.specs.Admitted.{all_admitted, none_refused, all_at, all_from}

pub fixed_lawful : (given : List ℕ) → Lawful (fixed_kind given)
fixed_lawful given = record {
  spelled_width = λ v h. refl;
  spelled_proper = λ v h. all_admitted (fixed_kind given).admits 0 given None (all_from _ 0 given (λ j less. rw zero-add (and_from _ _ (lt-ltb _ _ less) (eq-eqb _ _ refl))));
  read_back = λ v h. refl;
  value_admitted = λ bs w h. refl;
  written_back = λ bs w h.
      let all = (none_refused (fixed_kind given).admits 0 bs None h).0 in
      ext_get_or 0 given bs (sym w) (λ j less. sym (eqb-true _ _ (and_parts (nat_lt j (length given)) _ (rw zero-add at (all_at _ 0 bs j (omega arith) all))).1));
}

pub fixed_in_field : (given : List ℕ) → InField (fixed_kind given)
fixed_in_field given = record {
  flaw_within = λ bs w. tt;
  wrong_within = λ v. tt;
}
