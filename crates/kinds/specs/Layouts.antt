-- A record as a row of fields.
use Rattle.std.specs.Prelude.{◌≡◌, ℕ, ◌+◌, List, [], ◌∷◌, ◌++◌, length, take, drop, None, Option}
use Rattle.std.specs.Option.{option_or}
use Rattle.faults.specs.declared.Fault.{Fault}
use Rattle.faults.specs.declared.Place.{Place}
use Rattle.faults.specs.Faults.{right}
use Rattle.kinds.specs.Kinds.{Kind, Lawful, InField, fault, placed_at}

abbrev pub Values : List Kind → Type 0
Values [] = Unit {0}
Values (k ∷ l) = k.Value × Values l

abbrev pub size : List Kind → ℕ
size [] = 0
size (k ∷ l) = k.width + size l

abbrev pub AllLawful : List Kind → Type 0
AllLawful [] = Unit {0}
AllLawful (k ∷ l) = Lawful k × AllLawful l

abbrev pub AllInField : List Kind → Type 0
AllInField [] = Unit {0}
AllInField (k ∷ l) = InField k × AllInField l

-- the fault of the first faulty field in column order, the first field beginning at the place
abbrev pub first_fault : List Kind → Place → List ℕ → Option Fault
first_fault [] p bs = None
first_fault (k ∷ l) p bs = option_or (placed_at p (fault k (take k.width bs))) (first_fault l (right p k.width) (drop k.width bs))

abbrev pub values : (l : List Kind) → List ℕ → Values l
values [] bs = tt
values (k ∷ l) bs = (k.value (take k.width bs), values l (drop k.width bs))

-- the same of a form: what the first wrong value in column order is refused for
abbrev pub form_fault : (l : List Kind) → Place → Values l → Option Fault
form_fault [] p v = None
form_fault (k ∷ l) p v = option_or (placed_at p (k.wrong v.0)) (form_fault l (right p k.width) v.1)

abbrev pub spelled : (l : List Kind) → Values l → List ℕ
spelled [] v = []
spelled (k ∷ l) v = k.spell v.0 ++ spelled l v.1

-- each value is one that its kind admits
abbrev pub Admitted : (l : List Kind) → Values l → Type 0
Admitted [] v = Unit {0}
Admitted (k ∷ l) v = (k.wrong v.0 ≡ None) × Admitted l v.1

-- the first column of a line
abbrev pub start : ℕ → Place
start line = record { line = line; column = 1 }

-- what is read is spelled back, and what is spelled reads back
pub record RoundTrip (l : List Kind) : Type 0 where
  pub read_admitted : (p : Place) (bs : List ℕ) → length bs ≡ size l → first_fault l p bs ≡ None → Admitted l (values l bs)
  pub read_spelled : (p : Place) (bs : List ℕ) → length bs ≡ size l → first_fault l p bs ≡ None → spelled l (values l bs) ≡ bs
  pub spelled_size : (v : Values l) → Admitted l v → length (spelled l v) ≡ size l
  pub spelled_proper : (p : Place) (v : Values l) → Admitted l v → first_fault l p (spelled l v) ≡ None
  pub spelled_read : (v : Values l) → Admitted l v → values l (spelled l v) ≡ v
  -- a form that is refused for nothing is one of admitted values
  pub judged : (p : Place) (v : Values l) → form_fault l p v ≡ None → Admitted l v
  pub unjudged : (p : Place) (v : Values l) → Admitted l v → form_fault l p v ≡ None
