-- A layout of lawful kinds reads back what it spells, and spells back what it reads.
use Rattle.std.proofs.Common.{◌≡◌, ℕ, ◌+◌, List, [], ◌∷◌, ◌++◌, length, take, drop, Some, None, Option, sym, refl, ap, ◌∙◌, arith, length-append, length-drop, take-append-drop, length-take}
use Rattle.std.proofs.lemmas.List.{take_at, drop_at, nil_from_length}
use Rattle.std.specs.Option.{option_or}
use Rattle.faults.specs.declared.Fault.{Fault}
use Rattle.faults.specs.declared.Place.{Place}
use Rattle.faults.specs.declared.Misfit.{Misfit}
use Rattle.faults.specs.Faults.{right}
use Rattle.kinds.specs.Kinds.{Kind, Lawful, fault, placed_at}
use Rattle.kinds.specs.Layouts.{Values, AllLawful, Admitted, RoundTrip, size, first_fault, values, form_fault, spelled}
use Rattle.kinds.proofs.Answers.{unplaced}

pub none_first : (a b : Option Fault) → option_or a b ≡ None → (a ≡ None) × (b ≡ None)
none_first None b h = (refl, h)
none_first (Some m) b h = absurd cc

none_both : (p : Place) (a : Option Misfit) (b : Option Fault) → a ≡ None → b ≡ None → option_or (placed_at p a) b ≡ None
none_both p a b ha hb = rw (ha, hb) refl

module _ (k : Kind) (l : List Kind) (bs : List ℕ) (long : length bs ≡ k.width + size l) where
  front_length : length (take k.width bs) ≡ k.width
  front_length = simp length-take (omega arith)

  rest_length : length (drop k.width bs) ≡ size l
  rest_length = simp length-drop (omega arith)

read_admitted : (l : List Kind) → AllLawful l → (p : Place) (bs : List ℕ) → length bs ≡ size l → first_fault l p bs ≡ None → Admitted l (values l bs)
read_admitted [] ok p bs long h = tt
read_admitted (k ∷ l) ok p bs long h =
    let none = none_first _ _ h in
    (ok.0.value_admitted _ (front_length k l bs long) (unplaced p _ none.0), read_admitted l ok.1 (right p k.width) (drop k.width bs) (rest_length k l bs long) none.1)

read_spelled : (l : List Kind) → AllLawful l → (p : Place) (bs : List ℕ) → length bs ≡ size l → first_fault l p bs ≡ None → spelled l (values l bs) ≡ bs
read_spelled [] ok p bs long h = sym (nil_from_length bs long)
read_spelled (k ∷ l) ok p bs long h =
    let none = none_first _ _ h in
    let here = ok.0.written_back (take k.width bs) (front_length k l bs long) (unplaced p _ none.0) in
    let later = read_spelled l ok.1 (right p k.width) (drop k.width bs) (rest_length k l bs long) none.1 in
    (λ i. here i ++ later i) ∙ take-append-drop k.width bs

spelled_size : (l : List Kind) → AllLawful l → (v : Values l) → Admitted l v → length (spelled l v) ≡ size l
spelled_size [] ok v h = refl
spelled_size (k ∷ l) ok v h = length-append (k.spell v.0) (spelled l v.1) ∙ (λ i. ok.0.spelled_width v.0 h.0 i + spelled_size l ok.1 v.1 h.1 i)

module _ (k : Kind) (l : List Kind) (ok : Lawful k) (v : k.Value) (rest : List ℕ) (h : k.wrong v ≡ None) where
  front : take k.width (k.spell v ++ rest) ≡ k.spell v
  front = take_at _ _ _ (ok.spelled_width v h)

  back : drop k.width (k.spell v ++ rest) ≡ rest
  back = drop_at _ _ _ (ok.spelled_width v h)

spelled_proper : (l : List Kind) → AllLawful l → (p : Place) (v : Values l) → Admitted l v → first_fault l p (spelled l v) ≡ None
spelled_proper [] ok p v h = refl
spelled_proper (k ∷ l) ok p v h =
    let rest = spelled l v.1 in
    none_both p _ _
    (ap (fault k) (front k l ok.0 v.0 rest h.0) ∙ ok.0.spelled_proper v.0 h.0)
    (ap (first_fault l (right p k.width)) (back k l ok.0 v.0 rest h.0) ∙ spelled_proper l ok.1 (right p k.width) v.1 h.1)

spelled_read : (l : List Kind) → AllLawful l → (v : Values l) → Admitted l v → values l (spelled l v) ≡ v
spelled_read [] ok v h = refl
spelled_read (k ∷ l) ok v h =
    let rest = spelled l v.1 in
    let here = ap k.value (front k l ok.0 v.0 rest h.0) ∙ ok.0.read_back v.0 h.0 in
    let later = ap (values l) (back k l ok.0 v.0 rest h.0) ∙ spelled_read l ok.1 v.1 h.1 in
    (λ i. (here i, later i))

pub judged : (l : List Kind) (p : Place) (v : Values l) → form_fault l p v ≡ None → Admitted l v
judged [] p v h = tt
judged (k ∷ l) p v h = let none = none_first _ _ h in (unplaced p _ none.0, judged l (right p k.width) v.1 none.1)

unjudged : (l : List Kind) (p : Place) (v : Values l) → Admitted l v → form_fault l p v ≡ None
unjudged [] p v h = refl
unjudged (k ∷ l) p v h = none_both p _ _ h.0 (unjudged l (right p k.width) v.1 h.1)

pub round_trip : (l : List Kind) → AllLawful l → RoundTrip l
round_trip l ok = record {
  read_admitted = read_admitted l ok;
  read_spelled = read_spelled l ok;
  spelled_size = spelled_size l ok;
  spelled_proper = spelled_proper l ok;
  spelled_read = spelled_read l ok;
  judged = judged l;
  unjudged = unjudged l;
}
