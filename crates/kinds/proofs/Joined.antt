-- A layout in two parts: what holds of each holds of the whole.
use Rattle.std.proofs.Common.{◌≡◌, ℕ, ◌+◌, List, [], ◌∷◌, ◌++◌, take, drop, Some, None, Option, sym, refl, ap, ◌∙◌, append_assoc, add-zero, add_assoc, arith}
use Rattle.std.proofs.lemmas.List.{take-take, drop-drop, drop-take}
use Rattle.faults.specs.declared.Fault.{Fault}
use Rattle.faults.specs.declared.Place.{Place}
use Rattle.faults.specs.Faults.{right}
use Rattle.kinds.specs.Kinds.{Kind, fault, placed_at}
use Rattle.kinds.specs.Layouts.{Values, size, first_fault, values, form_fault, spelled}
use Rattle.std.specs.Option.{option_or}

abbrev pub both : (l m : List Kind) → Values l → Values m → Values (l ++ m)
both [] m v w = w
both (k ∷ l) m v w = (v.0, both l m v.1 w)

later_assoc : (a b c : Option Fault) → option_or a (option_or b c) ≡ option_or (option_or a b) c
later_assoc None b c = refl
later_assoc (Some f) b c = refl

right_zero : (p : Place) → p ≡ right p 0
right_zero p = ap (λ n. record { line = p.line; column = n }) (sym (add-zero p.column))

right_right : (p : Place) (m n : ℕ) → right (right p m) n ≡ right p (m + n)
right_right p m n = ap (λ c. record { line = p.line; column = c }) (add_assoc p.column m n)

-- the first field of the front, and the rest of it
module _ (k : Kind) (l : List Kind) (bs : List ℕ) where
  front : take k.width (take (k.width + size l) bs) ≡ take k.width bs
  front = take-take k.width (k.width + size l) bs (omega arith)

  rest : drop k.width (take (k.width + size l) bs) ≡ take (size l) (drop k.width bs)
  rest = drop-take k.width (size l) bs

  past : drop (size l) (drop k.width bs) ≡ drop (k.width + size l) bs
  past = drop-drop (size l) k.width bs

pub fault_join : (l m : List Kind) (p : Place) (bs : List ℕ) → first_fault (l ++ m) p bs ≡ option_or (first_fault l p (take (size l) bs)) (first_fault m (right p (size l)) (drop (size l) bs))
fault_join [] m p bs = ap (λ q. first_fault m q bs) (right_zero p)
fault_join (k ∷ l) m p bs =
    let p' = right p k.width in
    let bs' = drop k.width bs in
    (λ i. option_or (placed_at p (fault k (sym (front k l bs) i))) (fault_join l m p' bs' i))
    ∙ (λ i. option_or (placed_at p (fault k (take k.width (take (k.width + size l) bs)))) (option_or (first_fault l p' (sym (rest k l bs) i)) (first_fault m (right_right p k.width (size l) i) (past k l bs i))))
    ∙ later_assoc (placed_at p (fault k (take k.width (take (k.width + size l) bs)))) (first_fault l p' (drop k.width (take (k.width + size l) bs))) (first_fault m (right p (k.width + size l)) (drop (k.width + size l) bs))

pub values_join : (l m : List Kind) (bs : List ℕ) → values (l ++ m) bs ≡ both l m (values l (take (size l) bs)) (values m (drop (size l) bs))
values_join [] m bs = refl
values_join (k ∷ l) m bs =
    (λ i. (k.value (sym (front k l bs) i), values_join l m (drop k.width bs) i))
    ∙ (λ i. (k.value (take k.width (take (k.width + size l) bs)), both l m (values l (sym (rest k l bs) i)) (values m (past k l bs i))))

pub form_join : (l m : List Kind) (p : Place) (v : Values l) (w : Values m) → form_fault (l ++ m) p (both l m v w) ≡ option_or (form_fault l p v) (form_fault m (right p (size l)) w)
form_join [] m p v w = ap (λ q. form_fault m q w) (right_zero p)
form_join (k ∷ l) m p v w =
    ap (option_or (placed_at p (k.wrong v.0))) (form_join l m (right p k.width) v.1 w ∙ ap (λ q. option_or (form_fault l (right p k.width) v.1) (form_fault m q w)) (right_right p k.width (size l)))
    ∙ later_assoc (placed_at p (k.wrong v.0)) (form_fault l (right p k.width) v.1) (form_fault m (right p (k.width + size l)) w)

pub spelled_join : (l m : List Kind) (v : Values l) (w : Values m) → spelled (l ++ m) (both l m v w) ≡ spelled l v ++ spelled m w
spelled_join [] m v w = refl
spelled_join (k ∷ l) m v w = ap (λ xs. k.spell v.0 ++ xs) (spelled_join l m v.1 w) ∙ sym (append_assoc (k.spell v.0) (spelled l v.1) (spelled m w))
