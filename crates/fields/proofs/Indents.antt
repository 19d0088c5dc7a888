-- The indent of an account as the place of its first byte that is not blank.
use Rattle.std.proofs.Common.{◌≡◌, ℕ, true, false, not, List, [], ◌∷◌, length, eqb, ap, refl, ◌+◌, cond, nat_lt, inl, inr, arith, unwrap_or}
use Rattle.std.specs.List.{position, position_or_len}
use Rattle.std.proofs.lemmas.Bool.{cases_Bool, ltb-false}
use Rattle.std.proofs.lemmas.List.Sums.{prefix_len-le-length}
use Rattle.fields.specs.Texts.{is_blank, indent}

or_len : (bs : List ℕ) → position_or_len (λ b. not (eqb b 32)) bs ≡ indent bs
or_len [] = refl
or_len (b ∷ bs) = elim (eqb b 32) as (λ t. cond (not (not t)) (1 + position_or_len (λ b. not (eqb b 32)) bs) 0 ≡ cond t (1 + indent bs) 0) [ true ↦ ap (λ n. 1 + n) (or_len bs) | false ↦ refl ]

pub indent_found : (bs : List ℕ) → unwrap_or (position (λ b. not (eqb b 32)) bs) (length bs) ≡ indent bs
indent_found bs =
    let same = or_len bs in
    let within = prefix_len-le-length is_blank bs in
    elim (cases_Bool (nat_lt (position_or_len (λ b. not (eqb b 32)) bs) (length bs))) [
      | inl e ↦ rw e same
      | inr e ↦ rw e (omega (arith, ltb-false _ _ e))
    ]
