-- Where a text ends.
use Rattle.std.specs.Prelude.{◌≡◌, ℕ, zero, suc, ◌+◌, ◌-◌, ◌<◌, ◌≤◌, true, false, cond, List, [], ◌∷◌, ◌++◌, length, take, replicate, slice_index, slice_index_or, refl}
use Rattle.std.proofs.Common.{sym, ap, ◌∙◌, append-nil, append_assoc, inl, inr, add-zero, arith, take-suc}
use Rattle.std.proofs.Math.Nat.{sub_self}
use Rattle.std.proofs.lemmas.List.{replicate_more, get_or_append_left, get_or-append-add, get_or-replicate}
use Rattle.std.proofs.lemmas.Bool.{cases_Bool, cond-true, cond-false, eq-eqb, eqb-true}
use Rattle.fields.specs.Texts.{is_blank, text_end}

module _ (bs : List ℕ) where
  -- one column at a time: a blank is passed, and any other byte is the last
  pub end_passes : (n m : ℕ) → n ≡ suc m → slice_index bs m ≡ 32 → text_end bs n ≡ text_end bs m
  end_passes n m e h = rw e (cond-true _ _ _ (eq-eqb _ _ h))

  pub end_stops : (n m : ℕ) → n ≡ suc m → is_blank (slice_index bs m) ≡ false → text_end bs n ≡ n
  end_stops n m e h = rw e (cond-false _ _ _ h)

  pub end_le : (n : ℕ) → text_end bs n ≤ n
  end_le zero = omega arith
  end_le (suc n) = elim (is_blank (slice_index bs n)) as (λ t. cond t (text_end bs n) (suc n) ≤ suc n) [ true ↦ omega (arith, end_le n) | false ↦ omega arith ]

  -- the byte before the end is not blank
  pub end_again : (n : ℕ) → text_end bs (text_end bs n) ≡ text_end bs n
  end_again zero = refl
  end_again (suc n) = elim (cases_Bool (is_blank (slice_index bs n))) [ inl e ↦ rw e (end_again n) | inr e ↦ rw e (cond-false _ _ _ e) ]

  pub last_stands : (n m : ℕ) → n ≡ suc m → text_end bs n ≡ n → is_blank (slice_index bs m) ≡ false
  last_stands n m e h = elim (cases_Bool (is_blank (slice_index bs m))) [ inl t ↦ let past : text_end bs n ≡ text_end bs m = rw e (cond-true _ _ _ t) in absurd (omega (arith, end_le m)) | inr f ↦ f ]

  -- what follows the end is blank
  pub blanks_follow : (n : ℕ) → n ≤ length bs → take n bs ≡ take (text_end bs n) bs ++ replicate (n - text_end bs n) 32
  blanks_follow zero h = refl
  blanks_follow (suc n) h = elim (cases_Bool (is_blank (slice_index bs n))) [
    | inl e ↦ let t = text_end bs n in
        let more : n - t + 1 ≡ suc n - t = omega (arith, end_le n) in
        let last : take (suc n) bs ≡ take n bs ++ 32 ∷ [] = take-suc bs n 0 h ∙ ap (λ b. take n bs ++ b ∷ []) (eqb-true (slice_index bs n) 32 e) in
        rw (e, last, blanks_follow n (omega arith), append_assoc, replicate_more) (ap (λ m. take t bs ++ replicate m 32) more)
    | inr e ↦ rw (e, sub_self) (sym (append-nil (take (suc n) bs)))
  ]

-- the end is that of the columns alone
pub end_front : (xs ys : List ℕ) (n : ℕ) → n ≤ length xs → text_end (xs ++ ys) n ≡ text_end xs n
end_front xs ys zero h = refl
end_front xs ys (suc n) h =
    let below : n < length xs = omega arith in
    let rest : text_end (xs ++ ys) n ≡ text_end xs n = end_front xs ys n (omega arith) in
    rw (get_or_append_left xs ys 0 n below, rest)

-- blanks that follow a text leave its end
past_blanks : (xs : List ℕ) (k n : ℕ) → n ≤ k → text_end (xs ++ replicate k 32) (length xs + n) ≡ text_end (xs ++ replicate k 32) (length xs)
past_blanks xs k zero h = rw add-zero
past_blanks xs k (suc n) h =
    let blank : slice_index_or (xs ++ replicate k 32) (length xs + n) 0 ≡ 32 = get_or-append-add xs (replicate k 32) n 0 ∙ get_or-replicate k n 32 0 h in
    end_passes (xs ++ replicate k 32) _ (length xs + n) (omega arith) blank ∙ past_blanks xs k n (omega arith)

pub end_filled : (xs : List ℕ) (k : ℕ) → text_end (xs ++ replicate k 32) (length xs + k) ≡ text_end xs (length xs)
end_filled xs k = past_blanks xs k k (omega arith) ∙ end_front xs (replicate k 32) (length xs) (omega arith)
