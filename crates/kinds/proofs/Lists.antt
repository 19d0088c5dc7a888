-- What a slice holds after its end has been written over.
use Rattle.std.proofs.Common.{◌≡◌, ℕ, ◌+◌, ◌-◌, ◌≤◌, List, ◌++◌, length, drop, replicate, sym, ap, ◌∙◌, append_assoc, append-nil, arith, length-append, length-drop}
use borrow.Rule.Slice.PartMut.{put_mid}
use lib.ListN.{length-replicate}
use Rattle.std.proofs.lemmas.List.{take_at, drop_at, drop_all}

module _ {X : Type 0} where
  -- the next part, after a front of n
  put_next : (front rest ys : List X) (n k : ℕ) → length front ≡ n → put_mid n k (front ++ rest) ys ≡ (front ++ ys) ++ drop k rest
  put_next front rest ys n k h = rw (take_at front rest n h, drop_at front rest n h) (sym (append_assoc front ys (drop k rest)))

  -- the last part
  put_last : (front rest ys : List X) (n k : ℕ) → length front ≡ n → length rest ≤ k → put_mid n k (front ++ rest) ys ≡ front ++ ys
  put_last front rest ys n k h past = put_next front rest ys n k h ∙ ap (λ xs. (front ++ ys) ++ xs) (drop_all k rest past) ∙ append-nil (front ++ ys)

  -- what stands after the end of a slice has been written over, from w on
  pub written_from : (a p b : List X) (w : ℕ) → length a ≡ w → put_mid w (length (a ++ p) - w) (a ++ p) b ≡ a ++ b
  written_from a p b w h = put_last a p b w (length (a ++ p) - w) h (omega (arith, length-append a p))

  -- what stands after a slice has been written in three parts
  pub three_parts : (a rest b c : List X) (m n k : ℕ) → length a ≡ m → length b ≡ n → length rest ≡ n + k → put_mid (m + n) k (put_mid m n (a ++ rest) b) c ≡ a ++ (b ++ c)
  three_parts a rest b c m n k ha hb hr =
      ap (λ xs. put_mid (m + n) k xs c) (put_next a rest b m n ha)
      ∙ put_last (a ++ b) (drop n rest) c (m + n) k (omega (arith, length-append a b)) (omega (arith, length-drop n rest))
      ∙ append_assoc a b c

  -- one value as often as the list is long
  pub replicate_sized : (xs : List X) (m n : ℕ) (y : X) → xs ≡ replicate m y → length xs ≡ n → xs ≡ replicate n y
  replicate_sized xs m n y h e = h ∙ ap (λ k. replicate k y) (sym (length-replicate m y) ∙ sym (ap length h) ∙ e)
