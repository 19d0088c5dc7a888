-- What words say, one step at a time.
use Rattle.std.proofs.Common.{◌≡◌, ℕ, ◌+◌, ◌-◌, ◌*◌, ◌<◌, ◌≤◌, List, [], ◌∷◌, length, get_or, drop, Some, None, ◌∙◌, arith}
use Rattle.std.proofs.lemmas.List.{at_drop_more}
use Rattle.std.proofs.lemmas.Bool.Decides.{nat_tests}
use Rattle.fields.specs.Numbers.{number_from}
use Rattle.words.specs.Words.{said_after}

grows : (n : ℕ) (bs : List ℕ) → n ≤ number_from n bs
grows n [] = omega arith
grows n (b ∷ bs) = omega (arith, grows (n * 10 + (b - 48)) bs)

-- where a byte more makes a number, that is read on from
pub read_on : (bs : List ℕ) (i n : ℕ) → i < length bs → (m : ℕ) → Some m ≡ said_after n (get_or bs i 0 ∷ []) → said_after n (drop i bs) ≡ said_after m (drop (i + 1) bs)
read_on bs i n within m e = at_drop_more (said_after n) bs i 0 within ∙ grind (arith, nat_tests)

-- where a byte more makes no number, no bytes after it make one
pub read_out : (bs : List ℕ) (i n : ℕ) → i < length bs → None ≡ said_after n (get_or bs i 0 ∷ []) → said_after n (drop i bs) ≡ None
read_out bs i n within e =
    let more = grows (n * 10 + (get_or bs i 0 - 48)) (drop (i + 1) bs) in
    at_drop_more (said_after n) bs i 0 within ∙ grind (arith, nat_tests)
