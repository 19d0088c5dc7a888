-- The characters of a text as a range with five gaps.
use Rattle.std.proofs.Common.{◌≡◌, ℕ, zero, suc, ◌<◌, Bool, true, false, not, ◌&&◌, leb, [], ◌∷◌, Decides, refl, arith}
use Rattle.std.proofs.lemmas.Bool.Decides.{Decides-below_and}
use Rattle.fields.specs.Texts.{member, character}

abbrev pub in_range : ℕ → Bool
in_range b = leb 32 b && (leb b 122 && not (member b (34 ∷ 60 ∷ 62 ∷ 92 ∷ 96 ∷ [])))

abbrev alike : Bool → Bool → Bool
alike true t = t
alike false t = not t

alike_decides : (s t : Bool) → Decides (alike s t) (s ≡ t)
alike_decides true true = (λ _. refl, λ _. refl)
alike_decides true false = (λ e. let z : ◌≡◌ {A = ℕ} 0 1 = cc in absurd (omega arith), λ e. let z : ◌≡◌ {A = ℕ} 0 1 = cc in absurd (omega arith))
alike_decides false true = (λ e. let z : ◌≡◌ {A = ℕ} 0 1 = cc in absurd (omega arith), λ e. let z : ◌≡◌ {A = ℕ} 0 1 = cc in absurd (omega arith))
alike_decides false false = (λ _. refl, λ _. refl)

-- the two tests agree at each number below the given one
abbrev agree : ℕ → Bool
agree zero = true
agree (suc n) = alike (in_range n) (character n) && agree n

-- all 256 bytes, by one test that antt computes
pub is_character : (b : ℕ) → b < 256 → in_range b ≡ character b
is_character = (Decides-below_and (λ n. alike (in_range n) (character n)) (λ n. in_range n ≡ character n) agree (λ n. alike_decides (in_range n) (character n)) refl (λ _. refl) 256).0 refl
