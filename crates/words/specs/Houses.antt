-- What a house that words choose means, and what is done under it.
use Rattle.std.specs.Prelude.{◌≡◌, ℕ, List, [], ◌∷◌, Some, None, Ok, Err, Option, Result, IsOk, IfOk}
use Rattle.std.specs.Result.{MatchResult, result_map_both}
use Rattle.kinds.specs.Kinds.{answered}
use Rattle.houses.specs.Rules.{Rules, plain_rules}
use Rattle.listed.specs.Listed.{listed_rules}
use Rattle.balanced.specs.Balanced.{balanced_wrong, balanced_rules}
use Rattle.words.specs.declared.Unmade.{Unmade}
use Rattle.words.specs.declared.Unmade.TheVariants.{Words, Refused}
use Rattle.words.specs.Words.{HouseOf, plain, listed, balanced, listing_all, listed_all, chosen}

-- the rules of the banks that lines say, or the first refusal; there is room for each two-digit number
abbrev pub listed_made : List (List ℕ) → Result Rules Unmade
listed_made lines = result_map_both (λ _. listed_rules (listed_all 100 [] lines)) (λ why. why) (listing_all 100 [] lines)

-- the rules of a house, or why it cannot be made; a listed house has the lines
abbrev pub made : List (List ℕ) → HouseOf → Result Rules Unmade
made lines plain = Ok plain_rules
made lines listed = listed_made lines
made lines (balanced bsb account) = result_map_both (λ rules. rules) Refused (answered (balanced_wrong bsb account) (balanced_rules bsb account))

abbrev pub made_if : List (List ℕ) → Option HouseOf → Result Rules Unmade
made_if lines None = Err Words
made_if lines (Some house) = made lines house

-- the rules that words mean, or why there are none
abbrev pub rules_said : List (List ℕ) → Result Rules Unmade
rules_said [] = Err Words
rules_said (name ∷ lines) = made_if lines (chosen (name ∷ lines))

-- what was to be done under some rules has been done, or they are refused
abbrev pub DoneUnder : {O : Type 0} → (Rules → O → Type 0) → Result Rules Unmade → Result O Unmade → Type 0
DoneUnder gives rules result = MatchResult rules (λ rules. IsOk result × IfOk result (gives rules)) (λ why. result ≡ Err why)
