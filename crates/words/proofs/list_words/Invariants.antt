use Rattle.std.proofs.Common.{◌≡◌, map, drop}
use Rattle.listed.specs.Listed.{banks_of}
use Rattle.words.specs.Words.{listing_all, listed_all}
use Rattle.words.proofs.list_words.Given as goal

-- what the words that are left come to is what all come to
abbrev pub invariant-loop-word : goal.invariant-loop-word
invariant-loop-word l = record {
  answer : listing_all l.initial.list.held.room (banks_of l.initial.list.held) (map (λ x. x.now) l.words) ≡ listing_all l.list.held.room (banks_of l.list.held) (map (λ x. x.now) (drop l.word-index l.words));
  after : listed_all l.initial.list.held.room (banks_of l.initial.list.held) (map (λ x. x.now) l.words) ≡ listed_all l.list.held.room (banks_of l.list.held) (map (λ x. x.now) (drop l.word-index l.words));
  room : l.list.held.room ≡ l.initial.list.held.room;
}
