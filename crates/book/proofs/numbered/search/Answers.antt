use Rattle.std.proofs.Common.{◌≡◌, ℕ, ◌≤◌, true, false, Bool, List, [], ◌∷◌, ltb, length, sym, arith, rules}
use Rattle.std.specs.List.{prefix_len}
use Rattle.std.specs.List.Sorted.{IsPartitionPoint}
use Rattle.std.proofs.lemmas.List.Sorted.{IsPartitionPoint-from_clause, IsPartitionedBy-ltb}
use Rattle.std.proofs.lemmas.List.Sums.{prefix_len_is}
use Rattle.book.proofs.numbered.search.Goals as goal

-- those that pass the test stand first
is_prefix_len : {R : Type 0} (p : R → Bool) (rows : List R) (place : ℕ) → place ≤ length rows → IsPartitionPoint (λ row. p row ≡ true) (λ row. p row ≡ false) rows place → place ≡ prefix_len p rows
is_prefix_len p [] place within point = omega arith
is_prefix_len p (row ∷ rows) place within point =
    sym (prefix_len_is p (row ∷ rows) place row within (λ k before. point.0 k row (omega arith) before) (λ inside. point.1 place row (omega arith) inside))

pub returns-clause-found : goal.returns-clause-found
returns-clause-found g c = λ rises.
    let key = g.R.Numbered.key in
    let rows = c.args.rows.now in
    let wanted = c.args.wanted in
    is_prefix_len (λ row. ltb (key row) wanted) rows c.partition_point.result c.partition_point.ensures.bound
    (IsPartitionPoint-from_clause (λ row. ltb (key row) wanted) rows _ c.partition_point.ensures.partitioned (IsPartitionedBy-ltb key rows wanted rises) (λ a r q k. search rules))
