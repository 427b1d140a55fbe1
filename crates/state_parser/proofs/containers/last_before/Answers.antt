use Rattle.std.proofs.Common.{◌∙◌, ℕ, ltb, take, sym, ap, rules, arith}
use Rattle.std.proofs.lemmas.List.Sorted.{IsPartitionPoint-from_clause, IsPartitionedBy-ltb}
use Rattle.std.proofs.lemmas.List.Sums.{prefix_len_is}
use Rattle.state_parser.specs.LastLines.{last_of}
use Rattle.state_parser.proofs.containers.last_before.Goals as goal

pub returns : goal.returns
returns c =
    let lines = c.args.lines.now in
    let found = c.partition_point-count in
    let test = λ (l : ℕ). ltb l c.args.line in
    let p = IsPartitionPoint-from_clause test _ _ found.ensures.partitioned (IsPartitionedBy-ltb (λ l. l) lines c.args.line c.requires)
    (λ a r q k. search rules) in
    let n = prefix_len_is test lines found.result 0 found.ensures.bound (λ k l. p.0 k 0 (omega arith) l) (λ l. p.1 found.result 0 (omega arith) l) in
    c.last_of.ensures ∙ ap (λ (n : ℕ). last_of (take n lines)) (sym n)
