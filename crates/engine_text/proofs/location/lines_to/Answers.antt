use Rattle.std.proofs.Common.{rules, arith}
use Rattle.std.proofs.lemmas.List.Sorted.{IsPartitionPoint-from_clause}
use Rattle.engine_text.specs.Lines.{before_or_at}
use Rattle.engine_text.proofs.Starts.{first_pass, passes_before}
use Rattle.engine_text.proofs.location.lines_to.Goals as goal

pub returns-clause-before : goal.returns-clause-before
returns-clause-before c =
    let p = IsPartitionPoint-from_clause (before_or_at c.args.offset) _ _ c.partition_point.ensures.partitioned
    (passes_before c.args.offset c.args.starts.now c.requires) (λ a r q k. search rules) in
    first_pass (before_or_at c.args.offset) c.args.starts.now c.partition_point.result c.partition_point.ensures.bound (λ k d h. p.0 k d (omega arith) h)
    (λ k d h l. p.1 k d h l)
