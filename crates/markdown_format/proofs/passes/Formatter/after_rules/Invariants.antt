use Rattle.std.proofs.Common.{IfSome, string_bytes}
use Rattle.markdown_format.proofs.passes.Formatter.after_rules.Given as goal

-- the last text was found to be the same document
abbrev pub invariant-loop : goal.invariant-loop
invariant-loop g l = IfSome l.last (λ it. g.R.Reader.is_kept l.self.reader.now (string_bytes it))
