use Rattle.std.proofs.Common.{drop}
use Rattle.markdown_engine.proofs.ChainSteps.{Skipping}
use Rattle.markdown_engine.proofs.chains.skip_before_chunks.Given as goal

abbrev pub invariant-loop-chunk : goal.invariant-loop-chunk
invariant-loop-chunk g l = Skipping l.events l.end (drop l.chunk-index l.chain) l.tokenizer l.fn.tokenizer.point l.chain l.fn.tokenizer
