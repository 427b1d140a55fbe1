use Rattle.std.proofs.Common.{◌≡◌}
use Rattle.markdown_engine.specs.Context.{context}
use Rattle.state_edits_attention.specs.Attention.{search_to}
use Rattle.state_edits_attention.specs.Views.{search_view}
use Rattle.state_edits_attention.proofs.attention.attention_edits.Given as goal

-- what is found is what is found up to the index
abbrev pub invariant-loop-index : goal.invariant-loop-index
invariant-loop-index g l = search_view l.search ≡ search_to (g.T.Tables.punctuation_of l.parse_state.tables.now) (context l.parse_state) l.events l.index
