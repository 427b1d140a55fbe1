use Rattle.std.proofs.Common.{◌∙◌, ap}
use Rattle.inline_runs.specs.View.{span_view}
use Rattle.state_edits_attention.specs.Attention.{names_of}
use Rattle.state_edits_attention.proofs.Containers.{span_is}
use Rattle.state_edits_attention.proofs.attention.names_of.Goals as goal

pub returns : goal.returns
returns c =
    c.names_of_span.ensures ∙ ap (λ span. names_of (span_view span)) c.span.ensures ∙ ap names_of (span_is c.args.marker c.args.pair.now)
