use Rattle.std.proofs.Common.{◌≡◌, ◌∙◌, ℕ, slice_get, ap}
use Rattle.std.specs.Prelude.{unwrap_or}
use Rattle.engine_edits.specs.Edits.{edits_of}
use Rattle.inline_runs.specs.View.{runs_view}
use Rattle.state_edits_data.specs.Each.{place_at}
use Rattle.state_edits_attention.specs.Attention.{run_events}
use Rattle.state_edits_attention.proofs.Containers.{edit_alike, same_run}
use Rattle.state_edits_attention.proofs.attention.add_run.Goals as goal

pub returns-clause-edits : goal.returns-clause-edits
returns-clause-edits g c =
    let all = runs_view c.args.runs.now in
    let k = c.args.place in
    let events = c.args.events.now in
    let at : ℕ = unwrap_or (slice_get c.args.entries.now k) 0 in
    let paired = c.requires.paired in
    let become : c.in_ok-all.all.items ≡ run_events all k (place_at events at) =
    c.in_ok-all.ensures.events
    ∙ (same_run c.args.runs.now k _ c.spans.result c.place_at-point.result c.requires.place (c.spans.ensures.closed all paired)
    (c.spans.ensures.opened all paired) (c.spans.ensures.rows all paired)
    ∙ ap (run_events all k) (c.place_at-point.ensures ∙ ap (place_at events) c.entry_at-entry.ensures)) in
    c.in_ok-add.ensures.edits ∙ edit_alike c.entry_at-entry.result at c.in_ok-all.all.items (run_events all k (place_at events at))
    (edits_of c.args.edits.now) c.entry_at-entry.ensures become
