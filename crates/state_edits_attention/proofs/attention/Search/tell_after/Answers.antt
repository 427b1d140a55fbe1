use Rattle.std.proofs.Common.{◌≡◌, ◌∙◌, drop, take, length, sym, ap}
use Rattle.std.proofs.lemmas.List.{take-map}
use Rattle.engine_edits.specs.Edits.{edits_of}
use Rattle.inline_runs.specs.View.{run_view, runs_view}
use Rattle.state_edits_attention.specs.Attention.{run_edits}
use Rattle.state_edits_attention.proofs.Containers.{same_edits, sought_alike}
use Rattle.state_edits_attention.proofs.attention.Search.tell_after.Goals as goal

pub returns-clause-sought : goal.returns-clause-sought
returns-clause-sought g c =
    let n = c.args.count in
    let old = c.args.self.now in
    let entries = old.entries.items in
    let runs = old.runs.items in
    let rest = drop n (runs_view runs) in
    let told : edits_of c.add_runs.new.edits ≡ run_edits c.args.events.now (drop n entries) rest (length rest) (edits_of old.edits) =
    c.in_ok-add_runs.ensures.edits
    ∙ same_edits c.args.events.now entries c.after.result.now runs c.after-2.result.now n (edits_of old.edits)
    (c.after.ensures ∙ ap (drop n) c.deref.ensures.value) (c.after-2.ensures ∙ ap (drop n) c.deref-2.ensures.value) in
    sought_alike c.truncate.new.self.items (take n entries) (runs_view c.truncate-2.new.self.items) (take n (runs_view runs)) old.starts.items
    (edits_of c.add_runs.new.edits) _
    c.truncate.ensures.items (ap runs_view c.truncate-2.ensures.items ∙ sym (take-map run_view n runs)) told
