use Rattle.std.proofs.Common.{ℕ, List, ap, ap₂, ◌∙◌}
use Rattle.parse_raw.proofs.Prelude.{indent, run}
use Rattle.std.specs.Prelude.{slice_index}
use Rattle.parse_raw.proofs.NextLines.{all_ok}
use Rattle.parse_raw.proofs.OpeningFence.{fence_written}
use Rattle.parse_raw.proofs.code_fenced.push_opening_fence.Goals as goal

pub returns-clause-written : goal.returns-clause-written
returns-clause-written g c =
    let enter = c.in_ok-enter.ensures in
    let sequence = c.in_ok-token.ensures in
    let space = c.in_ok-token-2.ensures in
    let all = c.in_ok-all.ensures in
    all_ok c.exit.result
    (λ exits end stays. λ math byte are mark ascii first text ending left before.
    let marker = c.first.ensures ∙ ap (λ (xs : List ℕ). slice_index xs 0) c.as_bytes.ensures.value ∙ first in
    let size = c.run-size.ensures.size ∙ ap₂ (λ (b : ℕ) (xs : List ℕ). run b xs) marker c.as_bytes-2.ensures.value in
    fence_written c.args.texts.now.options.now.constructs (g.T.Tables.reference_of c.args.texts.now.tables.now) c.args.names.now math byte text ending left
    c.args.bare.now c.from-rest.result.now c.trim.result.now c.run-size.result c.white_size.result c.args.walk.now c.enter.new.self c.token.new.self c.token-2.new.self
    c.push_info_and_meta.new.walk c.all.new.self c.exit.new.self are mark ascii first c.utf8.bare before (enter.enters text before.order) enter.stays
    enter.end size sequence.stays
    sequence.end sequence.written c.from-rest.ensures.rest (c.white_size.ensures.size ∙ ap indent c.as_bytes-3.ensures.value) space.stays space.end space.written
    c.trim.ensures c.in_ok-push_info_and_meta.ensures.written all.stays all.end all.written (exits text) stays end)
    c.exit.ensures.exits c.exit.ensures.end c.exit.ensures.stays
