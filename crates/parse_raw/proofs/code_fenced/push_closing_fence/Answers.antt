use Rattle.std.proofs.Common.{ℕ, ap, ◌∙◌}
use Rattle.parse_raw.proofs.Prelude.{run}
use Rattle.parse_raw.proofs.ClosingFence.{closing_written}
use Rattle.parse_raw.proofs.NextLines.{all_ok}
use Rattle.parse_raw.proofs.code_fenced.push_closing_fence.Goals as goal

pub returns-clause-written : goal.returns-clause-written
returns-clause-written g c =
    let white = c.in_ok-white.ensures in
    let enter = c.in_ok-enter.ensures in
    let token = c.in_ok-token.ensures in
    let all = c.in_ok-all.ensures in
    all_ok c.exit.result
    (λ exits end stays. λ math text here left are st at order closing.
    closing_written math c.args.names.now text here left c.run.result c.as_bytes-bytes.result.now c.args.walk.now c.white.new.self c.enter.new.self c.token.new.self
    c.all.new.self c.exit.new.self are st at order closing white.stays white.end white.written (c.as_bytes-bytes.ensures.value ∙ white.bare) (enter.enters text) enter.stays
    enter.end (c.run.ensures.size ∙ ap (λ (b : ℕ). run b c.as_bytes-bytes.result.now) c.first.ensures) token.stays token.end token.written all.stays all.end all.written (exits text) stays end)
    c.exit.ensures.exits c.exit.ensures.end c.exit.ensures.stays
