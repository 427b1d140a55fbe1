use Rattle.std.proofs.Common.{[], arith, drop, refl}
use Rattle.engine_events.specs.declared.event.Name.TheVariants as n
use Rattle.parse_raw.proofs.NextLines.{all_ok}
use Rattle.parse_raw.proofs.Runs.{metadata_fits, metadata_size}
use Rattle.event_grammar.specs.declared.slot.Form.TheVariants.{Plain}
use Rattle.event_grammar.specs.Grammar.{row}
use Rattle.parse_raw.proofs.FilledTokens.{event_filled, filled_both, token_filled, white_filled}
use Rattle.parse_raw.proofs.frontmatter.push_metadata_fence.Goals as goal

pub returns-clause-written : goal.returns-clause-written
returns-clause-written g c =
    let a = c.args.walk.now in
    let b = c.enter.new.self in
    let enter = c.in_ok-enter.ensures in
    let token = c.in_ok-token.ensures in
    let all = c.in_ok-all.ensures in
    all_ok c.exit.result
    (λ exits end stays. λ bytes are.
    let fits = metadata_fits bytes are in
    event_filled n.FrontmatterFence [] bytes [] a b c.all.new.self c.exit.new.self
    (record { no_data = refl; no_definition = refl; no_code = refl; no_math = refl; unasked = refl }) refl refl enter.enters enter.stays enter.end
    (filled_both (row n.FrontmatterFence Plain) [] [] bytes (drop 3 bytes) [] b c.token.new.self c.all.new.self
    (token_filled n.FrontmatterSequence (row n.FrontmatterFence Plain) [] bytes 3 b c.token.new.self
    (record { no_data = refl; no_definition = refl; no_code = refl; no_math = refl; unasked = refl }) (omega arith) (metadata_size bytes are) fits.0 token.stays token.end
    token.written refl refl)
    (white_filled [] (drop 3 bytes) c.token.new.self c.all.new.self fits.1 all.stays all.end all.written refl))
    refl exits stays end)
    c.exit.ensures.exits c.exit.ensures.end c.exit.ensures.stays
