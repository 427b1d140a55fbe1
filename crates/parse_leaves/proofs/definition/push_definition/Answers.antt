use Rattle.std.proofs.Common.{◌≡◌, arith, drop, ap, ◌∙◌}
use Rattle.parse_leaves.proofs.Prelude.{both_ok, content_text, definition_on, piece_lines, reading_by, utf8_bytes}
use Rattle.parse_leaves.proofs.Definitions.{any_definition, definition_written, white_boundary}
use Rattle.parse_leaves.proofs.Starts.{white_count}
use Rattle.parse_leaves.proofs.definition.push_definition.Goals as goal

pub returns-clause-written : goal.returns-clause-written
returns-clause-written g c =
    both_ok c.text-2.result
    (λ stays written. λ ds first knows.
    let ls = piece_lines c.args.lines.now in
    let texts = c.args.texts.now in
    let r = reading_by g.T.Tables texts ds in
    let content = c.as_str-content.result.now in
    let content_is : content ≡ content_text ls = c.as_str-content.ensures.value ∙ c.in_ok-join_lines.ensures in
    let white_is : c.white_size-white.result ≡ white_count content = c.white_size-white.ensures.size ∙ ap white_count c.as_bytes.ensures.value in
    let rest_is : c.from.result.now ≡ drop c.white_size-white.result content =
    c.from.ensures.rest
    (white_boundary content c.white_size-white.result c.as_str-content.utf8 (utf8_bytes content c.as_str-content.utf8) white_is) in
    any_definition r first ls (definition_on ls) c.args.walk.now c.text-2.new.self
    (λ label destination title. λ text top here left to at to_rest order laid.
    definition_written text r.parse.constructs r.tables.names top ls content c.from.result.now c.white_size-white.result c.saturating_sub-left.result
    label destination title c.args.walk.now c.begin_content.new.self c.text.new.self c.enter.new.self c.push_definition.new.walk c.exit.new.self
    c.text-2.new.self here left to
    (λ name spelled is. utf8_bytes spelled (g.met.T.Tables.reference_utf8 texts.tables.now name spelled is))
    content_is white_is rest_is (omega (arith, c.saturating_sub-left.ensures, c.place.ensures)) c.begin_content.ensures.stays c.begin_content.ensures.begun
    c.in_ok-text.ensures.stays (c.in_ok-text.ensures.written text) c.in_ok-enter.ensures.stays (c.in_ok-enter.ensures.written text)
    (c.in_ok-push_definition.ensures.written text) c.in_ok-exit.ensures.stays (c.in_ok-exit.ensures.written text) stays (written text) at to_rest order laid))
    c.text-2.ensures.stays c.text-2.ensures.written
