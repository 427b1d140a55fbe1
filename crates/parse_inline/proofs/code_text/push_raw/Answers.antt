use Rattle.std.proofs.Common.{◌≡◌, ◌-◌, ap, ◌∙◌, take, length, arith}
use Rattle.parse_inline.proofs.Prelude.{both_ok}
use Rattle.parse_inline.proofs.RawSpans.{raw_written}
use Rattle.parse_inline.proofs.code_text.push_raw.Goals as goal

pub returns-clause-written : goal.returns-clause-written
returns-clause-written g c =
    let raw = c.args.raw.now in
    let inside = c.from-inside.result.now in
    let end = c.from_run-end.result.now in
    let size : c.saturating_sub.result ≡ length inside - length end = omega (arith, c.saturating_sub.ensures) in
    both_ok c.exit.result
    (λ exits stays on names text printed to stop is utf8 st whole.
    raw_written names text stop on _ _ _ _ _ _ raw.text raw.sequence raw.chunk raw.marker printed c.args.bytes.now inside end _ to _ raw.names raw.mark is utf8
    c.run-size.ensures.size c.from-inside.ensures c.from_run-end.ensures (c.bytes_up_to-text.ensures ∙ ap (λ k. take k inside) size) st whole
    c.in_ok-enter.ensures.stays (c.in_ok-enter.ensures.written text) c.in_ok-text.ensures.stays (c.in_ok-text.ensures.written text)
    (λ content. c.in_ok-push_lines.ensures.written names text content stop) c.in_ok-text-2.ensures.stays (c.in_ok-text-2.ensures.written text) stays
    (exits text))
    c.exit.ensures.written c.exit.ensures.stays
