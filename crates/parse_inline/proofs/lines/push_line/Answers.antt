use Rattle.std.proofs.Common.{◌≡◌, ◌+◌, ◌∙◌, ap, true, false, rules, arith}
use Rattle.parse_inline.proofs.Prelude.{indent}
use Rattle.parse_inline.proofs.RawLines.{chunk_line, ending_line, ending_white, ends_bytes}
use Rattle.parse_strings.proofs.Parts.{ending_small}
use Rattle.parse_inline.proofs.lines.push_line.Goals as goal

pub returns-in_default-clause-written : goal.returns-in_default-clause-written
returns-in_default-clause-written g c = λ names text content stop chunk some utf8 cut st.
    chunk_line names text stop _ _ c.args.name c.args.indented c.args.bytes.now content _ chunk
    (λ k. omega (arith, c.type_inv.bytes k)) utf8 some c.in_default.ensures
    c.line_size-size.ensures st c.in_ok-text.ensures.stays (c.in_ok-text.ensures.written text)

pub returns-then-not-indented-clause-written : goal.returns-then-not-indented-clause-written
returns-then-not-indented-clause-written g c = λ names text content stop chunk some utf8 cut st.
    let flat : c.args.indented ≡ false = search rules in
    let ends = ends_bytes names text stop _ _ c.args.bytes.now content c.in-Some.found (λ k. omega (arith, c.type_inv.bytes k)) c.in-Some.ensures cut st
    (c.in_ok-content_ending.ensures.written text) in
    ending_line names text stop _ _ c.args.name c.args.indented c.args.bytes.now content c.in-Some.found flat c.in-Some.ensures ends

pub returns-clause-written : goal.returns-clause-written
returns-clause-written g c = λ names text content stop chunk some utf8 cut st.
    let on : c.args.indented ≡ true = search rules in
    let ends = ends_bytes names text stop _ _ c.args.bytes.now content c.in-Some.found (λ k. omega (arith, c.type_inv.bytes k)) c.in-Some.ensures cut st
    (c.in_ok-content_ending.ensures.written text) in
    let sum : c.saturating_add.result ≡ c.in-Some.found.size + c.white_size-white.result =
    omega (arith, c.saturating_add.ensures, ends.is, ending_small c.in-Some.found.ending, c.white_size-white.ensures.within, c.bytes_from.type_inv.1) in
    ending_white names text stop _ _ _ c.args.name c.args.indented c.args.bytes.now content c.in-Some.found c.white_size-white.result _ on c.in-Some.ensures ends
    (c.white_size-white.ensures.size ∙ ap indent c.bytes_from.ensures.rest) sum c.in_ok-text-2.ensures.stays (c.in_ok-text-2.ensures.written text)
