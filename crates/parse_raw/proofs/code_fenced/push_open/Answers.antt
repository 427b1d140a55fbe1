use Rattle.std.proofs.Common.{ℕ, List, ap, ◌∙◌, get_or}
use Rattle.parse_raw.proofs.Prelude.{bare, bytes_of, indent, Rest}
use Rattle.parse_raw.proofs.FencedLines.{opening_written}
use Rattle.parse_raw.proofs.OnLine.{white_ahead}
use Rattle.parse_raw.proofs.code_fenced.push_open.Goals as goal

pub returns-clause-written : goal.returns-clause-written
returns-clause-written g c text fence here left after ls size st at order starts taken =
    let old = c.args.walk.now in
    let white = c.in_ok-bare.ensures in
    let enter = c.in_ok-enter.ensures in
    let bytes = white.bare ∙ ap (λ (r : Rest). bytes_of (bare r)) st.rest in
    let marker = c.first.ensures ∙ ap (λ (xs : List ℕ). get_or xs 0 0) c.as_bytes.ensures.value in
    opening_written c.args.texts.now.options.now.constructs (g.T.Tables.reference_of c.args.texts.now.tables.now) c.names_of-names.result text fence here left after ls
    c.first.result c.indent-indent.result c.args.count c.in_ok-bare.bare.now old c.white.new.self c.enter.new.self c.push_opening_fence.new.walk
    c.push_code_lines.new.walk size st starts taken
    (white_ahead text old c.white.new.self here left st at order white.stays white.end white.written)
    bytes marker (c.indent-indent.ensures.same ∙ ap indent st.rest) c.names_of-names.ensures (enter.enters text) enter.stays enter.end
    c.in_ok-push_opening_fence.ensures.written c.in_ok-push_code_lines.ensures.written
