use Rattle.std.proofs.Common.{ap, ◌∙◌, arith}
use Rattle.parse_raw.proofs.Prelude.{indent, on_ok_weaker}
use Rattle.parse_raw.proofs.FenceStrings.{meta_written}
use Rattle.parse_raw.proofs.code_fenced.push_info_and_meta.Goals as goal

pub returns-clause-written : goal.returns-clause-written
returns-clause-written g c =
    let info = c.in_ok-push_info.ensures in
    let token = c.in_ok-token.ensures in
    on_ok_weaker c.push_part.result
    (λ meta. λ math tail are dark begins.
    meta_written (g.T.Tables.reference_of c.args.texts.now.tables.now) c.args.texts.now.options.now.constructs c.args.names.now c.args.text.now tail math
    c.in_ok-push_info.field-0 c.white_size-white.result c.from-rest.result.now c.from.result.now c.args.walk.now c.push_info.new.walk c.token.new.self c.push_part.new.walk
    are begins c.utf8.text (λ k. omega (arith, c.type_inv.text k)) c.from-rest.utf8 (info.size math are dark) c.from-rest.ensures.rest
    (info.written math tail are dark)
    (c.white_size-white.ensures.size ∙ ap indent c.as_bytes.ensures.value) token.stays token.end token.written c.from.ensures.rest meta)
    c.push_part.ensures.written
