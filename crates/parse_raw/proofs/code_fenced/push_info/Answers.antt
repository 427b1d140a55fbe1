use Rattle.std.proofs.Common.{ap, ◌∙◌, arith}
use Rattle.parse_raw.proofs.Prelude.{is_space, position_or_len}
use Rattle.parse_raw.proofs.FenceStrings.{info_absent, info_present}
use Rattle.parse_raw.proofs.code_fenced.push_info.Goals as goal

pub returns-in_default-clause-size : goal.returns-in_default-clause-size
returns-in_default-clause-size g c math are dark =
    (info_absent (g.T.Tables.reference_of c.args.texts.now.tables.now) c.args.texts.now.options.now.constructs c.args.names.now c.args.text.now c.args.text.now math
    c.args.walk.now are c.in_default.is).0

pub returns-in_default-clause-written : goal.returns-in_default-clause-written
returns-in_default-clause-written g c math tail are dark =
    (info_absent (g.T.Tables.reference_of c.args.texts.now.tables.now) c.args.texts.now.options.now.constructs c.args.names.now c.args.text.now tail math
    c.args.walk.now are c.in_default.is).1

pub returns-clause-size : goal.returns-clause-size
returns-clause-size g c math are dark =
    (info_present (g.T.Tables.reference_of c.args.texts.now.tables.now) c.args.texts.now.options.now.constructs c.args.names.now c.args.text.now c.args.text.now math
    c.word_size-size.result c.up_to.result.now c.in-Some.info c.args.walk.now c.push_part.new.walk are c.in-Some.is dark (λ k. omega (arith, c.type_inv.text k))
    (c.word_size-size.ensures.size ∙ ap (position_or_len is_space) c.as_bytes.ensures.value) c.up_to.ensures.front c.in_ok-push_part.ensures.written).0

pub returns-clause-written : goal.returns-clause-written
returns-clause-written g c math tail are dark =
    (info_present (g.T.Tables.reference_of c.args.texts.now.tables.now) c.args.texts.now.options.now.constructs c.args.names.now c.args.text.now tail math
    c.word_size-size.result c.up_to.result.now c.in-Some.info c.args.walk.now c.push_part.new.walk are c.in-Some.is dark (λ k. omega (arith, c.type_inv.text k))
    (c.word_size-size.ensures.size ∙ ap (position_or_len is_space) c.as_bytes.ensures.value) c.up_to.ensures.front c.in_ok-push_part.ensures.written).1
