use Rattle.std.proofs.Common.{◌≡◌, arith, length}
use Rattle.std.proofs.lemmas.Grind.{common_steps}
use Rattle.inline_constructs.proofs.Prelude.{is_of, prefix_len}
use Rattle.inline_constructs.proofs.AutolinkLemmas.{class_plain}
use Rattle.inline_constructs.proofs.byte_class.prefix_size.Goals as goal

pub returns-then-not-is_of-clause-plain : goal.returns-then-not-is_of-clause-plain
returns-then-not-is_of-clause-plain c =
    let e : c.loop-i.i ≡ prefix_len (is_of c.args.class) c.args.bytes.now = grind (arith, common_steps) in
    class_plain c.args.class c.args.bytes.now c.loop-i.i e

pub returns-clause-plain : goal.returns-clause-plain
returns-clause-plain c =
    let e : length c.args.bytes.now ≡ prefix_len (is_of c.args.class) c.args.bytes.now = grind (arith, common_steps) in
    class_plain c.args.class c.args.bytes.now (length c.args.bytes.now) e
