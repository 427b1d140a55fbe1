use Rattle.std.proofs.Common.{◌≤◌, arith, length, refl, subst}
use Rattle.parse_lines.proofs.White.{all_prefix}
use Rattle.engine_events.specs.declared.event.Name.TheVariants.{SpaceOrTab}
use Rattle.parse_leaves.proofs.Prelude.{indent, is_white, some_on, TokenCall}
use Rattle.parse_leaves.proofs.heading_atx.push_white.Goals as goal

pub returns-clause-written : goal.returns-clause-written
returns-clause-written g c = λ text ending left on.
    let bytes = c.args.bytes.now in
    let token = c.in_ok-token.ensures in
    let size = c.white_size-size.ensures in
    some_on text ending left c.args.walk.now c.token.new.self SpaceOrTab bytes (indent bytes) refl
    (λ some. all_prefix is_white (indent bytes) bytes (omega arith))
    (subst (λ k. k ≤ length bytes) size.size size.within)
    (subst (λ k. TokenCall SpaceOrTab k c.args.walk.now c.token.new.self) size.size (token.stays, token.end, token.written)) on
