use Rattle.std.proofs.Common.{arith, subst}
use Rattle.inline_leaves.specs.Leaves.{IsEscape}
use Rattle.inline_leaves.proofs.Codes.{boundary_after_byte, end_after}
use Rattle.inline_leaves.proofs.character_escape.escape_at.Goals as goal

pub cut_after-requires : goal.cut_after-requires
cut_after-requires c =
    let xs = c.args.content.now in
    let h = subst (λ s. IsEscape s c.in_ok-_byte._byte) c.as_bytes.ensures.value c.in_ok-_byte.ensures.place in
    end_after xs 2 (omega arith) h.within (omega (arith, h.escaped, h.ascii)) (λ e. omega (arith, h.escaped, h.visible))

pub text_between-requires-clause-end : goal.text_between-requires-clause-end
text_between-requires-clause-end c =
    let xs = c.args.content.now in
    let h = subst (λ s. IsEscape s c.in_ok-_byte._byte) c.as_bytes.ensures.value c.in_ok-_byte.ensures.place in
    boundary_after_byte xs 2 c.utf8.content (omega arith) h.within (omega (arith, h.escaped, h.ascii))
