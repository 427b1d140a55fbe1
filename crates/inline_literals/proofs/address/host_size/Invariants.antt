use Rattle.std.proofs.Common.{◌≡◌, ◌+◌, drop}
use Rattle.definition_inline.specs.GfmAutolinkLiteral.{host_size}
use Rattle.inline_literals.proofs.address.host_size.Given as goal

-- the bytes so far belong to the host
abbrev pub invariant-loop-i : goal.invariant-loop-i
invariant-loop-i l = l.i + host_size l.is_xmpp (drop l.i l.text) ≡ host_size l.is_xmpp l.text
