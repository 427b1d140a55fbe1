use Rattle.std.proofs.Common.{◌≡◌, ◌+◌, drop}
use Rattle.std.specs.List.{prefix_len}
use Rattle.definition_inline.specs.HtmlTags.{is_tag_name_byte}
use Rattle.inline_tags.proofs.tags.tag_name.Given as goal

-- the bytes so far are of the name
abbrev pub invariant-loop-i : goal.invariant-loop-i
invariant-loop-i l = l.i + prefix_len is_tag_name_byte (drop l.i l.bytes) ≡ prefix_len is_tag_name_byte l.bytes
