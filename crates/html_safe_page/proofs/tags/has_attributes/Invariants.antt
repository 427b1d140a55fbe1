use Rattle.std.proofs.Common.{◌≡◌, drop}
use Rattle.std.specs.Option.{is_some}
use Rattle.html_safe_page.specs.Reader.{read_attributes}
use Rattle.html_safe_page.specs.Views.{names_of}
use Rattle.html_safe_page.proofs.tags.has_attributes.Given as goal

-- what is left has the answer
abbrev pub invariant-loop-name : goal.invariant-loop-name
invariant-loop-name l = is_some (read_attributes l.tag (names_of (drop l.name-index l.names)) l.ending l.rest)
    ≡ is_some (read_attributes l.tag (names_of l.names) l.ending l.bytes)
