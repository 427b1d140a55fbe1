use Rattle.std.proofs.Common.{◌≡◌, drop}
use Rattle.std.specs.Prelude.{map}
use Rattle.std.specs.Option.{option_map}
use Rattle.html_safe_page.specs.SafePage.{Tag}
use Rattle.html_safe_page.specs.Reader.{read_tag}
use Rattle.html_safe_page.specs.Views.{row_of}
use Rattle.html_safe_page.proofs.tags.tag_name.Given as goal

-- the rows that are left have the answer
abbrev pub invariant-loop-row : goal.invariant-loop-row
invariant-loop-row l =
    option_map (λ (t : Tag). t.name) (read_tag (map row_of (drop l.row-index l.rows)) l.ending l.tag)
    ≡ option_map (λ (t : Tag). t.name) (read_tag (map row_of l.rows) l.ending l.tag)
