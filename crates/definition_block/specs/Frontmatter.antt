-- Frontmatter: lines of metadata between fences at the front of a text, which aren't printed (in neither standard).
use Rattle.std.specs.Prelude.{ℕ, Bool, if◌then◌else◌, ◌==◌, ◌&&◌, List, [], ◌∷◌, Option, None, Some}
use Rattle.std.specs.List.{list_all}
use Rattle.markdown_options.specs.declared.configuration.Constructs.{Constructs}
use Rattle.definition_text.specs.Ascii.{plus, hyphen}
use Rattle.definition_text.specs.Columns.{is_white}
use Rattle.definition_text.specs.Lines.{TextLine}
use Rattle.definition_text.specs.Runs.{run, after_run}

-- a fence: exactly three of a byte, and then only spaces and tabs
abbrev pub is_metadata_fence : ℕ → List ℕ → Bool
is_metadata_fence byte content = (run byte content == 3) && list_all is_white (after_run byte content)

-- the lines after the next fence of this byte, if there is one
abbrev pub after_metadata_fence : ℕ → List TextLine → Option (List TextLine)
after_metadata_fence byte [] = None
after_metadata_fence byte (line ∷ others) = if is_metadata_fence byte line.content then Some others else after_metadata_fence byte others

-- the lines after a frontmatter: the first line is a fence of dashes (YAML) or of plus signs (TOML), and the next fence of that byte ends it
abbrev pub after_frontmatter : Constructs → List TextLine → Option (List TextLine)
after_frontmatter on [] = None
after_frontmatter on (line ∷ others) =
    if on.frontmatter && is_metadata_fence hyphen line.content then after_metadata_fence hyphen others
    else (if on.frontmatter && is_metadata_fence plus line.content then after_metadata_fence plus others else None)
