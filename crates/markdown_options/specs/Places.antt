-- How places in a text are printed.
use Rattle.std.specs.Prelude.{ℕ, List, ◌++◌, codes, decimal}
use Rattle.markdown_options.specs.declared.unist.Point.{Point}
use Rattle.markdown_options.specs.declared.unist.Position.{Position}

-- `line:column`
abbrev pub point_text : Point → List ℕ
point_text point = decimal point.line ++ codes ":" ++ decimal point.column

-- `line:column (offset)`
abbrev pub point_debug_text : Point → List ℕ
point_debug_text point = point_text point ++ codes " (" ++ decimal point.offset ++ codes ")"

-- `line:column-line:column`
abbrev pub position_text : Position → List ℕ
position_text position = point_text position.start ++ codes "-" ++ point_text position.end

-- `line:column-line:column (offset-offset)`
abbrev pub position_debug_text : Position → List ℕ
position_debug_text position =
    position_text position
    ++ codes " (" ++ decimal position.start.offset ++ codes "-" ++ decimal position.end.offset ++ codes ")"
