-- ATX headings (CommonMark 4.2).
use Rattle.std.specs.Prelude.{ℕ, ◌==◌, if◌then◌else◌, List, [], ◌∷◌, drop, length, take}
use Rattle.definition_text.specs.Ascii.{number_sign}
use Rattle.definition_text.specs.BlockLines.{BlockLine}
use Rattle.definition_text.specs.Columns.{Code, bare, bytes_of}
use Rattle.definition_text.specs.Content.{content_of}
use Rattle.definition_text.specs.Runs.{after_run, run}
use Rattle.definition_page.specs.Read.{Reading, read_text}
use Rattle.engine_events.specs.declared.event.Name.TheVariants as n
use Rattle.event_definition.specs.Pieces.{Pieces, Nil, around, join_all, token}
use Rattle.event_definition.specs.Context.{names_of, on_of}
use Rattle.event_definition.specs.Inlines.{content_pieces}
use Rattle.event_definition.specs.Written.{Left, Written, and_then, line_written, rest_of, white, white_ahead}

-- the text of a heading, if it has one
abbrev pub heading_text : Reading → List BlockLine → Pieces
heading_text r ls =
    let content = content_of ls in
    if length content == 0 then Nil else around n.HeadingAtxText (content_pieces (on_of r) (names_of r) (read_text r ls) content)

-- white space, the run of `#` that closes the heading, if there is one, and white space
abbrev pub closing_pieces : List Code → Pieces
closing_pieces bytes =
    let text = bare bytes in
    join_all (white_ahead bytes ∷ token n.HeadingAtxSequence (take (run number_sign text) text) ∷ token n.SpaceOrTab (after_run number_sign text) ∷ [])

-- a heading of a rank, which these bytes of a line are
abbrev pub atx_pieces : Reading → ℕ → List BlockLine → List Code → Pieces
atx_pieces r rank ls bytes =
    let after = drop rank bytes in
    join_all (
    token n.HeadingAtxSequence (take rank bytes) ∷ white_ahead after ∷ heading_text r ls ∷ closing_pieces (drop (length (content_of ls)) (bare after)) ∷ []
    )

abbrev pub atx_written : Reading → ℕ → List BlockLine → Left → Written
atx_written r rank ls left = and_then (white left) (λ l. line_written (around n.HeadingAtx (atx_pieces r rank ls (bytes_of (rest_of l)))) l)
