-- Raw HTML in a text (CommonMark 6.6).
use Rattle.std.specs.Prelude.{Bool, true, false, ◌&&◌, if◌then◌else◌, List, [], ◌∷◌, length}
use Rattle.definition_text.specs.Columns.{Code, is_white}
use Rattle.definition_text.specs.Content.{is_eol}
use Rattle.engine_events.specs.declared.event.Name.TheVariants as n
use Rattle.event_definition.specs.Pieces.{Token, Pieces, Nil, Cons, around, in_first}
use Rattle.event_definition.specs.Sized.{Sized, sized}

-- the lines of raw HTML: white space after a line ending is apart; `start` where only such is before
abbrev pub html_lines : Bool → List Code → Pieces
html_lines start [] = Nil
html_lines start (c ∷ cs) =
    if is_eol c then Cons (Token n.LineEnding (c ∷ [])) (html_lines true cs)
    else (if start && is_white c then in_first n.SpaceOrTab c (html_lines true cs)
    else in_first n.HtmlTextData c (html_lines false cs))

-- raw HTML, which these codes are
abbrev pub html_text_pieces : List Code → Sized
html_text_pieces text = sized (around n.HtmlText (html_lines false text)) (length text)
