-- The codes that a content stands for, and what stands beside them (CommonMark 6.2).
use Rattle.std.specs.Prelude.{Option, None, Some, ℕ, ◌+◌, ◌-◌, Bool, if◌then◌else◌, ◌==◌, List, [], ◌∷◌, ◌++◌, drop, take, length}
use Rattle.markdown_options.specs.declared.beside.Kind.{Kind}
use Rattle.markdown_options.specs.declared.beside.Kind.TheVariants.{Whitespace}
use Rattle.definition_text.specs.BlockLines.{own_lines}
use Rattle.definition_text.specs.Content.{return_and_feed, is_eol, content_codes}
use Rattle.text_pieces.specs.Pieces.{whole_lines}
use Rattle.definition_text.specs.InlineCode.{InlineCode, inline_code, inline_content, first_kind, next_kind}
use Rattle.inline_content.specs.declared.mark.Mark.{Mark}
use Rattle.inline_content.specs.declared.content.Content.{Content}
use Rattle.inline_content.specs.Marks.{kind_at}

-- how many bytes a code is
abbrev pub width : ℕ → ℕ
width code = if code == return_and_feed then 2 else 1

-- what is left of a line, with its ending
abbrev pub line_rest : List ℕ → List ℕ
line_rest [] = []
line_rest (c ∷ cs) = c ∷ (if is_eol c then [] else line_rest cs)

-- the kind of the character after a code, before what is left of its line, given that after the content
abbrev pub kind_after : (ℕ → Bool) → Kind → ℕ → List ℕ → Kind
kind_after is_punctuation end c left = if is_eol c then end else first_kind is_punctuation end left

-- the kind of the character before the place after a code, given that before the code
abbrev pub kind_before : (ℕ → Bool) → List Mark → ℕ → Kind → ℕ → List ℕ → Kind
kind_before is_punctuation marks place before c left =
    if is_eol c then kind_at marks place else next_kind is_punctuation before (c ∷ left)

-- the code before a place in its line, after this code
abbrev pub previous_after : ℕ → Option ℕ
previous_after c = if is_eol c then None else Some c

-- codes from a place on, with their neighbours: after an ending a line starts, before which its mark tells the kind
abbrev pub view_from : (ℕ → Bool) → Kind → List Mark → ℕ → Option ℕ → Kind → List ℕ → List InlineCode
view_from is_punctuation end marks place previous before [] = []
view_from is_punctuation end marks place previous before (c ∷ cs) =
    inline_code c previous before (kind_after is_punctuation end c (line_rest cs))
    ∷ view_from is_punctuation end marks (place + width c) (previous_after c) (kind_before is_punctuation marks (place + width c) before c (line_rest cs)) cs

-- the codes of a text with their neighbours, by the kind of the character after it and these marks
abbrev pub codes_with_marks : (ℕ → Bool) → Kind → List Mark → List ℕ → List InlineCode
codes_with_marks is_punctuation end marks text = view_from is_punctuation end marks 0 None (kind_at marks 0) (content_codes text)

-- the codes that a content stands for
abbrev pub content_view : (ℕ → Bool) → Content → List InlineCode
content_view is_punctuation content = codes_with_marks is_punctuation content.after content.marks.now content.text.now

-- those from a rest of it on
abbrev pub view_at : (ℕ → Bool) → Content → List ℕ → List InlineCode
view_at is_punctuation content rest =
    drop (length (content_codes content.text.now) - length (content_codes rest)) (content_view is_punctuation content)

-- the code before a place in its line, given that before the codes before it, from this one on
abbrev pub previous_from : Option ℕ → List ℕ → Option ℕ
previous_from previous [] = previous
previous_from previous (c ∷ front) = previous_from (previous_after c) front

-- the kind of the character between codes that a content begins with and those after them
abbrev pub kind_between : (ℕ → Bool) → List Mark → ℕ → Kind → List ℕ → List ℕ → Kind
kind_between is_punctuation marks place before [] cs = before
kind_between is_punctuation marks place before (c ∷ front) cs =
    kind_between is_punctuation marks (place + width c) (kind_before is_punctuation marks (place + width c) before c (line_rest (front ++ cs))) front cs

-- the kind of the character before a place of a content, where these codes stand from there on
abbrev pub kind_at_place : (ℕ → Bool) → Content → ℕ → List ℕ → Kind
kind_at_place is_punctuation content place others =
    kind_between is_punctuation content.marks.now 0 (kind_at content.marks.now 0) (content_codes (take place content.text.now)) others

-- the codes of the lines of a text, without the last ending
abbrev pub whole_view : (ℕ → Bool) → List ℕ → List InlineCode
whole_view is_punctuation text = inline_content is_punctuation Whitespace (own_lines (whole_lines text))
