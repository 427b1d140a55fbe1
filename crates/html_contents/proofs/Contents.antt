-- The content of a paragraph's lines and of one line.
use Rattle.std.proofs.Common.{◌≡◌, ℕ, Bool, List, [], ◌∷◌, None, map, ap, ◌∙◌}
use Rattle.std.proofs.lemmas.List.{append-nil}
use Rattle.html_contents.proofs.Prelude.{flat_map-cons}
use Rattle.markdown_options.specs.declared.beside.Kind.{Kind}
use Rattle.definition_text.specs.BlockLines.{BlockLine, block_line, own_lines}
use Rattle.definition_text.specs.Columns.{code_byte}
use Rattle.definition_text.specs.InlineCode.{inline_content, line_content, with_kinds}
use Rattle.text_pieces.specs.ParagraphLines.{AreLines}
use Rattle.inline_content.specs.Lines.{AreContentLines}

pub content_lines : (ls : List BlockLine) → AreLines ls → AreContentLines ls
content_lines [] h = tt
content_lines (line ∷ []) h = h.0
content_lines (line ∷ next ∷ others) h = h

-- the content of one line
pub line_alone : (is_punctuation : ℕ → Bool) (after : Kind) (line : BlockLine)
    → inline_content is_punctuation after (own_lines (line ∷ [])) ≡ with_kinds is_punctuation None line.before after (map code_byte line.codes)
line_alone is_punctuation after line =
    flat_map-cons (line_content is_punctuation after) (block_line line.codes None line.before) []
    ∙ append-nil (line_content is_punctuation after (block_line line.codes None line.before))
    ∙ ap (λ codes. with_kinds is_punctuation None line.before after (map code_byte codes)) (append-nil line.codes)
