-- The codes of a paragraph's content.
use Rattle.std.proofs.Common.{◌≡◌, ℕ, ◌<◌, List, [], ◌∷◌, ◌++◌, Option, None, Some, length, refl, sym, ap, ◌∙◌, arith}
use Rattle.block_definitions.proofs.Prelude.{AreLines, BlockLine, code_byte, content_codes, content_of, content_text, ending_code, flat_map, length-map}
use Rattle.block_definitions.proofs.Prelude.{line_text, LineEnding, map, own_lines}
use Rattle.std.proofs.lemmas.List.{map-append}
use Rattle.markdown_options.specs.declared.line_ending.LineEnding.TheVariants.{CarriageReturnLineFeed, CarriageReturn, LineFeed}
use Rattle.definition_text.specs.BlockLines.{block_line}
use Rattle.text_pieces.proofs.InLine.{in_line}
use Rattle.definition_text.proofs.ContentBytes.{AreFilled, block_line_bytes, content_codes_of}

abbrev spaced : BlockLine → BlockLine
spaced line = block_line (map code_byte line.codes) line.ending line.before

some_bytes : (cs : List ℕ) → 0 < length cs → 0 < length (map code_byte cs)
some_bytes cs h = omega (arith, length-map cs code_byte, h)

filled : (ls : List BlockLine) → AreLines ls → AreFilled (map spaced (own_lines ls))
filled [] h = tt
filled (line ∷ []) h = (in_line line.codes h.0, some_bytes line.codes h.1, tt)
filled (line ∷ next ∷ others) h = (in_line line.codes h.0, some_bytes line.codes h.1, filled (next ∷ others) h.3)

ending_spaced : (ending : Option LineEnding) → map code_byte (ending_code ending) ≡ ending_code ending
ending_spaced None = refl
ending_spaced (Some LineFeed) = refl
ending_spaced (Some CarriageReturn) = refl
ending_spaced (Some CarriageReturnLineFeed) = refl

content_spaced : (ls : List BlockLine) → content_of (map spaced ls) ≡ map code_byte (content_of ls)
content_spaced [] = refl
content_spaced (line ∷ others) =
    ap (λ x. (map code_byte line.codes ++ ending_code line.ending) ++ x) (content_spaced others)
    ∙ ap (λ x. (map code_byte line.codes ++ x) ++ map code_byte (content_of others)) (sym (ending_spaced line.ending))
    ∙ ap (λ x. x ++ map code_byte (content_of others)) (sym (map-append code_byte line.codes (ending_code line.ending)))
    ∙ sym (map-append code_byte (line.codes ++ ending_code line.ending) (content_of others))

text_spaced : (ls : List BlockLine) → flat_map block_line_bytes (map spaced ls) ≡ flat_map line_text ls
text_spaced [] = refl
text_spaced (line ∷ others) = ap (λ x. line_text line ++ x) (text_spaced others)

-- a tab's columns read as spaces
pub content_is : (ls : List BlockLine) → AreLines ls → content_codes (content_text ls) ≡ map code_byte (content_of (own_lines ls))
content_is ls h =
    ap content_codes (sym (text_spaced (own_lines ls)))
    ∙ content_codes_of (map spaced (own_lines ls)) (filled ls h)
    ∙ content_spaced (own_lines ls)
