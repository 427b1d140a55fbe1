-- Lines that are alike say the same.
use Rattle.std.proofs.Common.{◌≡◌, ℕ, false, List, [], ◌∷◌, ◌++◌, Option, None, Some, map, flat_map, refl, sym, ap, ◌∙◌}
use Rattle.parse_alike.proofs.Prelude.{append-nil, AreCodeLinesAlike, AreHtmlLinesAlike, BlockLine, bytes_of, code_byte, code_line, CompileOptions}
use Rattle.parse_alike.proofs.Prelude.{ending_bytes, ending_text, flat_map-append, html_end, html_line, html_parts, html_text, HtmlPart, line_text, LineEnding}
use Rattle.parse_alike.proofs.Prelude.{raw_html, said_bytes, says, Words}
use Rattle.definition_text.specs.Encode.{encoded_byte, encode}
use Rattle.parse_alike.specs.BlockLines.{Text, End}
use Rattle.parse_alike.proofs.HtmlText.{raw_nothing}
use Rattle.parse_alike.proofs.Printed.{of_bytes, printed}
use Rattle.parse_alike.proofs.Said.{said, said-append, said-printed, both}

-- ---- code

code_line-said : (line : BlockLine) → said (code_line line) ≡ encode (line_text line)
code_line-said line =
    let end = ending_text line.ending in
    ap (λ bytes. encode (map code_byte line.codes) ++ bytes) (append-nil (encode end))
    ∙ sym (flat_map-append encoded_byte (map code_byte line.codes) end)

-- lines of code say their text
code-said : (ls : List BlockLine) → said (flat_map code_line ls) ≡ encode (flat_map line_text ls)
code-said [] = refl
code-said (line ∷ ls) =
    said-append (code_line line) (flat_map code_line ls)
    ∙ both (said (code_line line)) (said (flat_map code_line ls)) (encode (line_text line)) (encode (flat_map line_text ls))
    (code_line-said line) (code-said ls)
    ∙ sym (flat_map-append encoded_byte (line_text line) (flat_map line_text ls))

pub code_lines-printed : (ls ls' : List BlockLine) → AreCodeLinesAlike ls ls' → printed (says (flat_map code_line ls)) ≡ printed (says (flat_map code_line ls'))
code_lines-printed ls ls' p =
    said-printed (flat_map code_line ls)
    ∙ ap of_bytes (code-said ls ∙ ap encode p ∙ sym (code-said ls'))
    ∙ sym (said-printed (flat_map code_line ls'))

-- ---- HTML

module _ (options : CompileOptions) where
  abbrev part_bytes : HtmlPart → List ℕ
  part_bytes (Text text) = said_bytes (raw_html false options text)
  part_bytes (End ending) = encode (ending_bytes ending)

  text-said : (text : List ℕ) → said_bytes (raw_html false options text) ≡ flat_map part_bytes (html_text text)
  text-said [] = raw_nothing false options
  text-said (b ∷ bs) = sym (append-nil (said_bytes (raw_html false options (b ∷ bs))))

  end-said : (ending : Option LineEnding) → said (Words (ending_text ending) ∷ []) ≡ flat_map part_bytes (html_end ending)
  end-said None = refl
  end-said (Some ending) = refl

  html_line-said : (line : BlockLine) → said (html_line options line) ≡ flat_map part_bytes (html_parts line)
  html_line-said line =
      let text = bytes_of line.codes in
      both (said_bytes (raw_html false options text)) (said (Words (ending_text line.ending) ∷ [])) (flat_map part_bytes (html_text text))
      (flat_map part_bytes (html_end line.ending)) (text-said text) (end-said line.ending)
      ∙ sym (flat_map-append part_bytes (html_text text) (html_end line.ending))

  -- lines of HTML say their parts
  lines-said : (ls : List BlockLine) → said (flat_map (html_line options) ls) ≡ flat_map part_bytes (flat_map html_parts ls)
  lines-said [] = refl
  lines-said (line ∷ ls) =
      let first = html_line options line in
      let others = flat_map (html_line options) ls in
      said-append first others
      ∙ both (said first) (said others) (flat_map part_bytes (html_parts line)) (flat_map part_bytes (flat_map html_parts ls))
      (html_line-said line) (lines-said ls)
      ∙ sym (flat_map-append part_bytes (html_parts line) (flat_map html_parts ls))

  pub html_lines-printed : (ls ls' : List BlockLine) → AreHtmlLinesAlike ls ls'
      → printed (says (flat_map (html_line options) ls)) ≡ printed (says (flat_map (html_line options) ls'))
  html_lines-printed ls ls' p =
      said-printed (flat_map (html_line options) ls)
      ∙ ap of_bytes (lines-said ls ∙ ap (flat_map part_bytes) p ∙ sym (lines-said ls'))
      ∙ sym (said-printed (flat_map (html_line options) ls'))
