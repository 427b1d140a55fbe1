-- The codes of the bytes of a block's lines are its content.
use Rattle.std.proofs.Common.{◌≡◌, ℕ, ◌<◌, List, [], ◌∷◌, ◌++◌, false, eqb, Option, None, Some, refl, sym, ap, ◌∙◌, length, append_assoc, arith}
use Rattle.std.specs.List.{flat_map}
use Rattle.std.proofs.lemmas.Bool.{cond-false, or_parts}
use Rattle.markdown_options.specs.declared.line_ending.LineEnding.{LineEnding}
use Rattle.markdown_options.specs.declared.line_ending.LineEnding.TheVariants.{CarriageReturnLineFeed, CarriageReturn, LineFeed}
use Rattle.definition_text.specs.Lines.{ends_line, ending_text}
use Rattle.definition_text.specs.BlockLines.{BlockLine}
use Rattle.definition_text.specs.Content.{content_codes, ending_code, content_of}

-- bytes without CR and LF
abbrev pub IsInLine : List ℕ → Type 0
IsInLine [] = Unit {0}
IsInLine (b ∷ bs) = (ends_line b ≡ false) × IsInLine bs

-- lines that hold something, and no CR or LF
abbrev pub AreFilled : List BlockLine → Type 0
AreFilled [] = Unit {0}
AreFilled (line ∷ others) = IsInLine line.codes × (0 < length line.codes) × AreFilled others

-- the bytes of a line of a block, with its ending
abbrev pub block_line_bytes : BlockLine → List ℕ
block_line_bytes line = line.codes ++ ending_text line.ending

pub codes_in_line : (bytes others : List ℕ) → IsInLine bytes → content_codes (bytes ++ others) ≡ bytes ++ content_codes others
codes_in_line [] others h = refl
codes_in_line (b ∷ bs) others h =
    cond-false (eqb b 13) _ _ (or_parts (eqb b 10) (eqb b 13) h.0).1 ∙ ap (λ x. b ∷ x) (codes_in_line bs others h.1)

-- a CR before a line that holds something is an ending of its own
return_before : (bytes others : List ℕ) → IsInLine bytes → 0 < length bytes → content_codes (13 ∷ (bytes ++ others)) ≡ 13 ∷ content_codes (bytes ++ others)
return_before [] others h some = absurd (omega arith)
return_before (b ∷ bs) others h some = cond-false (eqb b 10) _ _ (or_parts (eqb b 10) (eqb b 13) h.0).0

return_before_lines : (block_lines : List BlockLine) → AreFilled block_lines
    → content_codes (13 ∷ flat_map block_line_bytes block_lines) ≡ 13 ∷ content_codes (flat_map block_line_bytes block_lines)
return_before_lines [] h = refl
return_before_lines (line ∷ others) h =
    let rest = ending_text line.ending ++ flat_map block_line_bytes others in
    let e = append_assoc line.codes (ending_text line.ending) (flat_map block_line_bytes others) in
    ap (λ x. content_codes (13 ∷ x)) e ∙ return_before line.codes rest h.0 h.1 ∙ sym (ap (λ x. 13 ∷ content_codes x) e)

codes_of_ending : (ending : Option LineEnding) (others : List ℕ) → content_codes (13 ∷ others) ≡ 13 ∷ content_codes others
    → content_codes (ending_text ending ++ others) ≡ ending_code ending ++ content_codes others
codes_of_ending None others h = refl
codes_of_ending (Some LineFeed) others h = refl
codes_of_ending (Some CarriageReturn) others h = h
codes_of_ending (Some CarriageReturnLineFeed) others h = refl

pub content_codes_of : (block_lines : List BlockLine) → AreFilled block_lines → content_codes (flat_map block_line_bytes block_lines) ≡ content_of block_lines
content_codes_of [] h = refl
content_codes_of (line ∷ others) h =
    let rest = flat_map block_line_bytes others in
    ap content_codes (append_assoc line.codes (ending_text line.ending) rest)
    ∙ codes_in_line line.codes (ending_text line.ending ++ rest) h.0
    ∙ ap (λ x. line.codes ++ x) (codes_of_ending line.ending rest (return_before_lines others h.2)
    ∙ ap (λ x. ending_code line.ending ++ x) (content_codes_of others h.2))
    ∙ sym (append_assoc line.codes (ending_code line.ending) (content_of others))
