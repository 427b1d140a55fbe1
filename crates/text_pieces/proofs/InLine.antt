-- Bytes and codes of a line without an ending in it.
use Rattle.std.proofs.Common.{◌≡◌, ℕ, List, [], ◌∷◌, eqb, false, sym, ap, ◌∙◌, inl, inr}
use Rattle.std.specs.Prelude.{map}
use Rattle.std.proofs.lemmas.Bool.{cases_Bool, cond-false, cond-true, or_parts}
use Rattle.std.proofs.lemmas.List.{append-nil}
use Rattle.definition_text.specs.Lines.{ends_line}
use Rattle.definition_text.specs.Columns.{code_byte}
use Rattle.definition_text.specs.Content.{content_codes, is_eol}
use Rattle.text_pieces.specs.ParagraphLines.{HaveNoEnding}
use Rattle.definition_text.proofs.ContentBytes.{IsInLine, codes_in_line}

-- no byte of a line ends it
byte_in_line : (c : ℕ) → is_eol c ≡ false → ends_line (code_byte c) ≡ false
byte_in_line c h = elim (cases_Bool (eqb c 256)) [
  | inl is ↦ ap ends_line (cond-true (eqb c 256) 32 c is)
  | inr other ↦ ap ends_line (cond-false (eqb c 256) 32 c other) ∙ (or_parts (ends_line c) (eqb c 257) h).0
]

pub in_line : (cs : List ℕ) → HaveNoEnding cs → IsInLine (map code_byte cs)
in_line [] h = tt
in_line (c ∷ cs) h = (byte_in_line c h.0, in_line cs h.1)

-- codes without an ending are their own content
codes_end_nowhere : (codes : List ℕ) → HaveNoEnding codes → IsInLine codes
codes_end_nowhere [] h = tt
codes_end_nowhere (c ∷ cs) h = ((or_parts (ends_line c) (eqb c 257) h.0).0, codes_end_nowhere cs h.1)

pub plain_codes : (codes : List ℕ) → HaveNoEnding codes → content_codes codes ≡ codes
plain_codes codes h =
    ap content_codes (sym (append-nil codes)) ∙ codes_in_line codes [] (codes_end_nowhere codes h) ∙ append-nil codes
