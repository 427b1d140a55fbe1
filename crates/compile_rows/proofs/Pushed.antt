-- Rows and texts that are pushed.
use Rattle.std.proofs.Common.{◌≡◌, ◌<◌, ℕ, Bool, true, false, if◌then◌else◌, List, [], ◌∷◌, ◌++◌, Option, Some, refl, sym, ap, ◌∙◌, append_assoc, subst}
use Rattle.std.proofs.Common.{arith, length}
use Rattle.compile_rows.proofs.Prelude.{append-nil, Autolink, autolink_by, Character, content_codes, ending_rows, Event, has, Html, html_part_rows, InlineRow}
use Rattle.compile_rows.proofs.Prelude.{LineEnd}
use Rattle.compile_rows.proofs.Prelude.{literal_kind, literal_rows, Name, Names, number_of, numbered_text, OnOk, option_map, Part, reference_by, same_name}
use Rattle.compile_rows.proofs.Prelude.{unwrap_or, valid, value_of}
use Rattle.std.specs.List.{flat_map}
use Rattle.std.specs.Prelude.{Result, map}
use Rattle.std.proofs.lemmas.List.{map-append}
use Rattle.markdown_options.specs.declared.line_ending.LineEnding.{LineEnding}
use Rattle.definition_text.specs.Content.{ending_code}
use Rattle.definition_text.specs.Lines.{TextLine, lines, text_line}
use Rattle.engine_events.specs.declared.event.Name.TheVariants as n
use Rattle.event_meaning.specs.Texts.{html_data, html_line, html_piece}
use Rattle.definition_inline.specs.Inline.{Literal}
use Rattle.definition_inline.specs.Inline as inline
use Rattle.inline_leaves.specs.Leaves.{kind_view}
use Rattle.inline_leaves.specs.declared.leaf.LiteralKind.{LiteralKind}

-- other rows that are the same are pushed, too
pub along : {X E : Type 0} (r : Result X E) (new old x y : List InlineRow) → x ≡ y → OnOk r (new ≡ old ++ x) → OnOk r (new ≡ old ++ y)
along r new old x y e h = subst (λ (z : List InlineRow). OnOk r (new ≡ old ++ z)) e h

-- ---- references

module _ (names : Names) (bytes : List ℕ) (es : List Event) where
  abbrev value : List ℕ
  value = value_of bytes n.CharacterReferenceValue es

  abbrev character : List ℕ → List InlineRow
  character text = Part (Character text) ∷ []

  pub hexadecimal : (digits : List ℕ) → digits ≡ value → has n.CharacterReferenceMarkerHexadecimal es ≡ true
      → character (numbered_text (number_of 16 digits)) ≡ character (reference_by names bytes es)
  hexadecimal digits d h =
      ap (λ (z : List ℕ). character (numbered_text (number_of 16 z))) d
      ∙ ap (λ (z : Bool). character (if z then numbered_text (number_of 16 value)
      else (if has n.CharacterReferenceMarkerNumeric es then numbered_text (number_of 10 value) else unwrap_or (names value) []))) (sym h)

  pub decimal : (digits : List ℕ) → digits ≡ value → has n.CharacterReferenceMarkerHexadecimal es ≡ false → has n.CharacterReferenceMarkerNumeric es ≡ true
      → character (numbered_text (number_of 10 digits)) ≡ character (reference_by names bytes es)
  decimal digits d h k =
      ap (λ (z : List ℕ). character (numbered_text (number_of 10 z))) d
      ∙ ap (λ (z : Bool). character (if z then numbered_text (number_of 10 value) else unwrap_or (names value) [])) (sym k)
      ∙ ap (λ (z : Bool). character (if z then numbered_text (number_of 16 value)
      else (if has n.CharacterReferenceMarkerNumeric es then numbered_text (number_of 10 value) else unwrap_or (names value) []))) (sym h)

  pub named : (text : List ℕ) → text ≡ unwrap_or (names value) [] → has n.CharacterReferenceMarkerHexadecimal es ≡ false
      → has n.CharacterReferenceMarkerNumeric es ≡ false → character text ≡ character (reference_by names bytes es)
  named text d h k =
      ap character d
      ∙ ap (λ (z : Bool). character (if z then numbered_text (number_of 10 value) else unwrap_or (names value) [])) (sym k)
      ∙ ap (λ (z : Bool). character (if z then numbered_text (number_of 16 value)
      else (if has n.CharacterReferenceMarkerNumeric es then numbered_text (number_of 10 value) else unwrap_or (names value) []))) (sym h)

-- ---- autolinks

module _ (bytes : List ℕ) (es : List Event) where
  abbrev of_email : Bool → List InlineRow
  of_email z =
      Part (if z then Autolink true (value_of bytes n.AutolinkEmail es) else Autolink false (value_of bytes n.AutolinkProtocol es)) ∷ []

  pub email_row : (text : List ℕ) → text ≡ value_of bytes n.AutolinkEmail es → has n.AutolinkEmail es ≡ true
      → Part (Autolink true text) ∷ [] ≡ Part (autolink_by bytes es) ∷ []
  email_row text d h = ap (λ (z : List ℕ). Part (Autolink true z) ∷ []) d ∙ ap of_email (sym h)

  pub protocol_row : (text : List ℕ) → text ≡ value_of bytes n.AutolinkProtocol es → has n.AutolinkEmail es ≡ false
      → Part (Autolink false text) ∷ [] ≡ Part (autolink_by bytes es) ∷ []
  protocol_row text d h = ap (λ (z : List ℕ). Part (Autolink false z) ∷ []) d ∙ ap of_email (sym h)

-- ---- literals and raw HTML

pub literal_row : (linked : Bool) (name : Name) (found : Option LiteralKind) (kind : LiteralKind) (text piece : List ℕ)
    → option_map kind_view found ≡ literal_kind name → found ≡ Some kind → text ≡ valid piece → linked ≡ false
    → Part (Literal (kind_view kind) text) ∷ [] ≡ literal_rows linked (literal_kind name) (valid piece)
literal_row linked name found kind text piece e f t l =
    ap (λ (z : List ℕ). Part (Literal (kind_view kind) z) ∷ []) t
    ∙ ap (λ (z : Bool). literal_rows z (Some (kind_view kind)) (valid piece)) (sym l)
    ∙ ap (λ (z : Option inline.LiteralKind). literal_rows linked z (valid piece)) (sym (ap (option_map kind_view) f) ∙ e)

pub data_lines : (name : Name) (text piece : List ℕ) → text ≡ valid piece → same_name name n.HtmlTextData ≡ true
    → map Part (html_data text) ≡ html_part_rows name piece
data_lines name text piece t h =
    ap (λ (z : List ℕ). map Part (html_data z)) t
    ∙ ap (λ (z : Bool). if z then map Part (html_data (valid piece)) else (if same_name name n.LineEnding then ending_rows piece else [])) (sym h)

pub html_ending : (name : Name) (piece : List ℕ) → same_name name n.HtmlTextData ≡ false → same_name name n.LineEnding ≡ true
    → ending_rows piece ≡ html_part_rows name piece
html_ending name piece h k =
    ap (λ (z : Bool). if z then ending_rows piece else []) (sym k)
    ∙ ap (λ (z : Bool). if z then map Part (html_data (valid piece)) else (if same_name name n.LineEnding then ending_rows piece else [])) (sym h)

-- a piece that isn't empty has one row
pub piece_row : (piece : List ℕ) → 0 < length piece → Part (Html (content_codes piece)) ∷ [] ≡ map Part (html_piece piece)
piece_row [] some = absurd (omega (arith, some))
piece_row (b ∷ bs) some = refl

-- a line of data is pushed, and its ending
pub line_pushed : (old with_line new : List InlineRow) (line after rest : List ℕ) (ending : Option LineEnding)
    → lines rest ≡ text_line line ending ∷ lines after → with_line ≡ old ++ map Part (html_piece line)
    → new ≡ with_line ++ map Part (map LineEnd (ending_code ending)) → new ++ map Part (html_data after) ≡ old ++ map Part (html_data rest)
line_pushed old with_line new line after rest ending is with ended =
    let piece = map Part (html_piece line) in
    let end = map Part (map LineEnd (ending_code ending)) in
    let others = map Part (html_data after) in
    ap (λ (z : List InlineRow). z ++ others) (ended ∙ ap (λ (z : List InlineRow). z ++ end) with)
    ∙ append_assoc (old ++ piece) end others
    ∙ append_assoc old piece (end ++ others)
    ∙ ap (λ (z : List InlineRow). old ++ z) (sym
    (ap (λ (ls : List TextLine). map Part (flat_map html_line ls)) is
    ∙ map-append Part (html_piece line ++ map LineEnd (ending_code ending)) (html_data after)
    ∙ ap (λ (z : List InlineRow). z ++ others) (map-append Part (html_piece line) (map LineEnd (ending_code ending)))
    ∙ append_assoc piece end others))

-- no data is left
pub all_pushed : (rows whole : List InlineRow) (rest : List ℕ) → length rest ≡ 0 → rows ++ map Part (html_data rest) ≡ whole → rows ≡ whole
all_pushed rows whole [] none is = sym (append-nil rows) ∙ is
all_pushed rows whole (b ∷ bs) none is = absurd (omega (arith, none))
