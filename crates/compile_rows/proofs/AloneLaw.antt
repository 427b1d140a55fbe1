-- The rows of an event whose text has no rows of its own are those of what it spells.
use Rattle.std.proofs.Common.{◌≡◌, ℕ, ◌==◌, Bool, false, ◌||◌, not, List, [], ◌∷◌, ◌++◌, map, Some, refl, sym, ap, ◌∙◌}
use Rattle.compile_rows.proofs.Prelude.{Around, CallRow, Character, Data, data_rows, ending_rows, Escape, Event, events_of, HasEndings, inline_rows}
use Rattle.compile_rows.proofs.Prelude.{InlineLeaf, Inlines, is_around, is_listed, IsNode, IsTextNode, LinkTexts, literal_rows, media_names, Name, Names}
use Rattle.compile_rows.proofs.Prelude.{Nodes, Part, part_rows, same_name, span_of, Target, TaskCheck, text_in, text_is, text_of, text_part, without_padding}
use Rattle.engine_events.specs.declared.event.Name.TheVariants as n
use Rattle.definition_inline.specs.Inline.{Www, Protocol, Email, Code, Math}
use Rattle.compile_rows.proofs.InlineRows.{leaves_rows, endings_rows}
use Rattle.compile_rows.proofs.Leaves.{within, stands, own_text, value_is, has_is, reference_is, autolink_is, literal_is, html_is, raw_is}
use Rattle.compile_strings.proofs.TargetLaw.{label_law}

module _ (names : Names) (bytes : List ℕ) (leads : Target → LinkTexts) (in_link : Bool) (k : ℕ) (enter : Event) (kids : Nodes) (exit : Event)
    (rest : List Event) (is : Inlines) (node : IsNode (Around enter kids exit)) (t : IsTextNode bytes (Around enter kids exit))
    (h : HasEndings bytes (Around enter kids exit)) where
  abbrev linked : Bool
  linked = in_link || not (k == 0)

  abbrev events : List Event
  events = enter ∷ (events_of kids ++ exit ∷ rest)

  abbrev own : List ℕ
  own = text_of bytes (Around enter kids exit)

  abbrev Law : Name → Type 0
  Law name = part_rows names bytes leads in_link (span_of name) name k events ≡ inline_rows leads (text_part names bytes linked name own kids is)

  pub alone_law : (name : Name) → is_around name ≡ false → enter.name ≡ name → Law name
  alone_law n.Data a e =
      ap data_rows (own_text bytes (Around enter kids exit) events (stands enter kids exit rest node.3 node.1 node) t) ∙ sym (leaves_rows leads (map Data own))
  alone_law n.LineEnding a e =
      ap ending_rows (text_is bytes (Some (Around enter kids exit)) events (stands enter kids exit rest node.3 node.1 node))
      ∙ sym (endings_rows leads own (h.0 (ap (λ (z : Name). same_name z n.LineEnding) e)))
  alone_law n.CharacterEscape a e =
      ap (λ (z : List ℕ). map Part (map Escape z)) (value_is names bytes kids (events_of kids ++ exit ∷ rest)
      (within enter kids exit rest node.3 node.1) t.1 n.CharacterEscapeValue)
      ∙ sym (leaves_rows leads (map Escape (text_in bytes n.CharacterEscapeValue kids)))
  alone_law n.CharacterReference a e =
      ap (λ (z : List ℕ). Part (Character z) ∷ []) (reference_is names bytes kids (events_of kids ++ exit ∷ rest)
      (within enter kids exit rest node.3 node.1) t.1)
  alone_law n.Autolink a e =
      ap (λ (z : InlineLeaf). Part z ∷ []) (autolink_is names bytes kids (events_of kids ++ exit ∷ rest) (within enter kids exit rest node.3 node.1) t.1)
  alone_law n.GfmAutolinkLiteralWww a e =
      ap (literal_rows linked (Some Www)) (own_text bytes (Around enter kids exit) events (stands enter kids exit rest node.3 node.1 node) t)
      ∙ literal_is names bytes leads linked Www own
  alone_law n.GfmAutolinkLiteralEmail a e =
      ap (literal_rows linked (Some Email)) (own_text bytes (Around enter kids exit) events (stands enter kids exit rest node.3 node.1 node) t)
      ∙ literal_is names bytes leads linked Email own
  alone_law n.GfmAutolinkLiteralMailto a e =
      ap (literal_rows linked (Some Protocol)) (own_text bytes (Around enter kids exit) events (stands enter kids exit rest node.3 node.1 node) t)
      ∙ literal_is names bytes leads linked Protocol own
  alone_law n.GfmAutolinkLiteralProtocol a e =
      ap (literal_rows linked (Some Protocol)) (own_text bytes (Around enter kids exit) events (stands enter kids exit rest node.3 node.1 node) t)
      ∙ literal_is names bytes leads linked Protocol own
  alone_law n.GfmAutolinkLiteralXmpp a e =
      ap (literal_rows linked (Some Protocol)) (own_text bytes (Around enter kids exit) events (stands enter kids exit rest node.3 node.1 node) t)
      ∙ literal_is names bytes leads linked Protocol own
  alone_law n.CodeText a e =
      ap (λ (z : List ℕ). Part (Code (without_padding z)) ∷ []) (raw_is names bytes n.CodeTextSequence kids node.3 t.1 exit rest node.1)
  alone_law n.MathText a e =
      ap (λ (z : List ℕ). Part (Math (without_padding z)) ∷ []) (raw_is names bytes n.MathTextSequence kids node.3 t.1 exit rest node.1)
  alone_law n.HtmlText a e =
      html_is names bytes leads kids node.3 t.1 h.1 exit rest node.1
  alone_law n.HardBreakEscape a e =
      refl
  alone_law n.HardBreakTrailing a e =
      refl
  alone_law n.GfmFootnoteCall a e =
      ap (λ (z : List ℕ). CallRow z ∷ []) (label_law names bytes kids node.3 exit rest node.1 (ap (is_listed media_names) (node.2 ∙ e)))
  alone_law n.GfmTaskListItemCheck a e =
      ap (λ (z : Bool). Part (TaskCheck z) ∷ []) (has_is names bytes kids (events_of kids ++ exit ∷ rest) (within enter kids exit rest node.3 node.1)
      t.1 n.GfmTaskListItemValueChecked)
  alone_law name a e = let other : is_around name ≡ false = a in cc
