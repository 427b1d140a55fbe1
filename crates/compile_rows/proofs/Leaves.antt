-- Events that hold no text with rows of its own: their rows by events and by their nodes.
use Rattle.std.proofs.Common.{◌≡◌, ℕ, ◌+◌, ◌-◌, Bool, true, false, not, if◌then◌else◌, List, [], ◌∷◌, ◌++◌, map}
use Rattle.std.proofs.Common.{Option, None, Some, refl, sym, ap, ◌∙◌, append_assoc}
use Rattle.compile_rows.proofs.Prelude.{AreNodes, AreTexts, Around, Autolink, autolink_by, Cons, Data, ending_rows, Event, events_of, has}
use Rattle.compile_rows.proofs.Prelude.{HasEndings, HaveEndings, html_after, html_next, html_part_rows, inline_rows, InlineRow, IsNode, IsTextNode, Kind}
use Rattle.compile_rows.proofs.Prelude.{less, LinkTexts, literal_rows, Name, Names, Nil, Nodes, nonzero, number_of, numbered_text, Part, passes, PassesOver}
use Rattle.compile_rows.proofs.Prelude.{raw_after, reference_by, same_name, split, Target, text_first, text_in, text_is, text_of, unwrap_or, valid, value_of}
use Rattle.std.specs.Prelude.{is_some}
use Rattle.std.specs.Str.{is_utf8}
use Rattle.std.proofs.lemmas.Str.{IsUtf8-nil, is_utf8-from_IsUtf8}
use Rattle.engine_events.specs.declared.event.Kind.TheVariants.{Enter, Exit}
use Rattle.engine_events.specs.declared.event.Name.TheVariants as n
use Rattle.definition_inline.specs.Inline.{LiteralKind}
use Rattle.event_grammar.specs.declared.spot.Spot.{Spot}
use Rattle.event_grammar.specs.Points.{spot_of}
use Rattle.event_grammar.specs.InGrammar.{node_name}
use Rattle.event_grammar.specs.Trees.{Node}
use Rattle.event_meaning.specs.Children.{child, text_or_none, spaced_text_of, before_child, after_child}
use Rattle.event_meaning.specs.Strings.{reference_text_of}
use Rattle.event_meaning.specs.Texts.{code_part, code_parts, html_data, html_part, html_parts, autolink_of, literal_of}
use Rattle.compile_written.specs.Child.{from_child}
use Rattle.compile_written.specs.Strings.{is_some_event}
use Rattle.compile_written.specs.Within.{AreWithin, StandsFirst}
use Rattle.compile_written.proofs.ChildLaw.{child_within, text_in_is}
use Rattle.compile_written.proofs.FormedTexts.{valid_is}
use Rattle.compile_strings.specs.RawTexts.{spot_next, exit_spot, raw_next, chunk_between, chunk_first, raw_part_first}
use Rattle.compile_rows.proofs.InlineRows.{append_rows, leaves_rows, endings_rows}

module _ (enter : Event) (kids : Nodes) (exit : Event) (rest : List Event) (nodes : AreNodes kids) (x : exit.kind ≡ Exit) where
  abbrev inner : List Event
  inner = events_of kids ++ exit ∷ rest

  pub within : AreWithin kids inner
  within = record { nodes = nodes; back = exit ∷ rest; ends = x; events_are = refl }

  pub stands : IsNode (Around enter kids exit) → StandsFirst (Some (Around enter kids exit)) (enter ∷ inner)
  stands k = (k, rest, sym (ap (λ (z : List Event). enter ∷ z) (append_assoc (events_of kids) (exit ∷ []) rest)))

-- ---- bytes

module _ (bytes : List ℕ) where
  child_utf8 : (name : Name) (ns : Nodes) → AreTexts bytes ns → is_utf8 (text_in bytes name ns) ≡ true
  child_utf8 name Nil h = is_utf8-from_IsUtf8 [] IsUtf8-nil
  child_utf8 name (Cons (Around enter kids exit) ns) h = one (same_name enter.name name) (child_utf8 name ns h.1)
    where
      one : (b : Bool) → is_utf8 (text_in bytes name ns) ≡ true
          → is_utf8 (text_or_none bytes (if b then Some (Around enter kids exit) else child name ns)) ≡ true
      one true later = h.0.0
      one false later = later

  -- the bytes of a node
  pub own_text : (node : Node) (es : List Event) → StandsFirst (Some node) es → IsTextNode bytes node → valid (text_first bytes es) ≡ text_of bytes node
  own_text (Around enter kids exit) es s t =
      ap valid (text_is bytes (Some (Around enter kids exit)) es s) ∙ valid_is (text_of bytes (Around enter kids exit)) t.0

some_is : (o : Option Node) (es : List Event) → StandsFirst o es → is_some_event es ≡ is_some o
some_is None es h = ap is_some_event h
some_is (Some (Around enter kids exit)) es h = ap is_some_event h.2

module _ (names : Names) (bytes : List ℕ) (kids : Nodes) (es : List Event) (w : AreWithin kids es) (t : AreTexts bytes kids) where
  pub value_is : (name : Name) → value_of bytes name es ≡ text_in bytes name kids
  value_is name = ap valid (text_in_is bytes name kids es w) ∙ valid_is (text_in bytes name kids) (child_utf8 bytes name kids t)

  pub has_is : (name : Name) → has name es ≡ is_some (child name kids)
  has_is name = some_is (child name kids) (from_child name 0 es) (child_within name kids es w)

  pub reference_is : reference_by names bytes es ≡ reference_text_of names bytes kids
  reference_is =
      ap (λ (z : List ℕ). if has n.CharacterReferenceMarkerHexadecimal es then numbered_text (number_of 16 z)
      else (if has n.CharacterReferenceMarkerNumeric es then numbered_text (number_of 10 z) else unwrap_or (names z) []))
      (value_is n.CharacterReferenceValue)
      ∙ ap (λ (z : Bool). if z then numbered_text (number_of 16 (text_in bytes n.CharacterReferenceValue kids))
      else (if has n.CharacterReferenceMarkerNumeric es then numbered_text (number_of 10 (text_in bytes n.CharacterReferenceValue kids))
      else unwrap_or (names (text_in bytes n.CharacterReferenceValue kids)) [])) (has_is n.CharacterReferenceMarkerHexadecimal)
      ∙ ap (λ (z : Bool). if is_some (child n.CharacterReferenceMarkerHexadecimal kids) then numbered_text
      (number_of 16 (text_in bytes n.CharacterReferenceValue kids))
      else (if z then numbered_text (number_of 10 (text_in bytes n.CharacterReferenceValue kids))
      else unwrap_or (names (text_in bytes n.CharacterReferenceValue kids)) [])) (has_is n.CharacterReferenceMarkerNumeric)

  pub autolink_is : autolink_by bytes es ≡ autolink_of names bytes kids
  autolink_is =
      ap (λ (z : Bool). if z then Autolink true (value_of bytes n.AutolinkEmail es) else Autolink false (value_of bytes n.AutolinkProtocol es))
      (has_is n.AutolinkEmail)
      ∙ ap (λ (z : List ℕ). if is_some (child n.AutolinkEmail kids) then Autolink true z else Autolink false (value_of bytes n.AutolinkProtocol es))
      (value_is n.AutolinkEmail)
      ∙ ap (λ (z : List ℕ). if is_some (child n.AutolinkEmail kids) then Autolink true (text_in bytes n.AutolinkEmail kids) else Autolink false z)
      (value_is n.AutolinkProtocol)

module _ (names : Names) (bytes : List ℕ) (leads : Target → LinkTexts) where
  pub literal_is : (linked : Bool) (kind : LiteralKind) (text : List ℕ)
      → literal_rows linked (Some kind) text ≡ inline_rows leads (literal_of names bytes linked kind text)
  literal_is true kind text = sym (leaves_rows leads (map Data text))
  literal_is false kind text = refl

  -- ---- raw HTML

  html_over : PassesOver (html_after bytes)
  html_over =
      record {
        down =
            λ d e es h.
            ap (λ (k : Kind). html_next k (d + 1) (html_part_rows e.name (text_first bytes (e ∷ es))) (λ q. html_after bytes q es)) h
            ∙ ap (λ (z : Bool). (if z then html_part_rows e.name (text_first bytes (e ∷ es)) else []) ++ html_after bytes (d + 1 + 1) es) (nonzero d);
        up =
            λ d e es h.
            ap (λ (k : Kind). html_next k (d + 1 + 1) (html_part_rows e.name (text_first bytes (e ∷ es))) (λ q. html_after bytes q es)) h
            ∙ ap (λ (z : Bool). if z then [] else html_after bytes ((d + 1 + 1) - 1) es) (nonzero (d + 1))
            ∙ ap (λ (q : ℕ). html_after bytes q es) (less (d + 1));
      }

  html_leaves : (e : Event) (es : List Event) → e.kind ≡ Exit → html_after bytes 1 (e ∷ es) ≡ html_after bytes 0 es
  html_leaves e es h = ap (λ (k : Kind). html_next k 1 (html_part_rows e.name (text_first bytes (e ∷ es))) (λ q. html_after bytes q es)) h

  html_part_is : (name : Name) (node : Node) (es : List Event) → node_name node ≡ name → StandsFirst (Some node) es → IsTextNode bytes node
      → HasEndings bytes node → html_part_rows name (text_first bytes es) ≡ inline_rows leads (html_part names bytes name (text_of bytes node))
  html_part_is n.HtmlTextData node es e s t h =
      ap (λ (z : List ℕ). map Part (html_data z)) (own_text bytes node es s t) ∙ sym (leaves_rows leads (html_data (text_of bytes node)))
  html_part_is n.LineEnding (Around enter kids exit) es e s t h =
      ap ending_rows (text_is bytes (Some (Around enter kids exit)) es s)
      ∙ sym (endings_rows leads (text_of bytes (Around enter kids exit)) (h.0 (ap (λ (z : Name). same_name z n.LineEnding) e)))
  html_part_is name node es e s t h = refl

  pub html_is : (ns : Nodes) → AreNodes ns → AreTexts bytes ns → HaveEndings bytes ns → (exit : Event) (es : List Event) → exit.kind ≡ Exit
      → html_after bytes 0 (events_of ns ++ exit ∷ es) ≡ inline_rows leads (html_parts names bytes ns)
  html_is Nil k t h exit es x =
      ap (λ (z : Kind). html_next z 0 (html_part_rows exit.name (text_first bytes (exit ∷ es))) (λ q. html_after bytes q es)) x
  html_is (Cons (Around enter kids y) ns) k t h exit es x =
      let rest = events_of ns ++ exit ∷ es in
      let inside = events_of kids ++ y ∷ rest in
      let own = html_part_rows enter.name (text_first bytes (enter ∷ inside)) in
      ap (λ (l : List Event). html_after bytes 0 (enter ∷ l)) (split kids ns y (exit ∷ es))
      ∙ ap (λ (z : Kind). html_next z 0 own (λ q. html_after bytes q inside)) k.0.0
      ∙ ap (λ (z : List InlineRow). own ++ z)
      (passes (html_after bytes) html_over kids k.0.3 0 (y ∷ rest) ∙ html_leaves y rest k.0.1 ∙ html_is ns k.1 t.1 h.1 exit es x)
      ∙ ap (λ (z : List InlineRow). z ++ inline_rows leads (html_parts names bytes ns))
      (html_part_is enter.name (Around enter kids y) (enter ∷ inside) refl (stands enter kids y rest k.0.3 k.0.1 k.0) t.0 h.0)
      ∙ sym (append_rows leads (html_part names bytes enter.name (text_of bytes (Around enter kids y))) (html_parts names bytes ns))

-- ---- code and math

spot_over : PassesOver exit_spot
spot_over =
    record {
      down = λ d e es h. ap (λ (k : Kind). spot_next k (d + 1) (spot_of e) (λ q. exit_spot q es)) h;
      up =
          λ d e es h.
          ap (λ (k : Kind). spot_next k (d + 1 + 1) (spot_of e) (λ q. exit_spot q es)) h
          ∙ ap (λ (z : Bool). if z then spot_of e else exit_spot ((d + 1 + 1) - 1) es) (nonzero (d + 1))
          ∙ ap (λ (q : ℕ). exit_spot q es) (less (d + 1));
    }

exit_is : (ns : Nodes) → AreNodes ns → (exit : Event) (es : List Event) → exit.kind ≡ Exit → exit_spot 0 (events_of ns ++ exit ∷ es) ≡ spot_of exit
exit_is Nil k exit es x = ap (λ (z : Kind). spot_next z 0 (spot_of exit) (λ q. exit_spot q es)) x
exit_is (Cons (Around enter kids y) ns) k exit es x =
    let rest = events_of ns ++ exit ∷ es in
    ap (λ (l : List Event). exit_spot 0 (enter ∷ l)) (split kids ns y (exit ∷ es))
    ∙ ap (λ (z : Kind). spot_next z 0 (spot_of enter) (λ q. exit_spot q (events_of kids ++ y ∷ rest))) k.0.0
    ∙ passes exit_spot spot_over kids k.0.3 0 (y ∷ rest)
    ∙ ap (λ (z : Kind). spot_next z 1 (spot_of y) (λ q. exit_spot q rest)) k.0.1
    ∙ exit_is ns k.1 exit es x

module _ (names : Names) (bytes : List ℕ) where
  chunk_is : (enter : Event) (kids : Nodes) (exit : Event) (rest : List Event) → IsNode (Around enter kids exit) → IsTextNode bytes (Around enter kids exit)
      → chunk_first bytes (enter ∷ (events_of kids ++ exit ∷ rest)) ≡ spaced_text_of bytes (Around enter kids exit)
  chunk_is enter kids exit rest k t =
      let es = enter ∷ (events_of kids ++ exit ∷ rest) in
      ap (λ (z : Spot). chunk_between bytes (spot_of enter) z (valid (text_first bytes es))) (exit_is kids k.3 exit rest k.1)
      ∙ ap (λ (z : List ℕ). chunk_between bytes (spot_of enter) (spot_of exit) z)
      (own_text bytes (Around enter kids exit) es (stands enter kids exit rest k.3 k.1 k) t)

  raw_part_is : (name : Name) (enter : Event) (kids : Nodes) (exit : Event) (rest : List Event) → IsNode (Around enter kids exit)
      → IsTextNode bytes (Around enter kids exit)
      → raw_part_first bytes name (enter ∷ (events_of kids ++ exit ∷ rest)) ≡ code_part names bytes name (Around enter kids exit)
  raw_part_is n.LineEnding enter kids exit rest k t = refl
  raw_part_is n.CodeTextData enter kids exit rest k t = chunk_is enter kids exit rest k t
  raw_part_is n.MathTextData enter kids exit rest k t = chunk_is enter kids exit rest k t
  raw_part_is name enter kids exit rest k t = refl

  module _ (sequence : Name) where
    raw_over : (begun : Bool) → PassesOver (raw_after bytes sequence begun)
    raw_over begun =
        record {
          down =
              λ d e es h.
              ap (λ (k : Kind). raw_next k (same_name e.name sequence) begun (d + 1) (raw_part_first bytes e.name (e ∷ es))
              (λ b q. raw_after bytes sequence b q es)) h
              ∙ ap (λ (z : Bool). if not z then raw_after bytes sequence begun (d + 1 + 1) es
              else (if same_name e.name sequence then (if begun then [] else raw_after bytes sequence true (d + 1 + 1) es)
              else (if begun then raw_part_first bytes e.name (e ∷ es) else []) ++ raw_after bytes sequence begun (d + 1 + 1) es)) (nonzero d);
          up =
              λ d e es h.
              ap (λ (k : Kind). raw_next k (same_name e.name sequence) begun (d + 1 + 1) (raw_part_first bytes e.name (e ∷ es))
              (λ b q. raw_after bytes sequence b q es)) h
              ∙ ap (λ (z : Bool). if z then [] else raw_after bytes sequence begun ((d + 1 + 1) - 1) es) (nonzero (d + 1))
              ∙ ap (λ (q : ℕ). raw_after bytes sequence begun q es) (less (d + 1));
        }

    raw_enter : (begun : Bool) (e : Event) (es : List Event) → e.kind ≡ Enter
        → raw_after bytes sequence begun 0 (e ∷ es)
        ≡ (if same_name e.name sequence then (if begun then [] else raw_after bytes sequence true 1 es)
        else (if begun then raw_part_first bytes e.name (e ∷ es) else []) ++ raw_after bytes sequence begun 1 es)
    raw_enter begun e es h =
        ap (λ (k : Kind). raw_next k (same_name e.name sequence) begun 0 (raw_part_first bytes e.name (e ∷ es)) (λ b q. raw_after bytes sequence b q es)) h

    raw_ends : (begun : Bool) (e : Event) (es : List Event) → e.kind ≡ Exit → raw_after bytes sequence begun 0 (e ∷ es) ≡ []
    raw_ends begun e es h =
        ap (λ (k : Kind). raw_next k (same_name e.name sequence) begun 0 (raw_part_first bytes e.name (e ∷ es)) (λ b q. raw_after bytes sequence b q es)) h

    raw_skips : (begun : Bool) (kids : Nodes) → AreNodes kids → (exit : Event) (rest : List Event) → exit.kind ≡ Exit
        → raw_after bytes sequence begun 1 (events_of kids ++ exit ∷ rest) ≡ raw_after bytes sequence begun 0 rest
    raw_skips begun kids k exit rest x =
        passes (raw_after bytes sequence begun) (raw_over begun) kids k 0 (exit ∷ rest)
        ∙ ap (λ (z : Kind). raw_next z (same_name exit.name sequence) begun 1 (raw_part_first bytes exit.name (exit ∷ rest))
        (λ b q. raw_after bytes sequence b q rest)) x

    -- up to the second sequence
    raw_before : (ns : Nodes) → AreNodes ns → AreTexts bytes ns → (exit : Event) (es : List Event) → exit.kind ≡ Exit
        → raw_after bytes sequence true 0 (events_of ns ++ exit ∷ es) ≡ code_parts names bytes (before_child sequence ns)
    raw_before Nil k t exit es x = raw_ends true exit es x
    raw_before (Cons (Around enter kids y) ns) k t exit es x =
        let rest = events_of ns ++ exit ∷ es in
        let inside = events_of kids ++ y ∷ rest in
        ap (λ (l : List Event). raw_after bytes sequence true 0 (enter ∷ l)) (split kids ns y (exit ∷ es))
        ∙ raw_enter true enter inside k.0.0
        ∙ by_name (same_name enter.name sequence) (raw_skips true kids k.0.3 y rest k.0.1 ∙ raw_before ns k.1 t.1 exit es x)
      where
        by_name : (b : Bool)
            → raw_after bytes sequence true 1 (events_of kids ++ y ∷ (events_of ns ++ exit ∷ es)) ≡ code_parts names bytes (before_child sequence ns)
            → (if b then [] else raw_part_first bytes enter.name (enter ∷ (events_of kids ++ y ∷ (events_of ns ++ exit ∷ es)))
            ++ raw_after bytes sequence true 1 (events_of kids ++ y ∷ (events_of ns ++ exit ∷ es)))
            ≡ code_parts names bytes (if b then Nil else Cons (Around enter kids y) (before_child sequence ns))
        by_name true later = refl
        by_name false later =
            ap (λ (z : List ℕ). raw_part_first bytes enter.name (enter ∷ (events_of kids ++ y ∷ (events_of ns ++ exit ∷ es))) ++ z) later
            ∙ ap (λ (z : List ℕ). z ++ code_parts names bytes (before_child sequence ns))
            (raw_part_is enter.name enter kids y (events_of ns ++ exit ∷ es) k.0 t.0)

    -- Raw text by events is that of the node.
    pub raw_is : (ns : Nodes) → AreNodes ns → AreTexts bytes ns → (exit : Event) (es : List Event) → exit.kind ≡ Exit
        → raw_after bytes sequence false 0 (events_of ns ++ exit ∷ es) ≡ code_parts names bytes (before_child sequence (after_child sequence ns))
    raw_is Nil k t exit es x = raw_ends false exit es x
    raw_is (Cons (Around enter kids y) ns) k t exit es x =
        let rest = events_of ns ++ exit ∷ es in
        let inside = events_of kids ++ y ∷ rest in
        ap (λ (l : List Event). raw_after bytes sequence false 0 (enter ∷ l)) (split kids ns y (exit ∷ es))
        ∙ raw_enter false enter inside k.0.0
        ∙ by_name (same_name enter.name sequence) (raw_skips false kids k.0.3 y rest k.0.1 ∙ raw_is ns k.1 t.1 exit es x)
      where
        by_name : (b : Bool)
            → raw_after bytes sequence false 1 (events_of kids ++ y ∷ (events_of ns ++ exit ∷ es))
            ≡ code_parts names bytes (before_child sequence (after_child sequence ns))
            → (if b then raw_after bytes sequence true 1 (events_of kids ++ y ∷ (events_of ns ++ exit ∷ es))
            else raw_after bytes sequence false 1 (events_of kids ++ y ∷ (events_of ns ++ exit ∷ es)))
            ≡ code_parts names bytes (before_child sequence (if b then ns else after_child sequence ns))
        by_name true later = raw_skips true kids k.0.3 y (events_of ns ++ exit ∷ es) k.0.1 ∙ raw_before ns k.1 t.1 exit es x
        by_name false later = later
