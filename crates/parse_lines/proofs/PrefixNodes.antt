-- What is written of the markers of items and footnote definitions.
use Rattle.std.proofs.Common.{◌≡◌, ℕ, ◌+◌, ◌<◌, ◌^◌, zero, suc, Bool, true, false, ◌&&◌, ◌||◌, List, [], ◌∷◌, ◌++◌, None, Some, inl, inr, refl, sym, ap, ap₂, ◌∙◌, subst}
use Rattle.std.proofs.lemmas.Bool.{le-leb}
use Rattle.std.specs.Prelude.{leb, not}
use Rattle.std.proofs.lemmas.List.{length-take-le}
use Rattle.parse_lines.proofs.Prelude.{ends_line, is_token, list_all}
use Rattle.parse_lines.proofs.White.{all_prefix, gap_white}
use Rattle.std.proofs.Common.{arith, append_assoc, drop, take, length, length-append}
use Rattle.parse_lines.proofs.Prelude.{IsToken}
use Rattle.parse_lines.proofs.Prelude.{append, append-nil-list, AreJoined, Around, bare, byte_nodes, bytes_of, cases_Bool, cond-false, cond-true, Cons}
use Rattle.parse_lines.proofs.Prelude.{content_codes, drop-append_seam, drop-drop, End, end_at, end_edge, end_in, enter_at, Enters, exit_at, Exits, flat_void}
use Rattle.parse_lines.proofs.Prelude.{gap, indent, is_digit, is_eol, is_space, is_tab_column, is_white, IsInOrder, IsLineOf, ItemParts, list_any}
use Rattle.parse_lines.proofs.Prelude.{list_any-append, Name, named, named_in, Nil, Node, node_name, Nodes, number_of, one, Option, or_parts, Output}
use Rattle.parse_lines.proofs.Prelude.{prefix_len, Rest, rest_start, same_end, same_name, take-append_seam, text_between, void_nodes, whole, Writes}
use Rattle.parse_lines.proofs.Prelude.{writes_around, writes_both, writes_joined, ◌==◌}
use Rattle.engine_events.specs.declared.event.Event.{Event}
use Rattle.engine_events.specs.declared.event.Name.TheVariants as n
use Rattle.event_grammar.specs.References.{label_text}
use Rattle.event_meaning.specs.Blocks.{label_of}
use Rattle.event_meaning.specs.Children.{child, inside_of, text_in}
use Rattle.parse_output.proofs.Forests.{append-assoc}
use Rattle.parse_output.proofs.Joined.{flat_label}
use Rattle.event_grammar.specs.declared.slot.Between.TheVariants.{Spaces}
use Rattle.event_grammar.specs.declared.slot.Child.TheVariants.{StringPart}
use Rattle.event_grammar.specs.declared.slot.Form.TheVariants.{Ordered, Plain}
use Rattle.event_grammar.specs.Grammar.{one as one_slot, row, string_row}
use Rattle.parse_slots.specs.Left.{Fill}
use Rattle.parse_slots.proofs.Steps.{fill_both, fill_taken, filled_by}
use Rattle.parse_slots.proofs.Voids.{further_apart, void_between, void_data, void_is, void_taken}
use Rattle.parse_lines.specs.Prefixes.{IsFootnoteLabel, IsFootnotePrefix, IsItemPrefix, item_form}
use Rattle.parse_lines.proofs.Between.{rests_between}
use Rattle.parse_lines.proofs.Columns.{bare_owes_none}
use Rattle.parse_lines.proofs.Dark.{IsAtColumn, IsDark, characters_step, dark_bytes, further, space_step, token_step}
use Rattle.std.specs.Str.{is_utf8}
use Rattle.parse_lines.proofs.Ends.{line_follows}
use Rattle.parse_lines.proofs.Quiet.{no_void}
use Rattle.parse_lines.proofs.Markers.{IsFootnoteStart, IsItemStart, any_white, digits_are, marked}

-- ---- nodes of other names

pub named_both : (name : Name) (ns ms : Nodes) → named name (append ns ms) ≡ named name ns ++ named name ms
named_both name Nil ms = refl
named_both name (Cons node ns) ms =
    ap (λ (xs : List Node). named_in name node ++ xs) (named_both name ns ms) ∙ sym (append_assoc (named_in name node) (named name ns) (named name ms))

module _ (name : Name) where
  none_both : (ns ms : Nodes) → named name ns ≡ [] → named name ms ≡ [] → named name (append ns ms) ≡ []
  none_both ns ms p q = named_both name ns ms ∙ ap₂ (λ (xs ys : List Node). xs ++ ys) p q

  none_around : (this : Name) (enter exit : Event) (kids : Nodes) → enter.name ≡ this → same_name this name ≡ false → named name kids ≡ []
      → named name (one (Around enter kids exit)) ≡ []
  none_around this enter exit kids is other none =
      append-nil-list _ ∙ cond-false (same_name enter.name name) _ _ (ap (λ (x : Name). same_name x name) is ∙ other) ∙ none

  none_bytes : (index count : ℕ) → same_name n.Data name ≡ false → named name (byte_nodes index count) ≡ []
  none_bytes index zero other = refl
  none_bytes index (suc count) other =
      ap (λ (xs : List Node). xs ++ named name (byte_nodes (index + 1) count)) (cond-false (same_name n.Data name) _ _ other)
      ∙ none_bytes (index + 1) count other

  none_void : (this : Name) (text : List ℕ) (from to : End) → same_name this n.Data ≡ false → same_name this name ≡ false
      → named name (void_nodes text this from to) ≡ []
  none_void this text from to data_other other =
      elim (cases_Bool (same_end to from)) [
        | inl same ↦ ap (named name) (cond-true (same_end to from) _ _ same)
        | inr apart ↦
            ap (named name) (cond-false (same_end to from) _ _ apart
            ∙ cond-false (same_name this n.Data && true) _ _ (ap (λ (b : Bool). b && true) data_other))
            ∙ none_around this (enter_at text this from) (exit_at text this to) Nil refl other refl
      ]

  none_data : (text : List ℕ) (from to : End) → same_name n.Data name ≡ false → named name (void_nodes text n.Data from to) ≡ []
  none_data text from to other =
      elim (cases_Bool (same_end to from)) [
        | inl same ↦ ap (named name) (cond-true (same_end to from) _ _ same)
        | inr apart ↦ ap (named name) (cond-false (same_end to from) _ _ apart) ∙ none_bytes _ _ other
      ]

any_take : (p : ℕ → Bool) (k j : ℕ) (xs : List ℕ) → list_any p (take (k + j) xs) ≡ false → list_any p (take k xs) ≡ false
any_take p zero j xs h = refl
any_take p (suc k) j [] h = refl
any_take p (suc k) j (x ∷ xs) h =
    let all : suc k + j ≡ suc (k + j) = omega arith in
    let parts = or_parts (p x) (list_any p (take (k + j) xs)) (sym (ap (λ (m : ℕ). list_any p (take m (x ∷ xs))) all) ∙ h) in
    ap₂ (λ (a b : Bool). a || b) parts.0 (any_take p k j xs parts.1)

-- ---- the rows of the grammar

-- a number, if there is one, a marker and white space fill the row of the prefix of an item
item_fill : (text : List ℕ) (number : Option ℕ) (e0 e1 e2 e3 : End) → ((k : ℕ) → number ≡ Some k → e0.index < e1.index) → (number ≡ None → e0 ≡ e1)
    → e1.index < e2.index
    → Fill Spaces (row n.ListItemPrefix (item_form number))
    (append (append (void_nodes text n.ListItemValue e0 e1) (void_nodes text n.ListItemMarker e1 e2)) (void_nodes text n.SpaceOrTab e2 e3)) []
item_fill text None e0 e1 e2 e3 value bullet further =
    subst (λ (ns : Nodes). Fill Spaces (row n.ListItemPrefix Plain)
    (append (append ns (void_nodes text n.ListItemMarker e1 e2)) (void_nodes text n.SpaceOrTab e2 e3)) [])
    (sym (no_void text n.ListItemValue e0 e1 (bullet refl)))
    (fill_both (void_taken Spaces (row n.ListItemPrefix Plain) n.ListItemMarker Plain [] text e1 e2 (further_apart e1 e2 further) refl refl refl)
    (void_between Spaces [] n.SpaceOrTab text e2 e3 refl refl refl refl))
item_fill text (Some k) e0 e1 e2 e3 value bullet further =
    fill_both
    (fill_both (void_taken Spaces (row n.ListItemPrefix Ordered) n.ListItemValue Plain (one_slot n.ListItemMarker ∷ []) text e0 e1 (further_apart e0 e1 (value k refl)) refl refl refl)
    (void_taken Spaces (one_slot n.ListItemMarker ∷ []) n.ListItemMarker Plain [] text e1 e2 (further_apart e1 e2 further) refl refl refl))
    (void_between Spaces [] n.SpaceOrTab text e2 e3 refl refl refl refl)

-- two brackets, a mark and a string fill the row of a label
label_fill : (text : List ℕ) (e0 e1 e2 e3 e4 : End) (enter exit : Event) → enter.name ≡ n.GfmFootnoteDefinitionLabelString → e0.index < e1.index
    → e1.index < e2.index → e3.index < e4.index
    → Fill Spaces (row n.GfmFootnoteDefinitionLabel Plain)
    (append (append (append (void_nodes text n.GfmFootnoteDefinitionLabelMarker e0 e1) (void_nodes text n.GfmFootnoteDefinitionMarker e1 e2))
    (one (Around enter (void_nodes text n.Data e2 e3) exit))) (void_nodes text n.GfmFootnoteDefinitionLabelMarker e3 e4)) []
label_fill text e0 e1 e2 e3 e4 enter exit is first second last =
    let close = one_slot n.GfmFootnoteDefinitionLabelMarker ∷ [] in
    let string = one_slot n.GfmFootnoteDefinitionLabelString ∷ close in
    let mark = one_slot n.GfmFootnoteDefinitionMarker ∷ string in
    fill_both
    (fill_both
    (fill_both (void_taken Spaces (row n.GfmFootnoteDefinitionLabel Plain) n.GfmFootnoteDefinitionLabelMarker Plain mark text e0 e1 (further_apart e0 e1 first) refl refl refl)
    (void_taken Spaces mark n.GfmFootnoteDefinitionMarker Plain string text e1 e2 (further_apart e1 e2 second) refl refl refl))
    (fill_taken Spaces string n.GfmFootnoteDefinitionLabelString Plain close (Around enter (void_nodes text n.Data e2 e3) exit) is refl
    (filled_by Spaces Plain n.GfmFootnoteDefinitionLabelString string_row (Around enter (void_nodes text n.Data e2 e3) exit) is
    (void_data Spaces StringPart [] text e2 e3 refl) refl)))
    (void_taken Spaces close n.GfmFootnoteDefinitionLabelMarker Plain [] text e3 e4 (further_apart e3 e4 last) refl refl refl)

-- a label, a colon and white space fill the row of the prefix of a footnote definition
footnote_fill : (text label : List ℕ) (node : Node) (e0 e1 e2 : End) → IsFootnoteLabel label text node → e0.index < e1.index
    → Fill Spaces (row n.GfmFootnoteDefinitionPrefix Plain)
    (append (append (one node) (void_nodes text n.DefinitionMarker e0 e1)) (void_nodes text n.SpaceOrTab e1 e2)) []
footnote_fill text label node e0 e1 e2 is further =
    let colon = one_slot n.DefinitionMarker ∷ [] in
    fill_both
    (fill_both (fill_taken Spaces (row n.GfmFootnoteDefinitionPrefix Plain) n.GfmFootnoteDefinitionLabel Plain colon node is.is_named refl
    (filled_by Spaces Plain n.GfmFootnoteDefinitionLabel [] node is.is_named is.fill refl))
    (void_taken Spaces colon n.DefinitionMarker Plain [] text e0 e1 (further_apart e0 e1 further) refl refl refl))
    (void_between Spaces [] n.SpaceOrTab text e1 e2 refl refl refl refl)

-- ---- items

-- where a column of the line is in the text
abbrev pub column : List ℕ → ℕ → ℕ → End
column content line_end k = rest_start line_end (drop k (whole content))

-- the steps of a token, of white space, and of an event
abbrev pub WritesToken : {A : Type 0} → List ℕ → Name → ℕ → Output A → Output A → Type 0
WritesToken text name k a b =
    ((end_in a).index + k < 2 ^ 64 → end_in b ≡ end_at ((end_in a).index + k) 0)
    × ((end_in a).index + k < 2 ^ 64 → IsInOrder text a → IsToken text name (end_in a) (end_at ((end_in a).index + k) 0)
    → Writes text a b (void_nodes text name (end_in a) (end_at ((end_in a).index + k) 0)))

abbrev pub WritesTo : {A : Type 0} → List ℕ → Output A → Output A → End → Type 0
WritesTo text a b to = IsInOrder text a → IsToken text n.SpaceOrTab (end_in a) to → Writes text a b (void_nodes text n.SpaceOrTab (end_in a) to)

abbrev pub WritesSpaceTo : {A : Type 0} → List ℕ → End → Output A → Output A → Type 0
WritesSpaceTo text to a b =
    (end_in b ≡ to) × WritesTo text a b to

abbrev pub EntersAs : {A : Type 0} → List ℕ → Name → Output A → Output A → Type 0
EntersAs text name a b = (IsInOrder text a → Enters text name a b) × (end_in b ≡ end_in a)

abbrev pub ExitsAs : {A : Type 0} → List ℕ → Name → Output A → Output A → Type 0
ExitsAs text name a b = (IsInOrder text a → Exits text name a b) × (end_in b ≡ end_in a)

module _ {A : Type 0} (text before content after : List ℕ) (line_end : ℕ) (line : IsLineOf text before content after)
    (end : line_end ≡ length before + length content) where
  -- the prefix of an item
  pub item_written : (a b c d e f : Output A) (k : ℕ) (start rest : Rest) (item : ItemParts) (digits : ℕ) → start ≡ drop k (whole content)
      → IsItemStart start item rest → digits ≡ prefix_len is_digit (bytes_of (bare start)) → end_in a ≡ rest_start line_end (bare start) → IsInOrder text a
      → EntersAs text n.ListItemPrefix a b → WritesToken text n.ListItemValue digits b c → WritesToken text n.ListItemMarker 1 c d
      → WritesSpaceTo text (rest_start line_end rest) d e
      → ExitsAs text n.ListItemPrefix e f
      → (first : Node) × IsItemPrefix item.number text first × Writes text a f (one first) × (end_in f ≡ rest_start line_end rest)
  item_written a b c d e f k start rest item digits at is count from order enters value marker space exits =
      let here = bare start in
      let first = k + indent start in
      let here_at : here ≡ drop first (whole content) = ap (drop (indent start)) at ∙ drop-drop (indent start) k (whole content) in
      let m = is.m in
      let mark = marked here m is.marker_is in
      let d0 = prefix_len is_digit here in
      let are = digits_are here mark.code m.rest mark.after mark.dark mark.other in
      let same : digits ≡ d0 = count ∙ are.count in
      let size : length here ≡ length (drop first (whole content)) = ap length here_at in
      let after_digits : drop (first + d0) (whole content) ≡ mark.code ∷ m.rest =
      sym (drop-drop d0 first (whole content)) ∙ ap (drop d0) (sym here_at) ∙ mark.after in
      let dark_digits : IsDark text before content after line_end line end first d0 =
      record {
        within = omega (arith, are.within, size);
        dark = any_take is_white d0 1 (drop first (whole content)) (ap (λ (xs : Rest). list_any is_white (take (d0 + 1) xs)) (sym here_at) ∙ are.dark);
        none = ap (prefix_len is_tab_column) (sym here_at) ∙ bare_owes_none start;
      } in
      let dark_marker : IsDark text before content after line_end line end (first + d0) 1 =
      record {
        within = omega (arith, ap length after_digits);
        dark = ap (λ (xs : Rest). list_any is_white (take 1 xs)) after_digits ∙ ap (λ (t : Bool). t || false) mark.dark;
        none = (further text before content after line_end line end first d0 dark_digits).none;
      } in
      let rest_at : rest ≡ drop ((first + d0 + 1) + gap m.rest) (whole content) =
      is.rest_is ∙ ap (drop (gap m.rest)) (sym (ap (drop 1) after_digits) ∙ drop-drop 1 (first + d0) (whole content))
      ∙ drop-drop (gap m.rest) (first + d0 + 1) (whole content) in
      let digits_may : 0 < d0 → is_token n.ListItemValue (take d0 (drop first (whole content))) ≡ true =
      λ some.
      ap (λ (xs : Rest). is_token n.ListItemValue (take d0 xs)) (sym here_at)
      ∙ ap₂ (λ (k : ℕ) (b : Bool). (leb 1 k && leb k 9) && b) (length-take-le d0 here (omega (arith, are.within))) (all_prefix is_digit d0 here (omega arith))
      ∙ ap₂ (λ (a b : Bool). (a && b) && true) (le-leb 1 d0 some) (le-leb d0 9 mark.few) in
      let marker_may : is_token n.ListItemMarker (take 1 (drop (first + d0) (whole content))) ≡ true =
      ap (λ (xs : Rest). is_token n.ListItemMarker (take 1 xs)) after_digits ∙ ap (λ (b : Bool). b && true) mark.is_marker in
      let after_marker : drop (first + d0 + 1) (whole content) ≡ m.rest = sym (drop-drop 1 (first + d0) (whole content)) ∙ ap (drop 1) after_digits in
      let gap_may : list_all is_white (take (gap m.rest) (drop (first + d0 + 1) (whole content))) ≡ true =
      ap (λ (xs : Rest). list_all is_white (take (gap m.rest) xs)) after_marker ∙ gap_white m.rest in
      let entered = enters.0 order in
      let at_b : IsAtColumn text before content after line_end line end first b =
      record { at = enters.1 ∙ from ∙ ap (rest_start line_end) here_at; order = entered.order } in
      let value_d0 : WritesToken text n.ListItemValue d0 b c = subst (λ (j : ℕ). WritesToken text n.ListItemValue j b c) same value in
      let one_step = token_step text before content after line_end line end n.ListItemValue first d0 b c dark_digits digits_may at_b value_d0.0 value_d0.1 in
      let two_step = token_step text before content after line_end line end n.ListItemMarker (first + d0) 1 c d dark_marker (λ some. marker_may) one_step.1 marker.0 marker.1 in
      let last_step =
      space_step text before content after line_end line end (first + d0 + 1) (gap m.rest) rest d e rest_at gap_may two_step.1 space.0 space.1 in
      let e0 = column content line_end first in
      let e1 = column content line_end (first + d0) in
      let e2 = column content line_end (first + d0 + 1) in
      let e3 = column content line_end ((first + d0 + 1) + gap m.rest) in
      let values = void_nodes text n.ListItemValue e0 e1 in
      let markers = void_nodes text n.ListItemMarker e1 e2 in
      let spaces = void_nodes text n.SpaceOrTab e2 e3 in
      let kids = append (append values markers) spaces in
      let inner : Writes text b e kids =
      writes_both text b d e (append values markers) spaces (writes_both text b c d values markers one_step.0 two_step.0) last_step.0 in
      let node = Around (enter_at text n.ListItemPrefix (end_in a)) kids (exit_at text n.ListItemPrefix (end_in e)) in (
        node,
        record {
          is_named = refl;
          value = λ j is_j.
              let number = mark.number j (sym is.number_is ∙ is_j) in
              let further_on : (column content line_end first).index < (column content line_end (first + d0)).index =
              omega (arith, ap (λ (x : End). x.index) (further text before content after line_end line end first d0 dark_digits).there, number.1) in
              let value_is = void_is text n.ListItemValue (column content line_end first) (column content line_end (first + d0)) further_on refl in
              let bytes : text_between text (column content line_end first) (column content line_end (first + d0)) ≡ take d0 here =
              rests_between text before content after line_end line end first d0
              ∙ dark_bytes (take d0 (drop first (whole content))) dark_digits.dark ∙ ap (take d0) (sym here_at) in
              ap (λ (ns : Nodes). number_of (text_in text n.ListItemValue (append (append ns markers) spaces))) value_is
              ∙ ap number_of bytes ∙ sym number.0;
          others = λ name other.
              let p1 = or_parts (same_name n.ListItemPrefix name) _ other in
              let p2 = or_parts (same_name n.ListItemValue name) _ p1.1 in
              let p3 = or_parts (same_name n.ListItemMarker name) _ p2.1 in
              let p4 = or_parts (same_name n.SpaceOrTab name) _ p3.1 in
              none_around name n.ListItemPrefix (enter_at text n.ListItemPrefix (end_in a)) (exit_at text n.ListItemPrefix (end_in e)) kids refl p1.0
              (none_both name (append values markers) spaces
              (none_both name values markers (none_void name n.ListItemValue text e0 e1 refl p2.0) (none_void name n.ListItemMarker text e1 e2 refl p3.0))
              (none_void name n.SpaceOrTab text e2 e3 refl p4.0));
          fill =
              item_fill text item.number e0 e1 e2 e3
              (λ j is_j. omega (arith, ap (λ (x : End). x.index) (further text before content after line_end line end first d0 dark_digits).there, (mark.number j (sym is.number_is ∙ is_j)).1))
              (λ none. sym (let zero_digits : first + d0 ≡ first = omega (arith, mark.bullet (sym is.number_is ∙ none)) in ap (column content line_end) zero_digits))
              (omega (arith, ap (λ (x : End). x.index) (further text before content after line_end line end (first + d0) 1 dark_marker).there));
        },
        writes_around text a b e f n.ListItemPrefix kids entered inner (exits.0 last_step.0.order),
        exits.1 ∙ space.0,
      )

-- ---- footnote definitions

-- a child that others are before
none_child : (name this : Name) (text : List ℕ) (from to : End) → same_name this n.Data ≡ false → same_name this name ≡ false
    → child name (void_nodes text this from to) ≡ None
none_child name this text from to data_other other =
    elim (cases_Bool (same_end to from)) [
      | inl same ↦ ap (child name) (cond-true (same_end to from) _ _ same)
      | inr apart ↦
          ap (child name) (cond-false (same_end to from) _ _ apart
          ∙ cond-false (same_name this n.Data && true) _ _ (ap (λ (b : Bool). b && true) data_other))
          ∙ cond-false (same_name this name) _ _ other
    ]

child_rest : (name : Name) (ns ms : Nodes) → child name ns ≡ None → child name (append ns ms) ≡ child name ms
child_rest name Nil ms none = refl
child_rest name (Cons node ns) ms none =
    elim (cases_Bool (same_name (node_name node) name)) [
      | inl t ↦ let no : Some node ≡ None = sym (cond-true (same_name (node_name node) name) _ _ t) ∙ none in absurd (cc)
      | inr t ↦
          cond-false (same_name (node_name node) name) _ _ t
          ∙ child_rest name ns ms (sym (cond-false (same_name (node_name node) name) _ _ t) ∙ none)
    ]

none_child_both : (name : Name) (ns ms : Nodes) → child name ns ≡ None → child name ms ≡ None → child name (append ns ms) ≡ None
none_child_both name ns ms first second = child_rest name ns ms first ∙ second

child_found : (name : Name) (front : Nodes) (node : Node) (later : Nodes) → same_name (node_name node) name ≡ true → child name front ≡ None
    → child name (append (append front (one node)) later) ≡ Some node
child_found name front node later is none =
    ap (child name) (append-assoc front (one node) later) ∙ child_rest name front (Cons node later) none
    ∙ cond-true (same_name (node_name node) name) _ _ is

-- codes without CR are as they are
codes_are : (xs : List ℕ) → list_any is_space xs ≡ false → content_codes xs ≡ xs
codes_are [] h = refl
codes_are (x ∷ xs) h =
    let parts = or_parts (is_space x) (list_any is_space xs) h in
    let ends = (or_parts (is_white x) (is_eol x) parts.0).1 in
    let first = (or_parts ((x == 10) || (x == 13)) (x == 257) ends).0 in
    cond-false (x == 13) _ _ (or_parts (x == 10) (x == 13) first).1 ∙ ap (λ (ys : List ℕ). x ∷ ys) (codes_are xs parts.1)

-- no line ends in what has no space
no_endings : (xs : List ℕ) → list_any is_space xs ≡ false → list_all (λ b. not (ends_line b)) xs ≡ true
no_endings [] dark = refl
no_endings (x ∷ xs) dark =
    let parts = or_parts (is_space x) (list_any is_space xs) dark in
    let ends = (or_parts (is_white x) (is_eol x) parts.0).1 in
    let first = (or_parts ((x == 10) || (x == 13)) (x == 257) ends).0 in
    ap₂ (λ (a b : Bool). not a && b) first (no_endings xs parts.1)

module _ (text before content after : List ℕ) (line_end : ℕ) (line : IsLineOf text before content after) (end : line_end ≡ length before + length content) where
  -- some codes at a column are no white space
  dark_at : (k j : ℕ) (front more : Rest) → drop k (whole content) ≡ front ++ more → j ≡ length front → list_any is_white front ≡ false
      → prefix_len is_tab_column (drop k (whole content)) ≡ 0 → IsDark text before content after line_end line end k j
  dark_at k j front more is size dark none =
      record {
        within = omega (arith, ap length is, length-append front more, size);
        dark = ap₂ (λ (m : ℕ) (xs : Rest). list_any is_white (take m xs)) size is ∙ ap (list_any is_white) (take-append_seam front more) ∙ dark;
        none = none;
      }

  -- an event may have these bytes where they are next
  may_at : (name : Name) (k : ℕ) (front more : Rest) → drop k (whole content) ≡ front ++ more → is_token name front ≡ true
      → is_token name (take (length front) (drop k (whole content))) ≡ true
  may_at name k front more is may =
      ap (λ (xs : Rest). is_token name (take (length front) xs)) is ∙ ap (is_token name) (take-append_seam front more) ∙ may

  -- what comes after them
  rest_at : (k : ℕ) (front more : Rest) → drop k (whole content) ≡ front ++ more → drop (k + length front) (whole content) ≡ more
  rest_at k front more is = sym (drop-drop (length front) k (whole content)) ∙ ap (drop (length front)) is ∙ drop-append_seam front more

module _ {A : Type 0} (text before content after : List ℕ) (line_end : ℕ) (line : IsLineOf text before content after)
    (end : line_end ≡ length before + length content) where
  -- a label with its brackets
  pub label_written : (a b c d e f g h i : Output A) (k size : ℕ) (label more : Rest) → end_in a ≡ column content line_end k → IsInOrder text a
      → prefix_len is_tab_column (drop k (whole content)) ≡ 0
      → drop k (whole content) ≡ 91 ∷ 94 ∷ (label ++ 93 ∷ more) → list_any is_space label ≡ false → size ≡ length label
      → EntersAs text n.GfmFootnoteDefinitionLabel a b → WritesToken text n.GfmFootnoteDefinitionLabelMarker 1 b c
      → WritesToken text n.GfmFootnoteDefinitionMarker 1 c d → EntersAs text n.GfmFootnoteDefinitionLabelString d e → WritesToken text n.Data size e f
      → ExitsAs text n.GfmFootnoteDefinitionLabelString f g → WritesToken text n.GfmFootnoteDefinitionLabelMarker 1 g h
      → ExitsAs text n.GfmFootnoteDefinitionLabel h i
      → (first : Node) × IsFootnoteLabel label text first × Writes text a i (one first) × (end_in i ≡ column content line_end (k + (length label + 3)))
  label_written a b c d e f g h i k size label more from order none is dark sized enters open_bracket mark inner string_data inner_end close exits =
      let white = any_white label dark in
      -- `[`, `^`, the label and `]`
      let first = dark_at text before content after line_end line end k 1 (91 ∷ []) (94 ∷ (label ++ 93 ∷ more)) is refl refl none in
      let is2 = rest_at text before content after line_end line end k (91 ∷ []) (94 ∷ (label ++ 93 ∷ more)) is in
      let second = dark_at text before content after line_end line end (k + 1) 1 (94 ∷ []) (label ++ 93 ∷ more) is2 refl refl
      (further text before content after line_end line end k 1 first).none in
      let is3 = rest_at text before content after line_end line end (k + 1) (94 ∷ []) (label ++ 93 ∷ more) is2 in
      let third = dark_at text before content after line_end line end (k + 1 + 1) size label (93 ∷ more) is3 sized white
      (further text before content after line_end line end (k + 1) 1 second).none in
      let is4 : drop (k + 1 + 1 + size) (whole content) ≡ 93 ∷ more =
      ap (λ (j : ℕ). drop (k + 1 + 1 + j) (whole content)) sized ∙ rest_at text before content after line_end line end (k + 1 + 1) label (93 ∷ more) is3 in
      let fourth = dark_at text before content after line_end line end (k + 1 + 1 + size) 1 (93 ∷ []) more is4 refl refl
      (further text before content after line_end line end (k + 1 + 1) size third).none in
      let entered = enters.0 order in
      let at_b : IsAtColumn text before content after line_end line end k b = record { at = enters.1 ∙ from; order = entered.order } in
      let s1 = token_step text before content after line_end line end n.GfmFootnoteDefinitionLabelMarker k 1 b c first
      (λ some. may_at text before content after line_end line end n.GfmFootnoteDefinitionLabelMarker k (91 ∷ []) (94 ∷ (label ++ 93 ∷ more)) is refl) at_b
      open_bracket.0 open_bracket.1 in
      let s2 = token_step text before content after line_end line end n.GfmFootnoteDefinitionMarker (k + 1) 1 c d second
      (λ some. may_at text before content after line_end line end n.GfmFootnoteDefinitionMarker (k + 1) (94 ∷ []) (label ++ 93 ∷ more) is2 refl) s1.1 mark.0 mark.1 in
      let entered2 = inner.0 s2.1.order in
      let at_e : IsAtColumn text before content after line_end line end (k + 1 + 1) e = record { at = inner.1 ∙ s2.1.at; order = entered2.order } in
      let label_is : take size (drop (k + 1 + 1) (whole content)) ≡ label =
      ap (λ (j : ℕ). take j (drop (k + 1 + 1) (whole content))) sized ∙ ap (take (length label)) is3 ∙ take-append_seam label (93 ∷ more) in
      let chars : is_utf8 (take size (drop (k + 1 + 1) (whole content))) ≡ true =
      characters_step text before content after line_end line end (k + 1 + 1) size 93 e more third at_e is4 refl (omega arith) in
      let no_ending : list_all (λ b. not (ends_line b)) (take size (drop (k + 1 + 1) (whole content))) ≡ true =
      ap (list_all (λ b. not (ends_line b))) label_is ∙ no_endings label dark in
      let s3 = token_step text before content after line_end line end n.Data (k + 1 + 1) size e f third
      (λ some. ap₂ (λ (a b : Bool). a && b) chars no_ending) at_e string_data.0 string_data.1 in
      let exited2 = inner_end.0 s3.1.order in
      let at_g : IsAtColumn text before content after line_end line end (k + 1 + 1 + size) g = record { at = inner_end.1 ∙ s3.1.at; order = exited2.order } in
      let s4 = token_step text before content after line_end line end n.GfmFootnoteDefinitionLabelMarker (k + 1 + 1 + size) 1 g h fourth
      (λ some. may_at text before content after line_end line end n.GfmFootnoteDefinitionLabelMarker (k + 1 + 1 + size) (93 ∷ []) more is4 refl) at_g close.0 close.1 in
      let e0 = column content line_end k in
      let e1 = column content line_end (k + 1) in
      let e2 = column content line_end (k + 1 + 1) in
      let e3 = column content line_end (k + 1 + 1 + size) in
      let e4 = column content line_end (k + 1 + 1 + size + 1) in
      let opens = void_nodes text n.GfmFootnoteDefinitionLabelMarker e0 e1 in
      let marks = void_nodes text n.GfmFootnoteDefinitionMarker e1 e2 in
      let bytes = void_nodes text n.Data e2 e3 in
      let closes = void_nodes text n.GfmFootnoteDefinitionLabelMarker e3 e4 in
      let string_enter = enter_at text n.GfmFootnoteDefinitionLabelString (end_in d) in
      let string_exit = exit_at text n.GfmFootnoteDefinitionLabelString (end_in f) in
      let string = Around string_enter bytes string_exit in
      let strings : Writes text d g (one string) =
      writes_around text d e f g n.GfmFootnoteDefinitionLabelString bytes entered2 s3.0 exited2 in
      let front = append opens marks in
      let fronts : Writes text b d front = writes_both text b c d opens marks s1.0 s2.0 in
      let kids = append (append front (one string)) closes in
      let all : Writes text b h kids =
      writes_both text b g h (append front (one string)) closes (writes_both text b d g front (one string) fronts strings) s4.0 in
      let enter = enter_at text n.GfmFootnoteDefinitionLabel (end_in a) in
      let exit = exit_at text n.GfmFootnoteDefinitionLabel (end_in h) in
      let node = Around enter kids exit in
      let to : k + 1 + 1 + size + 1 ≡ k + (length label + 3) = omega (arith, sized) in
      let joined : AreJoined (end_edge text (end_in d)) bytes (end_edge text (end_in f)) =
      subst (λ (x : End). AreJoined (end_edge text x) bytes (end_edge text (end_in f))) inner.1 (writes_joined text e f bytes entered2.order s3.0) in
      let text_is : label_text text string ≡ label =
      flat_label text n.GfmFootnoteDefinitionLabelString (end_in d) (end_in f) bytes joined
      ∙ flat_void text n.Data e2 e3 refl
      (line_follows text before content after line_end (k + 1 + 1) (k + 1 + 1 + size) line end (omega arith))
      ∙ rests_between text before content after line_end line end (k + 1 + 1) size
      ∙ ap₂ (λ (m : ℕ) (xs : Rest). bytes_of (take m xs)) sized is3 ∙ ap bytes_of (take-append_seam label (93 ∷ more)) ∙ dark_bytes label white in (
        node,
        record {
          is_named = refl;
          label_is = λ names.
              ap (label_of names text) (child_found n.GfmFootnoteDefinitionLabelString front string closes refl
              (none_child_both n.GfmFootnoteDefinitionLabelString opens marks (none_child n.GfmFootnoteDefinitionLabelString
              n.GfmFootnoteDefinitionLabelMarker text e0 e1 refl refl)
              (none_child n.GfmFootnoteDefinitionLabelString n.GfmFootnoteDefinitionMarker text e1 e2 refl refl)))
              ∙ ap content_codes text_is ∙ codes_are label dark;
          others = λ name other.
              let p1 = or_parts (same_name n.GfmFootnoteDefinitionPrefix name) _ other in
              let p2 = or_parts (same_name n.GfmFootnoteDefinitionLabel name) _ p1.1 in
              let p3 = or_parts (same_name n.GfmFootnoteDefinitionLabelMarker name) _ p2.1 in
              let p4 = or_parts (same_name n.GfmFootnoteDefinitionMarker name) _ p3.1 in
              let p5 = or_parts (same_name n.GfmFootnoteDefinitionLabelString name) _ p4.1 in
              let p6 = or_parts (same_name n.Data name) _ p5.1 in
              none_around name n.GfmFootnoteDefinitionLabel enter exit kids refl p2.0
              (none_both name (append front (one string)) closes
              (none_both name front (one string)
              (none_both name opens marks (none_void name n.GfmFootnoteDefinitionLabelMarker text e0 e1 refl p3.0)
              (none_void name n.GfmFootnoteDefinitionMarker text e1 e2 refl p4.0))
              (none_around name n.GfmFootnoteDefinitionLabelString string_enter string_exit bytes refl p5.0 (none_data name text e2 e3 p6.0)))
              (none_void name n.GfmFootnoteDefinitionLabelMarker text e3 e4 refl p3.0));
          fill =
              label_fill text e0 e1 e2 e3 e4 string_enter string_exit refl
              (omega (arith, ap (λ (x : End). x.index) (further text before content after line_end line end k 1 first).there))
              (omega (arith, ap (λ (x : End). x.index) (further text before content after line_end line end (k + 1) 1 second).there))
              (omega (arith, ap (λ (x : End). x.index) (further text before content after line_end line end (k + 1 + 1 + size) 1 fourth).there));
        },
        writes_around text a b h i n.GfmFootnoteDefinitionLabel kids entered all (exits.0 s4.1.order),
        exits.1 ∙ s4.1.at ∙ ap (column content line_end) to,
      )

  -- the prefix of a footnote definition
  pub footnote_written : (a b c d e f : Output A) (k : ℕ) (start label rest : Rest) → start ≡ drop k (whole content) → IsFootnoteStart start label rest
      → end_in a ≡ rest_start line_end (bare start) → IsInOrder text a → EntersAs text n.GfmFootnoteDefinitionPrefix a b
      → ((m : ℕ) (more : Rest) → end_in b ≡ column content line_end m → IsInOrder text b → prefix_len is_tab_column (drop m (whole content)) ≡ 0
      → drop m (whole content) ≡ 91 ∷ 94 ∷ (label ++ 93 ∷ more)
      → list_any is_space label ≡ false
      → (first : Node) × IsFootnoteLabel label text first × Writes text b c (one first) × (end_in c ≡ column content line_end (m + (length label + 3))))
      → WritesToken text n.DefinitionMarker 1 c d → WritesSpaceTo text (rest_start line_end rest) d e → ExitsAs text n.GfmFootnoteDefinitionPrefix e f
      → (first : Node) × IsFootnotePrefix label text first × Writes text a f (one first) × (end_in f ≡ rest_start line_end rest)
  footnote_written a b c d e f k start label rest at is from order enters labelled marker space exits =
      let here = bare start in
      let first = k + indent start in
      let here_at : here ≡ drop first (whole content) = ap (drop (indent start)) at ∙ drop-drop (indent start) k (whole content) in
      let start_is : drop first (whole content) ≡ 91 ∷ 94 ∷ (label ++ 93 ∷ 58 ∷ is.after) = sym here_at ∙ is.start_is in
      let entered = enters.0 order in
      let none = ap (prefix_len is_tab_column) (sym here_at) ∙ bare_owes_none start in
      let lab = labelled first (58 ∷ is.after) (enters.1 ∙ from ∙ ap (rest_start line_end) here_at) entered.order none start_is is.dark in
      let after_label = first + (length label + 3) in
      let front = 91 ∷ 94 ∷ (label ++ 93 ∷ []) in
      let front_size : length front ≡ length label + 3 = omega (arith, length-append label (93 ∷ [])) in
      let parts : drop first (whole content) ≡ front ++ 58 ∷ is.after =
      start_is ∙ ap (λ (xs : Rest). 91 ∷ 94 ∷ xs) (sym (append_assoc label (93 ∷ []) (58 ∷ is.after))) in
      let white = any_white label is.dark in
      let front_dark : list_any is_white front ≡ false =
      list_any-append is_white label (93 ∷ []) ∙ ap (λ (t : Bool). t || false) white in
      let whole_front = dark_at text before content after line_end line end first (length label + 3) front (58 ∷ is.after) parts
      (sym front_size) front_dark none in
      let colon_at : drop after_label (whole content) ≡ 58 ∷ is.after =
      ap (λ (j : ℕ). drop (first + j) (whole content)) (sym front_size) ∙ rest_at text before content after line_end line end first front
      (58 ∷ is.after) parts in
      let colon = dark_at text before content after line_end line end after_label 1 (58 ∷ []) is.after colon_at refl refl
      (further text before content after line_end line end first (length label + 3) whole_front).none in
      let at_c : IsAtColumn text before content after line_end line end after_label c = record { at = lab.3; order = lab.2.order } in
      let s1 = token_step text before content after line_end line end n.DefinitionMarker after_label 1 c d colon
      (λ some. may_at text before content after line_end line end n.DefinitionMarker after_label (58 ∷ []) is.after colon_at refl) at_c marker.0 marker.1 in
      let gap_size = indent is.after in
      let rest_is : rest ≡ drop (after_label + 1 + gap_size) (whole content) =
      is.rest_is ∙ ap (drop gap_size) (sym (rest_at text before content after line_end line end after_label (58 ∷ []) is.after colon_at))
      ∙ drop-drop gap_size (after_label + 1) (whole content) in
      let after_colon : drop (after_label + 1) (whole content) ≡ is.after =
      rest_at text before content after line_end line end after_label (58 ∷ []) is.after colon_at in
      let gap_may : list_all is_white (take gap_size (drop (after_label + 1) (whole content))) ≡ true =
      ap (λ (xs : Rest). list_all is_white (take gap_size xs)) after_colon ∙ all_prefix is_white gap_size is.after (omega arith) in
      let s2 = space_step text before content after line_end line end (after_label + 1) gap_size rest d e rest_is gap_may s1.1 space.0 space.1 in
      let e0 = column content line_end after_label in
      let e1 = column content line_end (after_label + 1) in
      let e2 = column content line_end (after_label + 1 + gap_size) in
      let markers = void_nodes text n.DefinitionMarker e0 e1 in
      let spaces = void_nodes text n.SpaceOrTab e1 e2 in
      let kids = append (append (one lab.0) markers) spaces in
      let all : Writes text b e kids =
      writes_both text b d e (append (one lab.0) markers) spaces (writes_both text b c d (one lab.0) markers lab.2 s1.0) s2.0 in
      let enter = enter_at text n.GfmFootnoteDefinitionPrefix (end_in a) in
      let exit = exit_at text n.GfmFootnoteDefinitionPrefix (end_in e) in (
        Around enter kids exit,
        record {
          is_named = refl;
          label_is = λ names.
              ap (λ (o : Option Node). label_of names text (child n.GfmFootnoteDefinitionLabelString (inside_of o)))
              (child_found n.GfmFootnoteDefinitionLabel Nil lab.0 (append markers spaces)
              (ap (λ (x : Name). same_name x n.GfmFootnoteDefinitionLabel) lab.1.is_named) refl)
              ∙ lab.1.label_is names;
          others = λ name other.
              let p1 = or_parts (same_name n.GfmFootnoteDefinitionPrefix name) _ other in
              let p2 = or_parts (same_name n.GfmFootnoteDefinitionLabel name) _ p1.1 in
              let p3 = or_parts (same_name n.GfmFootnoteDefinitionLabelMarker name) _ p2.1 in
              let p4 = or_parts (same_name n.GfmFootnoteDefinitionMarker name) _ p3.1 in
              let p5 = or_parts (same_name n.GfmFootnoteDefinitionLabelString name) _ p4.1 in
              let p6 = or_parts (same_name n.Data name) _ p5.1 in
              let p7 = or_parts (same_name n.DefinitionMarker name) _ p6.1 in
              let p8 = or_parts (same_name n.SpaceOrTab name) _ p7.1 in
              none_around name n.GfmFootnoteDefinitionPrefix enter exit kids refl p1.0
              (none_both name (append (one lab.0) markers) spaces
              (none_both name (one lab.0) markers (lab.1.others name other) (none_void name n.DefinitionMarker text e0 e1 refl p7.0))
              (none_void name n.SpaceOrTab text e1 e2 refl p8.0));
          fill =
              footnote_fill text label lab.0 e0 e1 e2 lab.1
              (omega (arith, ap (λ (x : End). x.index) (further text before content after line_end line end after_label 1 colon).there));
        },
        writes_around text a b e f n.GfmFootnoteDefinitionPrefix kids entered all (exits.0 s2.1.order),
        exits.1 ∙ space.0,
      )
