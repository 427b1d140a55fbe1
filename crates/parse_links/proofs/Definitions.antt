-- What is written of a definition, step by step (CommonMark 4.7).
use Rattle.parse_links.proofs.Prelude.{after_ending, after_part, after_spaces, after_white, and_parts, append, append-nil, AreBytes, begins_with_space}
use Rattle.parse_links.proofs.Prelude.{bytes_text, cases_Bool, child, Code, cond-false, cond-true, Constructs, content_codes, contents_both, contents_none}
use Rattle.parse_links.proofs.Prelude.{cut_last, destination_at, EndsWithTitle, eqb-true, from_some, Holds, inside_of, is_ascii_byte, is_eol, is_listed}
use Rattle.parse_links.proofs.Prelude.{IsCharBoundary, IsInner, IsOfBytes, IsQuoted, IsRaw, IsTarget, IsUtf8, IsWhole, kids_in, kids_of, label_at, list_all}
use Rattle.parse_links.proofs.Prelude.{ltb-true, Name, named, Names, next_line, Nil, Node, node_name, Nodes, none-some, one, option_or, Part, PlaceNames}
use Rattle.parse_links.proofs.Prelude.{same_name, SpellsEnd, SpellsPlace, StandsInContent, Stop, string_of, string_of_bytes, string_text, title_at}
use Rattle.parse_links.proofs.Prelude.{title_string, Walk, white_names, words, WritesDestination, WritesInContent, WritesParts, WritesQuoted, WritesWhite}
use Rattle.std.specs.Option.{option_map}
use Rattle.std.proofs.Common.{◌≡◌, ℕ, ◌<◌, true, false, eqb, List, [], ◌∷◌, ◌++◌, Option, None, Some, inl, inr, refl, sym, ap, ap₂, subst, ◌∙◌}
use Rattle.std.proofs.Common.{append_assoc, arith, length}
use Rattle.definition_inline.specs.Definition.{Definition, definition, definition_with_title, definition_without_title, next_line_after}
use Rattle.definition_inline.specs.Parts.{after_code}
use Rattle.engine_events.specs.declared.event.Name.TheVariants as n
use Rattle.event_grammar.specs.declared.slot.Form.TheVariants.{Plain}
use Rattle.event_grammar.specs.declared.slot.Slot.{Slot}
use Rattle.event_grammar.specs.Grammar.{one as one_slot, opt, row}
use Rattle.event_grammar.specs.References.{label_text}
use Rattle.parse_alike.specs.LabelMatch.{HaveSameWords}
use Rattle.parse_slots.proofs.Steps.{fill_both, fill_none, fill_taken, filled_void, may_both}
use Rattle.parse_references.proofs.Sound.{sound_both, sound_one}
use Rattle.parse_strings.proofs.SoundNodes.{empty_sound}
use Rattle.parse_links.specs.Definition.{end_slots, FillsDefinition, FillsEnd, FillsPlace, IsDefinition, place_of, place_slots, place_within}
use Rattle.parse_links.specs.Definition.{SpellsDefinition}
use Rattle.parse_links.proofs.Children.{child_after, child_here, child_next, none_named, quoted_child, quoted_definitions, quoted_string, raw_definitions, raw_string}
use Rattle.parse_links.proofs.Children.{token_definitions}
use Rattle.parse_links.proofs.Fills.{definition_label, definition_place, definition_title, marked_filled, place_filled, place_renamed}
use Rattle.parse_links.proofs.Found.{named_around}
use Rattle.parse_links.proofs.Sound.{marked_sound, place_sound, white_sound}
use Rattle.parse_links.proofs.Written.{WritesToken}

-- ---- codes

-- what is mapped is there
record MapsTo (f : List Code → Definition) (o : Option (List Code)) (d : Definition) : Type 0 where
  rest : List Code
  some : o ≡ Some rest
  same : f rest ≡ d

maps_to : (f : List Code → Definition) (o : Option (List Code)) (d : Definition) → option_map f o ≡ Some d → MapsTo f o d
maps_to f None d e = absurd (none-some d e)
maps_to f (Some rest) d e = record { rest = rest; some = refl; same = from_some (f rest) d e }

-- what is read behind a label and its colon
record ReadsBehind (label : List Code) (place : Part) (d : Definition) : Type 0 where
  label_is : d.label ≡ label
  destination_is : d.destination ≡ place.text
  ends : EndsWithTitle d.title place.rest

behind_by : (label : List Code) (place : Part) (title : Option (List Code)) (d : Definition) (rest : List Code) → definition label place.text title rest ≡ d
    → d.rest ≡ [] → (next_line_is : rest ≡ [] → EndsWithTitle title place.rest) → ReadsBehind label place d
behind_by label place title d rest same last ends = record {
  label_is = sym (ap (λ (x : Definition). x.label) same);
  destination_is = sym (ap (λ (x : Definition). x.destination) same);
  ends =
      subst (λ (t : Option (List Code)). EndsWithTitle t place.rest) (ap (λ (x : Definition). x.title) same)
      (ends (ap (λ (x : Definition). x.rest) same ∙ last));
}

some_rest : (o : Option (List Code)) (rest : List Code) → o ≡ Some rest → rest ≡ [] → o ≡ Some []
some_rest o rest some last = some ∙ ap (λ (r : List Code). Some r) last

without_title : (label : List Code) (place : Part) (d : Definition) → definition_without_title label place ≡ Some d → d.rest ≡ [] → ReadsBehind label place d
without_title label place d e last =
    let m = maps_to (definition label place.text None) (next_line place.rest) d e in
    behind_by label place None d m.rest m.same last (λ none. some_rest (next_line place.rest) m.rest m.some none)

with_title : (label : List Code) (place : Part) (d : Definition) → definition_with_title label place ≡ Some d → d.rest ≡ [] → ReadsBehind label place d
with_title label place d e last = elim (cases_Bool (begins_with_space place.rest)) [
  | inl h ↦ by_title (title_at (after_white place.rest)) refl (sym (cond-true (begins_with_space place.rest) _ _ h) ∙ e)
  | inr h ↦ absurd (none-some d (sym (cond-false (begins_with_space place.rest) _ _ h) ∙ e))
]
  where
    by_title : (o : Option Part) → title_at (after_white place.rest) ≡ o
        → after_part o (λ (title : Part). option_map (definition label place.text (Some title.text)) (next_line title.rest)) ≡ Some d
        → ReadsBehind label place d
    by_title None is e = absurd (none-some d e)
    by_title (Some read) is e =
        let m = maps_to (definition label place.text (Some read.text)) (next_line read.rest) d e in
        behind_by label place (Some read.text) d m.rest m.same last
        (λ none. (read, is, refl, some_rest (next_line read.rest) m.rest m.some none))

-- the parts of a definition
pub record ReadsDefinition (cs : List Code) (d : Definition) : Type 0 where
  pub label : Part
  pub label_read : label_at cs ≡ Some label
  pub label_is : d.label ≡ label.text
  pub more : List Code
  pub colon : label.rest ≡ 58 ∷ more
  pub target : IsTarget (after_white more) d.destination d.title

pub reads_definition : (cs : List Code) (d : Definition) → IsDefinition cs d → ReadsDefinition cs d
reads_definition cs d is =
    by_label (label_at cs) refl
    (ap (λ (ys : List Code). after_part (label_at ys) behind) (sym is.bare) ∙ is.read)
  where
    target : Part → List Code → Option Definition
    target label rest =
        after_part (destination_at None (after_white rest))
        (λ (place : Part). option_or (definition_with_title label.text place) (definition_without_title label.text place))

    behind : Part → Option Definition
    behind label = after_code 58 label.rest (λ rest. target label rest)

    by_end : (label place : Part) (o : Option Definition) → definition_with_title label.text place ≡ o
        → option_or o (definition_without_title label.text place) ≡ Some d → ReadsBehind label.text place d
    by_end label place None none e = without_title label.text place d e is.last
    by_end label place (Some found) some e = with_title label.text place d (some ∙ e) is.last

    by_place : (label : Part) → label_at cs ≡ Some label → (more : List Code) → label.rest ≡ 58 ∷ more → (o : Option Part)
        → destination_at None (after_white more) ≡ o
        → after_part o (λ (place : Part). option_or (definition_with_title label.text place) (definition_without_title label.text place)) ≡ Some d
        → ReadsDefinition cs d
    by_place label read more colon None none e = absurd (none-some d e)
    by_place label read more colon (Some place) some e =
        let b = by_end label place (definition_with_title label.text place) refl e in
        record {
          label = label;
          label_read = read;
          label_is = b.label_is;
          more = more;
          colon = colon;
          target = record { place = place; read = some; destination_is = b.destination_is; ends = b.ends };
        }

    by_colon : (label : Part) → label_at cs ≡ Some label → (rest : List Code) → label.rest ≡ rest → after_code 58 rest (λ more. target label more) ≡ Some d
        → ReadsDefinition cs d
    by_colon label read [] is_rest e = absurd (none-some d e)
    by_colon label read (c ∷ more) is_rest e = elim (cases_Bool (eqb c 58)) [
      | inl h ↦
          by_place label read more (is_rest ∙ ap (λ x. x ∷ more) (eqb-true c 58 h)) (destination_at None (after_white more)) refl
          (sym (cond-true (eqb c 58) _ _ h) ∙ e)
      | inr h ↦ absurd (none-some d (sym (cond-false (eqb c 58) _ _ h) ∙ e))
    ]

    by_label : (o : Option Part) → label_at cs ≡ o → after_part o behind ≡ Some d → ReadsDefinition cs d
    by_label None none e = absurd (none-some d e)
    by_label (Some label) some e = by_colon label some label.rest refl e

-- where no line follows, white space is all that is left
pub no_more_white : (cs : List Code) → next_line cs ≡ Some [] → after_white cs ≡ []
no_more_white cs e = by_rest (after_spaces cs) e
  where
    by_rest : (rest : List Code) → next_line_after rest ≡ Some [] → after_ending rest ≡ []
    by_rest [] e = refl
    by_rest (c ∷ rest) e = elim (cases_Bool (is_eol c)) [
      | inl h ↦
          let none : rest ≡ [] = from_some rest [] (sym (cond-true (is_eol c) _ _ h) ∙ e) in
          cond-true (is_eol c) _ _ h ∙ ap after_spaces none
      | inr h ↦ absurd (none-some [] (sym (cond-false (is_eol c) _ _ h) ∙ e))
    ]

-- a title that isn't read isn't there
pub untitled : (cs : List Code) (title : Option (List Code)) → EndsWithTitle title cs → None ≡ title_at (after_white cs)
    → (title ≡ None) × (next_line cs ≡ Some [])
untitled cs None ends none = (refl, ends)
untitled cs (Some title) ends none = absurd (none-some ends.0 (none ∙ ends.1))

-- a title that is read
pub titled : (cs : List Code) (title : Option (List Code)) (read : Part) → EndsWithTitle title cs → Some read ≡ title_at (after_white cs)
    → (title ≡ Some read.text) × (next_line read.rest ≡ Some [])
titled cs None read ends some = absurd (none-some read (sym (some ∙ ap title_at (no_more_white cs ends))))
titled cs (Some title) read ends some =
    let same : ends.0 ≡ read = from_some ends.0 read (sym ends.1 ∙ sym some) in (
      ap (λ (t : List Code). Some t) (ends.2 ∙ ap (λ (p : Part). p.text) same),
      ap (λ (p : Part). next_line p.rest) (sym same) ∙ ends.3,
    )

pub destination_there : (cs destination : List Code) (title : Option (List Code)) (o : Option Part) → IsTarget cs destination title → o ≡ destination_at None cs
    → o ≡ None → ⊥
destination_there cs destination title o is read none = absurd (none-some is.place (sym none ∙ read ∙ is.read))

-- ---- bytes

-- the last of some ASCII
record EndsInAscii (bs : List ℕ) : Type 0 where
  before : List ℕ
  byte : ℕ
  parts : bs ≡ before ++ byte ∷ []
  small : byte < 128

ascii_end : (b : ℕ) (bs : List ℕ) → b < 128 → list_all is_ascii_byte bs ≡ true → EndsInAscii (b ∷ bs)
ascii_end b [] small h = record { before = []; byte = b; parts = refl; small = small }
ascii_end b (x ∷ xs) small h =
    let are = and_parts (is_ascii_byte x) (list_all is_ascii_byte xs) h in
    let more = ascii_end x xs (ltb-true x 128 are.0) are.1 in
    record { before = b ∷ more.before; byte = more.byte; parts = ap (λ ys. b ∷ ys) more.parts; small = more.small }

-- a place after ASCII
pub cut_after_ascii : (xs front : List ℕ) (b : ℕ) (bs rest : List ℕ) → xs ≡ (front ++ b ∷ bs) ++ rest → b < 128 → list_all is_ascii_byte bs ≡ true → IsUtf8 xs
    → IsCharBoundary xs (length (front ++ b ∷ bs))
cut_after_ascii xs front b bs rest parts small h utf8 =
    let e = ascii_end b bs small h in
    let whole : front ++ b ∷ bs ≡ (front ++ e.before) ++ e.byte ∷ [] = ap (λ ys. front ++ ys) e.parts ∙ sym (append_assoc front e.before (e.byte ∷ [])) in
    cut_last xs (front ++ e.before) rest e.byte (length (front ++ b ∷ bs)) (parts ∙ ap (λ ys. ys ++ rest) whole) e.small (ap length whole) utf8

-- ---- nodes

no_bytes : IsOfBytes []
no_bytes k = omega arith

-- the names of a definition's destination
pub record AreOfDefinition (q : PlaceNames) : Type 0 where
  pub destination : q.destination ≡ n.DefinitionDestination
  pub literal : q.literal.outer ≡ n.DefinitionDestinationLiteral
  pub marker : q.literal.marker ≡ n.DefinitionDestinationLiteralMarker
  pub raw : q.raw ≡ n.DefinitionDestinationRaw
  pub string : q.literal.string ≡ n.DefinitionDestinationString

-- what a definition holds after its label
abbrev colon_slots : List Slot
colon_slots = one_slot n.DefinitionMarker ∷ place_slots

-- a label has a string
record HasString (text string : List ℕ) (held : Option Node) : Type 0 where
  node : Node
  is : held ≡ Some node
  words_are : HaveSameWords (content_codes string) (content_codes (label_text text node))

has_string : (on : Constructs) (names : Names) (text string : List ℕ) (held : Option Node) → 0 < length string
    → Holds on names text n.DefinitionLabelString string held → HasString text string held
has_string on names text string None some holds = absurd (omega (arith, some, ap length holds))
has_string on names text string (Some node) some holds = record { node = node; is = refl; words_are = holds.words }

module _ {A : Type 0} (text : List ℕ) (stop : Stop) (on : Constructs) (names : Names) where
  -- no title
  pub no_title : (a : Walk A) (content : List ℕ) (title : Option (List Code)) → title ≡ None → next_line (content_codes content) ≡ Some []
      → StandsInContent text content stop a → IsWhole a → WritesParts on names text content (SpellsEnd on names text title) FillsEnd stop a a
  no_title a content title none ends st whole = record {
    front = [];
    after = content;
    parts = refl;
    last = ends;
    nodes = Nil;
    writes = contents_none text stop a content st;
    whole = whole;
    spells = record {
      title = ap (title_string on names) (sym none);
      title_bytes = λ h. subst (λ t. IsOfBytes (title_string on names t)) (sym none) no_bytes;
      definitions = refl;
    };
    fill = λ around may. record { rest = end_slots; fill = fill_none around end_slots; ends = refl };
    sound = tt;
  }

  -- a title after white space
  pub title_in : (a b c : Walk A) (content rest front after string : List ℕ) (title : Option (List Code)) (read : List Code) → AreBytes string
      → WritesWhite text content rest stop a b → rest ≡ front ++ after
      → WritesQuoted on names text n.DefinitionTitle n.DefinitionTitleMarker n.DefinitionTitleString string front after stop b c
      → content_codes string ≡ read → title ≡ Some read → next_line (content_codes after) ≡ Some []
      → WritesParts on names text content (SpellsEnd on names text title) FillsEnd stop a c
  title_in a b c content rest front after string title read bytes white parts w read_is some ends =
      let ns = white.nodes in
      let node = w.node in
      let found : child n.DefinitionTitle (append ns (one node)) ≡ Some node =
      child_after n.DefinitionTitle ns (one node) (white.others n.DefinitionTitle refl) ∙ child_here n.DefinitionTitle node Nil w.is.named in
      let no_more : named n.Definition ns ≡ [] = white.plain.definitions in
      record {
        front = white.front ++ front;
        after = after;
        parts = white.parts ∙ ap (λ ys. white.front ++ ys) parts ∙ sym (append_assoc white.front front after);
        last = ends;
        nodes = append ns (one node);
        writes =
            contents_both text stop a b c white.front front after ns (one node)
            (subst (λ ys. WritesInContent text white.front ns ys stop a b) parts white.writes) w.writes;
        whole = w.whole;
        spells = record {
          title =
              ap (λ o. string_of names text (kids_in n.DefinitionTitleString (inside_of o))) found
              ∙ quoted_string on names text n.DefinitionTitle n.DefinitionTitleMarker n.DefinitionTitleString string node refl w.is
              ∙ ap (string_text on names) read_is ∙ ap (title_string on names) (sym some);
          title_bytes = λ h.
              subst (λ t. IsOfBytes (title_string on names t)) (sym some)
              (subst (λ cs. IsOfBytes (string_text on names cs)) read_is (string_of_bytes on names h string bytes));
          definitions =
              none_named on names text ns (one node) no_more
              (quoted_definitions on names text n.DefinitionTitle n.DefinitionTitleMarker n.DefinitionTitleString string node refl refl refl w.is);
        };
        fill = λ around may.
            let both = may_both around white.front front may in
            record {
              rest = [];
              fill = fill_both (white.fill around end_slots both.0 (record { space = refl; ending = refl; blank = refl; quote = refl }))
                  (fill_taken around end_slots n.DefinitionTitle Plain [] node w.is.named refl
                  (marked_filled on names text around n.DefinitionTitle n.DefinitionTitleMarker n.DefinitionTitleString (opt n.DefinitionTitleString) string
                  node definition_title w.is (λ none. refl) (w.lines around both.1)));
              ends = refl;
            };
        sound =
            sound_both on names text ns (one node) (white_sound on names text white)
            (sound_one on names text node
            (marked_sound on names text n.DefinitionTitle n.DefinitionTitleMarker n.DefinitionTitleString (opt n.DefinitionTitleString) string node
            definition_title w.is));
      }

  -- what the destination among its nodes spells
  place_spells : (q : PlaceNames) (string front content : List ℕ) (a b : Walk A) (others : Nodes) → AreOfDefinition q
      → (w : WritesDestination on names text q string front content stop a b)
      → (place_of on names text (append (one w.node) others) ≡ bytes_text on names string) × (named n.Definition (one w.node) ≡ [])
  place_spells q string front content a b others are w = (inside ∙ by_form w.is, around ∙ definitions w.is)
    where
      inside : place_of on names text (append (one w.node) others) ≡ place_within on names text (one w.inner)
      inside =
          ap (λ o. place_within on names text (inside_of o)) (child_here n.DefinitionDestination w.node others (w.named ∙ are.destination)) ∙ ap (place_within on names text) w.kids

      around : named n.Definition (one w.node) ≡ named n.Definition (one w.inner)
      around =
          named_around w.node n.Definition (ap (λ x. same_name x n.Definition) (w.named ∙ are.destination)) ∙ ap (named n.Definition) w.kids

      quoted_names : IsQuoted on names text q.literal.outer q.literal.marker q.literal.string string w.inner
          → IsQuoted on names text n.DefinitionDestinationLiteral n.DefinitionDestinationLiteralMarker n.DefinitionDestinationString string w.inner
      quoted_names is =
          subst (λ x. IsQuoted on names text x n.DefinitionDestinationLiteralMarker n.DefinitionDestinationString string w.inner) are.literal
          (subst (λ x. IsQuoted on names text q.literal.outer x n.DefinitionDestinationString string w.inner) are.marker
          (subst (λ x. IsQuoted on names text q.literal.outer q.literal.marker x string w.inner) are.string is))

      raw_names : IsRaw on names text q.raw q.literal.string string w.inner
          → IsRaw on names text n.DefinitionDestinationRaw n.DefinitionDestinationString string w.inner
      raw_names is =
          subst (λ x. IsRaw on names text x n.DefinitionDestinationString string w.inner) are.raw
          (subst (λ x. IsRaw on names text q.raw x string w.inner) are.string is)

      by_form : IsInner on names text q string w.inner → place_within on names text (one w.inner) ≡ bytes_text on names string
      by_form (inl is) =
          let named_so : node_name w.inner ≡ n.DefinitionDestinationLiteral = is.named ∙ are.literal in
          ap₂ (λ o p. string_of names text (kids_in n.DefinitionDestinationString (inside_of o))
          ++ string_of names text (kids_in n.DefinitionDestinationString (inside_of p)))
          (child_here n.DefinitionDestinationLiteral w.inner Nil named_so)
          (child_next n.DefinitionDestinationRaw n.DefinitionDestinationLiteral w.inner Nil named_so refl)
          ∙ append-nil (string_of names text (kids_in n.DefinitionDestinationString (kids_of w.inner)))
          ∙ quoted_string on names text n.DefinitionDestinationLiteral n.DefinitionDestinationLiteralMarker n.DefinitionDestinationString string w.inner refl
          (quoted_names is)
      by_form (inr is) =
          let named_so : node_name w.inner ≡ n.DefinitionDestinationRaw = is.named ∙ are.raw in
          ap₂ (λ o p. string_of names text (kids_in n.DefinitionDestinationString (inside_of o))
          ++ string_of names text (kids_in n.DefinitionDestinationString (inside_of p)))
          (child_next n.DefinitionDestinationLiteral n.DefinitionDestinationRaw w.inner Nil named_so refl)
          (child_here n.DefinitionDestinationRaw w.inner Nil named_so)
          ∙ raw_string on names text n.DefinitionDestinationRaw n.DefinitionDestinationString string w.inner (raw_names is)

      definitions : IsInner on names text q string w.inner → named n.Definition (one w.inner) ≡ []
      definitions (inl is) =
          quoted_definitions on names text n.DefinitionDestinationLiteral n.DefinitionDestinationLiteralMarker n.DefinitionDestinationString string w.inner
          refl refl refl (quoted_names is)
      definitions (inr is) =
          raw_definitions on names text n.DefinitionDestinationRaw n.DefinitionDestinationString string w.inner refl refl (raw_names is)

  -- a destination, and what is behind it
  pub target_in : (q : PlaceNames) (a b c : Walk A) (content front after string : List ℕ) (read : List Code) (title : Option (List Code)) → AreOfDefinition q
      → AreBytes string → content ≡ front ++ after → WritesDestination on names text q string front after stop a b → content_codes string ≡ read
      → WritesParts on names text after (SpellsEnd on names text title) FillsEnd stop b c
      → WritesParts on names text content (SpellsPlace on names text read title) FillsPlace stop a c
  target_in q a b c content front after string read title are bytes parts w read_is end =
      let is = place_spells q string front after a b end.nodes are w in
      let titled_is : child n.DefinitionTitle (append (one w.node) end.nodes) ≡ child n.DefinitionTitle end.nodes =
      child_next n.DefinitionTitle n.DefinitionDestination w.node end.nodes (w.named ∙ are.destination) refl in
      record {
        front = front ++ end.front;
        after = end.after;
        parts = parts ∙ ap (λ ys. front ++ ys) end.parts ∙ sym (append_assoc front end.front end.after);
        last = end.last;
        nodes = append (one w.node) end.nodes;
        writes =
            contents_both text stop a b c front end.front end.after (one w.node) end.nodes
            (subst (λ ys. WritesInContent text front (one w.node) ys stop a b) end.parts w.writes) end.writes;
        whole = end.whole;
        spells = record {
          destination = is.0 ∙ ap (string_text on names) read_is;
          destination_bytes = λ h. subst (λ cs. IsOfBytes (string_text on names cs)) read_is (string_of_bytes on names h string bytes);
          end = record {
            title = ap (λ o. string_of names text (kids_in n.DefinitionTitleString (inside_of o))) titled_is ∙ end.spells.title;
            title_bytes = end.spells.title_bytes;
            definitions = none_named on names text (one w.node) end.nodes is.1 end.spells.definitions;
          };
        };
        fill = λ around may.
            let more = end.fill around (may_both around front end.front may).1 in
            record {
              rest = more.rest;
              fill = fill_both
                  (fill_taken around place_slots n.DefinitionDestination Plain end_slots w.node (w.named ∙ are.destination) refl
                  (place_filled on names text around q string w.node w.inner
                  (place_renamed are.destination are.literal are.marker are.raw are.string definition_place) w.named w.kids w.is w.dark))
                  more.fill;
              ends = more.ends;
            };
        sound =
            sound_both on names text (one w.node) end.nodes
            (sound_one on names text w.node
            (place_sound on names text q string w.node w.inner
            (place_renamed are.destination are.literal are.marker are.raw are.string definition_place) w.named w.kids w.is))
            end.sound;
      }

  -- a label, a colon, white space, and what is behind
  pub definition_in : (a b c d e : Walk A) (content front inside rest string : List ℕ) (found : Definition) → content ≡ front ++ 58 ∷ inside
      → 0 < length string → content_codes string ≡ found.label
      → WritesQuoted on names text n.DefinitionLabel n.DefinitionLabelMarker n.DefinitionLabelString string front (58 ∷ inside) stop a b
      → WritesToken text stop n.DefinitionMarker (58 ∷ []) inside b c → WritesWhite text inside rest stop c d
      → WritesParts on names text rest (SpellsPlace on names text found.destination found.title) FillsPlace stop d e
      → WritesParts on names text content (SpellsDefinition on names text found) FillsDefinition stop a e
  definition_in a b c d e content front inside rest string found parts some label_is w colon white place =
      let label = w.node in
      let tail = append white.nodes place.nodes in
      let more = append (one colon.node) tail in
      let has = has_string on names text string w.is.held some w.is.holds in
      let later : WritesInContent text (white.front ++ place.front) tail place.after stop c e =
      contents_both text stop c d e white.front place.front place.after white.nodes place.nodes
      (subst (λ ys. WritesInContent text white.front white.nodes ys stop c d) place.parts white.writes) place.writes in
      let inside_is : inside ≡ (white.front ++ place.front) ++ place.after =
      white.parts ∙ ap (λ ys. white.front ++ ys) place.parts ∙ sym (append_assoc white.front place.front place.after) in
      let behind : WritesInContent text (58 ∷ (white.front ++ place.front)) more place.after stop b e =
      contents_both text stop b c e (58 ∷ []) (white.front ++ place.front) place.after (one colon.node) tail
      (subst (λ ys. WritesInContent text (58 ∷ []) (one colon.node) ys stop b c) inside_is colon.writes) later in
      let behind_is : 58 ∷ inside ≡ (58 ∷ (white.front ++ place.front)) ++ place.after = ap (λ ys. 58 ∷ ys) inside_is in
      -- by a name that neither the label nor the colon has
      let skip : (name : Name) → same_name n.DefinitionLabel name ≡ false → same_name n.DefinitionMarker name ≡ false → is_listed white_names name ≡ false
      → child name (append (one label) more) ≡ child name place.nodes =
      λ name one_is two_is three_is.
      child_next name n.DefinitionLabel label more w.is.named one_is ∙ child_next name n.DefinitionMarker colon.node tail colon.void.0 two_is
      ∙ child_after name white.nodes place.nodes (white.others name three_is) in
      let spells = place.spells in
      record {
        front = front ++ 58 ∷ (white.front ++ place.front);
        after = place.after;
        parts = parts ∙ ap (λ ys. front ++ ys) behind_is ∙ sym (append_assoc front (58 ∷ (white.front ++ place.front)) place.after);
        last = place.last;
        nodes = append (one label) more;
        writes =
            contents_both text stop a b e front (58 ∷ (white.front ++ place.front)) place.after (one label) more
            (subst (λ ys. WritesInContent text front (one label) ys stop a b) behind_is w.writes) behind;
        whole = place.whole;
        spells = record {
          string = has.node;
          found =
              ap (λ o. child n.DefinitionLabelString (inside_of o)) (child_here n.DefinitionLabel label more w.is.named)
              ∙ quoted_child on names text n.DefinitionLabel n.DefinitionLabelMarker n.DefinitionLabelString string label refl w.is ∙ has.is;
          words = ap words (sym label_is) ∙ has.words_are;
          place = record {
            destination =
                ap (λ o. place_within on names text (inside_of o)) (skip n.DefinitionDestination refl refl refl) ∙ spells.destination;
            destination_bytes = spells.destination_bytes;
            end = record {
              title =
                  ap (λ o. string_of names text (kids_in n.DefinitionTitleString (inside_of o))) (skip n.DefinitionTitle refl refl refl)
                  ∙ spells.end.title;
              title_bytes = spells.end.title_bytes;
              definitions =
                  none_named on names text (one label) more
                  (quoted_definitions on names text n.DefinitionLabel n.DefinitionLabelMarker n.DefinitionLabelString string label refl refl refl w.is)
                  (none_named on names text (one colon.node) tail (token_definitions on names text n.DefinitionMarker colon.node refl colon.void)
                  (none_named on names text white.nodes place.nodes white.plain.definitions spells.end.definitions));
            };
          };
        };
        fill = λ around may.
            let label_may = may_both around front (58 ∷ (white.front ++ place.front)) may in
            let colon_may = may_both around (58 ∷ []) (white.front ++ place.front) label_may.1 in
            let white_may = may_both around white.front place.front colon_may.1 in
            let behind_fill = place.fill around white_may.1 in
            record {
              rest = behind_fill.rest;
              fill = fill_both
                  (fill_taken around (row n.Definition Plain) n.DefinitionLabel Plain colon_slots label w.is.named refl
                  (marked_filled on names text around n.DefinitionLabel n.DefinitionLabelMarker n.DefinitionLabelString (one_slot n.DefinitionLabelString)
                  string label definition_label w.is (λ none. absurd (none-some has.node (sym none ∙ has.is))) (w.lines around label_may.0)))
                  (fill_both
                  (fill_taken around colon_slots n.DefinitionMarker Plain place_slots colon.node colon.void.0 refl
                  (filled_void around Plain n.DefinitionMarker colon.node colon.void.0 colon.void.1 refl))
                  (fill_both (white.fill around place_slots white_may.0 (record { space = refl; ending = refl; blank = refl; quote = refl }))
                  behind_fill.fill));
              ends = behind_fill.ends;
            };
        sound =
            sound_both on names text (one label) more
            (sound_one on names text label
            (marked_sound on names text n.DefinitionLabel n.DefinitionLabelMarker n.DefinitionLabelString (one_slot n.DefinitionLabelString) string label
            definition_label w.is))
            (sound_both on names text (one colon.node) tail
            (sound_one on names text colon.node (empty_sound on names text colon.node n.DefinitionMarker colon.void.0 colon.void.1 refl))
            (sound_both on names text white.nodes place.nodes (white_sound on names text white) place.sound));
      }
