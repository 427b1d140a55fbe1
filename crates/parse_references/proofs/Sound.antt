-- Nodes that are sound, one after another, around others, and by their rows.
use Rattle.std.proofs.Common.{◌≡◌, ℕ, zero, suc, ◌+◌, ◌-◌, Bool, true, false, ◌&&◌, List, [], ◌∷◌, refl, sym, ap, ◌∙◌}
use Rattle.std.proofs.lemmas.Bool.{or_right, true≢false}
use Rattle.std.specs.List.{list_all}
use Rattle.std.specs.Prelude.{if◌then◌else◌}
use Rattle.markdown_options.specs.declared.configuration.Constructs.{Constructs}
use Rattle.engine_events.specs.Names.{is_listed, same_name}
use Rattle.engine_events.specs.declared.event.Event.{Event}
use Rattle.engine_events.specs.declared.event.Name.{Name}
use Rattle.engine_events.specs.declared.event.Name.TheVariants as n
use Rattle.definition_inline.specs.CharacterReference.{Names}
use Rattle.event_grammar.specs.declared.slot.Between.{Between}
use Rattle.event_grammar.specs.declared.slot.Form.{Form}
use Rattle.event_grammar.specs.declared.slot.Slot.{Slot}
use Rattle.event_grammar.specs.Grammar.{row}
use Rattle.event_grammar.specs.InGrammar.{kids_of, node_name}
use Rattle.event_grammar.specs.Points.{edge, spot_of}
use Rattle.event_grammar.specs.Slots.{may_end, between_of}
use Rattle.event_grammar.specs.Trees.{Node, Nodes, Around, Nil, Cons}
use Rattle.parse_output.specs.declared.end.End.{End}
use Rattle.parse_output.specs.Ends.{enter_at, exit_at, same_end}
use Rattle.event_tokens.specs.Shape.{full_names}
use Rattle.parse_output.specs.Forest.{append, byte_nodes, bytes_from, cut, data_nodes, is_nil, one, void_nodes}
use Rattle.parse_slots.specs.Left.{Fill, IsFilled}
use Rattle.parse_references.specs.Leads.{AreWithout, IsWithout}
use Rattle.parse_references.specs.Sound.{AreSound, BeginTag, HoldsAsked, IsSound, asked_names, holding_names, is_asked_on, ruled_names}
use Rattle.parse_references.proofs.Bare.{without_fill, without_filled, without_kids}
use Rattle.parse_references.proofs.Rows.{all_pass, is_without, row_without}

module _ (on : Constructs) (names : Names) (text : List ℕ) where
  pub sound_both : (ns ms : Nodes) → AreSound on names text ns → AreSound on names text ms → AreSound on names text (append ns ms)
  sound_both Nil ms first second = second
  sound_both (Cons node ns) ms first second = (first.0, sound_both ns ms first.1 second)

  -- each of two parts
  pub sound_parts : (ns ms : Nodes) → AreSound on names text (append ns ms) → AreSound on names text ns × AreSound on names text ms
  sound_parts Nil ms both = (tt, both)
  sound_parts (Cons node ns) ms both = let parts = sound_parts ns ms both.1 in ((both.0, parts.0), parts.1)

  pub sound_one : (node : Node) → IsSound on names text node → AreSound on names text (one node)
  sound_one node sound = (sound, tt)

  -- any other name is on
  other_is_on : (name : Name) → is_listed asked_names name ≡ false → is_asked_on on name ≡ true
  other_is_on n.CharacterEscape other = absurd (true≢false other)
  other_is_on n.CharacterReference other = absurd (true≢false other)
  other_is_on n.GfmAutolinkLiteralEmail other = absurd (true≢false other)
  other_is_on n.GfmAutolinkLiteralMailto other = absurd (true≢false other)
  other_is_on n.GfmAutolinkLiteralProtocol other = absurd (true≢false other)
  other_is_on n.GfmAutolinkLiteralWww other = absurd (true≢false other)
  other_is_on n.GfmAutolinkLiteralXmpp other = absurd (true≢false other)
  other_is_on n.HtmlText other = absurd (true≢false other)
  other_is_on n.HeadingAtx other = absurd (true≢false other)
  other_is_on n.HeadingSetext other = absurd (true≢false other)
  other_is_on n.CodeFenced other = absurd (true≢false other)
  other_is_on n.MathFlow other = absurd (true≢false other)
  other_is_on n.Frontmatter other = absurd (true≢false other)
  other_is_on name other = refl

  full_holds : (name : Name) → is_listed full_names name ≡ true → is_listed holding_names name ≡ true
  full_holds name full =
      or_right (same_name n.GfmFootnoteCall name) (is_listed (n.CharacterReference ∷ n.HeadingAtx ∷ full_names) name)
      (or_right (same_name n.CharacterReference name) (is_listed (n.HeadingAtx ∷ full_names) name)
      (or_right (same_name n.HeadingAtx name) (is_listed full_names name) full))

  -- nothing is asked of the children of an event of any other name than these, beside that its construct is on
  asked_of : (off : List Name) (name : Name) (kids : Nodes) → list_all (is_listed off) holding_names ≡ true → is_listed off name ≡ false
      → is_asked_on on name ≡ true → HoldsAsked on names text name kids
  asked_of off name kids among other is_on =
      let never : (asked : Name) → is_listed holding_names asked ≡ true → name ≡ asked → ⊥ =
      λ asked is same. true≢false (sym (all_pass (is_listed off) holding_names asked among is) ∙ (ap (is_listed off) (sym same) ∙ other)) in
      record {
        is_on = is_on;
        call = λ same. absurd (never n.GfmFootnoteCall refl same);
        reference = λ same. absurd (never n.CharacterReference refl same);
        heading = λ same. absurd (never n.HeadingAtx refl same);
        html = λ same. absurd (never n.HtmlText refl same);
        some = λ full. absurd (never name (full_holds name full) refl);
      }

  -- of an event that holds something, nothing more is asked, if no rule is for its name
  asks_some : (name : Name) (kids : Nodes) → is_listed ruled_names name ≡ false → is_asked_on on name ≡ true → is_nil kids ≡ false
      → HoldsAsked on names text name kids
  asks_some name kids other is_on some =
      let never : (asked : Name) → is_listed ruled_names asked ≡ true → name ≡ asked → ⊥ =
      λ asked is same. true≢false (sym is ∙ (ap (is_listed ruled_names) (sym same) ∙ other)) in
      record {
        is_on = is_on;
        call = λ same. absurd (never n.GfmFootnoteCall refl same);
        reference = λ same. absurd (never n.CharacterReference refl same);
        heading = λ same. absurd (never n.HeadingAtx refl same);
        html = λ same. absurd (never n.HtmlText refl same);
        some = λ full. some;
      }

  pub asks_construct : (name : Name) (kids : Nodes) → is_listed holding_names name ≡ false → is_asked_on on name ≡ true → HoldsAsked on names text name kids
  asks_construct name kids other is_on = asked_of holding_names name kids refl other is_on

  pub asks_nothing : (name : Name) (kids : Nodes) → is_listed asked_names name ≡ false → HoldsAsked on names text name kids
  asks_nothing name kids other = asked_of asked_names name kids refl other (other_is_on name other)

  -- what is of another name, around nodes that are sound
  pub sound_around : (node : Node) → is_listed asked_names (node_name node) ≡ false → AreSound on names text (kids_of node) → IsSound on names text node
  sound_around (Around enter kids exit) other sound = (asks_nothing enter.name kids other, sound)

  -- what is of a construct that is on, around such nodes
  pub sound_of_on : (node : Node) → is_listed holding_names (node_name node) ≡ false → is_asked_on on (node_name node) ≡ true
      → AreSound on names text (kids_of node) → IsSound on names text node
  sound_of_on (Around enter kids exit) other is_on sound = (asks_construct enter.name kids other is_on, sound)

  -- what holds something, around such nodes
  pub sound_full : (node : Node) → is_listed ruled_names (node_name node) ≡ false → is_asked_on on (node_name node) ≡ true
      → is_nil (kids_of node) ≡ false → AreSound on names text (kids_of node) → IsSound on names text node
  sound_full (Around enter kids exit) other is_on some sound = (asks_some enter.name kids other is_on some, sound)

  -- nodes without these names
  mutual
    pub without_is_sound : (node : Node) → IsWithout asked_names node → IsSound on names text node
    without_is_sound (Around enter kids exit) h = (asks_nothing enter.name kids h.0, without_are_sound kids h.1)

    pub without_are_sound : (ns : Nodes) → AreWithout asked_names ns → AreSound on names text ns
    without_are_sound Nil h = tt
    without_are_sound (Cons node ns) h = (without_is_sound node h.0, without_are_sound ns h.1)

  -- nodes that fill a row in which none of these names may stand, this deep
  pub sound_fill : (k : ℕ) (around : Between) (slots rest : List Slot) (ns : Nodes) → row_without asked_names k slots ≡ true → Fill around slots ns rest
      → may_end rest ≡ true → AreSound on names text ns
  sound_fill k around slots rest ns without fill may =
      without_are_sound ns (without_fill asked_names refl refl k around slots rest ns without fill may)

  -- a node of a name in whose row none of them may stand
  pub sound_filled : (k : ℕ) (around : Between) (form : Form) (name : Name) (node : Node) → node_name node ≡ name
      → is_without asked_names k form name ≡ true → IsFilled around form node → IsSound on names text node
  sound_filled k around form name node is without filled =
      without_is_sound node (without_filled asked_names refl refl k around form name node is without filled)

  -- a node of a name whose construct is on, in whose row none of them may stand
  pub sound_filled_on : (k : ℕ) (around : Between) (form : Form) (name : Name) (node : Node) → node_name node ≡ name
      → is_listed holding_names name ≡ false → is_asked_on on name ≡ true → row_without asked_names k (row name form) ≡ true → IsFilled around form node
      → IsSound on names text node
  sound_filled_on k around form name (Around enter kids exit) is other is_on without filled =
      sound_of_on (Around enter kids exit) (ap (is_listed holding_names) is ∙ other) (ap (is_asked_on on) is ∙ is_on)
      (without_are_sound kids (without_kids asked_names refl refl (between_of (row enter.name form) around enter.name) kids k (row enter.name form)
      (ap (λ (a : Name). row_without asked_names k (row a form)) is ∙ without) filled.filled))

  -- the same where it holds something
  pub sound_filled_full : (k : ℕ) (around : Between) (form : Form) (name : Name) (node : Node) → node_name node ≡ name
      → is_listed ruled_names name ≡ false → is_asked_on on name ≡ true → is_nil (kids_of node) ≡ false
      → row_without asked_names k (row name form) ≡ true → IsFilled around form node → IsSound on names text node
  sound_filled_full k around form name (Around enter kids exit) is other is_on some without filled =
      sound_full (Around enter kids exit) (ap (is_listed ruled_names) is ∙ other) (ap (is_asked_on on) is ∙ is_on) some
      (without_are_sound kids (without_kids asked_names refl refl (between_of (row enter.name form) around enter.name) kids k (row enter.name form)
      (ap (λ (a : Name). row_without asked_names k (row a form)) is ∙ without) filled.filled))

  -- raw HTML in a text
  pub sound_tag : (k : ℕ) (around : Between) (form : Form) (node : Node) → node_name node ≡ n.HtmlText → on.html_text ≡ true
      → is_nil (kids_of node) ≡ false → BeginTag text (kids_of node) → row_without asked_names k (row n.HtmlText form) ≡ true → IsFilled around form node
      → IsSound on names text node
  sound_tag k around form (Around enter kids exit) is is_on some begins without filled = (
    record {
      is_on = ap (is_asked_on on) is ∙ is_on;
      call = λ same. absurd (true≢false (ap (same_name n.GfmFootnoteCall) (sym same ∙ is)));
      reference = λ same. absurd (true≢false (ap (same_name n.CharacterReference) (sym same ∙ is)));
      heading = λ same. absurd (true≢false (ap (same_name n.HeadingAtx) (sym same ∙ is)));
      html = λ same. begins;
      some = λ full. some;
    },
    without_are_sound kids (without_kids asked_names refl refl (between_of (row enter.name form) around enter.name) kids k (row enter.name form)
        (ap (λ (a : Name). row_without asked_names k (row a form)) is ∙ without) filled.filled),
  )

  -- ---- what holds no other

  pub byte_nodes_sound : (index count : ℕ) → AreSound on names text (byte_nodes index count)
  byte_nodes_sound index zero = tt
  byte_nodes_sound index (suc count) = ((asks_nothing n.Data Nil refl, tt), byte_nodes_sound (index + 1) count)

  pub bytes_sound : (enter exit : Event) → AreSound on names text (bytes_from enter exit)
  bytes_sound enter exit = byte_nodes_sound (edge (spot_of enter)) (edge (spot_of exit) - edge (spot_of enter))

  pub data_sound : (from to : End) → AreSound on names text (data_nodes text from to)
  data_sound from to = bytes_sound (enter_at text n.Data from) (exit_at text n.Data to)

  cut_sound : (is_data : Bool) (enter exit : Event) → is_listed asked_names enter.name ≡ false
      → AreSound on names text (if is_data then bytes_from enter exit else one (Around enter Nil exit))
  cut_sound true enter exit other = bytes_sound enter exit
  cut_sound false enter exit other = ((asks_nothing enter.name Nil other, tt), tt)

  void_cut_sound : (none : Bool) (name : Name) (from to : End) → is_listed asked_names name ≡ false
      → AreSound on names text (if none then Nil else cut (Around (enter_at text name from) Nil (exit_at text name to)))
  void_cut_sound true name from to other = tt
  void_cut_sound false name from to other = cut_sound (same_name name n.Data && true) (enter_at text name from) (exit_at text name to) other

  -- an event that holds no other, of a name of which nothing more is asked
  pub void_sound : (name : Name) (from to : End) → is_listed asked_names name ≡ false → AreSound on names text (void_nodes text name from to)
  void_sound name from to other = void_cut_sound (same_end to from) name from to other
