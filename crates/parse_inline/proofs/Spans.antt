-- What the nodes of a span spell.
use Rattle.std.proofs.Common.{◌≡◌, ◌||◌, ℕ, Bool, true, false, List, [], ◌∷◌, Some, refl, sym, ap, subst, ◌∙◌}
use Rattle.markdown_options.specs.declared.configuration.Constructs.{Constructs}
use Rattle.parse_inline.proofs.Prelude.{append, ArePlain, Around, cond-false, cond_both, cut, End, enter_at, exit_at, inlines_of, is_listed, Name, Names, Nil}
use Rattle.parse_inline.proofs.Prelude.{Nodes, part, plain_both, plain_void, same_end, same_name, sequence_name, sought_names, Span, span_name, span_view}
use Rattle.parse_inline.proofs.Prelude.{text_name, text_names, text_within, void_nodes}
use Rattle.engine_events.specs.declared.event.Name.TheVariants as n
use Rattle.definition_inline.specs.Inline as inline
use Rattle.inline_runs.specs.declared.pair.Span.TheVariants as span
use Rattle.event_grammar.specs.declared.slot.Between.{Between}
use Rattle.event_grammar.specs.declared.slot.Form.TheVariants.{Plain}
use Rattle.event_grammar.specs.declared.slot.Slot.{Slot}
use Rattle.event_grammar.specs.Grammar.{enclosed, one as one_slot, one_line_names, row, text_row}
use Rattle.event_grammar.specs.Slots.{may_end, take_child}
use Rattle.parse_slots.specs.Left.{Fill, MayEndLines, took}
use Rattle.parse_slots.proofs.Steps.{fill_both, fill_taken}
use Rattle.parse_slots.proofs.Voids.{void_taken}
use Rattle.parse_references.specs.Sound.{AreSound, asked_names}
use Rattle.parse_references.proofs.Sound.{sound_both, void_sound}
use Rattle.parse_output.proofs.Forests.{append-assoc}
use Rattle.parse_inline.proofs.Fills.{filled_around}
use Rattle.parse_inline.proofs.Plain.{cut_one, plain_event, sound_event}

module _ (text : List ℕ) where
  -- the text of a span, as an event
  abbrev pub text_nodes : Span → End → Nodes → End → Nodes
  text_nodes s from kids to = cut (Around (enter_at text (text_name s) from) kids (exit_at text (text_name s) to))

  -- a sequence, the text and a sequence
  abbrev pub inside_span : Span → End → End → End → Nodes → End → End → End → Nodes
  inside_span s a b c kids d e f =
      append (append (void_nodes text (sequence_name s) a b) (text_nodes s c kids d)) (void_nodes text (sequence_name s) e f)

  abbrev pub span_nodes : Span → End → Nodes → End → Nodes
  span_nodes s from kids to = cut (Around (enter_at text (span_name s) from) kids (exit_at text (span_name s) to))

module _ (names : Names) (text : List ℕ) where
  -- what is void has no text
  skip_void : (name : Name) (linked : Bool) (from to : End) (ns : Nodes) → same_name name n.Data ≡ false → is_listed text_names name ≡ false
      → same_name name n.Label ≡ false
      → text_within names text linked (append (void_nodes text name from to) ns) ≡ text_within names text linked ns
  skip_void name linked from to ns no_data no_text no_label =
      let enter = enter_at text name from in
      let exit = exit_at text name to in
      cond_both (same_end to from) Nil (cut (Around enter Nil exit)) (λ vs. text_within names text linked (append vs ns) ≡ text_within names text linked ns)
      (λ _. refl)
      (λ _. ap (λ vs. text_within names text linked (append vs ns)) (cut_one enter exit Nil no_data)
      ∙ cond-false (is_listed text_names name) _ _ no_text ∙ cond-false (same_name name n.Label) _ _ no_label)

  -- a sequence has none
  skip_sequence : (s : Span) (linked : Bool) (from to : End) (ns : Nodes)
      → text_within names text linked (append (void_nodes text (sequence_name s) from to) ns) ≡ text_within names text linked ns
  skip_sequence span.Emphasis linked from to ns = skip_void (sequence_name span.Emphasis) linked from to ns refl refl refl
  skip_sequence s linked from to ns = skip_void (sequence_name s) linked from to ns refl refl refl

  first_text : (s : Span) (linked : Bool) (from to : End) (kids ns : Nodes)
      → text_within names text linked (append (text_nodes text s from kids to) ns) ≡ inlines_of names text linked kids
  first_text span.Emphasis linked from to kids ns = refl
  first_text other linked from to kids ns = refl

  within_span : (s : Span) (linked : Bool) (a b c d e f : End) (kids : Nodes)
      → text_within names text linked (inside_span text s a b c kids d e f) ≡ inlines_of names text linked kids
  within_span s linked a b c d e f kids =
      let first = void_nodes text (sequence_name s) a b in
      let last = void_nodes text (sequence_name s) e f in
      ap (text_within names text linked) (append-assoc first (text_nodes text s c kids d) last) ∙ skip_sequence s linked a b
      (append (text_nodes text s c kids d) last)
      ∙ first_text s linked c d kids last

  span_around : (s : Span) (linked : Bool) (from to : End) (kids : Nodes)
      → inlines_of names text linked (span_nodes text s from kids to) ≡ part (inline.Span (span_view s) (text_within names text (linked || false) kids))
  span_around span.Emphasis linked from to kids = refl
  span_around other linked from to kids = refl

  -- a span spells one around what the nodes in it spell
  pub span_spelled : (s : Span) (linked : Bool) (from to a b c d e f : End) (kids : Nodes)
      → inlines_of names text linked (span_nodes text s from (inside_span text s a b c kids d e f) to)
      ≡ part (inline.Span (span_view s) (inlines_of names text (linked || false) kids))
  span_spelled s linked from to a b c d e f kids =
      span_around s linked from to (inside_span text s a b c kids d e f)
      ∙ ap (λ js. part (inline.Span (span_view s) js)) (within_span s (linked || false) a b c d e f kids)

-- ---- plain nodes

-- names that nothing looks for
record IsUnsought (name : Name) : Type 0 where
  other : is_listed sought_names name ≡ false
  no_data : same_name name n.Data ≡ false
  unasked : is_listed asked_names name ≡ false

unsought_sequence : (s : Span) → IsUnsought (sequence_name s)
unsought_sequence span.Emphasis = record { other = refl; no_data = refl; unasked = refl }
unsought_sequence other = record { other = refl; no_data = refl; unasked = refl }

unsought_text : (s : Span) → IsUnsought (text_name s)
unsought_text span.Emphasis = record { other = refl; no_data = refl; unasked = refl }
unsought_text other = record { other = refl; no_data = refl; unasked = refl }

unsought_span : (s : Span) → IsUnsought (span_name s)
unsought_span span.Emphasis = record { other = refl; no_data = refl; unasked = refl }
unsought_span other = record { other = refl; no_data = refl; unasked = refl }

pub span_plain : (text : List ℕ) (s : Span) (from to a b c d e f : End) (kids : Nodes) → ArePlain kids
    → ArePlain (span_nodes text s from (inside_span text s a b c kids d e f) to)
span_plain text s from to a b c d e f kids p =
    let sequence = unsought_sequence s in
    let own = unsought_text s in
    let whole = unsought_span s in
    let first = void_nodes text (sequence_name s) a b in
    let last = void_nodes text (sequence_name s) e f in
    plain_event text (span_name s) from to (inside_span text s a b c kids d e f) whole.other whole.no_data
    (plain_both (append first (text_nodes text s c kids d)) last
    (plain_both first (text_nodes text s c kids d) (plain_void text (sequence_name s) a b sequence.other sequence.no_data)
    (plain_event text (text_name s) c d kids own.other own.no_data p))
    (plain_void text (sequence_name s) e f sequence.other sequence.no_data))

-- ---- sound nodes

pub span_sound : (on : Constructs) (names : Names) (text : List ℕ) (s : Span) (from to a b c d e f : End) (kids : Nodes) → AreSound on names text kids
    → AreSound on names text (span_nodes text s from (inside_span text s a b c kids d e f) to)
span_sound on names text s from to a b c d e f kids sound =
    let sequence = (unsought_sequence s).unasked in
    let own = unsought_text s in
    let whole = unsought_span s in
    let first = void_nodes text (sequence_name s) a b in
    let last = void_nodes text (sequence_name s) e f in
    sound_event on names text (span_name s) from to (inside_span text s a b c kids d e f) whole.unasked whole.no_data
    (sound_both on names text (append first (text_nodes text s c kids d)) last
    (sound_both on names text first (text_nodes text s c kids d) (void_sound on names text (sequence_name s) a b sequence)
    (sound_event on names text (text_name s) c d kids own.unasked own.no_data sound))
    (void_sound on names text (sequence_name s) e f sequence))

-- ---- the rows of the grammar

-- what is left of the row of a span after its text, and before that
abbrev closing : Span → List Slot
closing s = one_slot (sequence_name s) ∷ []

abbrev begun : Span → List Slot
begun s = one_slot (text_name s) ∷ closing s

-- a span is a part of a text, and holds a sequence, a text and a sequence
record HasSpanRows (s : Span) : Type 0 where
  row_is : row (span_name s) Plain ≡ enclosed (sequence_name s) (text_name s)
  lines : is_listed one_line_names (span_name s) ≡ false
  taken : take_child text_row (span_name s) ≡ Some (took Plain text_row)
  text_is : row (text_name s) Plain ≡ text_row
  text_lines : is_listed one_line_names (text_name s) ≡ false
  void : may_end (row (sequence_name s) Plain) ≡ true
  takes_first : take_child (enclosed (sequence_name s) (text_name s)) (sequence_name s) ≡ Some (took Plain (begun s))
  takes_text : take_child (begun s) (text_name s) ≡ Some (took Plain (closing s))
  takes_last : take_child (closing s) (sequence_name s) ≡ Some (took Plain [])

span_rows : (s : Span) → HasSpanRows s
span_rows span.Emphasis = record {
  row_is = refl;
  lines = refl;
  taken = refl;
  text_is = refl;
  text_lines = refl;
  void = refl;
  takes_first = refl;
  takes_text = refl;
  takes_last = refl;
}
span_rows other = record {
  row_is = refl;
  lines = refl;
  taken = refl;
  text_is = refl;
  text_lines = refl;
  void = refl;
  takes_first = refl;
  takes_text = refl;
  takes_last = refl;
}

-- a span with two sequences, and parts of a text between
pub span_fill : (around : Between) (bytes text : List ℕ) (s : Span) (from to a b c d e f : End) (kids : Nodes) → same_end b a ≡ false → same_end f e ≡ false
    → MayEndLines around bytes → Fill around text_row kids text_row
    → Fill around text_row (span_nodes text s from (inside_span text s a b c kids d e f) to) text_row
span_fill around bytes text s from to a b c d e f kids first last may fill =
    let has = span_rows s in
    let whole = enclosed (sequence_name s) (text_name s) in
    let no_data = (unsought_sequence s).no_data in
    let inside = inside_span text s a b c kids d e f in
    let own = Around (enter_at text (text_name s) c) kids (exit_at text (text_name s) d) in
    let node = Around (enter_at text (span_name s) from) inside (exit_at text (span_name s) to) in
    let own_fill : Fill around (begun s) (text_nodes text s c kids d) (closing s) =
    subst (λ (ns : Nodes). Fill around (begun s) ns (closing s))
    (sym (cut_one (enter_at text (text_name s) c) (exit_at text (text_name s) d) kids (unsought_text s).no_data))
    (fill_taken around (begun s) (text_name s) Plain (closing s) own refl has.takes_text
    (filled_around around Plain (text_name s) text_row text_row bytes own refl has.text_is refl has.text_lines may fill refl)) in
    subst (λ (ns : Nodes). Fill around text_row ns text_row)
    (sym (cut_one (enter_at text (span_name s) from) (exit_at text (span_name s) to) inside (unsought_span s).no_data))
    (fill_taken around text_row (span_name s) Plain text_row node refl has.taken
    (filled_around around Plain (span_name s) whole [] bytes node refl has.row_is refl has.lines may
    (fill_both
    (fill_both (void_taken around whole (sequence_name s) Plain (begun s) text a b first no_data has.takes_first has.void) own_fill)
    (void_taken around (closing s) (sequence_name s) Plain [] text e f last no_data has.takes_last has.void)) refl))
