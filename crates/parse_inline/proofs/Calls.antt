-- What calls of a walk write of a content: a mark, the start and the end of a span, of a label.
use Rattle.std.proofs.Common.{◌≡◌, ℕ, false, List, [], ◌∷◌, ◌++◌, length, refl, ap, subst, ◌∙◌, arith}
use Rattle.std.proofs.Common.{true}
use Rattle.event_tokens.specs.Tokens.{is_token}
use Rattle.parse_lines.specs.Content.{HasBytes}
use Rattle.parse_lines.proofs.Bytes.{has_bytes}
use Rattle.parse_inline.proofs.Prelude.{append, ArePlain, Around, contents_around, contents_both, data_nodes, End, end_after, end_in, ends_line, EndsLabel}
use Rattle.parse_inline.proofs.Prelude.{enter_at, EntersInContent, EntersInLine, EntersLabel, EntersSpan, exit_at, ExitsInContent, ExitsInLine, is_listed}
use Rattle.parse_inline.proofs.Prelude.{IsUtf8, IsWhole, LeavesSpan, line_enters, line_exits, line_in_content, list_any, Name, Nodes, plain_one, same_name}
use Rattle.parse_inline.proofs.Prelude.{sequence_name, sought_names, Span, span_name, standing, StandsInContent, StandsInLine, Stop, text_name, void_next}
use Rattle.parse_inline.proofs.Prelude.{void_nodes, Walk, WritesInContent, WritesInLine}
use Rattle.std.specs.Prelude.{Result, Ok, Err, OnOk}
use Rattle.engine_events.specs.declared.event.Name.TheVariants as n
use Rattle.inline_runs.specs.declared.pair.Span.TheVariants as span
use Rattle.event_grammar.specs.declared.slot.Between.{Between}
use Rattle.event_grammar.specs.declared.slot.Form.TheVariants.{Plain}
use Rattle.event_grammar.specs.Grammar.{row}
use Rattle.event_grammar.specs.Slots.{between_of}
use Rattle.parse_slots.specs.Left.{Fill}
use Rattle.parse_slots.proofs.Steps.{filled_by}
use Rattle.parse_lines.proofs.Ahead.{owed_after}
use Rattle.parse_strings.proofs.Characters.{fits_data}
use Rattle.parse_inline.specs.Rows.{WritesMark}
use Rattle.parse_inline.proofs.Plain.{cut_one}

-- two facts of a result
pub on_ok_both : {B E P Q R : Type 0} (r : Result B E) → (P → Q → R) → OnOk r P → OnOk r Q → OnOk r R
on_ok_both (Ok x) f p q = f p q
on_ok_both (Err e) f p q = tt

-- ---- what the calls promise

-- something begins, or ends
abbrev pub DoesEnter : {A : Type 0} → Name → Walk A → Walk A → Type 0
DoesEnter name a b = (standing b ≡ standing a) × ((text line : List ℕ) → StandsInLine text line a → EntersInLine text name line a b)

abbrev pub DoesExit : {A : Type 0} → Name → Walk A → Walk A → Type 0
DoesExit name a b = (standing b ≡ standing a) × ((text line : List ℕ) → StandsInLine text line a → ExitsInLine text name line a b)

-- the next bytes by a name, or as data
abbrev pub DoesText : {A : Type 0} → Name → ℕ → Walk A → Walk A → Type 0
DoesText name size a b =
    (standing b ≡ standing a)
    × ((text front line : List ℕ) → size ≡ length front → same_name name n.BlockQuotePrefix ≡ false → StandsInLine text (front ++ line) a
    → HasBytes text name size a
    → WritesInLine text front (void_nodes text name (end_in a.out) (end_after (end_in a.out) size)) line a b)

abbrev pub DoesData : {A : Type 0} → ℕ → Walk A → Walk A → Type 0
DoesData size a b =
    (standing b ≡ standing a)
    × ((text front line : List ℕ) → size ≡ length front → StandsInLine text (front ++ line) a
    → HasBytes text n.Data size a
    → WritesInLine text front (data_nodes text (end_in a.out) (end_after (end_in a.out) size)) line a b)

whole_after : (e : End) (count : ℕ) → e.owed ≡ 0 → (end_after e count).owed ≡ 0
whole_after e count whole = owed_after e.index e.owed count ∙ omega (arith, whole)

-- what is known of the name of a mark
pub record IsMark (name : Name) : Type 0 where
  pub no_quote : same_name name n.BlockQuotePrefix ≡ false
  pub no_data : same_name name n.Data ≡ false
  pub other : is_listed sought_names name ≡ false

sequence_no_quote : (s : Span) → same_name (sequence_name s) n.BlockQuotePrefix ≡ false
sequence_no_quote span.Emphasis = refl
sequence_no_quote other = refl

-- a mark outside of a tab may have its bytes
pub may_have : {A : Type 0} (text : List ℕ) (w : Walk A) (name : Name) (size : ℕ) (front : List ℕ) → size ≡ length front → IsWhole w
    → is_token name front ≡ true → (line : List ℕ) → StandsInLine text (front ++ line) w → HasBytes text name size w
may_have text w name size front is whole may line st = has_bytes text front line size w name is st whole may

module _ {A : Type 0} (text : List ℕ) (stop : Stop) where
  pub entering : (a b : Walk A) (name : Name) (content : List ℕ) → DoesEnter name a b → StandsInContent text content stop a
      → EntersInContent text name content stop a b
  entering a b name content does st = line_enters text stop a b name content st does.0 (does.1 text)

  pub exiting : (a b : Walk A) (name : Name) (content : List ℕ) → DoesExit name a b → StandsInContent text content stop a
      → ExitsInContent text name content stop a b
  exiting a b name content does st = line_exits text stop a b name content st does.0 (does.1 text)

  -- nodes are written, and what stood outside of a tab does so still
  pub record IsWritten (ns : Nodes) (front content : List ℕ) (a b : Walk A) : Type 0 where
    pub writes : WritesInContent text front ns content stop a b
    pub whole : IsWhole a → IsWhole b

  pub texting : (a b : Walk A) (name : Name) (size : ℕ) (front content : List ℕ) → size ≡ length front → list_any ends_line front ≡ false
      → same_name name n.BlockQuotePrefix ≡ false → (((line : List ℕ) → StandsInLine text (front ++ line) a → HasBytes text name size a))
      → DoesText name size a b → StandsInContent text (front ++ content) stop a
      → IsWritten (void_next text name (length front) a) front content a b
  texting a b name size front content is dark other may does st =
      let ahead = line_in_content text stop a front content st dark in
      let writes : WritesInLine text front (void_next text name (length front) a) ahead.line a b =
      subst (λ count. WritesInLine text front (void_nodes text name (end_in a.out) (end_after (end_in a.out) count)) ahead.line a b) is
      (does.1 text front ahead.line is other ahead.stands (may ahead.line ahead.stands)) in
      record {
        writes = ahead.lifts (void_next text name (length front) a) b does.0 writes;
        whole = λ whole. ap (λ (e : End). e.owed) writes.end ∙ whole_after (end_in a.out) (length front) whole;
      }

  pub writing_data : (a b : Walk A) (size : ℕ) (front content : List ℕ) → size ≡ length front → list_any ends_line front ≡ false → IsUtf8 front
      → DoesData size a b → StandsInContent text (front ++ content) stop a
      → IsWritten (data_nodes text (end_in a.out) (end_after (end_in a.out) (length front))) front content a b
  writing_data a b size front content is dark utf8 does st =
      let ahead = line_in_content text stop a front content st dark in
      let writes : WritesInLine text front (data_nodes text (end_in a.out) (end_after (end_in a.out) (length front))) ahead.line a b =
      subst (λ count. WritesInLine text front (data_nodes text (end_in a.out) (end_after (end_in a.out) count)) ahead.line a b) is
      (does.1 text front ahead.line is ahead.stands (fits_data text front ahead.line size a is ahead.stands utf8 dark)) in
      record {
        writes = ahead.lifts (data_nodes text (end_in a.out) (end_after (end_in a.out) (length front))) b does.0 writes;
        whole = λ whole. ap (λ (e : End). e.owed) writes.end ∙ whole_after (end_in a.out) (length front) whole;
      }

  -- some nodes, and then others
  pub written_both : (a b c : Walk A) (ns ms : Nodes) (front after content : List ℕ) → IsWritten ns front (after ++ content) a b
      → IsWritten ms after content b c
      → IsWritten (append ns ms) (front ++ after) content a c
  written_both a b c ns ms front after content first second = record {
    writes = contents_both text stop a b c front after content ns ms first.writes second.writes;
    whole = λ whole. second.whole (first.whole whole);
  }

  -- outside of a tab before and after
  pub entered_whole : (a b : Walk A) (name : Name) (content : List ℕ) → EntersInContent text name content stop a b → IsWhole a → IsWhole b
  entered_whole a b name content enters whole = ap (λ (e : End). e.owed) enters.end ∙ whole

  pub exited_whole : (a b : Walk A) (name : Name) (content : List ℕ) → ExitsInContent text name content stop a b → IsWhole a → IsWhole b
  exited_whole a b name content exits whole = ap (λ (e : End). e.owed) exits.end ∙ whole

  -- ---- marks

  pub marking : (a b c d : Walk A) (name : Name) (front content : List ℕ) (ns : Nodes) → IsMark name → ArePlain ns
      → ((around : Between) → Fill around (row name Plain) ns [])
      → EntersInContent text name (front ++ content) stop a b → IsWritten ns front content b c → ExitsInContent text name content stop c d → IsWhole a
      → WritesMark text name front content stop a d
  marking a b c d name front content ns is plain fill enters within exits whole =
      let from = end_in a.out in
      let to = end_in c.out in
      record {
        mark = Around (enter_at text name from) ns (exit_at text name to);
        named = refl;
        writes =
            subst (λ vs. WritesInContent text front vs content stop a d) (cut_one (enter_at text name from) (exit_at text name to) ns is.no_data)
            (contents_around text stop a b c d name front content ns enters within.writes exits is.no_quote);
        plain = plain_one (Around (enter_at text name from) ns (exit_at text name to)) is.other plain;
        whole = exited_whole c d name content exits (within.whole (entered_whole a b name (front ++ content) enters whole));
        filled = λ around.
            filled_by around Plain name [] (Around (enter_at text name from) ns (exit_at text name to)) refl (fill (between_of (row name Plain) around name))
            refl;
      }

  -- ---- labels

  pub label_entered : (a b c d e : Walk A) (name sign : Name) (front content : List ℕ) → DoesEnter name a b → DoesEnter n.Label b c
      → (StandsInContent text (front ++ content) stop c → IsWhole c → WritesMark text sign front content stop c d) → DoesEnter n.LabelText d e
      → StandsInContent text (front ++ content) stop a → IsWhole a → EntersLabel text name sign front content stop a e
  label_entered a b c d e name sign front content first second marks third st whole =
      let enters = entering a b name (front ++ content) first st in
      let label = entering b c n.Label (front ++ content) second enters.stands in
      let marked =
      marks label.stands (entered_whole b c n.Label (front ++ content) label (entered_whole a b name (front ++ content) enters whole)) in
      let starts = entering d e n.LabelText content third marked.writes.stands in
      record {
        outer = b;
        inner = c;
        last = d;
        enters = enters;
        label = label;
        marks = marked;
        starts = starts;
        whole = entered_whole d e n.LabelText content starts marked.whole;
      }

  pub label_ended : (a b c d : Walk A) (content : List ℕ) → DoesExit n.LabelText a b
      → (StandsInContent text (93 ∷ content) stop b → IsWhole b → WritesMark text n.LabelEnd (93 ∷ []) content stop b c) → DoesExit n.Label c d
      → StandsInContent text (93 ∷ content) stop a → IsWhole a → EndsLabel text content stop a d
  label_ended a b c d content first marks second st whole =
      let ends = exiting a b n.LabelText (93 ∷ content) first st in
      let marked = marks ends.stands (exited_whole a b n.LabelText (93 ∷ content) ends whole) in
      let leaves = exiting c d n.Label content second marked.writes.stands in
      record {
        inner = b;
        last = c;
        ends = ends;
        marks = marked;
        leaves = leaves;
        whole = exited_whole c d n.Label content leaves marked.whole;
      }

  -- ---- spans

  pub span_entered : (a b c d : Walk A) (s : Span) (size : ℕ) (front content : List ℕ) → size ≡ length front → list_any ends_line front ≡ false
      → is_token (sequence_name s) front ≡ true
      → DoesEnter (span_name s) a b → DoesText (sequence_name s) size b c → DoesEnter (text_name s) c d → StandsInContent text (front ++ content) stop a
      → IsWhole a
      → EntersSpan text s front content stop a d
  span_entered a b c d s size front content is dark may first second third st whole =
      let enters = entering a b (span_name s) (front ++ content) first st in
      let sequence = texting b c (sequence_name s) size front content is dark (sequence_no_quote s)
      (may_have text b (sequence_name s) size front is (entered_whole a b (span_name s) (front ++ content) enters whole) may) second enters.stands in
      let starts = entering c d (text_name s) content third sequence.writes.stands in
      record {
        outer = b;
        inner = c;
        enters = enters;
        sequence = sequence.writes;
        starts = starts;
        whole = entered_whole c d (text_name s) content starts (sequence.whole (entered_whole a b (span_name s) (front ++ content) enters whole));
      }

  pub span_left : (a b c d : Walk A) (s : Span) (size : ℕ) (front content : List ℕ) → size ≡ length front → list_any ends_line front ≡ false
      → is_token (sequence_name s) front ≡ true
      → DoesExit (text_name s) a b → DoesText (sequence_name s) size b c → DoesExit (span_name s) c d → StandsInContent text (front ++ content) stop a
      → IsWhole a
      → LeavesSpan text s front content stop a d
  span_left a b c d s size front content is dark may first second third st whole =
      let ends = exiting a b (text_name s) (front ++ content) first st in
      let sequence = texting b c (sequence_name s) size front content is dark (sequence_no_quote s)
      (may_have text b (sequence_name s) size front is (exited_whole a b (text_name s) (front ++ content) ends whole) may) second ends.stands in
      let leaves = exiting c d (span_name s) content third sequence.writes.stands in
      record {
        inner = b;
        outer = c;
        ends = ends;
        sequence = sequence.writes;
        leaves = leaves;
        whole = exited_whole c d (span_name s) content leaves (sequence.whole (exited_whole a b (text_name s) (front ++ content) ends whole));
      }
