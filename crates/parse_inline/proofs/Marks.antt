-- Marks of labels: an event that holds a byte by its name, or two.
use Rattle.std.proofs.Common.{◌≡◌, ℕ, true, false, List, [], ◌∷◌, Some, refl, arith}
use Rattle.engine_events.specs.declared.event.Name.TheVariants as n
use Rattle.event_grammar.specs.declared.slot.Form.TheVariants.{Plain}
use Rattle.event_grammar.specs.Grammar.{one as one_slot, row}
use Rattle.event_grammar.specs.Slots.{may_end, take_child}
use Rattle.event_tokens.specs.Tokens.{is_token}
use Rattle.parse_slots.specs.Left.{took}
use Rattle.parse_slots.proofs.Steps.{fill_both}
use Rattle.parse_inline.proofs.Prelude.{append, end_after, end_in, ends_line, is_listed, IsWhole, list_any, Name, plain_both, plain_void, same_name}
use Rattle.parse_inline.proofs.Prelude.{sought_names, StandsInContent, Stop, void_next, Walk}
use Rattle.parse_inline.specs.Rows.{WritesMark}
use Rattle.parse_inline.proofs.Calls.{DoesEnter, DoesExit, DoesText, entered_whole, entering, exiting, IsMark, IsWritten, marking, may_have, texting}
use Rattle.parse_inline.proofs.Calls.{written_both}
use Rattle.parse_inline.proofs.Fills.{next_taken}

-- what is known of the name of a byte in a mark
pub record IsMarker (name : Name) (byte : ℕ) : Type 0 where
  pub no_quote : same_name name n.BlockQuotePrefix ≡ false
  pub no_data : same_name name n.Data ≡ false
  pub other : is_listed sought_names name ≡ false
  pub void : may_end (row name Plain) ≡ true
  pub may : is_token name (byte ∷ []) ≡ true
  pub dark : list_any ends_line (byte ∷ []) ≡ false

module _ {A : Type 0} (text : List ℕ) (stop : Stop) where
  -- a byte by its name
  marker_written : (a b : Walk A) (name : Name) (byte : ℕ) (content : List ℕ) → IsMarker name byte → DoesText name 1 a b
      → StandsInContent text (byte ∷ content) stop a → IsWhole a → IsWritten text stop (void_next text name 1 a) (byte ∷ []) content a b
  marker_written a b name byte content is does st whole =
      texting text stop a b name 1 (byte ∷ []) content refl is.dark is.no_quote (may_have text a name 1 (byte ∷ []) refl whole is.may) does st

  -- a mark of one byte
  pub one_mark : (a b c d : Walk A) (name marker : Name) (byte : ℕ) (content : List ℕ) → IsMark name → IsMarker marker byte
      → take_child (row name Plain) marker ≡ Some (took Plain []) → DoesEnter name a b → DoesText marker 1 b c → DoesExit name c d
      → StandsInContent text (byte ∷ content) stop a → IsWhole a → WritesMark text name (byte ∷ []) content stop a d
  one_mark a b c d name marker byte content is m takes enter does exit st whole =
      let enters = entering text stop a b name (byte ∷ content) enter st in
      let within = marker_written b c marker byte content m does enters.stands (entered_whole text stop a b name (byte ∷ content) enters whole) in
      marking text stop a b c d name (byte ∷ []) content (void_next text marker 1 b) is
      (plain_void text marker (end_in b.out) (end_after (end_in b.out) 1) m.other m.no_data)
      (λ around. next_taken around (row name Plain) marker [] text (end_in b.out) 1 (omega arith) m.no_data takes m.void) enters within
      (exiting text stop c d name content exit within.writes.stands) whole

  -- a mark of two bytes
  pub two_marks : (a b c d e : Walk A) (name first second : Name) (byte next : ℕ) (content : List ℕ) → IsMark name → IsMarker first byte
      → IsMarker second next → take_child (row name Plain) first ≡ Some (took Plain (one_slot second ∷ []))
      → take_child (one_slot second ∷ []) second ≡ Some (took Plain []) → DoesEnter name a b → DoesText first 1 b c → DoesText second 1 c d → DoesExit name d e
      → StandsInContent text (byte ∷ next ∷ content) stop a → IsWhole a → WritesMark text name (byte ∷ next ∷ []) content stop a e
  two_marks a b c d e name first second byte next content is m l takes takes_last enter does last exit st whole =
      let enters = entering text stop a b name (byte ∷ next ∷ content) enter st in
      let inside = entered_whole text stop a b name (byte ∷ next ∷ content) enters whole in
      let one = marker_written b c first byte (next ∷ content) m does enters.stands inside in
      let two = marker_written c d second next content l last one.writes.stands (one.whole inside) in
      let ns = void_next text first 1 b in
      let ms = void_next text second 1 c in
      marking text stop a b d e name (byte ∷ next ∷ []) content (append ns ms) is
      (plain_both ns ms (plain_void text first (end_in b.out) (end_after (end_in b.out) 1) m.other m.no_data)
      (plain_void text second (end_in c.out) (end_after (end_in c.out) 1) l.other l.no_data))
      (λ around.
      fill_both (next_taken around (row name Plain) first (one_slot second ∷ []) text (end_in b.out) 1 (omega arith) m.no_data takes m.void)
      (next_taken around (one_slot second ∷ []) second [] text (end_in c.out) 1 (omega arith) l.no_data takes_last l.void)) enters
      (written_both text stop b c d ns ms (byte ∷ []) (next ∷ []) content one two) (exiting text stop d e name content exit two.writes.stands) whole
