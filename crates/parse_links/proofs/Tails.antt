-- What is written behind the label of a link, step by step (CommonMark 6.3).
use Rattle.std.proofs.Common.{◌≡◌, ℕ, ◌<◌, Bool, true, false, ◌&&◌, eqb, List, [], ◌∷◌, ◌++◌, Option, None, Some, refl, sym, ap, ap₂, subst, ◌∙◌}
use Rattle.std.proofs.Common.{arith, drop, length, take}
use Rattle.std.specs.Prelude.{codes}
use Rattle.parse_links.proofs.Prelude.{after_reference, and_parts, Code, codes_split, cond-false, Constructs, content_codes, contents_none, eqb-true}
use Rattle.parse_links.proofs.Prelude.{false_from_ne_true, HasCodes, Holds, is_collapsed, is_eol, IsMark, IsWhole, label_at, line_bytes, list_any, Names, Nil}
use Rattle.parse_links.proofs.Prelude.{Node, one, Part, StandsInContent, Stop, take-append-drop, true≢false, Walk, words, WritesQuoted, WritesTail}
use Rattle.std.proofs.lemmas.Slice.Eq.{bytes_eq-Decides}
use Rattle.definition_text.specs.Bytes.{begins_with}
use Rattle.engine_events.specs.declared.event.Name.TheVariants as n
use Rattle.event_grammar.specs.declared.slot.Form.TheVariants.{Plain}
use Rattle.event_grammar.specs.Grammar.{opt}
use Rattle.parse_slots.proofs.Steps.{fill_none, fill_taken}
use Rattle.parse_links.specs.Tails.{FillsTail, HasLabel, IsShortcut, SpellsReference, tail_slots}
use Rattle.parse_references.proofs.Sound.{sound_one}
use Rattle.parse_links.proofs.Fills.{marked_filled, reference}
use Rattle.parse_links.proofs.Found.{IsStringName, IsUnsought, finds_quoted}
use Rattle.parse_links.proofs.Sound.{marked_sound}

pub left_mark : IsMark 91
left_mark = record { ascii = omega arith; dark = refl }

pub right_mark : IsMark 93
right_mark = record { ascii = omega arith; dark = refl }

-- ---- two brackets

pub collapsed_bytes : (xs : List ℕ) → is_collapsed xs ≡ true → xs ≡ 91 ∷ 93 ∷ drop 2 xs
collapsed_bytes [] h = cc
collapsed_bytes (x ∷ []) h = absurd (true≢false (sym h ∙ none (eqb x 91)))
  where
    none : (t : Bool) → (t && false) ≡ false
    none true = refl
    none false = refl
collapsed_bytes (x ∷ y ∷ ys) h =
    let are = and_parts (eqb x 91) (eqb y 93) h in
    ap₂ (λ a b. a ∷ b ∷ ys) (eqb-true x 91 are.0) (eqb-true y 93 are.1)

collapsed_codes : (xs : List ℕ) → begins_with (codes "[]") (content_codes xs) ≡ true → is_collapsed xs ≡ true
collapsed_codes xs h =
    let cs = content_codes xs in
    let front : 91 ∷ 93 ∷ [] ≡ take 2 cs = (bytes_eq-Decides (91 ∷ 93 ∷ []) (take 2 cs)).0 h in
    let whole : cs ≡ (91 ∷ 93 ∷ []) ++ drop 2 cs = sym (take-append-drop 2 cs) ∙ ap (λ ys. ys ++ drop 2 cs) (sym front) in
    let split = codes_split (91 ∷ 93 ∷ []) (drop 2 cs) xs whole in
    let is : split.front ≡ 91 ∷ 93 ∷ [] = sym (line_bytes split.front (ap (list_any is_eol) split.first)) ∙ split.first in
    ap is_collapsed (split.parts ∙ ap (λ ys. ys ++ split.after) is)

pub shortcut_left : (xs : List ℕ) → IsShortcut xs → content_codes xs ≡ after_reference (label_at (content_codes xs)) (content_codes xs)
shortcut_left xs h =
    let cs = content_codes xs in
    let other : begins_with (codes "[]") cs ≡ false =
    false_from_ne_true (begins_with (codes "[]") cs) (λ is. true≢false (sym (collapsed_codes xs is) ∙ h.other)) in
    sym (ap (λ l. after_reference l cs) h.label ∙ cond-false (begins_with (codes "[]") cs) (drop 2 cs) cs other)

pub collapsed_left : (xs : List ℕ) → is_collapsed xs ≡ true → label_at (content_codes xs) ≡ None
    → content_codes (drop 2 xs) ≡ after_reference (label_at (content_codes xs)) (content_codes xs)
collapsed_left xs h none =
    sym (ap (λ l. after_reference l (content_codes xs)) none ∙ ap (λ ys. after_reference None (content_codes ys)) (collapsed_bytes xs h))

-- ---- what is written

reference_is : IsStringName n.ReferenceString
reference_is = record { listed = refl; media = refl; definition = refl; column = refl }

outer_is : IsUnsought n.Reference
outer_is = record { media = refl; sought = refl; tail = refl; definition = refl; column = refl }

marker_is : IsUnsought n.ReferenceMarker
marker_is = record { media = refl; sought = refl; tail = refl; definition = refl; column = refl }

held_label : (on : Constructs) (names : Names) (text : List ℕ) (label : Option Part) (string : List ℕ) (held : Option Node) → HasCodes label string
    → Holds on names text n.ReferenceString string held
    → HasLabel text label held
held_label on names text None string None has holds = refl
held_label on names text None string (Some node) has holds = absurd (omega (arith, holds.filled, ap length has))
held_label on names text (Some label) string None has holds = absurd (omega (arith, has.1, ap length holds))
held_label on names text (Some label) string (Some node) has holds = (node, refl, ap words (sym has.0) ∙ holds.words)

module _ {A : Type 0} (text : List ℕ) (stop : Stop) where
  pub no_reference : (on : Constructs) (names : Names) (a : Walk A) (content : List ℕ) → IsShortcut content → StandsInContent text content stop a → IsWhole a
      → WritesTail on names text content (SpellsReference text (label_at (content_codes content))) FillsTail
      (after_reference (label_at (content_codes content)) (content_codes content))
      stop a a
  no_reference on names a content is st whole = record {
    front = [];
    after = content;
    parts = refl;
    rest = shortcut_left content is;
    nodes = Nil;
    writes = contents_none text stop a content st;
    whole = whole;
    spells = record { is_none = refl; string = subst (λ l. HasLabel text l None) (sym is.label) refl; definitions = refl; columns = refl };
    fill = λ around may. record { rest = tail_slots; fill = fill_none around tail_slots; ends = refl };
    sound = tt;
  }

  module _ (on : Constructs) (names : Names) where
    pub reference_tail : (a b : Walk A) (content front after string : List ℕ) (label : Option Part) (left : List Code) → content ≡ front ++ after
        → content_codes after ≡ left → HasCodes label string
        → WritesQuoted on names text n.Reference n.ReferenceMarker n.ReferenceString string front after stop a b
        → WritesTail on names text content (SpellsReference text label) FillsTail left stop a b
    reference_tail a b content front after string label left parts rest has w =
        let finds = finds_quoted on names text n.Reference n.ReferenceMarker n.ReferenceString string w.node outer_is marker_is reference_is w.is in
        record {
          front = front;
          after = after;
          parts = parts;
          rest = rest;
          nodes = one w.node;
          writes = w.writes;
          whole = w.whole;
          spells = record {
            is_none = finds.others n.Resource refl refl;
            string = subst (λ o. HasLabel text label o) (sym finds.found) (held_label on names text label string w.is.held has w.is.holds);
            definitions = finds.definitions;
            columns = finds.columns;
          };
          fill = λ around may. record {
            rest = [];
            fill = fill_taken around tail_slots n.Reference Plain [] w.node w.is.named refl
                (marked_filled on names text around n.Reference n.ReferenceMarker n.ReferenceString (opt n.ReferenceString) string w.node reference w.is
                (λ none. refl) (w.lines around may));
            ends = refl;
          };
          sound =
              sound_one on names text w.node
              (marked_sound on names text n.Reference n.ReferenceMarker n.ReferenceString (opt n.ReferenceString) string w.node reference w.is);
        }

-- a label of some codes has some bytes
pub string_filled : (string text : List ℕ) → content_codes string ≡ text → 0 < length text → 0 < length string
string_filled [] text e h = absurd (omega (arith, ap length e, h))
string_filled (x ∷ xs) text e h = omega arith
