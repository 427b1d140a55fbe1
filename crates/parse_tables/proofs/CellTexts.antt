-- The text of a cell.
use Rattle.std.proofs.Common.{◌≡◌, ◌<◌, ◌≤◌, ℕ, zero, suc, ◌+◌, Bool, false, ◌||◌, List, [], ◌∷◌, ◌++◌, Option, None, drop, get_or, map, replicate, refl, sym, ap, ap₂, subst, ◌∙◌, arith, eqb}
use Rattle.parse_tables.proofs.Prelude.{append-nil, AreContentLines, AreNext, ArePartsAlike, Around, BeginsLineAfter, block_line, BlockLine, cell, code_byte}
use Rattle.parse_tables.proofs.Prelude.{cond-false, content_text, context_of, end_at, end_in, ends_line, enter_at, EntersInLine, exit_at, ExitsInLine}
use Rattle.parse_tables.proofs.Prelude.{get_or-drop, inline_content, is_white, IsBefore, Kind, LineEnding, LineRest, list_any, ne_eqb, Node, one, or_parts}
use Rattle.parse_tables.proofs.Prelude.{own_lines, prefix_len, read_content, Reading, standing, StandsInContent, StandsInLine, Walk, with_kinds, WritesContent}
use Rattle.parse_tables.proofs.Prelude.{WritesInCell, WritesInContent}
use Rattle.text_pieces.specs.ParagraphLines.{HaveNoEnding}
use Rattle.definition_inline.specs.Scan.{inlines}
use Rattle.engine_events.specs.declared.event.Name.TheVariants as n
use Rattle.event_grammar.specs.declared.slot.Between.TheVariants.{Spaces}
use Rattle.event_meaning.specs.Texts.{inlines_of}
use Rattle.parse_references.proofs.Sound.{sound_around, sound_one}
use Rattle.parse_alike.proofs.Composed.{alike_parts_compose}
use Rattle.parse_tables.proofs.Fills.{cell_text}
use Rattle.parse_tables.proofs.Parts.{part_entered, part_left, stop_before}
use Rattle.parse_tables.proofs.Steps.{dark_front}

-- the line of a cell: columns of a tab, and bytes
abbrev pub cell_line : ℕ → List ℕ → Option LineEnding → Kind → BlockLine
cell_line owed bytes ending before = block_line (replicate owed 256 ++ bytes) ending before

-- ---- its content, as the definition reads a cell

pub content_is : (is_punctuation : ℕ → Bool) (before after : Kind) (codes : List ℕ) (ending : Option LineEnding)
    → inline_content is_punctuation after (own_lines (block_line codes ending before ∷ [])) ≡ with_kinds is_punctuation None before after (map code_byte codes)
content_is is_punctuation before after codes ending =
    append-nil (with_kinds is_punctuation None before after (map code_byte (codes ++ [])))
    ∙ ap (λ xs. with_kinds is_punctuation None before after (map code_byte xs)) (append-nil codes)

pub text_is : (codes : List ℕ) (ending : Option LineEnding) (before : Kind) → content_text (block_line codes ending before ∷ []) ≡ map code_byte codes
text_is codes ending before = append-nil (map code_byte codes ++ []) ∙ append-nil (map code_byte codes)

-- small bytes, of which none is a column of a tab
AreSmall : List ℕ → Type 0
AreSmall bytes = (k : ℕ) → get_or bytes k 0 < 256

bytes_same : (bytes : List ℕ) → ((k : ℕ) → get_or bytes k 0 < 256) → map code_byte bytes ≡ bytes
bytes_same [] h = refl
bytes_same (b ∷ bs) h =
    let small = h 0 in
    ap₂ (λ (x : ℕ) xs. x ∷ xs) (cond-false (eqb b 256) 32 b (ne_eqb b 256 (λ e. omega (arith, small, e)))) (bytes_same bs (λ k. h (suc k)))

pub dropped : (owed : ℕ) (bytes : List ℕ) → ((k : ℕ) → get_or bytes k 0 < 256) → drop owed (map code_byte (replicate owed 256 ++ bytes)) ≡ bytes
dropped zero bytes h = bytes_same bytes h
dropped (suc owed) bytes h = dropped owed bytes h

pub white_columns : (owed : ℕ) (bytes : List ℕ) → owed ≤ prefix_len is_white (map code_byte (replicate owed 256 ++ bytes))
white_columns zero bytes = omega arith
white_columns (suc owed) bytes = let more = white_columns owed bytes in omega (arith, more)

-- ---- its bytes are those of a line

next_small : (text line : List ℕ) (i : ℕ) → ((k : ℕ) → get_or text k 0 < 256) → AreNext text (end_at i 0) line → (k : ℕ) → get_or line k 0 < 256
next_small text [] i bytes are k = omega arith
next_small text (b ∷ line) i bytes are zero =
    let same : get_or text (i + 0) 0 ≡ b = sym (get_or-drop i text 0 0) ∙ ap (λ (xs : List ℕ). get_or xs 0 0) are.0 in
    let small = bytes (i + 0) in
    omega (arith, same, small)
next_small text (b ∷ line) i bytes are (suc k) = next_small text line (i + 1) bytes are.1 k

pub front_small : (xs ys : List ℕ) → ((k : ℕ) → get_or (xs ++ ys) k 0 < 256) → (k : ℕ) → get_or xs k 0 < 256
front_small [] ys h k = omega arith
front_small (x ∷ xs) ys h zero = h 0
front_small (x ∷ xs) ys h (suc k) = front_small xs ys (λ j. h (suc j)) k

pub before_small : {A : Type 0} (text line : List ℕ) (ending : Option LineEnding) (left : List LineRest) (w : Walk A) → IsBefore text line ending left w
    → (k : ℕ) → get_or line k 0 < 256
before_small text line ending left w b =
    next_small text line (end_in w.out).index b.at.line.over.bytes (subst (λ (o : ℕ). AreNext text (end_at (end_in w.out).index o) line) b.bare b.next)

pub no_ending : (owed : ℕ) (bytes : List ℕ) → ((k : ℕ) → get_or bytes k 0 < 256) → list_any ends_line bytes ≡ false → HaveNoEnding (replicate owed 256 ++ bytes)
no_ending (suc owed) bytes h dark = (refl, no_ending owed bytes h dark)
no_ending zero [] h dark = tt
no_ending zero (b ∷ bs) h dark =
    let parts = or_parts (ends_line b) (list_any ends_line bs) dark in
    let small = h 0 in (
      ap₂ (λ x y. x || y) parts.0 (ne_eqb b 257 (λ e. omega (arith, small, e))),
      no_ending zero bs (λ k. h (suc k)) parts.1,
    )

-- ---- the event of the text

module _ {A : Type 0} (r : Reading) (text behind : List ℕ) (ending : Option LineEnding) (left : List LineRest) where
  -- the text of a cell is written in an event
  pub in_cell_written : (old begun entered texted new : Walk A) (owed : ℕ) (bytes : List ℕ) (found : Option LineEnding) (before after : Kind)
      → IsBefore text (bytes ++ behind) ending left old → BeginsLineAfter owed old begun → standing begun ≡ standing old → owed < 256
      → (begun.place ≡ owed) × (begun.out ≡ old.out)
      → ((line : List ℕ) → StandsInLine text line begun → EntersInLine text n.GfmTableCellText line begun entered) → standing entered ≡ standing begun
      → (AreContentLines (cell_line owed bytes found before ∷ [])
      → WritesContent r (content_text (cell_line owed bytes found before ∷ []))
      (read_content r false (inline_content r.tables.is_punctuation after (own_lines (cell_line owed bytes found before ∷ [])))) entered texted)
      → ((line : List ℕ) → StandsInLine text line texted → ExitsInLine text n.GfmTableCellText line texted new) → standing new ≡ standing texted
      → WritesInCell r text (cell (replicate owed 256 ++ bytes) before after) behind ending left old new
  in_cell_written old begun entered texted new owed bytes found before after b begins same few out enters stays content exits leaves =
      let codes = replicate owed 256 ++ bytes in
      let small = front_small bytes behind (before_small text (bytes ++ behind) ending left old b) in
      let dark = dark_front bytes behind b.dark in
      let stop = stop_before ending left behind in
      let e = part_entered text ending left behind old begun entered n.GfmTableCellText owed bytes b begins same few enters stays in
      let place : entered.place ≡ owed = e.place ∙ out.0 in
      let all : content_text (cell_line owed bytes found before ∷ []) ≡ map code_byte codes = text_is codes found before in
      let ahead : drop entered.place (content_text (cell_line owed bytes found before ∷ [])) ≡ bytes =
      ap₂ (λ (k : ℕ) xs. drop k xs) place all ∙ dropped owed bytes small in
      let within : entered.place ≤ prefix_len is_white (content_text (cell_line owed bytes found before ∷ [])) =
      subst (λ (xs : List ℕ). entered.place ≤ prefix_len is_white xs) (sym all)
      (subst (λ (k : ℕ). k ≤ prefix_len is_white (map code_byte codes)) (sym place) (white_columns owed bytes)) in
      let is = read_content r false (inline_content r.tables.is_punctuation after (own_lines (cell_line owed bytes found before ∷ []))) in
      let w = content (no_ending owed bytes small dark) text stop (subst (λ (xs : List ℕ). StandsInContent text xs stop entered) (sym ahead) e.stands) within in
      let inside : WritesInContent text bytes w.nodes [] stop entered texted =
      subst (λ (xs : List ℕ). WritesInContent text xs w.nodes [] stop entered texted) ahead w.writes in
      let parts = content_is r.tables.is_punctuation before after codes found in
      let node = Around (enter_at text n.GfmTableCellText (end_in old.out)) w.nodes (exit_at text n.GfmTableCellText (end_in texted.out)) in
      record {
        nodes = one node;
        writes = part_left text ending left behind old begun entered texted new n.GfmTableCellText bytes w.nodes b out.1 same e inside exits leaves;
        spells = λ m m' are.
            alike_parts_compose.in_cells m m' (inlines (context_of r) (with_kinds r.tables.is_punctuation None before after (map code_byte codes)))
            (inlines_of r.tables.names text false w.nodes)
            (subst (λ c. ArePartsAlike m m' (inlines (context_of r) c) (inlines_of r.tables.names text false w.nodes)) parts (w.spells m m' are));
        in_row = record {
          definitions = ap (λ (xs : List Node). xs ++ []) w.plain.definitions;
          columns = ap (λ (xs : List Node). xs ++ []) w.plain.columns;
        };
        fill = cell_text node refl (w.fill Spaces (ap (list_any ends_line) ahead ∙ dark));
        sound = sound_one r.parse.constructs r.tables.names text node (sound_around r.parse.constructs r.tables.names text node refl w.sound);
      }
