-- The cells of a row are written, each with the bar after it.
use Rattle.std.proofs.Common.{◌≡◌, ℕ, zero, suc, ◌+◌, ◌<◌, Bool, true, false, List, [], ◌∷◌, ◌++◌, Option, None, Some, drop, get_or, length, length-take, map, replicate, take, inl, inr, refl, sym, ap, ap₂, subst, ◌∙◌, arith, append_assoc, eq-eqb, eqb}
use Rattle.parse_tables.proofs.Prelude.{after_first_bar, and_parts, append, append-nil, AreCellsOf, ArePartsAlike, Around, bytes_of, cases_Bool, Cell}
use Rattle.parse_tables.proofs.Prelude.{code_byte, cond-false, cond-true, cond_both, Constructs, context_of, drop-drop, end_at, end_in, enter_at, Err, exit_at}
use Rattle.parse_tables.proofs.Prelude.{get_or-drop, is_blank, is_white, IsBefore, Kind, LineEnding, LineRest, list_all, Name, ne_eqb, Nil, Node, Ok, one}
use Rattle.parse_tables.proofs.Prelude.{OnOk, piece_bytes, prefix_len, prefix_len-le-length, read_cell, Reading, Result, slice_index, standing, tab_column}
use Rattle.parse_tables.proofs.Prelude.{take-append-drop, void_cases, void_nodes, Walk, with_kinds, WritesFirstBar, WritesFirstCellsHere, WritesInCell}
use Rattle.parse_tables.proofs.Prelude.{WritesInCellHere, WritesTo, WritesUpTo, written_to}
use Rattle.parse_lines.proofs.White.{all_prefix}
use Rattle.std.specs.Prelude.{◌^◌}
use Rattle.markdown_options.specs.declared.beside.Kind.TheVariants.{Punctuation}
use Rattle.definition_text.specs.InlineCode.{InlineCode, first_kind, inline_code, next_kind}
use Rattle.definition_inline.specs.GfmAutolinkLiteral.{linked_literals, with_literals}
use Rattle.definition_inline.specs.Inline as inline
use Rattle.definition_inline.specs.Scan.{inlines_from, without_indent}
use Rattle.definition_page.specs.GfmTable.{in_cell}
use Rattle.engine_events.specs.declared.event.Name.TheVariants as n
use Rattle.event_grammar.specs.declared.slot.Between.TheVariants.{Spaces}
use Rattle.event_grammar.specs.declared.slot.Form.TheVariants.{Plain}
use Rattle.event_meaning.specs.Texts.{text_within}
use Rattle.parse_slots.proofs.Steps.{fill_both, fill_none}
use Rattle.parse_references.proofs.Sound.{sound_around, sound_both, sound_one, void_sound}
use Rattle.parse_leaves.proofs.Fills.{filled_up}
use Rattle.parse_tables.proofs.Steps.{IsEntered, IsExited, IsToken, around_written, before_both, before_none, token_written}
use Rattle.parse_tables.specs.Cells.{WritesCell, WritesCellHere, WritesFirstCells, cells_row}
use Rattle.parse_tables.proofs.Fills.{bar_part, cell_part, cell_space, space_part}
use Rattle.parse_tables.proofs.CellNodes.{children_both, children_void, in_row_both, in_row_none, in_row_void, spell_after, spell_both, spell_one}

-- ---- a cell of white space has no text

byte_white : (c : ℕ) → is_white c ≡ true → is_white (code_byte c) ≡ true
byte_white c w = elim (cases_Bool (eqb c 256)) [
  | inl h ↦ ap is_white (cond-true (eqb c 256) 32 c h)
  | inr h ↦ ap is_white (cond-false (eqb c 256) 32 c h) ∙ w
]

white_kinds : (is_punctuation : ℕ → Bool) (previous : Option ℕ) (before after : Kind) (codes : List ℕ) → list_all is_white codes ≡ true
    → without_indent (with_kinds is_punctuation previous before after (map code_byte codes)) ≡ []
white_kinds is_punctuation previous before after [] h = refl
white_kinds is_punctuation previous before after (c ∷ cs) h =
    let both = and_parts (is_white c) (list_all is_white cs) h in
    let b = code_byte c in
    let bs = map code_byte cs in
    let first = inline_code b previous before (first_kind is_punctuation after bs) in
    let others = with_kinds is_punctuation (Some b) (next_kind is_punctuation before (b ∷ bs)) after bs in
    let white = λ (x : InlineCode). is_white x.code in
    let size : prefix_len white (first ∷ others) ≡ suc (prefix_len white others) =
    cond-true (is_white b) (1 + prefix_len white others) 0 (byte_white c both.0) ∙ omega arith in
    ap (λ (k : ℕ). drop k (first ∷ others)) size
    ∙ white_kinds is_punctuation (Some b) (next_kind is_punctuation before (b ∷ bs)) after cs both.1

nothing_linked : (on : Constructs) → linked_literals on inline.Nil ≡ inline.Nil
nothing_linked on = cond_both on.gfm_autolink_literal (with_literals [] inline.Nil) inline.Nil (λ is. is ≡ inline.Nil) (λ _. refl) (λ _. refl)

blank_reads : (r : Reading) (c : Cell) → is_blank c.codes ≡ true → read_cell r c ≡ inline.Nil
blank_reads r c blank =
    ap (λ (content : List InlineCode). in_cell (inlines_from (context_of r) content))
    (white_kinds r.tables.is_punctuation None c.before c.after c.codes blank)
    ∙ ap in_cell (nothing_linked r.parse.constructs)

-- what a call writes that takes so many bytes
pub token_ended : {T E A : Type 0} {name : Name} {size : ℕ} {a b : Walk A} {R : Type 0} (r : Result T E) → OnOk r (standing b ≡ standing a)
    → OnOk r ((written_to a).index + size < 2 ^ 64 → written_to b ≡ end_at ((written_to a).index + size) 0)
    → OnOk r ((written_to a).index + size < 2 ^ 64 → WritesUpTo name (end_at ((written_to a).index + size) 0) a b)
    → (IsToken name size a b → R) → OnOk r R
token_ended (Ok t) stays end written f = f (record { stays = stays; end = end; written = written })
token_ended (Err e) stays end written f = tt

module _ {A : Type 0} (r : Reading) (text : List ℕ) (ending : Option LineEnding) (left : List LineRest) where
  pub blank_written : (old new : Walk A) (c : Cell) (bytes behind : List ℕ) → is_blank c.codes ≡ true → list_all is_white bytes ≡ true → IsToken n.SpaceOrTab (length bytes) old new
      → IsBefore text (bytes ++ behind) ending left old → WritesInCell r text c behind ending left old new
  blank_written old new c bytes behind blank white token before =
      let from = end_in old.out in
      let to = end_at (from.index + length bytes) 0 in
      let ns = void_nodes text n.SpaceOrTab from to in
      let nothing : text_within r.tables.names text false ns ≡ inline.Nil =
      void_cases (λ ms. text_within r.tables.names text false ms ≡ inline.Nil) text n.SpaceOrTab from to refl (λ _. refl) (λ _. refl) in
      record {
        nodes = ns;
        writes = token_written text ending left old new n.SpaceOrTab (length bytes) bytes behind token refl (λ some. white) before;
        spells = λ m m' are.
            subst (λ is. ArePartsAlike m m' is (in_cell (text_within r.tables.names text false ns))) (sym (blank_reads r c blank)) (ap in_cell nothing);
        in_row = in_row_void text n.SpaceOrTab from to refl refl refl;
        fill = cell_space text from to;
        sound = void_sound r.parse.constructs r.tables.names text n.SpaceOrTab from to refl;
      }

  -- ---- a cell of a line

  pub cell_written : (old entered inside new : Walk A) (c : Cell) (bytes behind : List ℕ) → IsBefore text bytes ending left old
      → IsEntered n.GfmTableCell old entered → WritesInCell r text c behind ending left entered inside → IsExited n.GfmTableCell inside new
      → WritesCell r text c behind ending left old new
  cell_written old entered inside new c bytes behind before enters w exits =
      let node = Around (enter_at text n.GfmTableCell (end_in old.out)) w.nodes (exit_at text n.GfmTableCell (end_in inside.out)) in
      record {
        node = node;
        name = refl;
        filled = filled_up Spaces Plain n.GfmTableCell node refl w.fill;
        writes = around_written text ending left old entered inside new n.GfmTableCell bytes behind w.nodes before enters w.writes exits;
        spells = w.spells;
        in_row = record {
          definitions = append-nil _ ∙ w.in_row.definitions;
          columns = append-nil _ ∙ w.in_row.columns;
        };
        sound = sound_around r.parse.constructs r.tables.names text node refl w.sound;
      }

  -- with the bar after it
  pub cell_and_bar : (old mid new : Walk A) (c : Cell) (cs : List Cell) (rest : List ℕ) → AreCellsOf cs rest
      → WritesCell r text c (124 ∷ rest) ending left old mid
      → IsToken n.GfmTableCellDivider 1 mid new → WritesFirstCells r text (c ∷ cs) cs ending left old new
  cell_and_bar old mid new c cs rest ahead w token =
      let from = end_in mid.out in
      let to = end_at (from.index + 1) 0 in
      let bar = void_nodes text n.GfmTableCellDivider from to in
      record {
        done = c ∷ [];
        all = refl;
        behind = rest;
        ahead = ahead;
        nodes = append (one w.node) bar;
        writes =
            before_both text ending left old mid new (124 ∷ rest) rest (one w.node) bar w.writes
            (token_written text ending left mid new n.GfmTableCellDivider 1 (124 ∷ []) rest token refl (λ some. refl) w.writes.before);
        spell = spell_after r text (c ∷ []) (one w.node) bar (children_void text n.GfmTableCell n.GfmTableCellDivider from to refl refl)
            (spell_one r text c w.node w.name w.spells);
        in_row = in_row_both (one w.node) bar w.in_row (in_row_void text n.GfmTableCellDivider from to refl refl refl);
        fill = fill_both (cell_part w.node w.name w.filled) (bar_part text from to);
        sound =
            sound_both r.parse.constructs r.tables.names text (one w.node) bar (sound_one r.parse.constructs r.tables.names text w.node w.sound)
            (void_sound r.parse.constructs r.tables.names text n.GfmTableCellDivider from to refl);
      }

  -- with none, as the last one
  pub cell_alone : (old new : Walk A) (c : Cell) → WritesCell r text c [] ending left old new → WritesFirstCells r text (c ∷ []) [] ending left old new
  cell_alone old new c w =
      record {
        done = c ∷ [];
        all = refl;
        behind = [];
        ahead = refl;
        nodes = one w.node;
        writes = w.writes;
        spell = spell_one r text c w.node w.name w.spells;
        in_row = w.in_row;
        fill = cell_part w.node w.name w.filled;
        sound = sound_one r.parse.constructs r.tables.names text w.node w.sound;
      }

  -- ---- cells, one after another

  pub no_cells : (w : Walk A) (cs : List Cell) (bytes : List ℕ) → AreCellsOf cs bytes → IsBefore text bytes ending left w
      → WritesFirstCells r text cs cs ending left w w
  no_cells w cs bytes are before =
      record {
        done = [];
        all = refl;
        behind = bytes;
        ahead = are;
        nodes = Nil;
        writes = before_none text ending left w bytes before;
        spell = λ m m' are. tt;
        in_row = in_row_none;
        fill = fill_none Spaces cells_row;
        sound = tt;
      }

  pub more_cells : (old now new : Walk A) (cs mid last : List Cell) → WritesFirstCells r text cs mid ending left old now
      → WritesFirstCellsHere r mid last now new → WritesFirstCells r text cs last ending left old new
  more_cells old now new cs mid last first next =
      let second = next text first.behind ending left first.ahead first.writes.before in
      record {
        done = first.done ++ second.done;
        all = first.all ∙ ap (λ (xs : List Cell). first.done ++ xs) second.all ∙ sym (append_assoc first.done second.done last);
        behind = second.behind;
        ahead = second.ahead;
        nodes = append first.nodes second.nodes;
        writes = before_both text ending left old now new first.behind second.behind first.nodes second.nodes first.writes second.writes;
        spell = spell_both r text first.done second.done first.nodes second.nodes first.spell second.spell;
        in_row = in_row_both first.nodes second.nodes first.in_row second.in_row;
        fill = fill_both first.fill second.fill;
        sound = sound_both r.parse.constructs r.tables.names text first.nodes second.nodes first.sound second.sound;
      }

-- some of the cells are written
module _ {A : Type 0} (r : Reading) (old : Walk A) where
  pub no_cells_yet : (cs : List Cell) → WritesFirstCellsHere r cs cs old old
  no_cells_yet cs = λ text bytes ending left are before. no_cells r text ending left old cs bytes are before

  pub cells_so_far : (now new : Walk A) (cs mid : List Cell) (c : Cell) (last : List Cell) → mid ≡ c ∷ last → WritesFirstCellsHere r cs mid old now
      → WritesFirstCellsHere r (c ∷ last) last now new → WritesFirstCellsHere r cs last old new
  cells_so_far now new cs mid c last is first next = λ text bytes ending left are before.
      more_cells r text ending left old now new cs (c ∷ last) last
      (subst (λ (xs : List Cell). WritesFirstCells r text cs xs ending left old now) is (first text bytes ending left are before)) next

  pub all_cells : (new : Walk A) (cs last : List Cell) → last ≡ [] → WritesFirstCellsHere r cs last old new → WritesFirstCellsHere r cs [] old new
  all_cells new cs last none first = subst (λ (xs : List Cell). WritesFirstCellsHere r cs xs old new) none first

-- what is in a cell, by its columns of a tab and its bytes
module _ (r : Reading) (c : Cell) (owed : ℕ) (bytes : List ℕ) (is : c.codes ≡ replicate owed tab_column ++ bytes)
    (small : (k : ℕ) → get_or bytes k 0 < 256) where
  own_bytes : bytes_of c.codes ≡ bytes
  own_bytes = ap bytes_of is ∙ piece_bytes owed bytes small

  columns_blank : (k : ℕ) → is_blank bytes ≡ true → is_blank (replicate k tab_column ++ bytes) ≡ true
  columns_blank zero blank = blank
  columns_blank (suc k) blank = columns_blank k blank

  pub in_blank_cell : {A : Type 0} (old new : Walk A) → is_blank bytes ≡ true → IsToken n.SpaceOrTab (length bytes) old new
      → WritesInCellHere r c (bytes_of c.codes) old new
  in_blank_cell old new blank token = λ text behind ending left before.
      blank_written r text ending left old new c bytes behind (ap is_blank is ∙ columns_blank owed blank) blank token
      (subst (λ (xs : List ℕ). IsBefore text (xs ++ behind) ending left old) own_bytes before)

  pub in_filled_cell : {A : Type 0} (old new : Walk A) → WritesInCellHere r c bytes old new → WritesInCellHere r c (bytes_of c.codes) old new
  in_filled_cell old new written = subst (λ (xs : List ℕ). WritesInCellHere r c xs old new) (sym own_bytes) written

-- a cell where it is first, with the bar or without
module _ {A : Type 0} (r : Reading) (c : Cell) (cs : List Cell) where
  pub first_with_bar : (old mid new : Walk A) → c.after ≡ Punctuation → WritesCellHere r c old mid → IsToken n.GfmTableCellDivider 1 mid new
      → WritesFirstCellsHere r (c ∷ cs) cs old new
  first_with_bar old mid new is cell token = λ text bytes ending left are before. by_bytes text bytes ending left are before
    where
      by_bytes : (text bytes : List ℕ) (ending : Option LineEnding) (left : List LineRest) → AreCellsOf (c ∷ cs) bytes → IsBefore text bytes ending left old
          → WritesFirstCells r text (c ∷ cs) cs ending left old new
      by_bytes text bytes ending left (inl last) before = let other = last.0 in absurd (cc)
      by_bytes text bytes ending left (inr more) before =
          cell_and_bar r text ending left old mid new c cs more.1 more.3
          (cell text (124 ∷ more.1) ending left (subst (λ (xs : List ℕ). IsBefore text xs ending left old) more.2 before)) token

  pub first_alone : (old new : Walk A) → (c.after ≡ Punctuation → ⊥) → WritesCellHere r c old new → WritesFirstCellsHere r (c ∷ cs) cs old new
  first_alone old new other cell = λ text bytes ending left are before. by_bytes text bytes ending left are before
    where
      by_bytes : (text bytes : List ℕ) (ending : Option LineEnding) (left : List LineRest) → AreCellsOf (c ∷ cs) bytes → IsBefore text bytes ending left old
          → WritesFirstCells r text (c ∷ cs) cs ending left old new
      by_bytes text bytes ending left (inr more) before = absurd (other more.0)
      by_bytes text bytes ending left (inl last) before =
          subst (λ (xs : List Cell). WritesFirstCells r text (c ∷ xs) xs ending left old new) (sym last.1)
          (cell_alone r text ending left old new c
          (cell text [] ending left
          (subst (λ (xs : List ℕ). IsBefore text xs ending left old) (last.2 ∙ sym (append-nil (bytes_of c.codes))) before)))

-- ---- the bar before the first cell

module _ {A : Type 0} (bytes : List ℕ) (white : ℕ) (is : white ≡ prefix_len is_white bytes) where
  -- there is none
  pub no_first_bar : (w : Walk A) → (slice_index (drop white bytes) 0 ≡ 124 → ⊥) → WritesFirstBar bytes w w
  no_first_bar w other = λ text ending left before.
      let here : slice_index (drop white bytes) 0 ≡ slice_index bytes (prefix_len is_white bytes) =
      get_or-drop white bytes 0 0 ∙ ap (slice_index bytes) (omega (arith, is)) in
      let none : after_first_bar bytes ≡ bytes =
      cond-false (eqb (slice_index bytes (prefix_len is_white bytes)) 124) (drop (prefix_len is_white bytes + 1) bytes) bytes
      (ne_eqb (slice_index bytes (prefix_len is_white bytes)) 124 (λ bar. other (here ∙ bar))) in
      record {
        nodes = Nil;
        writes = before_none text ending left w (after_first_bar bytes) (subst (λ (xs : List ℕ). IsBefore text xs ending left w) (sym none) before);
        no_cell = refl;
        in_row = in_row_none;
        fill = fill_none Spaces cells_row;
        sound = λ on names. tt;
      }

  -- white space, and the bar
  pub first_bar : (old mid new : Walk A) → slice_index (drop white bytes) 0 ≡ 124 → IsToken n.SpaceOrTab white old mid
      → IsToken n.GfmTableCellDivider 1 mid new → WritesFirstBar bytes old new
  first_bar old mid new bar space divider = λ text ending left before.
      let rest = drop (white + 1) bytes in
      let within = prefix_len-le-length is_white bytes in
      let size : white ≡ length (take white bytes) = omega (arith, length-take white bytes, is, within) in
      let ahead : drop white bytes ≡ 124 ∷ rest =
      first_is (drop white bytes) 124 bar (omega arith) ∙ ap (λ (xs : List ℕ). 124 ∷ xs) (drop-drop 1 white bytes) in
      let split : bytes ≡ take white bytes ++ 124 ∷ rest =
      sym (take-append-drop white bytes) ∙ ap (λ (xs : List ℕ). take white bytes ++ xs) ahead in
      let here : slice_index bytes (prefix_len is_white bytes) ≡ 124 =
      ap (slice_index bytes) (omega (arith, is)) ∙ sym (get_or-drop white bytes 0 0) ∙ bar in
      let after : after_first_bar bytes ≡ rest =
      cond-true (eqb (slice_index bytes (prefix_len is_white bytes)) 124) (drop (prefix_len is_white bytes + 1) bytes) bytes
      (eq-eqb (slice_index bytes (prefix_len is_white bytes)) 124 here)
      ∙ ap (λ (k : ℕ). drop (k + 1) bytes) (sym is) in
      let first = token_written text ending left old mid n.SpaceOrTab white (take white bytes) (124 ∷ rest) space size
      (λ some. all_prefix is_white white bytes (omega (arith, is)))
      (subst (λ (xs : List ℕ). IsBefore text xs ending left old) split before) in
      let second = token_written text ending left mid new n.GfmTableCellDivider 1 (124 ∷ []) rest divider refl (λ some. refl) first.before in
      let start = end_in old.out in
      let there = end_at (start.index + white) 0 in
      let at_bar = end_in mid.out in
      let after_bar = end_at (at_bar.index + 1) 0 in
      let ns = void_nodes text n.SpaceOrTab start there in
      let ms = void_nodes text n.GfmTableCellDivider at_bar after_bar in
      record {
        nodes = append ns ms;
        writes = subst (λ (xs : List ℕ). WritesTo text xs ending left (append ns ms) old new) (sym after)
            (before_both text ending left old mid new (124 ∷ rest) rest ns ms first second);
        no_cell = children_both n.GfmTableCell ns ms
            ∙ ap₂ (λ (xs ys : List Node). xs ++ ys) (children_void text n.GfmTableCell n.SpaceOrTab start there refl refl)
            (children_void text n.GfmTableCell n.GfmTableCellDivider at_bar after_bar refl refl);
        in_row = in_row_both ns ms (in_row_void text n.SpaceOrTab start there refl refl refl)
            (in_row_void text n.GfmTableCellDivider at_bar after_bar refl refl refl);
        fill = fill_both (space_part text start there) (bar_part text at_bar after_bar);
        sound = λ on names.
            sound_both on names text ns ms (void_sound on names text n.SpaceOrTab start there refl)
            (void_sound on names text n.GfmTableCellDivider at_bar after_bar refl);
      }
    where
      first_is : (xs : List ℕ) (b : ℕ) → slice_index xs 0 ≡ b → 0 < b → xs ≡ b ∷ drop 1 xs
      first_is [] b is some = absurd (omega (arith, is, some))
      first_is (x ∷ xs) b is some = ap (λ (y : ℕ). y ∷ xs) is
