-- What is written of a line ending with the spaces and tabs around it (CommonMark 6.8).
use Rattle.std.proofs.Common.{◌≡◌, ℕ, zero, suc, ◌≤◌, Bool, false, List, [], ◌∷◌, ◌++◌, refl, sym, ap, ap₂, subst, ◌∙◌, append_assoc, take, drop, length, arith}
use Rattle.std.proofs.Common.{true}
use Rattle.std.specs.List.{list_all}
use Rattle.markdown_options.specs.declared.configuration.Constructs.{Constructs}
use Rattle.parse_lines.proofs.Bytes.{has_kind}
use Rattle.parse_lines.proofs.White.{all_prefix}
use Rattle.parse_inline.proofs.Prelude.{after_bytes, after_tab, Anywhere, append, ArePlain, bare, Cons, contents_both, drop-append_seam, End, end_after}
use Rattle.parse_inline.proofs.Prelude.{end_at, end_in, ending_bytes, ends_line, indent, inlines_of, is_listed, is_white, leaves, length-take-le, line_end}
use Rattle.parse_inline.proofs.Prelude.{line_ending_code, line_in_content, LineEnd, LineEnding, list_any, Names, one, owed_indent, plain_both, plain_none}
use Rattle.parse_inline.proofs.Prelude.{plain_one, plain_quiet, plain_void, prefix_len-le-length, sought_names, standing, StandsInContent, Stop}
use Rattle.parse_inline.proofs.Prelude.{take-append-drop, void_nodes, Walk, WritesEndingIn, WritesFront, WritesInContent}
use Rattle.markdown_options.specs.declared.line_ending.LineEnding.TheVariants as endings
use Rattle.engine_events.specs.declared.event.Name.TheVariants as n
use Rattle.definition_inline.specs.Inline as inline
use Rattle.event_meaning.specs.Texts as texts
use Rattle.event_grammar.specs.declared.slot.Between.{Between}
use Rattle.event_grammar.specs.declared.slot.Between.TheVariants.{Lines}
use Rattle.event_grammar.specs.declared.slot.Slot.{Slot}
use Rattle.event_grammar.specs.Grammar.{text_row}
use Rattle.parse_slots.specs.Left.{Fill, TakesNoBetween}
use Rattle.parse_slots.proofs.Steps.{fill_both, may_both, may_lines}
use Rattle.parse_slots.proofs.Voids.{void_between}
use Rattle.parse_references.proofs.Sound.{sound_both, void_sound}
use Rattle.parse_lines.proofs.Quiet.{ending_fill}
use Rattle.parse_strings.proofs.SoundNodes.{ending_sound}
use Rattle.parse_strings.proofs.Texts.{white_dark}
use Rattle.parse_inline.proofs.Fills.{text_between}
use Rattle.parse_inline.proofs.Fronts.{WritesNext, quiet_spells, void_spells, white_spells}
use Rattle.parse_inline.proofs.LeavesAlike.{append_none, inlines_append}

-- ---- white space

-- the spaces and tabs that bytes begin with end no line
pub indent_dark : (bytes : List ℕ) → list_any ends_line (take (indent bytes) bytes) ≡ false
indent_dark bytes = white_dark (indent bytes) bytes (omega arith)

pub indent_parts : (bytes : List ℕ) → take (indent bytes) bytes ++ bare bytes ≡ bytes
indent_parts bytes = take-append-drop (indent bytes) bytes

pub indent_size : (bytes : List ℕ) → indent bytes ≡ length (take (indent bytes) bytes)
indent_size bytes = sym (length-take-le (indent bytes) bytes (prefix_len-le-length is_white bytes))

-- ---- where a tab is over

pub whole_after : (index owed count : ℕ) → owed ≤ count → (end_after (end_at index owed) count).owed ≡ 0
whole_after index zero count all = ap (λ (e : End). e.owed) (after_bytes index count)
whole_after index (suc owed) count all = ap (λ (e : End). e.owed) (after_tab index (suc owed) count (omega arith) all)

-- what follows the ending
pub rest_after : (bytes rest inner after : List ℕ) (ending : LineEnding) (before size : ℕ) → before ≡ indent bytes → size ≡ length (ending_bytes ending)
    → drop (indent bytes) bytes ≡ ending_bytes ending ++ rest → inner ≡ drop before bytes → after ≡ drop size inner → after ≡ rest
rest_after bytes rest inner after ending before size spaces is parts first second =
    second
    ∙ ap₂ (λ k (xs : List ℕ). drop k xs) is (first ∙ ap (λ k. drop k bytes) spaces ∙ parts)
    ∙ drop-append_seam (ending_bytes ending) rest

-- ---- the ending

pub ending_leaves : (e : LineEnding) → texts.append (texts.endings (ending_bytes e)) inline.Nil ≡ leaves (LineEnd (line_ending_code e) ∷ [])
ending_leaves endings.LineFeed = refl
ending_leaves endings.CarriageReturn = refl
ending_leaves endings.CarriageReturnLineFeed = refl

-- a line ends where bytes begin with an ending
pub ending_any : (e : LineEnding) (bytes : List ℕ) → list_any ends_line (ending_bytes e ++ bytes) ≡ true
ending_any endings.LineFeed bytes = refl
ending_any endings.CarriageReturn bytes = refl
ending_any endings.CarriageReturnLineFeed bytes = refl

-- white space comes first
pub indent_all : (bytes : List ℕ) → list_all is_white (take (indent bytes) bytes) ≡ true
indent_all bytes = all_prefix is_white (indent bytes) bytes (omega arith)

module _ {A : Type 0} (text : List ℕ) (stop : Stop) where
  -- white space
  pub space_in : (a b : Walk A) (bytes content : List ℕ) (size : ℕ) → size ≡ length bytes → list_any ends_line bytes ≡ false
      → list_all is_white bytes ≡ true → StandsInContent text (bytes ++ content) stop a → standing b ≡ standing a → WritesNext text n.SpaceOrTab size a b
      → WritesInContent text bytes (void_nodes text n.SpaceOrTab (end_in a.out) (end_after (end_in a.out) size)) content stop a b
      × (end_in b.out ≡ end_after (end_in a.out) (length bytes))
  space_in a b bytes content size is dark white st same written =
      let ahead = line_in_content text stop a bytes content st dark in
      let w = written bytes ahead.line is refl ahead.stands (has_kind text bytes ahead.line size a is_white is ahead.stands white) in
      (ahead.lifts _ b same w, w.end)

  -- a line ending by this name is plain, and spells itself
  pub ending_plain : (a b : Walk A) (ending : LineEnding) (content : List ℕ) (w : WritesEndingIn text n.LineEnding ending content stop a b)
      → ArePlain (Cons w.node w.quiet)
  ending_plain a b ending content w =
      plain_both (one w.node) w.quiet (plain_one w.node (ap (is_listed sought_names) w.named) (subst ArePlain (sym w.empty) plain_none))
      (plain_quiet w.quiet w.are_quiet)

  -- it stands between the children of a row
  pub ending_between : (a b : Walk A) (ending : LineEnding) (content : List ℕ) (w : WritesEndingIn text n.LineEnding ending content stop a b)
      → (slots : List Slot) → TakesNoBetween slots → Fill Lines slots (Cons w.node w.quiet) slots
  ending_between a b ending content w slots none =
      ending_fill slots n.LineEnding w.node w.quiet w.named w.empty none.ending refl refl none.space none.quote w.are_quiet

  ending_spells : (names : Names) (linked : Bool) (a b : Walk A) (ending : LineEnding) (content : List ℕ)
      (w : WritesEndingIn text n.LineEnding ending content stop a b)
      → inlines_of names text linked (Cons w.node w.quiet) ≡ leaves (LineEnd (line_ending_code ending) ∷ [])
  ending_spells names linked a b ending content w =
      inlines_append names text linked (one w.node) w.quiet
      ∙ ap₂ texts.append (void_spells names text linked n.LineEnding (ending_bytes ending) w.node w.named w.empty w.bytes ∙ ending_leaves ending)
      (quiet_spells names text linked w.quiet w.are_quiet)
      ∙ append_none (leaves (LineEnd (line_ending_code ending) ∷ []))

  pub line_end_front : (on : Constructs) (names : Names) (a b c d : Walk A) (bytes rest : List ℕ) (ending : LineEnding) (before after : ℕ) → before ≡ indent bytes
      → after ≡ indent rest
      → drop (indent bytes) bytes ≡ ending_bytes ending ++ rest → StandsInContent text bytes stop a → standing b ≡ standing a
      → WritesNext text n.SpaceOrTab before a b
      → (StandsInContent text (ending_bytes ending ++ rest) stop b → WritesEndingIn text n.LineEnding ending rest stop b c)
      → standing d ≡ standing c → WritesNext text n.SpaceOrTab after c d
      → WritesFront on names text (line_end bytes ending rest) (bare rest) Anywhere (LineEnd (line_ending_code ending) ∷ []) stop a d
  line_end_front on names a b c d bytes rest ending before after size later parts st same_b first ends same_d last =
      let white = take (indent bytes) bytes in
      let more = take (indent rest) rest in
      let eb = ending_bytes ending in
      let all : bytes ≡ white ++ (eb ++ rest) = sym (indent_parts bytes) ∙ ap (λ xs. white ++ xs) parts in
      let (w, e) =
      space_in a b white (eb ++ rest) before (size ∙ indent_size bytes) (indent_dark bytes) (indent_all bytes)
      (subst (λ xs. StandsInContent text xs stop a) all st) same_b first in
      let ended = ends w.stands in
      let at_more = subst (λ xs. StandsInContent text xs stop c) (sym (indent_parts rest)) ended.writes.stands in
      let (x, f) = space_in c d more (bare rest) after (later ∙ indent_size rest) (indent_dark rest) (indent_all rest) at_more same_d last in
      let a_end = end_in a.out in
      let b_end = end_after a_end before in
      let c_end = end_in c.out in
      let d_end = end_after c_end after in
      let v = void_nodes text n.SpaceOrTab a_end b_end in
      let u = void_nodes text n.SpaceOrTab c_end d_end in
      let ending_nodes = Cons ended.node ended.quiet in
      let joined : eb ++ rest ≡ (eb ++ more) ++ bare rest = ap (λ xs. eb ++ xs) (sym (indent_parts rest)) ∙ sym (append_assoc eb more (bare rest)) in
      let tail = contents_both text stop b c d eb more (bare rest) ending_nodes u
      (subst (λ xs. WritesInContent text eb ending_nodes xs stop b c) (sym (indent_parts rest)) ended.writes) x in
      record {
        nodes = append v (append ending_nodes u);
        writes = contents_both text stop a b d white (eb ++ more) (bare rest) v (append ending_nodes u)
            (subst (λ xs. WritesInContent text white v xs stop a b) joined w) tail;
        whole = ap (λ (y : End). y.owed) f
            ∙ whole_after (end_in c.out).index (end_in c.out).owed (length more)
            (subst (λ k. (end_in c.out).owed ≤ k) (indent_size rest) (owed_indent text stop c rest ended.writes.stands));
        plain = plain_both v (append ending_nodes u) (plain_void text n.SpaceOrTab a_end b_end refl refl)
            (plain_both ending_nodes u (ending_plain b c ending rest ended) (plain_void text n.SpaceOrTab c_end d_end refl refl));
        spells = λ linked may.
            inlines_append names text linked v (append ending_nodes u)
            ∙ ap₂ texts.append (white_spells names text linked a_end b_end)
            (inlines_append names text linked ending_nodes u
            ∙ ap₂ texts.append (ending_spells names linked b c ending rest ended) (white_spells names text linked c_end d_end)
            ∙ append_none (leaves (LineEnd (line_ending_code ending) ∷ [])));
        fill = λ around may.
            subst (λ (b : Between). Fill b text_row (append v (append ending_nodes u)) text_row)
            (sym (may_lines around (eb ++ more) (ending_any ending more) (may_both around white (eb ++ more) may).1))
            (fill_both (void_between Lines text_row n.SpaceOrTab text a_end b_end refl refl refl refl)
            (fill_both (ending_between b c ending rest ended text_row text_between)
            (void_between Lines text_row n.SpaceOrTab text c_end d_end refl refl refl refl)));
        sound =
            sound_both on names text v (append ending_nodes u) (void_sound on names text n.SpaceOrTab a_end b_end refl)
            (sound_both on names text ending_nodes u (ending_sound on names text ended.node ended.quiet ended.named ended.empty ended.are_quiet)
            (void_sound on names text n.SpaceOrTab c_end d_end refl));
      }
