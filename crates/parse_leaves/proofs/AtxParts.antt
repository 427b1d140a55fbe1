-- The parts of a heading by `#`, as they are written (CommonMark 4.2).
use Rattle.std.proofs.Common.{◌≡◌, ℕ, ◌+◌, ◌<◌, ◌≤◌, false, List, [], ◌∷◌, ◌++◌, Option, None, refl, sym, ap, ap₂, ◌∙◌, inl, inr, subst, length, length-append, map, replicate, take, drop, arith}
use Rattle.parse_leaves.proofs.Prelude.{all_on, append, append-nil, AreNext, ArePartsAlike, Around, AtEnding, block_line, cases_Bool, code_byte, cond-false}
use Rattle.parse_leaves.proofs.Prelude.{cond-true, Constructs, content_text, End, end_at, end_in, ends_line, enter_at, exit_at, indent, inline_content}
use Rattle.parse_leaves.proofs.Prelude.{is_tab_column, IsOnLine, LineEnding, LineRest, list_any, named, Names, Nil, Node, Nodes, NoInlines, on_line_both, one}
use Rattle.parse_leaves.proofs.Prelude.{or_parts, own_lines, Piece, piece_line, read_content, read_text, Reading, some_on, Standing, standing, StandsInContent}
use Rattle.parse_leaves.proofs.Prelude.{Stop, tab_column, text_within, ToCall, TokenCall, tokens, Walk, whole_end, Writes, WritesClosing, WritesContentIn}
use Rattle.parse_leaves.proofs.Prelude.{WritesHeadingText, WritesOnLine, written_to}
use Rattle.parse_leaves.proofs.Prelude.{is_white, number_sign, run}
use Rattle.std.proofs.Common.{true}
use Rattle.std.specs.List.{list_all}
use Rattle.std.specs.Prelude.{codes}
use Rattle.definition_text.specs.Runs.{after_run}
use Rattle.parse_lines.proofs.Runs.{run_fits}
use Rattle.markdown_options.specs.declared.beside.Kind.TheVariants.{Whitespace}
use Rattle.engine_events.specs.declared.event.Name.TheVariants as n
use Rattle.definition_inline.specs.GfmAutolinkLiteral.{linked_literals, with_literals}
use Rattle.event_grammar.specs.declared.slot.Between.TheVariants.{Spaces}
use Rattle.event_grammar.specs.declared.slot.Form.TheVariants.{Plain}
use Rattle.event_grammar.specs.Grammar.{opt}
use Rattle.parse_output.proofs.Written.{writes_none}
use Rattle.parse_slots.proofs.Steps.{fill_none, fill_taken}
use Rattle.parse_references.proofs.Sound.{sound_full}
use Rattle.parse_lines.proofs.SomeNodes.{some_of}
use Rattle.parse_lines.specs.Content.{BeginsLineHere}
use Rattle.parse_lines.proofs.Ahead.{next_after}
use Rattle.parse_lines.proofs.Parts.{part_begins, same_line}
use Rattle.parse_raw.proofs.LineTokens.{after_first}
use Rattle.parse_leaves.specs.Atx.{atx_rest}
use Rattle.parse_leaves.proofs.Fills.{closing_fill, text_filled}
use Rattle.parse_leaves.proofs.Underlines.{named_pair, space_named}

pub hash_named : (text : List ℕ) (index : ℕ) (front : List ℕ) → named n.Definition (tokens text n.HeadingAtxSequence index front) ≡ []
hash_named text index [] = refl
hash_named text index (b ∷ bs) = refl

-- tokens have no text in them
pub space_within : (names : Names) (text : List ℕ) (index : ℕ) (front : List ℕ) (others : Nodes)
    → text_within names text false (append (tokens text n.SpaceOrTab index front) others) ≡ text_within names text false others
space_within names text index [] others = refl
space_within names text index (b ∷ bs) others = refl

pub hash_within : (names : Names) (text : List ℕ) (index : ℕ) (front : List ℕ) (others : Nodes)
    → text_within names text false (append (tokens text n.HeadingAtxSequence index front) others) ≡ text_within names text false others
hash_within names text index [] others = refl
hash_within names text index (b ∷ bs) others = refl

space_alone : (names : Names) (text : List ℕ) (index : ℕ) (front : List ℕ) → text_within names text false (tokens text n.SpaceOrTab index front) ≡ NoInlines
space_alone names text index [] = refl
space_alone names text index (b ∷ bs) = refl

module _ {A : Type 0} (text : List ℕ) (ending : Option LineEnding) (left : List LineRest) where
  -- what follows the text
  pub closing_written : (old a b new : Walk A) (bytes : List ℕ) (k : ℕ) → k ≤ length (drop (indent bytes) bytes)
      → k ≡ run number_sign (drop (indent bytes) bytes) → list_all is_white (after_run number_sign (drop (indent bytes) bytes)) ≡ true
      → WritesOnLine text ending left (tokens text n.SpaceOrTab (written_to old).index (take (indent bytes) bytes)) (drop (indent bytes) bytes) old a
      → TokenCall n.HeadingAtxSequence k a b → ToCall n.SpaceOrTab (end_at b.line_end 0) b new → WritesClosing text ending left old new
  closing_written old a b new bytes k few sized white first token to_end =
      let front = take (indent bytes) bytes in
      let rest = drop (indent bytes) bytes in
      let second = some_on text ending left a b n.HeadingAtxSequence rest k refl
      (λ some. run_fits (codes "#") number_sign rest k refl some (omega (arith, sized))) few token first.on in
      let last = drop k rest in
      let third = all_on text ending left b new n.SpaceOrTab last refl (ap (λ (i : ℕ). list_all is_white (drop i rest)) sized ∙ white) to_end second.on in
      let ns = tokens text n.SpaceOrTab (written_to old).index front in
      let hs = tokens text n.HeadingAtxSequence (written_to a).index (take k rest) in
      let ss = tokens text n.SpaceOrTab (written_to b).index last in
      record {
        nodes = append ns (append hs ss);
        line =
            on_line_both text ending left rest [] ns (append hs ss) old a new first
            (on_line_both text ending left last [] hs ss a b new second third);
        none = λ names.
            space_within names text (written_to old).index front (append hs ss)
            ∙ hash_within names text (written_to a).index (take k rest) ss ∙ space_alone names text (written_to b).index last;
        definitions =
            named_pair ns (append hs ss) (space_named text (written_to old).index front)
            (named_pair hs ss (hash_named text (written_to a).index (take k rest)) (space_named text (written_to b).index last));
        fill = λ slots takes.
            closing_fill slots text (written_to old).index (written_to a).index (written_to b).index front (take k rest) last takes;
      }

-- ---- the text

bytes_stay : (bs : List ℕ) → list_any is_tab_column bs ≡ false → map code_byte bs ≡ bs
bytes_stay [] none = refl
bytes_stay (b ∷ bs) none =
    let parts = or_parts (is_tab_column b) (list_any is_tab_column bs) none in
    ap (λ c. c ∷ map code_byte bs) (cond-false (is_tab_column b) 32 b parts.0) ∙ ap (λ cs. b ∷ cs) (bytes_stay bs parts.1)

-- the content of a piece without columns of a tab before it
pub piece_content : (piece : Piece) → piece.owed ≡ 0 → list_any is_tab_column piece.text.now ≡ false → content_text (piece_line piece ∷ []) ≡ piece.text.now
piece_content piece none bytes =
    append-nil (map code_byte (replicate piece.owed tab_column ++ piece.text.now) ++ [])
    ∙ append-nil (map code_byte (replicate piece.owed tab_column ++ piece.text.now))
    ∙ ap (λ k. map code_byte (replicate k tab_column ++ piece.text.now)) none ∙ bytes_stay piece.text.now bytes

no_literals : (on : Constructs) → linked_literals on NoInlines ≡ NoInlines
no_literals on = elim (cases_Bool on.gfm_autolink_literal) [
  | inl holds ↦ cond-true on.gfm_autolink_literal (with_literals [] NoInlines) NoInlines holds
  | inr fails ↦ cond-false on.gfm_autolink_literal (with_literals [] NoInlines) NoInlines fails
]

-- an empty text has no parts
pub empty_text : (r : Reading) (piece : Piece) → piece.owed ≡ 0 → piece.text.now ≡ [] → read_text r (own_lines (piece_line piece ∷ [])) ≡ NoInlines
empty_text r piece none empty =
    ap (λ codes. read_text r (block_line codes None piece.before ∷ [])) (ap (λ k. replicate k tab_column ++ piece.text.now) none ∙ empty)
    ∙ no_literals r.parse.constructs

module _ {A : Type 0} (text : List ℕ) (ending : Option LineEnding) (left : List LineRest) (behind : List ℕ) where
  pub no_heading_text : (r : Reading) (piece : Piece) (old : Walk A) → piece.owed ≡ 0 → piece.text.now ≡ []
      → IsOnLine text ending left (piece.text.now ++ behind) old
      → WritesHeadingText r.parse.constructs r.tables.names text (read_text r (own_lines (piece_line piece ∷ []))) ending left behind old old
  no_heading_text r piece old none empty on = record {
    nodes = Nil;
    line = record {
      writes = writes_none text old.out on.before.order;
      on = subst (λ bs. IsOnLine text ending left (bs ++ behind) old) empty on;
      around = (refl, refl);
    };
    spells = λ others no m m' means.
        subst (λ is. ArePartsAlike m m' is (text_within r.tables.names text false others)) (sym (empty_text r piece none empty)) no;
    definitions = refl;
    fill = record { rest = atx_rest; fill = fill_none Spaces atx_rest; ends = record { sequence = refl; space = refl; may = refl } };
    sound = tt;
  }

  pub heading_text : (r : Reading) (piece : Piece) (old mid new : Walk A) → piece.owed ≡ 0 → 0 < length piece.text.now
      → list_any is_tab_column piece.text.now ≡ false
      → list_any ends_line piece.text.now ≡ false
      → IsOnLine text ending left (piece.text.now ++ behind) old → standing mid ≡ standing old → BeginsLineHere old mid
      → (mid.place ≡ 0) × (mid.out ≡ old.out)
      → WritesContentIn r n.HeadingAtxText (content_text (piece_line piece ∷ []))
      (read_content r false (inline_content r.tables.is_punctuation Whitespace (own_lines (piece_line piece ∷ [])))) mid new
      → WritesHeadingText r.parse.constructs r.tables.names text (read_text r (own_lines (piece_line piece ∷ []))) ending left behind old new
  heading_text r piece old mid new none holds bytes dark on same begun begins writes =
      let content = piece.text.now in
      let ls = piece_line piece ∷ [] in
      let stop : Stop = record { place = AtEnding ending left; behind = length behind } in
      let size = length-append content behind in
      let started =
      part_begins text ending left 0 old mid content behind (λ t line order next small few. begun t line order next small (omega (arith, few))) same
      (omega arith) on.at on.before.order on.before.next on.before.whole on.end dark in
      let is_content : content ≡ content_text ls = sym (piece_content piece none bytes) in
      let stands : StandsInContent text (drop mid.place (content_text ls)) stop mid =
      subst (λ k. StandsInContent text (drop k (content_text ls)) stop mid) (sym begins.0)
      (subst (λ bs. StandsInContent text bs stop mid) is_content started.0) in
      let t = writes text stop stands (omega (arith, begins.0)) in
      let line_end : old.line_end ≡ new.line_end = same_line text ending left (standing old) (standing new) on.at t.at in
      let index : (end_in new.out).index ≡ (end_in old.out).index + length content = omega (arith, t.index, line_end, on.end, size) in
      let next : AreNext text (end_in new.out) behind =
      subst (λ (e : End). AreNext text e behind)
      (after_first (end_in old.out) (length content) on.before.whole ∙ ap (λ k. end_at k 0) (sym index) ∙ sym (whole_end (end_in new.out) t.whole))
      (next_after text content behind (end_in old.out) on.before.next) in
      let front : drop mid.place (content_text ls) ≡ content = ap₂ (λ (k : ℕ) bs. drop k bs) begins.0 (sym is_content) in
      let whole : (end_in mid.out).owed ≡ 0 = ap (λ o. (end_in o).owed) begins.1 ∙ on.before.whole in
      let some = some_of text (drop mid.place (content_text ls)) t.nodes (subst (λ bs. 0 < length bs) (sym front) holds)
      (t.has_text false (λ owes. absurd (omega (arith, whole, owes)))) in
      let node = Around (enter_at text n.HeadingAtxText t.from) t.nodes (exit_at text n.HeadingAtxText t.to) in
      let closing_row = opt n.HeadingAtxSequence ∷ [] in
      record {
        nodes = one node;
        line = record {
          writes = subst (λ o. Writes text o new.out (one node)) begins.1 t.writes;
          on = record {
            before = record { order = t.writes.order; whole = t.whole; next = next; size = on.before.size };
            at = t.at;
            end = t.index;
          };
          around =
              (t.around.0 ∙ ap (λ (s : Standing). s.on) same, t.around.1 ∙ ap (λ (s : Standing). s.outermost) same);
        };
        spells = λ others no m m' means. t.spells m m' means;
        definitions = ap (λ (ds : List Node). ds ++ []) t.plain.definitions;
        fill = record {
          rest = closing_row;
          fill =
              fill_taken Spaces atx_rest n.HeadingAtxText Plain closing_row node refl refl
              (text_filled Spaces n.HeadingAtxText node refl refl
              (t.fill Spaces (ap₂ (λ (k : ℕ) bs. list_any ends_line (drop k bs)) begins.0 (sym is_content) ∙ dark)));
          ends = record { sequence = refl; space = refl; may = refl };
        };
        sound = (sound_full r.parse.constructs r.tables.names text node refl refl some t.sound, tt);
      }
