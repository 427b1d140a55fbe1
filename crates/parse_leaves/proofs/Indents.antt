-- White space at the start of a content, as it is written (CommonMark 4.8).
use Rattle.std.proofs.Common.{◌≡◌, ℕ, zero, suc, ◌-◌, ◌≤◌, Bool, true, false, if◌then◌else◌, List, [], ◌∷◌, ◌++◌, Option, refl, sym, ap, ◌∙◌, inl, subst, length, take, drop, arith}
use Rattle.parse_leaves.proofs.Prelude.{AreNext, AreQuiet, Around, BlockLine, content_from, End, end_after, end_in, enter_at, exit_at, is_white, IsWhole}
use Rattle.parse_leaves.proofs.Prelude.{length-drop, length-take-le, line_in_content, LineEnding, Nil, same_name, standing, StandsInContent, StandsInLine}
use Rattle.parse_leaves.proofs.Prelude.{Stop, true≢false, void_nodes, Walk, without_white, WritesInLine, WritesWhite}
use Rattle.engine_events.specs.declared.event.Name.TheVariants.{BlockQuotePrefix, SpaceOrTab}
use Rattle.event_grammar.specs.Grammar.{text_row}
use Rattle.parse_output.specs.Ends.{same_end}
use Rattle.parse_output.specs.Forest.{cut}
use Rattle.parse_lines.specs.Content.{HasBytes, IsNext}
use Rattle.parse_slots.proofs.Steps.{may_space}
use Rattle.parse_slots.proofs.Voids.{void_between}
use Rattle.parse_lines.proofs.Bytes.{has_kind}
use Rattle.parse_leaves.proofs.Starts.{BeginsDark, start_dark, white_count, white_fits, white_front, white_in_line, white_parts}

pub void_quiet : (text : List ℕ) (from to : End) → AreQuiet (void_nodes text SpaceOrTab from to)
void_quiet text from to = one_or_none (same_end to from)
  where
    one_or_none : (same : Bool) → AreQuiet (if same then Nil else cut (Around (enter_at text SpaceOrTab from) Nil (exit_at text SpaceOrTab to)))
    one_or_none true = tt
    one_or_none false = (inl (refl, refl), tt)

no_columns : (text : List ℕ) (index owed b : ℕ) → IsNext text index owed b → is_white b ≡ false → owed ≡ 0
no_columns text index zero b next dark = refl
no_columns text index (suc owed) b next dark = absurd (true≢false (sym (ap is_white next.0) ∙ dark))

dark_first : (b : ℕ) (bs : List ℕ) (ending : Option LineEnding) (others : List BlockLine) → BeginsDark (content_from (b ∷ bs) ending others)
    → is_white b ≡ false
dark_first b bs ending [] dark = dark
dark_first b bs ending (next ∷ others) dark = dark

whole_line : (text line : List ℕ) (ending : Option LineEnding) (others : List BlockLine) (e : End) → BeginsDark (content_from line ending others)
    → AreNext text e line → e.owed ≤ length line → e.owed ≡ 0
whole_line text [] ending others e dark next columns = omega (arith, columns)
whole_line text (b ∷ bs) ending others e dark next columns = no_columns text e.index e.owed b next.0 (dark_first b bs ending others dark)

module _ {A : Type 0} (text : List ℕ) (stop : Stop) where
  -- before a byte that is no space or tab, a walk isn't inside of a tab
  pub whole_start : (content : List ℕ) (w : Walk A) → StandsInContent text content stop w → BeginsDark content → IsWhole w
  whole_start content w st dark =
      whole_line text st.line st.ending st.others (end_in w.out) (subst BeginsDark st.parts dark)
      (subst (λ (e : End). AreNext text e st.line) (sym st.stands.at) st.stands.next) st.columns

  -- the spaces and tabs at the start of a content, but for those that are written
  pub white_written : (old new : Walk A) (content start : List ℕ) (size : ℕ) → start ≡ without_white content
      → size ≡ (length content - length start) - old.place → standing new ≡ standing old
      → ((front line : List ℕ) → size ≡ length front → same_name SpaceOrTab BlockQuotePrefix ≡ false → StandsInLine text (front ++ line) old → HasBytes text SpaceOrTab size old
      → WritesInLine text front (void_nodes text SpaceOrTab (end_in old.out) (end_after (end_in old.out) size)) line old new)
      → StandsInContent text (drop old.place content) stop old → old.place ≤ white_count content → WritesWhite text content stop old new
  white_written old new content start size is count same writes st le =
      let n = white_count content in
      let front = take (n - old.place) (drop old.place content) in
      let parts = white_parts old.place content le in
      let fits = white_fits content in
      let left : length start ≡ length content - n = ap length is ∙ length-drop n content in
      let front_size : length front ≡ n - old.place =
      length-take-le (n - old.place) (drop old.place content) (omega (arith, fits, le, length-drop old.place content)) in
      let size_is : size ≡ length front = omega (arith, count, left, fits, le, front_size) in
      let ahead =
      line_in_content text stop old front (without_white content) (subst (λ bs. StandsInContent text bs stop old) parts st)
      (white_in_line old.place (n - old.place) content (omega (arith, le))) in
      let nodes = void_nodes text SpaceOrTab (end_in old.out) (end_after (end_in old.out) size) in
      let written = ahead.lifts nodes new same (writes front ahead.line size_is refl ahead.stands
      (has_kind text front ahead.line size old is_white size_is ahead.stands (white_front old.place (n - old.place) content (omega (arith, le))))) in
      record {
        front = front;
        parts = parts;
        nodes = nodes;
        quiet = void_quiet text (end_in old.out) (end_after (end_in old.out) size);
        writes = written;
        whole = whole_start (without_white content) new written.stands (start_dark content);
        ahead = ap (λ k. drop k content) (omega (arith, written.place, front_size, le));
        fill = λ around may.
            void_between around text_row SpaceOrTab text (end_in old.out) (end_after (end_in old.out) size) refl refl (may_space around front may) refl;
      }
