-- What is written of a blank line, step by step (CommonMark 4.9).
use Rattle.std.proofs.Common.{◌≡◌, inl, inr, ◌≤◌, ◌+◌, ℕ, suc, ◌-◌, eqb, Bool, false, true, not, List, [], ◌∷◌, ◌++◌, Option, refl, sym, ap, subst, ◌∙◌, drop, length, arith}
use Rattle.std.specs.Prelude.{if◌then◌else◌}
use Rattle.parse_raw.proofs.Prelude.{and_parts, append, AreEnding, around, Around, at_ending, AtEnding, Between, bytes_of, cases_Bool, cond-false, cond-true}
use Rattle.parse_raw.proofs.Prelude.{Cons, cut, End, end_at, ending_text, EndsLine, enter_at, eqb-true, exit_at, Follows, HasSameOpen, is_byte}
use Rattle.parse_raw.proofs.Prelude.{is_nil, is_tab_column, is_white, IsAfterWhite, IsInOrder, IsLineOf, IsWrittenToRest, left_within, line_after, line_left}
use Rattle.parse_raw.proofs.Prelude.{LineEnding, LineRest, list_all, Name, ne_eqb, Nil, Nodes, Place, prefix_len, Rest, rest_of, rest_start, rest_to_end}
use Rattle.parse_raw.proofs.Prelude.{same_end, same_name, space_written, Standing, standing, StandsAt, start_whole, void_nodes, Walk, whole, Within, Writes}
use Rattle.parse_raw.proofs.Prelude.{writes_both, WritesEnding, WritesQuiet, WritesUpTo, written_to}
use Rattle.std.proofs.lemmas.Bool.{true≢false}
use Rattle.std.proofs.lemmas.List.{drop_all}
use Rattle.std.proofs.Math.Seq.{take-length}
use Rattle.engine_events.specs.declared.event.Name.TheVariants as n
use Rattle.definition_text.specs.Columns.{is_blank}
use Rattle.event_grammar.specs.Trees.{Growth}
use Rattle.parse_output.specs.Written.{forest_in}
use Rattle.parse_laid.specs.Laid.{IsBlankLaid}
use Rattle.parse_raw.specs.Laid.{WritesBlank}
use Rattle.parse_raw.specs.Bytes.{IsEndingName}
use Rattle.parse_raw.proofs.Bytes.{blank_ending_fits, ending_token, rest_white}
use Rattle.parse_raw.proofs.Endings.{ending_nodes}
use Rattle.std.proofs.Common.{take}
use Rattle.definition_page.specs.Read.{Reading}
use Rattle.definition_text.specs.Content.{ending_code}
use Rattle.event_definition.specs.Blocks.{blank_written as blank_pieces}
use Rattle.event_definition.specs.Pieces.{token}
use Rattle.event_definition.specs.Written.{before_rest}
use Rattle.event_definition.specs.Written as definition
use Rattle.parse_pieces.proofs.Written.{pieces_both}
use Rattle.parse_pieces.specs.Written.{WritesPieces}
use Rattle.parse_lines.proofs.LinePieces.{ending_left, ending_written}
use Rattle.parse_lines.proofs.Written.{ending_end, space_pieces}
use Rattle.parse_lines.specs.Pieces.{left_in_line}
use Rattle.parse_raw.proofs.Prelude.{lines}
use Rattle.parse_raw.specs.Pieces.{WritesToNextLine}

-- ---- white space takes all that is left

abbrev tail_of : Nodes → Nodes
tail_of Nil = Nil
tail_of (Cons node ns) = ns

append_none : (ns ms : Nodes) → append ns ms ≡ append ns Nil → ms ≡ Nil
append_none Nil ms is = is
append_none (Cons node ns) ms is = append_none ns ms (ap tail_of is)

-- where no space is written, its ends are the same
void_same : (text : List ℕ) (from to : End) → void_nodes text n.SpaceOrTab from to ≡ Nil → same_end to from ≡ true
void_same text from to none =
    elim (cases_Bool (same_end to from)) [
      | inl same ↦ same
      | inr other ↦
          let node = cut (Around (enter_at text n.SpaceOrTab from) Nil (exit_at text n.SpaceOrTab to)) in
          absurd (true≢false (sym (ap is_nil none) ∙ ap (λ (b : Bool). is_nil (if b then Nil else node)) other))
    ]

-- where nothing is between a rest and the end of its line, the rest is empty
rest_same : (text before content after : List ℕ) (line_end : ℕ) (rest : Rest) → IsLineOf text before content after → line_end ≡ length before + length content
    → length (bytes_of rest) ≤ length content → same_end (end_at line_end 0) (rest_start line_end rest) ≡ true → rest ≡ []
rest_same text before content after line_end [] line end few same = refl
rest_same text before content after line_end (c ∷ cs) line end few same =
    elim (cases_Bool (is_tab_column c)) [
      | inl column ↦
          let owed : prefix_len is_tab_column (c ∷ cs) ≡ 1 + prefix_len is_tab_column cs = cond-true (is_tab_column c) _ _ column in
          let index = line_end - length (bytes_of (c ∷ cs)) in
          let start : rest_start line_end (c ∷ cs) ≡ end_at (index - 1) (1 + prefix_len is_tab_column cs) =
          ap (λ (k : ℕ). if eqb k 0 then end_at index 0 else end_at (index - 1) k) owed
          ∙ cond-false (eqb (1 + prefix_len is_tab_column cs) 0) _ _ (ne_eqb (1 + prefix_len is_tab_column cs) 0 (λ is. omega (arith, is))) in
          let parts = and_parts (eqb line_end (rest_start line_end (c ∷ cs)).index) (eqb 0 (rest_start line_end (c ∷ cs)).owed) same in
          let none : 0 ≡ (rest_start line_end (c ∷ cs)).owed = eqb-true 0 (rest_start line_end (c ∷ cs)).owed parts.1 in
          let some : (rest_start line_end (c ∷ cs)).owed ≡ 1 + prefix_len is_tab_column cs = ap (λ (x : End). x.owed) start in
          absurd (omega (arith, none, some))
      | inr byte ↦
          let owed : prefix_len is_tab_column (c ∷ cs) ≡ 0 = cond-false (is_tab_column c) _ _ byte in
          let start = start_whole line_end (c ∷ cs) owed in
          let bytes : bytes_of (c ∷ cs) ≡ c ∷ bytes_of cs = cond-true (is_byte c) _ _ (ap not byte) in
          let size : length (bytes_of (c ∷ cs)) ≡ suc (length (bytes_of cs)) = ap length bytes in
          let parts = and_parts (eqb line_end (rest_start line_end (c ∷ cs)).index) (eqb 0 (rest_start line_end (c ∷ cs)).owed) same in
          let here : line_end ≡ (rest_start line_end (c ∷ cs)).index = eqb-true line_end (rest_start line_end (c ∷ cs)).index parts.0 in
          let there : (rest_start line_end (c ∷ cs)).index ≡ line_end - length (bytes_of (c ∷ cs)) = ap (λ (x : End). x.index) start in
          absurd (omega (arith, here, there, size, few, end))
    ]

module _ {A : Type 0} (text : List ℕ) where
  -- all of a blank line is written; nothing is only where nothing is left of it
  blank_all : (old a : Walk A) (here : LineRest) (left : List LineRest) (ns : Nodes) → StandsAt text (Within here left) (standing old) → IsWrittenToRest old
      → IsInOrder text old.out → is_blank here.rest ≡ true → WritesUpTo n.SpaceOrTab (end_at old.line_end 0) old a → Writes text old.out a.out ns → ns ≡ Nil → rest_of old.rest ≡ []
  blank_all old a here left ns st at order blank writes written none =
      let line = st.line in
      let after = ending_text old.ending ++ old.left.now in
      let rest = rest_of old.rest in
      let is : rest ≡ drop st.columns (whole line.content) = st.rest ∙ st.suffix in
      let start : written_to old ≡ rest_start old.line_end rest = at in
      let follows : Follows text (written_to old) (end_at old.line_end 0) =
      subst (λ (x : End). Follows text x (end_at old.line_end 0)) (ap (rest_start old.line_end) (sym is) ∙ sym start)
      (rest_to_end text line.before line.content after old.line_end st.columns line.parts line.end) in
      let white = rest_white text line.before line.content after old.line_end line.parts line.end st.columns (written_to old) (at ∙ ap (rest_start old.line_end) is)
      (ap (list_all is_white) (sym st.suffix) ∙ blank) in
      let space = writes text order (record { follows = follows; bytes = λ apart. white }) in
      let void = void_nodes text n.SpaceOrTab (written_to old) (end_at old.line_end 0) in
      let same : append (forest_in text old.out).kids void ≡ append (forest_in text old.out).kids Nil =
      ap (λ (g : Growth). g.kids) (sym space.forest ∙ written.forest) ∙ ap (append (forest_in text old.out).kids) none in
      let few : length (bytes_of rest) ≤ length line.content =
      subst (λ (r : Rest). length (bytes_of r) ≤ length line.content) (sym is) (left_within line.content st.columns line.parts.bytes) in
      rest_same text line.before line.content after old.line_end rest line.parts line.end few
      (ap (same_end (end_at old.line_end 0)) (sym start)
      ∙ void_same text (written_to old) (end_at old.line_end 0) (append_none (forest_in text old.out).kids void same))

  -- all of a blank line
  pub blank_space : (old a : Walk A) (here : LineRest) (left : List LineRest) → StandsAt text (Within here left) (standing old) → IsWrittenToRest old
      → IsInOrder text old.out → is_blank here.rest ≡ true → WritesUpTo n.SpaceOrTab (end_at old.line_end 0) old a → WritesQuiet text old.out a.out
  blank_space old a here left st at order blank writes =
      let start = rest_of old.rest in
      let all : list_all is_white start ≡ true = ap (list_all is_white) st.rest ∙ blank in
      let further : IsAfterWhite [] start =
      record {
        count = length start;
        is = sym (drop_all (length start) start (omega arith));
        white = ap (list_all is_white) (take-length start) ∙ all;
      } in
      let index : old.line_end ≡ old.line_end - 0 = omega arith in
      space_written text st.line.before st.line.content (ending_text old.ending ++ old.left.now) st.columns old.line_end start [] old.out a.out
      (end_at old.line_end 0) st.line.parts st.line.end (st.rest ∙ st.suffix) at order further (ap (λ (k : ℕ). end_at k 0) index) (λ o f. writes text o f)

  -- the ending of the line
  pub record WritesEnd (name : Name) (ending : Option LineEnding) (a d : Walk A) : Type 0 where
    pub nodes : Nodes
    pub are_ending : AreEnding text name ending nodes
    pub writes : Writes text a.out d.out nodes
    pub written : written_to d ≡ end_at (d.size - length d.left.now) 0

  pub end_written : (name : Name) (a d : Walk A) (ending : Option LineEnding) (left : List LineRest) → same_name name n.Data ≡ false → IsEndingName name
      → StandsAt text (AtEnding ending left) (standing a) → written_to a ≡ end_at a.line_end 0 → IsInOrder text a.out
      → WritesEnding name a d → WritesEnd name ending a d
  end_written name a d ending left other fits st at order writes =
      let to = line_after a in
      let done = writes text ending left st order (ending_token text name a fits st.line at) in
      let are = ending_nodes text name (standing a) other st.line in
      let is : void_nodes text name (end_at a.line_end 0) to ≡ void_nodes text name (written_to a) to =
      ap (λ (e : End). void_nodes text name e to) (sym at) in
      record {
        nodes = void_nodes text name (written_to a) to;
        are_ending = subst (λ (e : Option LineEnding). AreEnding text name e (void_nodes text name (written_to a) to)) st.ending (
            subst (AreEnding text name a.ending) is are
            );
        writes = done.0;
        written = done.1;
      }

  pub blank_written : (ending : Option LineEnding) (here : LineRest) (left : List LineRest) (to : Place) (old b a d : Walk A) → b ≡ old
      → StandsAt text (Within here left) (standing old) → IsWrittenToRest old → IsInOrder text old.out
      → IsBlankLaid old.on.now (around (standing old)) ending (Within here left) to → standing a ≡ standing b → written_to a ≡ end_at b.line_end 0
      → WritesUpTo n.SpaceOrTab (end_at b.line_end 0) b a → EndsLine (standing a) (standing d) → WritesEnding n.BlankLineEnding a d
      → HasSameOpen (standing a) (standing d) → WritesBlank text ending to old d
  blank_written ending here left to old b a d is st at order laid same_b end_b writes_b ends writes kept =
      let same : standing a ≡ standing old = same_b ∙ ap (λ (w : Walk A). standing w) is in
      let line : here ≡ laid.0 = ap line_left laid.2.0 in
      let line_end : a.line_end ≡ old.line_end = ap (λ (s : Standing). s.line_end) same in
      let end : written_to a ≡ end_at a.line_end 0 =
      end_b ∙ ap (λ (w : Walk A). end_at w.line_end 0) is ∙ ap (λ (k : ℕ). end_at k 0) (sym line_end) in
      let upto = subst (λ (w : Walk A). WritesUpTo n.SpaceOrTab (end_at w.line_end 0) w a) is writes_b in
      let blank = ap (λ (l : LineRest). is_blank l.rest) line ∙ laid.3 in
      let spaces = blank_space old a here left st at order blank upto in
      let st_a = subst (StandsAt text (AtEnding here.beside.ending left)) (sym same) (at_ending text here left (standing old) st) in
      let done = end_written n.BlankLineEnding a d here.beside.ending left refl blank_ending_fits st_a end spaces.writes.order writes in
      let ending_is : here.beside.ending ≡ ending = ap (λ (l : LineRest). l.beside.ending) line ∙ sym laid.4 in
      let to_is : Between left ≡ to = ap Between laid.2.1 ∙ sym laid.5 in
      record {
        before = spaces.nodes;
        are_quiet = spaces.quiet;
        space = blank_all old a here left spaces.nodes st at order blank upto spaces.writes;
        nodes = done.nodes;
        are_ending = subst (λ (e : Option LineEnding). AreEnding text n.BlankLineEnding e done.nodes) ending_is done.are_ending;
        writes = writes_both text old.out a.out d.out spaces.nodes done.nodes spaces.writes done.writes;
        stands = subst (λ (p : Place). StandsAt text p (standing d)) to_is (ends text here.beside.ending left st_a);
        around = (kept.0 ∙ ap (λ (s : Standing). s.on) same, kept.1 ∙ ap (λ (s : Standing). s.outermost) same);
        written = done.written;
      }

  -- all that is left of it, and its ending, as the definition has them
  pub blank_exact : (r : Reading) (ending : Option LineEnding) (here : LineRest) (left : List LineRest) (to : Place) (old b a d : Walk A) → b ≡ old
      → StandsAt text (Within here left) (standing old) → IsWrittenToRest old → IsInOrder text old.out
      → IsBlankLaid old.on.now (around (standing old)) ending (Within here left) to → standing a ≡ standing b → written_to a ≡ end_at b.line_end 0
      → WritesUpTo n.SpaceOrTab (end_at b.line_end 0) b a → EndsLine (standing a) (standing d) → WritesEnding n.BlankLineEnding a d
      → line_after d ≡ line_after a → WritesToNextLine text (blank_pieces r (standing old).outermost (left_in_line (standing old))) old d
  blank_exact r ending here left to old b a d is st at order laid same_b end_b writes_b ends writes after =
      let same : standing a ≡ standing old = same_b ∙ ap (λ (w : Walk A). standing w) is in
      let line : here ≡ laid.0 = ap line_left laid.2.0 in
      let line_end : a.line_end ≡ old.line_end = ap (λ (s : Standing). s.line_end) same in
      let end_old : written_to a ≡ end_at old.line_end 0 = end_b ∙ ap (λ (w : Walk A). end_at w.line_end 0) is in
      let end : written_to a ≡ end_at a.line_end 0 = end_old ∙ ap (λ (k : ℕ). end_at k 0) (sym line_end) in
      let upto = subst (λ (w : Walk A). WritesUpTo n.SpaceOrTab (end_at w.line_end 0) w a) is writes_b in
      let start = rest_of old.rest in
      let all : list_all is_white start ≡ true = ap (list_all is_white) st.rest ∙ ap (λ (l : LineRest). is_blank l.rest) line ∙ laid.3 in
      let further : IsAfterWhite [] start =
      record {
        count = length start;
        is = sym (drop_all (length start) start (omega arith));
        white = ap (list_all is_white) (take-length start) ∙ all;
      } in
      let index : old.line_end ≡ old.line_end - 0 = omega arith in
      let spaces = space_pieces text st.line.before st.line.content (ending_text old.ending ++ old.left.now) st.columns old.line_end start [] old.out a.out
      (end_at old.line_end 0) st.line.parts st.line.end (st.rest ∙ st.suffix) at order further (ap (λ (k : ℕ). end_at k 0) index) (λ o f. upto text o f) end_old in
      let count : length start - 0 ≡ length start = omega arith in
      let codes : before_rest start [] ≡ start = ap (λ (k : ℕ). take k start) count ∙ take-length start in
      let white = subst (λ (cs : Rest). WritesPieces text (token n.SpaceOrTab cs) old.out a.out) codes spaces in
      let st_a = subst (StandsAt text (AtEnding here.beside.ending left)) (sym same) (at_ending text here left (standing old) st) in
      let done = writes text here.beside.ending left st_a spaces.writes.order (ending_token text n.BlankLineEnding a blank_ending_fits st_a.line end) in
      let size = ending_end text (standing a) st_a.line in
      let to_d : written_to d ≡ line_after a = done.1 ∙ after in
      let ended = ending_written text n.BlankLineEnding a.ending a.line_end (a.size - length a.left.now) a.out d.out size.0 end to_d
      (subst (λ (e : End). Writes text a.out d.out (void_nodes text n.BlankLineEnding (written_to a) e)) (sym to_d) done.0) in
      let ending_is : a.ending ≡ old.ending = ap (λ (s : Standing). s.ending) same in
      let last = subst (λ (e : Option LineEnding). WritesPieces text (token n.BlankLineEnding (ending_code e)) a.out d.out) ending_is ended in
      let kept = ending_left text (standing a) (standing d) st_a.line left (ends text here.beside.ending left st_a) after in
      record {
        pieces =
            pieces_both text (token n.SpaceOrTab start) (token n.BlankLineEnding (ending_code old.ending)) old.out a.out d.out white last;
        left = ap (λ (xs : List ℕ). definition.Between (lines xs)) (kept ∙ ap (λ (s : Standing). s.left) same);
      }
