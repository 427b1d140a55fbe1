-- Where a line is begun, what is left of it is ahead.
use Rattle.std.proofs.Common.{◌≡◌, ℕ, zero, suc, ◌+◌, ◌-◌, ◌≤◌, List, [], ◌++◌, drop, length, length-append, replicate, refl, sym, ap, ap₂, subst, ◌∙◌, arith, false}
use Rattle.parse_tables.proofs.Prelude.{after_bytes, AreNext, AtEnding, bare, bytes_of, drop-drop, End, end_after, end_at, ends_line, Follows}
use Rattle.parse_tables.proofs.Prelude.{follows_after, is_tab_column, IsInOrder, IsWrittenToRest, length-replicate, LineRest, list_any, next_after}
use Rattle.parse_tables.proofs.Prelude.{prefix_len, Rest, rest_start, Standing, standing, StandsAt, void_nodes, Walk, Within, WritesTo, WritesUpTo}
use Rattle.parse_tables.proofs.Prelude.{written_to}
use Rattle.definition_text.specs.Ascii.{space}
use Rattle.std.proofs.Common.{true}
use Rattle.std.specs.List.{list_all}
use Rattle.definition_text.specs.Columns.{indent, is_white, whole}
use Rattle.engine_events.specs.declared.event.Name.TheVariants.{SpaceOrTab}
use Rattle.parse_output.specs.Joined.{end_edge, text_between}
use Rattle.parse_output.proofs.Joined.{none_between}
use Rattle.parse_lines.proofs.Ahead.{after_both, after_tab, owed_after}
use Rattle.parse_lines.proofs.Columns.{bare_owes_none}
use Rattle.parse_lines.proofs.ContentLines.{start_owed}
use Rattle.parse_lines.proofs.Ends.{left_within}
use Rattle.parse_lines.proofs.Next.{left_bytes, left_next}
use Rattle.parse_lines.proofs.NextLine.{left_dark, left_to_end}
use Rattle.parse_lines.proofs.Steps.{at_ending}
use Rattle.parse_lines.proofs.SameText.{tab_edge}
use Rattle.parse_lines.proofs.Written.{bare_follows, bare_start, bare_white}
use Rattle.parse_tables.proofs.Steps.{dark_after, same_open}

-- the place after so many spaces of these, which are as many as a tab owes
after_spaces : (from : End) (owed line_end : ℕ) (bytes : List ℕ) → from.owed ≡ owed → end_after from (length (replicate owed space ++ bytes)) ≡ end_at line_end 0
    → (end_after from owed ≡ end_at (line_end - length bytes) 0) × ((line_end - length bytes) + length bytes ≡ line_end)
after_spaces from owed line_end bytes is all =
    let e = end_after from owed in
    let none : e.owed ≡ 0 = owed_after from.index from.owed owed ∙ omega (arith, is) in
    let size : length (replicate owed space ++ bytes) ≡ owed + length bytes =
    length-append (replicate owed space) bytes ∙ ap (λ (k : ℕ). k + length bytes) (length-replicate owed space) in
    let there : end_at (e.index + length bytes) 0 ≡ end_at line_end 0 =
    sym (after_bytes e.index (length bytes))
    ∙ ap (λ (o : ℕ). end_after (end_at e.index o) (length bytes)) (sym none)
    ∙ after_both from owed (length bytes)
    ∙ ap (end_after from) (sym size)
    ∙ all in
    let index : e.index + length bytes ≡ line_end = ap (λ (x : End). x.index) there in
    let back : e.index ≡ line_end - length bytes = omega (arith, index) in
    (ap₂ end_at back none, omega (arith, index))

-- no bytes are between the columns of a tab and what follows it
white_at : (text : List ℕ) (index owed : ℕ) (bytes : List ℕ) → AreNext text (end_at index owed) (replicate owed space ++ bytes)
    → list_all is_white (text_between text (end_at index owed) (end_after (end_at index owed) owed)) ≡ true
white_at text index zero bytes are = ap (list_all is_white) (none_between text (end_edge text (end_at index 0)) (end_edge text (end_at index 0)) refl)
white_at text index (suc owed) bytes are =
    let from = end_at index (suc owed) in
    let to = end_after from (suc owed) in
    let edge : end_edge text from ≡ index + 1 = tab_edge text index owed are.0.2 in
    let over : to ≡ end_at (index + 1) 0 =
    after_tab index (suc owed) (suc owed) (omega arith) (omega arith) ∙ ap (λ (k : ℕ). end_at k 0) (omega arith) in
    ap (list_all is_white) (none_between text (end_edge text from) (end_edge text to) (edge ∙ sym (ap (end_edge text) over)))

white_tab : (text : List ℕ) (from : End) (owed : ℕ) (bytes : List ℕ) → from.owed ≡ owed → AreNext text from (replicate owed space ++ bytes)
    → list_all is_white (text_between text from (end_after from owed)) ≡ true
white_tab text from owed bytes is are =
    let at : from ≡ end_at from.index owed = ap (end_at from.index) is in
    subst (λ (e : End). list_all is_white (text_between text e (end_after e owed)) ≡ true) (sym at) (
    white_at text from.index owed bytes (subst (λ (e : End). AreNext text e (replicate owed space ++ bytes)) at are)
    )

module _ {A : Type 0} (text : List ℕ) (here : LineRest) (left : List LineRest) (old new : Walk A) (at : StandsAt text (Within here left) (standing old)) where
  -- the columns and bytes that are left
  rest_next : AreNext text (rest_start old.line_end here.rest) (left_bytes here.rest)
  rest_next =
      subst (λ (r : Rest). AreNext text (rest_start old.line_end r) (left_bytes r)) (sym at.suffix)
      (left_next text at.line.before at.line.content _ old.line_end at.columns at.line.parts at.line.end)

  rest_end : end_after (rest_start old.line_end here.rest) (length (left_bytes here.rest)) ≡ end_at old.line_end 0
  rest_end =
      ap (λ (r : Rest). end_after (rest_start old.line_end r) (length (left_bytes r))) at.suffix
      ∙ left_to_end text at.line.before at.line.content _ old.line_end at.columns at.line.parts at.line.end

  rest_dark : list_any ends_line (left_bytes here.rest) ≡ false
  rest_dark =
      ap (λ (r : Rest). list_any ends_line (left_bytes r)) at.suffix ∙ left_dark text at.line.before at.line.content _ at.columns at.line.parts

  -- after the columns of a tab that is cut
  pub before_rest : IsWrittenToRest old → IsInOrder text old.out → standing new ≡ standing old
      → written_to new ≡ end_at (old.line_end - length (bytes_of here.rest)) 0
      → WritesUpTo SpaceOrTab (end_at (old.line_end - length (bytes_of here.rest)) 0) old new
      → WritesTo text (bytes_of here.rest) here.beside.ending left
      (void_nodes text SpaceOrTab (written_to old) (end_at (old.line_end - length (bytes_of here.rest)) 0)) old new
  before_rest written order same end writes =
      let owed = prefix_len is_tab_column here.rest in
      let spaces = replicate owed space in
      let bytes = bytes_of here.rest in
      let from = rest_start old.line_end here.rest in
      let is : written_to old ≡ from = written ∙ ap (rest_start old.line_end) at.rest in
      let places = after_spaces from owed old.line_end bytes (start_owed old.line_end here.rest) rest_end in
      let size : length spaces ≡ owed = length-replicate owed space in
      let to : end_after from (length spaces) ≡ end_at (old.line_end - length bytes) 0 = ap (end_after from) size ∙ places.0 in
      let follows : Follows text (written_to old) (end_at (old.line_end - length bytes) 0) =
      subst (λ (e : End). Follows text e (end_at (old.line_end - length bytes) 0)) (sym is)
      (subst (Follows text from) to (follows_after text spaces bytes from rest_next)) in
      let white : list_all is_white (text_between text (written_to old) (end_at (old.line_end - length bytes) 0)) ≡ true =
      ap₂ (λ (x y : End). list_all is_white (text_between text x y)) is (sym places.0) ∙ white_tab text from owed bytes (start_owed old.line_end here.rest) rest_next in
      let w = writes text order (record { follows = follows; bytes = λ apart. white }) in
      let line_end : new.line_end ≡ old.line_end = ap (λ (s : Standing). s.line_end) same in
      let index = ap (λ (e : End). e.index) end in
      record {
        writes = w;
        before = record {
          at = subst (StandsAt text (AtEnding here.beside.ending left)) (sym same) (at_ending text here left (standing old) at);
          order = w.order;
          next = subst (λ (e : End). AreNext text e bytes) (to ∙ sym end) (next_after text spaces bytes from rest_next);
          bare = ap (λ (e : End). e.owed) end;
          end = ap (λ (k : ℕ). k + length bytes) index ∙ places.1 ∙ sym line_end;
          dark = dark_after spaces bytes rest_dark;
        };
        around = same_open text here.beside.ending left old new same;
      }

  -- after the white space
  pub before_bare : IsWrittenToRest old → IsInOrder text old.out → standing new ≡ standing old
      → written_to new ≡ end_at (old.line_end - length (bytes_of (bare here.rest))) 0
      → WritesUpTo SpaceOrTab (end_at (old.line_end - length (bytes_of (bare here.rest))) 0) old new
      → WritesTo text (bytes_of (bare here.rest)) here.beside.ending left
      (void_nodes text SpaceOrTab (written_to old) (end_at (old.line_end - length (bytes_of (bare here.rest))) 0)) old new
  before_bare written order same end writes =
      let rest = bare here.rest in
      let bytes = bytes_of rest in
      let n = at.columns + indent here.rest in
      let suffix : rest ≡ drop n (whole at.line.content) = ap (drop (indent here.rest)) at.suffix ∙ drop-drop (indent here.rest) at.columns (whole at.line.content) in
      let from = rest_start old.line_end here.rest in
      let to = end_at (old.line_end - length bytes) 0 in
      let is : written_to old ≡ from = written ∙ ap (rest_start old.line_end) at.rest in
      let start = bare_start text [] [] [] 0 old.line_end here.rest to refl in
      let follows : Follows text (written_to old) to =
      subst (λ (e : End). Follows text e to) (sym is)
      (bare_follows text at.line.before at.line.content _ at.columns old.line_end here.rest to at.line.parts at.line.end at.suffix start) in
      let white : list_all is_white (text_between text (written_to old) to) ≡ true =
      ap (λ (e : End). list_all is_white (text_between text e to)) is
      ∙ bare_white text at.line.before at.line.content _ at.columns old.line_end here.rest to at.line.parts at.line.end at.suffix start in
      let w = writes text order (record { follows = follows; bytes = λ apart. white }) in
      let next : AreNext text (rest_start old.line_end rest) (left_bytes rest) =
      subst (λ (r : Rest). AreNext text (rest_start old.line_end r) (left_bytes r)) (sym suffix)
      (left_next text at.line.before at.line.content _ old.line_end n at.line.parts at.line.end) in
      let whole_bytes : left_bytes rest ≡ bytes = ap (λ (k : ℕ). replicate k space ++ bytes) (bare_owes_none here.rest) in
      let dark : list_any ends_line bytes ≡ false =
      ap (list_any ends_line) (sym whole_bytes) ∙ ap (λ (r : Rest). list_any ends_line (left_bytes r)) suffix
      ∙ left_dark text at.line.before at.line.content _ n at.line.parts in
      let fits : length bytes ≤ length at.line.content =
      subst (λ (r : Rest). length (bytes_of r) ≤ length at.line.content) (sym suffix) (left_within at.line.content n at.line.parts.bytes) in
      let line_end : new.line_end ≡ old.line_end = ap (λ (s : Standing). s.line_end) same in
      let index = ap (λ (e : End). e.index) end in
      let last = at.line.end in
      record {
        writes = w;
        before = record {
          at = subst (StandsAt text (AtEnding here.beside.ending left)) (sym same) (at_ending text here left (standing old) at);
          order = w.order;
          next = subst (λ (e : End). AreNext text e bytes) (sym start ∙ sym end)
              (subst (AreNext text (rest_start old.line_end rest)) whole_bytes next);
          bare = ap (λ (e : End). e.owed) end;
          end = omega (arith, index, line_end, fits, last);
          dark = dark;
        };
        around = same_open text here.beside.ending left old new same;
      }
