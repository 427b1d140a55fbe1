-- Bytes that are left of a line, and what is written of them.
use Rattle.std.proofs.Common.{◌≡◌, ℕ, ◌+◌, ◌-◌, ◌^◌, ◌<◌, ◌≤◌, true, false, List, [], ◌++◌, Option, sym, ap, ◌∙◌, subst, length, length-append, take, drop, arith}
use Rattle.parse_raw.proofs.Prelude.{append, append-nil, AreNext, is_token, Around, at_ending, AtEnding, bare, bytes_of, End, end_after, end_at, end_in}
use Rattle.parse_raw.proofs.Prelude.{enter_at, exit_at, IsInOrder, IsWrittenToRest, length-take-le, LineEnding}
use Rattle.parse_raw.proofs.Prelude.{LineRest, Name, Nodes, one, rest_of, same_name, Standing, standing, StandsAt}
use Rattle.parse_raw.proofs.Prelude.{take-append-drop, tokens, Walk, whole_end, Within, Writes, writes_around, writes_both, WritesFirst, WritesQuiet}
use Rattle.parse_raw.proofs.Prelude.{WritesUpTo, written_to}
use Rattle.engine_events.specs.declared.event.Name.TheVariants as n
use Rattle.parse_lines.specs.Standing.{TEXT_MAX}
use Rattle.parse_raw.specs.Before.{IsBefore, IsOnLine, WritesOnLine}
use Rattle.parse_raw.specs.Calls.{EnterCall, ExitCall, ToCall, TokenCall}
use Rattle.parse_raw.proofs.LeafNodes.{cut_one, white_written}
use Rattle.parse_raw.proofs.LineTokens.{after_first, token_first, up_to_first}

small_text : (n : ℕ) → n ≤ TEXT_MAX → n < 2 ^ 61
small_text n h = omega (arith, h)

-- the white space ahead is written, and what follows it is left of the line
pub record WritesWhiteAhead {A : Type 0} (text : List ℕ) (here : LineRest) (left : List LineRest) (old new : Walk A) : Type 0 where
  pub quiet : WritesQuiet text old.out new.out
  pub same : standing new ≡ standing old
  pub starts : (written_to old).index ≤ (written_to new).index
  pub begins : (written_to new).index ≤ old.line_end
  pub on : IsOnLine text here.beside.ending left (bytes_of (bare here.rest)) new

module _ {A : Type 0} (text : List ℕ) where
  pub white_ahead : (old new : Walk A) (here : LineRest) (left : List LineRest) → StandsAt text (Within here left) (standing old) → IsWrittenToRest old
      → IsInOrder text old.out → standing new ≡ standing old
      → written_to new ≡ end_at (old.line_end - length (bytes_of (bare (rest_of old.rest)))) 0
      → WritesUpTo n.SpaceOrTab (end_at (old.line_end - length (bytes_of (bare (rest_of old.rest)))) 0) old new → WritesWhiteAhead text here left old new
  white_ahead old new here left st at order same to writes =
      let white = white_written text old new here left st at order same to writes in
      let line = st.line in
      let bytes = bytes_of (bare here.rest) in
      let rest_is : rest_of old.rest ≡ here.rest = st.rest in
      let next : AreNext text (written_to new) bytes = subst (λ r. AreNext text (written_to new) (bytes_of (bare r))) rest_is white.after.next in
      let line_end : new.line_end ≡ old.line_end = ap (λ (s : Standing). s.line_end) same in
      record {
        quiet = white.quiet;
        same = same;
        starts = white.starts;
        begins = white.begins;
        on = record {
          before = record {
            order = white.after.order;
            whole = ap (λ (e : End). e.owed) to;
            next = next;
            size = small_text (length text) line.over.fits;
          };
          at = subst (StandsAt text (AtEnding here.beside.ending left)) (sym same) (at_ending text here left (standing old) st);
          end =
              omega (arith, ap (λ (e : End). e.index) to, white.after.within, ap (λ r. length (bytes_of (bare r))) rest_is, line_end);
        };
      }

  -- tokens of the line
  pub first_on_line : (ending : Option LineEnding) (left : List LineRest) (front line : List ℕ) (ns : Nodes) (old new : Walk A)
      → IsOnLine text ending left (front ++ line) old → WritesFirst text front ns line old new → WritesOnLine text ending left ns line old new
  first_on_line ending left front line ns old new on first = record {
    writes = first.writes;
    on = record {
      before = first.before;
      at = subst (StandsAt text (AtEnding ending left)) (sym first.same) on.at;
      end = omega (arith, on.end, first.index, length-append front line, ap (λ (s : Standing). s.line_end) first.same);
    };
    around = (ap (λ (s : Standing). s.on) first.same, ap (λ (s : Standing). s.outermost) first.same);
  }

  -- some nodes, and then others
  pub on_line_both : (ending : Option LineEnding) (left : List LineRest) (more line : List ℕ) (ns ms : Nodes) (a b c : Walk A)
      → WritesOnLine text ending left ns more a b → WritesOnLine text ending left ms line b c → WritesOnLine text ending left (append ns ms) line a c
  on_line_both ending left more line ns ms a b c first second = record {
    writes = writes_both text a.out b.out c.out ns ms first.writes second.writes;
    on = second.on;
    around = (second.around.0 ∙ first.around.0, second.around.1 ∙ first.around.1);
  }

module _ {A : Type 0} (text : List ℕ) (ending : Option LineEnding) (left : List LineRest) where
  stays_on : (a b : Walk A) (line : List ℕ) → standing b ≡ standing a → written_to b ≡ written_to a → IsInOrder text b.out
      → IsOnLine text ending left line a → IsOnLine text ending left line b
  stays_on a b line same end order on = record {
    before = record {
      order = order;
      whole = ap (λ (e : End). e.owed) end ∙ on.before.whole;
      next = subst (λ (e : End). AreNext text e line) (sym end) on.before.next;
      size = on.before.size;
    };
    at = subst (StandsAt text (AtEnding ending left)) (sym same) on.at;
    end = ap (λ (e : End). e.index + length line) end ∙ on.end ∙ ap (λ (s : Standing). s.line_end) (sym same);
  }

  -- an event is entered before these bytes
  pub entered_on : (a b : Walk A) (name : Name) (line : List ℕ) → EnterCall text name a b → IsOnLine text ending left line a
      → IsOnLine text ending left line b
  entered_on a b name line call on = let entered = call.2 on.before.order in stays_on a b line call.0 call.1 entered.order on

  -- a token of the first of these bytes, so many
  pub some_on : (a b : Walk A) (name : Name) (bytes : List ℕ) (k : ℕ) → same_name name n.Data ≡ false
      → (0 < k → is_token name (take k bytes) ≡ true) → k ≤ length bytes → TokenCall name k a b
      → IsOnLine text ending left bytes a → WritesOnLine text ending left (tokens text name (written_to a).index (take k bytes)) (drop k bytes) a b
  some_on a b name bytes k other may fits call on =
      let parts = sym (take-append-drop k bytes) in
      first_on_line text ending left (take k bytes) (drop k bytes) (tokens text name (written_to a).index (take k bytes)) a b
      (subst (λ bs. IsOnLine text ending left bs a) parts on)
      (token_first text a b name (take k bytes) (drop k bytes) k other (λ some. may (omega (arith, some, length-take-le k bytes fits)))
      (sym (length-take-le k bytes fits)) call.0 call.1 call.2
      (subst (λ bs. IsBefore text bs a) parts on.before))

  -- all that is left of the line
  pub all_on : (a b : Walk A) (name : Name) (line : List ℕ) → same_name name n.Data ≡ false → is_token name line ≡ true → ToCall name (end_at a.line_end 0) a b
      → IsOnLine text ending left line a → WritesOnLine text ending left (tokens text name (written_to a).index line) [] a b
  all_on a b name line other may call on =
      let is : end_at a.line_end 0 ≡ end_after (end_in a.out) (length line) =
      ap (λ k. end_at k 0) (sym on.end) ∙ sym (after_first (end_in a.out) (length line) on.before.whole) in
      let all = subst (λ bs. IsOnLine text ending left bs a) (sym (append-nil line)) on in
      first_on_line text ending left line [] (tokens text name (written_to a).index line) a b all
      (up_to_first text a b name line [] (end_at a.line_end 0) other (λ some. may) is call.0 call.1 call.2 all.before)

  -- nodes in an event that is entered before them and exited after them
  pub around_on : (a b c d : Walk A) (name : Name) (line : List ℕ) (ns : Nodes) → same_name name n.Data ≡ false → EnterCall text name a b
      → IsInOrder text a.out → WritesOnLine text ending left ns line b c → ExitCall text name c d
      → WritesOnLine text ending left (one (Around (enter_at text name (end_in a.out)) ns (exit_at text name (end_in c.out)))) line a d
  around_on a b c d name line ns other enter order inner exit =
      let exited = exit.2 inner.on.before.order in
      record {
        writes =
            subst (Writes text a.out d.out) (cut_one text name (end_in a.out) (end_in c.out) ns other)
            (writes_around text a.out b.out c.out d.out name ns (enter.2 order) inner.writes exited);
        on = stays_on c d line exit.0 exit.1 exited.order inner.on;
        around = (
          ap (λ (s : Standing). s.on) exit.0 ∙ inner.around.0 ∙ ap (λ (s : Standing). s.on) enter.0,
          ap (λ (s : Standing). s.outermost) exit.0 ∙ inner.around.1 ∙ ap (λ (s : Standing). s.outermost) enter.0,
        );
      }

  -- at the end of the line
  pub on_end : (w : Walk A) → IsOnLine text ending left [] w → written_to w ≡ end_at w.line_end 0
  on_end w on =
      let index : (end_in w.out).index ≡ w.line_end = omega (arith, on.end) in
      whole_end (end_in w.out) on.before.whole ∙ ap (λ k. end_at k 0) index

-- the first of these bytes are next, and then the others
pub next_parts : {A : Type 0} (text : List ℕ) (w : Walk A) (bytes : List ℕ) (k : ℕ) → IsBefore text bytes w
    → AreNext text (end_at (written_to w).index 0) (take k bytes ++ drop k bytes)
next_parts text w bytes k before =
    subst (λ (e : End). AreNext text e (take k bytes ++ drop k bytes)) (whole_end (end_in w.out) before.whole)
    (subst (λ bs. AreNext text (end_in w.out) bs) (sym (take-append-drop k bytes)) before.next)
