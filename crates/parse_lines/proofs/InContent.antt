-- What is written of a content, one after another.
use Rattle.std.proofs.Common.{◌≡◌, ◌⊎◌, ℕ, ◌+◌, ◌<◌, ◌≤◌, true, false, List, [], ◌∷◌, ◌++◌, None, Some, inl, inr, refl, sym, ap, ap₂, ◌∙◌, subst}
use Rattle.std.proofs.Common.{length, length-append, arith}
use Rattle.parse_lines.proofs.Prelude.{append, append-nil-list, AreJoined, AreNext, AreTaken, around, Around, AtEnding, Between, BlockLine, code_byte}
use Rattle.parse_lines.proofs.Prelude.{Constructs, Container, content_from, cut, End, end_after, end_at, end_edge, end_in, ending_text, ends_at_start}
use Rattle.parse_lines.proofs.Prelude.{ends_line, enter_at, EntersInLine, exit_at, ExitsInLine, flat_around, flat_both, flat_text, HasSameOpen, IsRestLine}
use Rattle.parse_lines.proofs.Prelude.{IsSameText, joined_both, joined_cut, joined_onward, LineEnding, LineRest, lines, list_any, list_any-append, map, Name}
use Rattle.parse_lines.proofs.Prelude.{Nil, Nodes, Option, or_parts, Place, Prefixed, same_name, Standing, standing, StandsAt, StandsInContent, StandsInLine}
use Rattle.parse_lines.proofs.Prelude.{Stop, text_between, true≢false, unread, Walk, writes_around, writes_both, writes_none, WritesInLine}
use Rattle.markdown_options.specs.declared.line_ending.LineEnding.TheVariants.{CarriageReturnLineFeed, CarriageReturn, LineFeed}
use Rattle.markdown_options.specs.declared.beside.Kind.TheVariants.{Whitespace}
use Rattle.engine_events.specs.declared.event.Name.TheVariants.{BlockQuotePrefix}
use Rattle.parse_lines.specs.InContent.{EntersInContent, ExitsInContent, WritesInContent}
use Rattle.parse_lines.proofs.Ahead.{after_both, owed_after}
use Rattle.parse_lines.proofs.SameText.{ends_both, same_both, same_next, same_self}

-- ---- the line of a content

-- nothing, or what begins with the ending of a line
abbrev IsAfterLine : List ℕ → Type 0
IsAfterLine rest = (rest ≡ []) ⊎ ((b : ℕ) × (bs : List ℕ) × (rest ≡ b ∷ bs) × (ends_line b ≡ true))

record Splits (line rest front content : List ℕ) : Type 0 where
  more : List ℕ
  line_is : line ≡ front ++ more
  content_is : content ≡ more ++ rest

split_line : (line rest front content : List ℕ) → IsAfterLine rest → line ++ rest ≡ front ++ content → list_any ends_line front ≡ false
    → Splits line rest front content
split_line line rest [] content ends is dark = record { more = line; line_is = refl; content_is = sym is }
split_line [] rest (b ∷ bs) content (inl none) is dark = let no : [] ≡ b ∷ (bs ++ content) = sym none ∙ is in absurd (cc)
split_line [] rest (b ∷ bs) content (inr some) is dark =
    let same : some.0 ∷ some.1 ≡ b ∷ (bs ++ content) = sym some.2 ∙ is in
    let byte : some.0 ≡ b = cc in
    let parts = or_parts (ends_line b) (list_any ends_line bs) dark in
    absurd (true≢false (sym some.3 ∙ ap ends_line byte ∙ parts.0))
split_line (x ∷ xs) rest (b ∷ bs) content ends is dark =
    let first : x ≡ b = cc in
    let others : xs ++ rest ≡ bs ++ content = cc in
    let parts = or_parts (ends_line b) (list_any ends_line bs) dark in
    let more = split_line xs rest bs content ends others parts.1 in
    record { more = more.more; line_is = ap₂ (λ (y : ℕ) (ys : List ℕ). y ∷ ys) first more.line_is; content_is = more.content_is }

-- what is after a line of a content
abbrev pub tail_from : Option LineEnding → List BlockLine → List ℕ
tail_from ending [] = []
tail_from ending (next ∷ others) = ending_text ending ++ content_from (map code_byte next.codes) next.ending others

pub line_and_tail : (line : List ℕ) (ending : Option LineEnding) (others : List BlockLine) → content_from line ending others ≡ line ++ tail_from ending others
line_and_tail line ending [] = sym (append-nil-list line)
line_and_tail line ending (next ∷ others) = refl

ending_first : (e : LineEnding) (more : List ℕ) → IsAfterLine (ending_text (Some e) ++ more)
ending_first LineFeed more = inr (10, more, refl, refl)
ending_first CarriageReturn more = inr (13, more, refl, refl)
ending_first CarriageReturnLineFeed more = inr (13, 10 ∷ more, refl, refl)

-- no line is after one without an ending
pub no_more : (text : List ℕ) (left : List LineRest) (s : Standing) (on : Constructs) (containers : List Container) (IsLine : Prefixed → BlockLine → Type 0)
    (line : BlockLine) (others : List BlockLine) (to : Place) → StandsAt text (AtEnding None left) s
    → AreTaken on containers IsLine (line ∷ others) (Between left) to → ⊥
no_more text left s on containers IsLine line others to at taken =
    let none : left ≡ [] = at.unread ∙ ap (λ (xs : List ℕ). unread Whitespace (lines xs)) (at.line.last at.ending) in
    (subst (λ (xs : List LineRest). AreTaken on containers IsLine (line ∷ others) (Between xs) to) none taken).2

tail_ends : (text : List ℕ) (left : List LineRest) (s : Standing) (on : Constructs) (containers : List Container) (IsLine : Prefixed → BlockLine → Type 0)
    (ending : Option LineEnding) (others : List BlockLine) (to : Place) → StandsAt text (AtEnding ending left) s
    → AreTaken on containers IsLine others (Between left) to → IsAfterLine (tail_from ending others)
tail_ends text left s on containers IsLine ending [] to at taken = inl refl
tail_ends text left s on containers IsLine None (next ∷ others) to at taken = absurd (no_more text left s on containers IsLine next others to at taken)
tail_ends text left s on containers IsLine (Some e) (next ∷ others) to at taken = ending_first e _

same_open : (s : Standing) → HasSameOpen s s
same_open s = (refl, refl)

-- the same are open, and then the same
pub both_open : (a b c : Standing) → HasSameOpen a b → HasSameOpen b c → HasSameOpen a c
both_open a b c first second = (second.0 ∙ first.0, second.1 ∙ first.1)

module _ {A : Type 0} (text : List ℕ) (stop : Stop) where
  -- ---- composition

  -- nothing
  pub contents_none : (w : Walk A) (content : List ℕ) → StandsInContent text content stop w → WritesInContent text [] Nil content stop w w
  contents_none w content st = record {
    writes = writes_none text w.out st.stands.order;
    stands = st;
    around = same_open (standing w);
    place = omega arith;
    joined = refl;
    has_text = λ start may. record { same = same_self start []; may_start = may };
  }

  -- some bytes, and then others
  pub contents_both : (a b c : Walk A) (front after content : List ℕ) (ns ms : Nodes) → WritesInContent text front ns (after ++ content) stop a b
      → WritesInContent text after ms content stop b c → WritesInContent text (front ++ after) (append ns ms) content stop a c
  contents_both a b c front after content ns ms first second = record {
    writes = writes_both text a.out b.out c.out ns ms first.writes second.writes;
    stands = second.stands;
    around = both_open (standing a) (standing b) (standing c) first.around second.around;
    place = omega (arith, first.place, second.place, length-append front after);
    joined = joined_both _ _ _ ns ms first.joined second.joined;
    has_text = λ start may.
        let one = first.has_text start may in
        let two = second.has_text (ends_at_start start front) one.may_start in
        record {
          same =
              subst (IsSameText start (front ++ after)) (sym (flat_both text ns ms))
              (same_both start front after (flat_text text ns) (flat_text text ms) one.same two.same);
          may_start = λ some. ends_both start front after ∙ two.may_start some;
        };
  }

  -- bytes in an event that is entered before them and exited after them
  pub contents_around : (a b c d : Walk A) (name : Name) (front content : List ℕ) (ns : Nodes) → EntersInContent text name (front ++ content) stop a b
      → WritesInContent text front ns content stop b c → ExitsInContent text name content stop c d → same_name name BlockQuotePrefix ≡ false
      → WritesInContent text front (cut (Around (enter_at text name (end_in a.out)) ns (exit_at text name (end_in c.out)))) content stop a d
  contents_around a b c d name front content ns enters writes exits other =
      let from = end_in a.out in
      let to = end_in c.out in
      let inner : AreJoined (end_edge text from) ns (end_edge text to) =
      subst (λ (e : End). AreJoined (end_edge text e) ns (end_edge text to)) enters.end writes.joined in
      record {
        writes = writes_around text a.out b.out c.out d.out name ns enters.enters writes.writes exits.exits;
        stands = exits.stands;
        around = both_open (standing a) (standing b) (standing d) enters.around (both_open (standing b) (standing c) (standing d) writes.around exits.around);
        place = omega (arith, enters.place, writes.place, exits.place);
        joined =
            subst (λ (e : End). AreJoined (end_edge text from) (cut (Around (enter_at text name from) ns (exit_at text name to))) (end_edge text e))
            (sym exits.end) (joined_cut (enter_at text name from) (exit_at text name to) ns (joined_onward _ _ ns inner));
        has_text = λ start may.
            let one = writes.has_text start (λ some. may (subst (λ (e : End). 0 < e.owed) enters.end some)) in
            record {
              same = subst (IsSameText start front) (sym (flat_around text name from to ns other inner)) one.same;
              may_start = λ some. one.may_start (subst (λ (e : End). 0 < e.owed) exits.end some);
            };
      }

  -- ---- from a line of the content

  -- the walk stands in the content as before, further on in its line
  stands_on : (old new : Walk A) (content : List ℕ) (line : List ℕ) (st : StandsInContent text content stop old) (more after : List ℕ)
      → standing new ≡ standing old → StandsInLine text line new → st.line ≡ more ++ line → after ≡ content_from line st.ending st.others
      → end_in new.out ≡ end_after (end_in old.out) (length more) → new.place + length after ≤ old.place + length content
      → StandsInContent text after stop new
  stands_on old new content line st more after same stands line_is after_is end fits =
      let size : length st.line ≡ length more + length line = ap length line_is ∙ length-append more line in
      let to : end_after (end_in new.out) (length line) ≡ end_after (end_in old.out) (length st.line) =
      ap (λ (e : End). end_after e (length line)) end ∙ after_both (end_in old.out) (length more) (length line) ∙ ap (end_after (end_in old.out)) (sym size) in
      let line_end : old.line_end ≡ new.line_end = ap (λ (s : Standing). s.line_end) (sym same) in
      record {
        line = line;
        ending = st.ending;
        others = st.others;
        left = st.left;
        after = st.after;
        parts = after_is;
        dark =
            (or_parts (list_any ends_line more) (list_any ends_line line)
            (sym (list_any-append ends_line more line) ∙ ap (list_any ends_line) (sym line_is) ∙ st.dark)).1;
        stands = stands;
        at = subst (StandsAt text (AtEnding st.ending st.left)) (sym same) st.at;
        ahead = subst (λ (s : Standing). AreTaken s.on (around s) IsRestLine st.others (Between st.left) (Between st.after)) (sym same) st.ahead;
        last = st.last;
        full = λ some. (to ∙ (st.full some).0 ∙ ap (λ (k : ℕ). end_at k 0) line_end, (st.full some).1);
        end = λ none. ap (λ (e : End). e.index + stop.behind) to ∙ st.end none ∙ line_end;
        columns =
            omega (arith, st.columns, size, ap (λ (e : End). e.owed) end, owed_after (end_in old.out).index (end_in old.out).owed (length more));
        fits = omega (arith, fits, st.fits);
      }

  -- These bytes are next in the line of the content. What is written for them there is written in the content.
  pub record IsLineAhead (front content : List ℕ) (old : Walk A) : Type 0 where
    pub line : List ℕ
    pub stands : StandsInLine text (front ++ line) old
    pub lifts : (ns : Nodes) (new : Walk A) → standing new ≡ standing old → WritesInLine text front ns line old new
        → WritesInContent text front ns content stop old new

  -- bytes without the ending of a line
  pub line_in_content : (old : Walk A) (front content : List ℕ) → StandsInContent text (front ++ content) stop old → list_any ends_line front ≡ false
      → IsLineAhead front content old
  line_in_content old front content st dark =
      let split =
      split_line st.line (tail_from st.ending st.others) front content
      (tail_ends text st.left (standing old) old.on.now (around (standing old)) IsRestLine st.ending st.others (Between st.after) st.at st.ahead)
      (sym (line_and_tail st.line st.ending st.others) ∙ sym st.parts) dark in
      let stands = subst (λ (xs : List ℕ). StandsInLine text xs old) split.line_is st.stands in
      record {
        line = split.more;
        stands = stands;
        lifts = λ ns new same writes. record {
          writes = writes.writes;
          stands =
              stands_on old new (front ++ content) split.more st front content same writes.stands split.line_is
              (split.content_is ∙ sym (line_and_tail split.more st.ending st.others)) writes.end
              (omega (arith, writes.place, length-append front content));
          around = (ap (λ (s : Standing). s.on) same, ap (λ (s : Standing). s.outermost) same);
          place = writes.place;
          joined = writes.joined;
          has_text = λ start may.
              let next = subst (λ (e : End). AreNext text e (front ++ split.more)) (sym stands.at) stands.next in
              let is = same_next text front split.more start (end_in old.out) may next in
              record {
                same =
                    subst (IsSameText start front) (sym (writes.spells ∙ ap (text_between text (end_in old.out)) writes.end)) is.text_is;
                may_start = λ some. is.may_start (subst (λ (e : End). 0 < e.owed) writes.end some);
              };
        };
      }

  -- an event is entered, and exited
  pub line_enters : (old new : Walk A) (name : Name) (content : List ℕ) → StandsInContent text content stop old → standing new ≡ standing old
      → ((line : List ℕ) → StandsInLine text line old → EntersInLine text name line old new) → EntersInContent text name content stop old new
  line_enters old new name content st same enters =
      let is = enters st.line st.stands in
      record {
        enters = is.enters;
        stands = stands_on old new content st.line st [] content same is.stands refl st.parts is.end (omega (arith, is.place));
        around = (ap (λ (s : Standing). s.on) same, ap (λ (s : Standing). s.outermost) same);
        place = is.place;
        end = is.end;
      }

  pub line_exits : (old new : Walk A) (name : Name) (content : List ℕ) → StandsInContent text content stop old → standing new ≡ standing old
      → ((line : List ℕ) → StandsInLine text line old → ExitsInLine text name line old new) → ExitsInContent text name content stop old new
  line_exits old new name content st same exits =
      let is = exits st.line st.stands in
      record {
        exits = is.exits;
        stands = stands_on old new content st.line st [] content same is.stands refl st.parts is.end (omega (arith, is.place));
        around = (ap (λ (s : Standing). s.on) same, ap (λ (s : Standing). s.outermost) same);
        place = is.place;
        end = is.end;
      }
