-- An event that holds a text is entered after the white space at the start of its content.
use Rattle.std.proofs.Common.{◌≡◌, ℕ, suc, ◌+◌, ◌<◌, ◌≤◌, false, List, [], ◌∷◌, ◌++◌, Option, refl, sym, ap, ◌∙◌, inl, inr, subst, length, map, take, drop, arith}
use Rattle.parse_leaves.proofs.Prelude.{AreNext, AreTaken, around, BeginsContent, Between, block_codes, BlockLine, cases_Bool, code_byte, content_from}
use Rattle.parse_leaves.proofs.Prelude.{content_text, End, end_after, end_at, end_in, ending_text, EntersAt, EntersInLine, Follows, is_white, IsInOrder}
use Rattle.parse_leaves.proofs.Prelude.{IsRestLine, IsWrittenToRest, length-take-le, line_enters, line_in_content, LineEnding, LineRest, Name, rest_line}
use Rattle.parse_leaves.proofs.Prelude.{rest_of, same_name, Standing, standing, StandsAt, StandsInContent, StandsInLine, Stop, take-append-drop, text_stop}
use Rattle.parse_leaves.proofs.Prelude.{void_nodes, Walk, Within, Writes, WritesInLine}
use Rattle.engine_events.specs.declared.event.Name.TheVariants.{BlockQuotePrefix, SpaceOrTab}
use Rattle.parse_output.specs.declared.output.Output.{Output}
use Rattle.parse_lines.specs.Content.{HasBytes}
use Rattle.parse_lines.proofs.Ahead.{follows_after}
use Rattle.parse_lines.proofs.Bytes.{has_kind}
use Rattle.parse_leaves.proofs.Indents.{void_quiet}
use Rattle.parse_leaves.proofs.Lines.{lines_ahead}
use Rattle.parse_leaves.proofs.Starts.{count_dark, count_white, white_count, white_fits, white_front, white_in_line}

white_more : (bs cs : List ℕ) → white_count bs ≤ white_count (bs ++ cs)
white_more [] cs = omega arith
white_more (b ∷ bs) cs = elim (cases_Bool (is_white b)) [
  | inl white ↦ let h = white_more bs cs in omega (arith, count_white b bs white, count_white b (bs ++ cs) white, h)
  | inr dark ↦ omega (arith, count_dark b bs dark)
]

white_ahead : (line : List ℕ) (ending : Option LineEnding) (others : List BlockLine) → white_count line ≤ white_count (content_from line ending others)
white_ahead line ending [] = omega arith
white_ahead line ending (next ∷ others) = white_more line (ending_text ending ++ content_from (map code_byte next.codes) next.ending others)

before_end : (end : End) (line_end : ℕ) (behind : ℕ) (others : List BlockLine) (later : End) → end.index ≤ later.index
    → (0 < length others → later ≡ end_at line_end 0) → (length others ≡ 0 → later.index + behind ≡ line_end) → end.index ≤ line_end
before_end end line_end behind [] later le full last = omega (arith, le, last refl)
before_end end line_end behind (next ∷ others) later le full last =
    omega (arith, le, ap (λ (e : End). e.index) (full (some_more (length others))))
  where
    some_more : (n : ℕ) → 0 < suc n
    some_more n = omega arith

module _ {A : Type 0} (text : List ℕ) where
  next_here : (line : List ℕ) (w : Walk A) → StandsInLine text line w → AreNext text (end_in w.out) line
  next_here line w st = subst (λ (e : End). AreNext text e line) (sym st.at) st.next

  -- a walk in a content is in its line
  pub in_line : (content : List ℕ) (stop : Stop) (w : Walk A) → StandsInContent text content stop w → (end_in w.out).index ≤ w.line_end
  in_line content stop w st =
      let e = end_in w.out in
      let next = subst (AreNext text e) (sym (append-none st.line)) (next_here st.line w st.stands) in
      before_end e w.line_end stop.behind st.others (end_after e (length st.line)) (follows_after text st.line [] e next).forward
      (λ some. (st.full some).0) st.end
    where
      append-none : (xs : List ℕ) → xs ++ [] ≡ xs
      append-none [] = refl
      append-none (x ∷ xs) = ap (λ ys. x ∷ ys) (append-none xs)

  -- an event is entered in the lines of a text after so many spaces and tabs
  pub white_entered : (a b c d : Walk A) (name : Name) (white : ℕ) (here : LineRest) (left after : List LineRest) (others : List BlockLine)
      → standing b ≡ standing a → BeginsContent a b → white ≤ white_count (content_text (rest_line here.rest here.beside ∷ others)) → standing c ≡ standing b
      → ((front line : List ℕ) → white ≡ length front → same_name SpaceOrTab BlockQuotePrefix ≡ false → StandsInLine text (front ++ line) b → HasBytes text SpaceOrTab white b
      → WritesInLine text front (void_nodes text SpaceOrTab (end_in b.out) (end_after (end_in b.out) white)) line b c)
      → standing d ≡ standing c → ((line : List ℕ) → StandsInLine text line c → EntersInLine text name line c d)
      → StandsAt text (Within here left) (standing a) → IsWrittenToRest a → IsInOrder text a.out
      → AreTaken a.on.now (around (standing a)) IsRestLine others (Between left) (Between after)
      → EntersAt text name (content_text (rest_line here.rest here.beside ∷ others)) (text_stop (rest_line here.rest here.beside ∷ others) after) a d
      × (d.place ≡ white)
  white_entered a b c d name white here left after others same_b begins few same_c writes same_d enters at to_rest order taken =
      let first = rest_line here.rest here.beside in
      let stop = text_stop (first ∷ others) after in
      let content = content_text (first ∷ others) in
      let begun = begins text here left after others at to_rest order taken in
      let is = lines_ahead first others in
      let stands : StandsInContent text content stop b = subst (λ bs. StandsInContent text bs stop b) is begun.0 in
      let front = take white content in
      let size : length front ≡ white = length-take-le white content (omega (arith, few, white_fits content)) in
      let ahead =
      line_in_content text stop b front (drop white content) (subst (λ bs. StandsInContent text bs stop b) (sym (take-append-drop white content)) stands)
      (white_in_line 0 white content (omega (arith, few))) in
      let nodes = void_nodes text SpaceOrTab (end_in b.out) (end_after (end_in b.out) white) in
      let in_line_writes =
      writes front ahead.line (sym size) refl ahead.stands
      (has_kind text front ahead.line white b is_white (sym size) ahead.stands (white_front 0 white content (omega (arith, few)))) in
      let written = ahead.lifts nodes c same_c in_line_writes in
      let entered = line_enters text stop c d name (drop white content) written.stands same_d enters in
      let place : d.place ≡ white = omega (arith, entered.place, written.place, begun.1, size) in
      let same : standing d ≡ standing a = same_d ∙ same_c ∙ same_b in
      let out : end_in b.out ≡ end_in a.out = ap end_in begun.2 in
      let onward : Follows text (end_in b.out) (end_after (end_in b.out) (length front)) =
      follows_after text front ahead.line (end_in b.out) (next_here (front ++ ahead.line) b ahead.stands) in
      let line_end : c.line_end ≡ a.line_end = ap (λ (s : Standing). s.line_end) (same_c ∙ same_b) in (
        record {
          before = nodes;
          are_quiet = void_quiet text (end_in b.out) (end_after (end_in b.out) white);
          space = c.out;
          writes = subst (λ (o : Output A). Writes text o c.out nodes) begun.2 written.writes;
          enters = entered.enters;
          stands = subst (λ k. StandsInContent text (drop k content) stop d) (sym place) entered.stands;
          white = omega (arith, place, few);
          around = (ap (λ (s : Standing). s.on) same, ap (λ (s : Standing). s.outermost) same);
          starts =
              omega (arith, onward.forward, ap (λ (e : End). e.index) out, ap (λ (e : End). e.index) in_line_writes.end);
          begins = omega (arith, in_line (drop white content) stop c written.stands, line_end);
        },
        place,
      )

  -- the white space is that of the first line
  pub text_entered : (a b c d : Walk A) (name : Name) (white : ℕ) (here : LineRest) (left after : List LineRest) (others : List BlockLine)
      → standing b ≡ standing a → BeginsContent a b → white ≡ white_count (map code_byte (block_codes (rest_of b.rest))) → standing c ≡ standing b
      → ((front line : List ℕ) → white ≡ length front → same_name SpaceOrTab BlockQuotePrefix ≡ false → StandsInLine text (front ++ line) b → HasBytes text SpaceOrTab white b
      → WritesInLine text front (void_nodes text SpaceOrTab (end_in b.out) (end_after (end_in b.out) white)) line b c)
      → standing d ≡ standing c → ((line : List ℕ) → StandsInLine text line c → EntersInLine text name line c d)
      → StandsAt text (Within here left) (standing a) → IsWrittenToRest a → IsInOrder text a.out
      → AreTaken a.on.now (around (standing a)) IsRestLine others (Between left) (Between after)
      → EntersAt text name (content_text (rest_line here.rest here.beside ∷ others)) (text_stop (rest_line here.rest here.beside ∷ others) after) a d
  text_entered a b c d name white here left after others same_b begins white_is same_c writes same_d enters at to_rest order taken =
      let first = rest_line here.rest here.beside in
      let content = content_text (first ∷ others) in
      let line = map code_byte (block_codes here.rest) in
      let is = lines_ahead first others in
      let rest_is : rest_of b.rest ≡ here.rest = ap (λ (s : Standing). s.rest) same_b ∙ at.rest in
      let few : white ≤ white_count content =
      subst (λ k. k ≤ white_count content) (sym (white_is ∙ ap (λ r. white_count (map code_byte (block_codes r))) rest_is))
      (subst (λ bs. white_count line ≤ white_count bs) is (white_ahead line here.beside.ending others)) in
      (white_entered a b c d name white here left after others same_b begins few same_c writes same_d enters at to_rest order taken).0
