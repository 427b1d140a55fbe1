-- Parts of a line as contents: the rest of the line comes after them.
use Rattle.std.proofs.Common.{◌≡◌, ◌<◌, ℕ, ◌+◌, List, [], ◌∷◌, ◌++◌, Option, None, get_or, length, length-append, refl, sym, ap, ap₂, subst, ◌∙◌, false, arith}
use Rattle.parse_lines.proofs.Prelude.{AreNext, AtEnding, bytes_of, bytes_of_codes, End, end_after, end_at, end_in, ending_text, ends_line, IsInLine}
use Rattle.parse_lines.proofs.Prelude.{IsInOrder, Kind, LineEnding, LineRest, lines, list_any, Standing, standing, StandsAt, StandsInContent, TextLine, unread}
use Rattle.parse_lines.proofs.Prelude.{Walk}
use Rattle.markdown_options.specs.declared.beside.Kind.TheVariants.{Whitespace}
use Rattle.parse_lines.specs.Content.{BeginsLineAfter}
use Rattle.parse_lines.specs.InContent.{IsWhole}
use Rattle.parse_lines.proofs.Ahead.{after_bytes, next_after, owes}
use Rattle.parse_lines.proofs.ContentLines.{content_done}
use Rattle.parse_lines.proofs.Lines.{joined, lines_joined}
use Rattle.parse_lines.proofs.Spots.{bytes_after, bytes_before}

-- ---- one line of a text

-- lines of which the same is unread have the same bytes
unread_same : (kind : Kind) (xs ys : List TextLine) → ((k : ℕ) → get_or (joined xs) k 0 < 256) → ((k : ℕ) → get_or (joined ys) k 0 < 256)
    → unread kind xs ≡ unread kind ys → joined xs ≡ joined ys
unread_same kind [] [] p q h = refl
unread_same kind [] (y ∷ ys) p q h = absurd (cc)
unread_same kind (x ∷ xs) [] p q h = absurd (cc)
unread_same kind (x ∷ xs) (y ∷ ys) p q h =
    let own = λ (line : TextLine). line.content ++ ending_text line.ending in
    let first = ap (λ (ls : List LineRest). rest_at ls) h in
    let bytes = sym (bytes_of_codes 0 x.content (bytes_before x.content (ending_text x.ending) (bytes_before (own x) (joined xs) p)))
    ∙ ap bytes_of first
    ∙ bytes_of_codes 0 y.content (bytes_before y.content (ending_text y.ending) (bytes_before (own y) (joined ys) q)) in
    let ending = ap (λ (ls : List LineRest). ending_in ls) h in
    ap₂ (λ (content : List ℕ) (e : Option LineEnding). (content ++ ending_text e) ++ joined xs) bytes ending
    ∙ ap (λ (others : List ℕ). own y ++ others)
    (unread_same Whitespace xs ys (bytes_after (own x) (joined xs) p) (bytes_after (own y) (joined ys) q) (ap others_in h))
  where
    rest_at : List LineRest → List ℕ
    rest_at [] = []
    rest_at (l ∷ ls) = l.rest

    ending_in : List LineRest → Option LineEnding
    ending_in [] = None
    ending_in (l ∷ ls) = l.beside.ending

    others_in : List LineRest → List LineRest
    others_in [] = []
    others_in (l ∷ ls) = ls

pub line_size : (text : List ℕ) (u : Standing) (line : IsInLine text u) → u.line_end + length (ending_text u.ending ++ u.left) ≡ length text
line_size text u line =
    let tail = ending_text u.ending ++ u.left in
    let all = ap length line.parts.parts in
    let front = length-append line.before (line.content ++ tail) in
    let more = length-append line.content tail in
    let end = line.end in
    omega (arith, all, front, more, end)

-- a line that is begun, with this ending and these lines after it, ends at one place
pub same_line : (text : List ℕ) (ending : Option LineEnding) (left : List LineRest) (s t : Standing) → StandsAt text (AtEnding ending left) s
    → StandsAt text (AtEnding ending left) t → s.line_end ≡ t.line_end
same_line text ending left s t a b =
    let bytes_left = λ (u : Standing) (line : IsInLine text u).
    bytes_after (ending_text u.ending) u.left (bytes_after line.content (ending_text u.ending ++ u.left)
    (bytes_after line.before (line.content ++ (ending_text u.ending ++ u.left)) (subst
    (λ (xs : List ℕ). (k : ℕ) → get_or xs k 0 < 256) line.parts.parts line.over.bytes))) in
    let lines_bytes = λ (u : Standing) (line : IsInLine text u).
    subst (λ (xs : List ℕ). (k : ℕ) → get_or xs k 0 < 256) (sym (lines_joined u.left)) (bytes_left u line) in
    let same : s.left ≡ t.left = sym (lines_joined s.left)
    ∙ unread_same Whitespace (lines s.left) (lines t.left) (lines_bytes s a.line) (lines_bytes t b.line) (sym a.unread ∙ b.unread)
    ∙ lines_joined t.left in
    let first = line_size text s a.line in
    let second = line_size text t b.line in
    let tails : length (ending_text s.ending ++ s.left) ≡ length (ending_text t.ending ++ t.left) =
    ap₂ (λ (e : Option LineEnding) (l : List ℕ). length (ending_text e ++ l)) (a.ending ∙ sym b.ending) same in
    omega (arith, first, second, tails)

-- ---- a part of the line

-- where these bytes are next, so are the first of them
next_front : (text front line : List ℕ) (end : End) → AreNext text end (front ++ line) → AreNext text end front
next_front text [] line end are = owes text end line are
next_front text (b ∷ front) line end are = (are.0, next_front text front line _ are.1)

module _ {A : Type 0} (text : List ℕ) (ending : Option LineEnding) (left : List LineRest) where
  -- a content begins that is a part of the line, after so many columns of it
  pub part_begins : (columns : ℕ) (old new : Walk A) (content behind : List ℕ) → BeginsLineAfter columns old new → standing new ≡ standing old → columns < 256
      → StandsAt text (AtEnding ending left) (standing old) → IsInOrder text old.out → AreNext text (end_in old.out) (content ++ behind)
      → IsWhole old → (end_in old.out).index + length (content ++ behind) ≡ old.line_end → list_any ends_line content ≡ false
      → StandsInContent text content (record { place = AtEnding ending left; behind = length behind }) new × (end_in new.out ≡ end_in old.out)
  part_begins columns old new content behind begun same few at order next bare end dark =
      let here = end_in old.out in
      let fits = at.line.parts.fits in
      let all = length-append content behind in
      let size = line_size text (standing old) at.line in
      let both = begun text content order (next_front text content behind here next) (omega (arith, fits)) (omega (arith, all, end, fits, few, size)) in
      let there : end_after here (length content) ≡ end_at (here.index + length content) 0 =
      ap (λ (o : ℕ). end_after (end_at here.index o) (length content)) bare ∙ after_bytes here.index (length content) in
      let line_end : new.line_end ≡ old.line_end = ap (λ (s : Standing). s.line_end) same in
      let index : (end_after (end_in new.out) (length content)).index ≡ here.index + length content =
      ap (λ (e : End). (end_after e (length content)).index) both.1 ∙ ap (λ (e : End). e.index) there in
      let owed : (end_in new.out).owed ≡ 0 = ap (λ (e : End). e.owed) both.1 ∙ bare in (
        record {
          line = content;
          ending = ending;
          others = [];
          left = left;
          after = left;
          parts = refl;
          dark = dark;
          stands = both.0;
          at = subst (StandsAt text (AtEnding ending left)) (sym same) at;
          ahead = refl;
          last = refl;
          full = λ none. absurd (omega (arith, none));
          end = λ _. omega (arith, index, all, end, line_end);
          columns = omega (arith, owed);
          fits = both.0.fits;
        },
        both.1,
      )

  -- after a part that is all written, the rest of the line is next
  pub part_ends : (old new : Walk A) (content behind : List ℕ) → StandsAt text (AtEnding ending left) (standing old)
      → AreNext text (end_in old.out) (content ++ behind)
      → IsWhole old → (end_in old.out).index + length (content ++ behind) ≡ old.line_end
      → StandsInContent text [] (record { place = AtEnding ending left; behind = length behind }) new
      → StandsAt text (AtEnding ending left) (standing new) × IsWhole new × AreNext text (end_in new.out) behind
      × ((end_in new.out).index + length behind ≡ new.line_end)
  part_ends old new content behind at next bare end st =
      let here = end_in old.out in
      let done = content_done text _ new st in
      let same = same_line text ending left (standing old) (standing new) at done.at in
      let size = length-append content behind in
      let index = done.index in
      let there : (end_in new.out).index ≡ here.index + length content = omega (arith, index, same, size, end) in
      let place : end_after here (length content) ≡ end_in new.out =
      ap (λ (o : ℕ). end_after (end_at here.index o) (length content)) bare
      ∙ after_bytes here.index (length content)
      ∙ ap₂ end_at (sym there) (sym done.whole) in
      (done.at, done.whole, subst (λ (e : End). AreNext text e behind) place (next_after text content behind here next), index)
