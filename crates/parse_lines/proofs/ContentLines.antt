-- A content, from line to line.
use Rattle.parse_lines.proofs.Prelude.{IsToken, is_token}
use Rattle.parse_lines.proofs.Prelude.{AreNext, AreTaken, around, Around, AtEnding, BeginsLine, Between, block_codes, BlockLine, bytes_of, cases_Bool}
use Rattle.parse_lines.proofs.Prelude.{code_byte, cond-false, cond-true, Cons, Constructs, Container, content_end_in, content_from, drop-append_seam, End}
use Rattle.parse_lines.proofs.Prelude.{end_after, end_at, end_in, ending_bytes, ending_text, ends_line, EndsLine, enter_at, eqb-true, exit_at, flat_text}
use Rattle.parse_lines.proofs.Prelude.{Follows, HasSameOpen, if◌then◌else◌, is_tab_column, IsApart, IsInLine, IsInOrder, IsRestLine, IsSameText, line_after}
use Rattle.parse_lines.proofs.Prelude.{line_left, LineEnding, LineRest, lines, list_any, map, Name, Nil, one, Option, or_parts, Output, Place}
use Rattle.parse_lines.proofs.Prelude.{prefix_len, prefixed, Prefixed, replicate, Rest, rest_of, rest_start, reverse, same_name, standing, Standing}
use Rattle.parse_lines.proofs.Prelude.{StandsAt, StandsInContent, Stop, take-append_seam, text_between, true≢false, Walk, whole, Within, Writes}
use Rattle.parse_lines.proofs.Prelude.{writes_both, writes_joined, written_to}
use Rattle.std.proofs.Common.{◌≡◌, ℕ, ◌+◌, ◌-◌, ◌<◌, ◌≤◌, ◌^◌, Bool, true, false, List, [], ◌∷◌, ◌++◌, None, Some, eqb, inl, inr, refl, sym, ap, ap₂, ◌∙◌, subst}
use Rattle.std.proofs.Common.{drop, get_or, take, length, length-append, arith}
use Rattle.markdown_options.specs.declared.line_ending.LineEnding.TheVariants.{CarriageReturnLineFeed, CarriageReturn, LineFeed}
use Rattle.definition_text.specs.BlockLines.{last_ending_or}
use Rattle.markdown_options.specs.declared.beside.Kind.TheVariants.{Whitespace}
use Rattle.parse_laid.specs.Leaves.{IsTextLine}
use Rattle.engine_events.specs.declared.event.Name.TheVariants as n
use Rattle.parse_lines.specs.Ends.{IsWrittenToRest, WritesEnding, WritesLine}
use Rattle.parse_lines.specs.InContent.{BeginsContent, WritesEndingIn}
use Rattle.parse_slots.proofs.Voids.{void_is}
use Rattle.parse_lines.proofs.Ends.{end_to_next}
use Rattle.parse_lines.proofs.InContent.{both_open, line_and_tail, no_more, tail_from}
use Rattle.parse_lines.proofs.Next.{drop_over, left_bytes, left_next}
use Rattle.parse_lines.proofs.NextLine.{at_line_end, code_bytes, copies, ending_starts, ending_text_is, left_dark, left_some, left_to_end, next_taken, same_ending}
use Rattle.parse_lines.proofs.Lines.{lines_joined}
use Rattle.parse_lines.proofs.Sizes.{content_size, line_size}
use Rattle.parse_lines.proofs.Steps.{at_ending}
use Rattle.parse_lines.proofs.Written.{ending_end}

-- the columns that a rest owes
pub start_owed : (line_end : ℕ) (rest : Rest) → (rest_start line_end rest).owed ≡ prefix_len is_tab_column rest
start_owed line_end rest =
    let k = prefix_len is_tab_column rest in
    elim (cases_Bool (eqb k 0)) [
      | inl t ↦ ap (λ (e : End). e.owed) (cond-true (eqb k 0) _ _ t) ∙ sym (eqb-true k 0 t)
      | inr t ↦ ap (λ (e : End). e.owed) (cond-false (eqb k 0) _ _ t)
    ]

-- the bytes of a line's ending
pub ending_between : (text : List ℕ) (s : Standing) → IsInLine text s
    → text_between text (end_at s.line_end 0) (end_at (s.size - length s.left) 0) ≡ ending_text s.ending
ending_between text s line =
    let rest = ending_text s.ending ++ s.left in
    let reach = (ending_end text s line).0 in
    let size : (s.size - length s.left) - s.line_end ≡ length (ending_text s.ending) = omega (arith, reach) in
    let there : drop s.line_end text ≡ rest =
    ap (λ (k : ℕ). drop k text) line.end ∙ ap (drop (length line.before + length line.content)) line.parts.parts
    ∙ drop_over line.before (line.content ++ rest) (length line.content) ∙ drop-append_seam line.content rest in
    ap (λ (k : ℕ). take k (drop s.line_end text)) size ∙ ap (take (length (ending_text s.ending))) there ∙ take-append_seam (ending_text s.ending) s.left

-- ---- all that is left of a line, and the lines after it, are ahead

module _ {A : Type 0} (text : List ℕ) (stop : Stop) where
  pub stands_within : (content : List ℕ) (w : Walk A) (here : LineRest) (left after : List LineRest) (others : List BlockLine)
      → StandsAt text (Within here left) (standing w) → IsInOrder text w.out → IsWrittenToRest w → w.line_place ≡ w.place
      → w.line_start ≡ rest_start w.line_end (rest_of w.rest) → AreTaken w.on.now (around (standing w)) IsRestLine others (Between left) (Between after)
      → w.place + length content < 2 ^ 64 → content ≡ content_from (map code_byte (block_codes here.rest)) here.beside.ending others
      → stop.place ≡ AtEnding (last_ending_or here.beside.ending others) after → stop.behind ≡ 0 → length text < 2 ^ 61
      → StandsInContent text content stop w
  stands_within content w here left after others st order written place start taken fits content_is last behind size =
      let line = map code_byte (block_codes here.rest) in
      let suffix = drop st.columns (whole st.line.content) in
      let rest_is : rest_of w.rest ≡ suffix = st.rest ∙ st.suffix in
      let line_is : line ≡ left_bytes suffix = code_bytes here.rest ∙ ap left_bytes st.suffix in
      let from : w.line_start ≡ rest_start w.line_end suffix = start ∙ ap (rest_start w.line_end) rest_is in
      let none : w.place - w.line_place ≡ 0 = omega (arith, place) in
      let here_end : content_end_in w ≡ rest_start w.line_end suffix = ap (end_after w.line_start) none ∙ from in
      let end : end_in w.out ≡ rest_start w.line_end suffix = written ∙ ap (rest_start w.line_end) rest_is in
      let next : AreNext text (rest_start w.line_end suffix) (left_bytes suffix) =
      left_next text st.line.before st.line.content (ending_text w.ending ++ w.left.now) w.line_end st.columns st.line.parts st.line.end in
      let to : end_after (end_in w.out) (length line) ≡ end_at w.line_end 0 =
      ap₂ (λ (e : End) (xs : List ℕ). end_after e (length xs)) end line_is
      ∙ left_to_end text st.line.before st.line.content (ending_text w.ending ++ w.left.now) w.line_end st.columns st.line.parts st.line.end in
      let all : length content ≡ length line + length (tail_from here.beside.ending others) =
      ap length content_is ∙ ap length (line_and_tail line here.beside.ending others) ∙ length-append line (tail_from here.beside.ending others) in
      let owed : (end_in w.out).owed ≡ prefix_len is_tab_column suffix = ap (λ (e : End). e.owed) end ∙ start_owed w.line_end suffix in
      let sizes : length line ≡ prefix_len is_tab_column suffix + length (bytes_of suffix) =
      ap length line_is ∙ length-append (replicate (prefix_len is_tab_column suffix) 32) (bytes_of suffix)
      ∙ ap (λ (k : ℕ). k + length (bytes_of suffix)) (copies (prefix_len is_tab_column suffix) 32) in
      record {
        line = line;
        ending = here.beside.ending;
        others = others;
        left = left;
        after = after;
        parts = content_is;
        dark =
            ap (list_any ends_line) line_is
            ∙ left_dark text st.line.before st.line.content (ending_text w.ending ++ w.left.now) st.columns st.line.parts;
        stands = record {
          order = order;
          at = end ∙ sym here_end;
          next = subst (λ (xs : List ℕ). AreNext text (content_end_in w) xs) (sym line_is)
              (subst (λ (e : End). AreNext text e (left_bytes suffix)) (sym here_end) next);
          place = omega (arith, place);
          fits = omega (arith, fits, all);
          size = size;
        };
        at = at_ending text here left (standing w) st;
        ahead = taken;
        last = last;
        full = λ some. (to, behind);
        end = λ none. omega (arith, ap (λ (e : End). e.index) to, behind);
        columns = omega (arith, owed, sizes);
        fits = fits;
      }

-- ---- through the ending of a line

-- a line that isn't empty doesn't begin with LF
not_feed_first : (line tail bs : List ℕ) → 0 < length line → list_any ends_line line ≡ false → line ++ tail ≡ 10 ∷ bs → ⊥
not_feed_first [] tail bs some dark is = absurd (omega (arith, some))
not_feed_first (x ∷ xs) tail bs some dark is =
    let first : x ≡ 10 = ap (λ (l : List ℕ). get_or l 0 0) is in
    absurd (true≢false (sym (ap ends_line first) ∙ (or_parts (ends_line x) (list_any ends_line xs) dark).0))

found_ending : (found : Option LineEnding) (ending : LineEnding) (content more : List ℕ) → (found ≡ None → ⊥)
    → ending_bytes ending ++ content ≡ ending_text found ++ more → ((bs : List ℕ) → more ≡ 10 ∷ bs → ⊥) → IsApart ending content
    → (found ≡ Some ending) × (content ≡ more)
found_ending None ending content more some is other apart = absurd (some refl)
found_ending (Some e) ending content more some is other apart = same_ending e ending content more is other apart

some_bytes : (ending : LineEnding) → 0 < length (ending_bytes ending)
some_bytes LineFeed = omega arith
some_bytes CarriageReturn = omega arith
some_bytes CarriageReturnLineFeed = omega arith

module _ {A : Type 0} (text : List ℕ) (stop : Stop) where
  pub writes_ending : (name : Name) (ending : LineEnding) (content : List ℕ) (old mid begun new : Walk A) (size : ℕ) → size ≡ length (ending_bytes ending)
      → IsApart ending content → same_name name n.Data ≡ false → same_name name n.BlockQuotePrefix ≡ false
      → is_token name (ending_bytes ending) ≡ true → StandsInContent text (ending_bytes ending ++ content) stop old
      → EndsLine (standing old) (standing mid) → WritesEnding name old mid → HasSameOpen (standing old) (standing mid)
      → BeginsLine (standing mid) (standing begun) → WritesLine mid begun → HasSameOpen (standing mid) (standing begun)
      → standing new ≡ standing begun → new.out ≡ begun.out → new.place ≡ old.place + size → new.line_place ≡ new.place
      → new.line_start ≡ rest_start begun.line_end (rest_of begun.rest) → WritesEndingIn text name ending content stop old new
  writes_ending name ending content old mid begun new size sized apart other quote may st ends ending_written open_mid begins line_written open_begun same out place
      line_place line_start =
      let on = old.on.now in
      let containers = around (standing old) in
      let end = at_line_end st.line st.ending st.others ending content st.parts st.dark in
      let next = end.next in
      let more = end.more in
      let ahead : AreTaken on containers IsRestLine (next ∷ more) (Between st.left) (Between st.after) =
      subst (λ (ls : List BlockLine). AreTaken on containers IsRestLine ls (Between st.left) (Between st.after)) end.others_are st.ahead in
      let taken = next_taken on containers next more st.left (Between st.after) ahead in
      let first = taken.first in
      let others = taken.others in
      let at : StandsAt text (AtEnding st.ending (first ∷ others)) (standing old) =
      subst (λ (ls : List LineRest). StandsAt text (AtEnding st.ending ls) (standing old)) taken.left_is st.at in
      let some : 0 < length st.others = omega (arith, ap length end.others_are) in
      let full = st.full some in
      let here_end : written_to old ≡ end_at old.line_end 0 =
      ap (λ (xs : List ℕ). end_after (end_in old.out) (length xs)) (sym end.line_is) ∙ full.0 in
      let order = st.stands.order in
      let follows : Follows text (written_to old) (line_after old) =
      subst (λ (x : End). Follows text x (line_after old)) (sym here_end) (end_to_next text (standing old) st.at.line) in
      let between = ends text st.ending (first ∷ others) at in
      let here = line_left (prefixed on containers first) in
      let here_same : line_left (prefixed mid.on.now (around (standing mid)) first) ≡ here =
      ap₂ (λ (o : Constructs) (cs : List Container). line_left (prefixed o (reverse cs) first)) open_mid.0 open_mid.1 in
      let within_begun : StandsAt text (Within here others) (standing begun) =
      subst (λ (l : LineRest). StandsAt text (Within l others) (standing begun)) here_same (begins text first others between) in
      let within : StandsAt text (Within here others) (standing new) = subst (StandsAt text (Within here others)) (sym same) within_begun in
      let opened = both_open (standing old) (standing mid) (standing begun) open_mid open_begun in
      let open_new : HasSameOpen (standing old) (standing new) = subst (HasSameOpen (standing old)) (sym same) opened in
      -- the next line
      let line = map code_byte (block_codes here.rest) in
      let codes : map code_byte next.codes ≡ line = ap (λ (l : BlockLine). map code_byte l.codes) taken.line.1 in
      let line_is : line ≡ left_bytes (drop within.columns (whole within.line.content)) = code_bytes here.rest ∙ ap left_bytes within.suffix in
      let dark : list_any ends_line line ≡ false =
      ap (list_any ends_line) line_is
      ∙ left_dark text within.line.before within.line.content (ending_text new.ending ++ new.left.now) within.columns within.line.parts in
      let not_blank : 0 < length line = subst (λ (xs : List ℕ). 0 < length xs) (sym (code_bytes here.rest)) (left_some here.rest taken.line.0) in
      let tail = content_from (map code_byte next.codes) next.ending more in
      let tail_is : tail ≡ content_from line here.beside.ending more =
      ap₂ (λ (xs : List ℕ) (e : Option LineEnding). content_from xs e more) codes (ap (λ (l : BlockLine). l.ending) taken.line.1) in
      let parts : ending_bytes ending ++ content ≡ ending_text st.ending ++ tail =
      st.parts ∙ ap₂ (λ (xs : List ℕ) (ls : List BlockLine). content_from xs st.ending ls) end.line_is end.others_are in
      let found =
      found_ending st.ending ending content tail
      (λ none. no_more text st.left (standing old) on containers IsRestLine next more (Between st.after)
      (subst (λ (e : Option LineEnding). StandsAt text (AtEnding e st.left) (standing old)) none st.at) ahead)
      parts (λ bs is. not_feed_first line (tail_from here.beside.ending more) bs not_blank dark
      (sym (line_and_tail line here.beside.ending more) ∙ sym tail_is ∙ is)) apart in
      -- the ending
      let from = written_to old in
      let to = line_after old in
      let node = Around (enter_at text name from) Nil (exit_at text name to) in
      let ending_is : ending_text old.ending ≡ ending_bytes ending = ap ending_text (st.at.ending ∙ found.0) in
      let bytes : text_between text from to ≡ ending_bytes ending =
      ap (λ (x : End). text_between text x to) here_end ∙ ending_between text (standing old) st.at.line ∙ ending_is in
      let token : IsToken text name from to =
      record { follows = follows; bytes = λ apart. ap (is_token name) bytes ∙ may } in
      let ended = ending_written text st.ending (first ∷ others) at order token in
      let began = line_written text first others between ended.1 ended.0.order in
      let reach = (ending_end text (standing old) st.at.line).0 in
      let further : from.index < to.index =
      omega (arith, ap (λ (x : End). x.index) here_end, reach, ap length ending_is, some_bytes ending) in
      let first_writes : Writes text old.out mid.out (one node) =
      subst (Writes text old.out mid.out) (void_is text name from to further other) ended.0 in
      let quiet = began.0.nodes in
      let all : Writes text old.out new.out (Cons node quiet) =
      subst (λ (o : Output A). Writes text old.out o (Cons node quiet)) (sym out)
      (writes_both text old.out mid.out begun.out (one node) quiet first_writes began.0.writes) in
      let written : IsWrittenToRest new =
      ap (λ (o : Output A). end_in o) out ∙ began.1 ∙ ap₂ rest_start (ap (λ (s : Standing). s.line_end) (sym same))
      (ap (λ (s : Standing). s.rest) (sym same)) in
      let sizes : length (ending_bytes ending ++ content) ≡ length (ending_bytes ending) + length content = length-append (ending_bytes ending) content in
      let stands : StandsInContent text content stop new =
      stands_within text stop content new here others st.after more within all.order written line_place
      (line_start ∙ ap₂ rest_start (ap (λ (s : Standing). s.line_end) (sym same)) (ap (λ (s : Standing). s.rest) (sym same)))
      (subst (λ (s : Standing). AreTaken s.on (around s) IsRestLine more (Between others) (Between st.after)) (sym same)
      (subst (λ (o : Constructs). AreTaken o (around (standing begun)) IsRestLine more (Between others) (Between st.after)) (sym opened.0)
      (subst (λ (cs : List Container). AreTaken on (reverse cs) IsRestLine more (Between others) (Between st.after)) (sym opened.1) taken.taken)))
      (omega (arith, st.fits, place, sized, sizes)) (found.1 ∙ tail_is)
      (st.last ∙ ap (λ (ls : List BlockLine). AtEnding (last_ending_or st.ending ls) st.after) end.others_are
      ∙ ap (λ (e : Option LineEnding). AtEnding (last_ending_or e more) st.after) (ap (λ (l : BlockLine). l.ending) taken.line.1))
      full.1 st.stands.size in
      let node_is : flat_text text (Cons node quiet) ≡ ending_bytes ending ++ flat_text text quiet =
      ap (λ (b : Bool). (if b then [] else text_between text from to) ++ flat_text text quiet) quote ∙ ap (λ (xs : List ℕ). xs ++ flat_text text quiet) bytes in
      record {
        node = node;
        named = refl;
        empty = refl;
        bytes = bytes;
        quiet = quiet;
        are_quiet = began.0.quiet;
        writes = record {
          writes = all;
          stands = stands;
          around = open_new;
          place = place ∙ ap (λ (k : ℕ). old.place + k) sized;
          joined = writes_joined text old.out new.out (Cons node quiet) order all;
          has_text = λ start may. record {
            same = subst (IsSameText start (ending_bytes ending)) (sym node_is) (ending_text_is start ending (flat_text text quiet) began.0.white);
            may_start = λ owed. ending_starts start ending;
          };
        };
      }

-- ---- the first line

module _ {A : Type 0} where
  pub begins_content : (old new : Walk A) → standing new ≡ standing old → new.out ≡ old.out → new.place ≡ 0 → new.line_place ≡ 0
      → new.line_start ≡ rest_start old.line_end (rest_of old.rest) → BeginsContent old new
  begins_content old new same out place line_place line_start text here left after others st written order taken =
      let line = map code_byte (block_codes here.rest) in
      let ending = here.beside.ending in
      let content = content_from line ending others in
      let unread_is = subst (λ (ls : List LineRest). AreTaken old.on.now (around (standing old)) IsRestLine others (Between ls) (Between after)) st.unread
      taken in
      let all = content_size old.on.now (around (standing old)) (lines old.left.now) Whitespace line ending others (Between after) unread_is in
      let left_is = ap length (lines_joined old.left.now) in
      let first = line_size st.line.content here.rest (st.columns, st.suffix) in
      let ending_is : ending_text old.ending ≡ ending_text ending = ap ending_text st.ending in
      let sizes : length text ≡ length st.line.before + (length st.line.content + (length (ending_text old.ending) + length old.left.now)) =
      ap length st.line.parts.parts ∙ length-append st.line.before _ ∙ ap (λ (k : ℕ). length st.line.before + k) (
      length-append st.line.content _ ∙ ap (λ (k : ℕ). length st.line.content + k) (length-append (ending_text old.ending) old.left.now)
      ) in
      let fits = st.line.parts.fits in
      let line_end = ap (λ (s : Standing). s.line_end) (sym same) in
      let rest = ap (λ (s : Standing). s.rest) (sym same) in (
        stands_within text (record { place = AtEnding (last_ending_or ending others) after; behind = 0 }) content new here left after others
            (subst (StandsAt text (Within here left)) (sym same) st)
            (subst (λ (o : Output A). IsInOrder text o) (sym out) order)
            (ap (λ (o : Output A). end_in o) out ∙ written ∙ ap₂ rest_start line_end rest)
            (line_place ∙ sym place)
            (line_start ∙ ap₂ rest_start line_end rest)
            (subst (λ (s : Standing). AreTaken s.on (around s) IsRestLine others (Between left) (Between after)) (sym same) taken)
            (omega (arith, place, all, left_is, first, ap length ending_is, sizes, fits)) refl refl refl (omega (arith, fits)),
        place,
        out,
      )

-- ---- the end

-- a content of which nothing is ahead
pub record IsDone {A : Type 0} (text : List ℕ) (stop : Stop) (w : Walk A) : Type 0 where
  pub at : StandsAt text stop.place (standing w)
  pub index : (end_in w.out).index + stop.behind ≡ w.line_end
  pub whole : (end_in w.out).owed ≡ 0
  pub order : IsInOrder text w.out

no_ending : (text : List ℕ) (left : List LineRest) (s : Standing) (on : Constructs) (containers : List Container) (line : List ℕ) (ending : Option LineEnding)
    (next : BlockLine) (more : List BlockLine) (to : Place) → StandsAt text (AtEnding ending left) s
    → AreTaken on containers IsRestLine (next ∷ more) (Between left) to → [] ≡ content_from line ending (next ∷ more) → ⊥
no_ending text left s on containers line None next more to at taken is = no_more text left s on containers IsRestLine next more to at taken
no_ending text left s on containers line (Some e) next more to at taken is =
    let tail = content_from (map code_byte next.codes) next.ending more in
    let size : 0 ≡ length line + (length (ending_bytes e) + length tail) =
    ap length is ∙ length-append line (ending_bytes e ++ tail) ∙ ap (λ (k : ℕ). length line + k) (length-append (ending_bytes e) tail) in
    absurd (omega (arith, size, some_bytes e))

between_same : (a b : List LineRest) → Between a ≡ Between b → a ≡ b
between_same a b is = cc

done_at : {A : Type 0} (text line : List ℕ) (ending : Option LineEnding) (others : List BlockLine) (left after : List LineRest) (stop : Stop) (w : Walk A)
    → [] ≡ content_from line ending others → StandsAt text (AtEnding ending left) (standing w)
    → AreTaken w.on.now (around (standing w)) IsRestLine others (Between left) (Between after) → stop.place ≡ AtEnding (last_ending_or ending others) after
    → (length others ≡ 0 → (end_after (end_in w.out) (length line)).index + stop.behind ≡ w.line_end) → (end_in w.out).owed ≤ length line
    → IsInOrder text w.out → IsDone text stop w
done_at text line ending (next ∷ more) left after stop w is at taken last end columns order =
    absurd (no_ending text left (standing w) w.on.now (around (standing w)) line ending next more (Between after) at taken is)
done_at text line ending [] left after stop w is at taken last end columns order =
    let none = between_same left after taken in
    record {
      at =
          subst (λ (p : Place). StandsAt text p (standing w)) (sym last)
          (subst (λ (ls : List LineRest). StandsAt text (AtEnding ending ls) (standing w)) none at);
      index = ap (λ (xs : List ℕ). (end_after (end_in w.out) (length xs)).index + stop.behind) is ∙ end refl;
      whole = omega (arith, columns, ap length is);
      order = order;
    }

-- where nothing of a content is ahead, the walk is where it ends
pub content_done : {A : Type 0} (text : List ℕ) (stop : Stop) (w : Walk A) → StandsInContent text [] stop w → IsDone text stop w
content_done text stop w st =
    done_at text st.line st.ending st.others st.left st.after stop w st.parts st.at st.ahead st.last st.end st.columns st.stands.order

-- lines that are taken as others
taken_as : (on : Constructs) (containers : List Container) (P Q : Prefixed → BlockLine → Type 0)
    → ((here : Prefixed) (line : BlockLine) → P here line → Q here line)
    → (ls : List BlockLine) (from to : Place) → AreTaken on containers P ls from to → AreTaken on containers Q ls from to
taken_as on containers P Q f [] from to taken = taken
taken_as on containers P Q f (line ∷ others) from to taken =
    (taken.0, taken.1, taken.2, f taken.0 line taken.3, taken_as on containers P Q f others (Between taken.1) to taken.4)

-- lines of a paragraph are lines of a content
pub text_lines_taken : (on : Constructs) (containers : List Container) (ls : List BlockLine) (from to : Place)
    → AreTaken on containers (IsTextLine on) ls from to
    → AreTaken on containers IsRestLine ls from to
text_lines_taken on containers ls from to taken =
    taken_as on containers (IsTextLine on) IsRestLine (λ here line is. (is.0.1, is.1)) ls from to taken
