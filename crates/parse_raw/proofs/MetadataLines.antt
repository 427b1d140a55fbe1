-- The lines of frontmatter, and what is written of them (in neither standard).
use Rattle.std.proofs.Common.{◌≡◌, ℕ, suc, ◌-◌, ◌<◌, true, ◌&&◌, List, [], ◌∷◌, ◌++◌, Option, None, Some, inl, inr, refl, sym, ap, subst, ◌∙◌}
use Rattle.std.proofs.Common.{drop, get_or, length, reverse, arith}
use Rattle.parse_raw.proofs.Prelude.{and_parts, AreLeft, AreRaw, AreTaken, at_ending, AtEnding, beside_line, Between, BlockLine, bytes_after}
use Rattle.parse_raw.proofs.Prelude.{bytes_of, cases_Bool, cond-false, cond-true, Constructs, Container, end_at, ending_text, InAll}
use Rattle.parse_raw.proofs.Prelude.{IsCutLine, IsInOrder, IsWrittenToRest, left_within, line_left, line_rest, LineEnding, LineRest, lines}
use Rattle.parse_raw.proofs.Prelude.{Nodes, prefixed, Rest, rest_line, rest_of, rest_start, standing, StandsAt, start_whole}
use Rattle.parse_raw.proofs.Prelude.{TextLine, unread, Walk, whole, Within, Writes, WritesCutLines, WritesLines, written_to}
use Rattle.parse_raw.proofs.Prelude.{append, AreNext, Around, End, enter_at, exit_at, left_bytes, left_next, replicate, space}
use Rattle.std.specs.Prelude.{codes}
use Rattle.event_tokens.specs.Tokens.{is_among}
use Rattle.parse_raw.specs.Bytes.{AreMetadataFence}
use Rattle.markdown_options.specs.declared.beside.Kind.TheVariants.{Whitespace}
use Rattle.engine_events.specs.declared.event.Name.TheVariants as n
use Rattle.event_grammar.specs.declared.slot.Between.TheVariants.{Lines}
use Rattle.event_grammar.specs.declared.slot.Form.TheVariants.{Plain}
use Rattle.event_grammar.specs.declared.slot.Slot.{Slot}
use Rattle.event_grammar.specs.Grammar.{many, one as one_slot, row}
use Rattle.event_grammar.specs.Slots.{take_child}
use Rattle.parse_slots.specs.Left.{Fill, IsFilled, TakesNoBetween, took}
use Rattle.parse_slots.proofs.Steps.{fill_both, fill_taken, filled_by}
use Rattle.parse_raw.specs.RawLines.{TakesChunks}
use Rattle.parse_raw.specs.Tokens.{PassesEvent}
use Rattle.definition_block.specs.Frontmatter.{after_frontmatter, after_metadata_fence, is_metadata_fence}
use Rattle.text_lines.proofs.Codes.{bytes_of_codes, no_columns}
use Rattle.parse_lines.proofs.Lines.{joined, lines_joined}
use Rattle.parse_lines.proofs.Spots.{bytes_before}
use Rattle.parse_raw.proofs.LeafNodes.{line_in_text}
use Rattle.parse_raw.proofs.Tokens.{left_none, left_same}

-- ---- which lines

-- the lines of frontmatter: a fence, others, and a fence
pub record FrontLines (all others : List TextLine) : Type 0 where
  pub first : TextLine
  pub mids : List TextLine
  pub last : TextLine
  pub parts : all ≡ first ∷ (mids ++ last ∷ others)
  pub first_is : AreMetadataFence first.content
  pub last_is : AreMetadataFence last.content

record EndLines (all others : List TextLine) : Type 0 where
  mids : List TextLine
  last : TextLine
  parts : all ≡ mids ++ last ∷ others
  size : AreMetadataFence last.content

end_lines : (byte : ℕ) (all others : List TextLine) → is_among (codes "-+") byte ≡ true → after_metadata_fence byte all ≡ Some others → EndLines all others
end_lines byte [] others mark is = absurd (cc)
end_lines byte (line ∷ ls) others mark is =
    elim (cases_Bool (is_metadata_fence byte line.content)) [
      | inl h ↦
          let e : Some ls ≡ Some others = sym (cond-true (is_metadata_fence byte line.content) _ _ h) ∙ is in
          let same : ls ≡ others = cc in
          record { mids = []; last = line; parts = ap (λ (xs : List TextLine). line ∷ xs) same; size = (byte, mark, h) }
      | inr h ↦
          let more = end_lines byte ls others mark (sym (cond-false (is_metadata_fence byte line.content) _ _ h) ∙ is) in
          record { mids = line ∷ more.mids; last = more.last; parts = ap (λ (xs : List TextLine). line ∷ xs) more.parts; size = more.size }
    ]

begun_by : (byte : ℕ) (line : TextLine) (ls others : List TextLine) → is_among (codes "-+") byte ≡ true → is_metadata_fence byte line.content ≡ true → after_metadata_fence byte ls ≡ Some others
    → FrontLines (line ∷ ls) others
begun_by byte line ls others mark is found =
    let end = end_lines byte ls others mark found in
    record {
      first = line;
      mids = end.mids;
      last = end.last;
      parts = ap (λ (xs : List TextLine). line ∷ xs) end.parts;
      first_is = (byte, mark, is);
      last_is = end.size;
    }

pub front_lines : (on : Constructs) (all others : List TextLine) → after_frontmatter on all ≡ Some others → FrontLines all others
front_lines on [] others is = absurd (cc)
front_lines on (line ∷ ls) others is =
    let hyphens = on.frontmatter && is_metadata_fence 45 line.content in
    let pluses = on.frontmatter && is_metadata_fence 43 line.content in
    elim (cases_Bool hyphens) [
      | inl h ↦
          begun_by 45 line ls others refl (and_parts on.frontmatter (is_metadata_fence 45 line.content) h).1 (sym (cond-true hyphens _ _ h) ∙ is)
      | inr h ↦
          let other = sym (cond-false hyphens _ _ h) ∙ is in
          elim (cases_Bool pluses) [
            | inl k ↦ begun_by 43 line ls others refl (and_parts on.frontmatter (is_metadata_fence 43 line.content) k).1 (sym (cond-true pluses _ _ k) ∙ other)
            | inr k ↦ let none : None ≡ Some others = sym (cond-false pluses _ _ k) ∙ other in absurd (cc)
          ]
    ]

-- ---- their bytes

abbrev pub AreBytes : List ℕ → Type 0
AreBytes bs = (k : ℕ) → get_or bs k 0 < 256

last_bytes : (mids : List TextLine) (last : TextLine) (others : List TextLine) → AreBytes (joined (mids ++ last ∷ others)) → AreBytes last.content
last_bytes [] last others h =
    bytes_before last.content (ending_text last.ending) (bytes_before (last.content ++ ending_text last.ending) (joined others) h)
last_bytes (line ∷ mids) last others h =
    last_bytes mids last others (bytes_after (line.content ++ ending_text line.ending) (joined (mids ++ last ∷ others)) h)

pub line_bytes : (text : List ℕ) (mids : List TextLine) (last : TextLine) (others : List TextLine) → lines text ≡ mids ++ last ∷ others → AreBytes text
    → AreBytes last.content
line_bytes text mids last others is bytes =
    last_bytes mids last others (subst AreBytes (sym (ap joined (sym is) ∙ lines_joined text)) bytes)

-- ---- as lines of a block

abbrev pub text_lines : List TextLine → List BlockLine
text_lines [] = []
text_lines (l ∷ ls) = rest_line (whole l.content) (beside_line Whitespace l) ∷ text_lines ls

pub text_count : (ls : List TextLine) → length (text_lines ls) ≡ length ls
text_count [] = refl
text_count (l ∷ ls) = ap suc (text_count ls)

pub text_taken : (on : Constructs) (mids others : List TextLine)
    → AreTaken on [] (IsCutLine (λ rest. rest)) (text_lines mids) (Between (unread Whitespace (mids ++ others))) (Between (unread Whitespace others))
text_taken on [] others = refl
text_taken on (l ∷ ls) others =
    let own = line_rest (whole l.content) (beside_line Whitespace l) in
    (InAll own, unread Whitespace (ls ++ others), (refl, refl), (own, refl, refl), text_taken on ls others)

-- ---- in a walk

-- a line of which nothing is read
pub fresh_left : {A : Type 0} (text content : List ℕ) (w : Walk A) (here : LineRest) (left : List LineRest) → StandsAt text (Within here left) (standing w)
    → IsWrittenToRest w → IsInOrder text w.out → here.rest ≡ whole content → AreBytes content → AreLeft text content w
fresh_left text content w here left st at order is bytes =
    let rest_is : rest_of w.rest ≡ whole content = st.rest ∙ is in
    let count : length (bytes_of (whole content)) ≡ length content = ap length (bytes_of_codes 0 content bytes) in
    let fresh : left_bytes (whole content) ≡ content =
    ap (λ (k : ℕ). replicate k space ++ bytes_of (whole content)) (no_columns 0 content bytes) ∙ bytes_of_codes 0 content bytes in
    let bound = left_within st.line.content st.columns st.line.parts.bytes in
    let bound_is : length (bytes_of (drop st.columns (whole st.line.content))) ≡ length content = ap (λ (r : Rest). length (bytes_of r)) (sym st.suffix ∙ is) ∙ count in
    record {
      order = order;
      at = at ∙ ap (rest_start w.line_end) rest_is ∙ start_whole w.line_end (whole content) (no_columns 0 content bytes) ∙ ap (λ (k : ℕ). end_at (w.line_end - k) 0) count;
      next =
          subst (λ (bs : List ℕ). AreNext text (written_to w) bs) (ap left_bytes (sym st.suffix ∙ is) ∙ fresh) (
          subst (λ (e : End). AreNext text e (left_bytes (drop st.columns (whole st.line.content)))) (
          sym (at ∙ ap (rest_start w.line_end) (st.rest ∙ st.suffix))
          ) (
          left_next text st.line.before st.line.content (ending_text w.ending ++ w.left.now) w.line_end st.columns st.line.parts st.line.end
          ));
      within = omega (arith, bound, bound_is, st.line.end);
      end = line_in_text text (standing w) st.line;
      fits = st.line.over.fits;
    }

-- outside of containers a line has no prefixes
pub top_line : (on : Constructs) (outermost : List Container) (next : LineRest) → outermost ≡ [] → line_left (prefixed on (reverse outermost) next) ≡ next
top_line on outermost next none = ap (λ (cs : List Container). line_left (prefixed on (reverse cs) next)) none

-- a fence of a line of which nothing is read
pub record WritesFenceLine {A : Type 0} (text : List ℕ) (ending : Option LineEnding) (left : List LineRest) (b f : Walk A) : Type 0 where
  pub nodes : Nodes
  pub writes : Writes text b.out f.out nodes
  pub raw : AreRaw nodes
  pub same : standing f ≡ standing b
  pub stands : StandsAt text (AtEnding ending left) (standing f)
  pub written : written_to f ≡ end_at f.line_end 0
  pub fill : (slots more : List Slot) → take_child slots n.FrontmatterFence ≡ Some (took Plain more) → Fill Lines slots nodes more

pub fence_line : {A : Type 0} (text content : List ℕ) (a b f : Walk A) (here : LineRest) (left : List LineRest) → StandsAt text (Within here left) (standing a)
    → IsWrittenToRest a → IsInOrder text a.out → here.rest ≡ whole content → AreBytes content → AreMetadataFence content → IsInOrder text b.out
    → standing b ≡ standing a → written_to b ≡ written_to a → ((bs : List ℕ) → AreMetadataFence bs → PassesEvent n.FrontmatterFence bs [] b f)
    → WritesFenceLine text here.beside.ending left b f
fence_line text content a b f here left st at order is bytes fence order_b same_b end_b writes =
    let left_a = fresh_left text content a here left st at order is bytes in
    let event = writes content fence text (left_same text content a b left_a order_b same_b end_b) in
    let done = event.tokens in
    record {
      nodes = done.nodes;
      writes = done.writes;
      raw = done.raw;
      same = done.same;
      stands = subst (StandsAt text (AtEnding here.beside.ending left)) (sym (done.same ∙ same_b)) (at_ending text here left (standing a) st);
      written = left_none text [] f refl done.after;
      fill = λ slots more takes.
          subst (λ (ns : Nodes). Fill Lines slots ns more) (sym event.nodes_are)
          (fill_taken Lines slots n.FrontmatterFence Plain more event.node event.named takes event.filled);
    }

-- a fence, lines, an ending with what follows it, and a fence fill the row of frontmatter
pub front_filled : (text : List ℕ) (from to : End) (first mid end last : Nodes)
    → ((slots more : List Slot) → take_child slots n.FrontmatterFence ≡ Some (took Plain more) → Fill Lines slots first more)
    → ((slots : List Slot) → TakesChunks n.FrontmatterChunk slots → Fill Lines slots mid slots)
    → ((slots : List Slot) → TakesNoBetween slots → Fill Lines slots end slots)
    → ((slots more : List Slot) → take_child slots n.FrontmatterFence ≡ Some (took Plain more) → Fill Lines slots last more)
    → IsFilled Lines Plain (Around (enter_at text n.Frontmatter from) (append first (append mid (append end last))) (exit_at text n.Frontmatter to))
front_filled text from to first mid end last one_fill two_fill three_fill four_fill =
    let slots = many n.FrontmatterChunk ∷ one_slot n.FrontmatterFence ∷ [] in
    let between : TakesNoBetween slots = record { space = refl; ending = refl; blank = refl; quote = refl } in
    filled_by Lines Plain n.Frontmatter []
    (Around (enter_at text n.Frontmatter from) (append first (append mid (append end last))) (exit_at text n.Frontmatter to)) refl
    (fill_both (one_fill (row n.Frontmatter Plain) slots refl)
    (fill_both (two_fill slots (record { chunk = refl; between = between })) (fill_both (three_fill slots between) (four_fill slots [] refl)))) refl

-- the lines between the fences
pub mid_lines : {A : Type 0} (text : List ℕ) (first : Option LineEnding) (mids others : List TextLine) (count : ℕ) (f l : Walk A) → (standing f).outermost ≡ []
    → count ≡ length mids → StandsAt text (AtEnding first (unread Whitespace (mids ++ others))) (standing f) → written_to f ≡ end_at f.line_end 0 → IsInOrder text f.out
    → WritesCutLines n.FrontmatterChunk (λ rest. rest) count f l
    → WritesLines text n.FrontmatterChunk first (text_lines mids) (unread Whitespace others) f l
mid_lines text first mids others count f l top size st at order writes =
    writes text first (text_lines mids) (unread Whitespace (mids ++ others)) (unread Whitespace others) (size ∙ sym (text_count mids)) (inr (inr (inr refl))) st at order (
    subst (λ (cs : List Container). AreTaken f.on.now (reverse cs) (IsCutLine (λ rest. rest)) (text_lines mids) (Between (unread Whitespace (mids ++ others)))
    (Between (unread Whitespace others))) (sym top) (text_taken f.on.now mids others)
    )
