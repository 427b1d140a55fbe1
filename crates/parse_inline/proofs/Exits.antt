-- The row that ends the innermost that is open.
use Rattle.std.proofs.Common.{◌≡◌, ◌<◌, ◌+◌, ℕ, false, List, [], ◌∷◌, ◌++◌, drop, length, map, replicate, reverse, refl, sym, ap, subst, ◌∙◌, arith}
use Rattle.parse_inline.proofs.Prelude.{AreBytesAt, AreLaid, AreLinkable, AreWritten, codes_of, ends_line, EndsLinked, filled, Frame, HaveTextsOfBytes}
use Rattle.parse_inline.proofs.Prelude.{held_levels, held_of, hole_of, Image, inline_bytes_law, InlineCode, Inlines, InLinked, InSpan, IsFirstLaid}
use Rattle.parse_inline.proofs.Prelude.{IsInRows, IsWhole, laid_levels, LeavesLinked, LeavesSpan, length-replicate, level, Level, Link, linked_name}
use Rattle.parse_inline.proofs.Prelude.{LinkedKind, links, list_any, part, Setting, Span, StandsInContent, StandsInText, Step, Stop}
use Rattle.parse_inline.proofs.Prelude.{take-append-drop, Target, text_before, Walk}
use Rattle.std.proofs.Common.{true}
use Rattle.event_tokens.specs.Tokens.{is_token}
use Rattle.parse_inline.proofs.Prelude.{sequence_name}
use Rattle.std.proofs.lemmas.List.{reverse-append, reverse-reverse}
use mathlib.Core.List.{reverse-cons}
use Rattle.definition_inline.specs.Inline as inline
use Rattle.inline_rows.specs.InlineRows as seen
use Rattle.inline_rows.specs.declared.row.InlineRow.TheVariants as rows
use Rattle.event_meaning.specs.Texts.{append}
use Rattle.parse_inline.specs.declared.opened.Open as opened
use Rattle.parse_inline.specs.declared.opened.Open.TheVariants as opens
use Rattle.parse_inline.specs.Rows.{framed}
use Rattle.parse_inline.proofs.Data.{dark_text}
use Rattle.parse_inline.proofs.InRows.{found, onward}
use Rattle.parse_inline.proofs.Levels.{dark_written, leave_linked_written, leave_span_written, may_written, some_written}

-- the last of a list that is turned round, and those before it
last_of : {B : Type 0} (others : List B) (last first : B) (all : List B) → others ++ last ∷ [] ≡ reverse (first ∷ all) → (others ≡ reverse all) × (last ≡ first)
last_of others last first all same =
    let turned : last ∷ reverse others ≡ first ∷ all =
    sym (reverse-append others (last ∷ [])) ∙ ap reverse same ∙ reverse-reverse (first ∷ all) in
    let tails : reverse others ≡ all = cc in
    let heads : last ≡ first = cc in
    (sym (reverse-reverse others) ∙ ap reverse tails, heads)

none_last : {B : Type 0} (others : List B) (last : B) → others ++ last ∷ [] ≡ reverse [] → ⊥
none_last [] last same = absurd cc
none_last (x ∷ xs) last same = absurd cc

module _ {A : Type 0} (s : Setting) (first : Walk A) (others : List seen.InlineRow) (kept : List opened.Open) (old new : Walk A) where
  abbrev Laid : List Level → List Step → List InlineCode → Type 0
  Laid ls steps place = IsFirstLaid s.context s.leads rows.Exit others (laid_levels ls) steps place []

  -- what is known before the row, where what is open is given
  record IsBefore (frame : Frame) (before : Inlines) (ls : List Level) : Type 0 where
    kids : Inlines
    left : List ℕ
    place : List InlineCode
    steps : List Step
    written : AreWritten s.context s.text s.bytes s.stop first (level frame before ∷ ls) kids left old
    stands : StandsInText s.text s.content left place s.stop old
    tree : filled (map hole_of (level frame before ∷ ls)) kids steps ≡ s.is
    linkable : AreLinkable (links (level frame before ∷ ls)) steps
    laid : Laid (level frame before ∷ ls) steps place
    held : kept ≡ held_levels ls

  -- what is over is a part of what it was in
  over : (frame : Frame) (before : Inlines) (ls : List Level) (b : IsBefore frame before ls) (front after : List ℕ)
      → b.laid.after ≡ laid_levels ls → b.left ≡ front ++ after → new.place ≡ old.place + length front → IsWhole new → AreBytesAt after b.laid.next
      → StandsInContent s.text after s.stop new
      → AreWritten s.context s.text s.bytes s.stop first ls (append before (part (framed frame b.kids))) after new
      → IsInRows s first others kept new
  over frame before ls b front after open_same both place whole codes stands written = record {
    levels = ls;
    kids = append before (part (framed frame b.kids));
    left = after;
    place = b.laid.next;
    steps = b.laid.left;
    held = b.held;
    written = written;
    stands = onward s first old new b.left front after b.place b.laid.next b.stands both stands whole place codes;
    tree = ap (filled (map hole_of (level frame before ∷ ls)) b.kids) (sym b.laid.own) ∙ b.tree;
    linkable = subst (AreLinkable (links (level frame before ∷ ls))) b.laid.own b.linkable;
    same = b.laid.same;
    laid = subst (λ os. AreLaid s.context os b.laid.left b.laid.next []) open_same b.laid.laid;
  }

  -- ---- a span

  abbrev LeavesIt : Span → ℕ → Type 0
  LeavesIt span size =
      (text front after : List ℕ) (stop : Stop) → size ≡ length front → list_any ends_line front ≡ false
      → is_token (sequence_name span) front ≡ true → StandsInContent text (front ++ after) stop old → IsWhole old
      → LeavesSpan text span front after stop old new

  span_over : (span : Span) (size : ℕ) (frame : Frame) (before : Inlines) (ls : List Level) → opens.Span span size ≡ held_of frame → LeavesIt span size
      → IsBefore frame before ls → IsInRows s first others kept new
  span_over span size (InSpan span' marker size') before ls same does b =
      let same_span : span' ≡ span = cc in
      let same_size : size' ≡ size = cc in
      let here = b.laid.here in
      let front = replicate size' marker in
      let inline = dark_written s.context s.text s.stop s.bytes first span' marker size' before ls b.kids b.left old b.written in
      let may = may_written s.context s.text s.stop s.bytes first span' marker size' before ls b.kids b.left old b.written in
      let some : 0 < length front =
      omega (arith, length-replicate size' marker, some_written s.context s.text s.stop s.bytes first span' marker size' before ls b.kids b.left old b.written)
      in
      let passes = inline_bytes_law front b.left b.place b.laid.next b.stands.codes here.1 inline in
      let after = drop (length front) b.left in
      let both : b.left ≡ front ++ after = sym (take-append-drop (length front) b.left) ∙ ap (λ xs. xs ++ after) passes.front in
      let leaves : LeavesSpan s.text span' front after s.stop old new =
      subst (λ x. LeavesSpan s.text x front after s.stop old new) (sym same_span)
      (does s.text front after s.stop (sym same_size ∙ sym (length-replicate size' marker)) (dark_text front inline)
      (subst (λ x. is_token (sequence_name x) front ≡ true) same_span may)
      (subst (λ bs. StandsInContent s.text bs s.stop old) both b.stands.stands) b.stands.whole) in
      let place : new.place ≡ old.place + length front = omega (arith, leaves.ends.place, leaves.sequence.place, leaves.leaves.place) in
      over (InSpan span' marker size') before ls b front after here.0 both place leaves.whole passes.left leaves.leaves.stands
      (leave_span_written s.context s.text s.stop s.bytes first span' marker size' before ls b.kids b.left front after old new b.written both some leaves)
  span_over span size (InLinked Link target inside) before ls same does b = absurd cc
  span_over span size (InLinked Image target inside) before ls same does b = absurd cc

  -- ---- a link or an image

  abbrev LeavesLabel : LinkedKind → Type 0
  LeavesLabel kind =
      (target : Target) (content : List ℕ) (inside from to : List InlineCode) → EndsLinked s.context target inside from to
      → StandsInText s.text s.content content from s.stop old
      → LeavesLinked s.context s.text (linked_name kind) target (text_before (codes_of inside) (codes_of from)) content to s.stop old new

  linked_is_over : (kind : LinkedKind) (target : Target) (inside : List InlineCode) (before : Inlines) (ls : List Level) → HaveTextsOfBytes s.context.names
      → LeavesLabel kind → IsBefore (InLinked kind target inside) before ls → IsInRows s first others kept new
  linked_is_over kind target inside before ls texts does b =
      let here = b.laid.here in
      let leaves = does target b.left inside b.place b.laid.next here.1 b.stands in
      let front = 93 ∷ leaves.tail.front in
      let after = leaves.tail.after in
      let both : b.left ≡ front ++ after = leaves.bracket ∙ ap (λ xs. 93 ∷ xs) leaves.tail.both in
      let place : new.place ≡ old.place + length front =
      omega (arith, leaves.label.ends.place, leaves.label.marks.writes.place, leaves.label.leaves.place, leaves.tail.writes.place, leaves.leaves.place) in
      over (InLinked kind target inside) before ls b front after here.0 both place leaves.whole leaves.tail.left leaves.leaves.stands
      (leave_linked_written s.context s.text s.stop s.bytes first texts kind target inside b.place b.laid.next before ls b.kids b.left old new b.written
      b.stands.codes
      leaves)

  linked_over : (kind : LinkedKind) (o : opened.Open) (frame : Frame) (before : Inlines) (ls : List Level)
      → o ≡ held_of (InLinked kind (inline.Reference []) [])
      → o ≡ held_of frame → HaveTextsOfBytes s.context.names → LeavesLabel kind → IsBefore frame before ls → IsInRows s first others kept new
  linked_over Link o (InSpan span marker size) before ls is same texts does b = absurd cc
  linked_over Link o (InLinked Link target inside) before ls is same texts does b = linked_is_over Link target inside before ls texts does b
  linked_over Link o (InLinked Image target inside) before ls is same texts does b = absurd cc
  linked_over Image o (InSpan span marker size) before ls is same texts does b = absurd cc
  linked_over Image o (InLinked Link target inside) before ls is same texts does b = absurd cc
  linked_over Image o (InLinked Image target inside) before ls is same texts does b = linked_is_over Image target inside before ls texts does b

  -- ---- whichever is open

  -- what is open, given the last of the list
  innermost_first : (o : opened.Open) (levels : List Level) (kids : Inlines) (left : List ℕ) (place : List InlineCode) (steps : List Step)
      → kept ++ o ∷ [] ≡ held_levels levels → AreWritten s.context s.text s.bytes s.stop first levels kids left old
      → StandsInText s.text s.content left place s.stop old → filled (map hole_of levels) kids steps ≡ s.is → AreLinkable (links levels) steps
      → Laid levels steps place → (frame : Frame) × (before : Inlines) × (ls : List Level) × (o ≡ held_of frame) × IsBefore frame before ls
  innermost_first o [] kids left place steps held_is written stands tree linkable laid = absurd (none_last kept o held_is)
  innermost_first o (l ∷ ls) kids left place steps held_is written stands tree linkable laid =
      let (others_are, is) = last_of kept o (held_of l.frame) (map (λ (x : Level). held_of x.frame) ls) held_is in (
        l.frame,
        l.before,
        ls,
        is,
        record {
          kids = kids;
          left = left;
          place = place;
          steps = steps;
          written = written;
          stands = stands;
          tree = tree;
          linkable = linkable;
          laid = laid;
          held = others_are;
        },
      )

  before_exit : (o : opened.Open) → IsInRows s first (seen.Leave ∷ others) (kept ++ o ∷ []) old
      → (frame : Frame) × (before : Inlines) × (ls : List Level) × (o ≡ held_of frame) × IsBefore frame before ls
  before_exit o st =
      innermost_first o st.levels st.kids st.left st.place st.steps st.held st.written st.stands st.tree st.linkable
      (found s first rows.Exit others (kept ++ o ∷ []) old old st)

  pub span_exits : (span : Span) (size : ℕ) → LeavesIt span size → IsInRows s first (seen.Leave ∷ others) (kept ++ opens.Span span size ∷ []) old
      → IsInRows s first others kept new
  span_exits span size does st =
      let (frame, before, ls, same, b) = before_exit (opens.Span span size) st in
      span_over span size frame before ls same does b

  pub link_exits : HaveTextsOfBytes s.context.names → LeavesLabel Link → IsInRows s first (seen.Leave ∷ others) (kept ++ opens.Link ∷ []) old
      → IsInRows s first others kept new
  link_exits texts does st =
      let (frame, before, ls, same, b) = before_exit opens.Link st in
      linked_over Link opens.Link frame before ls refl same texts does b

  pub image_exits : HaveTextsOfBytes s.context.names → LeavesLabel Image → IsInRows s first (seen.Leave ∷ others) (kept ++ opens.Image ∷ []) old
      → IsInRows s first others kept new
  image_exits texts does st =
      let (frame, before, ls, same, b) = before_exit opens.Image st in
      linked_over Image opens.Image frame before ls refl same texts does b

-- nothing ends where nothing is open
pub none_exits : {A : Type 0} (s : Setting) (first : Walk A) (others : List seen.InlineRow) (old : Walk A) → IsInRows s first (seen.Leave ∷ others) [] old → ⊥
none_exits s first others old st = nothing st.levels st.steps st.place st.held (found s first rows.Exit others [] old old st)
  where
    nothing : (levels : List Level) (steps : List Step) (place : List InlineCode) → [] ≡ held_levels levels
        → IsFirstLaid s.context s.leads rows.Exit others (laid_levels levels) steps place [] → ⊥
    nothing [] steps place none laid = laid.here
    nothing (l ∷ ls) steps place none laid =
        none_last (reverse (map (λ (x : Level). held_of x.frame) ls)) (held_of l.frame)
        (sym (none ∙ reverse-cons (held_of l.frame) (map (λ (x : Level). held_of x.frame) ls)))
