-- From before a row of a text to before the next one.
use Rattle.std.proofs.Common.{◌≡◌, ◌+◌, ℕ, Bool, false, List, [], ◌∷◌, ◌++◌, drop, length, map, replicate, refl, sym, ap, subst, ◌∙◌, arith}
use Rattle.std.specs.Borrow.{Bor}
use Rattle.parse_inline.proofs.Prelude.{AreBytesAt, AreCodes, AreLaid, AreLinkable, ArePartsAlike, ArePlain, call_codes, content_codes, data_nodes, end_after}
use Rattle.parse_inline.proofs.Prelude.{end_in, EndNoLine, ends_line, EntersLabel, EntersSpan, filled, held_levels, held_of, Holds, hole_of, Image, in_link}
use Rattle.parse_inline.proofs.Prelude.{inline_bytes_law, InlineCode, InlineContext, InlineLeaf, InlineRow, Inlines, InLinked, InSpan, is_link, IsData}
use Rattle.parse_inline.proofs.Prelude.{IsFirstLaid, IsInRows, IsLeafLaid, IsPartLaid, IsUtf8, IsWhole, laid_levels, LeafPart, leaves, length-replicate, level}
use Rattle.parse_inline.proofs.Prelude.{Level, Link, linked_name, LinkedKind, links, list_any, mark_name, Nodes, part, sequence_size, Setting, Span}
use Rattle.parse_inline.proofs.Prelude.{spelled_view, SpelledLeaf, StandsInContent, StandsInText, Step, Stop, take-append-drop, Target, Walk, WritesCall}
use Rattle.parse_inline.proofs.Prelude.{WritesInContent, WritesLeaves, WritesPart, WritesSpelled}
use Rattle.std.proofs.lemmas.Bool.{false_from_ne_true}
use Rattle.std.proofs.lemmas.List.{drop-drop, drop_at}
use mathlib.Core.List.{reverse-cons}
use Rattle.engine_events.specs.declared.event.Name.TheVariants as n
use Rattle.definition_inline.specs.Inline as inline
use Rattle.inline_leaves.specs.Leaves.{parts_of}
use Rattle.inline_leaves.specs.declared.leaf.LeafPart.TheVariants.{Literal}
use Rattle.inline_rows.specs.InlineRows as seen
use Rattle.inline_rows.specs.View.{row_view}
use Rattle.inline_rows.specs.declared.row.InlineRow.TheVariants as rows
use Rattle.inline_rows.specs.declared.row.LinkTarget.{LinkTarget}
use Rattle.event_meaning.specs.Texts.{append}
use Rattle.parse_written.specs.Rows.{AreEntered, AreHeld, IsLinkedStart}
use Rattle.parse_written.proofs.Marks.{sequence_law}
use Rattle.parse_written.proofs.LaidRows.{first_row_law}
use Rattle.parse_written.specs.Laid.{EntersLinked}
use Rattle.parse_written.specs.Written.{linked_start}
use Rattle.parse_inline.specs.declared.opened.Open as opened
use Rattle.parse_inline.specs.declared.opened.Open.TheVariants as opens
use Rattle.std.proofs.Common.{true}
use Rattle.event_tokens.specs.Tokens.{is_token}
use Rattle.parse_inline.specs.Leaves.{MayBeIn}
use Rattle.parse_inline.specs.Leaving.{sequence_name}
use Rattle.event_grammar.specs.declared.slot.Child.TheVariants.{TextPart}
use Rattle.parse_slots.proofs.Voids.{data_fill}
use Rattle.parse_references.specs.Sound.{AreSound}
use Rattle.parse_references.proofs.Sound.{data_sound}
use Rattle.parse_inline.specs.Texts.{FillsText}
use Rattle.parse_inline.proofs.Sequences.{sequence_may, sequence_some}
use Rattle.parse_inline.proofs.Calls.{DoesData, writing_data}
use Rattle.parse_inline.proofs.Data.{dark_text, data_plain, data_spells}
use Rattle.parse_inline.proofs.Holes.{filled_held, linkable_held}
use Rattle.parse_inline.proofs.LeavesAlike.{data_alike}
use Rattle.parse_inline.proofs.Levels.{AreAlike, enter_written, more_written}

-- a construct stands where it may
may_be_in : (ls : List Bool) (p : LeafPart) (left : List Step) → AreLinkable ls (map Holds (parts_of p) ++ left) → MayBeIn (in_link ls) p
may_be_in ls (Literal kind text) left p = false_from_ne_true (in_link ls) p.0
may_be_in ls p left q = tt

module _ {A : Type 0} (s : Setting) (first : Walk A) where
  -- where a text goes on
  pub onward : (old new : Walk A) (content front after : List ℕ) (from to : List InlineCode) → StandsInText s.text s.content content from s.stop old
      → content ≡ front ++ after → StandsInContent s.text after s.stop new → IsWhole new → new.place ≡ old.place + length front → AreBytesAt after to
      → StandsInText s.text s.content after to s.stop new
  onward old new content front after from to st both stands whole place codes = record {
    stands = stands;
    whole = whole;
    ahead =
        sym (drop_at front after (length front) refl) ∙ ap (drop (length front)) (sym both ∙ st.ahead) ∙ drop-drop (length front) old.place s.content
        ∙ ap (λ n. drop n s.content) (sym place);
    codes = codes;
  }

  module _ (row : InlineRow) (others : List seen.InlineRow) (held : List opened.Open) (old new : Walk A)
      (st : IsInRows s first (row_view s.at row ++ others) held old) where
    abbrev Found : Type 0
    Found = IsFirstLaid s.context s.leads row others (laid_levels st.levels) st.steps st.place []

    -- the row, as it is laid
    pub found : Found
    found = first_row_law s.context s.leads s.at row others (laid_levels st.levels) st.steps st.place [] st.same st.laid

    -- more in the innermost that is open
    pub more_row : (js : Inlines) (ns : Nodes) (front after : List ℕ) → found.after ≡ laid_levels st.levels
        → filled (map hole_of st.levels) (append st.kids js) found.left ≡ s.is → AreLinkable (links st.levels) found.left → st.left ≡ front ++ after
        → WritesInContent s.text front ns after s.stop old new → IsWhole new → AreBytesAt after found.next
        → AreAlike s.context s.text (in_link (links st.levels)) js ns → ArePlain ns → FillsText front ns
        → AreSound s.context.options.constructs s.context.names s.text ns
        → IsInRows s first others held new
    more_row js ns front after open_same tree linkable both writes whole codes alike plain fill sound = record {
      levels = st.levels;
      kids = append st.kids js;
      left = after;
      place = found.next;
      steps = found.left;
      held = st.held;
      written = more_written s.context s.text s.stop s.bytes first st.levels st.kids js st.left front after old new ns st.written both writes alike plain fill
          sound;
      stands = onward old new st.left front after st.place found.next st.stands both writes.stands whole writes.place codes;
      tree = tree;
      linkable = linkable;
      same = found.same;
      laid = subst (λ os. AreLaid s.context os found.left found.next []) open_same found.laid;
    }

    -- leaves
    pub leaves_row : (ls : List InlineLeaf) (ns : Nodes) (front after : List ℕ) → found.after ≡ laid_levels st.levels → AreHeld ls st.steps found.left
        → st.left ≡ front ++ after → WritesInContent s.text front ns after s.stop old new → IsWhole new → AreBytesAt after found.next
        → AreAlike s.context s.text (in_link (links st.levels)) (leaves ls) ns → ArePlain ns → FillsText front ns
        → AreSound s.context.options.constructs s.context.names s.text ns
        → IsInRows s first others held new
    leaves_row ls ns front after open_same own both writes whole codes alike plain fill sound =
        more_row (leaves ls) ns front after open_same
        (sym (filled_held ls (map hole_of st.levels) st.kids found.left) ∙ ap (filled (map hole_of st.levels) st.kids) (sym own) ∙ st.tree)
        (linkable_held ls (links st.levels) found.left (subst (AreLinkable (links st.levels)) own st.linkable)) both writes whole codes alike plain fill
        sound

    -- bytes of text
    pub data_row : (text : List ℕ) (size : ℕ) → size ≡ length text → IsUtf8 text → found.after ≡ laid_levels st.levels
        → IsData text st.place found.next → AreHeld (map inline.Data text) st.steps found.left → DoesData size old new → IsInRows s first others held new
    data_row text size sized utf8 open_same here own does =
        let passes = inline_bytes_law text st.left st.place found.next st.stands.codes here.codes here.inline in
        let after = drop (length text) st.left in
        let both : st.left ≡ text ++ after = sym (take-append-drop (length text) st.left) ∙ ap (λ xs. xs ++ after) passes.front in
        let stands : StandsInContent s.text (text ++ after) s.stop old = subst (λ bs. StandsInContent s.text bs s.stop old) both st.stands.stands in
        let dark = dark_text text here.inline in
        let w = writing_data s.text s.stop old new size text after sized dark utf8 does stands in
        let linked = in_link (links st.levels) in
        let ns = data_nodes s.text (end_in old.out) (end_after (end_in old.out) (length text)) in
        leaves_row (map inline.Data text) ns text after open_same own both w.writes (w.whole st.stands.whole) passes.left
        (λ m m' meant.
        subst (ArePartsAlike m m' (leaves (map inline.Data text)))
        (sym (data_spells s.context.names s.text linked s.stop old text after stands dark st.stands.whole))
        (data_alike m m' text))
        (data_plain s.text (end_in old.out) (end_after (end_in old.out) (length text)))
        (λ around may. data_fill around TextPart [] s.text (end_in old.out) (end_after (end_in old.out) (length text)) refl)
        (data_sound s.context.options.constructs s.context.names s.text (end_in old.out) (end_after (end_in old.out) (length text)))

    -- what a construct writes
    pub written_row : (ls : List InlineLeaf) (MayBe : Bool → Type 0) → found.after ≡ laid_levels st.levels → AreHeld ls st.steps found.left
        → WritesLeaves s.context.options.constructs s.context.names s.text st.left MayBe ls found.next s.stop old new → MayBe (in_link (links st.levels))
        → IsInRows s first others held new
    written_row ls MayBe open_same own w may =
        leaves_row ls w.nodes w.front w.after open_same own w.parts w.writes w.whole w.left (λ m m' meant. w.spells (in_link (links st.levels)) may m m')
        w.plain w.fill w.sound

  -- ---- rows of text

  pub text_passes : (text : Bor (List ℕ)) (size : ℕ) (others : List seen.InlineRow) (held : List opened.Open) (old new : Walk A) → size ≡ length text.now
      → IsUtf8 text.now → DoesData size old new → IsInRows s first (row_view s.at (rows.Text text) ++ others) held old → IsInRows s first others held new
  text_passes text size others held old new sized utf8 does st =
      let f = found (rows.Text text) others held old new st in
      data_row (rows.Text text) others held old new st text.now size sized utf8 f.here.0 f.here.1 f.own does

  -- ---- constructs

  pub leaf_passes : (p : LeafPart) (others : List seen.InlineRow) (held : List opened.Open) (old new : Walk A) (content : List ℕ) → s.content ≡ content
      → ((context : InlineContext) (text bytes : List ℕ) (from to : List InlineCode) (stop : Stop) → bytes ≡ drop old.place content
      → IsPartLaid context p from to → AreBytesAt bytes from → StandsInContent text bytes stop old → IsWhole old
      → WritesPart context.options.constructs context.names text bytes p to stop old new)
      → IsInRows s first (row_view s.at (rows.Leaf p) ++ others) held old → IsInRows s first others held new
  leaf_passes p others held old new content over does st =
      let f = found (rows.Leaf p) others held old new st in
      written_row (rows.Leaf p) others held old new st (parts_of p) (λ linked. MayBeIn linked p) f.here.0 f.own
      (does s.context s.text st.left st.place f.next s.stop (st.stands.ahead ∙ ap (drop old.place) over) f.here.1 st.stands.codes st.stands.stands
      st.stands.whole)
      (may_be_in (links st.levels) p f.left (subst (AreLinkable (links st.levels)) f.own st.linkable))

  pub spelled_passes : (leaf : SpelledLeaf) (others : List seen.InlineRow) (held : List opened.Open) (old new : Walk A) (content : List ℕ) → s.content ≡ content
      → ((context : InlineContext) (text bytes : List ℕ) (from to : List InlineCode) (stop : Stop) → bytes ≡ drop old.place content
      → IsLeafLaid context (spelled_view leaf) from to → AreBytesAt bytes from → StandsInContent text bytes stop old → IsWhole old
      → WritesSpelled context.options.constructs context.names text bytes leaf to stop old new)
      → IsInRows s first (row_view s.at (rows.Spelled leaf) ++ others) held old → IsInRows s first others held new
  spelled_passes leaf others held old new content over does st =
      let f = found (rows.Spelled leaf) others held old new st in
      written_row (rows.Spelled leaf) others held old new st (spelled_view leaf ∷ []) (λ linked. Unit {0}) f.here.0 f.own
      (does s.context s.text st.left st.place f.next s.stop (st.stands.ahead ∙ ap (drop old.place) over) f.here.1 st.stands.codes st.stands.stands
      st.stands.whole) tt

  pub call_passes : (label : Bor (List ℕ)) (others : List seen.InlineRow) (held : List opened.Open) (old new : Walk A) (content : List ℕ) → s.content ≡ content
      → ((from to : List InlineCode) (left : List ℕ) → AreCodes (call_codes (content_codes label.now)) from to
      → StandsInText s.text content left from s.stop old → WritesCall s.context s.text (content_codes label.now) left to s.stop old new)
      → IsInRows s first (row_view s.at (rows.Call label) ++ others) held old → IsInRows s first others held new
  call_passes label others held old new content over does st =
      let f = found (rows.Call label) others held old new st in
      let w = does st.place f.next st.left f.here.1 (subst (λ c. StandsInText s.text c st.left st.place s.stop old) over st.stands) in
      more_row (rows.Call label) others held old new st (part (inline.Call (content_codes label.now))) w.nodes w.front w.after f.here.0
      (ap (filled (map hole_of st.levels) st.kids) (sym f.own) ∙ st.tree) (subst (AreLinkable (links st.levels)) f.own st.linkable) w.both w.writes w.whole
      w.left
      (λ m m' meant. w.spells (in_link (links st.levels)) m m') w.plain w.fill w.sound

  -- ---- starts

  pub span_passes : (span : Span) (others : List seen.InlineRow) (held held_after : List opened.Open) (old new : Walk A) (content : List ℕ)
      → s.content ≡ content
      → ((text front after : List ℕ) (stop : Stop) → front ++ after ≡ drop old.place content → length front ≡ sequence_size span (front ++ after)
      → list_any ends_line front ≡ false → is_token (sequence_name span) front ≡ true → StandsInContent text (front ++ after) stop old → IsWhole old
      → EntersSpan text span front after stop old new × (held_after ≡ held ++ opens.Span span (length front) ∷ []))
      → IsInRows s first (row_view s.at (rows.EnterSpan span) ++ others) held old → IsInRows s first others held_after new
  span_passes span others held held_after old new content over does st =
      let f = found (rows.EnterSpan span) others held old new st in
      let here = f.here in
      let size = here.size in
      let front = replicate size here.marker in
      let sized = sequence_law s.context span here.marker size st.left st.place f.next here.starts st.stands.codes in
      let passes = inline_bytes_law front st.left st.place f.next st.stands.codes here.starts.codes sized.1 in
      let after = drop (length front) st.left in
      let both : st.left ≡ front ++ after = sym (take-append-drop (length front) st.left) ∙ ap (λ xs. xs ++ after) passes.front in
      let long : length front ≡ size = length-replicate size here.marker in
      let may = sequence_may s.context.options span here.marker size here.starts.sized here.starts.marks in
      let w =
      does s.text front after s.stop (sym both ∙ st.stands.ahead ∙ ap (drop old.place) over) (long ∙ sized.0 ∙ ap (sequence_size span) both)
      (dark_text front sized.1) may (subst (λ bs. StandsInContent s.text bs s.stop old) both st.stands.stands) st.stands.whole in
      let enters = w.0 in
      let place : new.place ≡ old.place + length front = omega (arith, enters.enters.place, enters.sequence.place, enters.starts.place) in
      record {
        levels = level (InSpan span here.marker size) st.kids ∷ st.levels;
        kids = inline.Nil;
        left = after;
        place = f.next;
        steps = f.left;
        held =
            w.1 ∙ ap (λ os. os ++ opens.Span span (length front) ∷ []) st.held ∙ ap (λ n. held_levels st.levels ++ opens.Span span n ∷ []) long
            ∙ sym (reverse-cons (opens.Span span size) (map (λ (l : Level). held_of l.frame) st.levels));
        written =
            enter_written s.context s.text s.stop s.bytes first (InSpan span here.marker size) st.levels st.kids st.left front after old new st.written both
            (refl, sized.1, may, sequence_some s.context.options span here.marker size here.starts.sized, enters) enters.starts.stands;
        stands = onward old new st.left front after st.place f.next st.stands both enters.starts.stands enters.whole place passes.left;
        tree = ap (filled (map hole_of st.levels) st.kids) (sym f.own) ∙ st.tree;
        linkable = subst (AreLinkable (links st.levels)) f.own st.linkable;
        same = f.same;
        laid = subst (λ os. AreLaid s.context os f.left f.next []) here.opened f.laid;
      }

  -- a link or an image
  linked_inline : (kind : LinkedKind) → EndNoLine (linked_start kind)
  linked_inline Link = (refl, tt)
  linked_inline Image = (refl, (refl, tt))

  linked_linkable : (kind : LinkedKind) (target : Target) (inside : List InlineCode) (ls : List Bool) (left : List Step)
      → AreLinkable ls (EntersLinked kind target ∷ left) → AreLinkable (is_link (InLinked kind target inside) ∷ ls) left
  linked_linkable Link target inside ls left p = p
  linked_linkable Image target inside ls left p = p

  linked_passes : (kind : LinkedKind) (row : InlineRow) (others : List seen.InlineRow) (held held_after : List opened.Open) (old new : Walk A)
      → (st : IsInRows s first (row_view s.at row ++ others) held old)
      → (f : IsFirstLaid s.context s.leads row others (laid_levels st.levels) st.steps st.place [])
      → (here : IsLinkedStart kind (laid_levels st.levels) st.place f.after f.next) → AreEntered kind f.after st.steps f.left
      → ((after : List ℕ) → StandsInContent s.text (linked_start kind ++ after) s.stop old → IsWhole old
      → EntersLabel s.text (linked_name kind) (mark_name kind) (linked_start kind) after s.stop old new)
      → held_after ≡ held ++ held_of (InLinked kind here.target f.next) ∷ [] → IsInRows s first others held_after new
  linked_passes kind row others held held_after old new st f here own does held_is =
      let target = here.target in
      let front = linked_start kind in
      let passes = inline_bytes_law front st.left st.place f.next st.stands.codes here.codes (linked_inline kind) in
      let after = drop (length front) st.left in
      let both : st.left ≡ front ++ after = sym (take-append-drop (length front) st.left) ∙ ap (λ xs. xs ++ after) passes.front in
      let enters = does after (subst (λ bs. StandsInContent s.text bs s.stop old) both st.stands.stands) st.stands.whole in
      let place : new.place ≡ old.place + length front =
      omega (arith, enters.enters.place, enters.label.place, enters.marks.writes.place, enters.starts.place) in
      let frame = InLinked kind target f.next in
      let steps : st.steps ≡ EntersLinked kind target ∷ f.left = subst (λ os. AreEntered kind os st.steps f.left) here.opened own in
      record {
        levels = level frame st.kids ∷ st.levels;
        kids = inline.Nil;
        left = after;
        place = f.next;
        steps = f.left;
        held =
            held_is ∙ ap (λ os. os ++ held_of frame ∷ []) st.held ∙ sym (reverse-cons (held_of frame) (map (λ (l : Level). held_of l.frame) st.levels));
        written =
            enter_written s.context s.text s.stop s.bytes first frame st.levels st.kids st.left front after old new st.written both (passes.left, enters)
            enters.starts.stands;
        stands = onward old new st.left front after st.place f.next st.stands both enters.starts.stands enters.whole place passes.left;
        tree = ap (filled (map hole_of st.levels) st.kids) (sym steps) ∙ st.tree;
        linkable = linked_linkable kind target f.next (links st.levels) f.left (subst (AreLinkable (links st.levels)) steps st.linkable);
        same = f.same;
        laid = subst (λ os. AreLaid s.context os f.left f.next []) here.opened f.laid;
      }

  pub link_passes : (target : LinkTarget) (others : List seen.InlineRow) (held held_after : List opened.Open) (old new : Walk A)
      → ((after : List ℕ) → StandsInContent s.text (91 ∷ after) s.stop old → IsWhole old
      → EntersLabel s.text n.Link n.LabelLink (91 ∷ []) after s.stop old new)
      → held_after ≡ held ++ opens.Link ∷ [] → IsInRows s first (row_view s.at (rows.EnterLink target) ++ others) held old
      → IsInRows s first others held_after new
  link_passes target others held held_after old new does held_is st =
      let f = found (rows.EnterLink target) others held old new st in
      linked_passes Link (rows.EnterLink target) others held held_after old new st f f.here f.own does held_is

  pub image_passes : (target : LinkTarget) (others : List seen.InlineRow) (held held_after : List opened.Open) (old new : Walk A)
      → ((after : List ℕ) → StandsInContent s.text (33 ∷ 91 ∷ after) s.stop old → IsWhole old
      → EntersLabel s.text n.Image n.LabelImage (33 ∷ 91 ∷ []) after s.stop old new)
      → held_after ≡ held ++ opens.Image ∷ [] → IsInRows s first (row_view s.at (rows.EnterImage target) ++ others) held old
      → IsInRows s first others held_after new
  image_passes target others held held_after old new does held_is st =
      let f = found (rows.EnterImage target) others held old new st in
      linked_passes Image (rows.EnterImage target) others held held_after old new st f f.here f.own does held_is
