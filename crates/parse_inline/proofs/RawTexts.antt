-- What is written of lines of raw text, and of raw HTML (CommonMark 6.1 and 6.6).
use Rattle.std.proofs.Common.{◌≡◌, ℕ, zero, suc, ◌+◌, ◌<◌, Bool, true, false, List, [], ◌∷◌, ◌++◌, refl, sym, ap, subst, ◌∙◌, append_assoc, drop}
use Rattle.std.proofs.Common.{take, length, length-append, map, arith}
use Rattle.markdown_options.specs.declared.configuration.Constructs.{Constructs}
use Rattle.parse_inline.proofs.Prelude.{Anywhere, append, append-nil, Around, BeginsDark, code_parts, code_space, cond-false, content_codes, contents_around}
use Rattle.parse_inline.proofs.Prelude.{contents_both, contents_none, End, end_in, enter_at, EntersInLine, exit_at, ExitsInLine, fold, html_leaves, html_parts}
use Rattle.parse_inline.proofs.Prelude.{indent, is_white, IsWhole, leaves, line_enters, line_exits, line_names, Name, Names, Nil, Nodes, one, owed_indent}
use Rattle.parse_inline.proofs.Prelude.{plain_both, plain_none, plain_one, standing, StandsInContent, StandsInLine, Stop, take-append-drop, true≢false, Walk}
use Rattle.parse_inline.proofs.Prelude.{WritesFront, WritesInContent, WritesLine, WritesLines, WritesLinesTo}
use Rattle.std.proofs.lemmas.List.Sums.{fold-append}
use Rattle.std.proofs.lemmas.Str.{IsUtf8-drop}
use Rattle.engine_events.specs.declared.event.Name.TheVariants as n
use Rattle.definition_text.specs.Content.{at_line_start}
use Rattle.event_meaning.specs.Texts as texts
use Rattle.parse_lines.specs.InContent.{ends_at_start}
use Rattle.event_grammar.specs.declared.slot.Between.{Between}
use Rattle.event_grammar.specs.declared.slot.Between.TheVariants.{Lines}
use Rattle.event_grammar.specs.declared.slot.Form.TheVariants.{Plain}
use Rattle.event_grammar.specs.declared.slot.Slot.{Slot}
use Rattle.event_grammar.specs.Grammar.{many, text_row}
use Rattle.parse_slots.specs.Left.{IsFilled, MayEndLines, TakesNoBetween}
use Rattle.parse_slots.proofs.Steps.{fill_both, fill_none, fill_taken, may_both}
use Rattle.parse_lines.proofs.SomeNodes.{written_some}
use Rattle.event_grammar.specs.Points.{edge, spot_of}
use Rattle.event_grammar.specs.Trees.{Cons}
use Rattle.std.proofs.lemmas.List.{get_or-drop}
use Rattle.parse_output.specs.Joined.{AreJoined, end_edge}
use Rattle.parse_output.proofs.Characters.{whole_edge}
use Rattle.parse_references.specs.Sound.{BeginTag}
use Rattle.parse_references.proofs.Sound.{sound_one, sound_tag}
use Rattle.parse_inline.proofs.Prelude.{line_in_content, slice_index}
use Rattle.parse_inline.proofs.Fronts.{next_here}
use Rattle.parse_inline.proofs.Fills.{filled_around}
use Rattle.parse_inline.proofs.Kids.{code_append, html_append, named_both}
use Rattle.parse_inline.proofs.LeavesAlike.{append_append, append_none}

-- the row of raw HTML
abbrev html_row : List Slot
html_row = many n.HtmlTextData ∷ []

html_between : TakesNoBetween html_row
html_between = record { space = refl; ending = refl; blank = refl; quote = refl }

-- before a byte that is no space and no tab, a walk isn't inside of a tab
pub dark_whole : {A : Type 0} (text : List ℕ) (b : ℕ) (bs : List ℕ) (stop : Stop) (w : Walk A) → is_white b ≡ false → StandsInContent text (b ∷ bs) stop w
    → IsWhole w
dark_whole text b bs stop w dark st =
    let none : indent (b ∷ bs) ≡ 0 = cond-false (is_white b) (1 + indent bs) 0 dark in
    omega (arith, none, owed_indent text stop w (b ∷ bs) st)

begins_whole : {A : Type 0} (text bs content : List ℕ) (stop : Stop) (w : Walk A) → BeginsDark bs → 0 < length bs
    → StandsInContent text (bs ++ content) stop w → IsWhole w
begins_whole text [] content stop w dark some st = absurd (omega (arith, some))
begins_whole text (b ∷ bs) content stop w dark some st = dark_whole text b (bs ++ content) stop w dark st

-- after a byte that is no space, no tab and no line ending, either
pub dark_end : (front : List ℕ) (b : ℕ) → at_line_start true b ≡ false → at_line_start false b ≡ false → ends_at_start false (front ++ b ∷ []) ≡ false
dark_end front b first second =
    fold-append at_line_start false front (b ∷ []) ∙ either (fold at_line_start false front)
  where
    either : (t : Bool) → at_line_start t b ≡ false
    either true = first
    either false = second

add_none : (k : ℕ) → k ≡ k + 0
add_none k = omega arith

not_some : (k : ℕ) → (0 < k → ⊥) → k ≡ 0
not_some zero none = refl
not_some (suc k) none = absurd (none (omega arith))

pub written_whole : {A : Type 0} (text front content : List ℕ) (ns : Nodes) (stop : Stop) (a b : Walk A) → WritesInContent text front ns content stop a b
    → IsWhole a
    → ends_at_start false front ≡ false → IsWhole b
written_whole text front content ns stop a b w whole ends =
    not_some (end_in b.out).owed
    (λ inside. true≢false (sym ((w.has_text false (λ some. absurd (omega (arith, some, whole)))).may_start inside) ∙ ends))

module _ {A : Type 0} (names : Names) (text : List ℕ) where
  pub lines_begin : (w : Walk A) (name : Name) (indented : Bool) (bytes content : List ℕ) (stop : Stop) → StandsInContent text (bytes ++ content) stop w
      → WritesLinesTo names text name indented bytes bytes content stop w w
  lines_begin w name indented bytes content stop st = record {
    front = [];
    parts = refl;
    nodes = Nil;
    writes = contents_none text stop w (bytes ++ content) st;
    named = tt;
    plain = plain_none;
    whole = λ on whole some. whole;
    code = λ flat raw. refl;
    html = λ on is whole. refl;
    fill = λ around slots takes none may. fill_none around slots;
    characters = λ utf8. utf8;
  }

  pub lines_more : (a b c : Walk A) (name : Name) (indented : Bool) (bytes rest next content : List ℕ) (size : ℕ) (stop : Stop) → next ≡ drop size rest
      → WritesLinesTo names text name indented bytes rest content stop a b → 0 < length rest → WritesLine names text name indented size rest content stop b c
      → WritesLinesTo names text name indented bytes next content stop a c
  lines_more a b c name indented bytes rest next content size stop is w some line =
      let more = take size rest in
      let left = drop size rest in
      let split : rest ≡ more ++ left = sym (take-append-drop size rest) in
      let first = subst (λ xs. WritesInContent text w.front w.nodes xs stop a b) (ap (λ xs. xs ++ content) split ∙ append_assoc more left content) w.writes in
      let ns = append w.nodes line.nodes in
      subst (λ xs. WritesLinesTo names text name indented bytes xs content stop a c) (sym is) (record {
        front = w.front ++ more;
        parts = w.parts ∙ ap (λ xs. w.front ++ xs) split ∙ sym (append_assoc w.front more left);
        nodes = ns;
        writes = contents_both text stop a b c w.front more (left ++ content) w.nodes line.nodes first line.writes;
        named = named_both (line_names name) w.nodes line.nodes w.named line.named;
        plain = plain_both w.nodes line.nodes w.plain line.plain;
        whole = λ on whole some_left. begins_whole text left content stop c (line.stops on) some_left line.writes.stands;
        code = λ flat raw.
            ap (λ xs. xs ++ map code_space (content_codes left)) (code_append names text w.nodes line.nodes)
            ∙ append_assoc (code_parts names text w.nodes) (code_parts names text line.nodes) (map code_space (content_codes left))
            ∙ ap (λ xs. code_parts names text w.nodes ++ xs) (line.code flat raw)
            ∙ w.code flat raw;
        html = λ on html_is whole.
            ap (λ is. texts.append is (leaves (html_leaves (content_codes left)))) (html_append names text w.nodes line.nodes)
            ∙ append_append (html_parts names text w.nodes) (html_parts names text line.nodes) (leaves (html_leaves (content_codes left)))
            ∙ ap (texts.append (html_parts names text w.nodes)) (line.html on html_is (w.whole on whole some))
            ∙ w.html on html_is whole;
        fill = λ around slots takes none may.
            let both = may_both around w.front more may in fill_both (w.fill around slots takes none both.0) (line.fill around slots takes none both.1);
        characters = λ utf8. IsUtf8-drop rest size (w.characters utf8) (line.cut (w.characters utf8));
      })

  pub lines_end : (a b : Walk A) (name : Name) (indented : Bool) (bytes rest content : List ℕ) (stop : Stop) → rest ≡ []
      → WritesLinesTo names text name indented bytes rest content stop a b → WritesLines names text name indented bytes content stop a b
  lines_end a b name indented bytes rest content stop is any =
      let w = subst (λ xs. WritesLinesTo names text name indented bytes xs content stop a b) is any in
      let all : w.front ≡ bytes = sym (w.parts ∙ append-nil w.front) in
      record {
        nodes = w.nodes;
        writes = subst (λ xs. WritesInContent text xs w.nodes content stop a b) all w.writes;
        named = w.named;
        plain = w.plain;
        code = λ flat raw. sym (append-nil (code_parts names text w.nodes)) ∙ w.code flat raw;
        html = λ on html_is whole. sym (append_none (html_parts names text w.nodes)) ∙ w.html on html_is whole;
        fill = λ around slots takes none may. w.fill around slots takes none (subst (MayEndLines around) (sym all) may);
      }

  -- what is written from a `<` on begins there
  tag_begins : (bytes content : List ℕ) (ns : Nodes) (stop : Stop) (w : Walk A) (to : ℕ) → slice_index bytes 0 ≡ 60 → 0 < length bytes
      → StandsInContent text (bytes ++ content) stop w → IsWhole w → AreJoined (end_edge text (end_in w.out)) ns to → BeginTag text ns
  tag_begins bytes content Nil stop w to opened some st whole joined = tt
  tag_begins [] content (Cons (Around enter kids exit) ns) stop w to opened some st whole joined = absurd (omega (arith, some))
  tag_begins (b ∷ bs) content (Cons (Around enter kids exit) ns) stop w to opened some st whole joined =
      let index = (end_in w.out).index in
      let at = subst (λ (x : ℕ). StandsInContent text (x ∷ (bs ++ content)) stop w) opened st in
      let ahead = line_in_content text stop w (60 ∷ []) (bs ++ content) at refl in
      let next = next_here text (60 ∷ ahead.line) w ahead.stands whole in
      let place : edge (spot_of enter) ≡ index = sym joined.0 ∙ whole_edge text (end_in w.out) whole in
      ap (slice_index text) place ∙ ap (slice_index text) (add_none index) ∙ sym (get_or-drop index text 0 0) ∙ ap (λ xs. slice_index xs 0) next.0

  -- raw HTML
  pub html_front : (on : Constructs) (a b c d : Walk A) (front bytes content : List ℕ) (stop : Stop) → on.html_text ≡ true → bytes ≡ front ++ 62 ∷ []
      → slice_index bytes 0 ≡ 60 → StandsInContent text (bytes ++ content) stop a → IsWhole a
      → standing b ≡ standing a → ((line : List ℕ) → StandsInLine text line a → EntersInLine text n.HtmlText line a b)
      → (StandsInContent text (bytes ++ content) stop b → WritesLines names text n.HtmlTextData true bytes content stop b c) → standing d ≡ standing c
      → ((line : List ℕ) → StandsInLine text line c → ExitsInLine text n.HtmlText line c d)
      → WritesFront on names text bytes content Anywhere (html_leaves (content_codes bytes)) stop a d
  html_front on a b c d front bytes content stop is_on closed opened st whole same_b enters lines same_d exits =
      let entered = line_enters text stop a b n.HtmlText (bytes ++ content) st same_b enters in
      let w = lines entered.stands in
      let exited = line_exits text stop c d n.HtmlText content w.writes.stands same_d exits in
      let node = Around (enter_at text n.HtmlText (end_in a.out)) w.nodes (exit_at text n.HtmlText (end_in c.out)) in
      let all = contents_around text stop a b c d n.HtmlText bytes content w.nodes entered w.writes exited refl in
      let some : 0 < length bytes = omega (arith, ap length closed, length-append front (62 ∷ [])) in
      let whole_b : IsWhole b = ap (λ (e : End). e.owed) entered.end ∙ whole in
      let filled : (around : Between) → MayEndLines around bytes → IsFilled around Plain node =
      λ around may.
      filled_around around Plain n.HtmlText html_row html_row bytes node refl refl refl refl may (w.fill around html_row refl html_between may) refl in
      record {
        nodes = one node;
        writes = all;
        whole = written_whole text bytes content (one node) stop a d all whole (ap (ends_at_start false) closed ∙ dark_end front 62 refl refl);
        plain = plain_one node refl w.plain;
        spells = λ linked may. append_none (html_parts names text w.nodes) ∙ w.html refl refl whole_b;
        fill = λ around may. fill_taken around text_row n.HtmlText Plain text_row node refl refl (filled around may);
        sound =
            sound_one on names text node (
            sound_tag on names text 2 Lines Plain node refl is_on (written_some text bytes w.nodes content stop b c some whole_b w.writes)
            (tag_begins bytes content w.nodes stop b (end_edge text (end_in c.out)) opened some entered.stands whole_b w.writes.joined)
            refl (filled Lines tt));
      }
