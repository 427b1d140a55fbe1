-- Blocks that hold a text, as they are written (CommonMark 4.8).
use Rattle.std.proofs.Common.{◌≡◌, ℕ, Bool, true, false, List, [], ◌++◌, refl, sym, ap, ◌∙◌, subst, map, drop, arith}
use Rattle.std.specs.List.{list_all}
use Rattle.std.specs.Prelude.{OnOk, Result, Ok, Err}
use Rattle.parse_leaves.proofs.Prelude.{AreDefinitionsAlike, AreMeanings, ArePartsAlike, ArePlain, around, Around, AtEnding, Between, BlockLine, Constructs}
use Rattle.parse_leaves.proofs.Prelude.{content_done, content_text, cut_one, definition_of, End, end_at, end_in, enter_at, EntersAt, EntersText, exit_at}
use Rattle.parse_leaves.proofs.Prelude.{Exits, flat_map, HasSameOpen, inline_content, Inlines, inlines_of, IsInOrder, IsLeafLaid, IsWrittenToRest, last_ending}
use Rattle.parse_leaves.proofs.Prelude.{line_text, LineRest, Meaning, Name, named, Names, Node, Nodes, one, own_lines, Paragraph, Place, read_content, Reading}
use Rattle.parse_leaves.proofs.Prelude.{is_white, rest_line}
use Rattle.parse_leaves.proofs.Prelude.{same_name, SpellsLeaf, Standing, standing, StandsAt, Stop, text_stop, Walk, Within, Writes, writes_around, writes_both}
use Rattle.parse_leaves.proofs.Prelude.{WritesContent, WritesLeaf, WritesText, written_to}
use Rattle.markdown_options.specs.declared.beside.Kind.TheVariants.{Whitespace}
use Rattle.engine_events.specs.declared.event.Name.TheVariants as n
use Rattle.definition_page.specs.Page as page
use Rattle.definition_page.specs.Read.{read_paragraph}
use Rattle.event_grammar.specs.declared.slot.Between.{Between as BetweenChildren}
use Rattle.event_grammar.specs.declared.slot.Between.TheVariants.{Lines}
use Rattle.event_grammar.specs.declared.slot.Form.TheVariants.{Plain}
use Rattle.event_grammar.specs.Slots.{one_line}
use Rattle.event_grammar.specs.Grammar.{row, text_row}
use Rattle.parse_slots.specs.Left.{Fill}
use Rattle.parse_references.specs.Sound.{AreSound}
use Rattle.parse_output.specs.Forest.{is_nil}
use Rattle.parse_references.proofs.Sound.{sound_full}
use Rattle.parse_lines.proofs.SomeNodes.{dark_left, dark_some}
use Rattle.parse_laid.specs.Leaves.{AreText}
use Rattle.parse_leaves.proofs.Fills.{text_filled}
use Rattle.parse_leaves.proofs.Lines.{content_dark, first_dark, rest_dark, text_begins}

-- three facts of a call that succeeds
pub three_ok : {T E P Q S R : Type 0} (r : Result T E) → (P → Q → S → R) → OnOk r P → OnOk r Q → OnOk r S → OnOk r R
three_ok (Ok x) f p q s = f p q s
three_ok (Err e) f p q s = tt

-- no definitions
pub none_alike : (m m' : Meaning) (names : Names) (text : List ℕ) (ds : List Node) → ds ≡ []
    → AreDefinitionsAlike m m' [] (map (definition_of names text) (ds ++ []))
none_alike m m' names text ds none = subst (λ (xs : List Node). AreDefinitionsAlike m m' [] (map (definition_of names text) (xs ++ []))) (sym none) tt

-- a paragraph spells its text
pub paragraph_spells : (on : Constructs) (names : Names) (text : List ℕ) (top : Bool) (is : Inlines) (ns : Nodes) (from to : End) → ArePlain ns
    → ((m m' : Meaning) → AreMeanings on names m m' → ArePartsAlike m m' is (inlines_of names text false ns)) → AreSound on names text ns
    → is_nil ns ≡ false → SpellsLeaf on names text top (page.Paragraph is) [] (Around (enter_at text n.Paragraph from) ns (exit_at text n.Paragraph to))
paragraph_spells on names text top is ns from to plain spells sound some = record {
  is_block = refl;
  blocks = λ m m' means. (spells m m' means, tt);
  definitions = λ m m' means. none_alike m m' names text (named n.Definition ns) plain.definitions;
  sound = sound_full on names text (Around (enter_at text n.Paragraph from) ns (exit_at text n.Paragraph to)) refl refl some sound;
}

pub open_both : (a b c : Standing) → HasSameOpen a b → HasSameOpen b c → HasSameOpen a c
open_both a b c p q = (q.0 ∙ p.0, q.1 ∙ p.1)

-- the same lines have the same content
pub same_content : (ls taken : List BlockLine) → own_lines ls ≡ own_lines taken → content_text ls ≡ content_text taken
same_content ls taken same = ap (flat_map line_text) same

module _ {A : Type 0} (text : List ℕ) where
  -- an event is entered at the start of the lines of a text
  pub enters_lines : (name : Name) (old a : Walk A) (here : LineRest) (left : List LineRest) (ls taken : List BlockLine) (end : Place)
      → StandsAt text (Within here left) (standing old) → IsWrittenToRest old → IsInOrder text old.out → EntersText name old a
      → AreText old.on.now (around (standing old)) taken (Within here left) end → own_lines ls ≡ own_lines taken
      → (after : List LineRest) × (end ≡ Between after) × EntersAt text name (content_text ls) (text_stop taken after) old a
      × (list_all is_white (content_text ls) ≡ false)
  enters_lines name old a here left ls taken end at to_rest order enters are same =
      let b = text_begins old.on.now (around (standing old)) here left taken end are.0 are.1 in
      let entered = enters text here left b.after b.others at to_rest order b.ahead in
      let by_taken = subst (λ xs. EntersAt text name (content_text xs) (text_stop xs b.after) old a) (sym b.same) entered in
      let same_text = same_content ls taken same in
      let line = rest_line here.rest here.beside in
      let dark = first_dark old.on.now (around (standing old)) here left taken end are.0 are.1 in (
        b.after,
        b.end_is,
        subst (λ bs. EntersAt text name bs (text_stop taken b.after) old a) (sym same_text) by_taken,
        ap (list_all is_white) (same_text ∙ ap content_text b.same) ∙ content_dark line b.others (rest_dark here.rest dark),
      )

  -- a block with its text
  pub leaf_around : (on : Constructs) (names : Names) (top : Bool) (leaf : page.PageLeaf) (name : Name) (content : List ℕ) (is : Inlines) (stop : Stop)
      (old a b new : Walk A) → same_name name n.Data ≡ false → stop.behind ≡ 0 → EntersAt text name content stop old a
      → list_all is_white content ≡ false
      → WritesText on names text (drop a.place content) is [] stop a b → (IsInOrder text b.out → Exits text name b.out new.out)
      → standing new ≡ standing b
      → written_to new ≡ written_to b
      → ((ns : Nodes) (from to : End) → ArePlain ns
      → ((m m' : Meaning) → AreMeanings on names m m' → ArePartsAlike m m' is (inlines_of names text false ns)) → AreSound on names text ns
      → is_nil ns ≡ false → SpellsLeaf on names text top leaf [] (Around (enter_at text name from) ns (exit_at text name to)))
      → row name Plain ≡ text_row → one_line Lines name ≡ Lines
      → WritesLeaf on names text top leaf [] stop.place old new
  leaf_around on names top leaf name content is stop old a b new other none entered dark written exits same end spells row_is lines =
      let ns = written.nodes in
      let from = end_in entered.space in
      let to = end_in b.out in
      let done = content_done text stop b written.writes.stands in
      let some = dark_some text (drop a.place content) ns (dark_left a.place content entered.white dark) (written.writes.has_text true (λ owes. refl)).same in
      let line_end : new.line_end ≡ b.line_end = ap (λ (s : Standing). s.line_end) same in
      let index : to.index ≡ new.line_end = omega (arith, done.index, none, line_end) in
      record {
        before = entered.before;
        are_quiet = entered.are_quiet;
        node = Around (enter_at text name from) ns (exit_at text name to);
        spells = spells ns from to written.plain written.spells written.sound some;
        writes =
            writes_both text old.out entered.space new.out entered.before (one (Around (enter_at text name from) ns (exit_at text name to))) entered.writes
            (subst (Writes text entered.space new.out) (cut_one text name from to ns other)
            (writes_around text entered.space a.out b.out new.out name ns entered.enters written.writes.writes
            (exits written.writes.writes.order)));
        stands = subst (StandsAt text stop.place) (sym same) done.at;
        around =
            open_both (standing old) (standing a) (standing new) entered.around
            (subst (HasSameOpen (standing a)) (sym same) written.writes.around);
        written = end ∙ ap (end_at to.index) done.whole ∙ ap (λ k. end_at k 0) index;
        starts = entered.starts;
        begins = entered.begins;
        ends = index;
        filled =
            text_filled Lines name (Around (enter_at text name from) ns (exit_at text name to)) refl row_is
            (subst (λ (b : BetweenChildren). Fill b text_row ns text_row) (sym lines) (written.fill Lines tt));
      }

  -- a paragraph
  pub paragraph_written : (r : Reading) (top first : Bool) (here : LineRest) (left : List LineRest) (to : Place) (ls : List BlockLine) (old a b new : Walk A)
      → StandsAt text (Within here left) (standing old) → IsWrittenToRest old → IsInOrder text old.out
      → IsLeafLaid old.on.now (around (standing old)) (Paragraph (own_lines ls)) (Within here left) to → EntersText n.Paragraph old a
      → WritesContent r (content_text ls) (read_content r first (inline_content r.tables.is_punctuation Whitespace (own_lines ls))) a b
      → (IsInOrder text b.out → Exits text n.Paragraph b.out new.out) → standing new ≡ standing b → written_to new ≡ written_to b
      → WritesLeaf r.parse.constructs r.tables.names text top (page.Paragraph (read_paragraph r first (own_lines ls))) [] to old new
  paragraph_written r top first here left to ls old a b new at to_rest order laid enters writes exits same end =
      let taken = laid.0 in
      let on = r.parse.constructs in
      let names = r.tables.names in
      let is = read_paragraph r first (own_lines ls) in
      let entered = enters_lines n.Paragraph old a here left ls taken laid.1 at to_rest order enters laid.2 laid.3 in
      let stop = text_stop taken entered.0 in
      let ends = laid.4 in
      let lefts : Between entered.0 ≡ Between ends.0 = sym entered.1 ∙ ends.1 in
      let same_left : entered.0 ≡ ends.0 = cc in
      let to_is : stop.place ≡ to = ap (AtEnding (last_ending taken)) same_left ∙ sym ends.2 in
      subst (λ p. WritesLeaf on names text top (page.Paragraph is) [] p old new) to_is
      (leaf_around on names top (page.Paragraph is) n.Paragraph (content_text ls) is stop old a b new refl refl entered.2 entered.3
      (writes text stop entered.2.stands entered.2.white) exits same end
      (λ ns from end plain spells sound some. paragraph_spells on names text top is ns from end plain spells sound some) refl refl)
