-- A heading with an underline, as it is written (CommonMark 4.3).
use Rattle.std.proofs.Common.{◌≡◌, ℕ, suc, ◌+◌, ◌<◌, Bool, true, false, ◌&&◌, eqb, if◌then◌else◌, leb, List, [], ◌∷◌, ◌++◌, Option, None, Some, refl, sym, ap, ◌∙◌, inl, inr, subst, length, get_or, drop, reverse, arith}
use Rattle.parse_leaves.proofs.Prelude.{append, AreMeanings, ArePartsAlike, ArePlain, AreQuiet, around, Around, AtEnding, bare, Between, BlockLine, bytes_of}
use Rattle.parse_leaves.proofs.Prelude.{cases_Bool, cond-false, cond-true, Cons, Constructs, Container, content_text, cut_one, End, end_at, end_in, enter_at}
use Rattle.parse_leaves.proofs.Prelude.{EntersAt, EntersText, eqb-true, exit_at, Exits, HasSameOpen, inline_content, Inlines, inlines_of, is_white}
use Rattle.parse_leaves.proofs.Prelude.{IsInOrder, IsQuiet, IsWrittenToRest, kids_in, last_ending, line_left, LineEnding, LineRest, Meaning, named, named_both}
use Rattle.parse_leaves.proofs.Prelude.{Names, Nil, Node, node_name, Nodes, one, own_lines, Place, prefix_len, prefixed, read_content, read_text, Reading}
use Rattle.parse_leaves.proofs.Prelude.{Rest, same_name, small_indent, SpellsLeaf, standing, Standing, StandsAt, Stop, text_in, true≢false, void_nodes, Walk}
use Rattle.parse_leaves.proofs.Prelude.{whole_end, Within, Writes, writes_around, writes_both, WritesContentIn, WritesLeaf, WritesUnderline, written_to}
use Rattle.std.specs.List.{list_all}
use Rattle.markdown_options.specs.declared.beside.Kind.TheVariants.{Whitespace}
use Rattle.parse_leaves.proofs.Prelude.{run}
use Rattle.std.proofs.lemmas.Bool.{and_parts}
use Rattle.std.specs.Prelude.{codes}
use Rattle.definition_text.specs.Runs.{after_run}
use Rattle.event_tokens.specs.Tokens.{is_among}
use Rattle.parse_raw.proofs.Bytes.{ending_token, line_ending_fits}
use Rattle.parse_leaves.specs.Entered.{AreUnderline}
use Rattle.engine_events.specs.declared.event.Name.TheVariants as n
use Rattle.definition_text.specs.Runs.{is_run}
use Rattle.definition_block.specs.HeadingSetext.{underline, underline_of}
use Rattle.definition_page.specs.Page as page
use Rattle.event_grammar.specs.declared.slot.Between.TheVariants.{Lines}
use Rattle.event_grammar.specs.declared.slot.Form.TheVariants.{Plain}
use Rattle.event_grammar.specs.InGrammar.{kids_of}
use Rattle.event_meaning.specs.Blocks.{underline_rank}
use Rattle.event_meaning.specs.Children.{child, inside_of}
use Rattle.parse_laid.specs.Leaves.{IsSetextLaid}
use Rattle.parse_laid.specs.Places.{InAll, IsOn}
use Rattle.parse_slots.specs.Left.{IsFilled}
use Rattle.parse_slots.proofs.Steps.{filled_by}
use Rattle.parse_references.specs.Sound.{AreSound}
use Rattle.parse_output.specs.Forest.{is_nil}
use Rattle.parse_references.proofs.Sound.{asks_construct, sound_both, sound_filled, sound_full, sound_one, void_sound}
use Rattle.parse_lines.proofs.SomeNodes.{dark_left, dark_some}
use Rattle.parse_strings.proofs.SoundNodes.{quiet_sound}
use Rattle.parse_lines.specs.Ends.{WritesNextLine, line_after}
use Rattle.parse_lines.specs.Steps.{PassesLine}
use Rattle.parse_raw.proofs.Nodes.{child_append, quiet_definitions, void_cases}
use Rattle.parse_leaves.proofs.Fills.{setext_fill, text_filled}
use Rattle.parse_leaves.proofs.TextLeaves.{enters_lines, none_alike, open_both}

-- ---- the rank

run_first : (byte : ℕ) (bs : List ℕ) → is_run 1 byte bs ≡ true → (0 < length bs) × (get_or bs 0 0 ≡ byte)
run_first byte [] is = absurd (true≢false (sym is))
run_first byte (b ∷ bs) is = elim (cases_Bool (eqb b byte)) [
  | inl same ↦ (some_size (length bs), eqb-true b byte same)
  | inr other ↦
      let none : is_run 1 byte (b ∷ bs) ≡ false =
      ap (λ n. leb 1 n && list_all is_white (drop n (b ∷ bs))) (cond-false (eqb b byte) (1 + prefix_len (λ c. eqb c byte) bs) 0 other) in
      absurd (true≢false (sym is ∙ none))
]
  where
    some_size : (n : ℕ) → 0 < suc n
    some_size n = omega arith

some_same : (a b : ℕ) → Some a ≡ Some b → a ≡ b
some_same a b h = cc

none_some : (b : ℕ) → None ≡ Some b → ⊥
none_some b h = cc

rank_of : (bs : List ℕ) (rank : ℕ) → underline_of bs ≡ Some rank → (0 < length bs) × ((if eqb (get_or bs 0 0) 45 then 2 else 1) ≡ rank)
rank_of bs rank is = elim (cases_Bool (is_run 1 61 bs)) [
  | inl first ↦
      let found = run_first 61 bs first in
      let one : 1 ≡ rank = some_same 1 rank (sym (cond-true (is_run 1 61 bs) (Some 1) _ first) ∙ is) in
      (found.0, ap (λ b. if eqb b 45 then 2 else 1) found.1 ∙ one)
  | inr other ↦ elim (cases_Bool (is_run 1 45 bs)) [
    | inl second ↦
        let found = run_first 45 bs second in
        let two : 2 ≡ rank =
        some_same 2 rank (sym (cond-false (is_run 1 61 bs) (Some 1) _ other ∙ cond-true (is_run 1 45 bs) (Some 2) None second) ∙ is) in
        (found.0, ap (λ b. if eqb b 45 then 2 else 1) found.1 ∙ two)
    | inr none ↦
        absurd (none_some rank (sym (cond-false (is_run 1 61 bs) (Some 1) _ other ∙ cond-false (is_run 1 45 bs) (Some 2) None none) ∙ is))
  ]
]

underline_by : (byte : ℕ) (bs : List ℕ) → is_among (codes "=-") byte ≡ true → is_run 1 byte bs ≡ true → AreUnderline bs
underline_by byte bs among is =
    let first = (run_first byte bs is).1 in (
      ap (is_among (codes "=-")) first ∙ among,
      ap (λ (b : ℕ). list_all is_white (after_run b bs)) first ∙ (and_parts (leb 1 (run byte bs)) (list_all is_white (after_run byte bs)) is).1,
    )

underline_bytes : (bs : List ℕ) (rank : ℕ) → underline_of bs ≡ Some rank → AreUnderline bs
underline_bytes bs rank is = elim (cases_Bool (is_run 1 61 bs)) [
  | inl first ↦ underline_by 61 bs refl first
  | inr other ↦ elim (cases_Bool (is_run 1 45 bs)) [
    | inl second ↦ underline_by 45 bs refl second
    | inr none ↦
        absurd (none_some rank (sym (cond-false (is_run 1 61 bs) (Some 1) _ other ∙ cond-false (is_run 1 45 bs) (Some 2) None none) ∙ is))
  ]
]

underlined : (on : Constructs) (rest : Rest) (rank : ℕ) → underline on rest ≡ Some rank
    → (underline_of (bytes_of (bare rest)) ≡ Some rank) × (on.heading_setext ≡ true)
underlined on rest rank is = elim (cases_Bool (on.heading_setext && small_indent on rest)) [
  | inl may ↦ (
    sym (cond-true (on.heading_setext && small_indent on rest) (underline_of (bytes_of (bare rest))) None may) ∙ is,
    (and_parts on.heading_setext (small_indent on rest) may).0,
  )
  | inr fails ↦ absurd (none_some rank (sym (cond-false (on.heading_setext && small_indent on rest) (underline_of (bytes_of (bare rest))) None fails) ∙ is))
]

-- ---- the nodes

quiet_child : (ns : Nodes) → AreQuiet ns → child n.HeadingSetextUnderline ns ≡ None
quiet_child Nil quiet = refl
quiet_child (Cons (Around enter kids exit) ns) quiet =
    cond-false (same_name enter.name n.HeadingSetextUnderline) (Some (Around enter kids exit)) (child n.HeadingSetextUnderline ns)
    (other_name (Around enter kids exit) quiet.0)
    ∙ quiet_child ns quiet.1
  where
    other_name : (node : Node) → IsQuiet node → same_name (node_name node) n.HeadingSetextUnderline ≡ false
    other_name node (inl is) = ap (λ name. same_name name n.HeadingSetextUnderline) is.0
    other_name node (inr is) = ap (λ name. same_name name n.HeadingSetextUnderline) is.0

found_child : (node : Node) → node_name node ≡ n.HeadingSetextUnderline → child n.HeadingSetextUnderline (one node) ≡ Some node
found_child node is =
    cond-true (same_name (node_name node) n.HeadingSetextUnderline) (Some node) None (ap (λ name. same_name name n.HeadingSetextUnderline) is)

module _ (text : List ℕ) (first : Node) (from to : End) (quiet before : Nodes) (under : Node) where
  -- what is in the heading: the text, the ending of its last line, and the underline
  abbrev pub heading_kids : Nodes
  heading_kids = append (one first) (append (append (void_nodes text n.LineEnding from to) quiet) (append before (one under)))

module _ (on : Constructs) (names : Names) (text : List ℕ) (top : Bool) (rank : ℕ) (is : Inlines)
    (ns quiet before : Nodes) (under : Node) (from to first last : End) where
  abbrev text_node : Node
  text_node = Around (enter_at text n.HeadingSetextText first) ns (exit_at text n.HeadingSetextText last)

  abbrev kids : Nodes
  kids = heading_kids text text_node from to quiet before under

  pub setext_spells : (start end : End) → AreQuiet quiet → AreQuiet before → node_name under ≡ n.HeadingSetextUnderline
      → (if eqb (get_or (text_in text n.HeadingSetextUnderlineSequence (kids_of under)) 0 0) 45 then 2 else 1) ≡ rank
      → named n.Definition (one under) ≡ [] → ArePlain ns
      → ((m m' : Meaning) → AreMeanings on names m m' → ArePartsAlike m m' is (inlines_of names text false ns))
      → IsFilled Lines Plain under → on.heading_setext ≡ true → AreSound on names text ns → is_nil ns ≡ false
      → SpellsLeaf on names text top (page.Heading rank is) [] (Around (enter_at text n.HeadingSetext start) kids (exit_at text n.HeadingSetext end))
  setext_spells start end are_quiet are_before is_under is_rank none plain spells filled made sound some =
      let void = void_nodes text n.LineEnding from to in
      let void_child : child n.HeadingSetextUnderline void ≡ None =
      void_cases (λ ms. child n.HeadingSetextUnderline ms ≡ None) text n.LineEnding from to refl (λ h. refl) (λ h. refl) in
      let void_named : named n.Definition void ≡ [] =
      void_cases (λ ms. named n.Definition ms ≡ []) text n.LineEnding from to refl (λ h. refl) (λ h. refl) in
      let found : child n.HeadingSetextUnderline kids ≡ Some under =
      child_append n.HeadingSetextUnderline (append void quiet) (append before (one under))
      (child_append n.HeadingSetextUnderline void quiet void_child ∙ quiet_child quiet are_quiet)
      ∙ child_append n.HeadingSetextUnderline before (one under) (quiet_child before are_before)
      ∙ found_child under is_under in
      let rank_is : rank ≡ underline_rank names text (text_in text n.HeadingSetextUnderlineSequence (kids_in n.HeadingSetextUnderline kids)) =
      sym (ap (λ u. if eqb (get_or (text_in text n.HeadingSetextUnderlineSequence (inside_of u)) 0 0) 45 then 2 else 1) found ∙ is_rank) in
      let middle : named n.Definition (append void quiet) ≡ [] =
      named_both n.Definition void quiet ∙ ap (λ ds. ds ++ named n.Definition quiet) void_named ∙ quiet_definitions quiet are_quiet in
      let end_named : named n.Definition (append before (one under)) ≡ [] =
      named_both n.Definition before (one under) ∙ ap (λ ds. ds ++ named n.Definition (one under)) (quiet_definitions before are_before) ∙ none in
      let others : named n.Definition (append (append void quiet) (append before (one under))) ≡ [] =
      named_both n.Definition (append void quiet) (append before (one under))
      ∙ ap (λ ds. ds ++ named n.Definition (append before (one under))) middle ∙ end_named in
      let sound_end = sound_both on names text before (one under) (quiet_sound on names text before are_before)
      (sound_one on names text under (sound_filled on names text 2 Lines Plain n.HeadingSetextUnderline under is_under refl filled)) in
      let sound_others = sound_both on names text (append void quiet) (append before (one under))
      (sound_both on names text void quiet (void_sound on names text n.LineEnding from to refl) (quiet_sound on names text quiet are_quiet)) sound_end in
      record {
        is_block = refl;
        blocks = λ m m' means. ((rank_is, spells m m' means), tt);
        definitions = λ m m' means.
            none_alike m m' names text (named n.Definition kids)
            (ap (λ ds. ds ++ named n.Definition (append (append void quiet) (append before (one under)))) plain.definitions ∙ others);
        sound = (asks_construct on names text n.HeadingSetext kids refl made, (sound_full on names text text_node refl refl some sound, sound_others));
      }

-- ---- the whole

module _ {A : Type 0} (text : List ℕ) where
  setext_on : (r : Reading) (top : Bool) (rank : ℕ) (is : Inlines) (here : LineRest) (left after : List LineRest) (ending : Option LineEnding)
      (content : List ℕ) (old a b c d new : Walk A) (under : LineRest) (others : List LineRest)
      → EntersAt text n.HeadingSetext content (record { place = AtEnding ending after; behind = 0 }) old a → list_all is_white content ≡ false
      → WritesContentIn r n.HeadingSetextText content is a b → PassesLine (standing b) (standing c) → WritesNextLine b c
      → HasSameOpen (standing b) (standing c) → old.on.now ≡ r.parse.constructs → IsOn old.on.now (around (standing old)) (Between after) (InAll under) others
      → underline old.on.now under.rest ≡ Some rank
      → ((here : LineRest) (left : List LineRest) → StandsAt text (Within here left) (standing c) → IsWrittenToRest c → IsInOrder text c.out
      → 0 < length (bytes_of (bare here.rest)) → AreUnderline (bytes_of (bare here.rest)) → WritesUnderline text here left c d)
      → standing new ≡ standing d → written_to new ≡ written_to d → (IsInOrder text d.out → Exits text n.HeadingSetext d.out new.out)
      → WritesLeaf r.parse.constructs r.tables.names text top (page.Heading rank is) [] (AtEnding under.beside.ending others) old new
  setext_on r top rank is here left [] ending content old a b c d new under others entered dark writes passes next_written kept by is_on found
      under_written same end exits =
      absurd is_on
  setext_on r top rank is here left (next ∷ after) ending content old a b c d new under others entered dark writes passes next_written kept by is_on found
      under_written same end exits =
      let on = r.parse.constructs in
      let names = r.tables.names in
      let stop : Stop = record { place = AtEnding ending (next ∷ after); behind = 0 } in
      let t = writes text stop entered.stands entered.white in
      let some = dark_some text (drop a.place content) t.nodes (dark_left a.place content entered.white dark) (t.has_text true (λ owes. refl)) in
      let at_end : written_to b ≡ end_at b.line_end 0 = whole_end (end_in b.out) t.whole ∙ ap (λ k. end_at k 0) (omega (arith, t.index)) in
      let to = line_after b in
      let done = next_written text ending next after t.at t.writes.order (ending_token text n.LineEnding b line_ending_fits t.at.line at_end) in
      let quiet = done.0 in
      let ab : HasSameOpen (standing old) (standing b) = open_both (standing old) (standing a) (standing b) entered.around t.around in
      let line : line_left (prefixed b.on.now (around (standing b)) next) ≡ under =
      ap (λ o. line_left (prefixed o (around (standing b)) next)) ab.0
      ∙ ap (λ (cs : List Container). line_left (prefixed old.on.now (reverse cs) next)) ab.1 ∙ ap line_left is_on.0 in
      let within : StandsAt text (Within under others) (standing c) =
      subst (λ l. StandsAt text (Within l others) (standing c)) line
      (subst (λ ls. StandsAt text (Within (line_left (prefixed b.on.now (around (standing b)) next)) ls) (standing c)) is_on.1
      (passes text ending next after t.at)) in
      let line_is = underlined old.on.now under.rest rank found in
      let rank_found = rank_of (bytes_of (bare under.rest)) rank line_is.0 in
      let are = underline_bytes (bytes_of (bare under.rest)) rank line_is.0 in
      let u = under_written under others within done.4 done.1.order rank_found.0 are in
      let void = void_nodes text n.LineEnding (written_to b) to in
      let text_node = Around (enter_at text n.HeadingSetextText t.from) t.nodes (exit_at text n.HeadingSetextText t.to) in
      let kids = heading_kids text text_node (written_to b) to quiet u.before u.node in
      let inner : Writes text a.out d.out kids =
      writes_both text a.out b.out d.out (one text_node) (append (append void quiet) (append u.before (one u.node))) t.writes
      (writes_both text b.out c.out d.out (append void quiet) (append u.before (one u.node)) done.1 u.writes) in
      let from = end_in entered.space in
      let last = end_in d.out in
      let node = Around (enter_at text n.HeadingSetext from) kids (exit_at text n.HeadingSetext last) in
      let line_end : new.line_end ≡ d.line_end = ap (λ (s : Standing). s.line_end) same in
      let index : last.index ≡ new.line_end = ap (λ (e : End). e.index) u.written ∙ sym line_end in
      record {
        before = entered.before;
        are_quiet = entered.are_quiet;
        node = node;
        spells =
            setext_spells on names text top rank is t.nodes quiet u.before u.node (written_to b) to t.from t.to from last done.2 u.are_quiet u.is_underline
            (ap (λ k. if eqb k 45 then 2 else 1) u.marker ∙ rank_found.1) u.definitions t.plain t.spells u.filled
            (subst (λ (c : Constructs). c.heading_setext ≡ true) by line_is.1) t.sound some;
        writes =
            writes_both text old.out entered.space new.out entered.before (one node) entered.writes
            (subst (Writes text entered.space new.out) (cut_one text n.HeadingSetext from last kids refl)
            (writes_around text entered.space a.out d.out new.out n.HeadingSetext kids entered.enters inner (exits inner.order)));
        stands = subst (StandsAt text (AtEnding under.beside.ending others)) (sym same) u.at;
        around =
            open_both (standing old) (standing b) (standing new) ab
            (open_both (standing b) (standing c) (standing new) kept (subst (HasSameOpen (standing c)) (sym same) u.around));
        written = end ∙ u.written ∙ ap (λ k. end_at k 0) (sym line_end);
        starts = entered.starts;
        begins = entered.begins;
        ends = index;
        filled =
            filled_by Lines Plain n.HeadingSetext [] node refl
            (setext_fill text text_node (written_to b) to quiet u.before u.node refl
            (text_filled Lines n.HeadingSetextText text_node refl refl (t.fill Lines tt)) done.2 u.are_quiet u.is_underline u.filled) refl;
      }

  pub setext_written : (r : Reading) (top : Bool) (rank : ℕ) (here : LineRest) (left : List LineRest) (to : Place) (ls : List BlockLine)
      (old a b c d new : Walk A) → StandsAt text (Within here left) (standing old) → IsWrittenToRest old → IsInOrder text old.out
      → old.on.now ≡ r.parse.constructs → IsSetextLaid old.on.now (around (standing old)) rank (own_lines ls) (Within here left) to → EntersText n.HeadingSetext old a
      → WritesContentIn r n.HeadingSetextText (content_text ls) (read_content r false (inline_content r.tables.is_punctuation Whitespace (own_lines ls))) a b
      → PassesLine (standing b) (standing c) → WritesNextLine b c → HasSameOpen (standing b) (standing c)
      → ((here : LineRest) (left : List LineRest) → StandsAt text (Within here left) (standing c) → IsWrittenToRest c → IsInOrder text c.out
      → 0 < length (bytes_of (bare here.rest)) → AreUnderline (bytes_of (bare here.rest)) → WritesUnderline text here left c d)
      → standing new ≡ standing d → written_to new ≡ written_to d → (IsInOrder text d.out → Exits text n.HeadingSetext d.out new.out)
      → WritesLeaf r.parse.constructs r.tables.names text top (page.Heading rank (read_text r (own_lines ls))) [] to old new
  setext_written r top rank here left to ls old a b c d new at to_rest order by laid enters writes passes next kept under same end exits =
      let taken = laid.0 in
      let entered = enters_lines text n.HeadingSetext old a here left ls taken laid.1 at to_rest order enters laid.4 laid.5 in
      let is = read_text r (own_lines ls) in
      let on_line : IsOn old.on.now (around (standing old)) (Between entered.0) (InAll laid.2) laid.3 =
      subst (λ p. IsOn old.on.now (around (standing old)) p (InAll laid.2) laid.3) entered.1 laid.6 in
      subst (λ p. WritesLeaf r.parse.constructs r.tables.names text top (page.Heading rank is) [] p old new) (sym laid.8)
      (setext_on r top rank is here left entered.0 (last_ending taken) (content_text ls) old a b c d new laid.2 laid.3 entered.2 entered.3 writes passes next
      kept by on_line
      laid.7 under same end exits)
