-- What is written of a link reference definition, step by step (CommonMark 4.7).
use Rattle.std.proofs.Common.{◌≡◌, ℕ, zero, suc, ◌+◌, ◌-◌, ◌<◌, ◌≤◌, Bool, true, false, eqb, List, [], ◌∷◌, ◌++◌, Option, None, Some, inl, inr, refl, sym, ap, ap₂, ◌∙◌, subst}
use Rattle.std.proofs.Common.{drop, length, length-append, map, take, arith}
use Rattle.parse_leaves.proofs.Prelude.{append, append-nil, AreBytes, AreDefinitionsAlike, AreLines, AreMeanings, AreNext, AreTaken, around, Around, AtEnding}
use Rattle.parse_leaves.proofs.Prelude.{BeginsContent, Between, BlockLine, cases_Bool, code_byte, cond-false, cond-true, Constructs, Container, content_codes}
use Rattle.parse_leaves.proofs.Prelude.{content_done, content_from, content_of, content_text, cut_one, definition_of, definition_on, definition_value, End}
use Rattle.parse_leaves.proofs.Prelude.{end_after, end_at, end_in, ending_text, ends_line, enter_at, EntersInLine, exit_at, HasSameOpen, HaveNoEnding}
use Rattle.parse_leaves.proofs.Prelude.{is_blank, is_eol, is_white, IsInOrder, IsLeafLaid, IsRestLine, IsTextLine, IsWhole, IsWrittenToRest, kids_in}
use Rattle.parse_leaves.proofs.Prelude.{length-drop, length-take-le, line_in_content, line_left, LineEnding, LineRest, list_any, Meaning, named, Names, ne_eqb}
use Rattle.parse_leaves.proofs.Prelude.{Node, Nodes, none-some, one, or_parts, own_lines, Place, Prefixed, Reading, rest_line, same_name, Single, spaced_line}
use Rattle.parse_leaves.proofs.Prelude.{SpellsLeaf, standing, Standing, StandsAt, StandsInContent, StandsInLine, Stop, take-append-drop, text_stop, true≢false}
use Rattle.parse_leaves.proofs.Prelude.{void_nodes, Walk, Within, Writes, writes_around, writes_both, WritesInLine, WritesRow}
use Rattle.std.specs.Option.{option_map, option_or}
use Rattle.std.specs.List.{list_all}
use Rattle.std.specs.Prelude.{◌&&◌}
use Rattle.std.proofs.lemmas.Bool.{or_from}
use Rattle.parse_lines.specs.Content.{HasBytes}
use Rattle.parse_lines.proofs.Bytes.{has_kind}
use Rattle.parse_lines.proofs.Spots.{bytes_after, bytes_before}
use Rattle.std.specs.Str.{IsCharBoundary, IsUtf8}
use Rattle.std.proofs.lemmas.Bool.{eqb-false}
use Rattle.std.proofs.lemmas.Str.{IsCharBoundary-start}
use Rattle.markdown_options.specs.LineEndings.{ending_bytes}
use Rattle.markdown_options.specs.declared.line_ending.LineEnding.TheVariants.{CarriageReturnLineFeed, CarriageReturn, LineFeed}
use Rattle.engine_events.specs.declared.event.Name.TheVariants as n
use Rattle.definition_text.specs.Columns.{Code}
use Rattle.definition_text.specs.Content.{Part, line_ending_code}
use Rattle.definition_block.specs.Tree.{Definition as DefinitionLeaf}
use Rattle.definition_inline.specs.Definition.{Definition, definition, definition_at, definition_with_title, definition_without_title, next_line, next_line_after}
use Rattle.definition_inline.specs.Destination.{destination_at}
use Rattle.definition_inline.specs.Label.{label_at}
use Rattle.definition_inline.specs.Parts.{after_code, after_part}
use Rattle.definition_inline.specs.Space.{after_spaces, after_white}
use Rattle.definition_inline.specs.Strings.{string_text}
use Rattle.definition_inline.proofs.LinkRenaming.{code_byte-renames, definition_renamed, renamed_definition}
use Rattle.definition_page.specs.Page as page
use Rattle.event_grammar.specs.declared.slot.Between.TheVariants.{Lines}
use Rattle.event_grammar.specs.declared.slot.Form.TheVariants.{Plain}
use Rattle.event_grammar.specs.References.{label_text}
use Rattle.event_meaning.specs.Blocks.{label_of}
use Rattle.event_meaning.specs.Strings.{string_of, written}
use Rattle.inline_leaves.proofs.Codes.{after_codes, boundary_after_byte, plain_code}
use Rattle.inline_links.proofs.Splits.{from_some}
use Rattle.parse_alike.specs.Strings.{HaveTextsOfBytes, IsOfBytes, rewritten, rewritten_title}
use Rattle.parse_alike.specs.Targets.{AreLabelsAlike, IsDefinitionAlike, title_text}
use Rattle.parse_alike.proofs.LabelMatch.{same_words_are_alike}
use Rattle.parse_alike.proofs.Strings.{written_strings_are_alike}
use Rattle.parse_laid.specs.Laid.{IsWrittenLaid}
use Rattle.parse_lines.specs.Content.{ExitsInLine}
use Rattle.parse_lines.proofs.Ahead.{after_bytes, owes}
use Rattle.parse_lines.proofs.InContent.{line_exits, no_more}
use Rattle.parse_strings.proofs.Texts.{white_last}
use Rattle.parse_links.specs.Definition.{FillsDefinition, IsDefinition, SpellsDefinition, WritesParts, place_of}
use Rattle.parse_links.specs.Tails.{title_string}
use Rattle.parse_references.specs.Sound.{AreSound}
use Rattle.parse_references.proofs.Sound.{asks_nothing}
use Rattle.parse_leaves.specs.Definition.{IsOnOneLine, WritesDefinition, WritesReadDefinition}
use Rattle.parse_leaves.proofs.Entered.{white_entered}
use Rattle.parse_leaves.proofs.Fills.{filled_up}
use Rattle.parse_leaves.proofs.Indents.{void_quiet, whole_start}
use Rattle.parse_leaves.proofs.Lines.{first_dark, text_begins, text_stops}
use Rattle.parse_leaves.proofs.Starts.{BeginsDark, count_dark, count_white, start_dark, white_count, white_fits}
use Rattle.parse_leaves.proofs.TakenLines.{lines_after, taken_codes, text_lines}
use Rattle.parse_leaves.proofs.TextLeaves.{open_both, same_content}

-- ---- what a node spells

title_same : (on : Constructs) (names : Names) (m m' : Meaning) → AreMeanings on names m m' → (title : Option (List Code))
    → title_string on names title ≡ title_text m title
title_same on names m m' means None = refl
title_same on names m m' means (Some title) = ap₂ (λ o k. string_text o k title) (sym means.on) (sym means.names)

module _ (on : Constructs) (names : Names) (text : List ℕ) (d : Definition) (ns : Nodes) (from to : End) (spells : SpellsDefinition on names text d ns) where
  abbrev node : Node
  node = Around (enter_at text n.Definition from) ns (exit_at text n.Definition to)

  -- it is alike to the definition that is read
  definition_alike : HaveTextsOfBytes names → (m m' : Meaning) → AreMeanings on names m m'
      → IsDefinitionAlike m m' (definition d.label d.destination d.title []) (definition_of names text node)
  definition_alike texts m m' means =
      let read = definition d.label d.destination d.title [] in
      let place_is : string_text on names d.destination ≡ string_text m.on m.names d.destination =
      ap₂ (λ o k. string_text o k d.destination) (sym means.on) (sym means.names) in
      let place : place_of on names text ns ≡ string_text m.on m.names d.destination = spells.place.destination ∙ place_is in
      let title = spells.place.end.title ∙ title_same on names m m' means d.title in
      let made : definition_of names text node
      ≡ definition (content_codes (label_text text spells.string)) (rewritten m d.destination) (rewritten_title m d.title) [] =
      ap₂ (λ l p. definition (label_of names text l) (written p)
      (Some (written (string_of names text (kids_in n.DefinitionTitleString (kids_in n.DefinitionTitle ns))))) []) spells.found place
      ∙ ap (λ t. definition (content_codes (label_text text spells.string)) (rewritten m d.destination) (Some (written t)) []) title in
      let alike : AreLabelsAlike d.label (content_codes (label_text text spells.string)) =
      same_words_are_alike.alike d.label (content_codes (label_text text spells.string)) spells.words in
      subst (IsDefinitionAlike m m' read) (sym made)
      (written_strings_are_alike.definitions m m' read (content_codes (label_text text spells.string)) [] means.spelled_on
      (subst IsOfBytes place_is (spells.place.destination_bytes texts))
      (subst IsOfBytes (title_same on names m m' means d.title) (spells.place.end.title_bytes texts)) alike)

  pub definition_spells : (top : Bool) → HaveTextsOfBytes names → AreSound on names text ns
      → SpellsLeaf on names text top page.Definition (definition d.label d.destination d.title [] ∷ []) node
  definition_spells top texts sound = record {
    is_block = refl;
    blocks = λ m m' means. (tt, tt);
    definitions = λ m m' means.
        let only : named n.Definition (one node) ≡ node ∷ [] = ap (λ (xs : List Node). (node ∷ xs) ++ []) spells.place.end.definitions in
        subst (λ xs. AreDefinitionsAlike m m' (definition d.label d.destination d.title [] ∷ []) (map (definition_of names text) xs)) (sym only)
        (definition_alike texts m m' means, tt);
    sound = (asks_nothing on names text n.Definition ns refl, sound);
  }

-- ---- codes

bare_dark : (bs : List ℕ) → BeginsDark bs → drop (white_count bs) bs ≡ bs
bare_dark [] dark = refl
bare_dark (b ∷ bs) dark = ap (λ k. drop k (b ∷ bs)) (count_dark b bs dark)

same_start : (cs ds : List Code) → after_spaces cs ≡ after_spaces ds → definition_at cs ≡ definition_at ds
same_start cs ds e =
    ap (λ (ys : List Code). after_part (label_at ys) (λ (label : Part). after_code 58 label.rest (λ rest.
    after_part (destination_at None (after_white rest))
    (λ (place : Part). option_or (definition_with_title label.text place) (definition_without_title label.text place))))) e

-- a definition, after the spaces and tabs at its start
bare_definition : (content : List ℕ) (d : Definition) → definition_at (content_codes content) ≡ Some d → d.rest ≡ []
    → IsDefinition (content_codes (drop (white_count content) content)) d
bare_definition content d read last =
    let rest = drop (white_count content) content in
    let start : after_spaces (content_codes content) ≡ content_codes rest = after_codes is_white refl refl content in
    let bare : after_spaces (content_codes rest) ≡ content_codes rest =
    after_codes is_white refl refl rest ∙ ap content_codes (bare_dark rest (start_dark content)) in
    record { read = same_start (content_codes rest) (content_codes content) (bare ∙ sym start) ∙ read; bare = bare; last = last }

-- a place after the spaces and tabs at the start
pub white_boundary : (xs : List ℕ) (k : ℕ) → IsUtf8 xs → AreBytes xs → k ≡ white_count xs → IsCharBoundary xs k
white_boundary xs zero utf8 bytes is = IsCharBoundary-start xs utf8
white_boundary xs (suc k) utf8 bytes is =
    boundary_after_byte xs (suc k) utf8 (omega arith) (omega (arith, is, white_fits xs)) (white_last xs (suc k) bytes (omega arith) (omega (arith, is)))

-- ---- the end of a definition

dark_codes : (bs rest : List ℕ) → list_any ends_line bs ≡ false → content_codes (bs ++ rest) ≡ bs ++ content_codes rest
dark_codes [] rest h = refl
dark_codes (b ∷ bs) rest h =
    let parts = or_parts (ends_line b) (list_any ends_line bs) h in
    plain_code b (bs ++ rest) (eqb-false b 13 (or_parts (eqb b 10) (eqb b 13) parts.0).1) ∙ ap (λ ys. b ∷ ys) (dark_codes bs rest parts.1)

none_after : (xs : List ℕ) (x : ℕ) (ys : List ℕ) → xs ++ x ∷ ys ≡ [] → ⊥
none_after xs x ys e = omega (arith, ap length e, length-append xs (x ∷ ys))

-- nothing is after the last line's ending
after_ending : (cs : List Code) (e : LineEnding) (rest : List Code) → next_line (cs ++ line_ending_code e ∷ rest) ≡ Some [] → rest ≡ []
after_ending [] LineFeed rest h = from_some rest [] h
after_ending [] CarriageReturn rest h = from_some rest [] h
after_ending [] CarriageReturnLineFeed rest h = from_some rest [] h
after_ending (c ∷ cs) e rest h =
    let others = cs ++ line_ending_code e ∷ rest in
    elim (cases_Bool (is_white c)) [
      | inl white ↦
          after_ending cs e rest (sym (ap (λ k. next_line_after (drop k (c ∷ others))) (count_white c others white)) ∙ h)
      | inr dark ↦
          let here : next_line_after (c ∷ others) ≡ Some [] = sym (ap (λ k. next_line_after (drop k (c ∷ others))) (count_dark c others dark)) ∙ h in
          elim (cases_Bool (is_eol c)) [
            | inl eol ↦
                absurd (none_after cs (line_ending_code e) rest (from_some others [] (sym (cond-true (is_eol c) _ _ eol) ∙ here)))
            | inr other ↦ absurd (none-some [] (sym (cond-false (is_eol c) _ _ other) ∙ here))
          ]
    ]

clear_first : (c k : ℕ) → is_eol c ≡ false → is_eol k ≡ true → code_byte c ≡ k → ⊥
clear_first c k clear eol e = elim (cases_Bool (eqb c 256)) [
  | inl column ↦ true≢false (sym eol ∙ ap is_eol (sym e ∙ cond-true (eqb c 256) 32 c column))
  | inr other ↦ true≢false (sym eol ∙ ap is_eol (sym e ∙ cond-false (eqb c 256) 32 c other) ∙ clear)
]

-- a line that isn't empty begins with a byte that ends no line
record Begins (bytes : List ℕ) : Type 0 where
  byte : ℕ
  others : List ℕ
  parts : bytes ≡ byte ∷ others
  no_feed : byte ≡ 10 → ⊥
  no_return : byte ≡ 13 → ⊥

begins_clear : (codes : List Code) (ending : Option LineEnding) (more : List BlockLine) → HaveNoEnding codes → 0 < length codes
    → Begins (content_from (map code_byte codes) ending more)
begins_clear [] ending more clear some = absurd (omega (arith, some))
begins_clear (c ∷ cs) ending [] clear some = record {
  byte = code_byte c;
  others = map code_byte cs;
  parts = refl;
  no_feed = clear_first c 10 clear.0 refl;
  no_return = clear_first c 13 clear.0 refl;
}
begins_clear (c ∷ cs) ending (next ∷ more) clear some = record {
  byte = code_byte c;
  others = map code_byte cs ++ (ending_text ending ++ content_from (map code_byte next.codes) next.ending more);
  parts = refl;
  no_feed = clear_first c 10 clear.0 refl;
  no_return = clear_first c 13 clear.0 refl;
}

ended_codes : (e : LineEnding) (b : ℕ) (bs : List ℕ) → (b ≡ 10 → ⊥) → content_codes (ending_bytes e ++ b ∷ bs) ≡ line_ending_code e ∷ content_codes (b ∷ bs)
ended_codes LineFeed b bs h = refl
ended_codes CarriageReturn b bs h = cond-false (eqb b 10) _ _ (ne_eqb b 10 h)
ended_codes CarriageReturnLineFeed b bs h = refl

first_clear : (line : BlockLine) (others : List BlockLine) → AreLines (line ∷ others) → HaveNoEnding line.codes × (0 < length line.codes)
first_clear line [] are = are
first_clear line (next ∷ others) are = (are.0, are.1)

-- a definition's last line is the last one of its content
line_alone : (text line : List ℕ) (ending : Option LineEnding) (others : List BlockLine) (left : List LineRest) (to : Place) (s : Standing) (on : Constructs)
    (containers : List Container) → list_any ends_line line ≡ false → StandsAt text (AtEnding ending left) s
    → AreTaken on containers IsRestLine others (Between left) to → next_line (content_codes (content_from line ending others)) ≡ Some []
    → list_any ends_line (content_from line ending others) ≡ false
line_alone text line ending [] left to s on containers dark at taken h = dark
line_alone text line None (next ∷ more) left to s on containers dark at taken h = absurd (no_more text left s on containers IsRestLine next more to at taken)
line_alone text line (Some e) (next ∷ more) left to s on containers dark at taken h =
    let are = lines_after text s on containers (Some e) left at (spaced_line (32 ∷ []) (Some e)) (next ∷ more) to (refl, tt) (omega arith) refl taken in
    let next_is = first_clear next more are.3 in
    let tail = content_from (map code_byte next.codes) next.ending more in
    let b = begins_clear next.codes next.ending more next_is.0 next_is.1 in
    let codes : content_codes (line ++ (ending_bytes e ++ tail)) ≡ line ++ line_ending_code e ∷ content_codes tail =
    dark_codes line (ending_bytes e ++ tail) dark
    ∙ ap (λ ys. line ++ ys) (ap (λ ys. content_codes (ending_bytes e ++ ys)) b.parts ∙ ended_codes e b.byte b.others b.no_feed
    ∙ ap (λ ys. line_ending_code e ∷ content_codes ys) (sym b.parts)) in
    let none : content_codes tail ≡ [] = after_ending line e (content_codes tail) (sym (ap next_line codes) ∙ h) in
    let some : content_codes tail ≡ b.byte ∷ content_codes b.others = ap content_codes b.parts ∙ plain_code b.byte b.others b.no_return in
    absurd (omega (arith, ap length none, ap length some))

-- bytes that are next on a line stand in the text there
next_bytes : (text bs more : List ℕ) (i : ℕ) → AreNext text (end_at i 0) (bs ++ more) → drop i text ≡ bs ++ drop (i + length bs) text
next_bytes text [] more i next =
    let same : i ≡ i + 0 = omega arith in ap (λ k. drop k text) same
next_bytes text (b ∷ bs) more i next =
    let same : i + 1 + length bs ≡ i + length (b ∷ bs) = omega arith in
    next.0 ∙ ap (λ ys. b ∷ ys) (next_bytes text bs more (i + 1) next.1 ∙ ap (λ k. bs ++ drop k text) same)

-- bytes of a text
bytes_of_next : (text bs more : List ℕ) (i : ℕ) → AreBytes text → AreNext text (end_at i 0) (bs ++ more) → AreBytes bs
bytes_of_next text bs more i bytes next =
    bytes_before bs (drop (i + length bs) text) (
    subst AreBytes (next_bytes text bs more i next) (bytes_after (take i text) (drop i text) (subst AreBytes (sym (take-append-drop i text)) bytes))
    )

-- only spaces and tabs are left of a line of which a definition is read
white_end : (bs : List ℕ) → AreBytes bs → list_any ends_line bs ≡ false → next_line bs ≡ Some [] → list_all is_white bs ≡ true
white_end [] bytes dark is = refl
white_end (b ∷ bs) bytes dark is =
    let parts = or_parts (ends_line b) (list_any ends_line bs) dark in
    elim (cases_Bool (is_white b)) [
      | inl white ↦
          let more = white_end bs (λ k. bytes (suc k)) parts.1 (sym (ap (λ k. next_line_after (drop k (b ∷ bs))) (count_white b bs white)) ∙ is) in
          ap₂ (λ (s t : Bool). s && t) white more
      | inr other ↦
          let here : next_line_after (b ∷ bs) ≡ Some [] = sym (ap (λ k. next_line_after (drop k (b ∷ bs))) (count_dark b bs other)) ∙ is in
          let small : b < 256 = bytes 0 in
          let eol : is_eol b ≡ false = or_from (ends_line b) (eqb b 257) parts.0 (ne_eqb b 257 (λ e. omega (arith, e, small))) in
          let none : None ≡ Some [] = sym (cond-false (is_eol b) (Some bs) None eol) ∙ here in
          absurd (cc)
    ]

white_left : (bs : List ℕ) → AreBytes bs → list_any ends_line bs ≡ false → next_line (content_codes bs) ≡ Some [] → list_all is_white bs ≡ true
white_left bs bytes dark is =
    let codes : content_codes bs ≡ bs = ap content_codes (sym (append-nil bs)) ∙ dark_codes bs [] dark ∙ append-nil bs in
    white_end bs bytes dark (ap next_line (sym codes) ∙ is)

on_one_line : (text bs more : List ℕ) (i end : ℕ) → AreNext text (end_at i 0) (bs ++ more) → list_any ends_line bs ≡ false → end ≡ i + length bs
    → IsOnOneLine text i end
on_one_line text bs more i end next dark is =
    let size : length (take i text) ≡ i = length-take-le i text (owes text (end_at i 0) (bs ++ more) next).0 in
    record {
      front = take i text;
      between = bs;
      after = drop (i + length bs) text;
      parts = sym (take-append-drop i text) ∙ ap (λ ys. take i text ++ ys) (next_bytes text bs more i next);
      dark = dark;
      begins = sym size;
      ends = omega (arith, is, size);
    }

-- ---- the whole

-- what is read of the lines of a definition
record ReadsLaid (on : Constructs) (containers : List Container) (here : LineRest) (left : List LineRest) (to : Place) (ls : List BlockLine) (d : Definition)
    : Type 0 where
  others : List BlockLine
  after : List LineRest
  ahead : AreTaken on containers IsRestLine others (Between left) (Between after)
  content : content_text ls ≡ content_text (rest_line here.rest here.beside ∷ others)
  read : definition_on ls ≡ Some d
  stops : (text_stop (rest_line here.rest here.beside ∷ others) after).place ≡ to

reads_laid : (text : List ℕ) (s : Standing) (on : Constructs) (containers : List Container) (here : LineRest) (left : List LineRest) (to : Place)
    (ls : List BlockLine) (label destination : List Code) (title : Option (List Code)) → StandsAt text (Within here left) s
    → IsWrittenLaid on containers (DefinitionLeaf (own_lines ls) label destination title) (Within here left) to
    → ReadsLaid on containers here left to ls (definition label destination title [])
reads_laid text s on containers here left to ls label destination title at laid =
    let leaf : IsLeafLaid on containers (DefinitionLeaf (own_lines ls) laid.0 laid.1 laid.2) (Within here left) to = laid.6 in
    let taken = leaf.0 in
    let are = leaf.2 in
    let b = text_begins on containers here left taken leaf.1 are.0 are.1 in
    let dark = first_dark on containers here left taken leaf.1 are.0 are.1 in
    let lines : AreLines taken = subst AreLines (sym b.same) (text_lines text s on containers here left at b.others (Between b.after) dark b.ahead) in
    let found : definition_on ls ≡ Some (definition (map code_byte laid.0) (map code_byte laid.1) (option_map (map code_byte) laid.2) []) =
    ap definition_at (taken_codes ls taken leaf.3 lines) ∙ definition_renamed code_byte code_byte-renames (content_of (own_lines ls))
    ∙ ap (option_map (renamed_definition code_byte)) leaf.4 in
    record {
      others = b.others;
      after = b.after;
      ahead = b.ahead;
      content = same_content ls taken leaf.3 ∙ ap content_text b.same;
      read =
          found
          ∙ ap (λ l. Some (definition l (map code_byte laid.1) (option_map (map code_byte) laid.2) [])) (sym laid.3)
          ∙ ap (λ l. Some (definition label l (option_map (map code_byte) laid.2) [])) (sym laid.4)
          ∙ ap (λ t. Some (definition label destination t [])) (sym laid.5);
      stops = sym (text_stops on containers here left taken leaf.1 to b leaf.5);
    }

module _ {A : Type 0} (text : List ℕ) where
  pub definition_written : (on : Constructs) (names : Names) (top : Bool) (ls : List BlockLine) (content rest : List ℕ) (white size : ℕ)
      (label destination : List Code) (title : Option (List Code)) (old s t a b c e : Walk A) (here : LineRest) (left : List LineRest) (to : Place)
      → HaveTextsOfBytes names → content ≡ content_text ls → white ≡ white_count content → rest ≡ drop white content → size ≡ length content - c.place
      → standing s ≡ standing old → BeginsContent old s → standing t ≡ standing s
      → ((front line : List ℕ) → white ≡ length front → same_name n.SpaceOrTab n.BlockQuotePrefix ≡ false → StandsInLine text (front ++ line) s → HasBytes text n.SpaceOrTab white s
      → WritesInLine text front (void_nodes text n.SpaceOrTab (end_in s.out) (end_after (end_in s.out) white)) line s t)
      → standing a ≡ standing t → ((line : List ℕ) → StandsInLine text line t → EntersInLine text n.Definition line t a)
      → ((d : Definition) (stop : Stop) → IsDefinition (content_codes rest) d → StandsInContent text rest stop a → IsWhole a
      → WritesParts on names text rest (SpellsDefinition on names text d) FillsDefinition stop a b)
      → standing c ≡ standing b → ((line : List ℕ) → StandsInLine text line b → ExitsInLine text n.Definition line b c)
      → standing e ≡ standing c
      → ((front line : List ℕ) → size ≡ length front → same_name n.SpaceOrTab n.BlockQuotePrefix ≡ false → StandsInLine text (front ++ line) c → HasBytes text n.SpaceOrTab size c
      → WritesInLine text front (void_nodes text n.SpaceOrTab (end_in c.out) (end_after (end_in c.out) size)) line c e)
      → StandsAt text (Within here left) (standing old) → IsWrittenToRest old → IsInOrder text old.out
      → IsWrittenLaid old.on.now (around (standing old)) (DefinitionLeaf (own_lines ls) label destination title) (Within here left) to
      → WritesDefinition on names text top (definition label destination title [] ∷ []) to old e
  definition_written on names top ls content rest white size label destination title old s t a b c e here left to texts content_is white_is rest_is size_is same_s
      begins same_t writes_t same_a enters writes_b same_c exits_c same_e writes_e at to_rest order laid =
      let d = definition label destination title [] in
      let r = reads_laid text (standing old) old.on.now (around (standing old)) here left to ls label destination title at laid in
      let first = rest_line here.rest here.beside in
      let stop = text_stop (first ∷ r.others) r.after in
      let all : content ≡ content_text (first ∷ r.others) = content_is ∙ r.content in
      let few : white ≤ white_count (content_text (first ∷ r.others)) = omega (arith, white_is, ap white_count all) in
      let enter = white_entered text old s t a n.Definition white here left r.after r.others same_s begins few same_t writes_t same_a enters at to_rest order r.ahead in
      let entered = enter.0 in
      let bare : rest ≡ drop (white_count content) content = rest_is ∙ ap (λ k. drop k content) white_is in
      let stands_a : StandsInContent text rest stop a =
      subst (λ ys. StandsInContent text ys stop a) (ap₂ drop enter.1 (sym all) ∙ sym rest_is) entered.stands in
      let whole_a : IsWhole a = whole_start text stop rest a stands_a (subst BeginsDark (sym bare) (start_dark content)) in
      let is : IsDefinition (content_codes rest) d =
      subst (λ ys. IsDefinition (content_codes ys) d) (sym bare)
      (bare_definition content d (ap (λ ys. definition_at (content_codes ys)) content_is ∙ r.read) refl) in
      let parts = writes_b d stop is stands_a whole_a in
      let exited = line_exits text stop b c n.Definition parts.after parts.writes.stands same_c exits_c in
      let st = exited.stands in
      let dark : list_any ends_line parts.after ≡ false =
      ap (list_any ends_line) st.parts
      ∙ line_alone text st.line st.ending st.others st.left (Between st.after) (standing c) c.on.now (around (standing c)) st.dark st.at st.ahead
      (ap (λ ys. next_line (content_codes ys)) (sym st.parts) ∙ parts.last) in
      let rest_size : length rest ≡ length content - white = ap length rest_is ∙ length-drop white content in
      let split : length rest ≡ length parts.front + length parts.after = ap length parts.parts ∙ length-append parts.front parts.after in
      let fits = white_fits content in
      let left_is : size ≡ length parts.after = omega (arith, size_is, exited.place, parts.writes.place, enter.1, rest_size, split, white_is, fits) in
      let ahead =
      line_in_content text stop c parts.after [] (subst (λ ys. StandsInContent text ys stop c) (sym (append-nil parts.after)) exited.stands) dark in
      let behind = void_nodes text n.SpaceOrTab (end_in c.out) (end_after (end_in c.out) size) in
      let i = (end_in b.out).index in
      let end_c : end_in c.out ≡ end_at i 0 = exited.end ∙ ap (end_at i) parts.whole in
      let next : AreNext text (end_at i 0) (parts.after ++ ahead.line) =
      subst (λ (x : End). AreNext text x (parts.after ++ ahead.line)) (sym ahead.stands.at ∙ end_c) ahead.stands.next in
      let bytes = bytes_of_next text parts.after ahead.line i at.line.over.bytes next in
      let white_after = white_left parts.after bytes dark parts.last in
      let in_line =
      writes_e parts.after ahead.line left_is refl ahead.stands
      (has_kind text parts.after ahead.line size c is_white left_is ahead.stands white_after) in
      let last = ahead.lifts behind e same_e in_line in
      let done = content_done text stop e last.stands in
      let end_e : end_in e.out ≡ end_at (i + length parts.after) 0 =
      in_line.end ∙ ap (λ (x : End). end_after x (length parts.after)) end_c ∙ after_bytes i (length parts.after) in
      let index : (end_in e.out).index ≡ e.line_end = omega (arith, done.index) in
      let from = end_in entered.space in
      let to_end = end_in b.out in
      record {
        before = entered.before;
        are_quiet = entered.are_quiet;
        node = Around (enter_at text n.Definition from) parts.nodes (exit_at text n.Definition to_end);
        spells = definition_spells on names text d parts.nodes from to_end parts.spells top texts parts.sound;
        behind = behind;
        is_quiet_behind = void_quiet text (end_in c.out) (end_after (end_in c.out) size);
        writes =
            writes_both text old.out entered.space e.out entered.before
            (append (one (Around (enter_at text n.Definition from) parts.nodes (exit_at text n.Definition to_end))) behind) entered.writes
            (writes_both text entered.space c.out e.out (one (Around (enter_at text n.Definition from) parts.nodes (exit_at text n.Definition to_end))) behind
            (subst (Writes text entered.space c.out) (cut_one text n.Definition from to_end parts.nodes refl)
            (writes_around text entered.space a.out b.out c.out n.Definition parts.nodes entered.enters parts.writes.writes exited.exits))
            last.writes);
        stands = subst (λ p. StandsAt text p (standing e)) r.stops done.at;
        around =
            open_both (standing old) (standing a) (standing e) entered.around
            (subst (HasSameOpen (standing a)) (sym (same_e ∙ same_c)) parts.writes.around);
        written = ap (end_at (end_in e.out).index) done.whole ∙ ap (λ k. end_at k 0) index;
        starts = entered.starts;
        begins = entered.begins;
        ends =
            on_one_line text parts.after ahead.line i e.line_end next dark (sym index ∙ ap (λ (x : End). x.index) end_e);
        filled =
            filled_up Lines Plain n.Definition (Around (enter_at text n.Definition from) parts.nodes (exit_at text n.Definition to_end)) refl
            (parts.fill Lines tt);
      }

-- what a row stands for is a definition, whether one is read off its bytes or not
pub any_definition : {A : Type 0} (r : Reading) (first : Bool) (ls : List BlockLine) (o : Option Definition) (old new : Walk A)
    → ((label destination : List Code) (title : Option (List Code)) → WritesReadDefinition r (DefinitionLeaf (own_lines ls) label destination title) old new)
    → WritesRow r first (Single (definition_value (own_lines ls) o)) old new
any_definition r first ls None old new written = written [] [] None
any_definition r first ls (Some d) old new written = written d.label d.destination d.title
