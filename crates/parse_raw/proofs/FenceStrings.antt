-- What is written of a string in a fence: the info of code, or what follows it (CommonMark 4.5).
use Rattle.std.proofs.Common.{◌≡◌, ℕ, ◌+◌, ◌^◌, ◌<◌, Bool, true, false, ◌&&◌, List, [], ◌∷◌, ◌++◌, Option, None, Some, append_assoc, get_or, inl, refl, sym, ap, subst, ◌∙◌, drop, take, length, arith}
use Rattle.parse_raw.proofs.Prelude.{append-nil, AreNames, AreNext, Around, AtEnding, cond-false, Constructs, cut, End, end_at, end_in, ends_line, enter_at}
use Rattle.parse_raw.proofs.Prelude.{exit_at, Exits, FenceNames, indent, info_by, info_in, is_nil, is_space, is_white, IsBefore, IsCharBoundary, IsInOrder}
use Rattle.parse_raw.proofs.Prelude.{bare, IsPartOf, IsUtf8, LeadsTo, length-take-le, LineEnding, LineRest, list_any, Name, named, Names, nat_tests, Nil}
use Rattle.parse_raw.proofs.Prelude.{Node, Nodes, one, or_parts, position_or_len, prefix_len-le-length, same_name, Standing, standing, StandsAt, string_text}
use Rattle.parse_raw.proofs.Prelude.{take-append-drop, Walk, Writes, writes_around, writes_none, WritesPart, WritesUpTo, written_to, ◌==◌}
use Rattle.parse_raw.proofs.Prelude.{all_prefix}
use Rattle.std.proofs.lemmas.Str.{IsCharBoundary-start}
use Rattle.std.proofs.lemmas.List.{get_or-drop}
use Rattle.engine_events.specs.declared.event.Name.TheVariants as n
use Rattle.definition_text.specs.Content.{content_codes}
use Rattle.definition_text.proofs.ContentBytes.{IsInLine, codes_in_line}
use Rattle.event_grammar.specs.declared.slot.Between.TheVariants.{Spaces}
use Rattle.event_grammar.specs.declared.slot.Form.TheVariants.{Plain}
use Rattle.event_grammar.specs.declared.slot.Slot.{Slot}
use Rattle.event_grammar.specs.Grammar.{opt, string_row}
use Rattle.event_grammar.specs.Slots.{take_child, between_of}
use Rattle.event_meaning.specs.Strings.{string_of}
use Rattle.parse_output.specs.declared.output.Output.{Output}
use Rattle.parse_lines.specs.Content.{BeginsLineHere, EntersInLine, StandsInLine}
use Rattle.parse_lines.specs.InContent.{IsWhole, StandsInContent, Stop}
use Rattle.parse_lines.proofs.InContent.{line_enters}
use Rattle.parse_lines.proofs.Parts.{part_begins, part_ends}
use Rattle.parse_lines.proofs.SomeNodes.{written_some}
use Rattle.parse_strings.specs.Strings.{AreCutApart, WritesStringIn}
use Rattle.parse_slots.specs.Left.{Fill, IsFilled, took}
use Rattle.parse_slots.proofs.Steps.{filled_by}
use Rattle.parse_raw.specs.FenceParts.{after_string, BeginsBare, fence_slots, info_size, info_slots, IsPartName, meta_slots}
use Rattle.parse_raw.proofs.FenceParts.{dark_both, info_part, other_part, parts_after, parts_both, parts_none, token_part, white_boundary, word_boundary, word_same}
use Rattle.parse_raw.proofs.FenceRows.{info_stops, meta_takes, space_fills}
use Rattle.parse_references.proofs.Sound.{sound_full, sound_one}
use Rattle.parse_raw.proofs.Nodes.{raw_none}

in_line : (bs : List ℕ) → list_any ends_line bs ≡ false → IsInLine bs
in_line [] dark = tt
in_line (b ∷ bs) dark = let parts = or_parts (ends_line b) (list_any ends_line bs) dark in (parts.0, in_line bs parts.1)

-- bytes of a line are their own codes
pub line_codes : (bs : List ℕ) → list_any ends_line bs ≡ false → content_codes bs ≡ bs
line_codes bs dark = ap content_codes (sym (append-nil bs)) ∙ codes_in_line bs [] (in_line bs dark) ∙ append-nil bs

module _ (on : Constructs) (names : Names) (text : List ℕ) (name : Name) where
  is_part_of : (string : List ℕ) (node : Node) (kids : Nodes) (enter exit : End) → false ≡ (length string == 0)
      → node ≡ Around (enter_at text name enter) kids (exit_at text name exit) → string_of names text kids ≡ string_text on names string
      → IsFilled Spaces Plain node → IsPartOf on names text name string (one node)
  is_part_of [] node kids enter exit some is spells filled = absurd (grind (arith, nat_tests))
  is_part_of (b ∷ bs) node kids enter exit some is spells filled =
      subst (λ (x : Node). IsPartOf on names text name (b ∷ bs) (one x)) (sym is)
      (Around (enter_at text name enter) kids (exit_at text name exit), refl, refl, spells, subst (IsFilled Spaces Plain) is filled)

module _ {A : Type 0} (on : Constructs) (names : Names) (text rest : List ℕ) (ending : Option LineEnding) (left : List LineRest) (name : Name) where
  -- nothing
  pub part_none : (string : List ℕ) (w : Walk A) → true ≡ (length string == 0) → IsBefore text ending left (string ++ rest) w
      → WritesPart on names text ending left name string rest w w
  part_none [] w is before =
      record { nodes = Nil; is_part = refl; writes = writes_none text w.out before.order; raw = raw_none; around = (refl, refl); before = before; sound = tt }
  part_none (b ∷ bs) w is before = absurd (grind (arith, nat_tests))

  -- a string in an event
  pub part_written : (string : List ℕ) (old a b c d : Walk A) → false ≡ (length string == 0) → IsPartName name → IsBefore text ending left (string ++ rest) old
      → BeginsLineHere old a → standing a ≡ standing old → a.out ≡ old.out
      → ((line : List ℕ) → StandsInLine text line a → EntersInLine text name line a b) → standing b ≡ standing a
      → ((content : List ℕ) (stop : Stop) → AreCutApart string content → StandsInContent text (string ++ content) stop b → IsWhole b
      → WritesStringIn names on text string content stop b c)
      → (IsInOrder text c.out → Exits text name c.out d.out) → standing d ≡ standing c → written_to d ≡ written_to c
      → WritesPart on names text ending left name string rest old d
  part_written string old a b c d some part before begins same_a out enters same_b writes exits same_d end_d =
      let dark = (dark_both string rest before.dark).0 in
      let stop : Stop = record { place = AtEnding ending left; behind = length rest } in
      let started = part_begins text ending left 0 old a string rest (λ t line order next size fits. begins t line order next size (omega (arith, fits))) same_a
      (omega arith) before.stands before.order before.next before.whole before.end dark in
      let entered = line_enters text stop a b name string started.0 same_b enters in
      let whole_b : IsWhole b = ap (λ (e : End). e.owed) (entered.end ∙ started.1) ∙ before.whole in
      let st_b = subst (λ (xs : List ℕ). StandsInContent text xs stop b) (sym (append-nil string)) entered.stands in
      let done = writes [] stop (inl dark) st_b whole_b in
      let ends = part_ends text ending left old c string rest before.stands before.next before.whole before.end done.writes.stands in
      let exited = exits done.writes.writes.order in
      let node = Around (enter_at text name (end_in a.out)) done.nodes (exit_at text name (end_in c.out)) in
      let alone : cut node ≡ one node =
      cond-false (same_name name n.Data && is_nil done.nodes) _ _ (ap (λ (t : Bool). t && is_nil done.nodes) part.no_data) in
      let around_a = subst (Writes text a.out d.out) alone (writes_around text a.out b.out c.out d.out name done.nodes entered.enters done.writes.writes exited) in
      let line_end = ap (λ (s : Standing). s.line_end) same_d in
      record {
        nodes = one node;
        is_part =
            is_part_of on names text name string node done.nodes (end_in a.out) (end_in c.out) some refl
            (done.spells ∙ ap (string_text on names) (line_codes string dark))
            (filled_by Spaces Plain name string_row node refl
            (subst (λ (slots : List Slot). Fill (between_of slots Spaces name) slots done.nodes string_row) (sym part.row_is) (done.fill Spaces dark)) refl);
        writes = subst (λ (o : Output A). Writes text o d.out (one node)) out around_a;
        raw = record {
          definitions =
              ap (λ (ns : List Node). ns ++ [])
              (cond-false (same_name name n.Definition) (node ∷ named n.Definition done.nodes) (named n.Definition done.nodes) part.no_definition
              ∙ done.plain.definitions);
          code = cond-false (same_name name n.CodeFencedFence) _ _ part.no_code;
          math = cond-false (same_name name n.MathFlowFence) _ _ part.no_math;
        };
        around = (
          ap (λ (s : Standing). s.on) same_d ∙ done.writes.around.0 ∙ ap (λ (s : Standing). s.on) (same_b ∙ same_a),
          ap (λ (s : Standing). s.outermost) same_d ∙ done.writes.around.1 ∙ ap (λ (s : Standing). s.outermost) (same_b ∙ same_a),
        );
        before = record {
          stands = subst (StandsAt text (AtEnding ending left)) (sym same_d) ends.0;
          order = exited.order;
          whole = ap (λ (e : End). e.owed) end_d ∙ ends.1;
          next = subst (λ (e : End). AreNext text e rest) (sym end_d) ends.2;
          end = omega (arith, ap (λ (e : End). e.index) end_d, ends.3, line_end);
          dark = (dark_both string rest before.dark).1;
        };
        sound =
            sound_one on names text node (
            sound_full on names text node part.unruled (part.made on)
            (written_some text string done.nodes [] stop b c (grind (arith, nat_tests, some)) whole_b done.writes) done.sound);
      }

-- ---- the info

size_boundary : (text : List ℕ) (math : Bool) → IsUtf8 text → ((k : ℕ) → get_or text k 0 < 256) → IsCharBoundary text (info_size math text)
size_boundary text true utf8 bytes = IsCharBoundary-start text utf8
size_boundary text false utf8 bytes = word_boundary text bytes

meta_other : (fence : FenceNames) (math : Bool) → AreNames math fence → (same_name fence.meta n.CodeFencedFenceInfo ≡ false) × IsPartName fence.meta
meta_other fence true are =
    subst (λ (name : Name). (same_name name n.CodeFencedFenceInfo ≡ false) × IsPartName name) (sym are.meta)
    (refl, record { no_data = refl; no_definition = refl; no_code = refl; no_math = refl; row_is = refl; unruled = refl; made = λ on. refl })
meta_other fence false are =
    subst (λ (name : Name). (same_name name n.CodeFencedFenceInfo ≡ false) × IsPartName name) (sym are.meta)
    (refl, record { no_data = refl; no_definition = refl; no_code = refl; no_math = refl; row_is = refl; unruled = refl; made = λ on. refl })

module _ {A : Type 0} (names : Names) (on : Constructs) (fence : FenceNames) (text tail : List ℕ) where
  -- math has none
  pub info_absent : (math : Bool) (w : Walk A) → AreNames math fence → fence.info ≡ None
      → (0 ≡ info_size math text)
      × LeadsTo on names (info_in math on names text) (fence_slots math) (info_slots math text) (text ++ tail) (drop (info_size math text) text ++ tail) w w
  info_absent true w are none = (refl, parts_none on names (fence_slots true) (text ++ tail) w)
  info_absent false w are none = let is = sym are.info ∙ none in absurd (cc)

  -- code has one
  pub info_present : (math : Bool) (size : ℕ) (string : List ℕ) (info : Name) (a b : Walk A) → AreNames math fence → fence.info ≡ Some info
      → list_any ends_line text ≡ false → ((k : ℕ) → get_or text k 0 < 256) → size ≡ position_or_len is_space text
      → (IsCharBoundary text size → string ≡ take size text)
      → ((t rest : List ℕ) (ending : Option LineEnding) (left : List LineRest) → IsPartName info → IsBefore t ending left (string ++ rest) a
      → WritesPart on names t ending left info string rest a b)
      → (size ≡ info_size math text)
      × LeadsTo on names (info_in math on names text) (fence_slots math) (info_slots math text) (text ++ tail) (drop (info_size math text) text ++ tail) a b
  info_present true size string info a b are some dark bytes count cut writes = let is = sym some ∙ are.info in absurd (cc)
  info_present false size string info a b are some dark bytes count cut writes =
      let n1 = position_or_len is_white text in
      let is_info : info ≡ n.CodeFencedFenceInfo = let e = sym some ∙ are.info in cc in
      let size_is : size ≡ n1 = count ∙ word_same text dark bytes in
      let string_is : string ≡ take n1 text =
      cut (subst (IsCharBoundary text) (sym size_is) (word_boundary text bytes)) ∙ ap (λ (k : ℕ). take k text) size_is in
      let rest = drop n1 text ++ tail in
      let whole : string ++ rest ≡ text ++ tail =
      ap (λ (xs : List ℕ). xs ++ rest) string_is ∙ sym (append_assoc (take n1 text) (drop n1 text) tail)
      ∙ ap (λ (xs : List ℕ). xs ++ tail) (take-append-drop n1 text) in
      let named = subst (λ (name : Name). (t : List ℕ) (ending : Option LineEnding) (left : List LineRest) → IsBefore t ending left (string ++ rest) a
      → WritesPart on names t ending left name string rest a b) is_info (λ t ending left before. writes t rest ending left (
      subst IsPartName (sym is_info)
      (record { no_data = refl; no_definition = refl; no_code = refl; no_math = refl; row_is = refl; unruled = refl; made = λ on. refl })) before) in
      let more = opt n.CodeFencedFenceMeta ∷ [] in
      let done = info_part on names (fence_slots false) more string rest a b refl named in (
        size_is,
        subst (λ (xs : List ℕ). LeadsTo on names (info_by on names (take n1 text)) (fence_slots false) (info_slots false text) xs rest a b) whole (
            subst (λ (xs : List ℕ).
            LeadsTo on names (info_by on names xs) (fence_slots false) (after_string xs (fence_slots false) more) (string ++ rest) rest a b)
            string_is done
            ),
      )

  -- ---- the info and what follows it

  pub meta_written : (math : Bool) (size white : ℕ) (rest string : List ℕ) (a b c d : Walk A) → AreNames math fence → BeginsBare text → IsUtf8 text
      → ((k : ℕ) → get_or text k 0 < 256) → IsUtf8 rest → size ≡ info_size math text → (IsCharBoundary text size → rest ≡ drop size text)
      → LeadsTo on names (info_in math on names text) (fence_slots math) (info_slots math text) (text ++ tail) (drop (info_size math text) text ++ tail) a b
      → white ≡ indent rest → standing c ≡ standing b
      → ((written_to b).index + white < 2 ^ 64 → written_to c ≡ end_at ((written_to b).index + white) 0)
      → ((written_to b).index + white < 2 ^ 64 → WritesUpTo n.SpaceOrTab (end_at ((written_to b).index + white) 0) b c)
      → (IsCharBoundary rest white → string ≡ drop white rest)
      → ((t after : List ℕ) (ending : Option LineEnding) (left : List LineRest) → IsPartName fence.meta → IsBefore t ending left (string ++ after) c
      → WritesPart on names t ending left fence.meta string after c d)
      → LeadsTo on names (info_in math on names text) (fence_slots math) (meta_slots math text) (text ++ tail) tail a d
  meta_written math size white rest string a b c d are begins utf8 bytes utf8_rest size_is cut info white_is same ends token cut_rest writes =
      let k = info_size math text in
      let slots = info_slots math text in
      let rest_is : rest ≡ drop k text =
      cut (subst (IsCharBoundary text) (sym size_is) (size_boundary text math utf8 bytes)) ∙ ap (λ (i : ℕ). drop i text) size_is in
      let rest_bytes : (i : ℕ) → get_or rest i 0 < 256 = λ i.
      omega (arith, ap (λ (xs : List ℕ). get_or xs i 0) rest_is, get_or-drop k text i 0, bytes (k + i)) in
      let string_is : string ≡ drop white rest = cut_rest (subst (IsCharBoundary rest) (sym white_is) (white_boundary rest utf8_rest rest_bytes)) in
      let count : white ≡ length (take white rest) =
      sym (length-take-le white rest (omega (arith, white_is, prefix_len-le-length is_white rest))) in
      let spaces = token_part on names n.SpaceOrTab slots slots (take white rest) (string ++ tail) white b c (space_fills white slots (info_stops math text).space)
      (record { no_data = refl; no_definition = refl; no_code = refl; no_math = refl; unasked = refl }) refl (all_prefix is_white white rest (omega (arith, white_is))) count
      same ends token in
      let joined : take white rest ++ (string ++ tail) ≡ drop k text ++ tail =
      ap (λ (xs : List ℕ). take white rest ++ (xs ++ tail)) string_is ∙ sym (append_assoc (take white rest) (drop white rest) tail)
      ∙ ap (λ (xs : List ℕ). xs ++ tail) (take-append-drop white rest ∙ rest_is) in
      let spaces_there = subst (λ (xs : List ℕ). LeadsTo on names None slots slots xs (string ++ tail) b c) joined spaces in
      let other = meta_other fence math are in
      let string_bare : string ≡ bare (drop k text) = string_is ∙ ap (λ (i : ℕ). drop i rest) white_is ∙ ap bare rest_is in
      let takes : 0 < length string → take_child slots fence.meta ≡ Some (took Plain []) =
      λ some. meta_takes fence math text are begins (subst (λ (xs : List ℕ). 0 < length xs) string_bare some) in
      let meta = other_part on names fence.meta slots [] string tail c d other.0 takes (λ t ending left before. writes t tail ending left other.1 before) in
      let meta_there = subst (λ (xs : List ℕ). LeadsTo on names None slots (after_string xs slots []) (string ++ tail) tail c d) string_bare meta in
      parts_after on names (info_in math on names text) (fence_slots math) slots (meta_slots math text) (text ++ tail) (drop k text ++ tail) tail a b d info
      (parts_both on names None slots slots (meta_slots math text) (drop k text ++ tail) (string ++ tail) tail b c d spaces_there meta_there)
