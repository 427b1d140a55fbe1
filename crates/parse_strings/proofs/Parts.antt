-- What is written of the parts of a string in a content (CommonMark 2.4 and 2.5).
use Rattle.std.proofs.Common.{◌≡◌, ℕ, zero, suc, ◌+◌, ◌<◌, ◌≤◌, true, false, ◌||◌, cond, eqb, List, [], ◌∷◌, ◌++◌, inl, inr, refl}
use Rattle.std.proofs.Common.{sym, ap, ap₂, subst, ◌∙◌, append_assoc, arith, drop, take, length, length-append, Option}
use Rattle.parse_lines.specs.Content.{HasBytes}
use Rattle.parse_lines.proofs.Bytes.{has_kind}
use Rattle.parse_lines.proofs.White.{all_prefix}
use Rattle.parse_strings.proofs.Prelude.{append, append-nil, AreCutApart, AreNext, ArePlain, AreQuiet, Around, byte_nodes, bytes_text, cases_Bool, cond-false}
use Rattle.parse_strings.proofs.Prelude.{cond-true, cond_both, Cons, Constructs, data_nodes, drop_at, End, end_after, end_at, end_in, ending_bytes, ends_line}
use Rattle.parse_strings.proofs.Prelude.{indent, is_eol, is_listed, is_space, is_white, IsCharBoundary, IsUtf8, IsWhole, kids_of, line_in_content, LineEnding}
use Rattle.parse_strings.proofs.Prelude.{list_any, list_any-append, Name, Names, Nil, Node, node_name, Nodes, one, or_parts, prefix_len-le-length, same_end}
use Rattle.parse_strings.proofs.Prelude.{StandsInContent, StandsInLine, Stop, string_of, string_part, text_of, true≢false, void_nodes, Walk, WritesInLine}
use Rattle.parse_strings.proofs.Prelude.{WritesNode, WritesStringFront, WritesStringPart}
use Rattle.std.proofs.lemmas.List.{length-take-le, take-append-drop}
use Rattle.std.proofs.lemmas.Str.{IsUtf8-take}
use Rattle.markdown_options.specs.declared.line_ending.LineEnding.TheVariants.{CarriageReturnLineFeed, CarriageReturn, LineFeed}
use Rattle.definition_text.specs.BlockLines.{BlockLine}
use Rattle.engine_events.specs.declared.event.Name.TheVariants as n
use Rattle.parse_output.specs.Forest.{byte_node}
use Rattle.parse_lines.specs.InContent.{WritesEndingIn, WritesInContent, content_from}
use Rattle.parse_lines.specs.Standing.{standing}
use Rattle.parse_lines.proofs.Ahead.{owed_after}
use Rattle.parse_lines.proofs.InContent.{IsLineAhead, contents_both, contents_none}
use Rattle.parse_strings.specs.Strings.{WritesNodeIn, WritesStringIn}
use Rattle.parse_strings.proofs.Characters.{fits_data}
use Rattle.parse_strings.proofs.Codes.{begins_feed}
use Rattle.std.proofs.Common.{Some}
use Rattle.event_grammar.specs.declared.slot.Between.TheVariants.{Lines}
use Rattle.event_grammar.specs.declared.slot.Child.TheVariants.{StringPart}
use Rattle.event_grammar.specs.declared.slot.Form.TheVariants.{Plain}
use Rattle.event_grammar.specs.Grammar.{string_row}
use Rattle.event_grammar.specs.Slots.{take_child}
use Rattle.parse_slots.specs.Left.{Fill, MayEndLines, took}
use Rattle.parse_slots.proofs.Steps.{fill_both, fill_none, fill_taken, may_both, may_lines, may_space}
use Rattle.parse_slots.proofs.Voids.{data_fill, void_between}
use Rattle.parse_lines.proofs.Quiet.{ending_fill}
use Rattle.parse_references.proofs.Sound.{data_sound, sound_both, sound_one, void_sound}
use Rattle.parse_strings.proofs.SoundNodes.{ending_sound}
use Rattle.parse_strings.proofs.PlainNodes.{plain_both, plain_none, plain_one, plain_quiet, plain_void, sought_names}
use Rattle.parse_strings.proofs.Spelled.{data_string, still_whole, string_append}
use Rattle.parse_strings.proofs.Texts.{DataStep, EndingStep, WhiteStep, white_dark}

-- ---- nodes

plain_bytes : (index count : ℕ) → ArePlain (byte_nodes index count)
plain_bytes index zero = plain_none
plain_bytes index (suc count) =
    plain_both (one (byte_node index)) (byte_nodes (index + 1) count) (plain_one (byte_node index) refl plain_none) (plain_bytes (index + 1) count)

pub plain_data : (text : List ℕ) (from to : End) → ArePlain (data_nodes text from to)
plain_data text from to = plain_bytes _ _

-- quiet nodes spell nothing in a string
pub quiet_string : (names : Names) (text : List ℕ) (ns : Nodes) → AreQuiet ns → string_of names text ns ≡ []
quiet_string names text Nil are = refl
quiet_string names text (Cons node ns) (inl is, are) =
    ap (λ name. string_part names text name (text_of text node) (kids_of node) ++ string_of names text ns) is.0 ∙ quiet_string names text ns are
quiet_string names text (Cons node ns) (inr is, are) =
    ap (λ name. string_part names text name (text_of text node) (kids_of node) ++ string_of names text ns) is.0 ∙ quiet_string names text ns are

-- white space spells nothing
pub space_string : (names : Names) (text : List ℕ) (from to : End) → string_of names text (void_nodes text n.SpaceOrTab from to) ≡ []
space_string names text from to = cond_both (same_end to from) Nil _ (λ ns. string_of names text ns ≡ []) (λ h. refl) (λ h. refl)

-- ---- columns of a tab

-- columns that a tab owes are white space ahead
pub owed_white : (text line : List ℕ) (index owed : ℕ) → AreNext text (end_at index owed) line → owed ≤ length line → owed ≤ indent line
owed_white text line index zero next le = omega arith
owed_white text [] index (suc owed) next le = absurd (omega arith)
owed_white text (x ∷ xs) index (suc zero) next le =
    let more : indent (x ∷ xs) ≡ 1 + indent xs = cond-true (is_white x) (1 + indent xs) 0 (ap is_white next.0.0) in
    omega arith
owed_white text (x ∷ xs) index (suc (suc owed)) next le =
    let more : indent (x ∷ xs) ≡ 1 + indent xs = cond-true (is_white x) (1 + indent xs) 0 (ap is_white next.0.0) in
    let later = owed_white text xs index (suc owed) next.1 (omega arith) in
    omega arith

indent_more : (xs more : List ℕ) → indent xs ≤ indent (xs ++ more)
indent_more [] more = omega arith
indent_more (x ∷ xs) more = elim (cases_Bool (is_white x)) [
  | inl w ↦
      let first : indent (x ∷ xs) ≡ 1 + indent xs = cond-true (is_white x) (1 + indent xs) 0 w in
      let all : indent ((x ∷ xs) ++ more) ≡ 1 + indent (xs ++ more) = cond-true (is_white x) (1 + indent (xs ++ more)) 0 w in
      omega (arith, indent_more xs more)
  | inr fails ↦ let first : indent (x ∷ xs) ≡ 0 = cond-false (is_white x) (1 + indent xs) 0 fails in omega arith
]

indent_line : (line : List ℕ) (ending : Option LineEnding) (others : List BlockLine) → indent line ≤ indent (content_from line ending others)
indent_line line ending [] = omega arith
indent_line line ending (next ∷ others) = indent_more line _

first_spaces : (content : List ℕ) → list_any is_space (take 1 content) ≡ false → indent content ≡ 0
first_spaces [] h = refl
first_spaces (c ∷ cs) h =
    cond-false (is_white c) (1 + indent cs) 0 (or_parts (is_white c) (is_eol c) (or_parts (is_space c) false h).0).0

pub first_feed : (content : List ℕ) → list_any is_space (take 1 content) ≡ false → begins_feed content ≡ false
first_feed [] h = refl
first_feed (c ∷ cs) h =
    let eol = (or_parts (is_white c) (is_eol c) (or_parts (is_space c) false h).0).1 in
    (or_parts (eqb c 10) (eqb c 13) (or_parts (eqb c 10 || eqb c 13) (eqb c 257) eol).0).0

indent_cut : (xs content : List ℕ) → list_any is_space (take 1 content) ≡ false → indent (xs ++ content) ≡ indent xs
indent_cut [] content h = first_spaces content h
indent_cut (x ∷ xs) content h = ap (λ k. cond (is_white x) (1 + k) 0) (indent_cut xs content h)

-- ---- parts

ending_some : (e : LineEnding) → 0 < length (ending_bytes e)
ending_some LineFeed = omega arith
ending_some CarriageReturn = omega arith
ending_some CarriageReturnLineFeed = omega arith

ending_any : (e : LineEnding) (xs : List ℕ) → list_any ends_line (ending_bytes e ++ xs) ≡ true
ending_any LineFeed xs = refl
ending_any CarriageReturn xs = refl
ending_any CarriageReturnLineFeed xs = refl

-- nothing white comes after a string with a line ending
pub stays_apart : (e : LineEnding) (xs ys content : List ℕ) → xs ≡ ending_bytes e ++ ys → AreCutApart xs content
    → list_any is_space (take 1 content) ≡ false
stays_apart e xs ys content parts (inl dark) = absurd (true≢false (sym (ap (list_any ends_line) parts ∙ ending_any e ys) ∙ dark))
stays_apart e xs ys content parts (inr h) = h

pub void_node : (node : Node) → node_name node ≡ n.LineEnding → kids_of node ≡ Nil → ArePlain (one node)
void_node (Around enter kids exit) is none =
    plain_one (Around enter kids exit) (ap (is_listed sought_names) is) (subst ArePlain (sym none) plain_none)

-- what comes after the front is cut apart, too
rest_apart : (string front rest content : List ℕ) → string ≡ front ++ rest → AreCutApart string content → AreCutApart rest content
rest_apart string front rest content parts (inl dark) =
    inl (or_parts (list_any ends_line front) (list_any ends_line rest) (sym (list_any-append ends_line front rest) ∙ ap (list_any ends_line)
    (sym parts) ∙ dark)).1
rest_apart string front rest content parts (inr h) = inr h

pub ending_small : (e : LineEnding) → length (ending_bytes e) ≤ 2
ending_small LineFeed = omega arith
ending_small CarriageReturn = omega arith
ending_small CarriageReturnLineFeed = omega arith

pub none_left : (xs : List ℕ) → length xs ≡ 0 → xs ≡ []
none_left [] h = refl
none_left (x ∷ xs) h = absurd (omega arith)

module _ {A : Type 0} (text : List ℕ) (stop : Stop) where
  -- no more columns are owed than white space is ahead
  pub owed_indent : (w : Walk A) (content : List ℕ) → StandsInContent text content stop w → (end_in w.out).owed ≤ indent content
  owed_indent w content st =
      let next = subst (λ e. AreNext text e st.line) (sym st.stands.at) st.stands.next in
      let line = owed_white text st.line (end_in w.out).index (end_in w.out).owed next st.columns in
      omega (arith, line, indent_line st.line st.ending st.others, ap indent st.parts)

  -- white space is written
  pub record WhiteIn (front content : List ℕ) (old new : Walk A) (size : ℕ) : Type 0 where
    pub writes : WritesInContent text front (void_nodes text n.SpaceOrTab (end_in old.out) (end_after (end_in old.out) size)) content stop old new
    pub end : end_in new.out ≡ end_after (end_in old.out) size

  pub white_in : (a b : Walk A) (xs content : List ℕ) (size : ℕ) → size ≤ indent xs → StandsInContent text (xs ++ content) stop a
      → standing b ≡ standing a
      → ((front line : List ℕ) → size ≡ length front → StandsInLine text (front ++ line) a → HasBytes text n.SpaceOrTab size a
      → WritesInLine text front (void_nodes text n.SpaceOrTab (end_in a.out) (end_after (end_in a.out) size)) line a b)
      → WhiteIn (take size xs) (drop size xs ++ content) a b size
  white_in a b xs content size le st same written =
      let front = take size xs in
      let is : size ≡ length front = sym (length-take-le size xs (omega (arith, le, prefix_len-le-length is_white xs))) in
      let parts : xs ++ content ≡ front ++ (drop size xs ++ content) =
      ap (λ ys. ys ++ content) (sym (take-append-drop size xs)) ∙ append_assoc front (drop size xs) content in
      let ahead = line_in_content text stop a front (drop size xs ++ content) (subst (λ ys. StandsInContent text ys stop a) parts st) (white_dark size xs le) in
      let bytes = has_kind text front ahead.line size a is_white is ahead.stands (all_prefix is_white size xs le) in
      let w = written front ahead.line is ahead.stands bytes in
      record { writes = ahead.lifts _ b same w; end = w.end ∙ ap (end_after (end_in a.out)) (sym is) }

  module _ (on : Constructs) (names : Names) where
    -- a node that a callee writes in the line
    pub node_in : (old new : Walk A) (name : Name) (front string content : List ℕ) (ahead : IsLineAhead text stop front content old)
        → standing new ≡ standing old → WritesNode on names text name front string ahead.line old new
        → WritesNodeIn on names text name front string content stop old new
    node_in old new name front string content ahead same w =
        record { node = w.node; named = w.named; writes = ahead.lifts (one w.node) new same w.writes; whole = w.whole; spells = w.spells; plain = w.plain; filled = w.filled; sound = w.sound }

  module _ (on : Constructs) (names : Names) where
    -- data
    pub data_part : (a b : Walk A) (xs content : List ℕ) (size : ℕ) → DataStep on names xs size → IsUtf8 xs → 0 < size
        → StandsInContent text (xs ++ content) stop a → IsWhole a → standing b ≡ standing a
        → ((front line : List ℕ) → size ≡ length front → StandsInLine text (front ++ line) a → HasBytes text n.Data size a
        → WritesInLine text front (data_nodes text (end_in a.out) (end_after (end_in a.out) size)) line a b)
        → WritesStringPart on names text xs content size stop a b
    data_part a b xs content size step utf8 some st whole same written =
        let front = take size xs in
        let after = drop size xs in
        let is : size ≡ length front = sym (length-take-le size xs step.within) in
        let parts : xs ++ content ≡ front ++ (after ++ content) =
        ap (λ ys. ys ++ content) (sym (take-append-drop size xs)) ∙ append_assoc front after content in
        let ahead = line_in_content text stop a front (after ++ content) (subst (λ ys. StandsInContent text ys stop a) parts st) step.dark in
        let bytes = fits_data text front ahead.line size a is ahead.stands (IsUtf8-take xs size utf8 (step.cut utf8)) step.dark in
        let w = written front ahead.line is ahead.stands bytes in
        let spelled : string_of names text (data_nodes text (end_in a.out) (end_after (end_in a.out) size)) ≡ front =
        ap (λ k. string_of names text (data_nodes text (end_in a.out) (end_after (end_in a.out) k))) is
        ∙ data_string text names (end_in a.out) front ahead.line whole (subst (λ e. AreNext text e (front ++ ahead.line))
        (sym ahead.stands.at) ahead.stands.next) in
        record {
          front = front;
          after = after;
          parts = sym (take-append-drop size xs);
          is = is;
          some = some;
          cut = step.cut;
          nodes = data_nodes text (end_in a.out) (end_after (end_in a.out) size);
          writes = ahead.lifts _ b same w;
          whole = ap (λ (x : End). x.owed) w.end ∙ still_whole (end_in a.out) (length front) whole;
          spells = step.text ∙ ap (λ ys. ys ++ bytes_text on names after) (sym spelled);
          plain = plain_data text (end_in a.out) (end_after (end_in a.out) size);
          fill = λ around may. data_fill around StringPart [] text (end_in a.out) (end_after (end_in a.out) size) refl;
          sound = data_sound on names text (end_in a.out) (end_after (end_in a.out) size);
        }

    -- a node that spells what its bytes stand for
    pub node_part : (a b : Walk A) (name : Name) (front string xs after content : List ℕ) (size : ℕ)
        → WritesNodeIn on names text name front string (after ++ content) stop a b
        → xs ≡ front ++ after → size ≡ length front → 0 < size → (IsUtf8 xs → IsCharBoundary xs size)
        → bytes_text on names xs ≡ string ++ bytes_text on names after → take_child string_row name ≡ Some (took Plain string_row)
        → WritesStringPart on names text xs content size stop a b
    node_part a b name front string xs after content size w parts is some cut spells takes = record {
      front = front;
      after = after;
      parts = parts;
      is = is;
      some = some;
      cut = cut;
      nodes = one w.node;
      writes = w.writes;
      whole = w.whole;
      spells = spells ∙ ap (λ ys. ys ++ bytes_text on names after) (sym w.spells);
      plain = w.plain;
      fill = λ around may. fill_taken around string_row name Plain string_row w.node w.named takes (w.filled around);
      sound = sound_one on names text w.node w.sound;
    }

    -- white space before a line ending
    pub white_part : (a b : Walk A) (xs content : List ℕ) (size : ℕ) → WhiteStep on names xs size → size ≡ indent xs → 0 < size
        → StandsInContent text (xs ++ content) stop a → IsWhole a → standing b ≡ standing a
        → ((front line : List ℕ) → size ≡ length front → StandsInLine text (front ++ line) a → HasBytes text n.SpaceOrTab size a
        → WritesInLine text front (void_nodes text n.SpaceOrTab (end_in a.out) (end_after (end_in a.out) size)) line a b)
        → WritesStringPart on names text xs content size stop a b
    white_part a b xs content size step all some st whole same written =
        let w = white_in a b xs content size (omega arith) st same written in
        record {
          front = take size xs;
          after = drop size xs;
          parts = sym (take-append-drop size xs);
          is = sym (length-take-le size xs (omega (arith, all, prefix_len-le-length is_white xs)));
          some = some;
          cut = step.cut;
          nodes = void_nodes text n.SpaceOrTab (end_in a.out) (end_after (end_in a.out) size);
          writes = w.writes;
          whole = ap (λ (x : End). x.owed) w.end ∙ still_whole (end_in a.out) size whole;
          spells =
              step.text
              ∙ ap (λ ys. ys ++ bytes_text on names (drop size xs)) (sym (space_string names text (end_in a.out) (end_after (end_in a.out) size)));
          plain = plain_void text n.SpaceOrTab (end_in a.out) (end_after (end_in a.out) size) refl refl;
          fill = λ around may.
              void_between around string_row n.SpaceOrTab text (end_in a.out) (end_after (end_in a.out) size) refl refl (may_space around (take size xs) may) refl;
          sound = void_sound on names text n.SpaceOrTab (end_in a.out) (end_after (end_in a.out) size) refl;
        }

    -- a line ending, and the white space on the next line
    pub ending_part : (a b c : Walk A) (xs content : List ℕ) (e : LineEnding) (size white : ℕ) → EndingStep on names xs e size → white ≡ indent (drop size xs)
        → AreCutApart xs content → WritesEndingIn text n.LineEnding e (drop size xs ++ content) stop a b → standing c ≡ standing b
        → ((front line : List ℕ) → white ≡ length front → StandsInLine text (front ++ line) b → HasBytes text n.SpaceOrTab white b
        → WritesInLine text front (void_nodes text n.SpaceOrTab (end_in b.out) (end_after (end_in b.out) white)) line b c)
        → WritesStringPart on names text xs content (size + white) stop a c
    ending_part a b c xs content e size white step all cut ends same written =
        let ys = drop size xs in
        let front = take white ys in
        let after = drop white ys in
        let from = end_in b.out in
        let voids = void_nodes text n.SpaceOrTab from (end_after from white) in
        let ended = ends.writes in
        let nothing = stays_apart e xs ys content step.parts cut in
        let w = white_in b c ys content white (omega arith) ended.stands same written in
        let length_front : length front ≡ white = length-take-le white ys (omega (arith, all, prefix_len-le-length is_white ys)) in
        let parts : xs ≡ (ending_bytes e ++ front) ++ after =
        step.parts ∙ ap (λ zs. ending_bytes e ++ zs) (sym (take-append-drop white ys)) ∙ sym (append_assoc (ending_bytes e) front after) in
        let ahead : ys ++ content ≡ front ++ (after ++ content) =
        ap (λ zs. zs ++ content) (sym (take-append-drop white ys)) ∙ append_assoc front after content in
        let owed : from.owed ≤ white = omega (arith, owed_indent b (ys ++ content) ended.stands, indent_cut ys content nothing, all) in
        let end : string_of names text (Cons ends.node ends.quiet) ≡ ending_bytes e =
        ap (λ name. string_part names text name (text_of text ends.node) (kids_of ends.node) ++ string_of names text ends.quiet) ends.named
        ∙ ap₂ (λ xs ys. xs ++ ys) ends.bytes (quiet_string names text ends.quiet ends.are_quiet) ∙ append-nil (ending_bytes e) in
        let spelled : string_of names text (append (Cons ends.node ends.quiet) voids) ≡ ending_bytes e =
        string_append text names (Cons ends.node ends.quiet) voids ∙ ap₂ (λ xs ys. xs ++ ys) end (space_string names text from (end_after from white))
        ∙ append-nil (ending_bytes e) in
        record {
          front = ending_bytes e ++ front;
          after = after;
          parts = parts;
          is = omega (arith, step.is, length_front, length-append (ending_bytes e) front);
          some = omega (arith, step.is, ending_some e);
          cut = λ utf8. subst (λ k. IsCharBoundary xs (size + k)) (sym all) (step.cut utf8);
          nodes = append (Cons ends.node ends.quiet) voids;
          writes =
              contents_both text stop a b c (ending_bytes e) front (after ++ content) (Cons ends.node ends.quiet) voids
              (subst (λ zs. WritesInContent text (ending_bytes e) (Cons ends.node ends.quiet) zs stop a b) ahead ended) w.writes;
          whole = omega (arith, owed, ap (λ (x : End). x.owed) w.end, owed_after from.index from.owed white);
          spells =
              step.text ∙ ap (λ k. ending_bytes e ++ bytes_text on names (drop k ys)) (sym all)
              ∙ ap (λ zs. zs ++ bytes_text on names after) (sym spelled);
          plain =
              plain_both (Cons ends.node ends.quiet) voids
              (plain_both (one ends.node) ends.quiet (void_node ends.node ends.named ends.empty) (plain_quiet ends.quiet ends.are_quiet))
              (plain_void text n.SpaceOrTab from (end_after from white) refl refl);
          fill = λ around may.
              subst (λ b. Fill b string_row (append (Cons ends.node ends.quiet) voids) string_row) (sym (may_lines around _ (ending_any e front) may))
              (fill_both (ending_fill string_row n.LineEnding ends.node ends.quiet ends.named ends.empty refl refl refl refl refl ends.are_quiet)
              (void_between Lines string_row n.SpaceOrTab text from (end_after from white) refl refl refl refl));
          sound =
              sound_both on names text (Cons ends.node ends.quiet) voids (ending_sound on names text ends.node ends.quiet ends.named ends.empty ends.are_quiet)
              (void_sound on names text n.SpaceOrTab from (end_after from white) refl);
        }

    -- ---- all of a string

    pub front_none : (a : Walk A) (string content : List ℕ) → StandsInContent text (string ++ content) stop a → IsWhole a
        → WritesStringFront on names text string string content stop a a
    front_none a string content st whole = record {
      front = [];
      parts = refl;
      nodes = Nil;
      writes = contents_none text stop a (string ++ content) st;
      whole = whole;
      spells = refl;
      plain = plain_none;
      fill = λ around may. fill_none around string_row;
      sound = tt;
    }

    pub front_more : (a b c : Walk A) (string rest left content : List ℕ) (size : ℕ) → AreCutApart string content
        → WritesStringFront on names text string rest content stop a b
        → (AreCutApart rest content → StandsInContent text (rest ++ content) stop b → IsWhole b → WritesStringPart on names text rest content size stop b c)
        → (0 < size → IsCharBoundary rest size → left ≡ drop size rest) → IsUtf8 rest → WritesStringFront on names text string left content stop a c
    front_more a b c string rest left content size apart one more cut utf8 =
        let two = more (rest_apart string one.front rest content one.parts apart) one.writes.stands one.whole in
        let is : left ≡ two.after =
        cut two.some (two.cut utf8) ∙ ap₂ drop two.is two.parts ∙ drop_at two.front two.after (length two.front) refl in
        let ahead : rest ++ content ≡ two.front ++ (two.after ++ content) =
        ap (λ zs. zs ++ content) two.parts ∙ append_assoc two.front two.after content in
        subst (λ xs. WritesStringFront on names text string xs content stop a c) (sym is) (record {
          front = one.front ++ two.front;
          parts = one.parts ∙ ap (λ zs. one.front ++ zs) two.parts ∙ sym (append_assoc one.front two.front two.after);
          nodes = append one.nodes two.nodes;
          writes =
              contents_both text stop a b c one.front two.front (two.after ++ content) one.nodes two.nodes
              (subst (λ zs. WritesInContent text one.front one.nodes zs stop a b) ahead one.writes) two.writes;
          whole = two.whole;
          spells =
              one.spells ∙ ap (λ zs. string_of names text one.nodes ++ zs) two.spells
              ∙ sym (append_assoc (string_of names text one.nodes) (string_of names text two.nodes) (bytes_text on names two.after))
              ∙ ap (λ zs. zs ++ bytes_text on names two.after) (sym (string_append text names one.nodes two.nodes));
          plain = plain_both one.nodes two.nodes one.plain two.plain;
          fill = λ around may.
              let both = may_both around one.front two.front may in fill_both (one.fill around both.0) (two.fill around both.1);
          sound = sound_both on names text one.nodes two.nodes one.sound two.sound;
        })

    pub front_all : (a b : Walk A) (string rest content : List ℕ) → rest ≡ [] → WritesStringFront on names text string rest content stop a b
        → WritesStringIn names on text string content stop a b
    front_all a b string rest content none one =
        let whole : one.front ≡ string = sym (one.parts ∙ ap (λ zs. one.front ++ zs) none ∙ append-nil one.front) in
        record {
          nodes = one.nodes;
          writes =
              subst (λ xs. WritesInContent text xs one.nodes content stop a b) whole
              (subst (λ zs. WritesInContent text one.front one.nodes (zs ++ content) stop a b) none one.writes);
          whole = one.whole;
          spells =
              sym (one.spells ∙ ap (λ zs. string_of names text one.nodes ++ bytes_text on names zs) none ∙ append-nil (string_of names text one.nodes));
          plain = one.plain;
          fill = λ around may. one.fill around (subst (MayEndLines around) (sym whole) may);
          sound = one.sound;
        }
