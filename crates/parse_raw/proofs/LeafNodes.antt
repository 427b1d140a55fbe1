-- The node of a leaf after white space, step by step.
use Rattle.std.proofs.Common.{◌≡◌, ℕ, ◌+◌, ◌-◌, ◌≤◌, Bool, true, false, if◌then◌else◌, ◌&&◌, List, [], ◌∷◌, ◌++◌, refl, sym, ap, ap₂, subst, ◌∙◌, drop, length, length-append, map, arith}
use Rattle.parse_raw.proofs.Prelude.{all_prefix, AreBlocksAlike, AreLeft, Around, at_ending, AtEnding, bare, block_names, blocks_of, bytes_of, cond-false}
use Rattle.parse_raw.proofs.Prelude.{Constructs, cut, drop-drop, End, end_at, end_in, ending_text, enter_at, Enters, exit_at, Exits, Follows, HasSameOpen}
use Rattle.parse_raw.proofs.Prelude.{InAll, indent, is_listed, is_nil, is_white, IsAfterWhite, IsInLine, IsInOrder, IsWrittenToRest, left_within, line_left}
use Rattle.parse_raw.proofs.Prelude.{LineRest, Meaning, Name, named, Names, Node, Nodes, one, one_block, Place, Rest, rest_of, rest_start, rest_to_end}
use Rattle.parse_raw.proofs.Prelude.{same_name, space_written, Standing, standing, StandsAt, Walk, whole, Within, Writes, writes_around, writes_both}
use Rattle.parse_raw.proofs.Prelude.{WritesLeaf, WritesQuiet, WritesUpTo, written_to}
use Rattle.engine_events.specs.declared.event.Name.TheVariants as n
use Rattle.definition_page.specs.Page as page
use Rattle.event_grammar.specs.declared.slot.Between.TheVariants.{Lines}
use Rattle.event_grammar.specs.declared.slot.Form.TheVariants.{Plain}
use Rattle.event_meaning.specs.Spelled.{definition_of}
use Rattle.parse_output.specs.Forest.{bytes_from}
use Rattle.parse_alike.specs.Targets.{AreDefinitionsAlike}
use Rattle.parse_raw.proofs.Prelude.{AreNext, left_bytes, left_next, replicate, space, start_whole}
use Rattle.parse_lines.proofs.Columns.{bare_owes_none}
use Rattle.parse_lines.proofs.Written.{bare_follows, bare_start}
use Rattle.parse_slots.specs.Left.{IsFilled}
use Rattle.event_definition.specs.Pieces.{token}
use Rattle.event_definition.specs.Written.{before_rest}
use Rattle.parse_lines.proofs.Written.{space_pieces}
use Rattle.parse_pieces.specs.Written.{WritesPieces}
use Rattle.parse_references.specs.Sound.{IsSound}
use Rattle.parse_raw.specs.Written.{SpellsLeaf}

left_of_bare : (rest : Rest) → left_bytes (bare rest) ≡ bytes_of (bare rest)
left_of_bare rest = ap (λ (k : ℕ). replicate k space ++ bytes_of (bare rest)) (bare_owes_none rest)

-- white space is written up to an index of the line
pub record WritesWhite {A : Type 0} (text : List ℕ) (old new : Walk A) : Type 0 where
  pub quiet : WritesQuiet text old.out new.out
  pub same : standing new ≡ standing old
  pub starts : (written_to old).index ≤ (written_to new).index
  pub begins : (written_to new).index ≤ old.line_end
  pub after : AreLeft text (bytes_of (bare (rest_of old.rest))) new
  pub exact : WritesPieces text (token n.SpaceOrTab (before_rest (rest_of old.rest) (bare (rest_of old.rest)))) old.out new.out

-- the ending of a line is in the text
pub line_in_text : (text : List ℕ) (s : Standing) → IsInLine text s → s.line_end ≤ length text
line_in_text text s line =
    let sizes : length text ≡ length line.before + length (line.content ++ (ending_text s.ending ++ s.left)) =
    ap length line.parts.parts ∙ length-append line.before _ in
    let more = length-append line.content (ending_text s.ending ++ s.left) in
    omega (arith, sizes, more, line.end)

-- an event that holds no definition is a block
pub spelled : (text : List ℕ) (on : Constructs) (names : Names) (top : Bool) (leaf : page.PageLeaf) (name : Name) (kids : Nodes) (from to : End)
    → is_listed block_names name ≡ true → same_name name n.Definition ≡ false → named n.Definition kids ≡ []
    → ((m m' : Meaning) → AreBlocksAlike m m' (one_block (page.Leaf leaf)) (blocks_of names text top (one (Around (enter_at text name from) kids (exit_at text name to)))))
    → IsSound on names text (Around (enter_at text name from) kids (exit_at text name to))
    → SpellsLeaf on names text top leaf [] (Around (enter_at text name from) kids (exit_at text name to))
spelled text on names top leaf name kids from to block other none alike sound =
    let node = Around (enter_at text name from) kids (exit_at text name to) in
    let nothing : named n.Definition (one node) ≡ [] =
    ap (λ (ns : List Node). ns ++ []) (cond-false (same_name name n.Definition) (node ∷ named n.Definition kids) (named n.Definition kids) other ∙ none) in
    record {
      is_block = block;
      blocks = λ m m' are. alike m m';
      definitions = λ m m' are. subst (λ (ns : List Node). AreDefinitionsAlike m m' [] (map (definition_of names text) ns)) (sym nothing) tt;
      sound = sound;
    }

-- a node that isn't data stays as it is
pub cut_one : (text : List ℕ) (name : Name) (from to : End) (ns : Nodes) → same_name name n.Data ≡ false
    → cut (Around (enter_at text name from) ns (exit_at text name to)) ≡ one (Around (enter_at text name from) ns (exit_at text name to))
cut_one text name from to ns other =
    let enter = enter_at text name from in
    let exit = exit_at text name to in
    ap (λ (same : Bool). if same && is_nil ns then bytes_from enter exit else one (Around enter ns exit)) other

module _ {A : Type 0} (text : List ℕ) where
  -- the spaces and tabs ahead
  pub white_written : (old a : Walk A) (here : LineRest) (left : List LineRest) → StandsAt text (Within here left) (standing old) → IsWrittenToRest old
      → IsInOrder text old.out → standing a ≡ standing old → written_to a ≡ end_at (old.line_end - length (bytes_of (bare (rest_of old.rest)))) 0
      → WritesUpTo n.SpaceOrTab (end_at (old.line_end - length (bytes_of (bare (rest_of old.rest)))) 0) old a → WritesWhite text old a
  white_written old a here left st at order same to writes =
      let before = st.line.before in
      let content = st.line.content in
      let after = ending_text old.ending ++ old.left.now in
      let start = rest_of old.rest in
      let count = length (bytes_of (bare start)) in
      let bare_end = end_at (old.line_end - count) 0 in
      let rest_at = st.rest ∙ st.suffix in
      let bare_is = bare_start text before content after st.columns old.line_end start bare_end refl in
      let follows = bare_follows text before content after st.columns old.line_end start bare_end st.line.parts st.line.end rest_at bare_is in
      let follows_old = subst (λ (e : End). Follows text e bare_end) (sym at) follows in
      let further : IsAfterWhite (bare start) start =
      record { count = indent start; is = refl; white = all_prefix is_white (indent start) start (omega arith) } in
      let quiet = space_written text before content after st.columns old.line_end start (bare start) old.out a.out bare_end st.line.parts st.line.end rest_at
      at order further bare_is (λ o f. writes text o f) in
      let index = ap (λ (e : End). e.index) to in
      let line_end = ap (λ (s : Standing). s.line_end) same in
      let bare_at : bare start ≡ drop (st.columns + indent start) (whole content) = ap (drop (indent start)) rest_at ∙ drop-drop (indent start) st.columns (whole content) in
      let next = subst (λ (e : End). AreNext text e (bytes_of (bare start))) (start_whole old.line_end (bare start) (bare_owes_none start) ∙ sym to)
      (subst (λ bs. AreNext text (rest_start old.line_end (bare start)) bs) (left_of_bare start)
      (subst (λ r. AreNext text (rest_start old.line_end r) (left_bytes r)) (sym bare_at)
      (left_next text before content after old.line_end (st.columns + indent start) st.line.parts st.line.end))) in
      let bound = left_within content (st.columns + indent start) st.line.parts.bytes in
      let bound_is : count ≡ length (bytes_of (drop (st.columns + indent start) (whole content))) = ap (λ (r : Rest). length (bytes_of r)) bare_at in
      let end = st.line.end in
      record {
        quiet = quiet;
        same = same;
        starts = omega (arith, index, follows_old.forward);
        begins = omega (arith, index);
        after = record {
          order = quiet.writes.order;
          at = to ∙ ap (λ (k : ℕ). end_at (k - count) 0) (sym line_end);
          next = next;
          within = omega (arith, bound, bound_is, end, line_end);
          end = omega (arith, line_in_text text (standing old) st.line, line_end);
          fits = st.line.over.fits;
        };
        exact =
            space_pieces text before content after st.columns old.line_end start (bare start) old.out a.out bare_end st.line.parts st.line.end rest_at at order
            further bare_is (λ o f. writes text o f) to;
      }

  -- quiet nodes, and an event with these in it
  pub leaf_written : (on : Constructs) (names : Names) (top : Bool) (leaf : page.PageLeaf) (to : Place) (old a b c d : Walk A) (name : Name) (kids : Nodes)
      → WritesQuiet text old.out a.out → Enters text name a.out b.out → Writes text b.out c.out kids → Exits text name c.out d.out
      → is_listed block_names name ≡ true → same_name name n.Definition ≡ false → same_name name n.Data ≡ false → named n.Definition kids ≡ []
      → ((m m' : Meaning) → AreBlocksAlike m m' (one_block (page.Leaf leaf))
      (blocks_of names text top (one (Around (enter_at text name (end_in a.out)) kids (exit_at text name (end_in c.out))))))
      → StandsAt text to (standing d) → HasSameOpen (standing old) (standing d) → written_to d ≡ written_to c → written_to c ≡ end_at d.line_end 0
      → (written_to old).index ≤ (written_to a).index → (written_to a).index ≤ old.line_end
      → IsFilled Lines Plain (Around (enter_at text name (end_in a.out)) kids (exit_at text name (end_in c.out)))
      → IsSound on names text (Around (enter_at text name (end_in a.out)) kids (exit_at text name (end_in c.out)))
      → WritesLeaf on names text top leaf [] to old d
  leaf_written on names top leaf to old a b c d name kids quiet enters writes exits block other no_data none alike stands kept same at starts begins filled sound =
      let node = Around (enter_at text name (end_in a.out)) kids (exit_at text name (end_in c.out)) in
      let whole = cut_one text name (end_in a.out) (end_in c.out) kids no_data in
      let around = subst (Writes text a.out d.out) whole (writes_around text a.out b.out c.out d.out name kids enters writes exits) in
      record {
        before = quiet.nodes;
        are_quiet = quiet.quiet;
        node = node;
        spells = spelled text on names top leaf name kids (end_in a.out) (end_in c.out) block other none alike sound;
        writes = writes_both text old.out a.out d.out quiet.nodes (one node) quiet.writes around;
        stands = stands;
        around = kept;
        written = same ∙ at;
        starts = starts;
        begins = begins;
        ends = ap (λ (e : End). e.index) at;
        filled = filled;
      }

-- a leaf of one line leads to the ending of that line
pub ends_here : (here own : LineRest) (left others : List LineRest) (to : Place) → InAll here ≡ InAll own → left ≡ others → to ≡ AtEnding own.beside.ending others
    → AtEnding here.beside.ending left ≡ to
ends_here here own left others to same_line same_left is =
    ap₂ (λ (l : LineRest) (ls : List LineRest). AtEnding l.beside.ending ls) (ap line_left same_line) same_left ∙ sym is

pub stands_here : (text : List ℕ) (here own : LineRest) (left others : List LineRest) (to : Place) (old new : Standing) → StandsAt text (Within here left) old
    → InAll here ≡ InAll own → left ≡ others → to ≡ AtEnding own.beside.ending others → new ≡ old → StandsAt text to new
stands_here text here own left others to old new st same_line same_left is same =
    subst (λ (p : Place). StandsAt text p new) (ends_here here own left others to same_line same_left is) (
    subst (StandsAt text (AtEnding here.beside.ending left)) (sym same) (at_ending text here left old st)
    )

-- what is left of a line begins no further on than the line ends
pub rest_within : {A : Type 0} (text : List ℕ) (w : Walk A) (here : LineRest) (left : List LineRest) → StandsAt text (Within here left) (standing w)
    → IsWrittenToRest w → (written_to w).index ≤ w.line_end
rest_within text w here left st at =
    let from : written_to w ≡ rest_start w.line_end (drop st.columns (whole st.line.content)) = at ∙ ap (rest_start w.line_end) (st.rest ∙ st.suffix) in
    let follows = rest_to_end text st.line.before st.line.content (ending_text w.ending ++ w.left.now) w.line_end st.columns st.line.parts st.line.end in
    omega (arith, ap (λ (e : End). e.index) from, follows.forward)
