-- A walk stands after the ending of a line, if that is written.
use Rattle.std.proofs.Common.{◌≡◌, inl, inr, ◌<◌, ◌+◌, ◌-◌, ℕ, zero, suc, ◌||◌, Bool, true, false, List, [], ◌∷◌, ◌++◌, Option, None, Some, refl, sym, ap, ◌∙◌, subst, arith, length, length-append, get_or, append_assoc, reverse}
use Rattle.parse_events.proofs.Prelude.{AreEnding, AreMute, AreQuiet, Around, AtEnding, Between, Block, Blocks, Cons, ConsBlock, Container, End, end_at}
use Rattle.parse_events.proofs.Prelude.{Ending, ending_text, ends_in_blank, ends_unclosed, EndsLine, forest_in, growth, Growth, HasSameOpen}
use Rattle.parse_events.proofs.Prelude.{if◌then◌else◌, IsAfterOther, IsBegun, IsInLine, join, kids_of, LevelsGoOn, line_after, line_at, LineEnding, LineRest}
use Rattle.parse_events.proofs.Prelude.{lines_are_counted, list_any, Name, named, Nil, NoBlock, Node, Nodes, one, one_block, Opened, opened, Reading}
use Rattle.parse_events.proofs.Prelude.{same_name, Spells, Standing, standing, Stands, StandsAt, true≢false, void_nodes, Walk, with_nodes, WritesEnding}
use Rattle.parse_events.proofs.Prelude.{written_to}
use Rattle.definition_text.specs.Lines.{ends_line}
use Rattle.engine_events.specs.declared.event.Name.TheVariants as n
use Rattle.event_grammar.specs.declared.slot.Between.TheVariants.{Lines}
use Rattle.event_grammar.specs.declared.slot.Form.TheVariants.{Plain}
use Rattle.event_grammar.specs.References.{named_in}
use Rattle.parse_lines.specs.Quiet.{AreOfPrefix, IsVoidOf}
use Rattle.parse_lines.proofs.Spots.{get_front, get_over}
use Rattle.parse_output.proofs.Forests.{append-nil}
use Rattle.parse_slots.proofs.Steps.{filled_by, filled_void}
use Rattle.parse_events.proofs.LastBlank.{ending_ends}
use Rattle.parse_raw.proofs.Bytes.{ending_token, line_ending_fits}

-- ---- quiet nodes are mute

void_none : (name : Name) (node : Node) → same_name name n.Definition ≡ false → IsVoidOf name node → named_in n.Definition node ≡ []
void_none name (Around enter kids exit) other is =
    ap (λ (b : Bool). if b then Around enter kids exit ∷ named n.Definition kids else named n.Definition kids)
    (ap (λ (a : Name). same_name a n.Definition) is.0 ∙ other)
    ∙ ap (named n.Definition) is.1

prefix_none : (ns : Nodes) → AreOfPrefix ns → named n.Definition ns ≡ []
prefix_none Nil are = refl
prefix_none (Cons node ns) (inl is, more) = ap (λ (xs : List Node). xs ++ named n.Definition ns) (void_none n.BlockQuoteMarker node refl is) ∙ prefix_none ns more
prefix_none (Cons node ns) (inr is, more) = ap (λ (xs : List Node). xs ++ named n.Definition ns) (void_none n.SpaceOrTab node refl is) ∙ prefix_none ns more

pub quiet_mute : (ns : Nodes) → AreQuiet ns → AreMute ns
quiet_mute Nil are = tt
quiet_mute (Cons node ns) (inl is, more) =
    (inl is.0, ap (named n.Definition) is.1, quiet_mute ns more, filled_void Lines Plain n.SpaceOrTab node is.0 is.1 refl)
quiet_mute (Cons node ns) (inr is, more) =
    (inr is.0, prefix_none (kids_of node) is.1, quiet_mute ns more, filled_by Lines Plain n.BlockQuotePrefix [] node is.0 is.2 refl)

-- ---- one more block

abbrev some_block : Blocks → Bool
some_block NoBlock = false
some_block (ConsBlock b bs) = true

joined_some : (bs : Blocks) (b : Block) → join bs (one_block b) ≡ NoBlock → ⊥
joined_some NoBlock b none = true≢false (ap some_block none)
joined_some (ConsBlock c bs) b none = true≢false (ap some_block none)

pub begun_more : (o : Opened) (b : Block) → IsBegun (opened (join o.kids (one_block b)) o.outer o.places)
begun_more o b = λ within none. joined_some o.kids b none

-- ---- the ending of a line

-- an index isn't inside of the ending of a line
abbrev pub IsApart : List ℕ → ℕ → Type 0
IsApart text index = 0 < index → get_or text index 0 ≡ 10 → get_or text (index - 1) 0 ≡ 13 → ⊥

or_no : (a b : Bool) → (a || b) ≡ false → (a ≡ false) × (b ≡ false)
or_no true b is = absurd (true≢false is)
or_no false b is = (refl, is)

dark_at : (xs : List ℕ) (k : ℕ) → list_any ends_line xs ≡ false → ends_line (get_or xs k 0) ≡ false
dark_at [] k dark = refl
dark_at (x ∷ xs) zero dark = (or_no (ends_line x) (list_any ends_line xs) dark).0
dark_at (x ∷ xs) (suc k) dark = dark_at xs k (or_no (ends_line x) (list_any ends_line xs) dark).1

apart_by : (text before content after : List ℕ) (index : ℕ) → text ≡ before ++ (content ++ after) → list_any ends_line content ≡ false
    → index ≡ length before + length content
    → (0 < length before → get_or text (length before - 1) 0 ≡ 13 → get_or text (length before) 0 ≡ 10 → ⊥) → IsApart text index
apart_by text before [] after index parts dark end start =
    let at : length before ≡ index = omega (arith, end) in
    subst (λ (k : ℕ). IsApart text k) at (λ some ten thirteen. start some thirteen ten)
apart_by text before (x ∷ xs) after index parts dark end start =
    λ some ten thirteen.
    let content = x ∷ xs in
    let here : index - 1 ≡ length before + length xs = omega (arith, end) in
    let inside : get_or content (length xs) 0 ≡ 13 =
    sym (ap (λ (bs : List ℕ). get_or bs (index - 1) 0) parts ∙ ap (λ (k : ℕ). get_or (before ++ (content ++ after)) k 0) here
    ∙ get_over before (content ++ after) (length xs) ∙ get_front content after (length xs) (omega arith)) ∙ thirteen in
    true≢false (ap ends_line (sym inside) ∙ dark_at content (length xs) dark)

-- the ending of a line that is begun isn't inside of another
pub line_apart : (text : List ℕ) (s : Standing) → IsInLine text s → IsApart text s.line_end
line_apart text s line =
    apart_by text line.before line.content (ending_text s.ending ++ s.left) s.line_end line.parts.parts line.parts.dark line.end line.parts.first.apart

pub next_line : (text : List ℕ) (s : Standing) (e : LineEnding) (line : IsInLine text s) → s.ending ≡ Some e → IsApart text s.line_end
    → line_at text (s.size - length s.left) ≡ line_at text s.line_end + 1
next_line text s e line is apart =
    let before = line.before in
    let content = line.content in
    let parts : text ≡ (before ++ content) ++ (ending_text (Some e) ++ s.left) =
    line.parts.parts ∙ sym (append_assoc before content (ending_text s.ending ++ s.left))
    ∙ ap (λ (o : Option LineEnding). (before ++ content) ++ (ending_text o ++ s.left)) is in
    let at : length (before ++ content) ≡ s.line_end = length-append before content ∙ sym line.end in
    let size : length text ≡ length (before ++ content) + (length (ending_text (Some e)) + length s.left) =
    ap length parts ∙ length-append (before ++ content) (ending_text (Some e) ++ s.left)
    ∙ ap (λ (k : ℕ). length (before ++ content) + k) (length-append (ending_text (Some e)) s.left) in
    let all : s.size ≡ length text = line.over.size in
    let end : s.size - length s.left ≡ length (before ++ content) + length (ending_text (Some e)) = omega (arith, size, all) in
    ap (line_at text) end
    ∙ lines_are_counted.next text (before ++ content) s.left e parts (subst (λ (k : ℕ). IsApart text k) (sym at) apart)
    ∙ ap (λ (k : ℕ). line_at text k + 1) at

pub with_none : (g : Growth) → with_nodes g Nil ≡ g
with_none g = ap (λ (ns : Nodes). growth ns g.outer) (append-nil g.kids)

module _ (r : Reading) (text : List ℕ) (front : Nodes) (go : LevelsGoOn r text front) where
  spells_ending : (o : Opened) (ending : Option LineEnding) (g h : Growth) (ns : Nodes) (from to : ℕ) → (ending ≡ None → o.outer ≡ [])
      → (o.outer ≡ [] → ends_unclosed false o.kids ≡ false) → IsBegun o → AreEnding text n.LineEnding ending ns → h ≡ with_nodes g ns
      → ((e : LineEnding) → ending ≡ Some e → line_at text to ≡ line_at text from + 1) → Spells r text front o g (line_at text from)
      → Spells r text front (opened (join o.kids (one_block (Ending ending))) o.outer o.places) h (line_at text to)
  spells_ending o None g h ns from to outside other begun is grown next spells =
      let same : h ≡ g = grown ∙ ap (with_nodes g) is ∙ with_none g in
      subst (λ (x : Growth). Spells r text front (opened (join o.kids (one_block (Ending None))) o.outer o.places) x (line_at text to)) (sym same)
      (go.no_ending o g (line_at text from) (line_at text to) (outside refl) spells)
  spells_ending o (Some e) g h ns from to outside other begun is grown next spells =
      let more = opened (join o.kids (one_block (Ending (Some e)))) o.outer o.places in
      let same : h ≡ with_nodes g (one is.0) = grown ∙ ap (with_nodes g) is.1 in
      subst (λ (x : Growth). Spells r text front more x (line_at text to)) (sym same) (
      subst (λ (k : ℕ). Spells r text front more (with_nodes g (one is.0)) k) (sym (next e refl)) (
      go.ending o g (line_at text from) e is.0 (record { named = is.2; empty = is.3; bytes = is.4 }) other begun spells))

module _ {A : Type 0} (r : Reading) (text : List ℕ) (front : Nodes) (go : LevelsGoOn r text front) where
  pub ending_stands : (o : Opened) (within : List Container) (ending : Option LineEnding) (left : List LineRest) (old new : Walk A)
      → (ending ≡ None → o.outer ≡ []) → StandsAt text (AtEnding ending left) (standing old) → written_to old ≡ end_at old.line_end 0
      → IsAfterOther o (AtEnding ending left) → Stands r text front o within (AtEnding ending left) old
      → EndsLine (standing old) (standing new) → WritesEnding n.LineEnding old new → HasSameOpen (standing old) (standing new)
      → line_after new ≡ line_after old → AreEnding text n.LineEnding ending (void_nodes text n.LineEnding (written_to old) (line_after old))
      → IsApart text old.line_end
      → Stands r text front (opened (join o.kids (one_block (Ending ending))) o.outer o.places) within (Between left) new
  ending_stands o within ending left old new outside st wr other was ends writes same after are apart =
      let written = writes text ending left st was.order (ending_token text n.LineEnding old line_ending_fits st.line wr) in
      record {
        constructs = same.0 ∙ was.constructs;
        around = ap reverse same.1 ∙ was.around;
        same = was.same;
        order = written.0.order;
        at = inl (ends text ending left st, written.1, tt);
        spells =
            subst (λ (x : End). Spells r text front (opened (join o.kids (one_block (Ending ending))) o.outer o.places) (forest_in text new.out) (line_at text x.index))
            (sym (written.1 ∙ after))
            (spells_ending r text front go o ending (forest_in text old.out) (forest_in text new.out) _ (written_to old).index (line_after old).index outside other was.begun are
            written.0.forest
            (λ e is. next_line text (standing old) e st.line (st.ending ∙ is) apart ∙ ap (λ (x : End). line_at text x.index + 1) (sym wr))
            was.spells);
        begun = begun_more o (Ending ending);
        ends = λ top.
            ap (λ (g : Growth). ends_in_blank g.kids) written.0.forest ∙ ending_ends text ending o.kids (forest_in text old.out).kids _ are (was.ends top).0;
      }
