-- What is written of a construct in a content, step by step.
use Rattle.std.proofs.Common.{inl, inr, ◌≡◌, ℕ, ◌<◌, Bool, false, ◌||◌, List, [], ◌∷◌, ◌++◌, refl, sym, ap, ap₂, subst, ◌∙◌, length}
use Rattle.std.proofs.Common.{true}
use Rattle.event_tokens.specs.Tokens.{is_token}
use Rattle.parse_lines.specs.Content.{HasBytes}
use Rattle.parse_lines.proofs.Bytes.{has_bytes}
use Rattle.parse_inline.proofs.Prelude.{append, AreBytesAt, AreNext, ArePartsAlike, AreQuiet, Around, cond_both, Cons, contents_both, End, end_after, end_at}
use Rattle.parse_inline.proofs.Prelude.{end_in, ends_line, enter_at, exit_at, InlineCode, InlineLeaf, inlines_of, is_listed, IsWhole, kids_of, Leaf, leaves}
use Rattle.parse_inline.proofs.Prelude.{line_in_content, list_any, Meaning, Name, Names, Nil, Node, node_name, Nodes, one, plain_both}
use Rattle.parse_inline.proofs.Prelude.{plain_none, plain_one, same_end, same_name, sought_names, standing, StandsInContent, StandsInLine, still_whole, Stop}
use Rattle.parse_inline.proofs.Prelude.{text_of, text_part, text_within, token, token_text, void_nodes, void_one, Walk, whole_end, WritesFront}
use Rattle.parse_inline.proofs.Prelude.{WritesInContent, WritesInLine, WritesLeaves}
use Rattle.markdown_options.specs.declared.configuration.Constructs.{Constructs}
use Rattle.engine_events.specs.declared.event.Name.TheVariants as n
use Rattle.definition_inline.specs.Inline as inline
use Rattle.event_meaning.specs.Texts as texts
use Rattle.event_grammar.specs.Grammar.{text_row}
use Rattle.parse_slots.proofs.Steps.{fill_both, may_both}
use Rattle.parse_references.specs.Sound.{is_asked_on}
use Rattle.parse_references.proofs.Sound.{sound_both, sound_of_on, sound_one}
use Rattle.parse_strings.proofs.Fills.{token_taken}
use Rattle.parse_inline.proofs.Fills.{IsTextToken}
use Rattle.parse_inline.proofs.LeavesAlike.{inlines_append}

pub leaves_append : (ls ks : List InlineLeaf) → leaves (ls ++ ks) ≡ texts.append (leaves ls) (leaves ks)
leaves_append [] ks = refl
leaves_append (l ∷ ls) ks = ap (inline.Cons (Leaf l)) (leaves_append ls ks)

-- nodes that spell nothing in a text
pub quiet_spells : (names : Names) (text : List ℕ) (linked : Bool) (ns : Nodes) → AreQuiet ns → inlines_of names text linked ns ≡ inline.Nil
quiet_spells names text linked Nil are = refl
quiet_spells names text linked (Cons (Around enter kids exit) ns) (inl is, are) =
    ap₂ texts.append
    (ap (λ name. text_part names text linked name (text_of text (Around enter kids exit)) kids
    (text_within names text (linked || same_name name n.Link) kids)) is.0)
    (quiet_spells names text linked ns are)
quiet_spells names text linked (Cons (Around enter kids exit) ns) (inr is, are) =
    ap₂ texts.append
    (ap (λ name. text_part names text linked name (text_of text (Around enter kids exit)) kids
    (text_within names text (linked || same_name name n.Link) kids)) is.0)
    (quiet_spells names text linked ns are)

pub white_spells : (names : Names) (text : List ℕ) (linked : Bool) (from to : End)
    → inlines_of names text linked (void_nodes text n.SpaceOrTab from to) ≡ inline.Nil
white_spells names text linked from to =
    let node = Around (enter_at text n.SpaceOrTab from) Nil (exit_at text n.SpaceOrTab to) in
    cond_both (same_end to from) Nil (one node) (λ ns. inlines_of names text linked ns ≡ inline.Nil) (λ _. refl) (λ _. refl)

-- an event with this name spells what its name and its text say, if it holds no other
pub void_spells : (names : Names) (text : List ℕ) (linked : Bool) (name : Name) (bytes : List ℕ) (node : Node) → node_name node ≡ name → kids_of node ≡ Nil
    → text_of text node ≡ bytes → inlines_of names text linked (one node) ≡ texts.append (text_part names text linked name bytes Nil inline.Nil) inline.Nil
void_spells names text linked name bytes (Around enter kids exit) named empty is =
    ap (λ t. texts.append (text_part names text linked enter.name t kids (text_within names text (linked || same_name enter.name n.Link) kids)) inline.Nil) is
    ∙ ap₂ (λ a ks. texts.append (text_part names text linked a bytes ks (text_within names text (linked || same_name a n.Link) ks)) inline.Nil) named empty

-- a call writes the next bytes by a name
abbrev pub WritesNext : {A : Type 0} → List ℕ → Name → ℕ → Walk A → Walk A → Type 0
WritesNext text name size a b =
    (bytes line : List ℕ) → size ≡ length bytes → same_name name n.BlockQuotePrefix ≡ false → StandsInLine text (bytes ++ line) a
    → HasBytes text name size a
    → WritesInLine text bytes (void_nodes text name (end_in a.out) (end_after (end_in a.out) size)) line a b

-- what is next outside of a tab
pub next_here : {A : Type 0} (text line : List ℕ) (w : Walk A) → StandsInLine text line w → IsWhole w → AreNext text (end_at (end_in w.out).index 0) line
next_here text line w st whole = subst (λ e. AreNext text e line) (sym st.at ∙ whole_end (end_in w.out) whole) st.next

module _ {A : Type 0} (names : Names) (text : List ℕ) (stop : Stop) where
  -- some bytes, and then others
  pub fronts_both : (on : Constructs) (a b c : Walk A) (front after content : List ℕ) (MayBe : Bool → Type 0) (ls ks : List InlineLeaf)
      → WritesFront on names text front (after ++ content) MayBe ls stop a b → WritesFront on names text after content MayBe ks stop b c
      → WritesFront on names text (front ++ after) content MayBe (ls ++ ks) stop a c
  fronts_both on a b c front after content MayBe ls ks first second = record {
    nodes = append first.nodes second.nodes;
    writes = contents_both text stop a b c front after content first.nodes second.nodes first.writes second.writes;
    whole = second.whole;
    plain = plain_both first.nodes second.nodes first.plain second.plain;
    spells = λ linked may.
        inlines_append names text linked first.nodes second.nodes
        ∙ ap₂ texts.append (first.spells linked may) (second.spells linked may)
        ∙ sym (leaves_append ls ks);
    fill = λ around may. let both = may_both around front after may in fill_both (first.fill around both.0) (second.fill around both.1);
    sound = sound_both on names text first.nodes second.nodes first.sound second.sound;
  }

  -- so they are the first of the bytes that are ahead
  pub leaves_of_front : (on : Constructs) (a b : Walk A) (bytes front after : List ℕ) (MayBe : Bool → Type 0) (ls parts : List InlineLeaf) (to : List InlineCode)
      → bytes ≡ front ++ after
      → AreBytesAt after to → WritesFront on names text front after MayBe ls stop a b
      → ((m m' : Meaning) → ArePartsAlike m m' (leaves parts) (leaves ls)) → WritesLeaves on names text bytes MayBe parts to stop a b
  leaves_of_front on a b bytes front after MayBe ls parts to is left writes alike = record {
    front = front;
    after = after;
    parts = is;
    left = left;
    nodes = writes.nodes;
    writes = writes.writes;
    whole = writes.whole;
    plain = writes.plain;
    spells = λ linked may m m'. subst (ArePartsAlike m m' (leaves parts)) (sym (writes.spells linked may)) (alike m m');
    fill = writes.fill;
    sound = writes.sound;
  }

  -- a token of some bytes
  pub record TokenIn (name : Name) (front content : List ℕ) (a b : Walk A) : Type 0 where
    pub writes : WritesInContent text front (one (token text name (end_in a.out).index (length front))) content stop a b
    pub whole : IsWhole b
    pub read : text_of text (token text name (end_in a.out).index (length front)) ≡ front

  pub token_in : (a b : Walk A) (name : Name) (front content : List ℕ) (size : ℕ) → size ≡ length front → 0 < length front → list_any ends_line front ≡ false
      → same_name name n.Data ≡ false → same_name name n.BlockQuotePrefix ≡ false → is_token name front ≡ true
      → StandsInContent text (front ++ content) stop a → IsWhole a
      → standing b ≡ standing a → WritesNext text name size a b → TokenIn name front content a b
  token_in a b name front content size is some dark no_data no_prefix may st whole same written =
      let ahead = line_in_content text stop a front content st dark in
      let w = written front ahead.line is no_prefix ahead.stands (has_bytes text front ahead.line size a name is ahead.stands whole may) in
      let e = end_in a.out in
      let nodes : void_nodes text name e (end_after e size) ≡ one (token text name e.index (length front)) =
      ap (λ k. void_nodes text name e (end_after e k)) is ∙ void_one text name e (length front) whole some no_data in
      record {
        writes = subst (λ ns. WritesInContent text front ns content stop a b) nodes (ahead.lifts _ b same w);
        whole = ap (λ (x : End). x.owed) w.end ∙ still_whole e (length front) whole;
        read = token_text text name e.index front ahead.line (next_here text (front ++ ahead.line) a ahead.stands whole);
      }

  pub token_front : (on : Constructs) (a b : Walk A) (name : Name) (front content : List ℕ) (size : ℕ) (MayBe : Bool → Type 0) (ls : List InlineLeaf) → size ≡ length front
      → 0 < length front → list_any ends_line front ≡ false → same_name name n.Data ≡ false → same_name name n.BlockQuotePrefix ≡ false
      → is_listed sought_names name ≡ false → IsTextToken name → is_asked_on on name ≡ true → is_token name front ≡ true
      → ((linked : Bool) → MayBe linked → texts.append (text_part names text linked name front Nil inline.Nil) inline.Nil ≡ leaves ls)
      → StandsInContent text (front ++ content) stop a → IsWhole a → standing b ≡ standing a → WritesNext text name size a b
      → WritesFront on names text front content MayBe ls stop a b
  token_front on a b name front content size MayBe ls is some dark no_data no_prefix unsought known made may spells st whole same written =
      let t = token_in a b name front content size is some dark no_data no_prefix may st whole same written in
      let node = token text name (end_in a.out).index (length front) in
      record {
        nodes = one node;
        writes = t.writes;
        whole = t.whole;
        plain = plain_one node unsought plain_none;
        spells = λ linked may. void_spells names text linked name front node refl refl t.read ∙ spells linked may;
        fill = λ around may. token_taken around text_row name text_row text (end_in a.out).index (length front) known.taken known.void;
        sound = sound_one on names text node (sound_of_on on names text node known.unasked made tt);
      }
