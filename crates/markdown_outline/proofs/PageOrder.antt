-- The headings that are listed are those of the page.
use Rattle.std.proofs.Common.{◌≡◌, ◌+◌, ℕ, Bool, true, false, not, ◌&&◌, ◌||◌, if◌then◌else◌, List, [], ◌∷◌}
use Rattle.std.proofs.Common.{◌++◌, map, drop, refl, sym, ap, ap₂, ◌∙◌, subst, append_assoc}
use Rattle.std.proofs.lemmas.Bool.{and_parts, cond-false, cond-true}
use Rattle.std.proofs.lemmas.List.{append-nil}
use denote.Enum.Bare.{same_true, true_same}
use Rattle.engine_events.specs.contracts.event.Name.{the_type}
use Rattle.engine_events.specs.Names.{same_name, is_listed}
use Rattle.engine_events.specs.declared.event.Event.{Event}
use Rattle.engine_events.specs.declared.event.Kind.{Kind}
use Rattle.engine_events.specs.declared.event.Kind.TheVariants.{Enter, Exit}
use Rattle.engine_events.specs.declared.event.Name.{Name}
use Rattle.engine_events.specs.declared.event.Name.TheVariants as n
use Rattle.definition_inline.specs.CharacterReference.{Names}
use Rattle.definition_page.specs.Page as page
use Rattle.event_check.specs.Matches.{NodeMatches, matches, KidsMatch, nothing, between, one, opt, no_opt, many, no_more, lead, no_lead}
use Rattle.event_grammar.specs.declared.slot.Between.{Between}
use Rattle.event_grammar.specs.declared.slot.Between.TheVariants.{Nothing, Spaces, Lines}
use Rattle.event_grammar.specs.declared.slot.Child.{Child}
use Rattle.event_grammar.specs.declared.slot.Child.TheVariants.{Only, As, Either, Block, StringPart, TextPart}
use Rattle.event_grammar.specs.declared.slot.Form.{Form}
use Rattle.event_grammar.specs.declared.slot.Form.TheVariants.{Ordered, Closing, OfImage, OfCall}
use Rattle.event_grammar.specs.declared.slot.Slot.{Slot}
use Rattle.event_grammar.specs.declared.slot.Slot.TheVariants.{One, Many}
use Rattle.event_grammar.specs.Grammar.{row, space_names, line_names, string_names, text_names}
use Rattle.event_grammar.specs.InGrammar.{Within, Before, node_name}
use Rattle.event_grammar.specs.SlotViews.{child_of}
use Rattle.event_grammar.specs.Slots.{has, stands_between}
use Rattle.event_grammar.specs.Trees.{Node, Nodes, Around, Nil, Cons, AreNodes, events_of, tree}
use Rattle.event_meaning.specs.Blocks.{block_of, blocks_from, blocks_of, join, start_of}
use Rattle.event_meaning.specs.Children.{text_of}
use Rattle.compile_levels.specs.Siblings.{inside}
use Rattle.compile_levels.proofs.SiblingLaw.{inside_law, split}
use Rattle.compile_written.specs.GfmFootnoteDefinition.{container_names}
use Rattle.compile_written.proofs.CheckedNodes.{checked_nodes}
use Rattle.compile_html.proofs.Tree.{tree_is}
use Rattle.markdown_outline.specs.Laws.{OutlinePageLaw, shown}
use Rattle.markdown_outline.specs.Listed.{Listed, begins_heading, headings_from, listed_at}
use Rattle.markdown_outline.specs.PageHeadings.{PageHeading, block_headings, headings_in}
use Rattle.markdown_outline.specs.Rank.{is_heading, page_heading, rank_of, said_by}

no_true : (A : Type 0) → (let b : Bool = false in b ≡ true) → A
no_true A h = absurd (cc)

and_false : (a b : Bool) → (a && b) ≡ false → a ≡ true → b ≡ false
and_false true b h e = h
and_false false b h e = no_true _ e

or_true : (a b : Bool) → (a || b) ≡ true → a ≡ false → b ≡ true
or_true true b h e = no_true _ (sym e)
or_true false b h e = h

not_true : (b : Bool) → not b ≡ true → b ≡ false
not_true true h = absurd (cc)
not_true false h = refl

not_false : (b : Bool) → not b ≡ false → b ≡ true
not_false true h = refl
not_false false h = no_true _ (sym h)

-- ---- the headings of a page, block after block

joined_headings : (bs cs : page.Blocks) → headings_in (join bs cs) ≡ headings_in bs ++ headings_in cs
joined_headings page.Nil cs = refl
joined_headings (page.Cons b bs) cs =
    ap (λ (hs : List PageHeading). block_headings b ++ hs) (joined_headings bs cs)
    ∙ sym (append_assoc (block_headings b) (headings_in bs) (headings_in cs))

-- ---- names that are no heading and hold none

abbrev is_flat : Name → Bool
is_flat name = not (is_heading name) && not (is_listed container_names name)

flat_parts : (name : Name) → is_flat name ≡ true → (is_heading name ≡ false) × (is_listed container_names name ≡ false)
flat_parts name h =
    let both = and_parts (not (is_heading name)) (not (is_listed container_names name)) h in
    (not_true (is_heading name) both.0, not_true (is_listed container_names name) both.1)

abbrev is_flat_child : Child → Bool
is_flat_child (Only a) = is_flat a
is_flat_child (As a form) = is_flat a
is_flat_child (Either a b) = is_flat a && is_flat b
is_flat_child Block = false
is_flat_child StringPart = true
is_flat_child TextPart = true

abbrev are_flat : List Slot → Bool
are_flat [] = true
are_flat (slot ∷ slots) = is_flat_child (child_of slot) && are_flat slots

flat_named : (a name : Name) → is_flat a ≡ true → same_name a name ≡ true → is_flat name ≡ true
flat_named a name h e = subst (λ (x : Name). is_flat x ≡ true) (same_true the_type tt a name e) h

either_flat : (a b : Name) (t : Bool) (name : Name) → same_name a name ≡ t → is_flat a ≡ true → is_flat b ≡ true → (t || same_name b name) ≡ true
    → is_flat name ≡ true
either_flat a b true name e p q h = flat_named a name p e
either_flat a b false name e p q h = flat_named b name q h

string_flat : (name : Name) → (is_listed string_names name && not (is_flat name)) ≡ false
string_flat n.Data = refl
string_flat name = refl

text_flat : (name : Name) → (is_listed text_names name && not (is_flat name)) ≡ false
text_flat n.Data = refl
text_flat name = refl

stays_flat : (b c : Bool) → (b && not c) ≡ false → b ≡ true → c ≡ true
stays_flat b true h e = refl
stays_flat b false h e = no_true _ (sym (and_false b true h e))

flat_child : (c : Child) → is_flat_child c ≡ true → (name : Name) → has c name ≡ true → is_flat name ≡ true
flat_child (Only a) h name e = flat_named a name h e
flat_child (As a form) h name e = flat_named a name h e
flat_child (Either a b) h name e = let both = and_parts (is_flat a) (is_flat b) h in either_flat a b (same_name a name) name refl both.0 both.1 e
flat_child Block h name e = no_true _ h
flat_child StringPart h name e = stays_flat (is_listed string_names name) (is_flat name) (string_flat name) e
flat_child TextPart h name e = stays_flat (is_listed text_names name) (is_flat name) (text_flat name) e

row_flat : (name : Name) (form : Form) → (is_listed container_names name || are_flat (row name form)) ≡ true
row_flat n.ListItem form = refl
row_flat n.ListItemPrefix Ordered = refl
row_flat n.ListItemPrefix form = refl
row_flat n.CodeFencedFence Closing = refl
row_flat n.CodeFencedFence form = refl
row_flat n.MathFlowFence Closing = refl
row_flat n.MathFlowFence form = refl
row_flat n.Label OfImage = refl
row_flat n.Label OfCall = refl
row_flat n.Label form = refl
row_flat name form = refl

flat_drop : (slots : List Slot) → are_flat slots ≡ true → are_flat (drop 1 slots) ≡ true
flat_drop [] h = refl
flat_drop (slot ∷ slots) h = (and_parts (is_flat_child (child_of slot)) (are_flat slots) h).1

-- what may stand between children anywhere
abbrev may_stand : Name → Bool
may_stand name = is_listed space_names name || is_listed line_names name

between_flat : (name : Name) → (may_stand name && not (is_flat name)) ≡ false
between_flat n.Data = refl
between_flat name = refl

or_left : (a b : Bool) → a ≡ true → (a || b) ≡ true
or_left true b h = refl
or_left false b h = no_true _ h

stands_flat : (around : Between) (name : Name) → stands_between around name ≡ true → is_flat name ≡ true
stands_flat Nothing name h = no_true _ h
stands_flat Spaces name h =
    stays_flat (may_stand name) (is_flat name) (between_flat name) (or_left (is_listed space_names name) (is_listed line_names name) h)
stands_flat Lines name h = stays_flat (may_stand name) (is_flat name) (between_flat name) h

-- ---- where the content of a container begins

abbrev starts_with : List Slot → Name → Bool
starts_with (One (Only a) ∷ slots) start = same_name a start
starts_with (One (As a form) ∷ slots) start = same_name a start
starts_with slots start = false

container_starts : (name : Name) (form : Form) → (not (is_listed container_names name) || starts_with (row name form) (start_of name)) ≡ true
container_starts n.ListItem Ordered = refl
container_starts n.ListItem form = refl
container_starts name form = refl

row_starts : (name : Name) (form : Form) → is_listed container_names name ≡ true → starts_with (row name form) (start_of name) ≡ true
row_starts name form h =
    or_true (not (is_listed container_names name)) (starts_with (row name form) (start_of name)) (container_starts name form) (ap not h)

starts_named : (a start name : Name) → same_name a start ≡ true → same_name a name ≡ true → same_name name start ≡ true
starts_named a start name s e = true_same the_type name start (sym (same_true the_type tt a name e) ∙ same_true the_type tt a start s)

-- a heading and those after it, or others
either_shown : (b : Bool) (first : Listed) (more others : List Listed) (hs : List PageHeading) → map shown more ≡ hs → map shown others ≡ hs
    → map shown (if b then first ∷ more else others) ≡ (if b then shown first ∷ hs else hs)
either_shown true first more others hs h k = ap (λ (xs : List PageHeading). shown first ∷ xs) h
either_shown false first more others hs h k = k

module _ (names : Names) (bytes : List ℕ) where
  -- ---- headings among events, and among nodes

  -- the heading that an event of this name is, with these children
  abbrev spelled_heading : Name → Nodes → PageHeading
  spelled_heading name kids = record { rank = rank_of (page_heading names bytes name kids); text = said_by (page_heading names bytes name kids) }

  abbrev own : Name → Nodes → List PageHeading
  own name kids = if is_heading name then spelled_heading name kids ∷ [] else []

  abbrev shown_from : List Event → List PageHeading
  shown_from [] = []
  shown_from (e ∷ es) = if begins_heading e.kind e.name then spelled_heading e.name (tree (inside es)) ∷ shown_from es else shown_from es

  abbrev nodes_headings : Nodes → List PageHeading
  nodes_headings Nil = []
  nodes_headings (Cons (Around enter kids exit) ns) = (own enter.name kids ++ nodes_headings kids) ++ nodes_headings ns

  from_is : (taken : List (List ℕ)) (i : ℕ) (es : List Event) → map shown (headings_from names bytes taken i es) ≡ shown_from es
  from_is taken i [] = refl
  from_is taken i (e ∷ es) =
      let first = listed_at names bytes taken i e es in
      either_shown (begins_heading e.kind e.name) first (headings_from names bytes (taken ++ first.slug ∷ []) (i + 1) es)
      (headings_from names bytes taken (i + 1) es) (shown_from es) (from_is (taken ++ first.slug ∷ []) (i + 1) es) (from_is taken (i + 1) es)

  entered : (enter : Event) (es : List Event) (kids : Nodes) → enter.kind ≡ Enter → tree (inside es) ≡ kids
      → shown_from (enter ∷ es) ≡ own enter.name kids ++ shown_from es
  entered enter es kids k t =
      ap (λ (kind : Kind). if begins_heading kind enter.name then spelled_heading enter.name (tree (inside es)) ∷ shown_from es else shown_from es) k
      ∙ ap (λ (ns : Nodes). if is_heading enter.name then spelled_heading enter.name ns ∷ shown_from es else shown_from es) t
      ∙ by_case (is_heading enter.name)
    where
      by_case : (b : Bool) → (if b then spelled_heading enter.name kids ∷ shown_from es else shown_from es)
          ≡ (if b then spelled_heading enter.name kids ∷ [] else []) ++ shown_from es
      by_case true = refl
      by_case false = refl

  exited : (exit : Event) (es : List Event) → exit.kind ≡ Exit → shown_from (exit ∷ es) ≡ shown_from es
  exited exit es k =
      ap (λ (kind : Kind). if begins_heading kind exit.name then spelled_heading exit.name (tree (inside es)) ∷ shown_from es else shown_from es) k

  events_law : (ns : Nodes) → AreNodes ns → (rest : List Event) → shown_from (events_of ns ++ rest) ≡ nodes_headings ns ++ shown_from rest
  events_law Nil k rest = refl
  events_law (Cons (Around enter kids exit) ns) k rest =
      let later = events_of ns ++ rest in
      let tail = events_of kids ++ exit ∷ later in
      let here = own enter.name kids in
      let mine = nodes_headings kids in
      let others = nodes_headings ns in
      ap (λ (es : List Event). shown_from (enter ∷ es)) (split kids ns exit rest)
      ∙ entered enter tail kids k.0.0 (ap tree (inside_law kids k.0.3 exit later k.0.1) ∙ tree_is kids k.0.3)
      ∙ ap (λ (hs : List PageHeading). here ++ hs)
      (events_law kids k.0.3 (exit ∷ later) ∙ ap (λ (hs : List PageHeading). mine ++ hs) (exited exit later k.0.1 ∙ events_law ns k.1 rest))
      ∙ sym (append_assoc here mine (others ++ shown_from rest))
      ∙ sym (append_assoc (here ++ mine) others (shown_from rest))

  -- ---- headings of nodes, and of the blocks that these spell

  abbrev node_headings : Node → List PageHeading
  node_headings (Around enter kids exit) = own enter.name kids ++ nodes_headings kids

  abbrev node_blocks : Bool → Node → page.Blocks
  node_blocks top (Around enter kids exit) =
      block_of names bytes top enter.name (text_of bytes (Around enter kids exit)) kids (blocks_from names bytes (start_of enter.name) kids)

  block_by : (top : Bool) (name : Name) (text : List ℕ) (kids : Nodes) (inner : page.Blocks)
      → headings_in (block_of names bytes top name text kids inner)
      ≡ own name kids ++ (if is_listed container_names name then headings_in inner else [])
  block_by top n.BlockQuote text kids inner = append-nil (headings_in inner)
  block_by top n.ListItem text kids inner = append-nil (headings_in inner)
  block_by top n.GfmFootnoteDefinition text kids inner = append-nil (headings_in inner)
  block_by top n.ListUnordered text kids inner = append-nil (headings_in inner)
  block_by top n.ListOrdered text kids inner = append-nil (headings_in inner)
  block_by top name text kids inner = refl

  record NodeIs (node : Node) : Type 0 where
    on_page : (top : Bool) → headings_in (node_blocks top node) ≡ node_headings node
    flat : is_flat (node_name node) ≡ true → node_headings node ≡ []

  record KidsAre (slots : List Slot) (ns : Nodes) : Type 0 where
    on_page : (top : Bool) → headings_in (blocks_of names bytes top ns) ≡ nodes_headings ns
    flat : are_flat slots ≡ true → nodes_headings ns ≡ []
    from : (start : Name) → starts_with slots start ≡ true → headings_in (blocks_from names bytes start ns) ≡ nodes_headings ns

  -- a node and those after it
  cons_page : (node : Node) (ns : Nodes) → NodeIs node → ((top : Bool) → headings_in (blocks_of names bytes top ns) ≡ nodes_headings ns) → (top : Bool)
      → headings_in (blocks_of names bytes top (Cons node ns)) ≡ nodes_headings (Cons node ns)
  cons_page (Around enter kids exit) ns h k top =
      joined_headings (node_blocks top (Around enter kids exit)) (blocks_of names bytes top ns)
      ∙ ap₂ (λ (xs ys : List PageHeading). xs ++ ys) (h.on_page top) (k top)

  cons_flat : (node : Node) (ns : Nodes) → node_headings node ≡ [] → nodes_headings ns ≡ [] → nodes_headings (Cons node ns) ≡ []
  cons_flat (Around enter kids exit) ns h k = ap₂ (λ (xs ys : List PageHeading). xs ++ ys) h k

  from_here : (node : Node) (ns : Nodes) (start : Name) → same_name (node_name node) start ≡ true → NodeIs node
      → ((top : Bool) → headings_in (blocks_of names bytes top ns) ≡ nodes_headings ns)
      → headings_in (blocks_from names bytes start (Cons node ns)) ≡ nodes_headings (Cons node ns)
  from_here (Around enter kids exit) ns start e h k =
      let here = join (node_blocks false (Around enter kids exit)) (blocks_of names bytes false ns) in
      ap headings_in (cond-true (same_name enter.name start) here (blocks_from names bytes start ns) e)
      ∙ cons_page (Around enter kids exit) ns h k false

  from_later : (node : Node) (ns : Nodes) (start : Name) → same_name (node_name node) start ≡ false → node_headings node ≡ []
      → headings_in (blocks_from names bytes start ns) ≡ nodes_headings ns
      → headings_in (blocks_from names bytes start (Cons node ns)) ≡ nodes_headings (Cons node ns)
  from_later (Around enter kids exit) ns start e h k =
      let here = join (node_blocks false (Around enter kids exit)) (blocks_of names bytes false ns) in
      ap headings_in (cond-false (same_name enter.name start) here (blocks_from names bytes start ns) e)
      ∙ k
      ∙ sym (ap (λ (hs : List PageHeading). hs ++ nodes_headings ns) h)

  from_between : (node : Node) (ns : Nodes) (start : Name) (b : Bool) → same_name (node_name node) start ≡ b → NodeIs node → is_flat (node_name node) ≡ true
      → ((top : Bool) → headings_in (blocks_of names bytes top ns) ≡ nodes_headings ns)
      → headings_in (blocks_from names bytes start ns) ≡ nodes_headings ns
      → headings_in (blocks_from names bytes start (Cons node ns)) ≡ nodes_headings (Cons node ns)
  from_between node ns start true e h f p k = from_here node ns start e h p
  from_between node ns start false e h f p k = from_later node ns start e (h.flat f) k

  from_one : (c : Child) (slots : List Slot) (node : Node) (ns : Nodes) → has c (node_name node) ≡ true → NodeIs node
      → ((top : Bool) → headings_in (blocks_of names bytes top ns) ≡ nodes_headings ns) → (start : Name) → starts_with (One c ∷ slots) start ≡ true
      → headings_in (blocks_from names bytes start (Cons node ns)) ≡ nodes_headings (Cons node ns)
  from_one (Only a) slots node ns e h p start s = from_here node ns start (starts_named a start (node_name node) s e) h p
  from_one (As a form) slots node ns e h p start s = from_here node ns start (starts_named a start (node_name node) s e) h p
  from_one c slots node ns e h p start s = no_true _ s

  -- what is inside of a node
  content : (name : Name) (kids : Nodes) (inner : page.Blocks) (b : Bool) → is_listed container_names name ≡ b
      → (is_listed container_names name ≡ true → headings_in inner ≡ nodes_headings kids) → (is_listed container_names name ≡ false → nodes_headings kids ≡ [])
      → (if is_listed container_names name then headings_in inner else []) ≡ nodes_headings kids
  content name kids inner true e h k = cond-true (is_listed container_names name) (headings_in inner) [] e ∙ h e
  content name kids inner false e h k = cond-false (is_listed container_names name) (headings_in inner) [] e ∙ sym (k e)

  mutual
    node_is : (x : Within) (form : Form) (b : Before) (node : Node) → NodeMatches names bytes x form b node → NodeIs node
    node_is x form b node (matches {enter = enter} {exit = exit} {kids = kids} p q r s t u v w) =
        let inner = kids_are _ _ (row enter.name form) kids w in
        let name = enter.name in
        let inside_it = blocks_from names bytes (start_of name) kids in
        let flat_kids : is_listed container_names name ≡ false → nodes_headings kids ≡ [] =
        λ e. inner.flat (or_true (is_listed container_names name) (are_flat (row name form)) (row_flat name form) e) in
        record {
          on_page = λ top.
              block_by top name (text_of bytes (Around enter kids exit)) kids inside_it
              ∙ ap (λ (hs : List PageHeading). own name kids ++ hs)
              (content name kids inside_it (is_listed container_names name) refl (λ e. inner.from (start_of name) (row_starts name form e)) flat_kids);
          flat = λ h.
              let parts = flat_parts name h in
              ap₂ (λ (xs ys : List PageHeading). xs ++ ys) (cond-false (is_heading name) (spelled_heading name kids ∷ []) [] parts.0) (flat_kids parts.1);
        }

    kids_are : (x : Within) (b : Before) (slots : List Slot) (ns : Nodes) → KidsMatch names bytes x b slots ns → KidsAre slots ns
    kids_are x b slots ns nothing = record { on_page = λ top. refl; flat = λ h. refl; from = λ start h. no_true _ h }
    kids_are x b slots ns (between {node = node} {ns = others} h s f k) =
        let mine = node_is _ _ _ node f in
        let rest = kids_are _ _ slots others k in
        let is = stands_flat x.around (node_name node) s in
        record {
          on_page = cons_page node others mine rest.on_page;
          flat = λ e. cons_flat node others (mine.flat is) (rest.flat e);
          from = λ start e. from_between node others start (same_name (node_name node) start) refl mine is rest.on_page (rest.from start e);
        }
    kids_are x b slots ns (one {c = c} {slots = later} {node = node} {ns = others} h f k) =
        let mine = node_is _ _ _ node f in
        let rest = kids_are _ _ later others k in
        record {
          on_page = cons_page node others mine rest.on_page;
          flat = λ e.
              let both = and_parts (is_flat_child c) (are_flat later) e in
              cons_flat node others (mine.flat (flat_child c both.0 (node_name node) h)) (rest.flat both.1);
          from = from_one c later node others h mine rest.on_page;
        }
    kids_are x b slots ns (opt {c = c} {slots = later} {node = node} {ns = others} h f k) =
        let mine = node_is _ _ _ node f in
        let rest = kids_are _ _ later others k in
        record {
          on_page = cons_page node others mine rest.on_page;
          flat = λ e.
              let both = and_parts (is_flat_child c) (are_flat later) e in
              cons_flat node others (mine.flat (flat_child c both.0 (node_name node) h)) (rest.flat both.1);
          from = λ start e. no_true _ e;
        }
    kids_are x b slots ns (no_opt {c = c} {slots = later} {ns = others} k) =
        let rest = kids_are _ _ later others k in
        record {
          on_page = rest.on_page;
          flat = λ e. rest.flat (and_parts (is_flat_child c) (are_flat later) e).1;
          from = λ start e. no_true _ e;
        }
    kids_are x b slots ns (many {c = c} {slots = later} {node = node} {ns = others} h f k) =
        let mine = node_is _ _ _ node f in
        let rest = kids_are _ _ (Many c ∷ later) others k in
        record {
          on_page = cons_page node others mine rest.on_page;
          flat = λ e.
              let both = and_parts (is_flat_child c) (are_flat later) e in
              cons_flat node others (mine.flat (flat_child c both.0 (node_name node) h)) (rest.flat e);
          from = λ start e. no_true _ e;
        }
    kids_are x b slots ns (no_more {c = c} {slots = later} {ns = others} k) =
        let rest = kids_are _ _ later others k in
        record {
          on_page = rest.on_page;
          flat = λ e. rest.flat (and_parts (is_flat_child c) (are_flat later) e).1;
          from = λ start e. no_true _ e;
        }
    kids_are x b slots ns (lead {c = c} {slots = later} {node = node} {ns = others} h f k) =
        let mine = node_is _ _ _ node f in
        let rest = kids_are _ _ later others k in
        record {
          on_page = cons_page node others mine rest.on_page;
          flat = λ e.
              let both = and_parts (is_flat_child c) (are_flat later) e in
              cons_flat node others (mine.flat (flat_child c both.0 (node_name node) h)) (rest.flat both.1);
          from = λ start e. no_true _ e;
        }
    kids_are x b slots ns (no_lead {c = c} {slots = later} {ns = others} k) =
        let rest = kids_are _ _ (drop 1 later) others k in
        record {
          on_page = rest.on_page;
          flat = λ e. rest.flat (flat_drop later (and_parts (is_flat_child c) (are_flat later) e).1);
          from = λ start e. no_true _ e;
        }

pub outline_page_law : OutlinePageLaw
outline_page_law names bytes events m =
    let ns = m.nodes in
    let are = checked_nodes names bytes events m in
    let same : tree events ≡ ns = ap tree m.nested ∙ tree_is ns are in
    from_is names bytes [] 0 events
    ∙ ap (shown_from names bytes) (m.nested ∙ sym (append-nil (events_of ns)))
    ∙ events_law names bytes ns are []
    ∙ append-nil (nodes_headings names bytes ns)
    ∙ sym ((kids_are names bytes _ _ _ ns m.match_).on_page true)
    ∙ ap (λ (it : Nodes). headings_in (blocks_of names bytes true it)) (sym same)
