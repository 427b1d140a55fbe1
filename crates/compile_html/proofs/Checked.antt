-- What the grammar says of the nodes of a list: they are sound, lists are in containers, and numbers have digits.
use Rattle.std.proofs.Common.{◌≡◌, ℕ, Bool, true, false, not, ◌&&◌, ◌||◌, if◌then◌else◌, List, [], ◌∷◌, ◌++◌, Option, None, Some, refl, sym, ap, ◌∙◌, subst, drop}
use Rattle.compile_html.proofs.Prelude.{and_parts, are_digits, Around, checked_nodes, Cons, container_names, Event, HasNumber, HaveNumbers, HoldsLists}
use Rattle.compile_html.proofs.Prelude.{is_list, is_listed, is_loose_list, lists_before, loose_lists, MatchesGrammar, Name, Nil, Node, node_lists, node_name}
use Rattle.compile_html.proofs.Prelude.{Nodes, PlacesFit, same_name, spot, start_of, text_of, the_type}
use denote.Enum.Bare.{same_true, true_same}
use Rattle.engine_events.specs.declared.event.Name.TheVariants as n
use Rattle.compile_raw.specs.Sound.{HasRank, HaveRanks, chunk_names, HaveNoChunk, HasHtml, HaveHtml, AreSound}
use Rattle.event_check.specs.Matches.{NodeMatches, matches, KidsMatch, nothing, between, one, opt, no_opt, many, no_more, lead, no_lead}
use Rattle.event_grammar.specs.declared.slot.Between.{Between}
use Rattle.event_grammar.specs.declared.slot.Between.TheVariants.{Nothing, Spaces, Lines}
use Rattle.event_grammar.specs.declared.slot.Child.{Child}
use Rattle.event_grammar.specs.declared.slot.Child.TheVariants.{Only, As, Either, Block, StringPart, TextPart}
use Rattle.event_grammar.specs.declared.slot.Form.{Form}
use Rattle.event_grammar.specs.declared.slot.Form.TheVariants.{Plain, Ordered, Closing, Opening, OfImage, OfCall}
use Rattle.event_grammar.specs.declared.slot.Slot.{Slot}
use Rattle.event_grammar.specs.declared.slot.Slot.TheVariants.{One, Opt, Lead, Many}
use Rattle.event_grammar.specs.Facts.{is_fact, is_ending}
use Rattle.event_grammar.specs.Grammar.{row, space_names, line_names, string_names, text_names}
use Rattle.event_grammar.specs.InGrammar.{Within, inside, Before, before}
use Rattle.event_grammar.specs.SlotViews.{child_of}
use Rattle.event_grammar.specs.Slots.{has, stands_between}
use Rattle.compile_rows.specs.Texts.{HasEndings, HaveEndings}
use Rattle.compile_written.proofs.CheckedNodes.{checked_texts}
use Rattle.compile_html.specs.Containers.{HoldLists}
use Rattle.compile_safe_page.proofs.Facts as facts

-- ---- which children a row has

-- children whose names are such
abbrev AllNamed : (Name → Type 0) → Nodes → Type 0
AllNamed P Nil = Unit {0}
AllNamed P (Cons n ns) = P (node_name n) × AllNamed P ns

abbrev Allow : (Name → Type 0) → List Slot → Type 0
Allow P [] = Unit {0}
Allow P (slot ∷ slots) = ((name : Name) → has (child_of slot) name ≡ true → P name) × Allow P slots

allow_drop : (P : Name → Type 0) (slots : List Slot) → Allow P slots → Allow P (drop 1 slots)
allow_drop P [] h = tt
allow_drop P (slot ∷ slots) h = h.1

or_left : (a b : Bool) → a ≡ true → (a || b) ≡ true
or_left true b h = refl
or_left false b h = absurd (cc)

-- what may stand between children anywhere
abbrev may_stand : Name → Bool
may_stand name = is_listed space_names name || is_listed line_names name

stands_somewhere : (around : Between) (name : Name) → stands_between around name ≡ true → may_stand name ≡ true
stands_somewhere Nothing name h = absurd (cc)
stands_somewhere Spaces name h = or_left (is_listed space_names name) (is_listed line_names name) h
stands_somewhere Lines name h = h

module _ (names : List ℕ → Option (List ℕ)) (bytes : List ℕ) (P : Name → Type 0) (between_has : (name : Name) → may_stand name ≡ true → P name) where
  all_named : (x : Within) (b : Before) (slots : List Slot) (ns : Nodes) → Allow P slots → KidsMatch names bytes x b slots ns → AllNamed P ns
  all_named x b slots ns a nothing = tt
  all_named x b slots ns a (between {node = node} {ns = others} h s f k) =
      (between_has (node_name node) (stands_somewhere x.around (node_name node) s), all_named _ _ _ others a k)
  all_named x b slots ns a (one {node = node} {ns = others} h f k) = (a.0 (node_name node) h, all_named _ _ _ others a.1 k)
  all_named x b slots ns a (opt {node = node} {ns = others} h f k) = (a.0 (node_name node) h, all_named _ _ _ others a.1 k)
  all_named x b slots ns a (no_opt {ns = others} k) = all_named _ _ _ others a.1 k
  all_named x b slots ns a (many {node = node} {ns = others} h f k) = (a.0 (node_name node) h, all_named _ _ _ others a k)
  all_named x b slots ns a (no_more {ns = others} k) = all_named _ _ _ others a.1 k
  all_named x b slots ns a (lead {node = node} {ns = others} h f k) = (a.0 (node_name node) h, all_named _ _ _ others a.1 k)
  all_named x b slots ns a (no_lead {slots = rest} {ns = others} k) = all_named _ _ _ others (allow_drop P rest a.1) k

-- ---- HTML holds no chunk

abbrev IsNoChunk : Name → Type 0
IsNoChunk name = is_listed chunk_names name ≡ false

no_true : (A : Type 0) → (let b : Bool = false in b ≡ true) → A
no_true A h = absurd (cc)

and_false : (a b : Bool) → (a && b) ≡ false → a ≡ true → b ≡ false
and_false true b h e = h
and_false false b h e = no_true _ e

or_true : (a b : Bool) → (a || b) ≡ true → a ≡ false → b ≡ true
or_true true b h e = no_true _ (sym e)
or_true false b h e = h

between_chunk : (name : Name) → (may_stand name && is_listed chunk_names name) ≡ false
between_chunk n.Data = refl
between_chunk name = refl

no_chunk_between : (name : Name) → may_stand name ≡ true → IsNoChunk name
no_chunk_between name h = and_false (may_stand name) (is_listed chunk_names name) (between_chunk name) h

no_chunk_data : (name : Name) → same_name n.HtmlFlowData name ≡ true → IsNoChunk name
no_chunk_data name h = subst IsNoChunk (same_true the_type tt n.HtmlFlowData name h) refl

no_chunks : (ns : Nodes) → AllNamed IsNoChunk ns → HaveNoChunk ns
no_chunks Nil h = tt
no_chunks (Cons n ns) h = (h.0, no_chunks ns h.1)

html_by : (names : List ℕ → Option (List ℕ)) (bytes : List ℕ) (x : Within) (b : Before) (name : Name) (form : Form) (kids : Nodes) → n.HtmlFlow ≡ name
    → KidsMatch names bytes x b (row name form) kids → HaveNoChunk kids
html_by names bytes x b name form kids e k =
    let Q : Name → Type 0 = λ a. KidsMatch names bytes x b (row a form) kids in
    no_chunks kids (all_named names bytes IsNoChunk no_chunk_between x b (row n.HtmlFlow form) kids (no_chunk_data, tt) (subst Q (sym e) k))

-- ---- no containers are in what is none

abbrev IsPlain : Name → Type 0
IsPlain name = is_listed container_names name ≡ false

between_container : (name : Name) → (may_stand name && is_listed container_names name) ≡ false
between_container n.Data = refl
between_container name = refl

plain_between : (name : Name) → may_stand name ≡ true → IsPlain name
plain_between name h = and_false (may_stand name) (is_listed container_names name) (between_container name) h

abbrev is_plain_child : Child → Bool
is_plain_child (Only a) = not (is_listed container_names a)
is_plain_child (As a form) = not (is_listed container_names a)
is_plain_child (Either a b) = not (is_listed container_names a) && not (is_listed container_names b)
is_plain_child Block = false
is_plain_child StringPart = true
is_plain_child TextPart = true

abbrev are_plain : List Slot → Bool
are_plain [] = true
are_plain (slot ∷ slots) = is_plain_child (child_of slot) && are_plain slots

not_true : (b : Bool) → not b ≡ true → b ≡ false
not_true true h = absurd (cc)
not_true false h = refl

plain_named : (a name : Name) → not (is_listed container_names a) ≡ true → same_name a name ≡ true → IsPlain name
plain_named a name h e = subst IsPlain (same_true the_type tt a name e) (not_true (is_listed container_names a) h)

string_container : (name : Name) → (is_listed string_names name && is_listed container_names name) ≡ false
string_container n.Data = refl
string_container name = refl

text_container : (name : Name) → (is_listed text_names name && is_listed container_names name) ≡ false
text_container n.Data = refl
text_container name = refl

either_by : (a b : Name) (t : Bool) (name : Name) → same_name a name ≡ t → not (is_listed container_names a) ≡ true → not (is_listed container_names b) ≡ true
    → (t || same_name b name) ≡ true → IsPlain name
either_by a b true name e p q h = plain_named a name p e
either_by a b false name e p q h = plain_named b name q h

plain_child : (c : Child) → is_plain_child c ≡ true → (name : Name) → has c name ≡ true → IsPlain name
plain_child (Only a) h name e = plain_named a name h e
plain_child (As a form) h name e = plain_named a name h e
plain_child (Either a b) h name e =
    let both = and_parts (not (is_listed container_names a)) (not (is_listed container_names b)) h in
    either_by a b (same_name a name) name refl both.0 both.1 e
plain_child Block h name e = no_true _ h
plain_child StringPart h name e = and_false (is_listed string_names name) (is_listed container_names name) (string_container name) e
plain_child TextPart h name e = and_false (is_listed text_names name) (is_listed container_names name) (text_container name) e

plain_slots : (slots : List Slot) → are_plain slots ≡ true → Allow IsPlain slots
plain_slots [] h = tt
plain_slots (slot ∷ slots) h =
    let both = and_parts (is_plain_child (child_of slot)) (are_plain slots) h in
    (plain_child (child_of slot) both.0, plain_slots slots both.1)

row_plain : (name : Name) (form : Form) → (is_listed container_names name || are_plain (row name form)) ≡ true
row_plain n.ListItem form = refl
row_plain n.ListItemPrefix Ordered = refl
row_plain n.ListItemPrefix form = refl
row_plain n.CodeFencedFence Closing = refl
row_plain n.CodeFencedFence form = refl
row_plain n.MathFlowFence Closing = refl
row_plain n.MathFlowFence form = refl
row_plain n.Label OfImage = refl
row_plain n.Label OfCall = refl
row_plain n.Label form = refl
row_plain name form = refl

plain_row : (name : Name) (form : Form) → IsPlain name → are_plain (row name form) ≡ true
plain_row name form h = or_true (is_listed container_names name) (are_plain (row name form)) (row_plain name form) h

list_container : (name : Name) → (not (is_listed container_names name) && is_list name) ≡ false
list_container n.Data = refl
list_container name = refl

no_list : (name : Name) → IsPlain name → is_list name ≡ false
no_list name h = and_false (not (is_listed container_names name)) (is_list name) (list_container name) (ap not h)

module _ (bytes : List ℕ) where
  plain_lists : (node : Node) → IsPlain (node_name node) → HoldsLists bytes node → node_lists bytes node ≡ []
  plain_lists (Around enter kids exit) p h =
      ap (λ (t : Bool). if t then is_loose_list bytes true kids ∷ loose_lists bytes kids else loose_lists bytes kids) (no_list enter.name p) ∙ h.0 p

  all_plain_lists : (ns : Nodes) → AllNamed IsPlain ns → HoldLists bytes ns → loose_lists bytes ns ≡ []
  all_plain_lists Nil p h = refl
  all_plain_lists (Cons node ns) p h =
      ap (λ (ls : List Bool). ls ++ loose_lists bytes ns) (plain_lists node p.0 h.0) ∙ all_plain_lists ns p.1 h.1

-- ---- the content of a container begins with its first child, but for what may stand between

abbrev starts_with : List Slot → Name → Bool
starts_with (One (Only a) ∷ slots) start = same_name a start
starts_with (One (As a form) ∷ slots) start = same_name a start
starts_with slots start = false

container_starts : (name : Name) (form : Form) → (not (is_listed container_names name) || starts_with (row name form) (start_of name)) ≡ true
container_starts n.ListItem Ordered = refl
container_starts n.ListItem form = refl
container_starts name form = refl

row_starts : (name : Name) (form : Form) → is_listed container_names name ≡ true → starts_with (row name form) (start_of name) ≡ true
row_starts name form h =
    or_true (not (is_listed container_names name)) (starts_with (row name form) (start_of name)) (container_starts name form) (ap not h)

if_first : (b : Bool) (ls : List Bool) → b ≡ true → (if b then [] else ls) ≡ []
if_first true ls h = refl
if_first false ls h = absurd (cc)

if_later : (b : Bool) (ls ms : List Bool) → ls ≡ [] → ms ≡ [] → (if b then [] else ls ++ ms) ≡ []
if_later true ls ms h k = refl
if_later false ls ms h k = ap (λ (l : List Bool). l ++ ms) h ∙ k

starts_named : (a start name : Name) → same_name a start ≡ true → same_name a name ≡ true → same_name name start ≡ true
starts_named a start name s e =
    true_same the_type name start (sym (same_true the_type tt a name e) ∙ same_true the_type tt a start s)

module _ (names : List ℕ → Option (List ℕ)) (bytes : List ℕ) (start : Name) (c : Child) (named : (name : Name) → has c name ≡ true → same_name name start ≡ true)
  where
    none_before : (x : Within) (b : Before) (slots : List Slot) (ns : Nodes) → KidsMatch names bytes x b (One c ∷ slots) ns → HoldLists bytes ns
        → lists_before bytes start ns ≡ []
    none_before x b slots ns (one {node = node} {ns = others} h f k) l =
        if_first (same_name (node_name node) start) (node_lists bytes node ++ lists_before bytes start others) (named (node_name node) h)
    none_before x b slots ns (between {node = node} {ns = others} h s f k) l =
        if_later (same_name (node_name node) start) (node_lists bytes node) (lists_before bytes start others)
        (plain_lists bytes node (plain_between (node_name node) (stands_somewhere x.around (node_name node) s)) l.0)
        (none_before x b slots others k l.1)

before_by : (names : List ℕ → Option (List ℕ)) (bytes : List ℕ) (start : Name) (x : Within) (b : Before) (slots : List Slot) (ns : Nodes)
    → starts_with slots start ≡ true → KidsMatch names bytes x b slots ns → HoldLists bytes ns → lists_before bytes start ns ≡ []
before_by names bytes start x b (One (Only a) ∷ slots) ns s k l =
    none_before names bytes start (Only a) (λ name e. starts_named a start name s e) x b slots ns k l
before_by names bytes start x b (One (As a form) ∷ slots) ns s k l =
    none_before names bytes start (As a form) (λ name e. starts_named a start name s e) x b slots ns k l
before_by names bytes start x b slots ns s k l = no_true _ s

-- ---- all of these

record NodeFacts (bytes : List ℕ) (node : Node) : Type 0 where
  ending : HasEndings bytes node
  html : HasHtml node
  lists : HoldsLists bytes node
  number : HasNumber bytes node

record KidsFacts (bytes : List ℕ) (ns : Nodes) : Type 0 where
  endings : HaveEndings bytes ns
  html : HaveHtml ns
  lists : HoldLists bytes ns
  numbers : HaveNumbers bytes ns

both_facts : (bytes : List ℕ) (node : Node) (ns : Nodes) → NodeFacts bytes node → KidsFacts bytes ns → KidsFacts bytes (Cons node ns)
both_facts bytes node ns h k =
    record { endings = (h.ending, k.endings); html = (h.html, k.html); lists = (h.lists, k.lists); numbers = (h.number, k.numbers) }

no_facts : (bytes : List ℕ) → KidsFacts bytes Nil
no_facts bytes = record { endings = tt; html = tt; lists = tt; numbers = tt }

module _ (names : List ℕ → Option (List ℕ)) (bytes : List ℕ) where
  named_fact : (name own : Name) (form : Form) (sibling : Option Name) (text : List ℕ) → same_name name own ≡ true
      → is_fact names name form sibling text ≡ true → is_fact names own form sibling text ≡ true
  named_fact name own form sibling text e h =
      let P : Name → Type 0 = λ a. is_fact names a form sibling text ≡ true in subst P (same_true the_type tt name own e) h

  mutual
    node_facts : (x : Within) (form : Form) (b : Before) (node : Node) → NodeMatches names bytes x form b node → NodeFacts bytes node
    node_facts x form b node (matches {enter = enter} {exit = exit} {kids = kids} p q r s t u v w) =
        let inner = kids_facts _ _ _ kids w in
        let text = text_of bytes (Around enter kids exit) in
        record {
          ending = (λ e. named_fact enter.name n.LineEnding form b.sibling text e v, inner.endings);
          html = (λ e. html_by names bytes _ _ enter.name form kids (sym (same_true the_type tt enter.name n.HtmlFlow e)) w, inner.html);
          lists = (
            λ e. all_plain_lists bytes kids
                (all_named names bytes IsPlain plain_between _ _ (row enter.name form) kids (plain_slots (row enter.name form) (plain_row enter.name form e)) w) inner.lists,
            λ e. before_by names bytes (start_of enter.name) _ _ (row enter.name form) kids (row_starts enter.name form e) w inner.lists,
            inner.lists,
          );
          number = (λ e. named_fact enter.name n.ListItemValue form b.sibling text e v, inner.numbers);
        }

    kids_facts : (x : Within) (b : Before) (slots : List Slot) (ns : Nodes) → KidsMatch names bytes x b slots ns → KidsFacts bytes ns
    kids_facts x b slots ns nothing = no_facts bytes
    kids_facts x b slots ns (between {node = node} {ns = others} h s f k) = both_facts bytes node others (node_facts _ _ _ node f) (kids_facts _ _ _ others k)
    kids_facts x b slots ns (one {node = node} {ns = others} h f k) = both_facts bytes node others (node_facts _ _ _ node f) (kids_facts _ _ _ others k)
    kids_facts x b slots ns (opt {node = node} {ns = others} h f k) = both_facts bytes node others (node_facts _ _ _ node f) (kids_facts _ _ _ others k)
    kids_facts x b slots ns (no_opt {ns = others} k) = kids_facts _ _ _ others k
    kids_facts x b slots ns (many {node = node} {ns = others} h f k) = both_facts bytes node others (node_facts _ _ _ node f) (kids_facts _ _ _ others k)
    kids_facts x b slots ns (no_more {ns = others} k) = kids_facts _ _ _ others k
    kids_facts x b slots ns (lead {node = node} {ns = others} h f k) = both_facts bytes node others (node_facts _ _ _ node f) (kids_facts _ _ _ others k)
    kids_facts x b slots ns (no_lead {ns = others} k) = kids_facts _ _ _ others k

  mutual
    rank_of : (node : Node) → facts.IsSound bytes node → HasRank bytes node
    rank_of (Around enter kids exit) h =
        let P : Name → Type 0 = λ a. facts.RankFact bytes a kids in
        (λ e. subst P (same_true the_type tt enter.name n.HeadingAtx e) h.1, ranks_of kids h.2)

    ranks_of : (ns : Nodes) → facts.AreSound bytes ns → HaveRanks bytes ns
    ranks_of Nil h = tt
    ranks_of (Cons node ns) h = (rank_of node h.0, ranks_of ns h.1)

  -- The nodes of a list in the grammar are sound.
  pub checked_sound : (events : List Event) (m : MatchesGrammar names bytes events) → AreSound bytes m.nodes
  checked_sound events m =
      let own = kids_facts _ _ _ m.nodes m.match_ in
      record {
        nodes = checked_nodes names bytes events m;
        texts = checked_texts names bytes events m;
        endings = own.endings;
        ranks = ranks_of m.nodes (facts.are_sound names bytes _ _ _ m.nodes m.match_);
        html = own.html;
        places = (spot 0 0, subst (PlacesFit bytes (spot 0 0)) m.nested m.places);
      }

  -- Lists of a list in the grammar are in containers alone.
  pub checked_lists : (events : List Event) (m : MatchesGrammar names bytes events) → HoldLists bytes m.nodes
  checked_lists events m = (kids_facts _ _ _ m.nodes m.match_).lists

  -- The numbers of its items are digits.
  pub checked_numbers : (events : List Event) (m : MatchesGrammar names bytes events) → HaveNumbers bytes m.nodes
  checked_numbers events m = (kids_facts _ _ _ m.nodes m.match_).numbers
