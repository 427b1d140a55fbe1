-- Nodes that are written are joined, and their text.
use Rattle.parse_output.proofs.Prelude.{and-false, and_parts, append, append-nil-list, AreInOrder, Around, between, byte_nodes, Cons, cut, data_nodes, Draft}
use Rattle.parse_output.proofs.Prelude.{drafted, drafted_all, drafts_end, edge, End, end_at, end_columns, end_in, enter_at, Event, exit_at, exited_from}
use Rattle.parse_output.proofs.Prelude.{first_end, Follows, forest, forest_in, growth, Growth, if◌then◌else◌, IsInOrder, Name, Nil, Nodes, Output, Part}
use Rattle.parse_output.proofs.Prelude.{same_end, same_name, sub_self, take-add, void_nodes, Writes, ◌==◌}
use Rattle.std.specs.Prelude.{◌&&◌}
use Rattle.std.proofs.Common.{◌≡◌, ◌≤◌, ◌+◌, ◌-◌, ℕ, zero, suc, Bool, true, false, List, [], ◌∷◌, ◌++◌, refl, sym, ap, ap₂, subst, ◌∙◌, take, drop, arith}
use Rattle.std.proofs.Common.{append_assoc, inl, inr}
use Rattle.std.proofs.lemmas.Bool.{cases_Bool, cond-true, cond-false}
use Rattle.std.proofs.lemmas.List.{drop-drop}
use Rattle.engine_events.specs.declared.event.Name.TheVariants as n
use Rattle.event_grammar.specs.Points.{spot, spot_of}
use Rattle.event_grammar.specs.References.{label_text, node_text, nodes_text}
use Rattle.event_grammar.specs.declared.spot.Spot.{Spot}
use Rattle.parse_output.specs.declared.draft.Draft.TheVariants as draft
use Rattle.parse_output.specs.Forest.{bytes_from, is_nil, one}
use Rattle.parse_output.specs.Joined.{AreJoined, end_edge, end_spot, flat_text, text_between}
use Rattle.parse_output.proofs.Between.{between_both, edges, edges_follow}
use Rattle.parse_output.proofs.Apart.{test_eq}

-- ---- joined nodes

pub joined_none : (a b : ℕ) → a ≡ b → AreJoined a Nil b
joined_none a b same = same

pub joined_both : (a b c : ℕ) (ns ms : Nodes) → AreJoined a ns b → AreJoined b ms c → AreJoined a (append ns ms) c
joined_both a b c Nil ms first second = subst (λ (x : ℕ). AreJoined x ms c) (sym first) second
joined_both a b c (Cons (Around enter kids exit) ns) ms first second =
    (first.0, first.1, joined_both (edge (spot_of exit)) b c ns ms first.2 second)

-- they go onward
pub joined_onward : (a b : ℕ) (ns : Nodes) → AreJoined a ns b → a ≤ b
joined_onward a b Nil are = omega (arith, are)
joined_onward a b (Cons (Around enter kids exit) ns) are = omega (arith, are.1, joined_onward (edge (spot_of exit)) b ns are.2)

-- the end of the first nodes is the start of the others
pub joined_rest : (a b c : ℕ) (ns ms : Nodes) → AreJoined a ns b → AreJoined a (append ns ms) c → AreJoined b ms c
joined_rest a b c Nil ms first all = subst (λ (x : ℕ). AreJoined x ms c) first all
joined_rest a b c (Cons (Around enter kids exit) ns) ms first all = joined_rest (edge (spot_of exit)) b c ns ms first.2 all.2

joined_bytes : (i count : ℕ) → AreJoined i (byte_nodes i count) (i + count)
joined_bytes i zero = omega arith
joined_bytes i (suc count) =
    let all : (i + 1) + count ≡ i + suc count = omega arith in
    (refl, omega arith, subst (AreJoined (i + 1) (byte_nodes (i + 1) count)) all (joined_bytes (i + 1) count))

joined_from : (enter exit : Event) → edge (spot_of enter) ≤ edge (spot_of exit) → AreJoined (edge (spot_of enter)) (bytes_from enter exit) (edge (spot_of exit))
joined_from enter exit onward =
    let a = edge (spot_of enter) in
    let b = edge (spot_of exit) in
    let all : a + (b - a) ≡ b = omega (arith, onward) in
    subst (AreJoined a (byte_nodes a (b - a))) all (joined_bytes a (b - a))

joined_if : (t : Bool) (enter exit : Event) (kids : Nodes) → edge (spot_of enter) ≤ edge (spot_of exit)
    → AreJoined (edge (spot_of enter)) (if t then bytes_from enter exit else one (Around enter kids exit)) (edge (spot_of exit))
joined_if true enter exit kids onward = joined_from enter exit onward
joined_if false enter exit kids onward = (refl, onward, refl)

-- a node, or its bytes
pub joined_cut : (enter exit : Event) (kids : Nodes) → edge (spot_of enter) ≤ edge (spot_of exit)
    → AreJoined (edge (spot_of enter)) (cut (Around enter kids exit)) (edge (spot_of exit))
joined_cut enter exit kids onward = joined_if (same_name enter.name n.Data && is_nil kids) enter exit kids onward

-- ---- what drafts say is joined

-- where the innermost event that is open begins
abbrev base : List Part → ℕ
base [] = 0
base (part ∷ parts) = edge (spot_of part.enter)

ArePartsJoined : List Part → Type 0
ArePartsJoined [] = Unit {0}
ArePartsJoined (part ∷ parts) = AreJoined (base parts) part.before (edge (spot_of part.enter)) × ArePartsJoined parts

record IsJoined (g : Growth) (to : ℕ) : Type 0 where
  kids : AreJoined (base g.outer) g.kids to
  outer : ArePartsJoined g.outer

exited_joined : (kids : Nodes) (exit : Event) (parts : List Part) → AreJoined (base parts) kids (edge (spot_of exit)) → ArePartsJoined parts
    → IsJoined (exited_from kids exit parts) (edge (spot_of exit))
unfolding ArePartsJoined
exited_joined kids exit [] are outer = record { kids = are; outer = tt }
exited_joined kids exit (part ∷ parts) are outer = record {
  kids =
      joined_both (base parts) (edge (spot_of part.enter)) (edge (spot_of exit)) part.before (cut (Around part.enter kids exit)) outer.0
      (joined_cut part.enter exit kids (joined_onward (edge (spot_of part.enter)) (edge (spot_of exit)) kids are));
  outer = outer.1;
}

drafts_joined : (text : List ℕ) (from : End) (g : Growth) (ds : List Draft) → AreInOrder text from ds → IsJoined g (end_edge text from)
    → IsJoined (drafted_all text from g ds) (end_edge text (drafts_end from ds))
unfolding ArePartsJoined
drafts_joined text from g [] are is = is
drafts_joined text from g (draft.Enter name ∷ ds) are is =
    drafts_joined text from (drafted text from g (draft.Enter name)) ds are.1 (record { kids = refl; outer = (is.kids, is.outer) })
drafts_joined text from g (draft.Exit name ∷ ds) are is =
    drafts_joined text from (drafted text from g (draft.Exit name)) ds are.1 (exited_joined g.kids (exit_at text name from) g.outer is.kids is.outer)
drafts_joined text from g (draft.Void name owed index ∷ ds) are is =
    let to = end_at index owed in
    drafts_joined text to (drafted text from g (draft.Void name owed index)) ds are.1 (record {
      kids =
          joined_both (base g.outer) (end_edge text from) (end_edge text to) g.kids (cut (Around (enter_at text name from) Nil (exit_at text name to)))
          is.kids (joined_cut (enter_at text name from) (exit_at text name to) Nil (edges_follow text from to are.0.follows));
      outer = is.outer;
    })

forest_joined : (text : List ℕ) (ds : List Draft) → AreInOrder text first_end ds → IsJoined (forest text ds) (end_edge text (drafts_end first_end ds))
unfolding ArePartsJoined
forest_joined text ds are = drafts_joined text first_end (growth Nil []) ds are (record { kids = refl; outer = tt })

nodes_joined : (g h : Growth) (ns : Nodes) (a b : ℕ) → IsJoined g a → IsJoined h b → h ≡ growth (append g.kids ns) g.outer → AreJoined a ns b
nodes_joined g h ns a b first second is =
    let all = subst (λ (x : Growth). IsJoined x b) is second in
    joined_rest (base g.outer) a b g.kids ns first.kids all.kids

-- the nodes that are written are joined, from where the output was to where it is
pub writes_joined : {A : Type 0} (text : List ℕ) (old new : Output A) (ns : Nodes) → IsInOrder text old → Writes text old new ns
    → AreJoined (end_edge text (end_in old)) ns (end_edge text (end_in new))
writes_joined text old new ns order writes =
    subst (λ (x : End). AreJoined (end_edge text x) ns (end_edge text (end_in new))) old.ends (
    subst (λ (x : End). AreJoined (end_edge text (drafts_end first_end old.drafts.items)) ns (end_edge text x)) new.ends (
    nodes_joined (forest_in text old) (forest_in text new) ns _ _ (forest_joined text old.drafts.items order.1) (forest_joined text new.drafts.items writes.order.1)
    writes.forest
    ))

-- ---- the text of joined nodes

-- nothing is between a place and itself
pub none_between : (text : List ℕ) (a b : ℕ) → a ≡ b → between a b text ≡ []
none_between text a b same = ap (λ (k : ℕ). take (k - a) (drop a text)) (sym same) ∙ ap (λ (k : ℕ). take k (drop a text)) (sub_self a)

-- the text between two spots is that of the nodes, one after another
pub joined_text : (text : List ℕ) (from to : Spot) (ns : Nodes) → AreJoined (edge from) ns (edge to) → nodes_text text from ns to ≡ flat_text text ns
joined_text text from to Nil are = none_between text (edge from) (edge to) are
joined_text text from to (Cons (Around enter kids exit) ns) are =
    ap₂ (λ (xs ys : List ℕ). xs ++ (node_text text (Around enter kids exit) ++ ys)) (none_between text (edge from) (edge (spot_of enter)) are.0)
    (joined_text text (spot_of exit) to ns are.2)

pub flat_both : (text : List ℕ) (ns ms : Nodes) → flat_text text (append ns ms) ≡ flat_text text ns ++ flat_text text ms
flat_both text Nil ms = refl
flat_both text (Cons node ns) ms =
    ap (λ (xs : List ℕ). node_text text node ++ xs) (flat_both text ns ms) ∙ sym (append_assoc (node_text text node) (flat_text text ns) (flat_text text ms))

-- a node of no quote's prefix has the text of its children
flat_one : (text : List ℕ) (enter exit : Event) (kids : Nodes) → same_name enter.name n.BlockQuotePrefix ≡ false
    → AreJoined (edge (spot_of enter)) kids (edge (spot_of exit)) → flat_text text (one (Around enter kids exit)) ≡ flat_text text kids
flat_one text enter exit kids other are =
    append-nil-list (node_text text (Around enter kids exit))
    ∙ ap (λ (t : Bool). if t then [] else nodes_text text (spot_of enter) kids (spot_of exit)) other
    ∙ joined_text text (spot_of enter) (spot_of exit) kids are

flat_bytes : (text : List ℕ) (i count : ℕ) → flat_text text (byte_nodes i count) ≡ between i (i + count) text
flat_bytes text i zero = sym (none_between text i (i + 0) (omega arith))
flat_bytes text i (suc count) =
    let all : (i + 1) + count ≡ i + suc count = omega arith in
    ap (λ (xs : List ℕ). between i (i + 1) text ++ xs) (flat_bytes text (i + 1) count ∙ ap (λ (k : ℕ). between (i + 1) k text) all)
    ∙ between_both text i (i + 1) (i + suc count) (omega arith) (omega arith)

flat_from : (text : List ℕ) (enter exit : Event) → edge (spot_of enter) ≤ edge (spot_of exit)
    → flat_text text (bytes_from enter exit) ≡ between (edge (spot_of enter)) (edge (spot_of exit)) text
flat_from text enter exit onward =
    let a = edge (spot_of enter) in
    let b = edge (spot_of exit) in
    let all : a + (b - a) ≡ b = omega (arith, onward) in
    flat_bytes text a (b - a) ∙ ap (λ (k : ℕ). between a k text) all

-- data has the bytes between its ends
pub flat_data : (text : List ℕ) (from to : End) → Follows text from to → flat_text text (data_nodes text from to) ≡ text_between text from to
flat_data text from to follows = flat_from text (enter_at text n.Data from) (exit_at text n.Data to) (edges_follow text from to follows)

flat_if : (t : Bool) (text : List ℕ) (enter exit : Event) → edge (spot_of enter) ≤ edge (spot_of exit) → same_name enter.name n.BlockQuotePrefix ≡ false
    → flat_text text (if t then bytes_from enter exit else one (Around enter Nil exit)) ≡ between (edge (spot_of enter)) (edge (spot_of exit)) text
flat_if true text enter exit onward other = flat_from text enter exit onward
flat_if false text enter exit onward other =
    append-nil-list (node_text text (Around enter Nil exit))
    ∙ ap (λ (t : Bool). if t then [] else nodes_text text (spot_of enter) Nil (spot_of exit)) other

-- so has a node that holds no other
pub flat_void : (text : List ℕ) (name : Name) (from to : End) → same_name name n.BlockQuotePrefix ≡ false → Follows text from to
    → flat_text text (void_nodes text name from to) ≡ text_between text from to
flat_void text name from to other follows =
    let enter = enter_at text name from in
    let exit = exit_at text name to in
    let onward = edges_follow text from to follows in
    let full = flat_if (same_name name n.Data && true) text enter exit onward other in
    elim (cases_Bool (same_end to from)) [
      | inl same ↦
          let parts = and_parts (to.index == from.index) (to.owed == from.owed) same in
          let edges_same : end_edge text from ≡ end_edge text to =
          ap₂ (λ (i o : ℕ). edge (spot i (end_columns text (end_at i o)))) (sym (test_eq _ _ parts.0)) (sym (test_eq _ _ parts.1)) in
          ap (flat_text text) (cond-true (same_end to from) _ _ same) ∙ sym (none_between text (end_edge text from) (end_edge text to) edges_same)
      | inr apart ↦ ap (flat_text text) (cond-false (same_end to from) _ _ apart) ∙ full
    ]

-- the text of a node of another name is that of the nodes in it
pub flat_around : (text : List ℕ) (name : Name) (from to : End) (kids : Nodes) → same_name name n.BlockQuotePrefix ≡ false
    → AreJoined (end_edge text from) kids (end_edge text to)
    → flat_text text (cut (Around (enter_at text name from) kids (exit_at text name to))) ≡ flat_text text kids
flat_around text name from to Nil other are =
    flat_if (same_name name n.Data && true) text (enter_at text name from) (exit_at text name to) (omega (arith, are)) other
    ∙ none_between text (end_edge text from) (end_edge text to) are
flat_around text name from to (Cons node ns) other are =
    let enter = enter_at text name from in
    let exit = exit_at text name to in
    ap (λ (t : Bool). flat_text text (if t then bytes_from enter exit else one (Around enter (Cons node ns) exit))) (and-false (same_name name n.Data))
    ∙ flat_one text enter exit (Cons node ns) other are

-- the label that a node has
pub flat_label : (text : List ℕ) (name : Name) (from to : End) (kids : Nodes) → AreJoined (end_edge text from) kids (end_edge text to)
    → label_text text (Around (enter_at text name from) kids (exit_at text name to)) ≡ flat_text text kids
flat_label text name from to kids are = joined_text text (end_spot text from) (end_spot text to) kids are
