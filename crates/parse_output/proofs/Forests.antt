-- What drafts say of a text, and more drafts; and their events as a tree.
use Rattle.parse_output.proofs.Prelude.{and_from, and_parts, append, append-nil-list, AreInOrder, Around, byte_nodes, Cons, cut, data_nodes, Draft, draft_events}
use Rattle.parse_output.proofs.Prelude.{drafted, drafted_all, drafts_end, edge, End, end_at, end_columns, end_place, enter_at, Event, exit_at, exited}
use Rattle.parse_output.proofs.Prelude.{exited_from, first_end, fold, fold-append, Follows, forest, GoesOnward, growth, Growth, if◌then◌else◌, IsData, Name}
use Rattle.parse_output.proofs.Prelude.{Nil, Nodes, Part, Place, same_end, sub_self, take_more, void_nodes, with_nodes, ◌==◌}
use Rattle.std.proofs.Common.{◌≡◌, ◌≤◌, ◌<◌, ◌+◌, ◌-◌, ℕ, zero, suc, List, [], ◌∷◌, ◌++◌, refl, sym, ap, subst, ◌∙◌, get_or, set, take, length, map, arith, ap₂, append_assoc, Bool, true, false}
use Rattle.engine_events.specs.declared.event.Name.TheVariants as n
use Rattle.event_grammar.specs.Points.{spot}
use Rattle.event_grammar.specs.Trees.{Node, grown, followed_by, tree}
use Rattle.event_grammar.specs.Trees.{closed}
use Rattle.parse_output.specs.declared.draft.Draft.TheVariants as draft
use Rattle.std.specs.Prelude.{not, ◌&&◌}
use Rattle.std.proofs.Common.{inl, inr}
use Rattle.std.proofs.lemmas.Bool.{cases_Bool}
use Rattle.std.proofs.lemmas.List.Folds.{list_all-append}
use Rattle.std.proofs.lemmas.Str.{IsUtf8-append, IsUtf8-from_is_utf8, is_utf8-from_IsUtf8}
use Rattle.std.specs.List.{list_all}
use Rattle.std.specs.Str.{is_utf8}
use Rattle.definition_text.specs.Lines.{ends_line}
use Rattle.event_tokens.specs.Tokens.{is_token, token_form}
use Rattle.event_tokens.proofs.Nothing.{nothing_fits}
use Rattle.parse_output.specs.Joined.{end_edge, text_between}
use Rattle.parse_output.specs.Voids.{IsSizedToken, IsToken}
use Rattle.parse_output.proofs.Apart.{apart_longer, sized, test_eq}
use Rattle.parse_output.proofs.Between.{edges, text_on}
use Rattle.parse_output.proofs.Ends.{follows_both, spot_index}
use Rattle.parse_output.proofs.Joined.{none_between}
use Rattle.parse_output.specs.Forest.{byte_node, node_bytewise, bytewise, draft_end, drafts_events}
use Rattle.parse_output.specs.Forest.{entered}

-- ---- nodes

-- two pieces of data are one
data_tokens : (bs cs : List ℕ) → is_token n.Data bs ≡ true → is_token n.Data cs ≡ true → is_token n.Data (bs ++ cs) ≡ true
data_tokens bs cs first second =
    let dark = λ (b : ℕ). not (ends_line b) in
    let one = and_parts (is_utf8 bs) (list_all dark bs) first in
    let other = and_parts (is_utf8 cs) (list_all dark cs) second in
    let all : list_all dark (bs ++ cs) ≡ true = list_all-append dark bs cs ∙ ap₂ (λ a b. a && b) one.1 other.1 in
    and_from (is_utf8 (bs ++ cs)) (list_all dark (bs ++ cs))
    (is_utf8-from_IsUtf8 (bs ++ cs) (IsUtf8-append bs cs (IsUtf8-from_is_utf8 bs one.0) (IsUtf8-from_is_utf8 cs other.0))) all

-- a token has bytes of its name, whatever its size, if no bytes are such
token_fits : (text : List ℕ) (name : Name) (from to : End) → is_token name [] ≡ true → IsToken text name from to
    → is_token name (text_between text from to) ≡ true
token_fits text name from to none token =
    elim (cases_Bool (same_end to from)) [
      | inl same ↦
          let parts = and_parts (to.index == from.index) (to.owed == from.owed) same in
          let edges_same : end_edge text from ≡ end_edge text to =
          ap₂ (λ (i o : ℕ). edge (spot i (end_columns text (end_at i o)))) (sym (test_eq _ _ parts.0)) (sym (test_eq _ _ parts.1)) in
          ap (is_token name) (none_between text (end_edge text from) (end_edge text to) edges_same) ∙ none
      | inr apart ↦ token.bytes apart
    ]

pub append-nil : (ns : Nodes) → append ns Nil ≡ ns
append-nil Nil = refl
append-nil (Cons node ns) = ap (Cons node) (append-nil ns)

pub append-assoc : (ns ms os : Nodes) → append (append ns ms) os ≡ append ns (append ms os)
append-assoc Nil ms os = refl
append-assoc (Cons node ns) ms os = ap (Cons node) (append-assoc ns ms os)

bytes_both : (i a b : ℕ) → append (byte_nodes i a) (byte_nodes (i + a) b) ≡ byte_nodes i (a + b)
bytes_both i zero b =
    let here : i + 0 ≡ i = omega arith in
    let all : b ≡ 0 + b = omega arith in
    ap (λ k. byte_nodes k b) here ∙ ap (byte_nodes i) all
bytes_both i (suc a) b =
    let later : i + suc a ≡ (i + 1) + a = omega arith in
    let all : suc (a + b) ≡ suc a + b = omega arith in
    ap (λ k. append (byte_nodes i (suc a)) (byte_nodes k b)) later
    ∙ ap (Cons (byte_node i)) (bytes_both (i + 1) a b)
    ∙ ap (byte_nodes i) all

bytes_on : (a b c : ℕ) → a ≤ b → b ≤ c → append (byte_nodes a (b - a)) (byte_nodes b (c - b)) ≡ byte_nodes a (c - a)
bytes_on a b c first second =
    let later : b ≡ a + (b - a) = omega (arith, first) in
    let all : (b - a) + (c - b) ≡ c - a = omega (arith, first, second) in
    ap (λ k. append (byte_nodes a (b - a)) (byte_nodes k (c - b))) later ∙ bytes_both a (b - a) (c - b) ∙ ap (byte_nodes a) all

data_on : (text : List ℕ) (a b c : End) → Follows text a b → Follows text b c → append (data_nodes text a b) (data_nodes text b c) ≡ data_nodes text a c
data_on text a b c first second =
    bytes_on _ _ _
    (edges a.index (end_columns text a) b.index (end_columns text b) first.forward first.columns)
    (edges b.index (end_columns text b) c.index (end_columns text c) second.forward second.columns)

-- ---- one more draft

end_more_at : (from : End) (ds : List Draft) (d : Draft) → drafts_end from (ds ++ d ∷ []) ≡ draft_end (drafts_end from ds) d
end_more_at from [] d = refl
end_more_at from (x ∷ ds) d = end_more_at (draft_end from x) ds d

pub end_more : (ds : List Draft) (d : Draft) → drafts_end first_end (ds ++ d ∷ []) ≡ draft_end (drafts_end first_end ds) d
end_more ds d = end_more_at first_end ds d

order_more_at : (text : List ℕ) (from : End) (ds : List Draft) (d : Draft) → AreInOrder text from ds → GoesOnward text (drafts_end from ds) d
    → AreInOrder text from (ds ++ d ∷ [])
order_more_at text from [] d are goes = (goes, tt)
order_more_at text from (x ∷ ds) d are goes = (are.0, order_more_at text (draft_end from x) ds d are.1 goes)

pub order_more : (text : List ℕ) (ds : List Draft) (d : Draft) → AreInOrder text first_end ds → GoesOnward text (drafts_end first_end ds) d
    → AreInOrder text first_end (ds ++ d ∷ [])
order_more text ds d are goes = order_more_at text first_end ds d are goes

forest_more_at : (text : List ℕ) (from : End) (g : Growth) (ds : List Draft) (d : Draft)
    → drafted_all text from g (ds ++ d ∷ []) ≡ drafted text (drafts_end from ds) (drafted_all text from g ds) d
forest_more_at text from g [] d = refl
forest_more_at text from g (x ∷ ds) d = forest_more_at text (draft_end from x) (drafted text from g x) ds d

pub forest_more : (text : List ℕ) (ds : List Draft) (d : Draft) → forest text (ds ++ d ∷ []) ≡ drafted text (drafts_end first_end ds) (forest text ds) d
forest_more text ds d = forest_more_at text first_end (growth Nil []) ds d

-- ---- data in the place of the data that ends here

-- data, and more of it
data_longer : (text : List ℕ) {name : Name} (a b c : End) → name ≡ n.Data → IsSizedToken text name a b → IsToken text n.Data b c
    → IsSizedToken text n.Data a c
data_longer text a b c is first second =
    let held = subst (λ x. IsSizedToken text x a b) is first in
    record {
      follows = follows_both text a b c held.follows second.follows;
      bytes =
          ap (is_token n.Data) (sym (text_on text a b c held.follows second.follows))
          ∙ data_tokens (text_between text a b) (text_between text b c) held.bytes
          (token_fits text n.Data b c (nothing_fits (token_form n.Data) refl) second);
      apart = apart_longer text a b c held.follows second.follows held.apart;
    }

data_grown : (text : List ℕ) (from : End) (g : Growth) (name : Name) (owed index : ℕ) (end : End) → name ≡ n.Data → Follows text from (end_at index owed)
    → Follows text (end_at index owed) end
    → drafted text from g (draft.Void n.Data end.owed end.index) ≡ with_nodes (drafted text from g (draft.Void name owed index)) (data_nodes text (end_at index owed) end)
data_grown text from g name owed index end is first second =
    sym (ap (λ x. with_nodes (drafted text from g (draft.Void x owed index)) (data_nodes text (end_at index owed) end)) is
    ∙ ap (λ ns. growth ns g.outer)
    (append-assoc g.kids (data_nodes text from (end_at index owed)) (data_nodes text (end_at index owed) end)
    ∙ ap (append g.kids) (data_on text from (end_at index owed) end first second)))

order_less_at : (text : List ℕ) (from : End) (ds : List Draft) (d : Draft) → AreInOrder text from (ds ++ d ∷ [])
    → AreInOrder text from ds × GoesOnward text (drafts_end from ds) d
order_less_at text from [] d are = (tt, are.0)
order_less_at text from (x ∷ ds) d are = let less = order_less_at text (draft_end from x) ds d are.1 in ((are.0, less.0), less.1)

-- the last of drafts, and another in its place
pub last_of : (ds : List Draft) (i : ℕ) (d : Draft) → i + 1 ≡ length ds → ds ≡ take i ds ++ get_or ds i d ∷ []
last_of [] i d is = absurd (omega (arith, is))
last_of (x ∷ []) zero d is = refl
last_of (x ∷ []) (suc i) d is = absurd (omega (arith, is))
last_of (x ∷ y ∷ ds) zero d is = absurd (omega (arith, is))
last_of (x ∷ y ∷ ds) (suc i) d is = ap (λ others. x ∷ others) (last_of (y ∷ ds) i d (omega (arith, is)))

pub last_set : (ds : List Draft) (i : ℕ) (e : Draft) → i + 1 ≡ length ds → set ds i e ≡ take i ds ++ e ∷ []
last_set [] i e is = absurd (omega (arith, is))
last_set (x ∷ []) zero e is = refl
last_set (x ∷ []) (suc i) e is = absurd (omega (arith, is))
last_set (x ∷ y ∷ ds) zero e is = absurd (omega (arith, is))
last_set (x ∷ y ∷ ds) (suc i) e is = ap (λ others. x ∷ others) (last_set (y ∷ ds) i e (omega (arith, is)))

pub record IsLonger (text : List ℕ) (ds longer : List Draft) (from end : End) : Type 0 where
  pub order : AreInOrder text first_end longer
  pub forest : forest text longer ≡ with_nodes (forest text ds) (data_nodes text from end)

longer_last : (text : List ℕ) (front : List Draft) (last : Draft) (end : End) → IsData last → AreInOrder text first_end (front ++ last ∷ [])
    → IsToken text n.Data (draft_end (drafts_end first_end front) last) end
    → IsLonger text (front ++ last ∷ []) (front ++ draft.Void n.Data end.owed end.index ∷ []) (draft_end (drafts_end first_end front) last) end
longer_last text front (draft.Enter name) end is are token = absurd is
longer_last text front (draft.Exit name) end is are token = absurd is
longer_last text front (draft.Void name owed index) end is are token =
    let less = order_less_at text first_end front (draft.Void name owed index) are in
    record {
      order = order_more text front (draft.Void n.Data end.owed end.index) less.0 (data_longer text _ (end_at index owed) end is less.1 token);
      forest =
          forest_more text front (draft.Void n.Data end.owed end.index)
          ∙ data_grown text (drafts_end first_end front) (forest text front) name owed index end is less.1.follows token.follows
          ∙ ap (λ g. with_nodes g (data_nodes text (end_at index owed) end)) (sym (forest_more text front (draft.Void name owed index)));
    }

-- data that ends where the drafts end is longer by more data
longer_here : (text : List ℕ) (ds : List Draft) (i : ℕ) (d : Draft) (end : End) → i + 1 ≡ length ds → IsData (get_or ds i d) → AreInOrder text first_end ds
    → IsToken text n.Data (drafts_end first_end ds) end → IsLonger text ds (set ds i (draft.Void n.Data end.owed end.index)) (drafts_end first_end ds) end
longer_here text ds i d end is of_data are token =
    let front = take i ds in
    let last = get_or ds i d in
    let split : ds ≡ front ++ last ∷ [] = last_of ds i d is in
    let at : drafts_end first_end ds ≡ draft_end (drafts_end first_end front) last = ap (drafts_end first_end) split ∙ end_more front last in
    let long = longer_last text front last end of_data (subst (AreInOrder text first_end) split are) (subst (λ from. IsToken text n.Data from end) at token) in
    record {
      order = subst (AreInOrder text first_end) (sym (last_set ds i (draft.Void n.Data end.owed end.index) is)) long.order;
      forest =
          ap (forest text) (last_set ds i (draft.Void n.Data end.owed end.index) is)
          ∙ long.forest
          ∙ ap₂ (λ xs from. with_nodes (forest text xs) (data_nodes text from end)) (sym split) (sym at);
    }

pub longer : (text : List ℕ) (ds : List Draft) (i : ℕ) (d : Draft) (from end : End) → i + 1 ≡ length ds → IsData (get_or ds i d)
    → drafts_end first_end ds ≡ from → AreInOrder text first_end ds → IsToken text n.Data from end
    → IsLonger text ds (set ds i (draft.Void n.Data end.owed end.index)) from end
longer text ds i d from end is of_data at are token =
    subst (λ here. IsLonger text ds (set ds i (draft.Void n.Data end.owed end.index)) here end) at
    (longer_here text ds i d end is of_data are (subst (λ here. IsToken text n.Data here end) (sym at) token))

pub end_set : (ds : List Draft) (i : ℕ) (end : End) → i + 1 ≡ length ds → drafts_end first_end (set ds i (draft.Void n.Data end.owed end.index)) ≡ end
end_set ds i end is =
    ap (drafts_end first_end) (last_set ds i (draft.Void n.Data end.owed end.index) is) ∙ end_more (take i ds) (draft.Void n.Data end.owed end.index)

-- ---- the events of drafts as a tree

bytewise_followed : (ns : Nodes) (node : Node) → bytewise (followed_by ns node) ≡ append (bytewise ns) (node_bytewise node)
bytewise_followed Nil node = append-nil (node_bytewise node)
bytewise_followed (Cons x ns) node = ap (append (node_bytewise x)) (bytewise_followed ns node) ∙ sym (append-assoc (node_bytewise x) (bytewise ns) (node_bytewise node))

part_bytewise : Part → Part
part_bytewise part = record { enter = part.enter; before = bytewise part.before }

growth_bytewise : Growth → Growth
growth_bytewise g = growth (bytewise g.kids) (map part_bytewise g.outer)

exited_bytewise : (kids : Nodes) (exit : Event) (parts : List Part)
    → growth_bytewise (closed (growth kids parts) exit parts) ≡ exited_from (bytewise kids) exit (map part_bytewise parts)
unfolding growth_bytewise part_bytewise
exited_bytewise kids exit [] = refl
exited_bytewise kids exit (part ∷ parts) =
    ap (λ ns. growth ns (map part_bytewise parts)) (bytewise_followed part.before (Around part.enter kids exit))

abbrev then_event : Growth → Event → Growth
then_event g e = grown g e.kind e

draft_bytewise : (text : List ℕ) (from : End) (g : Growth) (d : Draft)
    → growth_bytewise (fold then_event g (draft_events text from d)) ≡ drafted text from (growth_bytewise g) d
unfolding growth_bytewise part_bytewise
draft_bytewise text from g (draft.Enter name) = refl
draft_bytewise text from g (draft.Exit name) = exited_bytewise g.kids (exit_at text name from) g.outer
draft_bytewise text from g (draft.Void name owed index) =
    exited_bytewise Nil (exit_at text name (end_at index owed)) (record { enter = enter_at text name from; before = g.kids } ∷ g.outer)

drafts_bytewise : (text : List ℕ) (from : End) (g : Growth) (ds : List Draft)
    → growth_bytewise (fold then_event g (drafts_events text from ds)) ≡ drafted_all text from (growth_bytewise g) ds
drafts_bytewise text from g [] = refl
drafts_bytewise text from g (d ∷ ds) =
    ap growth_bytewise (fold-append then_event g (draft_events text from d) (drafts_events text (draft_end from d) ds))
    ∙ drafts_bytewise text (draft_end from d) (fold then_event g (draft_events text from d)) ds
    ∙ ap (λ h. drafted_all text (draft_end from d) h ds) (draft_bytewise text from g d)

pub tree_bytewise : (text : List ℕ) (ds : List Draft) (es : List Event) → es ≡ drafts_events text first_end ds → bytewise (tree es) ≡ (forest text ds).kids
unfolding growth_bytewise
tree_bytewise text ds es is = ap (λ x. bytewise (tree x)) is ∙ ap (λ g. g.kids) (drafts_bytewise text first_end (growth Nil []) ds)

-- ---- one more draft of each kind

pub entered_end : (ds : List Draft) (name : Name) (end : End) → drafts_end first_end ds ≡ end → drafts_end first_end (ds ++ draft.Enter name ∷ []) ≡ end
entered_end ds name end at = end_more ds (draft.Enter name) ∙ at

pub exited_end : (ds : List Draft) (name : Name) (end : End) → drafts_end first_end ds ≡ end → drafts_end first_end (ds ++ draft.Exit name ∷ []) ≡ end
exited_end ds name end at = end_more ds (draft.Exit name) ∙ at

pub void_end : (ds : List Draft) (d : Draft) (name : Name) (end : End) → d ≡ draft.Void name end.owed end.index → drafts_end first_end (ds ++ d ∷ []) ≡ end
void_end ds d name end is = end_more ds d ∙ ap (draft_end (drafts_end first_end ds)) is

pub entered_forest : (text : List ℕ) (ds : List Draft) (name : Name) (end : End) → drafts_end first_end ds ≡ end
    → forest text (ds ++ draft.Enter name ∷ []) ≡ entered (forest text ds) (enter_at text name end)
entered_forest text ds name end at = forest_more text ds (draft.Enter name) ∙ ap (λ from. entered (forest text ds) (enter_at text name from)) at

pub exited_forest : (text : List ℕ) (ds : List Draft) (name : Name) (end : End) → drafts_end first_end ds ≡ end
    → forest text (ds ++ draft.Exit name ∷ []) ≡ exited (forest text ds) (exit_at text name end)
exited_forest text ds name end at = forest_more text ds (draft.Exit name) ∙ ap (λ from. exited (forest text ds) (exit_at text name from)) at

pub void_forest : (text : List ℕ) (ds : List Draft) (name : Name) (from to : End) → drafts_end first_end ds ≡ from → same_end to from ≡ false
    → forest text (ds ++ draft.Void name to.owed to.index ∷ []) ≡ with_nodes (forest text ds) (void_nodes text name from to)
void_forest text ds name from to at other =
    forest_more text ds (draft.Void name to.owed to.index)
    ∙ ap (λ at. with_nodes (forest text ds) (cut (Around (enter_at text name at) Nil (exit_at text name to)))) at
    ∙ ap (λ same. with_nodes (forest text ds) (if same then Nil else cut (Around (enter_at text name from) Nil (exit_at text name to)))) (sym other)

pub void_order : (text : List ℕ) (ds : List Draft) (name : Name) (from to : End) → drafts_end first_end ds ≡ from → same_end to from ≡ false
    → AreInOrder text first_end ds → IsToken text name from to → AreInOrder text first_end (ds ++ draft.Void name to.owed to.index ∷ [])
void_order text ds name from to at other are token =
    order_more text ds (draft.Void name to.owed to.index) are (subst (λ x. IsSizedToken text name x to) (sym at) (sized text ds from to at other are token))

-- nothing is written
pub same_forest : (text : List ℕ) (ds : List Draft) (name : Name) (from to : End) → same_end to from ≡ true
    → forest text ds ≡ with_nodes (forest text ds) (void_nodes text name from to)
same_forest text ds name from to same =
    let g = forest text ds in
    ap (λ ns. growth ns g.outer) (sym (append-nil g.kids))
    ∙ ap (λ same. with_nodes g (if same then Nil else cut (Around (enter_at text name from) Nil (exit_at text name to)))) (sym same)

-- data that is one token
no_data : (text : List ℕ) (a b : End) → a.index ≡ b.index → a.owed ≡ b.owed → Nil ≡ data_nodes text a b
no_data text a b index owed =
    let at : ℕ = edge (spot a.index (end_columns text a)) in
    let none : edge (spot b.index (end_columns text b)) - at ≡ 0 =
    ap₂ (λ i o. edge (spot i (end_columns text (end_at i o))) - at) (sym index) (sym owed) ∙ sub_self at in
    ap (byte_nodes at) (sym none)

ends_apart : (text : List ℕ) (a b : End) (same : Bool) → same_end b a ≡ same
    → (if same then Nil else data_nodes text a b) ≡ data_nodes text a b
ends_apart text a b true is =
    let parts = and_parts (b.index == a.index) (b.owed == a.owed) is in
    no_data text a b (sym (test_eq _ _ parts.0)) (sym (test_eq _ _ parts.1))
ends_apart text a b false is = refl

pub data_forest : (text : List ℕ) (from to : End) → void_nodes text n.Data from to ≡ data_nodes text from to
data_forest text from to = ends_apart text from to (same_end to from) refl

-- ---- drafts, one after another

end_within_at : (text : List ℕ) (from : End) (ds : List Draft) → from.index ≤ length text → AreInOrder text from ds → (drafts_end from ds).index ≤ length text
end_within_at text from [] within are = within
end_within_at text from (draft.Enter name ∷ ds) within are = end_within_at text from ds within are.1
end_within_at text from (draft.Exit name ∷ ds) within are = end_within_at text from ds within are.1
end_within_at text from (draft.Void name owed index ∷ ds) within are = end_within_at text (end_at index owed) ds are.0.follows.within are.1

order_at : (text : List ℕ) (from : End) (ds : List Draft) (i : ℕ) (d : Draft) → i < length ds → AreInOrder text from ds
    → AreInOrder text from (take i ds) × GoesOnward text (drafts_end from (take i ds)) (get_or ds i d)
order_at text from [] i d inside are = absurd (omega (arith, inside))
order_at text from (x ∷ ds) zero d inside are = (tt, are.0)
order_at text from (x ∷ ds) (suc i) d inside are =
    let later = order_at text (draft_end from x) ds i d (omega (arith, inside)) are.1 in ((are.0, later.0), later.1)

events_more_at : (text : List ℕ) (from : End) (ds : List Draft) (d : Draft)
    → drafts_events text from (ds ++ d ∷ []) ≡ drafts_events text from ds ++ draft_events text (drafts_end from ds) d
events_more_at text from [] d = append-nil-list (draft_events text from d)
events_more_at text from (x ∷ ds) d =
    ap (λ es. draft_events text from x ++ es) (events_more_at text (draft_end from x) ds d)
    ∙ sym (append_assoc (draft_events text from x) (drafts_events text (draft_end from x) ds) (draft_events text (drafts_end (draft_end from x) ds) d))

-- what is read of drafts, up to a place
pub record IsRead (text : List ℕ) (ds : List Draft) (p : Place) (es : List Event) : Type 0 where
  pub end : p ≡ end_place text (drafts_end first_end ds)
  pub each : es ≡ drafts_events text first_end ds

pub one_read : (text : List ℕ) (ds : List Draft) (i : ℕ) (d : Draft) (p q : Place) (es fs : List Event) → i < length ds → AreInOrder text first_end ds
    → IsRead text (take i ds) p es
    → ((from : End) → GoesOnward text from (get_or ds i d) → p ≡ end_place text from → q ≡ end_place text (draft_end from (get_or ds i d)))
    → ((from : End) → from.index ≤ length text → GoesOnward text from (get_or ds i d) → p ≡ end_place text from
    → fs ≡ es ++ draft_events text from (get_or ds i d))
    → IsRead text (take (i + 1) ds) q fs
one_read text ds i d p q es fs inside are is ends each =
    let from = drafts_end first_end (take i ds) in
    let x = get_or ds i d in
    let both = order_at text first_end ds i d inside are in
    let more : take (i + 1) ds ≡ take i ds ++ x ∷ [] = take_more ds i d inside in
    record {
      end = ends from both.1 is.end ∙ ap (end_place text) (sym (ap (drafts_end first_end) more ∙ end_more (take i ds) x));
      each =
          each from (end_within_at text first_end (take i ds) (omega arith) both.0) both.1 is.end
          ∙ ap (λ before. before ++ draft_events text from x) is.each
          ∙ sym (ap (drafts_events text first_end) more ∙ events_more_at text first_end (take i ds) x);
    }

take_all : (ds : List Draft) (i : ℕ) → length ds ≤ i → take i ds ≡ ds
take_all [] zero all = refl
take_all [] (suc i) all = refl
take_all (x ∷ ds) zero all = absurd (omega (arith, all))
take_all (x ∷ ds) (suc i) all = ap (λ others. x ∷ others) (take_all ds i (omega (arith, all)))

pub all_read : (text : List ℕ) (ds : List Draft) (i : ℕ) (p : Place) (es : List Event) → length ds ≤ i → IsRead text (take i ds) p es → IsRead text ds p es
all_read text ds i p es all is = subst (λ xs. IsRead text xs p es) (take_all ds i all) is

-- the events of all drafts, where these end with the text
pub all_told : (text : List ℕ) (ds : List Draft) (p : Place) → p ≡ end_place text (drafts_end first_end ds) → (drafts_end first_end ds).index ≡ length text
    → p.spot.index ≡ length text
all_told text ds p at reaches =
    ap (λ q. q.spot.index) at ∙ spot_index text (drafts_end first_end ds).index (omega (arith, reaches)) ∙ reaches
