-- What is written of prefixes spells nothing.
use Rattle.std.proofs.Common.{ℕ, List, [], ◌++◌, None, inl, inr, refl, sym, subst, ◌≡◌, ◌∙◌, Bool, true, false, ap, ap₂, eq-eqb, ◌&&◌, ◌||◌}
use Rattle.parse_lines.proofs.Prelude.{end_edge, none_between}
use Rattle.parse_lines.proofs.Prelude.{append, Around, cases_Bool, cond-false, cond-true, Cons, End, end_in, enter_at, Enters, exit_at, Exits, flat_both}
use Rattle.parse_lines.proofs.Prelude.{flat_text, flat_void, Follows, is_white, IsInOrder, IsQuotePrefix, list_all, Name, named, named_in, Nil, Node}
use Rattle.parse_lines.proofs.Prelude.{node_name, Nodes, one, or_parts, Output, same_end, same_name, text_between, void_nodes, Writes, writes_around}
use Rattle.parse_lines.proofs.Prelude.{writes_both, writes_none, WritesQuiet, ◌==◌}
use Rattle.std.specs.Option.{option_or}
use Rattle.engine_events.specs.Names.{is_listed}
use Rattle.event_grammar.specs.InGrammar.{kids_of}
use Rattle.event_grammar.specs.References.{media_names, own, own_in}
use Rattle.engine_events.specs.declared.event.Name.TheVariants.{BlockQuoteMarker, BlockQuotePrefix, SpaceOrTab}
use Rattle.std.proofs.lemmas.List.Folds.{list_all-append}
use Rattle.std.proofs.Common.{◌<◌}
use Rattle.event_grammar.specs.declared.slot.Between.TheVariants.{Lines, Spaces}
use Rattle.event_grammar.specs.declared.slot.Form.TheVariants.{Plain}
use Rattle.event_grammar.specs.declared.slot.Slot.{Slot}
use Rattle.event_grammar.specs.Grammar.{row}
use Rattle.event_grammar.specs.Slots.{may_end, take_child, stands_between}
use Rattle.parse_slots.specs.Left.{Fill}
use Rattle.parse_slots.proofs.Steps.{fill_between, fill_both, fill_none, filled_by, filled_void}
use Rattle.parse_slots.proofs.Voids.{further_apart, void_between, void_taken}
use Rattle.parse_lines.specs.Quiet.{AreOfPrefix, AreQuiet, quiet_names}

quiet_append : (ns ms : Nodes) → AreQuiet ns → AreQuiet ms → AreQuiet (append ns ms)
quiet_append Nil ms p q = q
quiet_append (Cons node ns) ms p q = (p.0, quiet_append ns ms p.1 q)

-- nothing is written from an end to itself
pub no_void : (text : List ℕ) (name : Name) (from to : End) → from ≡ to → void_nodes text name from to ≡ Nil
no_void text name from to same =
    let index : (to.index == from.index) ≡ true = eq-eqb to.index from.index (ap (λ (e : End). e.index) (sym same)) in
    let owed : (to.owed == from.owed) ≡ true = eq-eqb to.owed from.owed (ap (λ (e : End). e.owed) (sym same)) in
    cond-true (same_end to from) _ _ (ap₂ (λ (a b : Bool). a && b) index owed)

quiet_void : (text : List ℕ) (from to : End) → AreQuiet (void_nodes text SpaceOrTab from to)
quiet_void text from to =
    elim (cases_Bool (same_end to from)) [
      | inl h ↦ subst AreQuiet (sym (cond-true (same_end to from) _ _ h)) tt
      | inr h ↦ subst AreQuiet (sym (cond-false (same_end to from) _ _ h)) (inl (refl, refl), tt)
    ]

-- what is in the prefix of a quote
pub prefix_both : (ns ms : Nodes) → AreOfPrefix ns → AreOfPrefix ms → AreOfPrefix (append ns ms)
prefix_both Nil ms p q = q
prefix_both (Cons node ns) ms p q = (p.0, prefix_both ns ms p.1 q)

pub prefix_marker : (text : List ℕ) (from to : End) → AreOfPrefix (void_nodes text BlockQuoteMarker from to)
prefix_marker text from to =
    elim (cases_Bool (same_end to from)) [
      | inl h ↦ subst AreOfPrefix (sym (cond-true (same_end to from) _ _ h)) tt
      | inr h ↦ subst AreOfPrefix (sym (cond-false (same_end to from) _ _ h)) (inl (refl, refl), tt)
    ]

pub prefix_space : (text : List ℕ) (from to : End) → AreOfPrefix (void_nodes text SpaceOrTab from to)
prefix_space text from to =
    elim (cases_Bool (same_end to from)) [
      | inl h ↦ subst AreOfPrefix (sym (cond-true (same_end to from) _ _ h)) tt
      | inr h ↦ subst AreOfPrefix (sym (cond-false (same_end to from) _ _ h)) (inr (refl, refl), tt)
    ]

-- the prefix of a quote has no text of its own
pub prefix_flat : (text : List ℕ) (node : Node) → node_name node ≡ BlockQuotePrefix → flat_text text (one node) ≡ []
prefix_flat text (Around enter kids exit) is =
    ap (λ (xs : List ℕ). xs ++ []) (cond-true (same_name enter.name BlockQuotePrefix) _ _ (ap (λ (x : Name). same_name x BlockQuotePrefix) is))

-- only white space is between a place and itself
pub white_self : (text : List ℕ) (from to : End) → from ≡ to → list_all is_white (text_between text from to) ≡ true
white_self text from to same =
    ap (λ (x : End). list_all is_white (text_between text from x)) (sym same)
    ∙ ap (list_all is_white) (none_between text (end_edge text from) (end_edge text from) refl)

module _ {A : Type 0} (text : List ℕ) where
  pub quiet_none : (o : Output A) → IsInOrder text o → WritesQuiet text o o
  quiet_none o order = record { nodes = Nil; writes = writes_none text o order; quiet = tt; white = refl }

  pub quiet_both : (a b c : Output A) → WritesQuiet text a b → WritesQuiet text b c → WritesQuiet text a c
  quiet_both a b c p q =
      record {
        nodes = append p.nodes q.nodes;
        writes = writes_both text a b c p.nodes q.nodes p.writes q.writes;
        quiet = quiet_append p.nodes q.nodes p.quiet q.quiet;
        white =
            ap (list_all is_white) (flat_both text p.nodes q.nodes) ∙ list_all-append is_white (flat_text text p.nodes) (flat_text text q.nodes)
            ∙ ap₂ (λ (a b : Bool). a && b) p.white q.white;
      }

  -- white space
  pub quiet_space : (a b : Output A) (from to : End) → Follows text from to → list_all is_white (text_between text from to) ≡ true
      → Writes text a b (void_nodes text SpaceOrTab from to) → WritesQuiet text a b
  quiet_space a b from to follows white w = record {
    nodes = void_nodes text SpaceOrTab from to;
    writes = w;
    quiet = quiet_void text from to;
    white = ap (list_all is_white) (flat_void text SpaceOrTab from to refl follows) ∙ white;
  }

  -- no node where nothing is between
  pub quiet_nothing : (a b : Output A) (from to : End) → Follows text from to → list_all is_white (text_between text from to) ≡ true
      → Writes text a b (void_nodes text SpaceOrTab from to) → (space : WritesQuiet text a b) × (from ≡ to → space.nodes ≡ Nil)
  unfolding quiet_space
  quiet_nothing a b from to follows white w = (quiet_space a b from to follows white w, no_void text SpaceOrTab from to)

  -- the prefix of a quote
  pub quote_node : (a b c d e : Output A) (ns ms : Nodes) → AreOfPrefix ns → AreOfPrefix ms → Fill Spaces (row BlockQuotePrefix Plain) (append ns ms) []
      → Enters text BlockQuotePrefix a b → Writes text b c ns → Writes text c d ms → Exits text BlockQuotePrefix d e → (first : Node) × IsQuotePrefix first × Writes text a e (one first)
  quote_node a b c d e ns ms are more fill enters first second exits = (
    Around (enter_at text BlockQuotePrefix (end_in a)) (append ns ms) (exit_at text BlockQuotePrefix (end_in d)),
    (refl, prefix_both ns ms are more, fill),
    writes_around text a b d e BlockQuotePrefix (append ns ms) enters (writes_both text b c d ns ms first second) exits,
  )

  pub quiet_prefix : (a b : Output A) (first : Node) → IsQuotePrefix first → Writes text a b (one first) → WritesQuiet text a b
  quiet_prefix a b first is w = record {
    nodes = one first;
    writes = w;
    quiet = (inr is, tt);
    white = ap (list_all is_white) (prefix_flat text first is.0);
  }

-- ---- the rows of the grammar

-- quiet nodes leave the row of what holds them as it is, where lines may end
pub quiet_fill : (slots : List Slot) (ns : Nodes) → take_child slots SpaceOrTab ≡ None → take_child slots BlockQuotePrefix ≡ None → AreQuiet ns
    → Fill Lines slots ns slots
quiet_fill slots Nil space quote are = fill_none Lines slots
quiet_fill slots (Cons node ns) space quote (inl is, are) =
    fill_both (fill_between Lines slots SpaceOrTab node is.0 space refl (filled_void Lines Plain SpaceOrTab node is.0 is.1 refl))
    (quiet_fill slots ns space quote are)
quiet_fill slots (Cons node ns) space quote (inr is, are) =
    fill_both (fill_between Lines slots BlockQuotePrefix node is.0 quote refl (filled_by Lines Plain BlockQuotePrefix [] node is.0 is.2 refl))
    (quiet_fill slots ns space quote are)

-- the ending of a line, and quiet nodes on the next one
pub ending_fill : (slots : List Slot) (name : Name) (node : Node) (quiet : Nodes) → node_name node ≡ name → kids_of node ≡ Nil → take_child slots name ≡ None
    → stands_between Lines name ≡ true → may_end (row name Plain) ≡ true → take_child slots SpaceOrTab ≡ None → take_child slots BlockQuotePrefix ≡ None
    → AreQuiet quiet → Fill Lines slots (Cons node quiet) slots
ending_fill slots name node quiet is empty takes between void space quote are =
    fill_both (fill_between Lines slots name node is takes between (filled_void Lines Plain name node is empty void)) (quiet_fill slots quiet space quote are)

-- a marker and white space fill the row of a prefix
pub prefix_fill : (text : List ℕ) (from mid to : End) → from.index < mid.index
    → Fill Spaces (row BlockQuotePrefix Plain) (append (void_nodes text BlockQuoteMarker from mid) (void_nodes text SpaceOrTab mid to)) []
prefix_fill text from mid to further =
    fill_both (void_taken Spaces (row BlockQuotePrefix Plain) BlockQuoteMarker Plain [] text from mid (further_apart from mid further) refl refl refl)
    (void_between Spaces [] SpaceOrTab text mid to refl refl refl refl)

-- ---- what is looked for in links and for definitions isn't among quiet nodes

module _ (name : Name) where
  own_other : (this : Name) (node : Node) → node_name node ≡ this → is_listed media_names this ≡ false → same_name this name ≡ false
      → own name (kids_of node) ≡ None → own_in name node ≡ None
  own_other this (Around enter kids exit) is media other none =
      cond-false (is_listed media_names enter.name) _ _ (ap (is_listed media_names) is ∙ media)
      ∙ cond-false (same_name enter.name name) _ _ (ap (λ (x : Name). same_name x name) is ∙ other) ∙ none

  named_other : (this : Name) (node : Node) → node_name node ≡ this → same_name this name ≡ false → named name (kids_of node) ≡ [] → named_in name node ≡ []
  named_other this (Around enter kids exit) is other none =
      cond-false (same_name enter.name name) _ _ (ap (λ (x : Name). same_name x name) is ∙ other) ∙ none

  -- a name that none of them has
  record IsElsewhere : Type 0 where
    space : same_name SpaceOrTab name ≡ false
    prefix : same_name BlockQuotePrefix name ≡ false
    marker : same_name BlockQuoteMarker name ≡ false

  elsewhere : is_listed quiet_names name ≡ false → IsElsewhere
  elsewhere h =
      let first = or_parts (same_name SpaceOrTab name) (same_name BlockQuotePrefix name || (same_name BlockQuoteMarker name || false)) h in
      let second = or_parts (same_name BlockQuotePrefix name) (same_name BlockQuoteMarker name || false) first.1 in
      record { space = first.0; prefix = second.0; marker = (or_parts (same_name BlockQuoteMarker name) false second.1).0 }

  own_prefix : (ns : Nodes) → IsElsewhere → AreOfPrefix ns → own name ns ≡ None
  own_prefix Nil e are = refl
  own_prefix (Cons node ns) e (inl is, are) =
      ap₂ option_or (own_other BlockQuoteMarker node is.0 refl e.marker (ap (own name) is.1)) (own_prefix ns e are)
  own_prefix (Cons node ns) e (inr is, are) =
      ap₂ option_or (own_other SpaceOrTab node is.0 refl e.space (ap (own name) is.1)) (own_prefix ns e are)

  named_prefix : (ns : Nodes) → IsElsewhere → AreOfPrefix ns → named name ns ≡ []
  named_prefix Nil e are = refl
  named_prefix (Cons node ns) e (inl is, are) =
      ap₂ (λ (xs ys : List Node). xs ++ ys) (named_other BlockQuoteMarker node is.0 e.marker (ap (named name) is.1)) (named_prefix ns e are)
  named_prefix (Cons node ns) e (inr is, are) =
      ap₂ (λ (xs ys : List Node). xs ++ ys) (named_other SpaceOrTab node is.0 e.space (ap (named name) is.1)) (named_prefix ns e are)

  own_all : (ns : Nodes) → IsElsewhere → AreQuiet ns → own name ns ≡ None
  own_all Nil e are = refl
  own_all (Cons node ns) e (inl is, are) = ap₂ option_or (own_other SpaceOrTab node is.0 refl e.space (ap (own name) is.1)) (own_all ns e are)
  own_all (Cons node ns) e (inr is, are) =
      ap₂ option_or (own_other BlockQuotePrefix node is.0 refl e.prefix (own_prefix (kids_of node) e is.1)) (own_all ns e are)

  named_all : (ns : Nodes) → IsElsewhere → AreQuiet ns → named name ns ≡ []
  named_all Nil e are = refl
  named_all (Cons node ns) e (inl is, are) =
      ap₂ (λ (xs ys : List Node). xs ++ ys) (named_other SpaceOrTab node is.0 e.space (ap (named name) is.1)) (named_all ns e are)
  named_all (Cons node ns) e (inr is, are) =
      ap₂ (λ (xs ys : List Node). xs ++ ys) (named_other BlockQuotePrefix node is.0 e.prefix (named_prefix (kids_of node) e is.1)) (named_all ns e are)

  -- no node of another name is found among them, nor are any in them
  pub quiet_own : (ns : Nodes) → is_listed quiet_names name ≡ false → AreQuiet ns → own name ns ≡ None
  quiet_own ns h are = own_all ns (elsewhere h) are

  pub quiet_named : (ns : Nodes) → is_listed quiet_names name ≡ false → AreQuiet ns → named name ns ≡ []
  quiet_named ns h are = named_all ns (elsewhere h) are
