-- The nodes of a row of a table: the cells among them, and what is not among them.
use Rattle.std.proofs.Common.{◌≡◌, true, false, List, [], ◌∷◌, ◌++◌, map, ℕ, inl, inr, refl, sym, ap, ap₂, subst, ◌∙◌}
use Rattle.parse_tables.proofs.Prelude.{AllZip, append, append-nil, AreMeanings, ArePartsAlike, Around, cases_Bool, Cell, cell_of, children, cond-false}
use Rattle.parse_tables.proofs.Prelude.{cond-true, Cons, End, enter_at, exit_at, map-append, Meaning, Name, named_both, Nil, Node, node_name, Nodes, one}
use Rattle.parse_tables.proofs.Prelude.{read_cell, Reading, same_name, SpellCells, void_cases, void_nodes}
use Rattle.definition_inline.specs.Inline.{Inlines}
use Rattle.engine_events.specs.declared.event.Name.TheVariants as n
use Rattle.parse_tables.specs.Before.{AreInRow}
use Rattle.parse_tables.proofs.ColumnNodes.{named_void}

-- ---- children of a name

pub children_first : (name : Name) (node : Node) (ns : Nodes) → same_name (node_name node) name ≡ true → children name (Cons node ns) ≡ node ∷ children name ns
children_first name node ns is = cond-true (same_name (node_name node) name) (node ∷ children name ns) (children name ns) is

pub children_other : (name : Name) (node : Node) (ns : Nodes) → same_name (node_name node) name ≡ false → children name (Cons node ns) ≡ children name ns
children_other name node ns is = cond-false (same_name (node_name node) name) (node ∷ children name ns) (children name ns) is

pub children_both : (name : Name) (ns ms : Nodes) → children name (append ns ms) ≡ children name ns ++ children name ms
children_both name Nil ms = refl
children_both name (Cons node ns) ms =
    let more = children_both name ns ms in
    elim (cases_Bool (same_name (node_name node) name)) [
      | inl is ↦
          children_first name node (append ns ms) is ∙ ap (λ (xs : List Node). node ∷ xs) more
          ∙ ap (λ (xs : List Node). xs ++ children name ms) (sym (children_first name node ns is))
      | inr is ↦
          children_other name node (append ns ms) is ∙ more ∙ ap (λ (xs : List Node). xs ++ children name ms) (sym (children_other name node ns is))
    ]

-- what holds no other isn't a child of another name
pub children_void : (text : List ℕ) (name other : Name) (from to : End) → same_name other n.Data ≡ false → same_name other name ≡ false
    → children name (void_nodes text other from to) ≡ []
children_void text name other from to no_data apart =
    void_cases (λ ns. children name ns ≡ []) text other from to no_data (λ _. refl)
    (λ _. children_other name (Around (enter_at text other from) Nil (exit_at text other to)) Nil apart)

-- ---- no definition, and no delimiter of a column

pub in_row_none : AreInRow Nil
in_row_none = record { definitions = refl; columns = refl }

pub in_row_both : (ns ms : Nodes) → AreInRow ns → AreInRow ms → AreInRow (append ns ms)
in_row_both ns ms a b = record {
  definitions = named_both n.Definition ns ms ∙ ap₂ (λ (xs ys : List Node). xs ++ ys) a.definitions b.definitions;
  columns = named_both n.GfmTableDelimiterCellValue ns ms ∙ ap₂ (λ (xs ys : List Node). xs ++ ys) a.columns b.columns;
}

pub in_row_void : (text : List ℕ) (name : Name) (from to : End) → same_name name n.Data ≡ false → same_name name n.Definition ≡ false
    → same_name name n.GfmTableDelimiterCellValue ≡ false → AreInRow (void_nodes text name from to)
in_row_void text name from to no_data no_definition no_column = record {
  definitions = named_void text n.Definition name from to no_data no_definition;
  columns = named_void text n.GfmTableDelimiterCellValue name from to no_data no_column;
}

-- ---- the cells that nodes spell

all_both : {A B : Type 0} (R : A → B → Type 0) (xs us : List A) (ys vs : List B) → AllZip R xs ys → AllZip R us vs → AllZip R (xs ++ us) (ys ++ vs)
all_both R [] us [] vs a b = b
all_both R [] us (y ∷ ys) vs a b = absurd a
all_both R (x ∷ xs) us [] vs a b = absurd a
all_both R (x ∷ xs) us (y ∷ ys) vs a b = (a.0, all_both R xs us ys vs a.1 b)

pub spell_both : (r : Reading) (text : List ℕ) (cs ds : List Cell) (ns ms : Nodes) → SpellCells r text cs ns → SpellCells r text ds ms
    → SpellCells r text (cs ++ ds) (append ns ms)
spell_both r text cs ds ns ms a b = λ m m' are.
    let own = cell_of r.tables.names text in
    let read : map (read_cell r) (cs ++ ds) ≡ map (read_cell r) cs ++ map (read_cell r) ds = map-append (read_cell r) cs ds in
    let spelled : map own (children n.GfmTableCell (append ns ms)) ≡ map own (children n.GfmTableCell ns) ++ map own (children n.GfmTableCell ms) =
    ap (map own) (children_both n.GfmTableCell ns ms) ∙ map-append own (children n.GfmTableCell ns) (children n.GfmTableCell ms) in
    subst (λ (xs : List Inlines). AllZip (ArePartsAlike m m') xs (map own (children n.GfmTableCell (append ns ms)))) (sym read)
    (subst (AllZip (ArePartsAlike m m') (map (read_cell r) cs ++ map (read_cell r) ds)) (sym spelled)
    (all_both (ArePartsAlike m m') _ _ _ _ (a m m' are) (b m m' are)))

-- nodes among which no cell is
pub spell_none : (r : Reading) (text : List ℕ) (ns : Nodes) → children n.GfmTableCell ns ≡ [] → SpellCells r text [] ns
spell_none r text ns none = λ m m' are.
    subst (λ (xs : List Node). AllZip (ArePartsAlike m m') [] (map (cell_of r.tables.names text) xs)) (sym none) tt

-- they may stand before and after cells
pub spell_before : (r : Reading) (text : List ℕ) (cs : List Cell) (ns ms : Nodes) → children n.GfmTableCell ns ≡ [] → SpellCells r text cs ms
    → SpellCells r text cs (append ns ms)
spell_before r text cs ns ms none spell = spell_both r text [] cs ns ms (spell_none r text ns none) spell

pub spell_after : (r : Reading) (text : List ℕ) (cs : List Cell) (ns ms : Nodes) → children n.GfmTableCell ms ≡ [] → SpellCells r text cs ns
    → SpellCells r text cs (append ns ms)
spell_after r text cs ns ms none spell =
    subst (λ (xs : List Cell). SpellCells r text xs (append ns ms)) (append-nil cs) (spell_both r text cs [] ns ms spell (spell_none r text ms none))

-- one cell
pub spell_one : (r : Reading) (text : List ℕ) (c : Cell) (node : Node) → node_name node ≡ n.GfmTableCell
    → ((m m' : Meaning) → AreMeanings r.parse.constructs r.tables.names m m' → ArePartsAlike m m' (read_cell r c) (cell_of r.tables.names text node))
    → SpellCells r text (c ∷ []) (one node)
spell_one r text c node is spells = λ m m' are.
    let own : children n.GfmTableCell (one node) ≡ node ∷ [] =
    children_first n.GfmTableCell node Nil (ap (λ (name : Name). same_name name n.GfmTableCell) is) in
    subst (λ (xs : List Node). AllZip (ArePartsAlike m m') (read_cell r c ∷ []) (map (cell_of r.tables.names text) xs)) (sym own) (spells m m' are, tt)
