-- Where a tree fits the grammar, the fold over its events finds no fault.
use Rattle.std.proofs.Common.{◌≡◌, ℕ, ◌+◌, ◌==◌, Bool, true, false, ◌&&◌, ◌||◌, if◌then◌else◌, ◌⊎◌, inl, inr, List, ◌∷◌, ◌++◌, Option, None, Some, refl, sym, ap, ◌∙◌, subst, arith}
use Rattle.event_check.proofs.Prelude.{after, Around, before, Before, between, bytes_between, cell_names, cells_of, check_at, Cons, end, eqb-true, Event}
use Rattle.event_check.proofs.Prelude.{events_of, fact_at, fault_from, fits, Form, has_limit, is_barred, is_fact, is_limit, is_listed, KidsFit, Kind, limit_of}
use Rattle.event_check.proofs.Prelude.{link_names, may_end, may_exit, mdx_names, moved, Name, Nil, Node, node_name, NodeFits, Nodes, Open, opened, PlacesFit}
use Rattle.event_check.proofs.Prelude.{row, same_name, Slot, Spot, spot_of, stands_between, take_child, Taken, takes, the_type, with_child, Within}
use Rattle.std.proofs.lemmas.Bool.{eq-eqb}
use denote.Enum.Bare.{true_same}
use Rattle.engine_events.specs.declared.event.Kind.TheVariants.{Enter, Exit}
use Rattle.engine_events.specs.declared.event.Name.TheVariants as n
use Rattle.event_grammar.specs.declared.slot.Form.TheVariants.{Plain}
use Rattle.event_grammar.specs.InGrammar.{inside, CellsAgree}
use Rattle.event_check.proofs.Steps.{Taking, Passing, enters_back, exits_back, Stands, goes_back}
use Rattle.event_check.proofs.Fits.{Fills, between_fills, split, later, within_of, before_of, exit_of, above_is, count_taken}

-- ---- counts of cells

no_true : (A : Type 0) → (let b : Bool = false in b ≡ true) → A
no_true A h = absurd (cc)

not_limit_by : (l c r : ℕ) (t : Bool) → (c == l) ≡ t → c + (r + 1) ≡ l → t ≡ false
not_limit_by l c r true e h = let k = eqb-true c l e in absurd (omega (arith, h, k))
not_limit_by l c r false e h = refl

not_limit : (limit : Option ℕ) (c r : ℕ) → ((l : ℕ) → limit ≡ Some l → c + (r + 1) ≡ l) → is_limit limit c ≡ false
not_limit None c r h = refl
not_limit (Some l) c r h = not_limit_by l c r (c == l) refl (h l refl)

-- there is room for the cells of these nodes
abbrev HasRoom : Open → Nodes → Type 0
HasRoom o ns = (limit : ℕ) → o.limit ≡ Some limit → o.cells + cells_of ns ≡ limit

free_by : (linked cell : Bool) (limit : Option ℕ) (c r : ℕ) → linked ≡ false
    → ((l : ℕ) → limit ≡ Some l → c + (if cell then r + 1 else r) ≡ l) → (linked || (cell && is_limit limit c)) ≡ false
free_by true cell limit c r k h = no_true _ (sym k)
free_by false true limit c r k h = not_limit limit c r h
free_by false false limit c r k h = refl

some_is : (a b : ℕ) → Some a ≡ Some b → a ≡ b
some_is a b h = cc

none_some : (A : Type 0) (a : ℕ) → (let o : Option ℕ = None in o ≡ Some a) → A
none_some A a h = absurd (cc)

-- a row of delimiters has as many cells as are asked for, and any other event any number
room_by : (b : Bool) (above cells : ℕ) → (b ≡ true → cells ≡ above) → (limit : ℕ) → (if b then Some above else None) ≡ Some limit → 0 + cells ≡ limit
room_by true above cells h limit e = let k = h refl in let l = some_is above limit e in omega (arith, k, l)
room_by false above cells h limit e = none_some _ limit e

full_by : (b : Bool) (above cells read : ℕ) → (b ≡ true → cells ≡ above) → read ≡ 0 + cells → has_limit (if b then Some above else None) read ≡ true
full_by true above cells read h e = eq-eqb read above (let k = h refl in omega (arith, k, e))
full_by false above cells read h e = refl

all_three : (a b c : Bool) → a ≡ true → b ≡ true → c ≡ true → (a && b && c) ≡ true
all_three true true true h k l = refl
all_three true true false h k l = l
all_three true false c h k l = k
all_three false b c h k l = h

module _ (names : List ℕ → Option (List ℕ)) (bytes : List ℕ) where
  -- ---- what fits, taken apart

  pub record Parts (x : Within) (form : Form) (b : Before) (enter : Event) (kids : Nodes) (exit : Event) : Type 0 where
    pub entered : enter.kind ≡ Enter
    pub exited : exit.kind ≡ Exit
    pub name_is : exit.name ≡ enter.name
    pub known : is_listed mdx_names enter.name ≡ false
    pub unlinked : (x.linked && is_listed link_names enter.name) ≡ false
    pub agree : CellsAgree b enter.name kids
    pub fact : is_fact names enter.name form b.sibling (bytes_between bytes (spot_of enter) (spot_of exit)) ≡ true
    pub fit : KidsFit names bytes (inside x enter.name form) (before None 0) (row enter.name form) kids

  abbrev PartsOf : Within → Form → Before → Node → Type 0
  PartsOf x form b (Around enter kids exit) = Parts x form b enter kids exit

  pub parts : (x : Within) (form : Form) (b : Before) (node : Node) → NodeFits names bytes x form b node → PartsOf x form b node
  parts x form b node (fits p q r s t u v w) =
      record { entered = p; exited = q; name_is = r; known = s; unlinked = t; agree = u; fact = v; fit = w }

  abbrev Takes : Within → Before → List Slot → Node → Nodes → Type 0
  Takes x b slots node ns =
      (t : Taken) × (take_child slots (node_name node) ≡ Some t) × NodeFits names bytes x t.form b node × KidsFit names bytes x (after b node) t.rest ns

  abbrev Passes : Within → Before → List Slot → Node → Nodes → Type 0
  Passes x b slots node ns =
      (take_child slots (node_name node) ≡ None) × (stands_between x.around (node_name node) ≡ true) × NodeFits names bytes x Plain b node
      × KidsFit names bytes x b slots ns

  abbrev Ways : Within → Before → List Slot → Nodes → Type 0
  Ways x b slots Nil = may_end slots ≡ true
  Ways x b slots (Cons node ns) = Takes x b slots node ns ⊎ Passes x b slots node ns

  pub ways : (x : Within) (b : Before) (slots : List Slot) (ns : Nodes) → KidsFit names bytes x b slots ns → Ways x b slots ns
  ways x b slots ns (end h) = h
  ways x b slots ns (takes {t = t} h f k) = inl (t, h, f, k)
  ways x b slots ns (between h s f k) = inr (h, s, f, k)

  -- ---- no fault

  pub record Done (o : Open) (outer : List Open) (at : Spot) (i : ℕ) (ns : Nodes) (es : List Event) : Type 0 where
    pub rest : List Slot
    pub last : Option Name
    pub cells : ℕ
    pub above : ℕ
    pub spot : Spot
    pub index : ℕ
    pub ends : may_end rest ≡ true
    pub counted : cells ≡ o.cells + cells_of ns
    pub places : PlacesFit bytes spot es
    pub goes : fault_from names bytes (check_at o outer at) i (events_of ns ++ es)
        ≡ fault_from names bytes (check_at (later o rest last cells above) outer spot) index es

  abbrev Complete : Nodes → Type 0
  Complete ns = (o : Open) (outer : List Open) (at : Spot) (i : ℕ) (es : List Event)
      → KidsFit names bytes (within_of o) (before_of o) o.rest ns → HasRoom o ns → PlacesFit bytes at (events_of ns ++ es) → Done o outer at i ns es

  -- a node, and what is open after it
  pub record NodeDone (o after_enter : Open) (outer : List Open) (at : Spot) (i : ℕ) (enter : Event) (kids : Nodes) (exit : Event) (es : List Event) : Type 0 where
    pub cells : ℕ
    pub index : ℕ
    pub cells_are : cells ≡ cells_of kids
    pub places : PlacesFit bytes (spot_of exit) es
    pub goes : fault_from names bytes (check_at o outer at) i (enter ∷ (events_of kids ++ exit ∷ es))
        ≡ fault_from names bytes (check_at (exit_of after_enter exit.name cells) outer (spot_of exit)) index es

  node_done : (o after_enter : Open) (outer : List Open) (at : Spot) (i : ℕ) (enter : Event) (kids : Nodes) (exit : Event) (form : Form) (es : List Event)
      → Parts (within_of o) form (before_of o) enter kids exit → is_barred o enter.name ≡ false
      → Taking o enter.name form after_enter ⊎ Passing o enter.name form after_enter
      → Complete kids → PlacesFit bytes at (enter ∷ (events_of kids ++ exit ∷ es)) → NodeDone o after_enter outer at i enter kids exit es
  node_done o after_enter outer at i enter kids exit form es p free way ih places =
      let name = enter.name in
      let inner = opened o name form (spot_of enter) in
      let around = after_enter ∷ outer in
      let first = check_at inner around (spot_of enter) in
      let enters : Stands names bytes (check_at o outer at) enter first =
      record {
        known = p.known;
        goes = ap (λ (z : Kind). moved (check_at o outer at) z name (spot_of enter)) p.entered
            ∙ enters_back o outer name (spot_of enter) at form after_enter free way;
        later = places.0;
        spot = places.1;
        fact = ap (λ (z : Kind). fact_at names bytes o z name (spot_of enter)) p.entered;
      } in
      let d = ih inner around (spot_of enter) (i + 1) (exit ∷ es) p.fit (room_by (same_name name n.GfmTableDelimiterRow) o.above (cells_of kids) p.agree) places.2 in
      let k = later inner d.rest d.last d.cells d.above in
      let may : may_exit k exit.name ≡ true =
      all_three (same_name name exit.name) (may_end d.rest) (has_limit (limit_of o name) d.cells) (true_same the_type name exit.name (sym p.name_is)) d.ends
      (full_by (same_name name n.GfmTableDelimiterRow) o.above (cells_of kids) d.cells p.agree d.counted) in
      let exits : Stands names bytes (check_at k around d.spot) exit (check_at (exit_of after_enter exit.name d.cells) outer (spot_of exit)) =
      record {
        known = ap (is_listed mdx_names) p.name_is ∙ p.known;
        goes = ap (λ (z : Kind). moved (check_at k around d.spot) z exit.name (spot_of exit)) p.exited
            ∙ exits_back k after_enter outer exit.name d.spot (spot_of exit) may;
        later = d.places.0;
        spot = d.places.1;
        fact = ap (λ (z : Kind). fact_at names bytes k z exit.name (spot_of exit)) p.exited
            ∙ ap (λ (z : Name). is_fact names z form o.last (bytes_between bytes (spot_of enter) (spot_of exit))) p.name_is
            ∙ p.fact;
      } in
      record {
        cells = d.cells;
        index = d.index + 1;
        cells_are = let c = d.counted in omega (arith, c);
        places = d.places.2;
        goes = goes_back names bytes (check_at o outer at) first i enter (events_of kids ++ exit ∷ es) enters
            ∙ d.goes
            ∙ goes_back names bytes (check_at k around d.spot) (check_at (exit_of after_enter exit.name d.cells) outer (spot_of exit)) d.index exit es exits;
      }

  -- ---- a node and those after it

  took : (o : Open) (outer : List Open) (at : Spot) (i : ℕ) (enter : Event) (kids : Nodes) (exit : Event) (ns : Nodes) (es : List Event)
      → Takes (within_of o) (before_of o) o.rest (Around enter kids exit) ns → HasRoom o (Cons (Around enter kids exit) ns)
      → Complete kids → Complete ns → PlacesFit bytes at (enter ∷ (events_of kids ++ exit ∷ (events_of ns ++ es)))
      → Done o outer at i (Cons (Around enter kids exit) ns) es
  took o outer at i enter kids exit ns es w room ih others places =
      let node = Around enter kids exit in
      let rest = events_of ns ++ es in
      let p = parts (within_of o) w.0.form (before_of o) node w.2 in
      let after_enter = with_child o enter.name w.0.rest in
      let d = node_done o after_enter outer at i enter kids exit w.0.form rest p
      (free_by (o.linked && is_listed link_names enter.name) (is_listed cell_names enter.name) o.limit o.cells (cells_of ns) p.unlinked room)
      (inl (w.0, w.1, refl, refl)) ih places in
      let next = exit_of after_enter exit.name d.cells in
      let fit = subst (λ (z : ℕ). KidsFit names bytes (within_of o) (before (Some enter.name) z) w.0.rest ns)
      (sym (above_is names bytes o.above exit.name node d.cells p.name_is d.cells_are)) w.3 in
      let l = others next outer (spot_of exit) d.index es fit
      (λ (limit : ℕ) (h : o.limit ≡ Some limit). room_after (is_listed cell_names enter.name) o.cells (cells_of ns) limit (room limit h)) d.places in
      record {
        rest = l.rest;
        last = l.last;
        cells = l.cells;
        above = l.above;
        spot = l.spot;
        index = l.index;
        ends = l.ends;
        counted = count_taken names bytes (is_listed cell_names enter.name) o.cells (cells_of ns) l.cells l.counted;
        places = l.places;
        goes = ap (λ (z : List Event). fault_from names bytes (check_at o outer at) i (enter ∷ z)) (split kids ns exit es) ∙ d.goes ∙ l.goes;
      }
    where
      room_after : (t : Bool) (c r limit : ℕ) → c + (if t then r + 1 else r) ≡ limit → (if t then c + 1 else c) + r ≡ limit
      room_after true c r limit h = omega (arith, h)
      room_after false c r limit h = h

  passed : (o : Open) (outer : List Open) (at : Spot) (i : ℕ) (enter : Event) (kids : Nodes) (exit : Event) (ns : Nodes) (es : List Event)
      → Passes (within_of o) (before_of o) o.rest (Around enter kids exit) ns → HasRoom o (Cons (Around enter kids exit) ns)
      → Complete kids → Complete ns → PlacesFit bytes at (enter ∷ (events_of kids ++ exit ∷ (events_of ns ++ es)))
      → Done o outer at i (Cons (Around enter kids exit) ns) es
  passed o outer at i enter kids exit ns es w room ih others places =
      let node = Around enter kids exit in
      let rest = events_of ns ++ es in
      let p = parts (within_of o) Plain (before_of o) node w.2 in
      let filled : Fills enter.name = between_fills o.around enter.name w.1 in
      let d = node_done o o outer at i enter kids exit Plain rest p
      (free_by (o.linked && is_listed link_names enter.name) (is_listed cell_names enter.name) o.limit o.cells (cells_of ns) p.unlinked room)
      (inr (w.0, w.1, refl, refl)) ih places in
      let next = exit_of o exit.name d.cells in
      let same : (if same_name exit.name n.GfmTableRow then d.cells else o.above) ≡ o.above =
      ap (λ (z : Name). if same_name z n.GfmTableRow then d.cells else o.above) p.name_is ∙ ap (λ (z : Bool). if z then d.cells else o.above) filled.1 in
      let fit = subst (λ (z : ℕ). KidsFit names bytes (within_of o) (before o.last z) o.rest ns) (sym same) w.3 in
      let l = others next outer (spot_of exit) d.index es fit
      (λ (limit : ℕ) (h : o.limit ≡ Some limit). ap (λ (z : Bool). o.cells + (if z then cells_of ns + 1 else cells_of ns)) (sym filled.0) ∙ room limit h) d.places in
      record {
        rest = l.rest;
        last = l.last;
        cells = l.cells;
        above = l.above;
        spot = l.spot;
        index = l.index;
        ends = l.ends;
        counted = l.counted ∙ ap (λ (z : Bool). o.cells + (if z then cells_of ns + 1 else cells_of ns)) (sym filled.0);
        places = l.places;
        goes = ap (λ (z : List Event). fault_from names bytes (check_at o outer at) i (enter ∷ z)) (split kids ns exit es) ∙ d.goes ∙ l.goes;
      }

  either : (o : Open) (outer : List Open) (at : Spot) (i : ℕ) (enter : Event) (kids : Nodes) (exit : Event) (ns : Nodes) (es : List Event)
      → Ways (within_of o) (before_of o) o.rest (Cons (Around enter kids exit) ns) → HasRoom o (Cons (Around enter kids exit) ns)
      → Complete kids → Complete ns → PlacesFit bytes at (enter ∷ (events_of kids ++ exit ∷ (events_of ns ++ es)))
      → Done o outer at i (Cons (Around enter kids exit) ns) es
  either o outer at i enter kids exit ns es (inl w) room ih others places = took o outer at i enter kids exit ns es w room ih others places
  either o outer at i enter kids exit ns es (inr w) room ih others places = passed o outer at i enter kids exit ns es w room ih others places

  pub complete : (ns : Nodes) → Complete ns
  complete Nil o outer at i es fit room places =
      record {
        rest = o.rest;
        last = o.last;
        cells = o.cells;
        above = o.above;
        spot = at;
        index = i;
        ends = ways (within_of o) (before_of o) o.rest Nil fit;
        counted = omega arith;
        places = places;
        goes = refl;
      }
  complete (Cons (Around enter kids exit) ns) o outer at i es fit room places =
      either o outer at i enter kids exit ns es (ways (within_of o) (before_of o) o.rest (Cons (Around enter kids exit) ns) fit) room (complete kids) (complete ns)
      (subst (λ (l : List Event). PlacesFit bytes at (enter ∷ l)) (split kids ns exit es) places)
