-- The fold over events finds no fault exactly where their tree fits the grammar.
use Rattle.std.proofs.Common.{◌≡◌, ℕ, ◌+◌, Bool, true, false, ◌&&◌, ◌||◌, if◌then◌else◌, ◌⊎◌, inl, inr, List, [], ◌∷◌, ◌++◌, Option, None, Some, refl, sym, ap, ◌∙◌, subst, arith, append_assoc}
use Rattle.event_check.proofs.Prelude.{and_parts, Around, before, Before, Between, between, bytes_between, cell_names, cells_of, Check, check_at, Cons, end}
use Rattle.event_check.proofs.Prelude.{entered, eqb-true, Event, events_of, exited, fact_at, fault_from, fits, Form, has, has_limit, is_barred, is_fact}
use Rattle.event_check.proofs.Prelude.{is_limit, is_listed, KidsFit, Kind, limit_of, line_names, link_names, may_end, mdx_names, moved, Name, Nil, Node}
use Rattle.event_check.proofs.Prelude.{node_name, NodeFits, Nodes, Open, opened, same_name, Slot, space_names, Spot, spot_of, stands_between, take_child}
use Rattle.event_check.proofs.Prelude.{Taken, taken, takes, the_type, with_above, with_child, Within, within}
use Rattle.std.proofs.lemmas.Bool.{or_parts}
use denote.Enum.Bare.{same_true}
use Rattle.engine_events.specs.declared.event.Kind.TheVariants.{Enter, Exit}
use Rattle.engine_events.specs.declared.event.Name.TheVariants as n
use Rattle.event_grammar.specs.declared.slot.Between.TheVariants.{Nothing, Spaces, Lines}
use Rattle.event_grammar.specs.declared.slot.Slot.TheVariants.{One, Opt, Lead, Many}
use Rattle.event_grammar.specs.InGrammar.{kids_of}
use Rattle.event_check.proofs.NodeKinds.{HasKinds, HaveKinds}
use Rattle.event_check.proofs.Steps.{Taking, Passing, enters, exits, goes_on}

pub split : (kids others : Nodes) (exit : Event) (es : List Event)
    → ((events_of kids ++ exit ∷ []) ++ events_of others) ++ es ≡ events_of kids ++ exit ∷ (events_of others ++ es)
split kids others exit es = simp append_assoc

-- ---- names

-- what stands between is no cell and no row of a table
abbrev is_filler : Name → Bool
is_filler name = is_listed space_names name || is_listed line_names name

abbrev pub Fills : Name → Type 0
Fills name = (is_listed cell_names name ≡ false) × (same_name name n.GfmTableRow ≡ false)

filler_by : (a name : Name) (rest : Bool) (b : Bool) → same_name a name ≡ b → Fills a → (rest ≡ true → Fills name) → (b || rest) ≡ true → Fills name
filler_by a name rest true e f g h = subst Fills (same_true the_type tt a name e) f
filler_by a name rest false e f g h = g h

no_more : (name : Name) → false ≡ true → Fills name
no_more name h = absurd (let f : false ≡ true = h in cc)

lines_fill : (name : Name) → is_listed line_names name ≡ true → Fills name
lines_fill name h =
    filler_by n.LineEnding name _ (same_name n.LineEnding name) refl (refl, refl)
    (λ h. filler_by n.BlankLineEnding name _ (same_name n.BlankLineEnding name) refl (refl, refl)
    (λ h. filler_by n.BlockQuotePrefix name _ (same_name n.BlockQuotePrefix name) refl (refl, refl) (no_more name) h) h) h

spaces_fill : (name : Name) → is_listed space_names name ≡ true → Fills name
spaces_fill name h = filler_by n.SpaceOrTab name _ (same_name n.SpaceOrTab name) refl (refl, refl) (no_more name) h

either_fills : (name : Name) (b : Bool) → is_listed space_names name ≡ b → (b || is_listed line_names name) ≡ true → Fills name
either_fills name true e h = spaces_fill name e
either_fills name false e h = lines_fill name h

pub between_fills : (around : Between) (name : Name) → stands_between around name ≡ true → Fills name
between_fills Nothing name h = absurd (let f : false ≡ true = h in cc)
between_fills Spaces name h = spaces_fill name h
between_fills Lines name h = either_fills name (is_listed space_names name) refl h

-- ---- rows that may end wherever they are

abbrev pub is_loose : List Slot → Bool
is_loose [] = true
is_loose (One child ∷ slots) = false
is_loose (Opt child ∷ slots) = is_loose slots
is_loose (Many child ∷ slots) = is_loose slots
is_loose (Lead child ∷ slots) = is_loose slots

pub loose_ends : (slots : List Slot) → is_loose slots ≡ true → may_end slots ≡ true
loose_ends [] h = refl
loose_ends (One child ∷ slots) h = absurd (let f : false ≡ true = h in cc)
loose_ends (Opt child ∷ slots) h = loose_ends slots h
loose_ends (Many child ∷ slots) h = loose_ends slots h
loose_ends (Lead child ∷ []) h = refl
loose_ends (Lead child ∷ One c ∷ slots) h = absurd (let f : false ≡ true = h in cc)
loose_ends (Lead child ∷ Opt c ∷ slots) h = loose_ends slots h
loose_ends (Lead child ∷ Many c ∷ slots) h = loose_ends slots h
loose_ends (Lead child ∷ Lead c ∷ slots) h = loose_ends slots h

some_is : (s t : Taken) → Some s ≡ Some t → s ≡ t
some_is s t h = cc

none_some : (A : Type 0) (t : Taken) → (let o : Option Taken = None in o ≡ Some t) → A
none_some A t h = absurd (cc)

abbrev IsLoose : List Slot → Type 0
IsLoose slots = is_loose slots ≡ true

loose_by : (b : Bool) (now : Taken) (rest : Option Taken) (t : Taken) → IsLoose now.rest → (rest ≡ Some t → IsLoose t.rest)
    → (if b then Some now else rest) ≡ Some t → IsLoose t.rest
loose_by true now rest t h k e = subst (λ (z : Taken). IsLoose z.rest) (some_is now t e) h
loose_by false now rest t h k e = k e

loose_tail : (slot : Slot) (slots : List Slot) → IsLoose (slot ∷ slots) → IsLoose slots
loose_tail (One child) slots h = absurd (let f : false ≡ true = h in cc)
loose_tail (Opt child) slots h = h
loose_tail (Many child) slots h = h
loose_tail (Lead child) slots h = h

pub loose_takes : (slots : List Slot) (name : Name) (t : Taken) → IsLoose slots → take_child slots name ≡ Some t → IsLoose t.rest
loose_takes [] name t h e = none_some _ t e
loose_takes (One child ∷ slots) name t h e = absurd (let f : false ≡ true = h in cc)
loose_takes (Opt child ∷ slots) name t h e = loose_by (has child name) (taken child slots) (take_child slots name) t h (loose_takes slots name t h) e
loose_takes (Many child ∷ slots) name t h e =
    loose_by (has child name) (taken child (Many child ∷ slots)) (take_child slots name) t h (loose_takes slots name t h) e
loose_takes (Lead child ∷ []) name t h e = loose_by (has child name) (taken child []) None t refl (λ e. none_some _ t e) e
loose_takes (Lead child ∷ slot ∷ slots) name t h e =
    loose_by (has child name) (taken child (slot ∷ slots)) (take_child slots name) t h (loose_takes slots name t (loose_tail slot slots h)) e

-- ---- what is open

-- with other children before
abbrev pub later : Open → List Slot → Option Name → ℕ → ℕ → Open
later o rest last cells above = record o { rest = rest; last = last; cells = cells; above = above }

abbrev pub within_of : Open → Within
within_of o = within o.around o.linked

abbrev pub before_of : Open → Before
before_of o = before o.last o.above

-- what is open once a child was exited
abbrev pub exit_of : Open → Name → ℕ → Open
exit_of o name cells = with_above o name cells

no_bool : (A : Type 0) (b : Bool) → b ≡ true → b ≡ false → A
no_bool A b h k = absurd (let f : true ≡ false = sym h ∙ k in cc)

limit_is : (b : Bool) (above cells : ℕ) → b ≡ true → has_limit (if b then Some above else None) cells ≡ true → cells ≡ above
limit_is true above cells e h = eqb-true cells above h
limit_is false above cells e h = absurd (let f : false ≡ true = e in cc)

module _ (names : List ℕ → Option (List ℕ)) (bytes : List ℕ) where
  -- ---- no fault: the tree fits

  -- so many children were read without a fault: they fit where the row may end after them, and there is none after them
  pub record Ran (o : Open) (outer : List Open) (ns : Nodes) (es : List Event) : Type 0 where
    pub rest : List Slot
    pub last : Option Name
    pub cells : ℕ
    pub above : ℕ
    pub at : Spot
    pub i : ℕ
    pub fit : may_end rest ≡ true → KidsFit names bytes (within_of o) (before_of o) o.rest ns
    pub counted : cells ≡ o.cells + cells_of ns
    pub loose : is_loose o.rest ≡ true → is_loose rest ≡ true
    pub others : fault_from names bytes (check_at (later o rest last cells above) outer at) i es ≡ None

  abbrev Sound : Nodes → Type 0
  Sound ns = (o : Open) (outer : List Open) (at : Spot) (i : ℕ) (es : List Event)
      → fault_from names bytes (check_at o outer at) i (events_of ns ++ es) ≡ None → Ran o outer ns es

  -- a node that was read, and what is open after it
  pub record Node_ (o : Open) (outer : List Open) (node : Node) (es : List Event) : Type 0 where
    pub form : Form
    pub after_enter : Open
    pub cells : ℕ
    pub name : Name
    pub at : Spot
    pub i : ℕ
    pub way : Taking o (node_name node) form after_enter ⊎ Passing o (node_name node) form after_enter
    pub node_fits : NodeFits names bytes (within_of o) form (before_of o) node
    pub name_is : name ≡ node_name node
    pub cells_are : cells ≡ cells_of (kids_of node)
    pub others : fault_from names bytes (check_at (exit_of after_enter name cells) outer at) i es ≡ None

  -- its exit
  node_ends : (o after_enter : Open) (outer : List Open) (enter : Event) (kids : Nodes) (exit : Event) (form : Form) (es : List Event)
      → enter.kind ≡ Enter → exit.kind ≡ Exit → is_listed mdx_names enter.name ≡ false → is_barred o enter.name ≡ false
      → Taking o enter.name form after_enter ⊎ Passing o enter.name form after_enter
      → Ran (opened o enter.name form (spot_of enter)) (after_enter ∷ outer) kids (exit ∷ es) → Node_ o outer (Around enter kids exit) es
  node_ends o after_enter outer enter kids exit form es ek xk known free way ran =
      let k = later (opened o enter.name form (spot_of enter)) ran.rest ran.last ran.cells ran.above in
      let g = goes_on names bytes (check_at k (after_enter ∷ outer) ran.at) ran.i exit es ran.others in
      let moves : exited (check_at k (after_enter ∷ outer) ran.at) (spot_of exit) exit.name ≡ Some g.next =
      ap (λ (z : Kind). moved (check_at k (after_enter ∷ outer) ran.at) z exit.name (spot_of exit)) (sym xk) ∙ g.stands.goes in
      let x = exits k after_enter outer exit.name ran.at (spot_of exit) g.next moves in
      let first = and_parts (same_name enter.name exit.name && may_end ran.rest) (has_limit (limit_of o enter.name) ran.cells) x.may in
      let second = and_parts (same_name enter.name exit.name) (may_end ran.rest) first.0 in
      let name_is : exit.name ≡ enter.name = sym (same_true the_type tt enter.name exit.name second.0) in
      let cells_are : ran.cells ≡ cells_of kids = let c = ran.counted in omega (arith, c) in
      let unlinked = (or_parts (o.linked && is_listed link_names enter.name) (is_listed cell_names enter.name && is_limit o.limit o.cells) free).0 in
      let fact : is_fact names exit.name form o.last (bytes_between bytes (spot_of enter) (spot_of exit)) ≡ true =
      ap (λ (z : Kind). fact_at names bytes k z exit.name (spot_of exit)) (sym xk) ∙ g.stands.fact in
      record {
        form = form;
        after_enter = after_enter;
        cells = ran.cells;
        name = exit.name;
        at = spot_of exit;
        i = ran.i + 1;
        way = way;
        node_fits = fits ek xk name_is known unlinked
            (λ (h : same_name enter.name n.GfmTableDelimiterRow ≡ true). sym cells_are ∙ limit_is (same_name enter.name n.GfmTableDelimiterRow) o.above ran.cells h first.1)
            (ap (λ (z : Name). is_fact names z form o.last (bytes_between bytes (spot_of enter) (spot_of exit))) (sym name_is) ∙ fact)
            (ran.fit second.1);
        name_is = name_is;
        cells_are = cells_are;
        others = subst (λ (z : Check). fault_from names bytes z (ran.i + 1) es ≡ None) x.next_is g.others;
      }

  node_sound : (o : Open) (outer : List Open) (at : Spot) (i : ℕ) (enter : Event) (kids : Nodes) (exit : Event) (es : List Event)
      → HasKinds (Around enter kids exit) → Sound kids
      → fault_from names bytes (check_at o outer at) i (enter ∷ (events_of kids ++ exit ∷ es)) ≡ None → Node_ o outer (Around enter kids exit) es
  node_sound o outer at i enter kids exit es k ih h =
      let g = goes_on names bytes (check_at o outer at) i enter (events_of kids ++ exit ∷ es) h in
      let moves : entered (check_at o outer at) (spot_of enter) enter.name ≡ Some g.next =
      ap (λ (z : Kind). moved (check_at o outer at) z enter.name (spot_of enter)) (sym k.0) ∙ g.stands.goes in
      let e = enters o outer enter.name (spot_of enter) at g.next moves in
      node_ends o e.after outer enter kids exit e.form es k.0 k.1 g.stands.known e.free e.way
      (ih (opened o enter.name e.form (spot_of enter)) (e.after ∷ outer) (spot_of enter) (i + 1) (exit ∷ es)
      (subst (λ (z : Check). fault_from names bytes z (i + 1) (events_of kids ++ exit ∷ es) ≡ None) e.next_is g.others))

  -- what is open after a child that the row took
  pub above_is : (b : ℕ) (name : Name) (node : Node) (cells : ℕ) → name ≡ node_name node → cells ≡ cells_of (kids_of node)
      → (if same_name name n.GfmTableRow then cells else b) ≡ (if same_name (node_name node) n.GfmTableRow then cells_of (kids_of node) else b)
  above_is b name node cells h k =
      ap (λ (z : Name). if same_name z n.GfmTableRow then cells else b) h
      ∙ ap (λ (z : ℕ). if same_name (node_name node) n.GfmTableRow then z else b) k

  pub count_taken : (t : Bool) (o r c : ℕ) → c ≡ (if t then o + 1 else o) + r → c ≡ o + (if t then r + 1 else r)
  count_taken true o r c h = omega (arith, h)
  count_taken false o r c h = h

  pub count_passed : (t : Bool) (o r c : ℕ) → t ≡ false → c ≡ o + r → c ≡ o + (if t then r + 1 else r)
  count_passed true o r c e h = absurd (let f : true ≡ false = e in cc)
  count_passed false o r c e h = h

  -- after a node that the row takes
  took : (o : Open) (outer : List Open) (node : Node) (ns : Nodes) (es : List Event) (d : Node_ o outer node (events_of ns ++ es))
      → Taking o (node_name node) d.form d.after_enter → Ran (exit_of d.after_enter d.name d.cells) outer ns es → Ran o outer (Cons node ns) es
  took o outer node ns es d w ran = took_by ran
    where
      took_to : Ran (exit_of (with_child o (node_name node) w.0.rest) d.name d.cells) outer ns es → Ran o outer (Cons node ns) es
      took_to ran =
          record {
            rest = ran.rest;
            last = ran.last;
            cells = ran.cells;
            above = ran.above;
            at = ran.at;
            i = ran.i;
            fit = λ (h : may_end ran.rest ≡ true). takes w.1
                (subst (λ (z : Form). NodeFits names bytes (within_of o) z (before_of o) node) w.2 d.node_fits)
                (subst (λ (z : ℕ). KidsFit names bytes (within_of o) (before (Some (node_name node)) z) w.0.rest ns)
                (above_is o.above d.name node d.cells d.name_is d.cells_are) (ran.fit h));
            counted = count_taken (is_listed cell_names (node_name node)) o.cells (cells_of ns) ran.cells ran.counted;
            loose = λ (h : is_loose o.rest ≡ true). ran.loose (loose_takes o.rest (node_name node) w.0 h w.1);
            others = ran.others;
          }

      took_by : Ran (exit_of d.after_enter d.name d.cells) outer ns es → Ran o outer (Cons node ns) es
      took_by ran = took_to (subst (λ (z : Open). Ran (exit_of z d.name d.cells) outer ns es) w.3 ran)

  -- after a node that stands between
  passed : (o : Open) (outer : List Open) (node : Node) (ns : Nodes) (es : List Event) (d : Node_ o outer node (events_of ns ++ es))
      → Passing o (node_name node) d.form d.after_enter → Ran (exit_of d.after_enter d.name d.cells) outer ns es → Ran o outer (Cons node ns) es
  passed o outer node ns es d w ran = passed_by ran
    where
      filled : Fills (node_name node)
      filled = between_fills o.around (node_name node) w.1

      no_row : (if same_name d.name n.GfmTableRow then d.cells else o.above) ≡ o.above
      no_row = ap (λ (z : Name). if same_name z n.GfmTableRow then d.cells else o.above) d.name_is
          ∙ ap (λ (z : Bool). if z then d.cells else o.above) filled.1

      passed_to : Ran (exit_of o d.name d.cells) outer ns es → Ran o outer (Cons node ns) es
      passed_to ran =
          record {
            rest = ran.rest;
            last = ran.last;
            cells = ran.cells;
            above = ran.above;
            at = ran.at;
            i = ran.i;
            fit = λ (h : may_end ran.rest ≡ true). between w.0 w.1
                (subst (λ (z : Form). NodeFits names bytes (within_of o) z (before_of o) node) w.2 d.node_fits)
                (subst (λ (z : ℕ). KidsFit names bytes (within_of o) (before o.last z) o.rest ns) no_row (ran.fit h));
            counted = count_passed (is_listed cell_names (node_name node)) o.cells (cells_of ns) ran.cells filled.0 ran.counted;
            loose = ran.loose;
            others = ran.others;
          }

      passed_by : Ran (exit_of d.after_enter d.name d.cells) outer ns es → Ran o outer (Cons node ns) es
      passed_by ran = passed_to (subst (λ (z : Open). Ran (exit_of z d.name d.cells) outer ns es) w.3 ran)

  joined : (o : Open) (outer : List Open) (node : Node) (ns : Nodes) (es : List Event) (d : Node_ o outer node (events_of ns ++ es))
      → Taking o (node_name node) d.form d.after_enter ⊎ Passing o (node_name node) d.form d.after_enter
      → Ran (exit_of d.after_enter d.name d.cells) outer ns es → Ran o outer (Cons node ns) es
  joined o outer node ns es d (inl w) ran = took o outer node ns es d w ran
  joined o outer node ns es d (inr w) ran = passed o outer node ns es d w ran

  nothing_read : (o : Open) (outer : List Open) (at : Spot) (i : ℕ) (es : List Event) → fault_from names bytes (check_at o outer at) i es ≡ None → Ran o outer Nil es
  nothing_read o outer at i es h =
      record {
        rest = o.rest;
        last = o.last;
        cells = o.cells;
        above = o.above;
        at = at;
        i = i;
        fit = λ (h : may_end o.rest ≡ true). end h;
        counted = omega arith;
        loose = λ (h : is_loose o.rest ≡ true). h;
        others = h;
      }

  pub sound : (ns : Nodes) → HaveKinds ns → Sound ns
  sound Nil k o outer at i es h = nothing_read o outer at i es h
  sound (Cons (Around enter kids exit) ns) k o outer at i es h =
      let d = node_sound o outer at i enter kids exit (events_of ns ++ es) k.0 (sound kids k.0.2)
      (subst (λ (l : List Event). fault_from names bytes (check_at o outer at) i (enter ∷ l) ≡ None) (split kids ns exit es) h) in
      joined o outer (Around enter kids exit) ns es d d.way (sound ns k.1 (exit_of d.after_enter d.name d.cells) outer d.at d.i es d.others)
