-- Events, checked one by one: what is open is a stack of rows that are not at their end.
use Rattle.std.specs.Prelude.{ℕ, ◌+◌, Bool, true, false, ◌==◌, ◌&&◌, ◌||◌, if◌then◌else◌, List, [], ◌∷◌, Option, None, Some}
use Rattle.std.specs.Prelude.{Result, Ok, Err}
use Rattle.engine_events.specs.Names.{same_name, is_listed}
use Rattle.engine_events.specs.declared.event.Event.{Event}
use Rattle.engine_events.specs.declared.event.Kind.{Kind}
use Rattle.engine_events.specs.declared.event.Kind.TheVariants.{Enter, Exit}
use Rattle.engine_events.specs.declared.event.Name.{Name}
use Rattle.engine_events.specs.declared.event.Name.TheVariants as n
use Rattle.event_faults.specs.declared.fault.FaultKind.{FaultKind}
use Rattle.event_faults.specs.declared.fault.FaultKind.TheVariants.{Mdx, Child, Place}
use Rattle.event_grammar.specs.declared.slot.Between.{Between}
use Rattle.event_grammar.specs.declared.slot.Between.TheVariants.{Lines}
use Rattle.event_grammar.specs.declared.slot.Form.{Form}
use Rattle.event_grammar.specs.declared.slot.Form.TheVariants.{Plain}
use Rattle.event_grammar.specs.declared.slot.Slot.{Slot}
use Rattle.event_grammar.specs.Grammar.{row, document_row, mdx_names, link_names, cell_names}
use Rattle.event_grammar.specs.Slots.{Taken, take_child, may_end, between_of, stands_between}
use Rattle.event_grammar.specs.declared.spot.Spot.{Spot}
use Rattle.event_grammar.specs.Points.{spot, reaches, is_spot, bytes_between, spot_of}
use Rattle.event_grammar.specs.Facts.{is_fact}

-- ---- what is open

-- An event that is open, or the document: its name, its form, the sibling before it, and where it began; what is left of its row; what may stand
-- between its children; whether it is in a link or a call; its last child; how many cells it has, how many the last row of a table in it has, and how many
-- it must have, if that is asked.
pub record Open : Type 0 where
  pub name : Option Name
  pub form : Form
  pub sibling : Option Name
  pub start : Spot
  pub rest : List Slot
  pub around : Between
  pub linked : Bool
  pub last : Option Name
  pub cells : ℕ
  pub above : ℕ
  pub limit : Option ℕ

abbrev pub the_document : Open
the_document =
    record {
      name = None;
      form = Plain;
      sibling = None;
      start = spot 0 0;
      rest = document_row;
      around = Lines;
      linked = false;
      last = None;
      cells = 0;
      above = 0;
      limit = None;
    }

-- how many cells a row of delimiters must have: as many as the row above it
abbrev pub limit_of : Open → Name → Option ℕ
limit_of o name = if same_name name n.GfmTableDelimiterRow then Some o.above else None

-- whether there are as many as are asked for
abbrev pub is_limit : Option ℕ → ℕ → Bool
is_limit None cells = false
is_limit (Some limit) cells = cells == limit

abbrev pub has_limit : Option ℕ → ℕ → Bool
has_limit None cells = true
has_limit (Some limit) cells = cells == limit

-- an event of this name begins here, as this form
abbrev pub opened : Open → Name → Form → Spot → Open
opened o name form at =
    record {
      name = Some name;
      form = form;
      sibling = o.last;
      start = at;
      rest = row name form;
      around = between_of (row name form) o.around name;
      linked = o.linked || is_listed link_names name;
      last = None;
      cells = 0;
      above = 0;
      limit = limit_of o name;
    }

-- what holds it, after a child that was taken
abbrev pub with_child : Open → Name → List Slot → Open
with_child o name rest =
    record o { rest = rest; last = Some name; cells = if is_listed cell_names name then o.cells + 1 else o.cells }

-- an event with so many cells was exited
abbrev pub with_above : Open → Name → ℕ → Open
with_above o name cells = record o { above = if same_name name n.GfmTableRow then cells else o.above }

-- ---- events

-- what is open, the innermost apart, and where the last event was
pub record Check : Type 0 where
  pub inner : Open
  pub outer : List Open
  pub spot : Spot

abbrev pub check_at : Open → List Open → Spot → Check
check_at inner outer at = record { inner = inner; outer = outer; spot = at }

abbrev pub at_start : Check
at_start = check_at the_document [] (spot 0 0)

-- a link in a link, or a cell too many
abbrev pub is_barred : Open → Name → Bool
is_barred o name = (o.linked && is_listed link_names name) || (is_listed cell_names name && is_limit o.limit o.cells)

-- a child is entered: it is taken by the row, or stands between
abbrev pub entered_as : Check → Spot → Name → Option Taken → Option Check
entered_as c at name (Some t) = Some (check_at (opened c.inner name t.form at) (with_child c.inner name t.rest ∷ c.outer) at)
entered_as c at name None =
    if stands_between c.inner.around name then Some (check_at (opened c.inner name Plain at) (c.inner ∷ c.outer) at) else None

abbrev pub entered : Check → Spot → Name → Option Check
entered c at name = if is_barred c.inner name then None else entered_as c at name (take_child c.inner.rest name)

-- whether the innermost event may end by an exit of this name
abbrev pub is_named : Option Name → Name → Bool
is_named None name = false
is_named (Some own) name = same_name own name

abbrev pub may_exit : Open → Name → Bool
may_exit o name = is_named o.name name && may_end o.rest && has_limit o.limit o.cells

abbrev pub exited_to : Check → Spot → Name → List Open → Option Check
exited_to c at name [] = None
exited_to c at name (o ∷ outer) = Some (check_at (with_above o name c.inner.cells) outer at)

abbrev pub exited : Check → Spot → Name → Option Check
exited c at name = if may_exit c.inner name then exited_to c at name c.outer else None

-- what is open after an event, if that can stand there
abbrev pub moved : Check → Kind → Name → Spot → Option Check
moved c Enter name at = entered c at name
moved c Exit name at = exited c at name

module _ (names : List ℕ → Option (List ℕ)) (bytes : List ℕ) where
  -- what is asked of the bytes of the innermost event where it ends
  abbrev pub fact_at : Open → Kind → Name → Spot → Bool
  fact_at o Enter name at = true
  fact_at o Exit name at = is_fact names name o.form o.sibling (bytes_between bytes o.start at)

  -- whether the place of an event is one
  abbrev pub is_place : Check → Event → Bool
  is_place c e = reaches c.spot (spot_of e) && is_spot bytes (spot_of e) && fact_at c.inner e.kind e.name (spot_of e)

  abbrev pub placed : Bool → Check → Result Check FaultKind
  placed true c = Ok c
  placed false c = Err Place

  abbrev pub next_of : Check → Event → Option Check → Result Check FaultKind
  next_of c e None = Err Child
  next_of c e (Some next) = placed (is_place c e) next

  -- one more event
  abbrev pub step : Check → Event → Result Check FaultKind
  step c e = if is_listed mdx_names e.name then Err Mdx else next_of c e (moved c e.kind e.name (spot_of e))
