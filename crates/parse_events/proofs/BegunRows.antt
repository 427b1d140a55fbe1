-- A parser stands in the line on which a row begins.
use Rattle.std.proofs.Common.{◌≡◌, Bool, true, false, List, [], ◌∷◌, Option, sym, ap, ◌∙◌, subst, map}
use Rattle.parse_events.proofs.Prelude.{always_go_on, AtEnding, bare_container, begun, BlockRow, Container, containers, ends_line, EndsInLine, Err}
use Rattle.parse_events.proofs.Prelude.{GoesOn, GoesOnInLine, HasSameOpen, is_in_line, IsLineBegun, IsNext, IsRowLaid, Level, LineEnding, LineRest}
use Rattle.parse_events.proofs.Prelude.{lines_may_be_begun, Ok, OnOk, Opened, Parser, Place, Reading, Result, standing, true≢false, WritesLine}
use Rattle.parse_events.specs.Parsing.{BeginsRow}
use Rattle.parse_events.proofs.Kept.{KeepsOpen, parsing_kept}
use Rattle.parse_events.proofs.Lines.{begun_stands}
use Rattle.parse_events.proofs.Rows.{only_ends}

-- a row still comes next after its line is begun
pub next_begun : (r : Reading) (o : Opened) (within inner : List Container) (p to : Place) (row : BlockRow) → ends_line row ≡ false
    → IsNext r.parse.constructs o within p row inner to → IsNext r.parse.constructs o within (begun r.parse.constructs within p) row inner to
next_begun r o within inner p to row other next = record {
  fits = next.fits;
  laid = lines_may_be_begun.others r.parse.constructs within inner row p to other next.laid;
  last = next.last;
}

pub in_line_begun : (r : Reading) (o : Opened) (within inner : List Container) (p to : Place) (row : BlockRow)
    → IsNext r.parse.constructs o within p row inner to → is_in_line (begun r.parse.constructs within p) ≡ true
in_line_begun r o within inner p to row next = lines_may_be_begun.in_line r.parse.constructs within inner row p to next.laid

abbrev is_some : List Container → Bool
is_some [] = false
is_some (c ∷ cs) = true

-- at the ending of a line, something is open
open_at_ending : (r : Reading) (o : Opened) (within inner : List Container) (p to : Place) (row : BlockRow) → ends_line row ≡ false
    → IsRowLaid r.parse.constructs within row p inner to → map bare_container within ≡ containers o.outer
    → (ending : Option LineEnding) (left : List LineRest) → p ≡ AtEnding ending left → o.outer ≡ [] → ⊥
open_at_ending r o within inner p to row other laid same ending left is none =
    let ends = only_ends r.parse.constructs within ending left row inner to other (subst (λ (q : Place). IsRowLaid r.parse.constructs within row q inner to) is laid) in
    true≢false (
    ap (λ (cs : List Container). is_some (map bare_container cs)) (sym ends.1) ∙ ap is_some same ∙ ap (λ (ls : List Level). is_some (containers ls)) none)

module _ {A : Type 0} where
  pub row_begins : (old new : Parser A) → KeepsOpen old new → IsLineBegun (standing old.walk) (standing new.walk) → WritesLine old.walk new.walk
      → HasSameOpen (standing old.walk) (standing new.walk) → (old.walk.is_in_line ≡ true → new.walk ≡ old.walk) → EndsInLine old.walk new.walk → BeginsRow old new
  row_begins old new keeps begins writes same stays line r text front o within inner p to row other next was =
      parsing_kept r text front o within within p (begun r.parse.constructs within p) old new was keeps (
      begun_stands r text front (always_go_on r text front) o within p old.walk new.walk (in_line_begun r o within inner p to row next)
      (open_at_ending r o within inner p to row other next.laid was.stands.same) was.stands begins writes same stays line)

  -- a row goes on from a place between lines, too
  pub begun_goes_on : (old mid new : Parser A) (r : Reading) (row : BlockRow) → ends_line row ≡ false → BeginsRow old mid → GoesOnInLine r row mid new
      → GoesOn r row old new
  begun_goes_on old mid new r row other begins goes text front o within inner p to next was =
      goes text front o within inner (begun r.parse.constructs within p) to (in_line_begun r o within inner p to row next) (next_begun r o within inner p to row other next)
      (begins r text front o within inner p to row other next was)

  -- if a call succeeds
  pub line_begun : {T E : Type 0} (result : Result T E) (old new : Parser A) → KeepsOpen old new → OnOk result (IsLineBegun (standing old.walk) (standing new.walk))
      → OnOk result (WritesLine old.walk new.walk) → OnOk result (HasSameOpen (standing old.walk) (standing new.walk))
      → (old.walk.is_in_line ≡ true → OnOk result (new.walk ≡ old.walk)) → OnOk result (EndsInLine old.walk new.walk) → OnOk result (BeginsRow old new)
  line_begun (Ok x) old new keeps begins writes same stays line = row_begins old new keeps begins writes same stays line
  line_begun (Err e) old new keeps begins writes same stays line = tt
