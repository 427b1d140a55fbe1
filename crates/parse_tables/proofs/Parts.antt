-- A part of a line in an event, written as a content.
use Rattle.std.proofs.Common.{◌≡◌, ◌<◌, ℕ, List, [], ◌++◌, Option, length, ap, subst}
use Rattle.parse_tables.proofs.Prelude.{Around, AtEnding, BeginsLineAfter, cut, end_in, enter_at, Enters, EntersInLine, exit_at, ExitsInLine}
use Rattle.parse_tables.proofs.Prelude.{IsBefore, LineEnding, LineRest, Name, Nodes, standing, StandsInLine, Walk}
use Rattle.parse_tables.proofs.Prelude.{writes_around, WritesInContent, WritesTo}
use Rattle.parse_output.specs.declared.output.Output.{Output}
use Rattle.parse_lines.specs.InContent.{EntersInContent, ExitsInContent, Stop}
use Rattle.parse_lines.proofs.InContent.{line_enters, line_exits}
use Rattle.parse_lines.proofs.Parts.{part_begins, part_ends}
use Rattle.parse_tables.proofs.Steps.{dark_after, dark_front, open_both}

-- where a part of a line ends
abbrev pub stop_before : Option LineEnding → List LineRest → List ℕ → Stop
stop_before ending left behind = record { place = AtEnding ending left; behind = length behind }

module _ {A : Type 0} (text : List ℕ) (ending : Option LineEnding) (left : List LineRest) (behind : List ℕ) where
  -- a content begins, and an event is entered
  pub part_entered : (old begun entered : Walk A) (name : Name) (columns : ℕ) (bytes : List ℕ) → IsBefore text (bytes ++ behind) ending left old
      → BeginsLineAfter columns old begun → standing begun ≡ standing old → columns < 256
      → ((line : List ℕ) → StandsInLine text line begun → EntersInLine text name line begun entered) → standing entered ≡ standing begun
      → EntersInContent text name bytes (stop_before ending left behind) begun entered
  part_entered old begun entered name columns bytes b begins same few enters stays =
      let st = part_begins text ending left columns old begun bytes behind begins same few b.at b.order b.next b.bare b.end (dark_front bytes behind b.dark) in
      line_enters text (stop_before ending left behind) begun entered name bytes st.0 stays enters

  -- and all of it is written in the event
  pub part_left : (old begun entered texted new : Walk A) (name : Name) (bytes : List ℕ) (ns : Nodes) → IsBefore text (bytes ++ behind) ending left old
      → begun.out ≡ old.out → standing begun ≡ standing old → EntersInContent text name bytes (stop_before ending left behind) begun entered
      → WritesInContent text bytes ns [] (stop_before ending left behind) entered texted
      → ((line : List ℕ) → StandsInLine text line texted → ExitsInLine text name line texted new) → standing new ≡ standing texted
      → WritesTo text behind ending left (cut (Around (enter_at text name (end_in old.out)) ns (exit_at text name (end_in texted.out)))) old new
  part_left old begun entered texted new name bytes ns b out same e w exits stays =
      let x : ExitsInContent text name [] (stop_before ending left behind) texted new = line_exits text (stop_before ending left behind) texted new name [] w.stands stays exits in
      let end = part_ends text ending left old new bytes behind b.at b.next b.bare b.end x.stands in
      let entered_from : Enters text name old.out entered.out = subst (λ (o : Output A). Enters text name o entered.out) out e.enters in
      record {
        writes = writes_around text old.out entered.out texted.out new.out name ns entered_from w.writes x.exits;
        before = record { at = end.0; order = x.stands.stands.order; next = end.2; bare = end.1; end = end.3; dark = dark_after bytes behind b.dark };
        around = open_both (standing old) (standing begun) (standing new) (ap (λ s. s.on) same, ap (λ s. s.outermost) same)
            (open_both (standing begun) (standing entered) (standing new) e.around (open_both (standing entered) (standing texted) (standing new) w.around x.around));
      }
