-- What is open in a text, and what is open after its ends.
use Rattle.std.specs.Prelude.{◌≡◌, true, List, [], ◌∷◌}
use Rattle.engine_events.specs.declared.event.Name.{Name}
use Rattle.engine_events.specs.declared.event.Name.TheVariants as n
use Rattle.inline_runs.specs.declared.pair.Span.{Span}
use Rattle.inline_runs.specs.View.{span_view}
use Rattle.event_grammar.specs.Spans.{span_names}
use Rattle.parse_output.specs.Open.{Mark, Entered, closed}
use Rattle.parse_output.specs.Children.{holds_text}
use Rattle.parse_lines.specs.declared.walk.Walk.{Walk}
use Rattle.parse_lines.specs.Open.{still_open}
use Rattle.parse_inline.specs.declared.opened.Open.{Open}
use Rattle.parse_inline.specs.declared.opened.Open.TheVariants as held

-- the names of the events of a span
abbrev pub span_name : Span → Name
span_name span = (span_names (span_view span)).event

abbrev pub text_name : Span → Name
text_name span = (span_names (span_view span)).text

abbrev pub sequence_name : Span → Name
sequence_name span = (span_names (span_view span)).sequence

-- after the end of a label, and of the link or the image that it is in
abbrev pub leave_label : List Mark → List Mark
leave_label marks = closed n.Label (closed n.LabelText marks)

-- after the end of what is open
abbrev pub leave_open : Open → List Mark → List Mark
leave_open (held.Span s size) marks = closed (span_name s) (closed (text_name s) marks)
leave_open held.Link marks = closed n.Link (leave_label marks)
leave_open held.Image marks = closed n.Image (leave_label marks)

-- after the ends of all of these, the innermost of which is the last
abbrev pub leave_all : List Open → List Mark → List Mark
leave_all [] marks = marks
leave_all (o ∷ os) marks = leave_open o (leave_all os marks)

-- what is open in a walk, but for these
abbrev pub open_around : {A : Type 0} → List Open → Walk A → List Mark
open_around os w = leave_all os (still_open w)

-- what was entered at the start of what is open
abbrev pub entered_open : Open → List Mark → List Mark
entered_open (held.Span s size) marks = Entered (text_name s) ∷ Entered (span_name s) ∷ marks
entered_open held.Link marks = Entered n.LabelText ∷ Entered n.Label ∷ Entered n.Link ∷ marks
entered_open held.Image marks = Entered n.LabelText ∷ Entered n.Label ∷ Entered n.Image ∷ marks

-- the same of all of these, the innermost of which is the last
abbrev pub entered_all : List Open → List Mark → List Mark
entered_all [] marks = marks
entered_all (o ∷ os) marks = entered_all os (entered_open o marks)

-- these are the innermost that are open, in what may hold a text
pub record AreHeld (os : List Open) (marks : List Mark) : Type 0 where
  pub entered : marks ≡ entered_all os (leave_all os marks)
  pub text : holds_text (leave_all os marks) ≡ true
