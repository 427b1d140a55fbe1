-- What is open in a text, one more of it or one less.
use Rattle.std.proofs.Common.{◌≡◌, ℕ, List, [], ◌∷◌, ◌++◌, true, false, refl, sym, ap, subst, ◌∙◌}
use Rattle.std.proofs.lemmas.Bool.{or_right}
use Rattle.parse_inline.proofs.Prelude.{AreHeld, Entered, is_listed, leave_all, leave_open, Mark, Name, Open, same_name, sequence_name, Span, span_name}
use Rattle.parse_inline.proofs.Prelude.{SpanNames, text_name}
use Rattle.engine_events.specs.declared.event.Name.TheVariants as n
use Rattle.event_grammar.specs.Grammar.{text_names}
use Rattle.event_grammar.specs.Spans.{span_names}
use Rattle.event_grammar.specs.Void.{is_void}
use Rattle.inline_runs.specs.View.{span_view}
use Rattle.inline_runs.specs.declared.pair.Span.TheVariants as span
use Rattle.parse_output.specs.Children.{has_text, holds_text, may_enter, may_hold}
use Rattle.parse_output.proofs.Classes.{text_in, text_may}
use Rattle.parse_inline.specs.declared.opened.Open.TheVariants as held
use Rattle.parse_inline.specs.Leaving.{entered_all, entered_open}
use Rattle.parse_inline.proofs.LeavingAll.{leave_last}

pub span_holds_sequence : (s : Span) → may_hold (span_name s) (sequence_name s) ≡ true
unfolding may_hold
span_holds_sequence span.Emphasis = refl
span_holds_sequence other = refl

pub span_holds_text : (s : Span) → may_hold (span_name s) (text_name s) ≡ true
unfolding may_hold
span_holds_text span.Emphasis = refl
span_holds_text other = refl

-- the events of a span, and of its text, have rows
row_of_span : (s : Span) → is_void (span_name s) ≡ false
row_of_span span.Emphasis = refl
row_of_span other = refl

row_of_text : (s : Span) → is_void (text_name s) ≡ false
row_of_text span.Emphasis = refl
row_of_text other = refl

pub span_row : (s : Span) (names : SpanNames) → names ≡ span_names (span_view s) → is_void names.event ≡ false
span_row s names are = ap (λ (x : SpanNames). is_void x.event) are ∙ row_of_span s

pub span_text_row : (s : Span) (names : SpanNames) → names ≡ span_names (span_view s) → is_void names.text ≡ false
span_text_row s names are = ap (λ (x : SpanNames). is_void x.text) are ∙ row_of_text s

-- the start of something, and its end
leave_entered_span : (s : Span) (size : ℕ) (marks : List Mark) → leave_open (held.Span s size) (entered_open (held.Span s size) marks) ≡ marks
leave_entered_span span.Emphasis size marks = refl
leave_entered_span other size marks = refl

leave_entered : (o : Open) (marks : List Mark) → leave_open o (entered_open o marks) ≡ marks
leave_entered (held.Span s size) marks = leave_entered_span s size marks
leave_entered held.Link marks = refl
leave_entered held.Image marks = refl

text_of_span : (s : Span) → has_text (text_name s) ≡ true
unfolding may_hold has_text
text_of_span span.Emphasis = refl
text_of_span other = refl

label_text : has_text n.LabelText ≡ true
unfolding may_hold has_text
label_text = refl

open_text : (o : Open) (marks : List Mark) → holds_text (entered_open o marks) ≡ true
open_text (held.Span s size) marks = text_in (text_name s) (Entered (span_name s) ∷ marks) (text_of_span s)
open_text held.Link marks = text_in n.LabelText (Entered n.Label ∷ Entered n.Link ∷ marks) label_text
open_text held.Image marks = text_in n.LabelText (Entered n.Label ∷ Entered n.Image ∷ marks) label_text

entered_last : (os : List Open) (o : Open) (marks : List Mark) → entered_all (os ++ o ∷ []) marks ≡ entered_open o (entered_all os marks)
entered_last [] o marks = refl
entered_last (first ∷ os) o marks = entered_last os o (entered_open first marks)

all_text : (os : List Open) (marks : List Mark) → holds_text marks ≡ true → holds_text (entered_all os marks) ≡ true
all_text [] marks holds = holds
all_text (o ∷ os) marks holds = all_text os (entered_open o marks) (open_text o marks)

-- a text may go on in what is open
pub held_text : (os : List Open) (marks : List Mark) → AreHeld os marks → holds_text marks ≡ true
held_text os marks are = subst (λ ms. holds_text ms ≡ true) (sym are.entered) (all_text os (leave_all os marks) are.text)

pub none_held : (marks : List Mark) → holds_text marks ≡ true → AreHeld [] marks
none_held marks holds = record { entered = refl; text = holds }

-- one more
around_more : (os : List Open) (o : Open) (marks : List Mark) → leave_all (os ++ o ∷ []) (entered_open o marks) ≡ leave_all os marks
around_more os o marks = leave_last os o (entered_open o marks) ∙ ap (leave_all os) (leave_entered o marks)

held_more : (os : List Open) (o : Open) (marks : List Mark) → AreHeld os marks → AreHeld (os ++ o ∷ []) (entered_open o marks)
held_more os o marks are = record {
  entered =
      ap (entered_open o) are.entered ∙ sym (entered_last os o (leave_all os marks))
      ∙ ap (entered_all (os ++ o ∷ [])) (sym (around_more os o marks));
  text = ap holds_text (around_more os o marks) ∙ are.text;
}

pub record IsMore (os : List Open) (o : Open) (old new : List Mark) : Type 0 where
  pub held : AreHeld (os ++ o ∷ []) new
  pub around : leave_all (os ++ o ∷ []) new ≡ leave_all os old

pub more : (os : List Open) (o : Open) (old new : List Mark) → AreHeld os old → new ≡ entered_open o old → IsMore os o old new
more os o old new are is =
    subst (IsMore os o old) (sym is) (record { held = held_more os o old are; around = around_more os o old })

-- one less
pub held_last : (os : List Open) (o : Open) (marks : List Mark) → AreHeld (os ++ o ∷ []) marks → marks ≡ entered_open o (leave_open o marks)
held_last os o marks are =
    let base = leave_all (os ++ o ∷ []) marks in
    let is : marks ≡ entered_open o (entered_all os base) = are.entered ∙ entered_last os o base in
    is ∙ ap (entered_open o) (sym (ap (leave_open o) is ∙ leave_entered o (entered_all os base)))

pub held_less : (os : List Open) (o : Open) (marks : List Mark) → AreHeld (os ++ o ∷ []) marks → AreHeld os (leave_open o marks)
held_less os o marks are =
    let base = leave_all (os ++ o ∷ []) marks in
    record {
      entered =
          ap (leave_open o) (are.entered ∙ entered_last os o base) ∙ leave_entered o (entered_all os base)
          ∙ ap (entered_all os) (leave_last os o marks);
      text = ap holds_text (sym (leave_last os o marks)) ∙ are.text;
    }

-- a child of a text
pub text_child : (marks : List Mark) (name : Name) → holds_text marks ≡ true → is_listed text_names name ≡ true → may_enter marks name ≡ true
text_child marks name holds listed =
    text_may marks name holds
    (or_right (same_name n.SpaceOrTab name) (is_listed (n.LineEnding ∷ n.BlankLineEnding ∷ n.BlockQuotePrefix ∷ text_names) name)
    (or_right (same_name n.LineEnding name) (is_listed (n.BlankLineEnding ∷ n.BlockQuotePrefix ∷ text_names) name)
    (or_right (same_name n.BlankLineEnding name) (is_listed (n.BlockQuotePrefix ∷ text_names) name)
    (or_right (same_name n.BlockQuotePrefix name) (is_listed text_names name) listed))))
