-- Items that start have markers, and footnote definitions labels.
use Rattle.std.proofs.Common.{◌≡◌, ℕ, ◌+◌, ◌≤◌, lit≤, inl, inr, List, [], ◌∷◌, Option, None, Some, Bool, true, false, not, ◌&&◌, ◌||◌, ◌==◌, leb, sym, subst}
use Rattle.std.proofs.Common.{take, drop}
use Rattle.html_rows.proofs.Prelude.{bare, Constructs, ContainerLine, ContainerStart, IfSome, indent, IsPrintableContainer, prefix_len, Rest, small_indent}
use Rattle.html_rows.proofs.Prelude.{starts}
use Rattle.std.proofs.lemmas.Bool.{or_cases, eqb-true}
use Rattle.definition_block.specs.ThematicBreak.{is_break}
use Rattle.definition_block.specs.BlockQuote.{after_byte, quote_prefix}
use Rattle.definition_block.specs.ListItem.{Marker, marker_of, is_digit, number_of, bullet, after_number, marker, is_item, item, item_after, item_start}
use Rattle.definition_text.specs.Content.{Part, closed_by}
use Rattle.definition_inline.specs.Label.{label_end}
use Rattle.definition_block.specs.GfmFootnoteDefinition.{is_footnote_label, label_before, with_colon, after_open, after_bracket, footnote_mark, footnote_of}
use Rattle.definition_block.specs.GfmFootnoteDefinition.{footnote_start}
use Rattle.definition_block.specs.Containers.{quote_or, footnote_or}
use Rattle.html_rows.proofs.Choose.{choose_if, choose}

record MarkerFits (o : Option Marker) : Type 0 where
  byte : IfSome o (λ m. 1 ≤ m.byte)

no_marker : MarkerFits None
no_marker = record { byte = tt }

some_marker : (byte size : ℕ) (number : Option ℕ) (rest : Rest) → 1 ≤ byte → MarkerFits (Some (marker_of byte number size rest))
some_marker byte size number rest h = record { byte = h }

-- a code that is one of these
is_some_byte : (code byte : ℕ) → 1 ≤ byte → (code == byte) ≡ true → 1 ≤ code
is_some_byte code byte some same = subst (λ n. 1 ≤ n) (sym (eqb-true code byte same)) some

delimiter_byte : (code : ℕ) → ((code == 46) || (code == 41)) ≡ true → 1 ≤ code
delimiter_byte code h = elim (or_cases (code == 46) (code == 41) h) [
  | inl a ↦ is_some_byte code 46 (lit≤ tt) a
  | inr b ↦ is_some_byte code 41 (lit≤ tt) b
]

bullet_byte : (code : ℕ) → ((code == 45) || (code == 43) || (code == 42)) ≡ true → 1 ≤ code
bullet_byte code h = elim (or_cases ((code == 45) || (code == 43)) (code == 42) h) [
  | inl a ↦ elim (or_cases (code == 45) (code == 43) a) [
    | inl x ↦ is_some_byte code 45 (lit≤ tt) x
    | inr y ↦ is_some_byte code 43 (lit≤ tt) y
  ]
  | inr b ↦ is_some_byte code 42 (lit≤ tt) b
]

bullet_fits : (rest : Rest) → MarkerFits (bullet rest)
bullet_fits [] = no_marker
bullet_fits (code ∷ codes) =
    choose_if MarkerFits ((code == 45) || (code == 43) || (code == 42)) _ _ (λ h. some_marker code 1 None codes (bullet_byte code h)) no_marker

delimiter_fits : (number digits : ℕ) (rest : Rest) → MarkerFits (after_number number digits rest)
delimiter_fits number digits [] = no_marker
delimiter_fits number digits (code ∷ codes) =
    choose_if MarkerFits ((code == 46) || (code == 41)) _ _ (λ h. some_marker code (digits + 1) (Some number) codes (delimiter_byte code h)) no_marker

marker_fits : (rest : Rest) → MarkerFits (marker rest)
marker_fits rest =
    let digits = prefix_len is_digit rest in
    choose MarkerFits (digits == 0) _ _ (bullet_fits rest)
    (choose MarkerFits (leb digits 9) _ _ (delimiter_fits (number_of (take digits rest)) digits (drop digits rest)) no_marker)

-- a container that starts
pub record StartFits (o : Option ContainerStart) : Type 0 where
  pub container : IfSome o (λ s. IsPrintableContainer s.container)

none_starts : StartFits None
none_starts = record { container = tt }

item_after_fits : (columns : ℕ) (interrupts : Bool) (o : Option Marker) → MarkerFits o → StartFits (item_after columns interrupts o)
item_after_fits columns interrupts None h = none_starts
item_after_fits columns interrupts (Some m) h = choose StartFits (is_item interrupts m) (Some (item columns m)) None record { container = h.byte } none_starts

quote_or_fits : (other : Option ContainerStart) (o : Option ContainerLine) → StartFits other → StartFits (quote_or other o)
quote_or_fits other None h = h
quote_or_fits other (Some line) h = record { container = tt }

abbrev LabelFits : Option Part → Type 0
LabelFits o = IfSome o (λ mark. is_footnote_label mark.text ≡ true)

label_before_fits : (label : List ℕ) (o : Option Rest) → is_footnote_label label ≡ true → LabelFits (label_before label o)
label_before_fits label None h = tt
label_before_fits label (Some rest) h = h

with_colon_fits : (o : Option Part) → LabelFits (with_colon o)
with_colon_fits None = tt
with_colon_fits (Some label) =
    choose_if LabelFits (is_footnote_label label.text) _ None (label_before_fits label.text (after_byte 58 label.rest)) tt

after_open_fits : (o : Option Rest) → LabelFits (after_open o)
after_open_fits None = tt
after_open_fits (Some rest) = with_colon_fits (closed_by rest (label_end false rest))

mark_fits : (o : Option Rest) → LabelFits (after_bracket o)
mark_fits None = tt
mark_fits (Some rest) = after_open_fits (after_byte 94 rest)

footnote_of_fits : (o : Option Part) → LabelFits o → StartFits (footnote_of o)
footnote_of_fits None h = none_starts
footnote_of_fits (Some mark) h = record { container = h }

footnote_or_fits : (other o : Option ContainerStart) → StartFits other → StartFits o → StartFits (footnote_or other o)
footnote_or_fits other None h k = h
footnote_or_fits other (Some footnote) h k = k

pub starts_fits : (on : Constructs) (interrupts : Bool) (rest : Rest) → StartFits (starts on interrupts rest)
starts_fits on interrupts rest =
    quote_or_fits (footnote_or (item_start on interrupts rest) (footnote_start on rest)) (quote_prefix on rest)
    (footnote_or_fits (item_start on interrupts rest) (footnote_start on rest)
    (choose StartFits (on.list_item && small_indent on rest && not (is_break on rest)) _ _
    (item_after_fits (indent rest) interrupts (marker (bare rest)) (marker_fits (bare rest))) none_starts)
    (choose StartFits (on.gfm_footnote_definition && small_indent on rest) _ _
    (footnote_of_fits (footnote_mark (bare rest)) (mark_fits (after_byte 91 (bare rest)))) none_starts))
