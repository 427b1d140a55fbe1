-- The marker of an item that starts tells whether it has a number (CommonMark 5.2).
use Rattle.std.proofs.Common.{◌≡◌, ℕ, Bool, true, ◌+◌, ◌&&◌, ◌||◌, ◌==◌, leb, not, if◌then◌else◌, [], ◌∷◌, Option, None, Some, inl, inr, refl, sym, ap, ◌∙◌, subst, take, drop}
use Rattle.std.proofs.lemmas.Bool.{cond_both, eqb-true, or_cases}
use Rattle.std.specs.List.{prefix_len}
use Rattle.std.specs.Option.{IfSome}
use Rattle.markdown_options.specs.declared.configuration.Constructs.{Constructs}
use Rattle.definition_text.specs.Columns.{Rest, bare, indent}
use Rattle.definition_text.specs.Indents.{small_indent}
use Rattle.definition_text.specs.Ascii.{asterisk, dot, hyphen, plus, right_parenthesis}
use Rattle.definition_block.specs.Container.{Container, Footnote, Item, Quote}
use Rattle.definition_block.specs.ContainerLine.{ContainerLine}
use Rattle.definition_block.specs.ContainerStart.{ContainerStart}
use Rattle.definition_block.specs.Containers.{footnote_or, quote_or, starts}
use Rattle.definition_block.specs.GfmFootnoteDefinition.{footnote_mark, footnote_of, footnote_start}
use Rattle.definition_block.specs.BlockQuote.{quote_prefix}
use Rattle.definition_block.specs.ListItem.{Marker, after_number, bullet, is_digit, is_item, item, item_after, item_start, marker, marker_of, number_of}
use Rattle.definition_block.specs.ThematicBreak.{is_break}
use Rattle.definition_text.specs.Content.{Part}
use Rattle.parse_open.specs.Filled.{marker_list}
use Rattle.parse_open.specs.Levels.{list_name}

-- a marker and its number name the same list
record ListsAgree (o : Option Marker) : Type 0 where
  lists : IfSome o (λ m. list_name m.number ≡ marker_list m.byte)

no_marker : ListsAgree None
no_marker = record { lists = tt }

abbrev pub IsMarkedAlike : Container → Type 0
IsMarkedAlike Quote = Unit {0}
IsMarkedAlike (Item item) = list_name item.number ≡ marker_list item.marker
IsMarkedAlike (Footnote label) = Unit {0}

record StartAgrees (o : Option ContainerStart) : Type 0 where
  start : IfSome o (λ s. IsMarkedAlike s.container)

no_start : StartAgrees None
no_start = record { start = tt }

-- a byte that is this one
of_byte : (code byte size : ℕ) (number : Option ℕ) (rest : Rest) → list_name number ≡ marker_list byte → (code == byte) ≡ true
    → ListsAgree (Some (marker_of code number size rest))
of_byte code byte size number rest is same = record { lists = is ∙ sym (ap marker_list (eqb-true code byte same)) }

bullet_byte : (code : ℕ) (codes : Rest) → ((code == hyphen) || (code == plus) || (code == asterisk)) ≡ true
    → ListsAgree (Some (marker_of code None 1 codes))
bullet_byte code codes is =
    elim (or_cases ((code == hyphen) || (code == plus)) (code == asterisk) is) [
      | inl first ↦
          elim (or_cases (code == hyphen) (code == plus) first) [
            | inl a ↦ of_byte code hyphen 1 None codes refl a
            | inr b ↦ of_byte code plus 1 None codes refl b
          ]
      | inr c ↦ of_byte code asterisk 1 None codes refl c
    ]

bullet_agrees : (rest : Rest) → ListsAgree (bullet rest)
bullet_agrees [] = no_marker
bullet_agrees (code ∷ codes) =
    cond_both ((code == hyphen) || (code == plus) || (code == asterisk)) (Some (marker_of code None 1 codes)) None ListsAgree (bullet_byte code codes)
    (λ none. no_marker)

delimiter_byte : (number digits code : ℕ) (codes : Rest) → ((code == dot) || (code == right_parenthesis)) ≡ true
    → ListsAgree (Some (marker_of code (Some number) (digits + 1) codes))
delimiter_byte number digits code codes is =
    elim (or_cases (code == dot) (code == right_parenthesis) is) [
      | inl a ↦ of_byte code dot (digits + 1) (Some number) codes refl a
      | inr b ↦ of_byte code right_parenthesis (digits + 1) (Some number) codes refl b
    ]

number_agrees : (number digits : ℕ) (rest : Rest) → ListsAgree (after_number number digits rest)
number_agrees number digits [] = no_marker
number_agrees number digits (code ∷ codes) =
    cond_both ((code == dot) || (code == right_parenthesis)) (Some (marker_of code (Some number) (digits + 1) codes)) None ListsAgree
    (delimiter_byte number digits code codes) (λ none. no_marker)

marker_agrees : (rest : Rest) → ListsAgree (marker rest)
marker_agrees rest =
    let digits = prefix_len is_digit rest in
    let numbered = after_number (number_of (take digits rest)) digits (drop digits rest) in
    cond_both (digits == 0) (bullet rest) (if leb digits 9 then numbered else None) ListsAgree (λ none. bullet_agrees rest)
    (λ some. cond_both (leb digits 9) numbered None ListsAgree (λ few. number_agrees (number_of (take digits rest)) digits (drop digits rest))
    (λ many. no_marker))

item_agrees : (columns : ℕ) (interrupts : Bool) (o : Option Marker) → ListsAgree o → StartAgrees (item_after columns interrupts o)
item_agrees columns interrupts None h = no_start
item_agrees columns interrupts (Some m) h =
    cond_both (is_item interrupts m) (Some (item columns m)) None StartAgrees (λ is. record { start = h.lists }) (λ none. no_start)

quote_agrees : (other : Option ContainerStart) (o : Option ContainerLine) → StartAgrees other → StartAgrees (quote_or other o)
quote_agrees other None h = h
quote_agrees other (Some line) h = record { start = tt }

footnote_agrees : (other o : Option ContainerStart) → StartAgrees other → StartAgrees o → StartAgrees (footnote_or other o)
footnote_agrees other None h k = h
footnote_agrees other (Some footnote) h k = k

label_agrees : (o : Option Part) → StartAgrees (footnote_of o)
label_agrees None = no_start
label_agrees (Some mark) = record { start = tt }

start_agrees : (on : Constructs) (interrupts : Bool) (rest : Rest) → StartAgrees (starts on interrupts rest)
start_agrees on interrupts rest =
    quote_agrees (footnote_or (item_start on interrupts rest) (footnote_start on rest)) (quote_prefix on rest)
    (footnote_agrees (item_start on interrupts rest) (footnote_start on rest)
    (cond_both (on.list_item && small_indent on rest && not (is_break on rest)) (item_after (indent rest) interrupts (marker (bare rest))) None StartAgrees
    (λ may. item_agrees (indent rest) interrupts (marker (bare rest)) (marker_agrees (bare rest))) (λ none. no_start))
    (cond_both (on.gfm_footnote_definition && small_indent on rest) (footnote_of (footnote_mark (bare rest))) None StartAgrees
    (λ may. label_agrees (footnote_mark (bare rest))) (λ none. no_start)))

-- an item that starts has a number if its marker is that of an ordered list
pub marked_alike : (on : Constructs) (interrupts : Bool) (rest : Rest) (found : ContainerStart) → starts on interrupts rest ≡ Some found
    → IsMarkedAlike found.container
marked_alike on interrupts rest found is = (subst StartAgrees is (start_agrees on interrupts rest)).start
