-- Escapes, references and strings fill their rows of the grammar (CommonMark 2.4 and 2.5).
use Rattle.std.proofs.Common.{◌≡◌, ◌+◌, ℕ, List, [], ◌∷◌, Some, refl}
use Rattle.engine_events.specs.declared.event.Name.{Name}
use Rattle.engine_events.specs.declared.event.Name.TheVariants as n
use Rattle.event_grammar.specs.declared.slot.Between.{Between}
use Rattle.event_grammar.specs.declared.slot.Between.TheVariants.{Spaces}
use Rattle.event_grammar.specs.declared.slot.Form.TheVariants.{Plain}
use Rattle.event_grammar.specs.declared.slot.Slot.{Slot}
use Rattle.event_grammar.specs.Grammar.{lead, one as one_slot, opt, row}
use Rattle.event_grammar.specs.Slots.{may_end, take_child}
use Rattle.parse_slots.specs.Left.{Fill, took}
use Rattle.parse_slots.proofs.Steps.{fill_both, fill_taken, filled_void}
use Rattle.parse_strings.proofs.Prelude.{append, AreMarks, mark_nodes, one, token}
use Rattle.std.proofs.Common.{true}

-- a row takes what holds no other
pub token_taken : (around : Between) (slots : List Slot) (name : Name) (rest : List Slot) (text : List ℕ) (index size : ℕ)
    → take_child slots name ≡ Some (took Plain rest) → may_end (row name Plain) ≡ true → Fill around slots (one (token text name index size)) rest
token_taken around slots name rest text index size takes may =
    fill_taken around slots name Plain rest (token text name index size) refl takes (filled_void around Plain name (token text name index size) refl refl may)

-- a backslash and a byte
pub escape_fill : (text : List ℕ) (index later : ℕ)
    → Fill Spaces (row n.CharacterEscape Plain) (append (one (token text n.CharacterEscapeMarker index 1)) (one (token text n.CharacterEscapeValue later 1))) []
escape_fill text index later =
    fill_both (token_taken Spaces (row n.CharacterEscape Plain) n.CharacterEscapeMarker (one_slot n.CharacterEscapeValue ∷ []) text index 1 refl refl)
    (token_taken Spaces (one_slot n.CharacterEscapeValue ∷ []) n.CharacterEscapeValue [] text later 1 refl refl)

-- what follows the marks of a reference
abbrev semi : List Slot
semi = one_slot n.CharacterReferenceMarkerSemi ∷ []

abbrev value : List Slot
value = one_slot n.CharacterReferenceValue ∷ semi

abbrev marked : List Slot
marked = opt n.CharacterReferenceMarkerHexadecimal ∷ value

abbrev unmarked : List Slot
unmarked = lead n.CharacterReferenceMarkerNumeric ∷ marked

value_fill : (slots : List Slot) (text : List ℕ) (k l size : ℕ) → take_child slots n.CharacterReferenceValue ≡ Some (took Plain semi)
    → Fill Spaces slots (append (one (token text n.CharacterReferenceValue k size)) (one (token text n.CharacterReferenceMarkerSemi l 1))) []
value_fill slots text k l size takes =
    fill_both (token_taken Spaces slots n.CharacterReferenceValue semi text k size takes refl)
    (token_taken Spaces semi n.CharacterReferenceMarkerSemi [] text l 1 refl refl)

-- the marks, the value and the semicolon
marks_fill : (text : List ℕ) (j k l size : ℕ) (marks : List ℕ) (first : ℕ) → AreMarks marks first
    → Fill Spaces unmarked
    (append (mark_nodes text j marks) (append (one (token text n.CharacterReferenceValue k size)) (one (token text n.CharacterReferenceMarkerSemi l 1)))) []
marks_fill text j k l size [] first are = value_fill unmarked text k l size refl
marks_fill text j k l size (m ∷ []) first are =
    fill_both (token_taken Spaces unmarked n.CharacterReferenceMarkerNumeric marked text j 1 refl refl) (value_fill marked text k l size refl)
marks_fill text j k l size (m ∷ x ∷ []) first are =
    fill_both
    (fill_both (token_taken Spaces unmarked n.CharacterReferenceMarkerNumeric marked text j 1 refl refl)
    (token_taken Spaces marked n.CharacterReferenceMarkerHexadecimal value text (j + 1) 1 refl refl))
    (value_fill value text k l size refl)
marks_fill text j k l size (m ∷ x ∷ y ∷ ms) first are = absurd are

-- a reference
pub reference_fill : (text : List ℕ) (i j k l size : ℕ) (marks : List ℕ) (first : ℕ) → AreMarks marks first
    → Fill Spaces (row n.CharacterReference Plain)
    (append (one (token text n.CharacterReferenceMarker i 1))
    (append (mark_nodes text j marks) (append (one (token text n.CharacterReferenceValue k size)) (one (token text n.CharacterReferenceMarkerSemi l 1))))) []
reference_fill text i j k l size marks first are =
    fill_both (token_taken Spaces (row n.CharacterReference Plain) n.CharacterReferenceMarker unmarked text i 1 refl refl)
    (marks_fill text j k l size marks first are)
