-- A definition begins with a bracket.
use Rattle.std.proofs.Common.{◌≡◌, ℕ, zero, suc, List, [], ◌∷◌, ◌++◌, eqb, false, Option, None, Some, refl, sym, ap, ◌∙◌, append_assoc, inl, inr}
use Rattle.std.specs.Prelude.{replicate}
use Rattle.std.specs.List.{slice_get}
use Rattle.std.proofs.lemmas.Bool.{cases_Bool, cond-false}
use Rattle.block_definitions.proofs.Prelude.{after_spaces, AreLines, begins_label, BlockLine, content_codes, content_of, definition_at, ending_code}
use Rattle.block_definitions.proofs.Prelude.{LineEnding, none-some, own_lines, Piece, piece_line, piece_lines, the_same}
use Rattle.markdown_options.specs.declared.line_ending.LineEnding.TheVariants.{CarriageReturnLineFeed, CarriageReturn, LineFeed}
use Rattle.definition_text.specs.Columns.{is_white, tab_column}
use Rattle.definition_text.specs.Content.{line_ending_code}
use Rattle.definition_inline.specs.Label.{label_at}
use Rattle.text_pieces.specs.ParagraphLines.{HaveNoEnding}
use Rattle.text_pieces.proofs.InLine.{plain_codes}
use Rattle.definition_inline.proofs.PartSteps.{with_label}
use Rattle.definition_inline.proofs.DefinitionParts.{spaces_pass, spaces_stop}
use Rattle.block_definitions.specs.Contents.{begins_with_bracket}

-- nothing, or a line ending and what follows it
abbrev EndsHere : List ℕ → Type 0
EndsHere rest = (label_at (after_spaces rest) ≡ None)

ending_is_no_label : (e : LineEnding) (rest : List ℕ) → label_at (after_spaces (line_ending_code e ∷ rest)) ≡ None
ending_is_no_label LineFeed rest = refl
ending_is_no_label CarriageReturn rest = refl
ending_is_no_label CarriageReturnLineFeed rest = refl

no_bracket : (c : ℕ) (cs : List ℕ) → eqb c 91 ≡ false → label_at (c ∷ cs) ≡ None
no_bracket c cs h = cond-false (eqb c 91) _ _ h

no_label : (codes rest : List ℕ) → begins_label (after_spaces codes) ≡ false → EndsHere rest → label_at (after_spaces (codes ++ rest)) ≡ None
no_label [] rest none ends = ends
no_label (c ∷ cs) rest none ends = elim (cases_Bool (is_white c)) [
  | inl white ↦ ap label_at (spaces_pass c (cs ++ rest) white) ∙ no_label cs rest (sym (ap begins_label (spaces_pass c cs white)) ∙ none) ends
  | inr other ↦ ap label_at (spaces_stop c (cs ++ rest) other) ∙ no_bracket c (cs ++ rest) (sym (ap begins_label (spaces_stop c cs other)) ∙ none)
]

-- columns that are left of a tab are passed
owed_passed : (n : ℕ) (text : List ℕ) → after_spaces (replicate n tab_column ++ text) ≡ after_spaces text
owed_passed zero text = refl
owed_passed (suc n) text = spaces_pass tab_column (replicate n tab_column ++ text) refl ∙ owed_passed n text

no_definition : (line : BlockLine) (others : List BlockLine) → AreLines (line ∷ others) → begins_label (after_spaces line.codes) ≡ false
    → definition_at (content_of (own_lines (line ∷ others))) ≡ None
no_definition line [] h none =
    ap with_label (ap (λ x. label_at (after_spaces x)) (append_assoc line.codes [] []) ∙ no_label line.codes [] none refl)
no_definition line (next ∷ others) h none =
    let rest = content_of (own_lines (next ∷ others)) in
    ap with_label (ap (λ x. label_at (after_spaces x)) (append_assoc line.codes (ending_code line.ending) rest)
    ∙ no_label line.codes (ending_code line.ending ++ rest) none
    (ap (λ (o : Option LineEnding). label_at (after_spaces (ending_code o ++ rest))) h.2.1 ∙ ending_is_no_label h.2.0 rest))

-- ---- of pieces

first_clean : (line : BlockLine) (others : List BlockLine) → AreLines (line ∷ others) → HaveNoEnding line.codes
first_clean line [] h = h.0
first_clean line (next ∷ others) h = h.0

owed_clean : (n : ℕ) (text : List ℕ) → HaveNoEnding (replicate n tab_column ++ text) → HaveNoEnding text
owed_clean zero text h = h
owed_clean (suc n) text h = owed_clean n text h.1

pub may_begin_not : (pieces : List Piece) (p : Piece) → slice_get pieces 0 ≡ Some p → AreLines (piece_lines pieces)
    → begins_label (after_spaces (content_codes p.text.now)) ≡ false
    → definition_at (content_of (own_lines (piece_lines pieces))) ≡ None
may_begin_not [] p first h none = absurd (none-some p first)
may_begin_not (q ∷ others) p first h none =
    let same : q ≡ p = the_same q p first in
    let text = q.text.now in
    let clean = owed_clean q.owed text (first_clean (piece_line q) (piece_lines others) h) in
    no_definition (piece_line q) (piece_lines others) h
    (ap begins_label (owed_passed q.owed text ∙ ap after_spaces (sym (plain_codes text clean)))
    ∙ ap (λ (x : Piece). begins_label (after_spaces (content_codes x.text.now))) same ∙ none)

-- what the first piece begins with
pub first_begins : (pieces : List Piece) (p : Piece) → slice_get pieces 0 ≡ Some p
    → begins_label (after_spaces (content_codes p.text.now)) ≡ begins_with_bracket pieces
first_begins [] p first = absurd (none-some p first)
first_begins (q ∷ others) p first = ap (λ (x : Piece). begins_label (after_spaces (content_codes x.text.now))) (sym (the_same q p first))
