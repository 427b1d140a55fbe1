-- Pieces that print their HTML wherever they stand.
use Rattle.std.proofs.Common.{◌≡◌, ℕ, List, [], ◌∷◌, ◌++◌, sym, ◌∙◌, append_assoc}
use Rattle.std.specs.List.{fold}
use Rattle.std.proofs.lemmas.List.{append-nil}
use Rattle.definition_text.proofs.Each.{Each}
use Rattle.definition_page.specs.Tags.{said_bytes, start_tag, end_tag, void_tag}
use Rattle.definition_page.specs.Pieces.{Piece, Open, Close, Void, Says, Eol, Fresh, Named, CallOf, CountOf, NoteStart, NoteEnd, print}
use Rattle.html_bytes.specs.Pieces.{pieces_html}

-- a piece that is no line ending, nor the start tag of a heading that gets an id
abbrev pub IsInLine : Piece → Type 0
IsInLine Eol = ⊥
IsInLine Fresh = ⊥
IsInLine (Named t text) = ⊥
IsInLine piece = Unit {0}

abbrev pub AreInLine : List Piece → Type 0
AreInLine pieces = Each IsInLine pieces

-- such pieces add their HTML
pub added : (default : List ℕ) (ps : List Piece) → AreInLine ps → (out : List ℕ) → fold (print default) out ps ≡ out ++ pieces_html ps
added default [] are out = sym (append-nil out)
added default (Open t ∷ ps) are out = added default ps are.1 (out ++ start_tag t) ∙ append_assoc out (start_tag t) (pieces_html ps)
added default (Close name ∷ ps) are out = added default ps are.1 (out ++ end_tag name) ∙ append_assoc out (end_tag name) (pieces_html ps)
added default (Void t ∷ ps) are out = added default ps are.1 (out ++ void_tag t) ∙ append_assoc out (void_tag t) (pieces_html ps)
added default (Says said ∷ ps) are out = added default ps are.1 (out ++ said_bytes said) ∙ append_assoc out (said_bytes said) (pieces_html ps)
added default (Eol ∷ ps) are out = absurd are.0
added default (Fresh ∷ ps) are out = absurd are.0
added default (Named t text ∷ ps) are out = absurd are.0
added default (CallOf place label ∷ ps) are out = added default ps are.1 out
added default (CountOf place label ∷ ps) are out = added default ps are.1 out
added default (NoteStart ∷ ps) are out = added default ps are.1 out
added default (NoteEnd ∷ ps) are out = added default ps are.1 out
