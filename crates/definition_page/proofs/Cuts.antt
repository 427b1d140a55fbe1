-- Pieces after one another: their calls, what they are outside of footnotes, and the content of each footnote.
use Rattle.std.proofs.Common.{◌≡◌, ℕ, zero, suc, List, [], ◌∷◌, ◌++◌, reverse, refl, sym, ap, ◌∙◌, append_assoc}
use Rattle.std.proofs.lemmas.List.{append-nil}
use Rattle.markdown_compile_options.specs.declared.configuration.CompileOptions.{CompileOptions}
use Rattle.definition_page.specs.Pieces.{Piece, CallOf, CountOf, NoteStart, NoteEnd}
use Rattle.definition_page.specs.GfmLabelStartFootnote.{call_pieces}
use Rattle.definition_page.specs.Layout.{NamedCall, named_call, named_calls, times, call_of, with_calls, content, contents}
use Rattle.definition_page.proofs.PlainLayout.{ArePlain, turned, plain_content, plain_outer, plain_contents}

-- ---- calls

-- those of pieces after one another
pub calls_append : (ps qs : List Piece) → named_calls (ps ++ qs) ≡ named_calls ps ++ named_calls qs
calls_append [] qs = refl
calls_append (CallOf place label ∷ ps) qs = ap (λ cs. named_call place label ∷ cs) (calls_append ps qs)
calls_append (CountOf place label ∷ ps) qs = ap (λ cs. named_call place label ∷ cs) (calls_append ps qs)
calls_append (p ∷ ps) qs = calls_append ps qs

-- what they print
pub shown_append : (options : CompileOptions) (firsts earlier : List NamedCall) (ps qs : List Piece)
    → with_calls options firsts earlier (ps ++ qs)
    ≡ with_calls options firsts earlier ps ++ with_calls options firsts (earlier ++ named_calls ps) qs
shown_append options firsts earlier [] qs = ap (λ cs. with_calls options firsts cs qs) (sym (append-nil earlier))
shown_append options firsts earlier (CallOf place label ∷ ps) qs =
    let c = named_call place label in
    let call = call_pieces options (call_of place (suc (times place earlier)) 1 firsts) in
    let inner = with_calls options firsts (earlier ++ c ∷ []) ps in
    ap (λ rest. call ++ rest)
    (shown_append options firsts (earlier ++ c ∷ []) ps qs
    ∙ ap (λ cs. inner ++ with_calls options firsts cs qs) (append_assoc earlier (c ∷ []) (named_calls ps)))
    ∙ sym (append_assoc call inner (with_calls options firsts (earlier ++ c ∷ named_calls ps) qs))
shown_append options firsts earlier (CountOf place label ∷ ps) qs =
    let c = named_call place label in
    let inner = with_calls options firsts (earlier ++ c ∷ []) ps in
    shown_append options firsts (earlier ++ c ∷ []) ps qs
    ∙ ap (λ cs. inner ++ with_calls options firsts cs qs) (append_assoc earlier (c ∷ []) (named_calls ps))
shown_append options firsts earlier (p ∷ ps) qs = ap (λ rest. p ∷ rest) (shown_append options firsts earlier ps qs)

-- ---- cuts

-- pieces are so much more of what stands around them, nothing of what stands further out, and have so many contents, whatever stands before and after
pub record Cut (ps outside : List Piece) (insides : List (List Piece)) : Type 0 where
  pub around : (before : List Piece) → content zero (reverse ps ++ before) ≡ content zero before ++ outside
  pub further_out : (k : ℕ) (before : List Piece) → content (suc k) (reverse ps ++ before) ≡ content (suc k) before
  pub ended : (before later : List Piece) → contents before (ps ++ later) ≡ insides ++ contents (reverse ps ++ before) later

-- what stands outside of all footnotes
pub outside_is : (ps outside : List Piece) (insides : List (List Piece)) → Cut ps outside insides → content zero (reverse ps) ≡ outside
outside_is ps outside insides c = ap (content zero) (sym (append-nil (reverse ps))) ∙ c.around []

-- the contents of all
pub insides_are : (ps outside : List Piece) (insides : List (List Piece)) → Cut ps outside insides → contents [] ps ≡ insides
insides_are ps outside insides c = ap (contents []) (sym (append-nil ps)) ∙ c.ended [] [] ∙ append-nil insides

-- pieces that footnotes don't need
pub cut_plain : (ps : List Piece) → ArePlain ps → Cut ps ps []
cut_plain ps are = record {
  around = λ before. plain_content ps before are;
  further_out = λ k before. plain_outer k ps before are;
  ended = λ before later. plain_contents ps before later are;
}

-- pieces after one another
pub cut_append : (ps qs outside other : List Piece) (insides others : List (List Piece)) → Cut ps outside insides → Cut qs other others
    → Cut (ps ++ qs) (outside ++ other) (insides ++ others)
cut_append ps qs outside other insides others a b = record {
  around = λ before.
      ap (content zero) (turned ps qs before) ∙ b.around (reverse ps ++ before) ∙ ap (λ x. x ++ other) (a.around before)
      ∙ append_assoc (content zero before) outside other;
  further_out = λ k before. ap (content (suc k)) (turned ps qs before) ∙ b.further_out k (reverse ps ++ before) ∙ a.further_out k before;
  ended = λ before later.
      ap (contents before) (append_assoc ps qs later) ∙ a.ended before (qs ++ later)
      ∙ ap (λ x. insides ++ x) (b.ended (reverse ps ++ before) later)
      ∙ sym (append_assoc insides others (contents (reverse qs ++ (reverse ps ++ before)) later))
      ∙ ap (λ all. (insides ++ others) ++ contents all later) (sym (turned ps qs before));
}

-- a footnote before other pieces, from the last one to the first
note_turned : (ps before : List Piece) → reverse (NoteStart ∷ (ps ++ NoteEnd ∷ [])) ++ before ≡ NoteEnd ∷ (reverse ps ++ NoteStart ∷ before)
note_turned ps before = turned (NoteStart ∷ []) (ps ++ NoteEnd ∷ []) before ∙ turned ps (NoteEnd ∷ []) (NoteStart ∷ before)

-- a footnote around pieces
pub cut_note : (ps outside : List Piece) (insides : List (List Piece)) → Cut ps outside insides
    → Cut (NoteStart ∷ (ps ++ NoteEnd ∷ [])) [] (insides ++ outside ∷ [])
cut_note ps outside insides c = record {
  around = λ before.
      ap (content zero) (note_turned ps before) ∙ c.further_out zero (NoteStart ∷ before) ∙ sym (append-nil (content zero before));
  further_out = λ k before. ap (content (suc k)) (note_turned ps before) ∙ c.further_out (suc k) (NoteStart ∷ before);
  ended = λ before later.
      let rest = contents (NoteEnd ∷ (reverse ps ++ NoteStart ∷ before)) later in
      ap (contents (NoteStart ∷ before)) (append_assoc ps (NoteEnd ∷ []) later) ∙ c.ended (NoteStart ∷ before) (NoteEnd ∷ later)
      ∙ ap (λ inside. insides ++ inside ∷ rest) (c.around (NoteStart ∷ before))
      ∙ sym (append_assoc insides (outside ∷ []) rest)
      ∙ ap (λ all. (insides ++ outside ∷ []) ++ contents all later) (sym (note_turned ps before));
}
