-- Pieces that, laid out, add a page that is safe but for marks to what was printed.
use Rattle.std.proofs.Common.{◌≡◌, ℕ, Bool, List, [], ◌∷◌, ◌++◌, true, sym, refl, ap, ◌∙◌, subst, append_assoc, append-nil}
use Rattle.std.specs.List.{fold}
use Rattle.std.proofs.lemmas.Bool.{cond_both}
use Rattle.std.proofs.lemmas.List.Sums.{fold-append}
use Rattle.definition_page.specs.Tags.{PrintedPart, Words, AsItIs, Marked, EndOfLine, Number, marked, said_bytes, Tag, start_tag, end_tag, void_tag}
use Rattle.definition_page.specs.Pieces.{Piece, Close, Void, Says, Eol, Fresh, is_fresh, print}
use Rattle.definition_page.specs.InlinePieces.{element}
use Rattle.html_safe_page.specs.Table.{start_rows, start_rows_of, void_rows, void_rows_of}
use Rattle.html_safe_page.specs.declared.table.TagTable.{TagTable}
use Rattle.laws_safe_page.proofs.Marked.{IsPage, in_a_row, text_page, marked_page}
use Rattle.laws_safe_page.proofs.Values.{has_no_nul, no_nul_append, IsText, IsSafePart, said_spelled, marked_no_nul}
use Rattle.laws_safe_page.proofs.Tags.{IsTag, as_start, as_void, page_around, page_of_void, start_no_nul, end_no_nul, void_no_nul}

module _ (marks : Bool) (table : TagTable) where
  -- a page without NUL was printed after this
  pub record IsAfter (out printed : List ℕ) : Type 0 where
    pub added : List ℕ
    pub is_after : printed ≡ out ++ added
    pub is_safe : IsPage marks table added
    pub no_nul : has_no_nul added ≡ true

  -- what pieces add is a safe page, whatever was printed before
  abbrev pub Adds : List ℕ → List Piece → Type 0
  Adds default pieces = (out : List ℕ) → IsAfter out (fold (print default) out pieces)

  pub page_of_text : (bytes : List ℕ) → IsText bytes → IsPage marks table bytes
  page_of_text bytes p = subst (IsPage marks table) (sym p.1) (text_page marks table p.0)

  pub nothing_after : (out : List ℕ) → IsAfter out out
  nothing_after out = record { added = []; is_after = sym (append-nil out); is_safe = text_page marks table []; no_nul = refl }

  text_after : (out bytes : List ℕ) → IsText bytes → IsAfter out (out ++ bytes)
  text_after out bytes p = record { added = bytes; is_after = refl; is_safe = page_of_text bytes p; no_nul = p.2 }

  pub both_after : (out one other : List ℕ) → IsAfter out one → IsAfter one other → IsAfter out other
  both_after out one other first second =
      record {
        added = first.added ++ second.added;
        is_after = second.is_after ∙ ap (λ x. x ++ second.added) first.is_after ∙ append_assoc out first.added second.added;
        is_safe = in_a_row marks table first.added second.added first.is_safe second.is_safe;
        no_nul = no_nul_append first.added second.added first.no_nul second.no_nul;
      }

  -- what was printed between the tags of an element
  pub element_after : (t : Tag) (out printed : List ℕ) → IsTag (start_rows_of table) t → IsAfter (out ++ start_tag t) printed
      → IsAfter out (printed ++ end_tag t.name)
  element_after t out printed i within =
      let rest = within.added ++ end_tag t.name in
      record {
        added = start_tag t ++ rest;
        is_after =
            ap (λ x. x ++ end_tag t.name) within.is_after
            ∙ append_assoc (out ++ start_tag t) within.added (end_tag t.name)
            ∙ append_assoc out (start_tag t) rest;
        is_safe = page_around marks table t within.added i within.is_safe;
        no_nul = no_nul_append (start_tag t) rest (start_no_nul table t i) (no_nul_append within.added (end_tag t.name) within.no_nul (end_no_nul table t i));
      }

  module _ (default : List ℕ) where
    pub adds_nothing : Adds default []
    adds_nothing out = nothing_after out

    pub adds_append : (pieces others : List Piece) → Adds default pieces → Adds default others → Adds default (pieces ++ others)
    adds_append pieces others p q out =
        let printed = fold (print default) out pieces in
        subst (IsAfter out) (sym (fold-append (print default) out pieces others)) (both_after out printed _ (p out) (q printed))

    pub adds_says : (said : PrintedPart) → IsSafePart marks said → Adds default (Says said ∷ [])
    adds_says (Words text) h out = text_after out (said_bytes (Words text)) (said_spelled (Words text) h)
    adds_says (AsItIs html) h out = absurd h
    adds_says (Marked html) h out =
        record { added = marked html; is_after = refl; is_safe = marked_page marks table html h; no_nul = marked_no_nul html }
    adds_says (EndOfLine code) h out = text_after out (said_bytes (EndOfLine code)) (said_spelled (EndOfLine code) h)
    adds_says (Number n) h out = text_after out (said_bytes (Number n)) (said_spelled (Number n) h)

    pub adds_void_by : (t : Tag) → IsTag (void_rows_of table) t → Adds default (Void t ∷ [])
    adds_void_by t i out = record { added = void_tag t; is_after = refl; is_safe = page_of_void marks table t i; no_nul = void_no_nul table t i }

    pub adds_element_by : (t : Tag) (inside : List Piece) → IsTag (start_rows_of table) t → Adds default inside → Adds default (element t inside)
    adds_element_by t inside i p out =
        let within = fold (print default) (out ++ start_tag t) inside in
        subst (IsAfter out) (sym (fold-append (print default) (out ++ start_tag t) inside (Close t.name ∷ [])))
        (element_after t out within i (p (out ++ start_tag t)))

    -- tags of the basic table
    pub adds_void : (t : Tag) → IsTag void_rows t → Adds default (Void t ∷ [])
    adds_void t i = adds_void_by t (as_void table t i)

    pub adds_element : (t : Tag) (inside : List Piece) → IsTag start_rows t → Adds default inside → Adds default (element t inside)
    adds_element t inside i p = adds_element_by t inside (as_start table t i) p

    -- the default ending, where it is one
    module _ (ending : IsText default) where
      pub adds_eol : Adds default (Eol ∷ [])
      adds_eol out = text_after out default ending

      pub adds_fresh : Adds default (Fresh ∷ [])
      adds_fresh out = cond_both (is_fresh out) out (out ++ default) (IsAfter out) (λ _. nothing_after out) (λ _. text_after out default ending)
