-- What the start of a footnote definition leaves of a rest: an end of it, and so what holds of each end of a rest that it holds of.
use Rattle.std.proofs.Common.{ℕ, Bool, false, ◌&&◌, eqb, List, [], ◌∷◌, Option, None, Some, drop}
use Rattle.std.specs.Prelude.{IfSome, if◌then◌else◌, ◌==◌}
use Rattle.std.proofs.lemmas.Bool.{cond_both}
use Rattle.markdown_options.specs.declared.configuration.Constructs.{Constructs}
use Rattle.definition_text.specs.Columns.{Rest, indent, bare}
use Rattle.definition_text.specs.Indents.{small_indent}
use Rattle.definition_text.specs.Content.{Part, may_escape, closed_by}
use Rattle.definition_inline.specs.Label.{ends_label, label_end}
use Rattle.definition_block.specs.ContainerStart.{ContainerStart}
use Rattle.definition_block.specs.BlockQuote.{after_byte}
use Rattle.definition_block.specs.GfmFootnoteDefinition.{is_footnote_label, label_before, with_colon, after_open, after_bracket, footnote_mark, footnote_of}
use Rattle.definition_block.specs.GfmFootnoteDefinition.{footnote_start}
use Rattle.definition_block.specs.Containers.{footnote_or}

module _ (Fine : Rest → Type 0) (dropped : (n : ℕ) (rest : Rest) → Fine rest → Fine (drop n rest)) where
  abbrev FineRest : Option Rest → Type 0
  FineRest o = IfSome o (λ rest. Fine rest)

  abbrev FinePart : Option Part → Type 0
  FinePart o = IfSome o (λ part. Fine part.rest)

  abbrev FineStarted : Option ContainerStart → Type 0
  FineStarted o = IfSome o (λ s. Fine s.rest)

  -- what follows the first code of a rest
  abbrev pub FineAfter : Rest → Type 0
  FineAfter [] = Unit {0}
  FineAfter (c ∷ cs) = Fine cs

  pub fine_after : (rest : Rest) → Fine rest → FineAfter rest
  fine_after [] h = tt
  fine_after (c ∷ cs) h = dropped 1 (c ∷ cs) h

  byte_fine : (byte : ℕ) (rest : Rest) → FineAfter rest → FineRest (after_byte byte rest)
  byte_fine byte [] h = tt
  byte_fine byte (c ∷ cs) h = cond_both (eqb c byte) (Some cs) None FineRest (λ _. h) (λ _. tt)

  end_fine : (escaped : Bool) (rest : Rest) → Fine rest → FineRest (label_end escaped rest)
  end_fine escaped [] h = tt
  end_fine escaped (c ∷ cs) h =
      cond_both (ends_label escaped c) (if c == 93 then Some (c ∷ cs) else None) (label_end (may_escape escaped c) cs) FineRest
      (λ _. cond_both (eqb c 93) (Some (c ∷ cs)) None FineRest (λ _. h) (λ _. tt))
      (λ _. end_fine (may_escape escaped c) cs (dropped 1 (c ∷ cs) h))

  closed_fine : (rest : Rest) (o : Option Rest) → FineRest o → FinePart (closed_by rest o)
  closed_fine rest None h = tt
  closed_fine rest (Some after) h = dropped 1 after h

  label_fine : (label : List ℕ) (o : Option Rest) → FineRest o → FinePart (label_before label o)
  label_fine label None h = tt
  label_fine label (Some rest) h = h

  colon_fine : (o : Option Part) → FinePart o → FinePart (with_colon o)
  colon_fine None h = tt
  colon_fine (Some label) h =
      cond_both (is_footnote_label label.text) (label_before label.text (after_byte 58 label.rest)) None FinePart
      (λ _. label_fine label.text (after_byte 58 label.rest) (byte_fine 58 label.rest (fine_after label.rest h))) (λ _. tt)

  open_fine : (o : Option Rest) → FineRest o → FinePart (after_open o)
  open_fine None h = tt
  open_fine (Some rest) h = let end = label_end false rest in colon_fine (closed_by rest end) (closed_fine rest end (end_fine false rest h))

  bracket_fine : (o : Option Rest) → FineRest o → FinePart (after_bracket o)
  bracket_fine None h = tt
  bracket_fine (Some rest) h = open_fine (after_byte 94 rest) (byte_fine 94 rest (fine_after rest h))

  of_fine : (o : Option Part) → FinePart o → FineStarted (footnote_of o)
  of_fine None h = tt
  of_fine (Some mark) h = dropped (indent mark.rest) mark.rest h

  pub footnote_fine : (on : Constructs) (rest : Rest) → FineAfter (bare rest) → FineStarted (footnote_start on rest)
  footnote_fine on rest h =
      let mark = footnote_mark (bare rest) in
      cond_both (on.gfm_footnote_definition && small_indent on rest) (footnote_of mark) None FineStarted
      (λ _. of_fine mark (bracket_fine (after_byte 91 (bare rest)) (byte_fine 91 (bare rest) h))) (λ _. tt)

-- what holds of one of two starts
pub footnote_either : (P : Option ContainerStart → Type 0) (other o : Option ContainerStart) → P other → P o → P (footnote_or other o)
footnote_either P other None h k = h
footnote_either P other (Some footnote) h k = k
