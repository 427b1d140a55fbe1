-- Link reference definitions of codes with another ending in place of each LF.
use Rattle.std.proofs.Common.{◌≡◌, ℕ, List, [], ◌∷◌, None, Some, Option, cond, eqb, refl, ap, ◌∙◌}
use Rattle.laws_endings.proofs.Prelude.{after_spaces, after_white, begins_with_space, codes_with, Definition, definition_at, definition_before}
use Rattle.laws_endings.proofs.Prelude.{definition_with, definition_with_title, destination_at, is_eol, label_at, LineEnding, next_line, option_map}
use Rattle.laws_endings.proofs.Prelude.{or_definition_without_title, Part, title_at, with_colon, with_destination, with_label, with_title}
use Rattle.definition_inline.specs.Definition.{next_line_after}
use Rattle.definition_inline.specs.Definition.{definition_without_title}
use Rattle.laws_endings.proofs.Codes.{cond-under, same_code, part_with}
use Rattle.laws_endings.proofs.Labels.{after_spaces-with, after_white-with, begins_with_space-with, label_at-with, destination_at-with, title_at-with}

module _ (e : LineEnding) where
  abbrev if_codes : Option (List ℕ) → Option (List ℕ)
  if_codes end = option_map (codes_with e) end

  abbrev if_part : Option Part → Option Part
  if_part p = option_map (part_with e) p

  abbrev if_definition : Option Definition → Option Definition
  if_definition d = option_map (definition_with e) d

  next_line_after-with : (cs : List ℕ) → next_line_after (codes_with e cs) ≡ if_codes (next_line_after cs)
  next_line_after-with [] = refl
  next_line_after-with (c ∷ cs) =
      same_code e (λ x. cond (is_eol x) (Some (codes_with e cs)) None) c refl refl ∙ cond-under if_codes (is_eol c) refl refl

  next_line-with : (cs : List ℕ) → next_line (codes_with e cs) ≡ if_codes (next_line cs)
  next_line-with cs = ap next_line_after (after_spaces-with e cs) ∙ next_line_after-with (after_spaces cs)

  definition_before-with : (label destination : List ℕ) (title rest : Option (List ℕ))
      → definition_before (codes_with e label) (codes_with e destination) (if_codes title) (if_codes rest)
      ≡ if_definition (definition_before label destination title rest)
  definition_before-with label destination title None = refl
  definition_before-with label destination title (Some rest) = refl

  with_title-with : (label destination : List ℕ) (title : Option Part)
      → with_title (codes_with e label) (codes_with e destination) (if_part title) ≡ if_definition (with_title label destination title)
  with_title-with label destination None = refl
  with_title-with label destination (Some title) =
      ap (definition_before (codes_with e label) (codes_with e destination) (Some (codes_with e title.text))) (next_line-with title.rest)
      ∙ definition_before-with label destination (Some title.text) (next_line title.rest)

  titled-with : (label : List ℕ) (destination : Part) → definition_with_title (codes_with e label) (part_with e destination)
      ≡ if_definition (definition_with_title label destination)
  titled-with label destination =
      let rest = codes_with e destination.rest in
      let with : Option Part → Option Definition = with_title (codes_with e label) (codes_with e destination.text) in
      ap (λ space. cond space (with (title_at (after_white rest))) None) (begins_with_space-with e destination.rest)
      ∙ cond-under if_definition (begins_with_space destination.rest)
      (ap (λ cs. with (title_at cs)) (after_white-with e destination.rest)
      ∙ ap with (title_at-with e (after_white destination.rest))
      ∙ with_title-with label destination.text (title_at (after_white destination.rest)))
      refl

  untitled-with : (label : List ℕ) (destination : Part) → definition_without_title (codes_with e label) (part_with e destination)
      ≡ if_definition (definition_without_title label destination)
  untitled-with label destination =
      ap (definition_before (codes_with e label) (codes_with e destination.text) None) (next_line-with destination.rest)
      ∙ definition_before-with label destination.text None (next_line destination.rest)

  or_untitled-with : (label : List ℕ) (destination : Part) (found : Option Definition)
      → or_definition_without_title (codes_with e label) (part_with e destination) (if_definition found)
      ≡ if_definition (or_definition_without_title label destination found)
  or_untitled-with label destination None = untitled-with label destination
  or_untitled-with label destination (Some found) = refl

  with_destination-with : (label : List ℕ) (destination : Option Part)
      → with_destination (codes_with e label) (if_part destination) ≡ if_definition (with_destination label destination)
  with_destination-with label None = refl
  with_destination-with label (Some destination) =
      ap (or_definition_without_title (codes_with e label) (part_with e destination)) (titled-with label destination)
      ∙ or_untitled-with label destination (definition_with_title label destination)

  with_colon-with : (label cs : List ℕ) → with_colon (codes_with e label) (codes_with e cs) ≡ if_definition (with_colon label cs)
  with_colon-with label [] = refl
  with_colon-with label (c ∷ cs) =
      let with : Option Part → Option Definition = with_destination (codes_with e label) in
      same_code e (λ x. cond (eqb x 58) (with (destination_at None (after_white (codes_with e cs)))) None) c refl refl
      ∙ cond-under if_definition (eqb c 58)
      (ap (λ rest. with (destination_at None rest)) (after_white-with e cs)
      ∙ ap with (destination_at-with e None (after_white cs))
      ∙ with_destination-with label (destination_at None (after_white cs)))
      refl

  with_label-with : (label : Option Part) → with_label (if_part label) ≡ if_definition (with_label label)
  with_label-with None = refl
  with_label-with (Some label) = with_colon-with label.text label.rest

  pub definition_at-with : (cs : List ℕ) → definition_at (codes_with e cs) ≡ if_definition (definition_at cs)
  definition_at-with cs =
      ap (λ rest. with_label (label_at rest)) (after_spaces-with e cs)
      ∙ ap with_label (label_at-with e (after_spaces cs))
      ∙ with_label-with (label_at (after_spaces cs))
