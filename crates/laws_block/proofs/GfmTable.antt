-- A line without a bar is one cell.
use Rattle.std.proofs.Common.{◌≡◌, ℕ, Bool, true, false, eqb, not, ◌&&◌, List, [], ◌∷◌, refl, sym, ap, ◌∙◌}
use Rattle.std.specs.List.{list_all}
use Rattle.std.proofs.lemmas.Bool.{true≢false, cond-false, and_parts}
use Rattle.markdown_options.specs.declared.beside.Kind.{Kind}
use Rattle.markdown_options.specs.declared.beside.Kind.TheVariants.{Whitespace}
use Rattle.definition_text.specs.Columns.{is_blank}
use Rattle.definition_text.specs.Content.{may_escape}
use Rattle.definition_block.specs.GfmTable.{Cell, cell, parts, is_bar, in_first_cell, without_blank_first, without_blank_last}
use Rattle.laws_block.specs.GfmTable.{OneCell}

other_byte : (b escaped : Bool) → not b ≡ true → (b && escaped) ≡ false
other_byte true escaped h = absurd (true≢false (sym h))
other_byte false escaped h = refl

no_bar : (before : Kind) (escaped : Bool) (line : List ℕ) → list_all (λ c. not (eqb c 124)) line ≡ true
    → parts before escaped line ≡ cell line before Whitespace ∷ []
no_bar before escaped [] h = refl
no_bar before escaped (c ∷ cs) h =
    let both = and_parts (not (eqb c 124)) _ h in
    cond-false (is_bar escaped c) _ _ (other_byte (eqb c 124) (not escaped) both.0)
    ∙ ap (in_first_cell c before) (no_bar before (may_escape escaped c) cs both.1)

pub one_cell : OneCell
one_cell before line h some =
    ap (λ (cs : List Cell). without_blank_last (without_blank_first cs)) (no_bar before false line h)
    ∙ ap without_blank_last (cond-false (is_blank line) _ _ some)
    ∙ cond-false (is_blank line) _ _ some
