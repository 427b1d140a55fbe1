-- Lines without tabs.
use Rattle.std.proofs.Common.{◌+◌, eqb, [], ◌∷◌, sym, refl, ap, ◌∙◌}
use Rattle.std.specs.List.{list_all}
use Rattle.std.proofs.lemmas.Bool.{cond-false, and_parts, not-true}
use Rattle.laws_block.specs.NoTabs.{is_no_tab, CodesAreBytes, SameAtAnyColumn}

pub codes_are_bytes : CodesAreBytes
codes_are_bytes [] p column = refl
codes_are_bytes (b ∷ bs) p column =
    let parts = and_parts (is_no_tab b) (list_all is_no_tab bs) p in
    cond-false (eqb b 9) _ _ (not-true (eqb b 9) parts.0) ∙ ap (λ cs. b ∷ cs) (codes_are_bytes bs parts.1 (column + 1))

pub same_at_any_column : SameAtAnyColumn
same_at_any_column bytes p column other = codes_are_bytes bytes p column ∙ sym (codes_are_bytes bytes p other)
