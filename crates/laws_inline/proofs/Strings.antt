-- Which parts a string can have.
use Rattle.std.proofs.Common.{◌≡◌, ℕ, suc, zero, true, ◌&&◌, ◌-◌, List, [], ◌∷◌, Option, None, Some, refl}
use Rattle.std.specs.List.{list_all}
use Rattle.std.proofs.lemmas.Bool.{and_from}
use Rattle.markdown_options.specs.declared.configuration.Constructs.{Constructs}
use Rattle.definition_text.specs.Columns.{indent}
use Rattle.definition_inline.specs.Inline.{InlineLeaf, Found, leaf}
use Rattle.definition_inline.specs.CharacterEscape.{escape_at}
use Rattle.definition_inline.specs.CharacterReference.{Names, reference_at}
use Rattle.definition_inline.specs.HardBreak.{line_end_at}
use Rattle.definition_inline.specs.Strings.{spaces_at, string_leaf_at, or_byte, string_parts}
use Rattle.definition_inline.specs.MayStand.{leaf_may_stand}
use Rattle.definition_inline.proofs.LeavesFound.{Begins, either_begins, any_escape, any_reference, any_line_end}
use Rattle.laws_inline.specs.Occurs.{is_string_leaf, OnlyStringLeaves}
use Rattle.laws_inline.proofs.Each.{Each, each-append, where_passed}

module _ (on : Constructs) where
  abbrev InString : InlineLeaf → Type 0
  InString part = (is_string_leaf part && leaf_may_stand on part) ≡ true

  begins : (names : Names) (content : List ℕ) → Begins InString (string_leaf_at on names content)
  begins names content =
      either_begins InString (escape_at on content) _ (any_escape InString on (λ e b. e) content)
      (either_begins InString (reference_at on names content) _ (any_reference InString on (λ e text. e) names content)
      (either_begins InString (line_end_at content) (spaces_at content) (any_line_end InString (λ code e. e) content)
      (where_passed (λ (found : Found). Each InString found.parts) _ (leaf [] (indent content)) tt)))

  found_or_byte : (c : ℕ) (o : Option Found) → Begins InString o → Each InString (or_byte c o).parts
  found_or_byte c None p = (refl, tt)
  found_or_byte c (Some found) p = p

  in_string : (names : Names) (k : ℕ) (content : List ℕ) → Each InString (string_parts on names k content)
  in_string names k [] = tt
  in_string names zero (c ∷ cs) =
      let found = or_byte c (string_leaf_at on names (c ∷ cs)) in
      each-append InString found.parts (string_parts on names (found.size - 1) cs)
      (found_or_byte c (string_leaf_at on names (c ∷ cs)) (begins names (c ∷ cs))) (in_string names (found.size - 1) cs)
  in_string names (suc k) (c ∷ cs) = in_string names k cs

  all_pass : (parts : List InlineLeaf) → Each InString parts → list_all (λ part. is_string_leaf part && leaf_may_stand on part) parts ≡ true
  all_pass [] p = refl
  all_pass (part ∷ parts) p = and_from (is_string_leaf part && leaf_may_stand on part) _ p.0 (all_pass parts p.1)

pub only_string_leaves : OnlyStringLeaves
only_string_leaves on names string = all_pass on (string_parts on names 0 string) (in_string on names 0 string)
