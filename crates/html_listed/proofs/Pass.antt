-- The pass over bytes without a tag, and over a tag.
use Rattle.std.proofs.Common.{◌≡◌, ℕ, true, eqb, List, [], ◌∷◌, ◌++◌, ap, ◌∙◌}
use Rattle.std.specs.List.{list_all, fold}
use Rattle.std.proofs.lemmas.Bool.{and_parts, not-true}
use Rattle.markdown_compile_options.specs.declared.configuration.CompileOptions.{CompileOptions}
use Rattle.definition_inline.specs.CharacterReference.{Names}
use Rattle.definition_html.specs.State.{State, says}
use Rattle.definition_html.specs.PageParts.{is_in_text, is_in_tag, own_part, page_parts}
use Rattle.definition_html.specs.Listed.{page_part}
use Rattle.html_listed.proofs.Open.{says_twice, says_nothing}
use Rattle.html_listed.proofs.PageParts.{byte_part, tag_part}

module _ (names : Names) (options : CompileOptions) where
  -- the state after the parts that bytes are
  abbrev pub run : State → List ℕ → State
  run s bytes = fold (page_part names options) s (page_parts bytes)

  pub bytes_run : (m rest : List ℕ) (s : State) → list_all is_in_text m ≡ true → run s (m ++ rest) ≡ run (says m s) rest
  bytes_run [] rest s h = ap (λ s. run s rest) (says_nothing s)
  bytes_run (b ∷ bs) rest s h =
      let parts = and_parts (is_in_text b) (list_all is_in_text bs) h in
      ap (fold (page_part names options) s) (byte_part b (bs ++ rest) (not-true (eqb b 60) parts.0))
      ∙ bytes_run bs rest (says (b ∷ []) s) parts.1
      ∙ ap (λ s. run s rest) (says_twice s (b ∷ []) bs)

  pub tag_run : (inside after : List ℕ) (s : State) → list_all is_in_tag inside ≡ true → (inside ≡ [] → ⊥)
      → run s (60 ∷ (inside ++ (62 ∷ after))) ≡ run (page_part names options s (own_part inside)) after
  tag_run inside after s h k = ap (fold (page_part names options) s) (tag_part inside after h k)
