-- What a leaf block of a kind spells and prints.
use Rattle.std.proofs.Common.{◌≡◌, ◌⊎◌, inl, inr, ◌∷◌, ℕ, Bool, true, false, List, [], if◌then◌else◌, refl, sym, ap, ◌∙◌}
use Rattle.engine_events.specs.Names.{same_name}
use Rattle.engine_events.specs.declared.event.Name.{Name}
use Rattle.engine_events.specs.declared.event.Name.TheVariants as n
use Rattle.compile_blocks.proofs.Prelude.{code_fenced_of, ending_of, first_pieces, heading_atx_of, heading_setext_of, in_bytes, inlines_of, kind_of}
use Rattle.compile_blocks.proofs.Prelude.{LineEnding, math_flow_of, one, raw_lines, raw_parts}
use Rattle.definition_inline.specs.CharacterReference.{Names}
use Rattle.definition_page.specs.BlockPieces.{is_silent}
use Rattle.definition_page.specs.GfmTable.{endings_pieces}
use Rattle.definition_page.specs.InlinePieces.{Meaning}
use Rattle.definition_page.specs.Page as page
use Rattle.event_grammar.specs.Trees.{Nodes}
use Rattle.compile_levels.specs.declared.kind.BlockKind.{BlockKind}
use Rattle.compile_levels.specs.declared.kind.BlockKind.TheVariants as k
use Rattle.event_meaning.specs.Blocks.{leaf, block_of}
use Rattle.event_meaning.specs.GfmTable.{table_of}
use Rattle.event_meaning.specs.Left.{sibling_of}
use Rattle.compile_blocks.specs.Leaf.{is_leaf}
use Rattle.compile_blocks.specs.declared.printer.LeafPlace.{LeafPlace}

module _ (names : Names) (bytes : List ℕ) (top : Bool) (text : List ℕ) (kids : Nodes) (inner : page.Blocks) where
  -- what a leaf block of a kind spells
  abbrev pub leaf_by : BlockKind → page.Blocks
  leaf_by k.Ending = one (page.Ending (ending_of text))
  leaf_by k.Blank = one (page.Blank (ending_of text))
  leaf_by k.Paragraph = leaf (page.Paragraph (inlines_of names bytes false kids))
  leaf_by k.HeadingAtx = leaf (heading_atx_of names bytes kids)
  leaf_by k.HeadingSetext = leaf (heading_setext_of names bytes kids)
  leaf_by k.ThematicBreak = leaf page.Break
  leaf_by k.CodeIndented = leaf (page.IndentedCode (raw_lines (raw_parts bytes kids)))
  leaf_by k.CodeFenced = leaf (code_fenced_of names bytes top kids)
  leaf_by k.MathFlow = leaf (math_flow_of names bytes top kids)
  leaf_by k.HtmlFlow = leaf (page.Html (raw_lines (raw_parts bytes kids)))
  leaf_by k.Table = leaf (page.Table (table_of names bytes kids))
  leaf_by k.Definition = leaf page.Definition
  leaf_by kind = page.Nil

  by_name : (name : Name) → is_leaf (kind_of name) ≡ true → block_of names bytes top name text kids inner ≡ leaf_by (kind_of name)
  by_name n.LineEnding h = refl
  by_name n.BlankLineEnding h = refl
  by_name n.Paragraph h = refl
  by_name n.HeadingAtx h = refl
  by_name n.HeadingSetext h = refl
  by_name n.ThematicBreak h = refl
  by_name n.CodeIndented h = refl
  by_name n.CodeFenced h = refl
  by_name n.MathFlow h = refl
  by_name n.HtmlFlow h = refl
  by_name n.GfmTable h = refl
  by_name n.Definition h = refl
  by_name n.Frontmatter h = refl
  by_name n.BlockQuote h = let wrong : false ≡ true = h in cc
  by_name n.ListUnordered h = let wrong : false ≡ true = h in cc
  by_name n.ListOrdered h = let wrong : false ≡ true = h in cc
  by_name n.ListItem h = let wrong : false ≡ true = h in cc
  by_name n.GfmFootnoteDefinition h = let wrong : false ≡ true = h in cc
  by_name name h = refl

  -- a leaf spells what its kind says
  pub leaf_law : (m : Meaning) (place : LeafPlace) (kind : BlockKind) (name : Name) → kind ≡ kind_of name → is_leaf kind ≡ true
      → in_bytes (first_pieces m place (leaf_by kind)) ≡ in_bytes (first_pieces m place (block_of names bytes top name text kids inner))
  leaf_law m place kind name same is =
      ap (λ (x : page.Blocks). in_bytes (first_pieces m place x))
      (ap leaf_by same ∙ sym (by_name name (sym (ap is_leaf same) ∙ is)))

  -- kinds that print nothing here
  pub nothing_by : (m : Meaning) (place : LeafPlace) (kind : BlockKind)
      → (kind ≡ k.Blank) ⊎ ((kind ≡ k.Definition) ⊎ ((kind ≡ k.Quote) ⊎ ((kind ≡ k.UnorderedList) ⊎ ((kind ≡ k.OrderedList)
      ⊎ ((kind ≡ k.Item) ⊎ ((kind ≡ k.Footnote) ⊎ (kind ≡ k.Other)))))))
      → in_bytes (first_pieces m place (leaf_by kind)) ≡ []
  nothing_by m place kind (inl e) = ap (λ (x : BlockKind). in_bytes (first_pieces m place (leaf_by x))) e
  nothing_by m place kind (inr (inl e)) = ap (λ (x : BlockKind). in_bytes (first_pieces m place (leaf_by x))) e
  nothing_by m place kind (inr (inr (inl e))) = ap (λ (x : BlockKind). in_bytes (first_pieces m place (leaf_by x))) e
  nothing_by m place kind (inr (inr (inr (inl e)))) = ap (λ (x : BlockKind). in_bytes (first_pieces m place (leaf_by x))) e
  nothing_by m place kind (inr (inr (inr (inr (inl e))))) = ap (λ (x : BlockKind). in_bytes (first_pieces m place (leaf_by x))) e
  nothing_by m place kind (inr (inr (inr (inr (inr (inl e)))))) = ap (λ (x : BlockKind). in_bytes (first_pieces m place (leaf_by x))) e
  nothing_by m place kind (inr (inr (inr (inr (inr (inr (inl e))))))) = ap (λ (x : BlockKind). in_bytes (first_pieces m place (leaf_by x))) e
  nothing_by m place kind (inr (inr (inr (inr (inr (inr (inr e))))))) = ap (λ (x : BlockKind). in_bytes (first_pieces m place (leaf_by x))) e

-- whether an ending prints nothing
silent_by : (top tight silent : Bool) → is_silent (record { top = top; tight = tight }) (sibling_of silent) ≡ silent
silent_by top true true = refl
silent_by top false true = refl
silent_by top tight false = refl

-- an ending of a line
pub ending_law : (m : Meaning) (place : LeafPlace) (ending : LineEnding)
    → in_bytes (if place.silent then [] else endings_pieces (ending ∷ [])) ≡ in_bytes (first_pieces m place (one (page.Ending ending)))
ending_law m place ending =
    ap (λ (b : Bool). in_bytes (if b then [] else endings_pieces (ending ∷ []))) (sym (silent_by place.top place.tight place.silent))

-- the names of a kind
abbrev is_html : BlockKind → Bool
is_html k.HtmlFlow = true
is_html kind = false

html_law : (name : Name) → is_html (kind_of name) ≡ same_name name n.HtmlFlow
html_law n.HtmlFlow = refl
html_law name = refl

pub html_name : (name : Name) → k.HtmlFlow ≡ kind_of name → same_name name n.HtmlFlow ≡ true
html_name name h = sym (html_law name) ∙ sym (ap is_html h)

abbrev is_atx : BlockKind → Bool
is_atx k.HeadingAtx = true
is_atx kind = false

atx_law : (name : Name) → is_atx (kind_of name) ≡ same_name name n.HeadingAtx
atx_law n.HeadingAtx = refl
atx_law name = refl

pub atx_name : (name : Name) → k.HeadingAtx ≡ kind_of name → same_name name n.HeadingAtx ≡ true
atx_name name h = sym (atx_law name) ∙ sym (ap is_atx h)
