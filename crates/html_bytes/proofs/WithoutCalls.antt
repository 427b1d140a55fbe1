-- Inline structure without calls of footnotes adds its HTML to the innermost text.
use Rattle.std.proofs.Common.{◌≡◌, ℕ, Bool, true, false, ◌||◌, List, [], ◌∷◌, ◌++◌, refl, sym, ap, ◌∙◌, map, subst, codes}
use Rattle.std.specs.List.{fold, flat_map}
use Rattle.std.proofs.lemmas.Bool.{true≢false, or_parts}
use Rattle.std.proofs.lemmas.List.{map-append}
use Rattle.std.proofs.lemmas.List.Concat.{flat_map-append}
use Rattle.std.proofs.lemmas.List.Sums.{fold-append}
use Rattle.markdown_compile_options.specs.declared.configuration.CompileOptions.{CompileOptions}
use Rattle.definition_inline.specs.Inline as inline
use Rattle.definition_inline.specs.Inline.{InlineLeaf, Link, Image, Inline, Leaf, Span, Linked, Call, Inlines, Nil, Cons}
use Rattle.definition_inline.specs.Targets.{leads_to}
use Rattle.html_bytes.specs.Layout.{LayoutState, lay}
use Rattle.definition_page.specs.Tags.{PrintedPart, Words, Tag, bare_tag}
use Rattle.definition_page.specs.Pieces as page
use Rattle.definition_page.specs.GfmTaskListItem.{check_tag}
use Rattle.definition_page.specs.InlinePieces.{Meaning, address, literal_address, address_tag, math_tag, html_says, leaf_says, leaf_pieces, element, span_name}
use Rattle.definition_page.specs.InlinePieces.{link_tag, image_tag, description}
use Rattle.definition_page.specs.InlinePieces.{part_counts, inline_counts, part_pieces, inline_pieces}
use Rattle.html_bytes.specs.Pieces.{Piece, piece_bytes, in_bytes, piece_html}
use Rattle.html_bytes.proofs.SameLayout.{add, add_nil, add_add}

-- ---- calls

abbrev mutual
  -- whether a part is a call or holds one, at any depth
  pub part_calls : Inline → Bool
  part_calls (Leaf part) = false
  part_calls (Span kind kids) = has_calls kids
  part_calls (Linked kind target kids) = has_calls kids
  part_calls (Call label) = true

  pub has_calls : Inlines → Bool
  has_calls Nil = false
  has_calls (Cons i is) = part_calls i || has_calls is

-- ---- calls that count

module _ (m : Meaning) where
  -- counts of parts that have none
  none_joined : (ps qs : List page.Piece) → ps ≡ [] → qs ≡ [] → ps ++ qs ≡ []
  none_joined ps qs e f = ap (λ x. x ++ qs) e ∙ f

  mutual
    part_without_counts : (i : Inline) → part_calls i ≡ false → part_counts m i ≡ []
    part_without_counts (Leaf part) none = refl
    part_without_counts (Span kind kids) none = without_counts kids none
    part_without_counts (Linked kind target kids) none = without_counts kids none
    part_without_counts (Call label) none = absurd (true≢false none)

    pub without_counts : (is : Inlines) → has_calls is ≡ false → inline_counts m is ≡ []
    without_counts Nil none = refl
    without_counts (Cons i is) none =
        let both = or_parts (part_calls i) (has_calls is) none in
        none_joined (part_counts m i) (inline_counts m is) (part_without_counts i both.0) (without_counts is both.1)

-- ---- pieces

module _ (options : CompileOptions) (default : List ℕ) where
  -- pieces that add bytes to the innermost text
  abbrev pub AddsBytes : List Piece → List ℕ → Type 0
  AddsBytes ps more = (l : LayoutState) → fold (lay options default) l ps ≡ add l more

  pub adds_append : (ps qs : List Piece) (a b : List ℕ) → AddsBytes ps a → AddsBytes qs b → AddsBytes (ps ++ qs) (a ++ b)
  adds_append ps qs a b h k l =
      fold-append (lay options default) l ps qs ∙ ap (λ x. fold (lay options default) x qs) (h l) ∙ k (add l a) ∙ add_add l a b

  -- pieces of the definition that add their HTML
  abbrev pub AreAdded : List page.Piece → Type 0
  AreAdded ps = AddsBytes (in_bytes ps) (flat_map piece_html ps)

  pub none_added : AreAdded []
  none_added l = sym (add_nil l)

  -- two lists of them
  pub both_added : (ps qs : List page.Piece) → AreAdded ps → AreAdded qs → AreAdded (ps ++ qs)
  both_added ps qs h k l =
      ap (fold (lay options default) l) (map-append piece_bytes ps qs)
      ∙ adds_append (in_bytes ps) (in_bytes qs) (flat_map piece_html ps) (flat_map piece_html qs) h k l
      ∙ ap (add l) (sym (flat_map-append piece_html ps qs))

  -- one that adds its HTML, before others
  pub one_added : (p : page.Piece) (ps : List page.Piece) → AddsBytes (piece_bytes p ∷ []) (piece_html p) → AreAdded ps → AreAdded (p ∷ ps)
  one_added p ps h k = adds_append (piece_bytes p ∷ []) (in_bytes ps) (piece_html p) (flat_map piece_html ps) h k

  pub says_added : (parts : List PrintedPart) → AreAdded (map page.Says parts)
  says_added [] = none_added
  says_added (said ∷ parts) = one_added (page.Says said) (map page.Says parts) (λ l. refl) (says_added parts)

  pub element_added : (t : Tag) (inside : List page.Piece) → AreAdded inside → AreAdded (element t inside)
  element_added t inside h =
      one_added (page.Open t) (inside ++ page.Close t.name ∷ []) (λ l. refl)
      (both_added inside (page.Close t.name ∷ []) h (one_added (page.Close t.name) [] (λ l. refl) none_added))

  tagged_added : (t : Tag) (text : List ℕ) → AreAdded (element t (page.Says (Words text) ∷ []))
  tagged_added t text = element_added t (page.Says (Words text) ∷ []) (says_added (Words text ∷ []))

  void_added : (t : Tag) → AreAdded (page.Void t ∷ [])
  void_added t = one_added (page.Void t) [] (λ l. refl) none_added

  pub leaf_added : (compile : CompileOptions) (part : InlineLeaf) → AreAdded (leaf_pieces compile part)
  leaf_added compile (inline.Data b) = says_added (leaf_says compile (inline.Data b))
  leaf_added compile (inline.Escape b) = says_added (leaf_says compile (inline.Escape b))
  leaf_added compile (inline.Character text) = says_added (leaf_says compile (inline.Character text))
  leaf_added compile (inline.Code text) = tagged_added (bare_tag (codes "code")) text
  leaf_added compile (inline.Math text) = tagged_added math_tag text
  leaf_added compile (inline.Autolink is_email text) = tagged_added (address_tag compile (address is_email text)) text
  leaf_added compile (inline.Literal kind text) = tagged_added (address_tag compile (literal_address kind text)) text
  leaf_added compile (inline.Html html) = says_added (html_says false compile html)
  leaf_added compile inline.EscapedBreak = void_added (bare_tag (codes "br"))
  leaf_added compile inline.TrailingBreak = void_added (bare_tag (codes "br"))
  leaf_added compile (inline.LineEnd code) = says_added (leaf_says compile (inline.LineEnd code))
  leaf_added compile (inline.TaskCheck done) = void_added (check_tag compile done)

  module _ (m : Meaning) where
    no_counts : (ps : List page.Piece) → ps ≡ [] → AreAdded ps
    no_counts ps e = subst AreAdded (sym e) none_added

    mutual
      part_without_calls : (i : Inline) → part_calls i ≡ false → AreAdded (part_pieces m i)
      part_without_calls (Leaf part) none = leaf_added m.compile part
      part_without_calls (Span kind kids) none = element_added (bare_tag (span_name kind)) (inline_pieces m kids) (without_calls kids none)
      part_without_calls (Linked Link target kids) none =
          element_added (link_tag m (leads_to m.definition target)) (inline_pieces m kids) (without_calls kids none)
      part_without_calls (Linked Image target kids) none =
          one_added (page.Void (image_tag m (leads_to m.definition target) (description m.compile kids))) (inline_counts m kids) (λ l. refl)
          (no_counts (inline_counts m kids) (without_counts m kids none))
      part_without_calls (Call label) none = absurd (true≢false none)

      -- inline structure without calls adds its HTML to the innermost text, and changes nothing else
      pub without_calls : (is : Inlines) → has_calls is ≡ false → AreAdded (inline_pieces m is)
      without_calls Nil none = none_added
      without_calls (Cons i is) none =
          let both = or_parts (part_calls i) (has_calls is) none in
          both_added (part_pieces m i) (inline_pieces m is) (part_without_calls i both.0) (without_calls is both.1)
