-- What fenced code prints, step by step.
use Rattle.std.proofs.Common.{◌≡◌, ◌&&◌, ◌||◌, not, if◌then◌else◌, ℕ, Bool, true, false, List, [], ◌∷◌, ◌++◌, Option, Some, codes, refl, sym, ap, ◌∙◌, append_assoc}
use Rattle.compile_raw.proofs.Prelude.{add_add, add_nil, append-nil, attribute_bytes, BlockLine, code_of, CompileOptions, encode, fenced_close, fenced_end}
use Rattle.compile_raw.proofs.Prelude.{fenced_lines, FencedCode, flat_map, fold, has_any, in_bytes, info_attributes, last_end, lay, LayoutState}
use Rattle.compile_raw.proofs.Prelude.{leaf_block_pieces, lines_behind, raw_lines, RawPart, with_bytes, with_fresh, with_tag, without_first_end}
use Rattle.std.proofs.lemmas.List.Sums.{fold-append}
use Rattle.definition_page.specs.BlockPieces.{Place, says, code_line, fenced_pieces, fresh_unless}
use Rattle.definition_page.specs.InlinePieces.{Meaning, element}
use Rattle.definition_page.specs.Pieces as page
use Rattle.definition_page.specs.Tags.{tag, bare_tag}
use Rattle.event_meaning.specs.Raw.{some_line}
use Rattle.html_bytes.proofs.SameText.{laid_both}
use Rattle.html_bytes.specs.Pieces.{Bytes}
use Rattle.html_leaves.proofs.LeafLaid.{after_pieces, code_element_laid, kept_lines_laid, cut_lines_laid}
use Rattle.compile_raw.specs.Raw.{code_tags}

module _ (options : CompileOptions) (default : List ℕ) where
  -- ---- lines

  abbrev pub laid : Place → Bool → List BlockLine → LayoutState → LayoutState
  laid place closed ls l = after_pieces options default l (fenced_pieces place closed ls)

  kept : (place : Place) (closed : Bool) (ls : List BlockLine) (l : LayoutState) → (place.top || closed) ≡ true → has_any ls ≡ true
      → laid place closed ls l ≡ with_fresh default (with_bytes (code_of ls) l)
  kept place closed [] l h some = let wrong : false ≡ true = some in cc
  kept place closed (line ∷ ls) l h some =
      ap (λ (b : Bool). after_pieces options default l (says (flat_map code_line (line ∷ ls)) ++ (if b then [] else page.Eol ∷ []) ++ page.Fresh ∷ [])) h
      ∙ kept_lines_laid options default (line ∷ ls) l

  cut : (place : Place) (closed : Bool) (ls : List BlockLine) (l : LayoutState) → (place.top || closed) ≡ false → has_any ls ≡ true
      → laid place closed ls l ≡ with_fresh default (with_bytes default (with_bytes (code_of ls) l))
  cut place closed [] l h some = let wrong : false ≡ true = some in cc
  cut place closed (line ∷ ls) l h some =
      ap (λ (b : Bool). after_pieces options default l (says (flat_map code_line (line ∷ ls)) ++ (if b then [] else page.Eol ∷ []) ++ page.Fresh ∷ [])) h
      ∙ cut_lines_laid options default (line ∷ ls) l

  no_lines : (place : Place) (closed : Bool) (ls : List BlockLine) (l : LayoutState) → has_any ls ≡ false → with_bytes (code_of ls) l ≡ laid place closed ls l
  no_lines place closed [] l none = add_nil l
  no_lines place closed (line ∷ ls) l none = let wrong : true ≡ false = none in cc

  or_false : (b : Bool) → (b || false) ≡ b
  or_false false = refl
  or_false true = refl

  or_true : (b : Bool) → (b || true) ≡ true
  or_true false = refl
  or_true true = refl

  -- a line where there is none
  some_by : (part : RawPart) (parts : List RawPart) (ls : List BlockLine) → has_any (some_line (part ∷ parts) ls) ≡ true
  some_by part parts [] = refl
  some_by part parts (line ∷ ls) = refl

  some_said : (parts : List RawPart) (ls : List BlockLine) → code_of (some_line parts ls) ≡ code_of ls
  some_said [] ls = refl
  some_said (part ∷ parts) [] = refl
  some_said (part ∷ parts) (line ∷ ls) = refl

  module _ (place : Place) (closed spaced : Bool) (l : LayoutState) where
    -- the definition's pieces
    abbrev pub fence_laid : List RawPart → LayoutState
    fence_laid parts = laid place closed (fenced_lines (not (place.top || closed) || spaced) parts) l

    at_whole : (b : Bool) (parts : List RawPart) → (place.top || closed) ≡ b → fence_laid parts ≡ laid place closed (fenced_lines (not b || spaced) parts) l
    at_whole b parts h = ap (λ (x : Bool). laid place closed (fenced_lines (not x || spaced) parts) l) h

    -- after the lines of code
    abbrev pub code_laid : List RawPart → LayoutState
    code_laid parts = with_bytes (code_of (lines_behind true parts)) l

    -- whether there is a line, also one of which nothing is left
    abbrev pub has_line : Bool → List RawPart → Bool
    has_line space parts = has_any (lines_behind true parts) || (space && has_any parts)

    some_kept : (space : Bool) (parts : List RawPart) → (place.top || closed) ≡ true → has_line space parts ≡ true
        → laid place closed (fenced_lines space parts) l ≡ with_fresh default (code_laid parts)
    some_kept false parts h some = kept place closed (lines_behind true parts) l h (sym (or_false (has_any (lines_behind true parts))) ∙ some)
    some_kept true [] h some = let wrong : false ≡ true = some in cc
    some_kept true (part ∷ parts) h some =
        let ls = raw_lines (without_first_end (part ∷ parts)) in
        kept place closed (some_line (part ∷ parts) ls) l h (some_by part parts ls)
        ∙ ap (λ (x : List ℕ). with_fresh default (with_bytes x l)) (some_said (part ∷ parts) ls)

    none_left : (space : Bool) (parts : List RawPart) → has_line space parts ≡ false → code_laid parts ≡ laid place closed (fenced_lines space parts) l
    none_left false parts none = no_lines place closed (lines_behind true parts) l (sym (or_false (has_any (lines_behind true parts))) ∙ none)
    none_left true [] none = no_lines place closed [] l refl
    none_left true (part ∷ parts) none = let wrong : true ≡ false = sym (or_true (has_any (lines_behind true (part ∷ parts)))) ∙ none in cc

    pub whole_some : (parts : List RawPart) → (place.top || closed) ≡ true → has_line spaced parts ≡ true
        → with_fresh default (code_laid parts) ≡ fence_laid parts
    whole_some parts h some = sym (at_whole true parts h ∙ some_kept spaced parts h some)

    pub whole_none : (parts : List RawPart) → (place.top || closed) ≡ true → has_line spaced parts ≡ false → code_laid parts ≡ fence_laid parts
    whole_none parts h none = none_left spaced parts none ∙ sym (at_whole true parts h)

    pub cut_some : (parts : List RawPart) → (place.top || closed) ≡ false → has_any parts ≡ true
        → with_fresh default (with_bytes default (code_laid parts)) ≡ fence_laid parts
    cut_some [] h some = let wrong : false ≡ true = some in cc
    cut_some (part ∷ parts) h some =
        let ls = raw_lines (without_first_end (part ∷ parts)) in
        sym (at_whole false (part ∷ parts) h
        ∙ cut place closed (some_line (part ∷ parts) ls) l h (some_by part parts ls)
        ∙ ap (λ (x : List ℕ). with_fresh default (with_bytes default (with_bytes x l))) (some_said (part ∷ parts) ls))

    pub cut_none : (parts : List RawPart) → (place.top || closed) ≡ false → has_any parts ≡ false → code_laid parts ≡ fence_laid parts
    cut_none [] h none = no_lines place closed [] l refl ∙ sym (at_whole false [] h)
    cut_none (part ∷ parts) h none = let wrong : true ≡ false = none in cc

    pub ended : (whole line some : Bool) (parts : List RawPart) → whole ≡ (place.top || closed) → line ≡ has_line spaced parts → some ≡ has_any parts
        → last_end default whole line some (code_laid parts) ≡ fence_laid parts
    ended true true some parts w l s = whole_some parts (sym w) (sym l)
    ended true false some parts w l s = whole_none parts (sym w) (sym l)
    ended false line true parts w l s = cut_some parts (sym w) (sym s)
    ended false line false parts w l s = cut_none parts (sym w) (sym s)

  -- ---- the end

  pub end_laid : (place : Place) (closed : Bool) (ls : List BlockLine) (l : LayoutState)
      → fold (lay options default) l (fenced_end place closed ls) ≡ fold (lay options default) (laid place closed ls l) (fenced_close closed)
  end_laid place closed ls l = fold-append (lay options default) l (in_bytes (fenced_pieces place closed ls)) (fenced_close closed)

  -- ---- the start

  pub fenced_laid : (m : Meaning) (place : Place) (info : Option (List ℕ)) (closed : Bool) (ls : List BlockLine) (l : LayoutState)
      → after_pieces options default l (leaf_block_pieces m place (FencedCode info closed ls))
      ≡ fold (lay options default) (code_tags default info l) (fenced_end place closed ls)
  fenced_laid m place info closed ls l =
      let attributes = info_attributes info in
      let content = fenced_pieces place closed ls in
      let line = with_fresh default l in
      laid_both options default line (element (bare_tag (codes "pre")) (element (tag (codes "code") attributes) content)) (fresh_unless closed)
      ∙ ap (λ x. after_pieces options default x (fresh_unless closed)) (code_element_laid options default attributes content line)
      ∙ sym (end_laid place closed ls (code_tags default info l))

-- the start tags, step by step
pub tags_laid : (default : List ℕ) (info : Option (List ℕ)) (l : LayoutState)
    → with_bytes (codes ">") (with_bytes (flat_map attribute_bytes (info_attributes info)) (with_tag default (codes "<pre><code") l)) ≡ code_tags default info l
tags_laid default info l =
    let line = with_fresh default l in
    let attributes = flat_map attribute_bytes (info_attributes info) in
    ap (λ (x : List ℕ). with_bytes (codes ">") (record line { text = x })) (append_assoc line.text (codes "<pre><code") attributes)
    ∙ ap (λ (x : List ℕ). record line { text = x }) (append_assoc line.text (codes "<pre><code" ++ attributes) (codes ">"))

-- the class of an info, step by step
pub class_laid : (text : List ℕ) (l : LayoutState)
    → with_bytes (codes "\"") (with_bytes (encode text) (with_bytes (codes " class=\"language-") l))
    ≡ with_bytes (flat_map attribute_bytes (info_attributes (Some text))) l
class_laid text l =
    let start = codes " class=\"language-" in
    let end = codes "\"" in
    ap (with_bytes end) (add_add l start (encode text))
    ∙ add_add l (start ++ encode text) end
    ∙ ap (λ (x : List ℕ). with_bytes x l) (sym (append-nil (start ++ (encode text ++ []) ++ end) ∙ ap (λ (x : List ℕ). start ++ x ++ end) (append-nil (encode text))))
