-- The rows of inline structure, appended.
use Rattle.std.proofs.Common.{◌≡◌, ℕ, Bool, true, false, ◌||◌, List, [], ◌∷◌, ◌++◌, refl, sym, ap, ◌∙◌, append_assoc, subst}
use Rattle.std.specs.Prelude.{map}
use Rattle.std.specs.Str.{bytes_eq}
use Rattle.std.proofs.lemmas.Slice.Eq.{bytes_eq-Decides}
use Rattle.compile_rows.proofs.Prelude.{content_codes, ending_rows, inline_rows, InlineLeaf, InlineRow, Inlines, line_ending_code, LineEnd, LinkTexts}
use Rattle.compile_rows.proofs.Prelude.{Part, Target}
use Rattle.definition_inline.specs.Inline.{Inline, Leaf}
use Rattle.definition_inline.specs.Inline as inline
use Rattle.inline_rows.specs.InlineRows.{part_rows}
use Rattle.event_grammar.specs.Facts.{is_ending}
use Rattle.event_meaning.specs.Raw.{ending_of}
use Rattle.event_meaning.specs.Texts.{append, leaves, endings}

abbrev ReadsOne : List ℕ → Type 0
ReadsOne piece = content_codes piece ≡ line_ending_code (ending_of piece) ∷ []

one_of : (piece : List ℕ) (a b c : Bool) → (a ≡ true → piece ≡ 10 ∷ []) → (b ≡ true → piece ≡ 13 ∷ 10 ∷ []) → (c ≡ true → piece ≡ 13 ∷ [])
    → ((a || b) || c) ≡ true → ReadsOne piece
one_of piece true b c f g h e = subst ReadsOne (sym (f refl)) refl
one_of piece false true c f g h e = subst ReadsOne (sym (g refl)) refl
one_of piece false false true f g h e = subst ReadsOne (sym (h refl)) refl
one_of piece false false false f g h e = absurd (let l : false ≡ true = e in cc)

-- a line ending is one code
pub reads_one : (piece : List ℕ) → is_ending piece ≡ true → ReadsOne piece
reads_one piece e =
    one_of piece (bytes_eq piece (10 ∷ [])) (bytes_eq piece (13 ∷ 10 ∷ [])) (bytes_eq piece (13 ∷ [])) (bytes_eq-Decides piece (10 ∷ [])).0
    (bytes_eq-Decides piece (13 ∷ 10 ∷ [])).0 (bytes_eq-Decides piece (13 ∷ [])).0 e

module _ (leads : Target → LinkTexts) where
  pub append_rows : (a b : Inlines) → inline_rows leads (append a b) ≡ inline_rows leads a ++ inline_rows leads b
  append_rows inline.Nil b = refl
  append_rows (inline.Cons i is) b =
      ap (λ (z : List InlineRow). part_rows leads i ++ z) (append_rows is b)
      ∙ sym (append_assoc (part_rows leads i) (inline_rows leads is) (inline_rows leads b))

  pub leaves_rows : (ls : List InlineLeaf) → inline_rows leads (leaves ls) ≡ map Part ls
  leaves_rows [] = refl
  leaves_rows (l ∷ ls) = ap (λ (z : List InlineRow). Part l ∷ z) (leaves_rows ls)

  -- a line ending has one row
  pub endings_rows : (piece : List ℕ) → is_ending piece ≡ true → inline_rows leads (endings piece) ≡ ending_rows piece
  endings_rows piece h = leaves_rows (map LineEnd (content_codes piece)) ∙ ap (λ (z : List ℕ). map Part (map LineEnd z)) (reads_one piece h)
