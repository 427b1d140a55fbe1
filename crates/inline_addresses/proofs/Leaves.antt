-- A leaf is a byte of text, which makes a run longer, or it ends a run.
use Rattle.std.proofs.Common.{◌≡◌, ℕ, suc, true, false, Bool, List, [], ◌∷◌, ◌++◌, Option, None, Some, refl, ap, ap₂, ◌∙◌, map, cond, eqb, inl, inr}
use Rattle.inline_addresses.proofs.Prelude.{append-nil, cases_Bool, Cons, Data, data_rows, Each, flat_map, InlineLeaf, Inlines, Leaf, leaf_or_byte}
use Rattle.inline_addresses.proofs.Prelude.{leaf_without, line_leaf, lines_rows, Literal, literal_text, Part, part_text, parts_of, row_linked}
use Rattle.inline_addresses.proofs.Prelude.{run_linked, with_literals}
use Rattle.std.proofs.lemmas.Bool.{true≢false}
use Rattle.definition_text.proofs.Each.{each_map}
use Rattle.definition_inline.specs.GfmAutolinkLiteral.{addresses_before}
use Rattle.definition_inline.proofs.GfmAutolinkLiteral.{any_without}
use Rattle.definition_inline.specs.Inline.{Escape, Character, Code, Math, Autolink, Html, EscapedBreak, TrailingBreak, LineEnd, TaskCheck}
use Rattle.inline_leaves.specs.declared.leaf.LeafPart.{LeafPart}
use Rattle.inline_leaves.specs.declared.leaf.LeafPart.TheVariants as part
use Rattle.inline_rows.specs.InlineRows.{InlineRow}
use Rattle.inline_rows.specs.declared.row.InlineRow.TheVariants as row
use Rattle.inline_addresses.specs.Addresses.{no_bytes}

-- ---- of the definition

-- a leaf that ends the run of text before it, in a link and elsewhere
pub record EndsRun (part : InlineLeaf) : Type 0 where
  pub linked : (n : ℕ) (run : List ℕ) (rest : List ℕ → List InlineRow)
      → leaf_or_byte n run part rest ≡ run_linked n run ++ (row_linked n (Part part) ++ rest [])
  pub read : (run : List ℕ) (is : Inlines) → with_literals run (Cons (Leaf part) is) ≡ addresses_before run (Cons (Leaf part) (with_literals [] is))

module _ (P : InlineLeaf → Type 0) (byte : (b : ℕ) → P (Data b)) (other : (part : InlineLeaf) → EndsRun part → P part) where
  pub each_leaf : (part : InlineLeaf) → P part
  each_leaf (Data b) = byte b
  each_leaf (Escape b) = other (Escape b) (record { linked = λ n run rest. refl; read = λ run is. refl })
  each_leaf (Character text) = other (Character text) (record { linked = λ n run rest. refl; read = λ run is. refl })
  each_leaf (Code text) = other (Code text) (record { linked = λ n run rest. refl; read = λ run is. refl })
  each_leaf (Math text) = other (Math text) (record { linked = λ n run rest. refl; read = λ run is. refl })
  each_leaf (Autolink is_email text) = other (Autolink is_email text) (record { linked = λ n run rest. refl; read = λ run is. refl })
  each_leaf (Literal kind text) = other (Literal kind text) (record { linked = λ n run rest. refl; read = λ run is. refl })
  each_leaf (Html html) = other (Html html) (record { linked = λ n run rest. refl; read = λ run is. refl })
  each_leaf EscapedBreak = other EscapedBreak (record { linked = λ n run rest. refl; read = λ run is. refl })
  each_leaf TrailingBreak = other TrailingBreak (record { linked = λ n run rest. refl; read = λ run is. refl })
  each_leaf (LineEnd code) = other (LineEnd code) (record { linked = λ n run rest. refl; read = λ run is. refl })
  each_leaf (TaskCheck done) = other (TaskCheck done) (record { linked = λ n run rest. refl; read = λ run is. refl })

abbrev is_byte : InlineLeaf → Bool
is_byte (Data b) = true
is_byte part = false

ends : (part : InlineLeaf) → is_byte part ≡ false → EndsRun part
ends = each_leaf (λ part. is_byte part ≡ false → EndsRun part) (λ b e. absurd (true≢false e)) (λ part is e. is)

abbrev is_literal : InlineLeaf → Bool
is_literal (Literal kind text) = true
is_literal part = false

-- a leaf that is no literal stays as it is, in a link too
kept : (part : InlineLeaf) → is_literal part ≡ false → leaf_without part ≡ part ∷ []
kept = any_without (λ part made. is_literal part ≡ false → made ≡ part ∷ []) (λ kind text e. absurd (true≢false e)) (λ part e. refl)

-- ---- of the parser

-- leaves that are this text; or none is, and each ends a run
pub data AreText : List InlineLeaf → Option (List ℕ) → Type 0 where
  Bytes : (text : List ℕ) → AreText (map Data text) (Some text)
  Others : (first : InlineLeaf) (others : List InlineLeaf) → EndsRun first → Each EndsRun others → AreText (first ∷ others) None

alone : (part : InlineLeaf) → is_byte part ≡ false → AreText (part ∷ []) None
alone part e = Others part [] (ends part e) tt

-- an escape of nothing is text
escapes : (bytes : List ℕ) → AreText (map Escape bytes) (no_bytes bytes)
escapes [] = Bytes []
escapes (b ∷ bs) = Others (Escape b) (map Escape bs) (ends (Escape b) refl) (each_map EndsRun (λ c. Escape c) bs (λ c. ends (Escape c) refl))

pub part_is : (p : LeafPart) → AreText (parts_of p) (part_text p)
part_is (part.Escape text) = escapes text.now
part_is (part.Unclosed text) = Bytes text.now
part_is part.Spaces = Bytes []
part_is (part.Character text) = alone (Character text.now) refl
part_is (part.Number radix digits) = alone (Character _) refl
part_is (part.Code text) = alone (Code _) refl
part_is (part.Math text) = alone (Math _) refl
part_is (part.Autolink email text) = alone (Autolink email text.now) refl
part_is (part.Literal kind text) = alone (Literal _ text.now) refl
part_is (part.Html text) = alone (Html _) refl
part_is part.EscapedBreak = alone EscapedBreak refl
part_is part.TrailingBreak = alone TrailingBreak refl
part_is (part.LineEnd ending) = alone (LineEnd _) refl

-- a text, or else these rows
abbrev pub text_or : List InlineRow → Option (List ℕ) → List InlineRow
text_or rs None = rs
text_or rs (Some text) = data_rows text

module _ (n : ℕ) where
  abbrev in_link : List InlineLeaf → List InlineRow
  in_link parts = flat_map (row_linked (suc n)) (map Part parts)

  one_kept : (part : InlineLeaf) → is_literal part ≡ false → in_link (part ∷ []) ≡ Part part ∷ []
  one_kept part e = append-nil (map Part (leaf_without part)) ∙ ap (map Part) (kept part e)

  pub all_kept : (make : ℕ → InlineLeaf) → ((b : ℕ) → is_literal (make b) ≡ false) → (bytes : List ℕ) → in_link (map make bytes) ≡ map Part (map make bytes)
  all_kept make h [] = refl
  all_kept make h (b ∷ bs) = ap₂ (λ first rest. map Part first ++ rest) (kept (make b) (h b)) (all_kept make h bs)

  -- verbatim text stays as it is
  line_kept : (b : ℕ) → is_literal (line_leaf b) ≡ false
  line_kept b = elim (cases_Bool (eqb b 10)) [
    | inl feed ↦ ap (λ is. is_literal (cond is (LineEnd 10) (Data b))) feed
    | inr other ↦ ap (λ is. is_literal (cond is (LineEnd 10) (Data b))) other
  ]

  pub lines_kept : (bytes : List ℕ) → in_link (map line_leaf bytes) ≡ lines_rows bytes
  lines_kept bytes = all_kept line_leaf line_kept bytes

  -- in a link, a literal is text, and any other leaf stays as it is
  pub part_in_link : (p : LeafPart) → in_link (parts_of p) ≡ text_or (map Part (parts_of p)) (literal_text (row.Leaf p))
  part_in_link (part.Escape text) = all_kept (λ b. Escape b) (λ b. refl) text.now
  part_in_link (part.Unclosed text) = all_kept (λ b. Data b) (λ b. refl) text.now
  part_in_link (part.Literal kind text) = append-nil (data_rows text.now)
  part_in_link part.Spaces = refl
  part_in_link (part.Character text) = one_kept (Character text.now) refl
  part_in_link (part.Number radix digits) = one_kept (Character _) refl
  part_in_link (part.Code text) = one_kept (Code _) refl
  part_in_link (part.Math text) = one_kept (Math _) refl
  part_in_link (part.Autolink email text) = one_kept (Autolink email text.now) refl
  part_in_link (part.Html text) = one_kept (Html _) refl
  part_in_link part.EscapedBreak = refl
  part_in_link part.TrailingBreak = refl
  part_in_link (part.LineEnd ending) = one_kept (LineEnd _) refl
