-- Rows with literals stand for inline structure with literals.
use Rattle.std.proofs.Common.{◌≡◌, ℕ, zero, suc, List, [], ◌∷◌, ◌++◌, refl, sym, ap, ◌∙◌, map, append_assoc}
use Rattle.inline_addresses.proofs.Prelude.{append-nil, Cons, Data, data_rows, inline_rows, InlineLeaf, Inlines, Leaf, leaf_or_byte, leaf_without, linked_rows}
use Rattle.inline_addresses.proofs.Prelude.{LinkTexts, Part, run_linked, Target, with_addresses, with_literals}
use Rattle.definition_inline.specs.GfmAutolinkLiteral.{parts_before, without_literals}
use Rattle.definition_inline.specs.Inline.{Link, Image, Inline, Span, Linked, Call, Nil}
use Rattle.inline_rows.specs.InlineRows.{InlineRow, EnterSpan, EnterLinked, Leave, CallRow, part_rows}
use Rattle.inline_addresses.specs.Addresses.{depth_after}
use Rattle.inline_addresses.proofs.Leaves.{each_leaf}

-- ---- runs

-- where none stands before
pub no_run : (n : ℕ) → run_linked n [] ≡ []
no_run zero = refl
no_run (suc n) = refl

one_byte : (run : List ℕ) (b : ℕ) → data_rows (run ++ b ∷ []) ≡ data_rows run ++ Part (Data b) ∷ []
one_byte [] b = refl
one_byte (c ∷ cs) b = ap (λ l. Part (Data c) ∷ l) (one_byte cs b)

-- rows that end a run: what follows begins with none
abbrev pub Ends : ℕ → List InlineRow → Type 0
Ends n rest = (run : List ℕ) → linked_rows n run rest ≡ run_linked n run ++ linked_rows n [] rest

pub none_ends : (n : ℕ) → Ends n []
none_ends n run = sym (ap (λ l. run_linked n run ++ l) (no_run n) ∙ append-nil (run_linked n run))

leave_ends : (n : ℕ) (rest : List InlineRow) → Ends n (Leave ∷ rest)
leave_ends n rest run = ap (λ l. run_linked n run ++ (l ++ (Leave ∷ linked_rows (depth_after n Leave) [] rest))) (sym (no_run n))

module _ (leads : Target → LinkTexts) where
  leaves_before : (parts : List InlineLeaf) (others : Inlines) → inline_rows leads (parts_before (map Leaf parts) others) ≡ map Part parts ++ inline_rows leads others
  leaves_before [] others = refl
  leaves_before (part ∷ more) others = ap (λ l. Part part ∷ l) (leaves_before more others)

  -- leaves before others, and rows after them
  leaves_rows : (parts : List InlineLeaf) (others : Inlines) (rest : List InlineRow)
      → inline_rows leads (parts_before (map Leaf parts) others) ++ rest ≡ map Part parts ++ (inline_rows leads others ++ rest)
  leaves_rows parts others rest = ap (λ l. l ++ rest) (leaves_before parts others) ∙ append_assoc (map Part parts) (inline_rows leads others) rest

  opened : (first : InlineRow) (inner outer rest : List InlineRow)
      → ((first ∷ (inner ++ Leave ∷ [])) ++ outer) ++ rest ≡ first ∷ (inner ++ Leave ∷ (outer ++ rest))
  opened first inner outer rest =
      append_assoc (first ∷ (inner ++ Leave ∷ [])) outer rest ∙ ap (λ l. first ∷ l) (append_assoc inner (Leave ∷ []) (outer ++ rest))

  -- ---- in a link

  abbrev tail_rows : ℕ → Inlines → List InlineRow → List InlineRow
  tail_rows n is rest = inline_rows leads (without_literals is) ++ linked_rows (suc n) [] rest

  leaf_inside : (n : ℕ) (run : List ℕ) (rest : List ℕ → List InlineRow) (end : List InlineRow) → ((next : List ℕ) → rest next ≡ data_rows next ++ end)
      → (part : InlineLeaf) → leaf_or_byte (suc n) run part rest ≡ data_rows run ++ (map Part (leaf_without part) ++ end)
  leaf_inside n run rest end h =
      each_leaf (λ part. leaf_or_byte (suc n) run part rest ≡ data_rows run ++ (map Part (leaf_without part) ++ end))
      (λ b. h (run ++ b ∷ []) ∙ ap (λ l. l ++ end) (one_byte run b) ∙ append_assoc (data_rows run) (Part (Data b) ∷ []) end)
      (λ part ends. ends.linked (suc n) run rest ∙ ap (λ l. data_rows run ++ (map Part (leaf_without part) ++ l)) (h []))

  held_inside : (n : ℕ) (run : List ℕ) (first : InlineRow) (kids is : Inlines) (rest : List InlineRow)
      → ((inner : List InlineRow) → linked_rows (suc n) run (first ∷ inner) ≡ data_rows run ++ (first ∷ linked_rows (suc (suc n)) [] inner))
      → ((more : List InlineRow) → linked_rows (suc (suc n)) [] (inline_rows leads kids ++ Leave ∷ more)
      ≡ inline_rows leads (without_literals kids) ++ (Leave ∷ linked_rows (suc n) [] more))
      → linked_rows (suc n) [] (inline_rows leads is ++ rest) ≡ tail_rows n is rest
      → linked_rows (suc n) run (((first ∷ (inline_rows leads kids ++ Leave ∷ [])) ++ inline_rows leads is) ++ rest)
      ≡ data_rows run ++ (((first ∷ (inline_rows leads (without_literals kids) ++ Leave ∷ [])) ++ inline_rows leads (without_literals is))
      ++ linked_rows (suc n) [] rest)
  held_inside n run first kids is rest opens holds h =
      let before = data_rows run in
      let inner = inline_rows leads (without_literals kids) in
      let more = inline_rows leads is ++ rest in
      ap (linked_rows (suc n) run) (opened first (inline_rows leads kids) (inline_rows leads is) rest)
      ∙ opens (inline_rows leads kids ++ Leave ∷ more)
      ∙ ap (λ l. before ++ (first ∷ l)) (holds more)
      ∙ ap (λ l. before ++ (first ∷ (inner ++ Leave ∷ l))) h
      ∙ ap (λ l. before ++ l) (sym (opened first inner (inline_rows leads (without_literals is)) (linked_rows (suc n) [] rest)))

  pub inside : (n : ℕ) (run : List ℕ) (kids : Inlines) (rest : List InlineRow) → Ends (suc n) rest
      → linked_rows (suc n) run (inline_rows leads kids ++ rest) ≡ data_rows run ++ tail_rows n kids rest
  inside n run Nil rest ends = ends run
  inside n run (Cons (Leaf part) is) rest ends =
      leaf_inside n run (λ next. linked_rows (suc n) next (inline_rows leads is ++ rest)) (tail_rows n is rest) (λ next. inside n next is rest ends) part
      ∙ ap (λ l. data_rows run ++ l) (sym (leaves_rows (leaf_without part) (without_literals is) (linked_rows (suc n) [] rest)))
  inside n run (Cons (Span kind kids) is) rest ends =
      held_inside n run (EnterSpan kind) kids is rest (λ inner. refl) (λ more. inside (suc n) [] kids (Leave ∷ more) (leave_ends (suc (suc n)) more))
      (inside n [] is rest ends)
  inside n run (Cons (Linked kind target kids) is) rest ends =
      held_inside n run (EnterLinked kind (leads target)) kids is rest (λ inner. refl)
      (λ more. inside (suc n) [] kids (Leave ∷ more) (leave_ends (suc (suc n)) more)) (inside n [] is rest ends)
  inside n run (Cons (Call label) is) rest ends = ap (λ l. data_rows run ++ (CallRow label ∷ l)) (inside n [] is rest ends)

  -- ---- elsewhere

  leaf_outside : (run : List ℕ) (is : Inlines) (rest : List ℕ → List InlineRow) (end : List InlineRow)
      → ((next : List ℕ) → rest next ≡ inline_rows leads (with_literals next is) ++ end)
      → (part : InlineLeaf) → leaf_or_byte zero run part rest ≡ inline_rows leads (with_literals run (Cons (Leaf part) is)) ++ end
  leaf_outside run is rest end h =
      each_leaf (λ part. leaf_or_byte zero run part rest ≡ inline_rows leads (with_literals run (Cons (Leaf part) is)) ++ end) (λ b. h (run ++ b ∷ []))
      (λ part ends. ends.linked zero run rest ∙ ap (λ l. run_linked zero run ++ (Part part ∷ l)) (h [])
      ∙ sym (ap (λ kids. inline_rows leads kids ++ end) (ends.read run is) ∙ leaves_rows (with_addresses run) (Cons (Leaf part) (with_literals [] is)) end))

  held_outside : (run : List ℕ) (first : InlineRow) (made : Inline) (n : ℕ) (kids linked is : Inlines) (rest : List InlineRow)
      → part_rows leads made ≡ first ∷ (inline_rows leads linked ++ Leave ∷ [])
      → ((inner : List InlineRow) → linked_rows zero run (first ∷ inner) ≡ run_linked zero run ++ (first ∷ linked_rows n [] inner))
      → ((more : List InlineRow) → linked_rows n [] (inline_rows leads kids ++ Leave ∷ more) ≡ inline_rows leads linked ++ linked_rows n [] (Leave ∷ more))
      → ((more : List InlineRow) → linked_rows n [] (Leave ∷ more) ≡ Leave ∷ linked_rows zero [] more)
      → linked_rows zero [] (inline_rows leads is ++ rest) ≡ inline_rows leads (with_literals [] is) ++ linked_rows zero [] rest
      → linked_rows zero run (((first ∷ (inline_rows leads kids ++ Leave ∷ [])) ++ inline_rows leads is) ++ rest)
      ≡ inline_rows leads (parts_before (map Leaf (with_addresses run)) (Cons made (with_literals [] is))) ++ linked_rows zero [] rest
  held_outside run first made n kids linked is rest makes opens holds leaves h =
      let before = run_linked zero run in
      let inner = inline_rows leads linked in
      let later = inline_rows leads (with_literals [] is) in
      let end = linked_rows zero [] rest in
      let more = inline_rows leads is ++ rest in
      ap (linked_rows zero run) (opened first (inline_rows leads kids) (inline_rows leads is) rest)
      ∙ opens (inline_rows leads kids ++ Leave ∷ more)
      ∙ ap (λ l. before ++ (first ∷ l)) (holds more ∙ ap (λ l. inner ++ l) (leaves more ∙ ap (λ l. Leave ∷ l) h))
      ∙ ap (λ l. before ++ l) (sym (opened first inner later end))
      ∙ ap (λ l. before ++ ((l ++ later) ++ end)) (sym makes)
      ∙ sym (leaves_rows (with_addresses run) (Cons made (with_literals [] is)) end)

  pub outside : (run : List ℕ) (kids : Inlines) (rest : List InlineRow) → Ends zero rest
      → linked_rows zero run (inline_rows leads kids ++ rest) ≡ inline_rows leads (with_literals run kids) ++ linked_rows zero [] rest
  outside run Nil rest ends = ends run ∙ sym (leaves_rows (with_addresses run) Nil (linked_rows zero [] rest))
  outside run (Cons (Leaf part) is) rest ends =
      leaf_outside run is (λ next. linked_rows zero next (inline_rows leads is ++ rest)) (linked_rows zero [] rest) (λ next. outside next is rest ends) part
  outside run (Cons (Span kind kids) is) rest ends =
      held_outside run (EnterSpan kind) (Span kind (with_literals [] kids)) zero kids (with_literals [] kids) is rest refl (λ inner. refl)
      (λ more. outside [] kids (Leave ∷ more) (leave_ends zero more)) (λ more. refl) (outside [] is rest ends)
  outside run (Cons (Linked Image target kids) is) rest ends =
      held_outside run (EnterLinked Image (leads target)) (Linked Image target (with_literals [] kids)) zero kids (with_literals [] kids) is rest refl
      (λ inner. refl) (λ more. outside [] kids (Leave ∷ more) (leave_ends zero more)) (λ more. refl) (outside [] is rest ends)
  outside run (Cons (Linked Link target kids) is) rest ends =
      held_outside run (EnterLinked Link (leads target)) (Linked Link target (without_literals kids)) (suc zero) kids (without_literals kids) is rest refl
      (λ inner. refl) (λ more. inside zero [] kids (Leave ∷ more) (leave_ends (suc zero) more)) (λ more. refl) (outside [] is rest ends)
  outside run (Cons (Call label) is) rest ends =
      ap (λ l. run_linked zero run ++ (CallRow label ∷ l)) (outside [] is rest ends)
      ∙ sym (leaves_rows (with_addresses run) (Cons (Call label) (with_literals [] is)) (linked_rows zero [] rest))

  pub rows_linked : (kids : Inlines) → linked_rows zero [] (inline_rows leads kids) ≡ inline_rows leads (with_literals [] kids)
  rows_linked kids =
      ap (linked_rows zero []) (sym (append-nil (inline_rows leads kids)))
      ∙ outside [] kids [] (none_ends zero)
      ∙ append-nil (inline_rows leads (with_literals [] kids))
