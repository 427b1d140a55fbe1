-- Where no end of a span comes too early and none is missing, rows stand for the rows of the inline structure.
use Rattle.std.proofs.Common.{◌≡◌, ℕ, suc, ◌+◌, ◌-◌, ◌<◌, List, [], ◌∷◌, ◌++◌, sym, ap, ◌∙◌, length, arith, subst, append_assoc}
use Rattle.std.specs.List.{fold}
use Rattle.inline_rows.proofs.Prelude.{append-nil, Closes, Holds, Inline, inline_rows, LinkTexts, Opens, part_rows, SpanRow, Target, told_rows}
use Rattle.std.proofs.lemmas.List.{nil_from_length}
use Rattle.definition_inline.specs.Inline.{Span, Inlines, Nil, Cons, followed_by}
use Rattle.inline_rows.specs.InlineRows as rows
use Rattle.definition_inline.specs.SpanRows.{OpenSpan, nest, nest_row, nest_spans}

-- from so many open spans rows lead to so many, and none of them ends a span where none is open
abbrev pub Nests : ℕ → List SpanRow → ℕ → Type 0
Nests before [] after = before ≡ after
Nests before (Holds i ∷ rs) after = Nests before rs after
Nests before (Opens kind ∷ rs) after = Nests (before + 1) rs after
Nests before (Closes ∷ rs) after = (0 < before) × Nests (before - 1) rs after

module _ (leads : Target → LinkTexts) where
  -- the rows of the spans that are open
  abbrev around_rows : List OpenSpan → List rows.InlineRow
  around_rows [] = []
  around_rows (innermost ∷ others) = around_rows others ++ (inline_rows leads innermost.before ++ rows.EnterSpan innermost.kind ∷ [])

  abbrev nest_rows : Inlines → List OpenSpan → List rows.InlineRow
  nest_rows now around = around_rows around ++ inline_rows leads now

  one_more : (is : Inlines) (i : Inline) → inline_rows leads (followed_by is i) ≡ inline_rows leads is ++ part_rows leads i
  one_more Nil i = append-nil (part_rows leads i)
  one_more (Cons j js) i = ap (λ xs. part_rows leads j ++ xs) (one_more js i)
      ∙ sym (append_assoc (part_rows leads j) (inline_rows leads js) (part_rows leads i))

  -- the innermost span ends
  left : (now : Inlines) (o : OpenSpan) (others : List OpenSpan)
      → nest_rows (followed_by o.before (Span o.kind now)) others ≡ nest_rows now (o ∷ others) ++ rows.Leave ∷ []
  left now o others =
      let a = around_rows others in
      let b = inline_rows leads o.before in
      let e : List rows.InlineRow = rows.EnterSpan o.kind ∷ [] in
      let n = inline_rows leads now in
      ap (λ xs. a ++ xs) (one_more o.before (Span o.kind now))
      ∙ sym (append_assoc ((a ++ (b ++ e))) n (rows.Leave ∷ []) ∙ append_assoc a (b ++ e) (n ++ rows.Leave ∷ [])
      ∙ ap (λ xs. a ++ xs) (append_assoc b e (n ++ rows.Leave ∷ [])))

  -- the rows of a nest after more rows, and how many spans are open then
  record After (now : Inlines) (around : List OpenSpan) (rs : List SpanRow) (after : ℕ) : Type 0 where
    count : length (fold nest_row (nest now around) rs).around ≡ after
    same : nest_rows (fold nest_row (nest now around) rs).now (fold nest_row (nest now around) rs).around ≡ nest_rows now around ++ told_rows leads rs

  read : (rs : List SpanRow) (now : Inlines) (around : List OpenSpan) (after : ℕ) → Nests (length around) rs after → After now around rs after
  read [] now around after nests = record { count = nests; same = sym (append-nil (nest_rows now around)) }
  read (Holds i ∷ rs) now around after nests =
      let more = read rs (followed_by now i) around after nests in
      record {
        count = more.count;
        same =
            more.same
            ∙ ap (λ xs. xs ++ told_rows leads rs) (ap (λ xs. around_rows around ++ xs) (one_more now i)
            ∙ sym (append_assoc (around_rows around) (inline_rows leads now) (part_rows leads i)))
            ∙ append_assoc (nest_rows now around) (part_rows leads i) (told_rows leads rs);
      }
  read (Opens kind ∷ rs) now around after nests =
      let open_span : OpenSpan = record { kind = kind; before = now } in
      let deeper : length around + 1 ≡ suc (length around) = omega arith in
      let more = read rs Nil (open_span ∷ around) after (subst (λ n. Nests n rs after) deeper nests) in
      let here : nest_rows Nil (open_span ∷ around) ≡ nest_rows now around ++ rows.EnterSpan kind ∷ [] =
      append-nil (around_rows (open_span ∷ around)) ∙ sym (append_assoc (around_rows around) (inline_rows leads now) (rows.EnterSpan kind ∷ [])) in
      record {
        count = more.count;
        same =
            more.same ∙ ap (λ xs. xs ++ told_rows leads rs) here
            ∙ append_assoc (nest_rows now around) (rows.EnterSpan kind ∷ []) (told_rows leads rs);
      }
  read (Closes ∷ rs) now [] after nests = absurd (omega (arith, nests.0))
  read (Closes ∷ rs) now (o ∷ others) after nests =
      let fewer : suc (length others) - 1 ≡ length others = omega arith in
      let more = read rs (followed_by o.before (Span o.kind now)) others after (subst (λ n. Nests n rs after) fewer nests.1) in
      record {
        count = more.count;
        same =
            more.same ∙ ap (λ xs. xs ++ told_rows leads rs) (left now o others)
            ∙ append_assoc (nest_rows now (o ∷ others)) (rows.Leave ∷ []) (told_rows leads rs);
      }

  -- rows that leave no span open
  pub nested_rows : (rs : List SpanRow) → Nests 0 rs 0 → inline_rows leads (nest_spans rs) ≡ told_rows leads rs
  nested_rows rs nests =
      let all = read rs Nil [] 0 nests in
      let none = nil_from_length (fold nest_row (nest Nil []) rs).around all.count in
      sym (ap (λ os. around_rows os ++ inline_rows leads (nest_spans rs)) none) ∙ all.same
