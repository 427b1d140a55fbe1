-- One step of the scan, by what comes first.
use Rattle.std.proofs.Common.{◌≡◌, ℕ, ◌+◌, ◌-◌, ◌<◌, Bool, true, false, ◌&&◌, eqb, List, [], ◌∷◌, map, refl, sym, ap, ◌∙◌, length, arith, drop, Option, None}
use Rattle.std.proofs.Common.{Some, get_or}
use Rattle.inline_parser.proofs.Prelude.{codes_of, cond-true, Delimiters, ended_here, formed_in, formed_size, InlineCode, InlineContext, InlineLeaf, Item}
use Rattle.inline_parser.proofs.Prelude.{label_start_at, Leaf, leaf_here, leaf_items, LinkOrCall, read_tokens, run_at, start_more, text_items, true≢false}
use Rattle.inline_parser.proofs.Prelude.{unformed_in}
use Rattle.definition_inline.specs.Inline.{Found}
use Rattle.definition_inline.specs.Attention.{Run}
use Rattle.definition_inline.specs.Scan.{leaf_tokens, LabelStart, text, Text, OpenLabel, Reading, reading}
use Rattle.definition_inline.specs.Scan.{label_end_step, ended_step, and_then, scan}
use Rattle.definition_inline.proofs.Scanning.{scan_skipped, scan_step, step_leaf, step_run, step_start, step_last}
use Rattle.definition_inline.proofs.InlineSizes.{here_fits}
use Rattle.inline_text.proofs.Texts.{other_step}

is_there : {A : Type 0} → Option A → Bool
is_there None = false
is_there (Some x) = true

no_none : {A : Type 0} → (x : A) → None ≡ Some x → ⊥
unfolding is_there
no_none x e = true≢false (sym (ap is_there e))

-- the tokens of leaves
tokens_are : (parts : List InlineLeaf) → map (λ part. Item (Leaf part)) parts ≡ leaf_items parts
tokens_are [] = refl
tokens_are (part ∷ others) = ap (λ tokens. Item (Leaf part) ∷ tokens) (tokens_are others)

module _ (context : InlineContext) where
  pub leaf_goes : (r : Reading) (view : List InlineCode) (found : Found) → leaf_here context view ≡ Some found
      → scan context 0 r view ≡ scan context 0 (read_tokens (leaf_items found.parts) r) (drop found.size view)
  leaf_goes r [] found is = let fits = here_fits context [] found is in absurd (omega (arith, fits.some, fits.within))
  leaf_goes r (c ∷ cs) found is =
      let fits = here_fits context (c ∷ cs) found is in
      scan_step context r (read_tokens (leaf_tokens found) r) c cs (found.size - 1) (step_leaf context r c cs found is)
      ∙ ap (λ n. scan context 0 (read_tokens (leaf_tokens found) r) (drop n (c ∷ cs))) (omega (arith, fits.some))
      ∙ ap (λ tokens. scan context 0 (read_tokens tokens r) (drop found.size (c ∷ cs))) (tokens_are found.parts)

  pub run_goes : (r : Reading) (view : List InlineCode) (run : Run) → leaf_here context view ≡ None → run_at context.options view ≡ Some run → 0 < run.left
      → scan context 0 r view ≡ scan context 0 (read_tokens (Delimiters run ∷ []) r) (drop run.left view)
  run_goes r [] run none is some = absurd (no_none run is)
  run_goes r (c ∷ cs) run none is some =
      scan_step context r (read_tokens (Delimiters run ∷ []) r) c cs (run.left - 1) (step_run context r c cs run none is)
      ∙ ap (λ n. scan context 0 (read_tokens (Delimiters run ∷ []) r) (drop n (c ∷ cs))) (omega (arith, some))

  pub start_goes : (r : Reading) (c : InlineCode) (cs : List InlineCode) (start : LabelStart) → leaf_here context (c ∷ cs) ≡ None
      → run_at context.options (c ∷ cs) ≡ None
      → label_start_at context.options.constructs (codes_of (c ∷ cs)) ≡ Some start
      → scan context 0 r (c ∷ cs)
      ≡ scan context 0 (reading (text [] false) (record {
        start = start;
        from = drop (1 + start_more start) (codes_of (c ∷ cs));
        outer = r.now;
      } ∷ r.open_labels)) (drop (1 + start_more start) (c ∷ cs))
  start_goes r c cs start none no_run is =
      scan_step context r (reading (text [] false) (record {
        start = start;
        from = drop (1 + start_more start) (codes_of (c ∷ cs));
        outer = r.now;
      } ∷ r.open_labels)) c cs (start_more start)
      (step_start context r c cs start none no_run is)

  -- a `]` is read
  end_read : (r : Reading) (c : InlineCode) (cs : List InlineCode) → leaf_here context (c ∷ cs) ≡ None → run_at context.options (c ∷ cs) ≡ None
      → label_start_at context.options.constructs (codes_of (c ∷ cs)) ≡ None → (context.options.constructs.label_end && eqb c.code 93) ≡ true
      → scan context 0 r (c ∷ cs) ≡ and_then (label_end_step context (codes_of (c ∷ cs)) r.now r.open_labels) (λ k next. scan context k next cs)
  end_read r c cs none no_run no_start is =
      ap (λ s. and_then s (λ k next. scan context k next cs))
      (step_last context r c cs none no_run no_start ∙ cond-true (context.options.constructs.label_end && eqb c.code 93) _ _ is)

  none_read : (now : Text) (labels : List OpenLabel) (c : InlineCode) (cs : List InlineCode) → ended_here context (codes_of (c ∷ cs)) labels now ≡ None
      → and_then (label_end_step context (codes_of (c ∷ cs)) now labels) (λ k next. scan context k next cs)
      ≡ scan context 0 (read_tokens (text_items (93 ∷ [])) (unformed_in labels now)) cs
  none_read now [] c cs is = refl
  none_read now (label ∷ others) c cs is = ap (λ e. and_then (ended_step label others now e) (λ k next. scan context k next cs)) is

  pub end_forms_nothing : (r : Reading) (c : InlineCode) (cs : List InlineCode) → leaf_here context (c ∷ cs) ≡ None → run_at context.options (c ∷ cs) ≡ None
      → label_start_at context.options.constructs (codes_of (c ∷ cs)) ≡ None → (context.options.constructs.label_end && eqb c.code 93) ≡ true
      → ended_here context (codes_of (c ∷ cs)) r.open_labels r.now ≡ None
      → scan context 0 r (c ∷ cs) ≡ scan context 0 (read_tokens (text_items (93 ∷ [])) (unformed_in r.open_labels r.now)) cs
  end_forms_nothing r c cs none no_run no_start is ended = end_read r c cs none no_run no_start is ∙ none_read r.now r.open_labels c cs ended

  some_read : (now : Text) (labels : List OpenLabel) (c : InlineCode) (cs : List InlineCode) (e : LinkOrCall)
      → ended_here context (codes_of (c ∷ cs)) labels now ≡ Some e
      → and_then (label_end_step context (codes_of (c ∷ cs)) now labels) (λ k next. scan context k next cs)
      ≡ scan context 0 (formed_in e labels now) (drop (formed_size e) cs)
  some_read now [] c cs e is = absurd (no_none e is)
  some_read now (label ∷ others) c cs e is =
      ap (λ o. and_then (ended_step label others now o) (λ k next. scan context k next cs)) is
      ∙ scan_skipped context (formed_size e) (formed_in e (label ∷ others) now) cs

  pub end_forms : (r : Reading) (c : InlineCode) (cs : List InlineCode) (e : LinkOrCall) → leaf_here context (c ∷ cs) ≡ None
      → run_at context.options (c ∷ cs) ≡ None
      → label_start_at context.options.constructs (codes_of (c ∷ cs)) ≡ None → (context.options.constructs.label_end && eqb c.code 93) ≡ true
      → ended_here context (codes_of (c ∷ cs)) r.open_labels r.now ≡ Some e
      → scan context 0 r (c ∷ cs) ≡ scan context 0 (formed_in e r.open_labels r.now) (drop (formed_size e) cs)
  end_forms r c cs e none no_run no_start is ended = end_read r c cs none no_run no_start is ∙ some_read r.now r.open_labels c cs e ended

  -- ---- the same of codes of which there are some

  pub start_view_goes : (r : Reading) (view : List InlineCode) (start : LabelStart) (n : ℕ) → n ≡ 1 + start_more start → 0 < length view
      → leaf_here context view ≡ None → run_at context.options view ≡ None
      → label_start_at context.options.constructs (codes_of view) ≡ Some start
      → scan context 0 r view
      ≡ scan context 0 (reading (text [] false) (record { start = start; from = drop n (codes_of view); outer = r.now } ∷ r.open_labels)) (drop n view)
  start_view_goes r [] start n size some none no_run is = absurd (omega (arith, some))
  start_view_goes r (c ∷ cs) start n size some none no_run is =
      start_goes r c cs start none no_run is
      ∙ ap (λ k. scan context 0 (reading (text [] false) (record { start = start; from = drop k (codes_of (c ∷ cs)); outer = r.now } ∷ r.open_labels))
      (drop k (c ∷ cs))) (sym size)

  is_end : (c : ℕ) → context.options.constructs.label_end ≡ true → c ≡ 93 → (context.options.constructs.label_end && eqb c 93) ≡ true
  is_end c on is = ap (λ b. b && eqb c 93) on ∙ ap (λ k. eqb k 93) is

  pub nothing_view_goes : (r : Reading) (view : List InlineCode) → 0 < length view → leaf_here context view ≡ None → run_at context.options view ≡ None
      → label_start_at context.options.constructs (codes_of view) ≡ None → context.options.constructs.label_end ≡ true → get_or (codes_of view) 0 0 ≡ 93
      → ended_here context (codes_of view) r.open_labels r.now ≡ None
      → scan context 0 r view ≡ scan context 0 (read_tokens (text_items (93 ∷ [])) (unformed_in r.open_labels r.now)) (drop 1 view)
  nothing_view_goes r [] some none no_run no_start on is ended = absurd (omega (arith, some))
  nothing_view_goes r (c ∷ cs) some none no_run no_start on is ended = end_forms_nothing r c cs none no_run no_start (is_end c.code on is) ended

  pub formed_view_goes : (r : Reading) (view : List InlineCode) (e : LinkOrCall) → 0 < length view → leaf_here context view ≡ None
      → run_at context.options view ≡ None
      → label_start_at context.options.constructs (codes_of view) ≡ None → context.options.constructs.label_end ≡ true → get_or (codes_of view) 0 0 ≡ 93
      → ended_here context (codes_of view) r.open_labels r.now ≡ Some e
      → scan context 0 r view ≡ scan context 0 (formed_in e r.open_labels r.now) (drop (formed_size e) (drop 1 view))
  formed_view_goes r [] e some none no_run no_start on is ended = absurd (omega (arith, some))
  formed_view_goes r (c ∷ cs) e some none no_run no_start on is ended = end_forms r c cs e none no_run no_start (is_end c.code on is) ended

  pub byte_view_goes : (r : Reading) (view : List InlineCode) (b : ℕ) → 0 < length view → leaf_here context view ≡ None → run_at context.options view ≡ None
      → label_start_at context.options.constructs (codes_of view) ≡ None → get_or (codes_of view) 0 0 ≡ b
      → (context.options.constructs.label_end && eqb b 93) ≡ false
      → scan context 0 r view ≡ scan context 0 (read_tokens (text_items (b ∷ [])) r) (drop 1 view)
  byte_view_goes r [] b some none no_run no_start is no_end = absurd (omega (arith, some))
  byte_view_goes r (c ∷ cs) b some none no_run no_start is no_end =
      other_step context r c cs none no_run no_start (ap (λ k. context.options.constructs.label_end && eqb k 93) is ∙ no_end)
      ∙ ap (λ k. scan context 0 (read_tokens (text_items (k ∷ [])) r) cs) is
