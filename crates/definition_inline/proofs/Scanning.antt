-- One step of the scan of a content, or of a string.
use Rattle.std.proofs.Common.{◌≡◌, false, ℕ, zero, suc, ◌+◌, ◌-◌, ◌<◌, List, [], ◌∷◌, ◌++◌, refl, ap, ◌∙◌, drop, arith, Option, None, Some}
use Rattle.std.proofs.lemmas.List.{drop-drop}
use Rattle.markdown_options.specs.declared.configuration.Constructs.{Constructs}
use Rattle.definition_text.specs.InlineCode.{InlineCode, codes_of}
use Rattle.definition_inline.specs.Inline.{Data, Found}
use Rattle.definition_inline.specs.Attention.{Run, run_at}
use Rattle.definition_inline.specs.Spans.{Delimiters}
use Rattle.definition_inline.specs.Scan.{InlineContext, leaf_here, leaf_tokens, LabelStart, label_start_at, start_more, text, Reading, reading, read_tokens, Next, last_step}
use Rattle.definition_inline.specs.Scan.{leaf_step, run_step, label_step, step, and_then, scan}
use Rattle.definition_inline.specs.Strings.{string_leaf_at, or_byte, string_parts}

-- the codes of what is left of a content
pub drop-codes_of : (n : ℕ) (content : List InlineCode) → codes_of (drop n content) ≡ drop n (codes_of content)
drop-codes_of zero content = refl
drop-codes_of (suc n) [] = refl
drop-codes_of (suc n) (c ∷ cs) = drop-codes_of n cs

-- codes that are taken already
pub scan_skipped : (context : InlineContext) (k : ℕ) (r : Reading) (content : List InlineCode) → scan context k r content ≡ scan context 0 r (drop k content)
scan_skipped context zero r [] = refl
scan_skipped context (suc k) r [] = refl
scan_skipped context zero r (c ∷ cs) = refl
scan_skipped context (suc k) r (c ∷ cs) = scan_skipped context k r cs

-- a step at a place, and the scan of what it leaves
pub scan_step : (context : InlineContext) (r next : Reading) (c : InlineCode) (cs : List InlineCode) (more : ℕ) → step context r c cs ≡ Next more next
    → scan context 0 r (c ∷ cs) ≡ scan context 0 next (drop (1 + more) (c ∷ cs))
scan_step context r next c cs more is =
    ap (λ s. and_then s (λ k r2. scan context k r2 cs)) is ∙ scan_skipped context more next cs
    ∙ ap (scan context 0 next) (drop-drop more 1 (c ∷ cs) ∙ ap (λ n. drop n (c ∷ cs)) (omega arith))

-- a construct that holds no other
pub step_leaf : (context : InlineContext) (r : Reading) (c : InlineCode) (cs : List InlineCode) (found : Found)
    → leaf_here context (c ∷ cs) ≡ Some found → step context r c cs ≡ Next (found.size - 1) (read_tokens (leaf_tokens found) r)
step_leaf context r c cs found is = ap (leaf_step context c.code (codes_of (c ∷ cs)) r (run_at context.options (c ∷ cs))) is

-- a run
pub step_run : (context : InlineContext) (r : Reading) (c : InlineCode) (cs : List InlineCode) (run : Run)
    → leaf_here context (c ∷ cs) ≡ None → run_at context.options (c ∷ cs) ≡ Some run
    → step context r c cs ≡ Next (run.left - 1) (read_tokens (Delimiters run ∷ []) r)
step_run context r c cs run none is =
    let content = codes_of (c ∷ cs) in
    ap (leaf_step context c.code content r (run_at context.options (c ∷ cs))) none ∙ ap (run_step context c.code content r) is

-- a label start
pub step_start : (context : InlineContext) (r : Reading) (c : InlineCode) (cs : List InlineCode) (start : LabelStart)
    → leaf_here context (c ∷ cs) ≡ None → run_at context.options (c ∷ cs) ≡ None → label_start_at context.options.constructs (codes_of (c ∷ cs)) ≡ Some start
    → step context r c cs
    ≡ Next (start_more start)
    (reading (text [] false) (record { start = start; from = drop (1 + start_more start) (codes_of (c ∷ cs)); outer = r.now } ∷ r.open_labels))
step_start context r c cs start none no_run is =
    let content = codes_of (c ∷ cs) in
    ap (leaf_step context c.code content r (run_at context.options (c ∷ cs))) none ∙ ap (run_step context c.code content r) no_run
    ∙ ap (label_step context c.code content r) is

-- a place at which none of these starts
pub step_last : (context : InlineContext) (r : Reading) (c : InlineCode) (cs : List InlineCode)
    → leaf_here context (c ∷ cs) ≡ None → run_at context.options (c ∷ cs) ≡ None → label_start_at context.options.constructs (codes_of (c ∷ cs)) ≡ None
    → step context r c cs ≡ last_step context c.code (codes_of (c ∷ cs)) r
step_last context r c cs none no_run no_start =
    let content = codes_of (c ∷ cs) in
    ap (leaf_step context c.code content r (run_at context.options (c ∷ cs))) none ∙ ap (run_step context c.code content r) no_run
    ∙ ap (label_step context c.code content r) no_start

-- ---- strings

-- codes of a string that are taken already
pub string_skipped : (on : Constructs) (names : List ℕ → Option (List ℕ)) (k : ℕ) (content : List ℕ)
    → string_parts on names k content ≡ string_parts on names 0 (drop k content)
string_skipped on names zero [] = refl
string_skipped on names (suc k) [] = refl
string_skipped on names zero (c ∷ cs) = refl
string_skipped on names (suc k) (c ∷ cs) = string_skipped on names k cs

-- what a string begins with, and the parts of what it leaves
pub string_step : (on : Constructs) (names : List ℕ → Option (List ℕ)) (c : ℕ) (cs : List ℕ) (found : Found) → string_leaf_at on names (c ∷ cs) ≡ Some found
    → 0 < found.size → string_parts on names 0 (c ∷ cs) ≡ found.parts ++ string_parts on names 0 (drop found.size (c ∷ cs))
string_step on names c cs found is some =
    let e : found.size - 1 + 1 ≡ found.size = omega arith in
    ap (λ o. (or_byte c o).parts ++ string_parts on names ((or_byte c o).size - 1) cs) is
    ∙ ap (λ x. found.parts ++ x)
    (string_skipped on names (found.size - 1) cs
    ∙ ap (string_parts on names 0) (drop-drop (found.size - 1) 1 (c ∷ cs) ∙ ap (λ n. drop n (c ∷ cs)) (omega arith)))

-- a byte of a string
pub string_byte : (on : Constructs) (names : List ℕ → Option (List ℕ)) (c : ℕ) (cs : List ℕ) → string_leaf_at on names (c ∷ cs) ≡ None
    → string_parts on names 0 (c ∷ cs) ≡ Data c ∷ string_parts on names 0 cs
string_byte on names c cs is = ap (λ o. (or_byte c o).parts ++ string_parts on names ((or_byte c o).size - 1) cs) is
