-- The scan of a content reads by the grammar of label pairs.
use Rattle.std.proofs.Common.{◌≡◌, ℕ, zero, suc, ◌+◌, ◌-◌, ◌<◌, ◌≤◌, Bool, true, false, cond, List, [], ◌∷◌, ◌++◌, Option, None, Some, refl, sym, ap, ◌∙◌}
use Rattle.std.proofs.Common.{subst, length, drop, arith, append_assoc, length-drop, inl, inr}
use Rattle.std.specs.Prelude.{◌==◌}
use Rattle.std.specs.List.{fold}
use Rattle.std.proofs.lemmas.Bool.{cases_Bool, cond_both, cond-true, cond-false, eq-eqb}
use Rattle.std.proofs.lemmas.List.{append-nil}
use mathlib.Core.Bool.{true≢false}
use Rattle.markdown_options.specs.declared.configuration.ParseOptions.{ParseOptions}
use Rattle.definition_text.specs.InlineCode.{InlineCode, codes_of}
use Rattle.definition_inline.specs.Inline.{Leaf, Data, Found}
use Rattle.definition_inline.specs.Attention.{Run, run_size, run_at, is_marker}
use Rattle.definition_inline.specs.Spans.{Token, Item, Delimiters}
use Rattle.definition_inline.specs.LabelEnd.{LinkOrCall, formed_size}
use Rattle.definition_inline.specs.Scan.{InlineContext, leaf_here, leaf_tokens, LabelStart, label_start_at, start_more, OpenLabel, Text, text, Reading, reading, read_tokens}
use Rattle.definition_inline.specs.Scan.{with_tokens, with_plain_start, ended_by, ended_step, label_end_step, Next, step, scan}
use Rattle.definition_inline.specs.Scan.{whole_text}
use Rattle.definition_inline.specs.LabelPairs.{Stretch, Plain, Start, End, is_label_end, IsBare, AreStretches, AtEnd, AtLeaf, AtRun, AtLabelStart}
use Rattle.definition_inline.specs.LabelPairs.{AtLabelEnd, AtByte, open_label, ended_text, IsText, Nothing, More, Pair, LeftOver, IsRest, Last, OneMore}
use Rattle.definition_inline.specs.LabelPairs.{IsWhole, AllMatched, SomeLeft, Reads}
use Rattle.definition_inline.proofs.InlineSizes.{here_fits}
use Rattle.definition_inline.proofs.Scanning.{scan_step, step_leaf, step_run, step_start, step_last}

-- ---- what is read so far

-- the stretches so far, where these label starts are open and this is the text after the innermost
abbrev IsOpen : InlineContext → List OpenLabel → Text → List Stretch → Type 0
IsOpen context [] t ss = IsText context true ss t
IsOpen context (label ∷ others) t ss =
    (outer : List Stretch) × (inner : List Stretch) × (ss ≡ outer ++ Start label.start label.from ∷ inner)
    × IsOpen context others label.outer outer × IsText context false inner t

abbrev IsSo : InlineContext → Reading → List Stretch → Type 0
IsSo context r ss = IsOpen context r.open_labels r.now ss

more_open : (context : InlineContext) (labels : List OpenLabel) (t : Text) (ss : List Stretch) (tokens : List Token) → IsOpen context labels t ss
    → IsOpen context labels (with_tokens t tokens) (ss ++ Plain tokens ∷ [])
more_open context [] t ss tokens h = More true ss t tokens h
more_open context (label ∷ others) t ss tokens (outer, inner, is, around, here) = (
  outer,
  inner ++ Plain tokens ∷ [],
  ap (λ xs. xs ++ Plain tokens ∷ []) is ∙ append_assoc outer (Start label.start label.from ∷ inner) (Plain tokens ∷ []),
  around,
  More false inner t tokens here,
)

pair_open : (context : InlineContext) (labels : List OpenLabel) (label : OpenLabel) (ss between : List Stretch) (content : List ℕ) (inner : Text)
    (end : Option LinkOrCall)
    → IsOpen context labels label.outer ss → IsText context false between inner → end ≡ ended_by context content label inner
    → IsOpen context labels (ended_text label inner end) (ss ++ Start label.start label.from ∷ (between ++ End content end ∷ []))
pair_open context [] label ss between content inner end h here is = Pair true ss between label.start label.from content label.outer inner h here end is
pair_open context (l ∷ others) label ss between content inner end (outer, before, same, around, there) here is =
    let pair = Start label.start label.from ∷ (between ++ End content end ∷ []) in (
      outer,
      before ++ pair,
      ap (λ xs. xs ++ pair) same ∙ append_assoc outer (Start l.start l.from ∷ before) pair,
      around,
      Pair false before between label.start label.from content label.outer inner there here end is,
    )

-- ---- one place

-- the stretches of what is left, and what is read then
abbrev After : InlineContext → List InlineCode → Reading → List Stretch → Type 0
After context content r ss = (others : List Stretch) × AreStretches context content others × IsSo context (scan context 0 r content) (ss ++ others)

-- any shorter content is read
abbrev Shorter : InlineContext → ℕ → Type 0
Shorter context most = (content : List InlineCode) (r : Reading) (ss : List Stretch) → length content ≤ most → IsSo context r ss → After context content r ss

one_place : (context : InlineContext) (most : ℕ) (c : InlineCode) (cs : List InlineCode) (r next : Reading) (ss : List Stretch) (more : ℕ) (stretch : Stretch)
    → Shorter context most → length cs ≤ most → step context r c cs ≡ Next more next → IsSo context next (ss ++ stretch ∷ [])
    → ((others : List Stretch) → AreStretches context (drop (1 + more) (c ∷ cs)) others → AreStretches context (c ∷ cs) (stretch ∷ others))
    → After context (c ∷ cs) r ss
one_place context most c cs r next ss more stretch shorter le is so put =
    let (others, stand, now) = shorter (drop (1 + more) (c ∷ cs)) next (ss ++ stretch ∷ []) (omega (arith, length-drop (1 + more) (c ∷ cs))) so in (
      stretch ∷ others,
      put others stand,
      subst (λ read. IsSo context read (ss ++ stretch ∷ others)) (sym (scan_step context r next c cs more is))
          (subst (λ xs. IsSo context (scan context 0 next (drop (1 + more) (c ∷ cs))) xs) (append_assoc ss (stretch ∷ []) others) now),
    )

-- a run takes a code at least
abbrev TakesSome : Option Run → Type 0
TakesSome None = Unit {0}
TakesSome (Some run) = 0 < run.left

run_takes : (options : ParseOptions) (c : InlineCode) (cs : List InlineCode) → TakesSome (run_at options (c ∷ cs))
run_takes options c cs = cond_both (is_marker options c.code) (Some _) None TakesSome (λ _. some (c.code == c.code) (eq-eqb c.code c.code refl)) (λ _. tt)
  where
    some : (test : Bool) → test ≡ true → 0 < cond test (1 + run_size c.code cs) 0
    some true e = omega arith
    some false e = absurd (true≢false (sym e))

module _ (context : InlineContext) (most : ℕ) (c : InlineCode) (cs : List InlineCode) (r : Reading) (ss : List Stretch) (shorter : Shorter context most)
    (le : length cs ≤ most)
    (so : IsSo context r ss) where
  abbrev Here : Type 0
  Here = After context (c ∷ cs) r ss

  abbrev content : List ℕ
  content = codes_of (c ∷ cs)

  leaf_place : (found : Found) → leaf_here context (c ∷ cs) ≡ Some found → Here
  leaf_place found is =
      let fits = here_fits context (c ∷ cs) found is in
      let some = fits.some in
      let size : 1 + (found.size - 1) ≡ found.size = omega arith in
      one_place context most c cs r (read_tokens (leaf_tokens found) r) ss (found.size - 1) (Plain (leaf_tokens found)) shorter le
      (step_leaf context r c cs found is)
      (more_open context r.open_labels r.now ss (leaf_tokens found) so)
      (λ others stand. AtLeaf c cs found others is (subst (λ n. AreStretches context (drop n (c ∷ cs)) others) size stand))

  run_place : (run : Run) → leaf_here context (c ∷ cs) ≡ None → run_at context.options (c ∷ cs) ≡ Some run → Here
  run_place run none is =
      let some : 0 < run.left = subst TakesSome is (run_takes context.options c cs) in
      let size : 1 + (run.left - 1) ≡ run.left = omega arith in
      one_place context most c cs r (read_tokens (Delimiters run ∷ []) r) ss (run.left - 1) (Plain (Delimiters run ∷ [])) shorter le
      (step_run context r c cs run none is)
      (more_open context r.open_labels r.now ss (Delimiters run ∷ []) so)
      (λ others stand. AtRun c cs run others none is (subst (λ n. AreStretches context (drop n (c ∷ cs)) others) size stand))

  start_place : (start : LabelStart) → IsBare context (c ∷ cs) → label_start_at context.options.constructs content ≡ Some start → Here
  start_place start bare is =
      let from = drop (1 + start_more start) content in
      one_place context most c cs r (reading (text [] false) (open_label start from r.now ∷ r.open_labels)) ss (start_more start) (Start start from) shorter le
      (step_start context r c cs start bare.no_leaf bare.no_run is) (
        ss,
        [],
        refl,
        so,
        Nothing false,
      ) (λ others stand. AtLabelStart c cs start others bare is stand)

  byte_place : IsBare context (c ∷ cs) → label_start_at context.options.constructs content ≡ None → is_label_end context c.code ≡ false → Here
  byte_place bare no_start is =
      one_place context most c cs r (read_tokens (Item (Leaf (Data c.code)) ∷ []) r) ss 0 (Plain (Item (Leaf (Data c.code)) ∷ [])) shorter le
      (step_last context r c cs bare.no_leaf bare.no_run no_start ∙ cond-false (is_label_end context c.code) _ _ is)
      (more_open context r.open_labels r.now ss (Item (Leaf (Data c.code)) ∷ []) so) (λ others stand. AtByte c cs others bare no_start is stand)

  -- what a `]` does: the innermost label start that is open is its own
  ended_place : (labels : List OpenLabel) → r.open_labels ≡ labels → IsBare context (c ∷ cs) → label_start_at context.options.constructs content ≡ None
      → is_label_end context c.code ≡ true → step context r c cs ≡ label_end_step context content r.now labels → IsOpen context labels r.now ss → Here
  ended_place [] are bare no_start is steps opened =
      one_place context most c cs r (reading (with_tokens r.now (Item (Leaf (Data 93)) ∷ [])) []) ss 0 (End content None) shorter le steps
      (LeftOver ss r.now content opened)
      (λ others stand. AtLabelEnd c cs None others bare no_start is stand)
  ended_place (label ∷ others) are bare no_start is steps (outer, inner, same, around, here) =
      ended (ended_by context content label r.now) refl
    where
      there : (end : Option LinkOrCall) → end ≡ ended_by context content label r.now
          → IsOpen context others (ended_text label r.now end) (ss ++ End content end ∷ [])
      there end e =
          subst (λ xs. IsOpen context others (ended_text label r.now end) xs)
          (sym (ap (λ xs. xs ++ End content end ∷ []) same ∙ append_assoc outer (Start label.start label.from ∷ inner) (End content end ∷ [])))
          (pair_open context others label outer inner content r.now end around here e)

      ended : (end : Option LinkOrCall) → end ≡ ended_by context content label r.now → Here
      ended None e =
          one_place context most c cs r (reading (ended_text label r.now None) others) ss 0 (End content None) shorter le
          (steps ∙ ap (ended_step label others r.now) (sym e)) (there None e)
          (λ rest stand. AtLabelEnd c cs None rest bare no_start is stand)
      ended (Some found) e =
          one_place context most c cs r (reading (ended_text label r.now (Some found)) others) ss (formed_size found) (End content (Some found)) shorter le
          (steps ∙ ap (ended_step label others r.now) (sym e)) (there (Some found) e) (λ rest stand. AtLabelEnd c cs (Some found) rest bare no_start is stand)

  end_place : IsBare context (c ∷ cs) → label_start_at context.options.constructs content ≡ None → is_label_end context c.code ≡ true → Here
  end_place bare no_start is =
      ended_place r.open_labels refl bare no_start is (step_last context r c cs bare.no_leaf bare.no_run no_start
      ∙ cond-true (is_label_end context c.code) _ _ is) so

  last_place : IsBare context (c ∷ cs) → label_start_at context.options.constructs content ≡ None → Here
  last_place bare no_start = elim (cases_Bool (is_label_end context c.code)) [
    | inl is ↦ end_place bare no_start is
    | inr is ↦ byte_place bare no_start is
  ]

  bare_place : (o : Option LabelStart) → label_start_at context.options.constructs content ≡ o → IsBare context (c ∷ cs) → Here
  bare_place None is bare = last_place bare is
  bare_place (Some start) is bare = start_place start bare is

  no_leaf_place : (o : Option Run) → run_at context.options (c ∷ cs) ≡ o → leaf_here context (c ∷ cs) ≡ None → Here
  no_leaf_place None is none = bare_place (label_start_at context.options.constructs content) refl (record { no_leaf = none; no_run = is })
  no_leaf_place (Some run) is none = run_place run none is

  pub any_place : (o : Option Found) → leaf_here context (c ∷ cs) ≡ o → Here
  any_place None is = no_leaf_place (run_at context.options (c ∷ cs)) refl is
  any_place (Some found) is = leaf_place found is

-- ---- a content

read : (most : ℕ) (context : InlineContext) → Shorter context most
read most context [] r ss le so = ([], AtEnd, subst (λ xs. IsSo context r xs) (sym (append-nil ss)) so)
read zero context (c ∷ cs) r ss le so = absurd (omega arith)
read (suc most) context (c ∷ cs) r ss le so = any_place context most c cs r ss (read most context) (omega arith) so (leaf_here context (c ∷ cs)) refl

-- label starts that are open at the end are text
left_over : (context : InlineContext) (label : OpenLabel) (labels : List OpenLabel) (ss others : List Stretch) (inner : Text)
    → IsOpen context labels label.outer ss
    → IsRest context others inner → IsWhole context (ss ++ Start label.start label.from ∷ others)
    (fold (λ t l. with_plain_start l t) (with_plain_start label inner) labels)
left_over context label [] ss others inner h rest = SomeLeft ss others label.start label.from label.outer inner h rest
left_over context label (l ∷ labels) ss others inner (outer, before, same, around, there) rest =
    let more = Start label.start label.from ∷ others in
    subst (λ xs. IsWhole context xs (fold (λ t k. with_plain_start k t) (with_plain_start l (with_plain_start label inner)) labels))
    (sym (ap (λ xs. xs ++ more) same ∙ append_assoc outer (Start l.start l.from ∷ before) more))
    (left_over context l labels outer (before ++ more) (with_plain_start label inner) around
    (OneMore before others label.start label.from label.outer inner there rest))

at_end : (context : InlineContext) (labels : List OpenLabel) (t : Text) (ss : List Stretch) → IsOpen context labels t ss
    → IsWhole context ss (fold (λ inner label. with_plain_start label inner) t labels)
at_end context [] t ss h = AllMatched ss t h
at_end context (label ∷ labels) t ss (outer, inner, same, around, here) =
    subst (λ xs. IsWhole context xs (fold (λ s l. with_plain_start l s) (with_plain_start label t) labels)) (sym same)
    (left_over context label labels outer inner t around (Last inner t here))

-- the scan of a content reads the text that its stretches stand for
pub scan_reads : (context : InlineContext) (content : List InlineCode)
    → Reads context content (whole_text (scan context 0 (reading (text [] false) []) content))
scan_reads context content =
    let start = reading (text [] false) [] in
    let (stretches, stand, now) = read (length content) context content start [] (omega arith) (Nothing true) in
    let end = scan context 0 start content in
    record { stretches = stretches; stand = stand; whole = at_end context end.open_labels end.now stretches now }
