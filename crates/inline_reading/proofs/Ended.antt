-- What a `]` forms with the innermost label start that is open.
use Rattle.std.proofs.Common.{◌≡◌, ℕ, zero, suc, ◌+◌, ◌-◌, ◌<◌, Bool, true, false, List, [], ◌∷◌, ◌++◌, Option, None, Some, refl, sym, ap, ap₂, ◌∙◌, get_or}
use Rattle.std.proofs.Common.{length, arith, subst, reverse, take, drop}
use Rattle.std.specs.List.{All, slice_get}
use Rattle.std.proofs.lemmas.Bool.{cond-true, cond-false, true≢false}
use Rattle.std.proofs.lemmas.Option.{slice_get_within, slice_get-get_or, get_or_from_slice_get}
use Rattle.std.proofs.lemmas.List.{length-append, take_at, get_or-drop, take-append-drop, drop_more, length-drop}
use Rattle.definition_text.specs.Content.{content_codes, text_before}
use Rattle.definition_inline.specs.Inline.{Target, LinkTexts}
use Rattle.definition_inline.specs.Scan as scan
use Rattle.definition_inline.specs.Scan.{InlineContext, formed_at, may_form}
use Rattle.inline_runs.specs.declared.run.Run.{Run}
use Rattle.inline_rows.specs.declared.row.InlineRow.{InlineRow}
use Rattle.inline_links.specs.Codes.{IsRest, IsCut}
use Rattle.inline_links.proofs.Cuts.{cut_at}
use Rattle.inline_reading.specs.declared.label.OpenLabel.{OpenLabel}
use Rattle.inline_reading.specs.Shows.{ended_here}
use Rattle.inline_reading.specs.Shows.{ShowsBy, start_view}
use Rattle.inline_reading.proofs.Readings as readings
use Rattle.inline_reading.proofs.Changes as changes

-- a cut before a `]`
bracket_cut : (from : List ℕ) (n : ℕ) → get_or from n 0 ≡ 93 → IsCut from n
bracket_cut from zero e = refl
bracket_cut from (suc n) e = cut_at from (suc n) n (omega arith) (λ return feed. absurd (omega (arith, e, feed)))

-- the codes before a `]`
pub before_bracket : (from rest after : List ℕ) → IsRest from rest → rest ≡ 93 ∷ after
    → text_before (content_codes from) (content_codes rest) ≡ content_codes (take (length from - length rest) from)
before_bracket from rest after place bracket =
    let n = length from - length rest in
    let here : get_or from n 0 ≡ 93 =
    ap (λ k. get_or from k 0) (omega arith) ∙ sym (get_or-drop n from 0 0) ∙ ap (λ xs. get_or xs 0 0) (sym place.place ∙ bracket) in
    let front = content_codes (take n from) in
    let joined : content_codes from ≡ front ++ content_codes rest = bracket_cut from n here ∙ ap (λ xs. front ++ content_codes xs) (sym place.place) in
    let sizes : length (content_codes from) ≡ length front + length (content_codes rest) = ap length joined ∙ length-append front (content_codes rest) in
    let size : length (content_codes from) - length (content_codes rest) ≡ length front = omega (arith, sizes) in
    ap₂ (λ k xs. take k xs) size joined ∙ take_at front (content_codes rest) (length front) refl

-- ---- the innermost label start

is_none : {A : Type 0} → Option A → Bool
is_none None = true
is_none (Some x) = false

some_not : {A : Type 0} → (x : A) → None ≡ Some x → ⊥
unfolding is_none
some_not x e = true≢false (ap is_none e)

-- nothing stands last
pub none_last : (xs : List OpenLabel) → None ≡ slice_get xs (length xs - 1) → xs ≡ []
none_last [] e = refl
none_last (x ∷ xs) e = absurd (some_not (get_or (x ∷ xs) (length (x ∷ xs) - 1) x) (e ∙ slice_get-get_or (x ∷ xs) (length (x ∷ xs) - 1) x (omega arith)))

nothing_left : (xs : List OpenLabel) → length xs ≡ 0 → xs ≡ []
nothing_left [] e = refl
nothing_left (x ∷ xs) e = absurd (omega (arith, e))

-- what stands last is the innermost
pub innermost : (xs : List OpenLabel) (o : OpenLabel) → slice_get xs (length xs - 1) ≡ Some o → reverse xs ≡ o ∷ reverse (take (length xs - 1) xs)
innermost xs o e =
    let n = length xs - 1 in
    let lt : n < length xs = slice_get_within xs n o e in
    let here : get_or xs n o ≡ o = get_or_from_slice_get xs n o o e in
    let after : drop (n + 1) xs ≡ [] = nothing_left (drop (n + 1) xs) (omega (arith, length-drop (n + 1) xs)) in
    let last : drop n xs ≡ o ∷ [] = drop_more xs n o lt ∙ ap₂ (λ y ys. y ∷ ys) here after in
    changes.popped xs (take n xs) o (sym (take-append-drop n xs) ∙ ap (λ ys. take n xs ++ ys) last)

pub innermost_rest : (rest : List ℕ) (xs : List OpenLabel) (o : OpenLabel) → slice_get xs (length xs - 1) ≡ Some o
    → All (λ (x : OpenLabel). IsRest x.from.now rest) xs
    → IsRest o.from.now rest
innermost_rest rest xs o e all =
    let n = length xs - 1 in
    subst (λ (x : OpenLabel). IsRest x.from.now rest) (get_or_from_slice_get xs n o o e) (all n o (slice_get_within xs n o e))

-- ---- what it forms

module _ (leads : Target → LinkTexts) (at : ℕ → LinkTexts) (context : InlineContext) (content : List ℕ) where
  -- no label start is open
  pub none_ends : (rows : List InlineRow) (runs : List Run) (slots : List ℕ) (all : List OpenLabel) (labels : List scan.OpenLabel) (now : scan.Text)
      → all ≡ [] → ShowsBy leads at rows runs slots (reverse all) labels now.tokens → ended_here context content labels now ≡ None
  none_ends rows runs slots all labels now e s =
      let s2 = subst (λ os. ShowsBy leads at rows runs slots (reverse os) labels now.tokens) e s in
      ap (λ ls. ended_here context content ls now) (readings.no_labels leads at rows runs slots labels now.tokens s2)

  -- the innermost may form nothing
  pub last_may_not : (rows : List InlineRow) (runs : List Run) (slots : List ℕ) (all opens : List OpenLabel) (o : OpenLabel) (labels : List scan.OpenLabel)
      (now : scan.Text) (holds_link : Bool)
      → reverse all ≡ o ∷ opens → holds_link ≡ now.holds_link → may_form (start_view o.start) holds_link ≡ false
      → ShowsBy leads at rows runs slots (reverse all) labels now.tokens → ended_here context content labels now ≡ None
  last_may_not rows runs slots all opens o labels now holds_link e same not s =
      let s2 = subst (λ os. ShowsBy leads at rows runs slots os labels now.tokens) e s in
      let there = readings.has_label leads at rows runs slots o opens labels now.tokens s2 in
      let may : may_form there.label.start now.holds_link ≡ false = sym (ap₂ (λ a b. may_form a b) there.is.start same) ∙ not in
      ap (λ ls. ended_here context content ls now) there.labels_are
      ∙ cond-false (may_form there.label.start now.holds_link)
      (formed_at context there.label.start (text_before there.label.from content) (drop 1 content)) None may

  -- the innermost may form something
  pub last_may : (rows : List InlineRow) (runs : List Run) (slots : List ℕ) (all opens : List OpenLabel) (o : OpenLabel) (labels : List scan.OpenLabel)
      (now : scan.Text) (holds_link : Bool)
      → reverse all ≡ o ∷ opens → holds_link ≡ now.holds_link → may_form (start_view o.start) holds_link ≡ true
      → ShowsBy leads at rows runs slots (reverse all) labels now.tokens
      → ended_here context content labels now ≡ formed_at context (start_view o.start) (text_before (content_codes o.from.now) content) (drop 1 content)
  last_may rows runs slots all opens o labels now holds_link e same is s =
      let s2 = subst (λ os. ShowsBy leads at rows runs slots os labels now.tokens) e s in
      let there = readings.has_label leads at rows runs slots o opens labels now.tokens s2 in
      let may : may_form there.label.start now.holds_link ≡ true = sym (ap₂ (λ a b. may_form a b) there.is.start same) ∙ is in
      ap (λ ls. ended_here context content ls now) there.labels_are
      ∙ cond-true (may_form there.label.start now.holds_link)
      (formed_at context there.label.start (text_before there.label.from content) (drop 1 content)) None may
      ∙ ap₂ (λ s f. formed_at context s (text_before f content) (drop 1 content)) (sym there.is.start) (sym there.is.from)
