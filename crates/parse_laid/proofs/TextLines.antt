-- What holds of each leaf that a line may begin, of a blank line, and of a line of text that begins none, holds of any line that starts no container.
use Rattle.std.proofs.Common.{◌≡◌, Bool, true, false, ◌&&◌, not, Option, None, Some, refl, sym}
use Rattle.std.specs.Prelude.{unwrap_or}
use Rattle.std.specs.Bool.{then_some}
use Rattle.std.specs.Option.{option_or, option_map}
use Rattle.parse_laid.proofs.Prelude.{after, Atx, atx_tree, BeginsNoLeaf, Beside, Blank, break_tree, cond_both, Constructs, Fence, fence_start, fence_tree}
use Rattle.parse_laid.proofs.Prelude.{has_text, heading_atx, html_start, html_tree, indented_tree, is_blank, is_break, leaf_line, makes_table, math_start}
use Rattle.parse_laid.proofs.Prelude.{none-some, nothing, one, Opening, Rest, starts_code_indented, text_line_of, tree, turns, WhereSome}
use Rattle.definition_block.specs.Tree.{Tree}
use Rattle.definition_block.specs.Tree.{anew, first_of, leaf_starts}

-- a value, or another where there is none
where_none : {A : Type 0} (P : A → Type 0) (o : Option A) (other : A) → WhereSome P o → (o ≡ None → P other) → P (unwrap_or o other)
where_none P None other h k = k refl
where_none P (Some x) other h k = h

-- one of two values that may be there
where_or : {A : Type 0} (P : A → Type 0) (o p : Option A) → WhereSome P o → WhereSome P p → WhereSome P (option_or o p)
where_or P None p h k = k
where_or P (Some x) p h k = h

-- P holds of what a line leaves, and Q of a leaf that begins on it
pub record AnyLine (P Q : Tree → Type 0) (on : Constructs) (away : Opening) (rest : Rest) (beside : Beside) : Type 0 where
  pub blank : is_blank rest ≡ true → P (after on away (tree (one (Blank beside.ending)) nothing))
  pub closes : (t : Tree) → Q t → P (after on away t)
  pub indented : is_blank rest ≡ false → (starts_code_indented on rest && not (has_text away)) ≡ true → Q (indented_tree rest beside)
  pub fenced : WhereSome (λ (fence : Fence). Q (fence_tree beside fence)) (fence_start on rest)
  pub math : WhereSome (λ (fence : Fence). Q (fence_tree beside fence)) (math_start on rest)
  pub html : WhereSome (λ kind. Q (html_tree rest beside kind)) (html_start on (has_text away) rest)
  pub heading : WhereSome (λ (atx : Atx). Q (atx_tree beside atx)) (heading_atx on rest)
  pub underlined : WhereSome P (turns on away rest beside.ending)
  pub breaks : is_break on rest ≡ true → Q (break_tree beside)
  pub tabled : WhereSome P (makes_table on away rest beside)
  pub text : BeginsNoLeaf on rest → P (text_line_of on away rest beside)

module _ (P Q : Tree → Type 0) (on : Constructs) (away : Opening) (closes : (t : Tree) → Q t → P (after on away t)) where
  where_found : {A : Type 0} (f : A → Tree) (o : Option A) → WhereSome (λ x. Q (f x)) o → WhereSome P (anew on away (option_map f o))
  where_found f None h = tt
  where_found f (Some x) h = closes (f x) h

  where_begun : (b : Bool) (t : Tree) → (b ≡ true → Q t) → WhereSome P (anew on away (then_some b t))
  where_begun true t h = closes t (h refl)
  where_begun false t h = tt

-- ---- what isn't there

or_none : {A : Type 0} (o p : Option A) → option_or o p ≡ None → (o ≡ None) × (p ≡ None)
or_none None p e = (refl, e)
or_none (Some x) p e = absurd (none-some x (sym e))

found_none : {A : Type 0} (on : Constructs) (away : Opening) (f : A → Tree) (o : Option A) → anew on away (option_map f o) ≡ None → o ≡ None
found_none on away f None e = refl
found_none on away f (Some x) e = absurd (none-some (after on away (f x)) (sym e))

begun_none : (on : Constructs) (away : Opening) (b : Bool) (t : Tree) → anew on away (then_some b t) ≡ None → b ≡ false
begun_none on away true t e = absurd (none-some (after on away t) (sym e))
begun_none on away false t e = refl

no_leaf : (on : Constructs) (away : Opening) (rest : Rest) (beside : Beside) → is_blank rest ≡ false
    → first_of (leaf_starts on away rest beside) ≡ None → BeginsNoLeaf on rest
no_leaf on away rest beside some e =
    let indented = or_none _ _ e in
    let fenced = or_none _ _ indented.1 in
    let math = or_none _ _ fenced.1 in
    let html = or_none _ _ math.1 in
    let heading = or_none _ _ html.1 in
    let underlined = or_none _ _ heading.1 in
    let breaks = or_none _ _ underlined.1 in (
      has_text away,
      some,
      found_none on away (fence_tree beside) (fence_start on rest) fenced.0,
      found_none on away (fence_tree beside) (math_start on rest) math.0,
      found_none on away (html_tree rest beside) (html_start on (has_text away) rest) html.0,
      found_none on away (atx_tree beside) (heading_atx on rest) heading.0,
      begun_none on away (is_break on rest) (break_tree beside) breaks.0,
    )

pub where_any_line : (P Q : Tree → Type 0) (on : Constructs) (away : Opening) (rest : Rest) (beside : Beside) → AnyLine P Q on away rest beside
    → P (leaf_line on away rest beside)
where_any_line P Q on away rest beside h =
    let closes = h.closes in
    let text = text_line_of on away rest beside in
    cond_both (is_blank rest) _ _ P h.blank
    (λ some.
    where_none P (first_of (leaf_starts on away rest beside)) text
    (where_or P _ _ (where_begun P Q on away closes (starts_code_indented on rest && not (has_text away)) (indented_tree rest beside) (h.indented some))
    (where_or P _ _ (where_found P Q on away closes (fence_tree beside) (fence_start on rest) h.fenced)
    (where_or P _ _ (where_found P Q on away closes (fence_tree beside) (math_start on rest) h.math)
    (where_or P _ _ (where_found P Q on away closes (html_tree rest beside) (html_start on (has_text away) rest) h.html)
    (where_or P _ _ (where_found P Q on away closes (atx_tree beside) (heading_atx on rest) h.heading)
    (where_or P _ _ h.underlined
    (where_or P _ _ (where_begun P Q on away closes (is_break on rest) (break_tree beside) h.breaks)
    (where_or P (makes_table on away rest beside) None h.tabled tt))))))))
    (λ e. h.text (no_leaf on away rest beside some e)))
