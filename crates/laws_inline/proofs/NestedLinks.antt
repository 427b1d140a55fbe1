-- No link in brackets holds another, a call of a footnote or a literal.
use Rattle.std.proofs.Common.{◌≡◌, ℕ, true, false, cond, List, [], ◌∷◌, Option, None, Some, drop, refl, subst}
use Rattle.std.specs.Option.{option_map}
use Rattle.std.proofs.lemmas.Bool.{cond_both, or_from, or_parts, both_ways, not-true}
use Rattle.definition_text.specs.Content.{text_before}
use Rattle.definition_text.specs.InlineCode.{InlineCode, codes_of}
use Rattle.definition_inline.specs.Inline.{Data, Literal, Inline, Leaf}
use Rattle.definition_inline.specs.LabelEnd.{LinkTail, label_end_at, LinkOrCall, Leads, Calls}
use Rattle.definition_inline.specs.Attention.{run_at}
use Rattle.definition_inline.specs.Spans.{Token, Item, Delimiters, with_spans}
use Rattle.definition_inline.specs.GfmAutolinkLiteral.{with_literals}
use Rattle.definition_inline.specs.Scan.{InlineContext, leaf_here, leaf_tokens, LabelStart, LinkStart, ImageStart, label_start_at, may_form, formed_part}
use Rattle.definition_inline.specs.Scan.{formed_at, Text, text, OpenLabel, reading, with_tokens, with_plain_start, with_link_or_call, scan, whole_text}
use Rattle.definition_inline.specs.Scan.{inlines_from, spans_from, without_indent}
use Rattle.definition_inline.proofs.MayStand.{Stands}
use Rattle.definition_inline.proofs.ScanHolds.{where_gives, where_always, Keeps, text_holds}
use Rattle.laws_inline.specs.Occurs.{part_has, has}
use Rattle.laws_inline.specs.NestedLinks.{is_nesting, LinksHoldNoLinks}
use Rattle.laws_inline.proofs.Each.{WhereSome, Each, each-append}
use Rattle.laws_inline.proofs.Lacks.{Lacks, spans_lack, HeldAlone, leaf_lacks, run_lacks, plain_start_lacks}
use Rattle.laws_inline.proofs.NestedLiterals.{is_bracketed, holds_bracketed, is_literal_part, with_flat, none_flat}
use Rattle.laws_inline.proofs.Occurs.{never_from}

-- ---- texts

nests_alone : HeldAlone holds_bracketed
nests_alone = record { leaf = λ part. refl; span = λ kind kids. refl }

links_alone : HeldAlone is_bracketed
links_alone = record { leaf = λ part. refl; span = λ kind kids. refl }

abbrev NestsNothing : Token → Type 0
NestsNothing t = Lacks holds_bracketed t

abbrev HasNoLink : Token → Type 0
HasNoLink t = Lacks is_bracketed t

-- no link in a text holds another, and where the text is said to hold no link it holds none
record IsGood (t : Text) : Type 0 where
  flat : Each NestsNothing t.tokens
  none : t.holds_link ≡ false → Each HasNoLink t.tokens

-- more leaves, or runs
good_more : (t : Text) (more : List Token) → IsGood t → Each NestsNothing more → Each HasNoLink more → IsGood (with_tokens t more)
good_more t more h p q =
    record {
      flat = each-append NestsNothing t.tokens more h.flat p;
      none = λ e. each-append HasNoLink t.tokens more (h.none e) q;
    }

good_unformed : (label : OpenLabel) (inner : Text) → IsGood label.outer → IsGood inner → IsGood (with_plain_start label inner)
good_unformed label inner h p =
    record {
      flat = plain_start_lacks holds_bracketed nests_alone label.start label.outer.tokens inner.tokens h.flat p.flat;
      none = λ e.
          let parts = or_parts label.outer.holds_link inner.holds_link e in
          plain_start_lacks is_bracketed links_alone label.start label.outer.tokens inner.tokens (h.none parts.0) (p.none parts.1);
    }

-- ---- what a `]` forms

-- the start of an image forms no call
abbrev Fits : LabelStart → LinkOrCall → Type 0
Fits ImageStart (Calls label) = ⊥
Fits start found = Unit {0}

link_fits : (found : LinkOrCall) → Fits LinkStart found
link_fits (Leads end) = tt
link_fits (Calls label) = tt

image_fits : (found : Option LinkTail) → WhereSome (Fits ImageStart) (option_map Leads found)
image_fits None = tt
image_fits (Some end) = tt

fits_at : (context : InlineContext) (start : LabelStart) (between rest : List ℕ) → WhereSome (Fits start) (formed_at context start between rest)
fits_at context LinkStart between rest = where_always (Fits LinkStart) (formed_at context LinkStart between rest) link_fits
fits_at context ImageStart between rest = image_fits (label_end_at context.is_defined between rest)

-- what is formed nests nothing, and is no link where the text isn't said to hold one
part_flat : (start : LabelStart) (found : LinkOrCall) (inner : Text) → IsGood inner → may_form start inner.holds_link ≡ true → Fits start found
    → part_has holds_bracketed (formed_part start found inner.tokens) ≡ false
part_flat LinkStart (Leads end) inner p e f =
    let kids = with_spans inner.tokens in
    or_from (has is_bracketed kids) (has holds_bracketed kids) (spans_lack is_bracketed inner.tokens (p.none (not-true inner.holds_link e)))
    (spans_lack holds_bracketed inner.tokens p.flat)
part_flat ImageStart (Leads end) inner p e f = spans_lack holds_bracketed inner.tokens p.flat
part_flat start (Calls label) inner p e f = refl

good_formed : (start : LabelStart) (from : List ℕ) (outer : Text) (found : LinkOrCall) (inner : Text) → IsGood outer → IsGood inner
    → may_form start inner.holds_link ≡ true → Fits start found → IsGood (with_link_or_call (record { start = start; from = from; outer = outer }) found inner)
good_formed LinkStart from outer found inner h p e f =
    record {
      flat = each-append NestsNothing outer.tokens (Item (formed_part LinkStart found inner.tokens) ∷ []) h.flat (part_flat LinkStart found inner p e f, tt);
      none = λ n. absurd (both_ways true (or_parts outer.holds_link true n).1 refl);
    }
good_formed ImageStart from outer (Leads end) inner h p e f =
    record {
      flat = each-append NestsNothing outer.tokens (Item (formed_part ImageStart (Leads end) inner.tokens) ∷ []) h.flat
          (part_flat ImageStart (Leads end) inner p e f, tt);
      none = λ n.
          let parts = or_parts outer.holds_link inner.holds_link n in
          each-append HasNoLink outer.tokens (Item (formed_part ImageStart (Leads end) inner.tokens) ∷ []) (h.none parts.0)
          (spans_lack is_bracketed inner.tokens (p.none parts.1), tt);
    }
good_formed ImageStart from outer (Calls label) inner h p e f = absurd f

-- ---- the scan

module _ (context : InlineContext) where
  abbrev AnyCodes : List InlineCode → Type 0
  AnyCodes content = Unit {0}

  abbrev AnyStart : LabelStart → Type 0
  AnyStart start = Unit {0}

  keeps : Keeps context AnyCodes AnyStart IsGood
  keeps =
      record {
        tail = λ c cs h. tt;
        starts = λ content h. where_always AnyStart (label_start_at context.options.constructs (codes_of content)) (λ start. tt);
        empty = record { flat = tt; none = λ e. tt };
        leaf = λ t content h p.
            where_always _ (leaf_here context content)
            (λ found. good_more t (leaf_tokens found) p (leaf_lacks holds_bracketed nests_alone found) (leaf_lacks is_bracketed links_alone found));
        run = λ t content h p.
            where_always _ (run_at context.options content)
            (λ run. good_more t (Delimiters run ∷ []) p (run_lacks holds_bracketed nests_alone run, tt) (run_lacks is_bracketed links_alone run, tt));
        byte = λ t c cs h none p. good_more t (Item (Leaf (Data c.code)) ∷ []) p (refl, tt) (refl, tt);
        close = λ t p. good_more t (Item (Leaf (Data 93)) ∷ []) p (refl, tt) (refl, tt);
        unformed = λ label inner h p. good_unformed label inner h p;
        formed = λ label inner content h on e s q p.
            let between = text_before label.from (codes_of content) in
            where_gives (Fits label.start) _ (formed_at context label.start between (drop 1 (codes_of content)))
            (λ found f. good_formed label.start label.from label.outer found inner q p e f)
            (fits_at context label.start between (drop 1 (codes_of content)));
      }

  spans_nest_nothing : (content : List InlineCode) → has holds_bracketed (spans_from context content) ≡ false
  spans_nest_nothing content =
      let t : Text = whole_text (scan context 0 (reading (text [] false) []) content) in
      let good : IsGood t = text_holds context AnyCodes AnyStart IsGood keeps content tt in
      spans_lack holds_bracketed t.tokens good.flat

  not_literal : context.options.constructs.gfm_autolink_literal ≡ false → (i : Inline) → Stands context.options.constructs i → is_literal_part i ≡ false
  not_literal off (Leaf (Literal kind text)) e = absurd (both_ways context.options.constructs.gfm_autolink_literal off e)
  not_literal off i e = refl

-- of a content that begins anywhere
pub links_hold_no_links_from : (context : InlineContext) (content : List InlineCode) → has is_nesting (inlines_from context content) ≡ false
links_hold_no_links_from context content =
    let on = context.options.constructs in
    let spans = spans_from context content in
    let flat = spans_nest_nothing context content in
    cond_both on.gfm_autolink_literal (with_literals [] spans) spans (λ is. has is_nesting is ≡ false) (λ _. with_flat [] spans flat)
    (λ off. none_flat spans flat
    (subst (λ b. has is_literal_part (cond b (with_literals [] spans) spans) ≡ false) off (never_from context is_literal_part (not_literal context off) content)))

pub links_hold_no_links : LinksHoldNoLinks
links_hold_no_links context content = links_hold_no_links_from context (without_indent content)
