-- Each part of a content is one that the content can have: its construct is on.
use Rattle.std.proofs.Common.{inl, inr, ◌≡◌, ℕ, Bool, true, false, cond, not, ◌&&◌, ◌||◌, ◌==◌, List, [], ◌∷◌, ◌++◌, Option, None, Some, drop, ap, refl, codes}
use Rattle.std.specs.Option.{option_map}
use Rattle.std.proofs.lemmas.Bool.{cond_both, and_parts, and_from}
use Rattle.markdown_options.specs.declared.configuration.Constructs.{Constructs}
use Rattle.definition_text.specs.Bytes.{begins_with}
use Rattle.definition_text.specs.Content.{text_before}
use Rattle.definition_text.specs.InlineCode.{InlineCode, codes_of}
use Rattle.definition_inline.specs.Inline.{InlineLeaf, Data, Emphasis, Strong, Inline, Leaf, Inlines, Found}
use Rattle.definition_inline.specs.LabelEnd.{LinkTail, is_label_text, label_end_at, LinkOrCall, Leads, Calls, link_or_image}
use Rattle.definition_inline.specs.GfmLabelStartFootnote.{starts_marked_call, called_label, call_or_link}
use Rattle.definition_inline.specs.Attention.{Run, run_at, is_marker}
use Rattle.definition_inline.specs.Pairing.{Pair}
use Rattle.definition_inline.specs.Spans.{Token, Item, Delimiters, span_of, with_spans}
use Rattle.definition_inline.specs.Scan.{InlineContext, leaf_here, leaf_tokens, LabelStart, LinkStart, ImageStart, label_start_at, starts_image, starts_link}
use Rattle.definition_inline.specs.Scan.{start_bytes, start_tokens, formed_part, formed_at, Text, text, OpenLabel, reading, scan, whole_text, spans_from}
use Rattle.definition_inline.specs.Scan.{inlines_from}
use Rattle.definition_inline.specs.MayStand.{span_may_stand, part_may_stand}
use Rattle.definition_inline.proofs.Markers.{of_marker}
use Rattle.definition_inline.specs.EachPart.{EachPart, EachOf}
use Rattle.definition_inline.proofs.LeavesFound.{LeafStands, leaf_stands}
use Rattle.definition_inline.proofs.SpansHold.{Siblings, RunGood, TokenGood, spans_hold}
use Rattle.definition_inline.proofs.ScanHolds.{where_gives, Keeps, text_holds}
use Rattle.definition_inline.proofs.LiteralsKept.{Carries, literals_good, linked_good}
use Rattle.definition_text.proofs.Each.{Each, WhereSome, each-append, each_map, each_mapped}

module _ (on : Constructs) where
  abbrev pub Stands : Inline → Type 0
  Stands i = part_may_stand on i ≡ true

  -- a part and all that it holds
  abbrev PartStands : Inline → Type 0
  PartStands i = EachPart Stands i

  abbrev AllStand : Inlines → Type 0
  AllStand is = EachOf Stands is

  siblings : Siblings PartStands AllStand
  siblings = record { none = tt; more = λ i is p q. (p, q); first = λ i is h. h.0; rest = λ i is h. h.1 }

  abbrev RunStands : Run → Type 0
  RunStands run = RunGood PartStands AllStand run

  abbrev TokenStands : Token → Type 0
  TokenStands t = TokenGood PartStands AllStand t

  abbrev TextStands : Text → Type 0
  TextStands t = Each TokenStands t.tokens

  more_stand : (t : Text) (more : List Token) → TextStands t → Each TokenStands more → Each TokenStands (t.tokens ++ more)
  more_stand t more h p = each-append TokenStands t.tokens more h p

  leaves_stand : (found : Found) → Each (LeafStands on) found.parts → Each TokenStands (leaf_tokens found)
  leaves_stand found h = each_mapped (LeafStands on) TokenStands (λ (part : InlineLeaf). Item (Leaf part)) found.parts (λ part p. p) h

  -- ---- labels

  -- the start of a link may be that of a call
  abbrev StartStands : LabelStart → Type 0
  StartStands LinkStart = Unit {0}
  StartStands ImageStart = on.label_start_image ≡ true

  abbrev MayForm : LabelStart → LinkOrCall → Type 0
  MayForm LinkStart (Leads end) = on.label_start_link ≡ true
  MayForm ImageStart (Leads end) = Unit {0}
  MayForm start (Calls label) = on.gfm_label_start_footnote ≡ true

  start_stands : (content : List ℕ) → WhereSome StartStands (label_start_at on content)
  start_stands content =
      let image = begins_with (codes "![") content in
      let marked = starts_marked_call on content in
      cond_both (starts_image on content) (Some ImageStart) (cond (starts_link on content) (Some LinkStart) None) (WhereSome StartStands)
      (λ e. (and_parts on.label_start_image image (and_parts (on.label_start_image && image) (not marked) e).0).0)
      (λ _. cond_both (starts_link on content) (Some LinkStart) None (WhereSome StartStands) (λ _. tt) (λ _. tt))

  leading_stands : (start : LabelStart) (found : Option LinkTail) → ((end : LinkTail) → MayForm start (Leads end))
      → WhereSome (MayForm start) (option_map Leads found)
  leading_stands start None p = tt
  leading_stands start (Some end) p = p end

  abbrev CallStands : List ℕ → Type 0
  CallStands label = on.gfm_label_start_footnote ≡ true

  call_stands : (is_footnote : List ℕ → Bool) (between : List ℕ) → WhereSome CallStands (called_label on is_footnote between)
  call_stands is_footnote [] = tt
  call_stands is_footnote (c ∷ label) =
      let first = on.gfm_label_start_footnote && (c == 94) in
      let second = first && is_label_text label in
      cond_both (second && is_footnote label) (Some label) None (WhereSome CallStands)
      (λ e. (and_parts on.gfm_label_start_footnote (c == 94) (and_parts first (is_label_text label) (and_parts second (is_footnote label) e).0).0).0) (λ _. tt)

  link_stands : (is_defined : List ℕ → Bool) (between rest : List ℕ) (found : Option (List ℕ)) → WhereSome CallStands found
      → WhereSome (MayForm LinkStart) (call_or_link on is_defined between rest found)
  link_stands is_defined between rest (Some label) h = h
  link_stands is_defined between rest None h =
      cond_both on.label_start_link (link_or_image is_defined between rest) None (WhereSome (MayForm LinkStart))
      (λ e. leading_stands LinkStart (label_end_at is_defined between rest) (λ end. e)) (λ _. tt)

  part_stands : (start : LabelStart) (found : LinkOrCall) (tokens : List Token) → on.label_end ≡ true → StartStands start → MayForm start found
      → AllStand (with_spans tokens) → PartStands (formed_part start found tokens)
  part_stands LinkStart (Leads end) tokens e h f p = (and_from on.label_start_link on.label_end f e, p)
  part_stands ImageStart (Leads end) tokens e h f p = (and_from on.label_start_image on.label_end h e, p)
  part_stands LinkStart (Calls label) tokens e h f p = and_from on.gfm_label_start_footnote on.label_end f e
  part_stands ImageStart (Calls label) tokens e h f p = and_from on.gfm_label_start_footnote on.label_end f e

  plain_start_stands : (label : OpenLabel) (inner : Text) → TextStands label.outer → TextStands inner
      → Each TokenStands (label.outer.tokens ++ (start_tokens label.start ++ inner.tokens))
  plain_start_stands label inner h p =
      let start = start_tokens label.start in
      more_stand label.outer (start ++ inner.tokens) h
      (each-append TokenStands start inner.tokens (each_map TokenStands (λ b. Item (Leaf (Data b))) (start_bytes label.start) (λ b. refl)) p)

  -- ---- literals

  abbrev Any : Inlines → Inlines → Type 0
  Any kids others = Unit {0}

  bytes_stand : (text : List ℕ) → Each (λ b. PartStands (Leaf (Data b))) text
  bytes_stand [] = tt
  bytes_stand (b ∷ bs) = (refl, bytes_stand bs)

  literals_stand : on.gfm_autolink_literal ≡ true → Carries PartStands AllStand Any
  literals_stand e =
      record {
        none = tt;
        more = λ i is p q. (p, q);
        first = λ i is h. h.0;
        rest = λ i is h. h.1;
        literal = λ kind text h. e;
        bytes = λ kind text h. bytes_stand text;
        span = λ kind. record { opens = λ kids h. h.1; closes = λ kids others h k p. (h.0, p) };
        linked = λ kind target. record { opens = λ kids h. h.1; closes = λ kids others h k p. (h.0, p) };
        keeps_without = λ kids. tt;
        keeps_with = λ kids. tt;
      }

-- ---- contents

module _ (context : InlineContext) where
  abbrev constructs : Constructs
  constructs = context.options.constructs

  -- a byte whose runs may form spans forms those that are on
  mark_stands : (code : ℕ) → is_marker context.options code ≡ true → (p : Pair) → span_may_stand constructs (span_of code p) ≡ true
  mark_stands code e p =
      let emphasis : constructs.attention ≡ true → span_may_stand constructs (cond (p.taken == 2) Strong Emphasis) ≡ true =
      λ on. cond_both (p.taken == 2) Strong Emphasis (λ kind. span_may_stand constructs kind ≡ true) (λ _. on) (λ _. on) in
      of_marker context.options (λ b. span_may_stand constructs (span_of b p) ≡ true) emphasis emphasis (λ h. h) (λ h. h) code e

  run_stands : (content : List InlineCode) → WhereSome (RunStands constructs) (run_at context.options content)
  run_stands [] = tt
  run_stands (c ∷ cs) =
      cond_both (is_marker context.options c.code) _ None (WhereSome (RunStands constructs)) (λ e. (refl, λ p kids q. (mark_stands c.code e p, q))) (λ _. tt)

  forms_stand : (start : LabelStart) (between rest : List ℕ) → WhereSome (MayForm constructs start) (formed_at context start between rest)
  forms_stand LinkStart between rest =
      link_stands constructs context.is_defined between rest (called_label constructs context.is_footnote between)
      (call_stands constructs context.is_footnote between)
  forms_stand ImageStart between rest = leading_stands constructs ImageStart (label_end_at context.is_defined between rest) (λ end. tt)

  abbrev AnyCodes : List InlineCode → Type 0
  AnyCodes content = Unit {0}

  keeps : Keeps context AnyCodes (StartStands constructs) (TextStands constructs)
  keeps =
      let Stand : Text → Type 0 = TextStands constructs in
      let joins : (t : Text) (more : List Token) → Stand t → Each (TokenStands constructs) more → Each (TokenStands constructs) (t.tokens ++ more) =
      more_stand constructs in
      record {
        tail = λ c cs h. tt;
        starts = λ content h. start_stands constructs (codes_of content);
        empty = tt;
        leaf = λ t content h p.
            where_gives (λ (found : Found). Each (LeafStands constructs) found.parts) _ (leaf_here context content)
            (λ found q. joins t (leaf_tokens found) p (leaves_stand constructs found q)) (leaf_stands context content);
        run = λ t content h p.
            where_gives (RunStands constructs) _ (run_at context.options content) (λ run q. joins t (Delimiters run ∷ []) p (q, tt)) (run_stands content);
        byte = λ t c cs h none p. joins t (Item (Leaf (Data c.code)) ∷ []) p (refl, tt);
        close = λ t p. joins t (Item (Leaf (Data 93)) ∷ []) p (refl, tt);
        unformed = λ label inner h p. plain_start_stands constructs label inner h p;
        formed = λ label inner content h on may s q p.
            where_gives (MayForm constructs label.start) _
            (formed_at context label.start (text_before label.from (codes_of content)) (drop 1 (codes_of content)))
            (λ found f. joins label.outer (Item (formed_part label.start found inner.tokens) ∷ []) q (
              part_stands constructs label.start found inner.tokens on s f
                  (spans_hold (PartStands constructs) (AllStand constructs) (siblings constructs) inner.tokens p),
              tt,
            ))
            (forms_stand label.start (text_before label.from (codes_of content)) (drop 1 (codes_of content)));
      }

  -- from a place of a content on
  pub may_stand : (content : List InlineCode) → EachOf (Stands constructs) (inlines_from context content)
  may_stand content =
      let spans = spans_from context content in
      let p : AllStand constructs spans =
      spans_hold (PartStands constructs) (AllStand constructs) (siblings constructs)
      (whole_text (scan context 0 (reading (text [] false) []) content)).tokens
      (text_holds context AnyCodes (StartStands constructs) (TextStands constructs) keeps content tt) in
      linked_good constructs (AllStand constructs) spans
      (λ e. literals_good (PartStands constructs) (AllStand constructs) (Any constructs) (literals_stand constructs e) spans p) p
