-- Every reference leads to a label that is defined, and every call to that of a footnote.
use Rattle.std.proofs.Common.{◌≡◌, ℕ, Bool, true, false, ◌&&◌, ◌==◌, List, [], ◌∷◌, ◌++◌, Option, None, Some, length, drop, refl, ◌-◌}
use Rattle.std.specs.Option.{option_map}
use Rattle.std.proofs.lemmas.Bool.{cond_both, and_parts, or_from, not_from_true}
use Rattle.markdown_options.specs.declared.configuration.Constructs.{Constructs}
use Rattle.definition_text.specs.Content.{Part, text_before}
use Rattle.definition_text.specs.InlineCode.{InlineCode, codes_of}
use Rattle.definition_inline.specs.Inline.{Reference, Inline, Leaf, Data}
use Rattle.definition_inline.specs.Label.{label_at}
use Rattle.definition_inline.specs.Resource.{LinkResource, resource_at}
use Rattle.definition_inline.specs.LabelEnd.{LinkTail, link_tail, is_label_text, by_text, by_label, by_resource, label_end_at, LinkOrCall, Leads, Calls}
use Rattle.definition_inline.specs.LabelEnd.{link_or_image}
use Rattle.definition_inline.specs.GfmLabelStartFootnote.{called_label, call_or_link}
use Rattle.definition_inline.specs.Attention.{run_at}
use Rattle.definition_inline.specs.Spans.{Token, Item, Delimiters, with_spans}
use Rattle.definition_inline.specs.Scan.{InlineContext, leaf_here, leaf_tokens, LabelStart, LinkStart, ImageStart, label_start_at, formed_part}
use Rattle.definition_inline.specs.Scan.{formed_at, inlines_from, Text, text, reading, scan, whole_text, spans_from, without_indent}
use Rattle.definition_inline.proofs.ScanHolds.{where_gives, where_always, Keeps, text_holds}
use Rattle.laws_inline.specs.Occurs.{has}
use Rattle.laws_inline.specs.References.{is_undefined, leads_nowhere, ReferencesAreDefined}
use Rattle.laws_inline.proofs.Each.{WhereSome, Each, each-append}
use Rattle.laws_inline.proofs.Lacks.{PartLacks, Lacks, spans_lack, HeldAlone, leaf_lacks, run_lacks, plain_start_lacks, linked_lacks}

module _ (is_defined is_footnote : List ℕ → Bool) where
  -- ---- what a `]` forms

  abbrev LeadsOn : Option LinkTail → Type 0
  LeadsOn None = Unit {0}
  LeadsOn (Some found) = is_undefined is_defined found.target ≡ false

  text_leads : (label rest : List ℕ) → LeadsOn (by_text is_defined label rest)
  text_leads label rest =
      cond_both (is_label_text label && is_defined label) (Some (link_tail (Reference label) _)) None LeadsOn
      (λ e. not_from_true (is_defined label) (and_parts (is_label_text label) (is_defined label) e).1) (λ _. tt)

  label_leads : (label rest : List ℕ) (found : Option Part) → LeadsOn (by_label is_defined label rest found)
  label_leads label rest None = text_leads label rest
  label_leads label rest (Some found) =
      cond_both (is_defined found.text) (Some (link_tail (Reference found.text) (length rest - length found.rest))) None LeadsOn
      (λ e. not_from_true (is_defined found.text) e) (λ _. tt)

  resource_leads : (label rest : List ℕ) (found : Option LinkResource) → LeadsOn (by_resource is_defined label rest found)
  resource_leads label rest None = label_leads label rest (label_at rest)
  resource_leads label rest (Some found) = refl

  -- what is formed leads on: a link or an image, or a call of a footnote
  abbrev LeadsSomewhere : LinkOrCall → Type 0
  LeadsSomewhere (Leads end) = is_undefined is_defined end.target ≡ false
  LeadsSomewhere (Calls label) = is_footnote label ≡ true

  leading_leads : (found : Option LinkTail) → LeadsOn found → WhereSome LeadsSomewhere (option_map Leads found)
  leading_leads None h = tt
  leading_leads (Some end) h = h

  called_leads : (on : Constructs) (between : List ℕ) → WhereSome (λ label. is_footnote label ≡ true) (called_label on is_footnote between)
  called_leads on [] = tt
  called_leads on (c ∷ label) =
      let others = on.gfm_label_start_footnote && (c == 94) && is_label_text label in
      cond_both (others && is_footnote label) (Some label) None (WhereSome (λ label. is_footnote label ≡ true))
      (λ e. (and_parts others (is_footnote label) e).1) (λ _. tt)

  link_leads : (on : Constructs) (between rest : List ℕ) (found : Option (List ℕ)) → WhereSome (λ label. is_footnote label ≡ true) found
      → WhereSome LeadsSomewhere (call_or_link on is_defined between rest found)
  link_leads on between rest (Some label) h = h
  link_leads on between rest None h =
      cond_both on.label_start_link (link_or_image is_defined between rest) None (WhereSome LeadsSomewhere)
      (λ _. leading_leads (label_end_at is_defined between rest) (resource_leads between rest (resource_at rest))) (λ _. tt)

  -- ---- texts

  abbrev Nowhere : Inline → Bool
  Nowhere i = leads_nowhere is_defined is_footnote i

  alone : HeldAlone Nowhere
  alone = record { leaf = λ part. refl; span = λ kind kids. refl }

  abbrev IsSound : Text → Type 0
  IsSound t = Each (Lacks Nowhere) t.tokens

  sound_more : (t : Text) (more : List Token) → IsSound t → Each (Lacks Nowhere) more → Each (Lacks Nowhere) (t.tokens ++ more)
  sound_more t more h p = each-append (Lacks Nowhere) t.tokens more h p

  sound_part : (start : LabelStart) (found : LinkOrCall) (tokens : List Token) → LeadsSomewhere found → Each (Lacks Nowhere) tokens
      → PartLacks Nowhere (formed_part start found tokens)
  sound_part start (Leads end) tokens e p = or_from (is_undefined is_defined end.target) (has Nowhere (with_spans tokens)) e (spans_lack Nowhere tokens p)
  sound_part start (Calls label) tokens e p = not_from_true (is_footnote label) e

-- ---- the scan

module _ (context : InlineContext) where
  abbrev LeadsOut : Inline → Bool
  LeadsOut i = leads_nowhere context.is_defined context.is_footnote i

  abbrev Sound : Text → Type 0
  Sound t = IsSound context.is_defined context.is_footnote t

  abbrev Leading : LinkOrCall → Type 0
  Leading found = LeadsSomewhere context.is_defined context.is_footnote found

  formed_leads : (start : LabelStart) (between rest : List ℕ) → WhereSome Leading (formed_at context start between rest)
  formed_leads LinkStart between rest =
      let on = context.options.constructs in
      link_leads context.is_defined context.is_footnote on between rest (called_label on context.is_footnote between)
      (called_leads context.is_defined context.is_footnote on between)
  formed_leads ImageStart between rest =
      leading_leads context.is_defined context.is_footnote (label_end_at context.is_defined between rest)
      (resource_leads context.is_defined context.is_footnote between rest (resource_at rest))

  abbrev AnyCodes : List InlineCode → Type 0
  AnyCodes content = Unit {0}

  abbrev AnyStart : LabelStart → Type 0
  AnyStart start = Unit {0}

  keeps : Keeps context AnyCodes AnyStart Sound
  keeps =
      let held : HeldAlone LeadsOut = alone context.is_defined context.is_footnote in
      let more : (t : Text) (ts : List Token) → Sound t → Each (Lacks LeadsOut) ts → Each (Lacks LeadsOut) (t.tokens ++ ts) =
      sound_more context.is_defined context.is_footnote in
      record {
        tail = λ c cs h. tt;
        starts = λ content h. where_always AnyStart (label_start_at context.options.constructs (codes_of content)) (λ start. tt);
        empty = tt;
        leaf = λ t content h p. where_always _ (leaf_here context content) (λ found. more t (leaf_tokens found) p (leaf_lacks LeadsOut held found));
        run = λ t content h p. where_always _ (run_at context.options content) (λ run. more t (Delimiters run ∷ []) p (run_lacks LeadsOut held run, tt));
        byte = λ t c cs h none p. more t (Item (Leaf (Data c.code)) ∷ []) p (refl, tt);
        close = λ t p. more t (Item (Leaf (Data 93)) ∷ []) p (refl, tt);
        unformed = λ label inner h p. plain_start_lacks LeadsOut held label.start label.outer.tokens inner.tokens h p;
        formed = λ label inner content h on may s q p.
            let between = text_before label.from (codes_of content) in
            where_gives Leading _ (formed_at context label.start between (drop 1 (codes_of content)))
            (λ found e. more label.outer (Item (formed_part label.start found inner.tokens) ∷ []) q
            (sound_part context.is_defined context.is_footnote label.start found inner.tokens e p, tt))
            (formed_leads label.start between (drop 1 (codes_of content)));
      }

  spans_lead : (content : List InlineCode) → has LeadsOut (spans_from context content) ≡ false
  spans_lead content =
      spans_lack LeadsOut (whole_text (scan context 0 (reading (text [] false) []) content)).tokens
      (text_holds context AnyCodes AnyStart Sound keeps content tt)

-- of a content that begins anywhere
pub references_are_defined_from : (context : InlineContext) (content : List InlineCode)
    → has (leads_nowhere context.is_defined context.is_footnote) (inlines_from context content) ≡ false
references_are_defined_from context content =
    let is_out : Inline → Bool = leads_nowhere context.is_defined context.is_footnote in
    linked_lacks is_out (alone context.is_defined context.is_footnote) (λ kind target kids others h keeps. h) context.options.constructs
    (spans_from context content) (spans_lead context content)

pub references_are_defined : ReferencesAreDefined
references_are_defined context content = references_are_defined_from context (without_indent content)
