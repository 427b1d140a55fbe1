-- What is written in what is open: more of it, one more that is open, and one less.
use Rattle.std.proofs.Common.{◌≡◌, ◌||◌, ◌<◌, ℕ, Bool, length, false, List, [], ◌∷◌, ◌++◌, refl, sym, ap, subst, ◌∙◌, append_assoc, arith, replicate}
use Rattle.parse_inline.proofs.Prelude.{AreBytesAt, AreMeanings, ArePartsAlike, ArePlain, AreWritten, Code, codes_of, Cons, content_codes, contents_around}
use Rattle.parse_inline.proofs.Prelude.{contents_both, contents_none, end_after, end_in, EndNoLine, EntersInContent, EntersLabel, EntersSpan, Frame}
use Rattle.parse_inline.proofs.Prelude.{HaveSameWords, HaveTextsOfBytes, Image, in_link, InlineCode, InlineContext, Inlines, inlines_of, InLinked, InSpan}
use Rattle.parse_inline.proofs.Prelude.{is_link, is_listed, label_text, LeavesLinked, LeavesSpan, level, Level, Link, linked_name, LinkedKind, links}
use Rattle.parse_inline.proofs.Prelude.{length-replicate, mark_name, Meaning, Nil, Nodes, one, Outside, part, plain_both, plain_none, Reference, Resource}
use Rattle.parse_inline.proofs.Prelude.{same_name, sequence_name, Span, span_name, span_view, SpellsTarget, StandsInContent, Stop, Target, target_of}
use Rattle.parse_inline.proofs.Prelude.{text_before, text_name, text_names, Walk, WritesInContent, WritesParts}
use Rattle.std.proofs.Common.{true}
use Rattle.event_tokens.specs.Tokens.{is_token}
use Rattle.engine_events.specs.declared.event.Name.TheVariants as n
use Rattle.definition_inline.specs.Inline as inline
use Rattle.definition_inline.proofs.DefinitionParts.{before_rest}
use Rattle.inline_content.proofs.Places.{codes_append}
use Rattle.inline_runs.specs.declared.pair.Span.TheVariants as span
use Rattle.event_meaning.specs.Texts.{append}
use Rattle.parse_output.specs.Forest as forest
use Rattle.parse_alike.specs.Inline.{IsPartAlike}
use Rattle.parse_alike.proofs.Composed.{alike_parts_compose}
use Rattle.parse_inline.specs.Rows.{Inside, EntersFrame}
use Rattle.event_grammar.specs.declared.slot.Form.TheVariants.{Plain}
use Rattle.event_grammar.specs.Grammar.{text_row}
use Rattle.parse_slots.proofs.Steps.{fill_both, fill_none, may_both}
use Rattle.parse_references.specs.Sound.{AreSound, asked_names, outside_strings}
use Rattle.parse_references.proofs.Rows.{is_without}
use Rattle.parse_references.proofs.Sound.{sound_both}
use Rattle.parse_inline.specs.Texts.{FillsText}
use Rattle.parse_inline.proofs.Kids.{moved}
use Rattle.parse_inline.proofs.Labels.{label_form, label_node, linked_fill, linked_label, linked_nodes, linked_plain, linked_sound, linked_spelled, own_node}
use Rattle.parse_inline.proofs.Labels.{target_alike}
use Rattle.parse_inline.proofs.Plain.{HaveNoOther}
use Rattle.parse_inline.proofs.LabelWritten.{labelled}
use Rattle.parse_inline.proofs.LeavesAlike.{append_none, inlines_append}
use Rattle.parse_inline.proofs.Spans.{span_fill, span_nodes, span_plain, span_sound, span_spelled, text_nodes}

-- ---- names

span_no_quote : (s : Span) → same_name (span_name s) n.BlockQuotePrefix ≡ false
span_no_quote span.Emphasis = refl
span_no_quote other = refl

text_no_quote : (s : Span) → same_name (text_name s) n.BlockQuotePrefix ≡ false
text_no_quote span.Emphasis = refl
text_no_quote other = refl

linked_no_quote : (kind : LinkedKind) → same_name (linked_name kind) n.BlockQuotePrefix ≡ false
linked_no_quote Link = refl
linked_no_quote Image = refl

mark_no_text : (kind : LinkedKind) → is_listed text_names (mark_name kind) ≡ false
mark_no_text Link = refl
mark_no_text Image = refl

mark_no_label : (kind : LinkedKind) → same_name (mark_name kind) n.Label ≡ false
mark_no_label Link = refl
mark_no_label Image = refl

mark_strings : (kind : LinkedKind) → is_without outside_strings 2 Plain (mark_name kind) ≡ true
mark_strings Link = refl
mark_strings Image = refl

mark_unasked : (kind : LinkedKind) → is_without asked_names 2 Plain (mark_name kind) ≡ true
mark_unasked Link = refl
mark_unasked Image = refl

-- no definition is where a link leads
no_definition : (context : InlineContext) (text : List ℕ) (target : Target) (own_codes : List Code) (ns : Nodes) → SpellsTarget context text target own_codes ns
    → HaveNoOther ns
no_definition context text (Resource destination title) own_codes ns (read, place, title_is, spells) =
    record { definitions = spells.definitions; columns = spells.columns }
no_definition context text (Reference label) own_codes ns (no_resource, none, no_column, label_is) = record { definitions = none; columns = no_column }

-- one part
one_alike : (m m' : Meaning) (i : inline.Inline) (js : Inlines) → IsPartAlike m m' i js → ArePartsAlike m m' (part i) js
one_alike m m' i js is = (js, inline.Nil, sym (append_none js), is, refl)

-- the codes of a text between brackets
own_codes_are : (here front behind : List ℕ) (inside at : List InlineCode) → here ≡ front ++ 93 ∷ behind → AreBytesAt here inside → AreBytesAt (93 ∷ behind) at
    → text_before (codes_of inside) (codes_of at) ≡ content_codes front
own_codes_are here front behind inside at parts are are_at =
    ap (λ cs. text_before cs (codes_of at)) (are ∙ ap content_codes parts ∙ codes_append front 93 behind (λ same. absurd (omega (arith, same))))
    ∙ ap (text_before (content_codes front ++ content_codes (93 ∷ behind))) are_at
    ∙ before_rest (content_codes front) (content_codes (93 ∷ behind))

-- nodes spell these parts
abbrev pub AreAlike : InlineContext → List ℕ → Bool → Inlines → Nodes → Type 0
AreAlike context text linked is ns =
    (m m' : Meaning) → AreMeanings context.options.constructs context.names m m' → ArePartsAlike m m' is (inlines_of context.names text linked ns)

module _ {A : Type 0} (context : InlineContext) (text : List ℕ) (stop : Stop) where
  -- ---- parts

  pub no_parts : (linked : Bool) (content : List ℕ) (w : Walk A) → StandsInContent text content stop w
      → WritesParts context text linked inline.Nil content content stop w w
  no_parts linked content w st = record {
    front = [];
    both = refl;
    nodes = Nil;
    writes = contents_none text stop w content st;
    spells = λ m m' meant. refl;
    plain = plain_none;
    fill = λ around may. fill_none around text_row;
    sound = tt;
  }

  pub more_parts : (linked : Bool) (is js : Inlines) (bytes content front after : List ℕ) (old mid new : Walk A) (ns : Nodes)
      → WritesParts context text linked is bytes content stop old mid → content ≡ front ++ after → WritesInContent text front ns after stop mid new
      → AreAlike context text linked js ns → ArePlain ns → FillsText front ns → AreSound context.options.constructs context.names text ns
      → WritesParts context text linked (append is js) bytes after stop old new
  more_parts linked is js bytes content front after old mid new ns p both writes alike plain fill sound = record {
    front = p.front ++ front;
    both = p.both ∙ ap (λ c. p.front ++ c) both ∙ sym (append_assoc p.front front after);
    nodes = forest.append p.nodes ns;
    writes =
        contents_both text stop old mid new p.front front after p.nodes ns (subst (λ c. WritesInContent text p.front p.nodes c stop old mid) both p.writes)
        writes;
    spells = λ m m' meant.
        subst (ArePartsAlike m m' (append is js)) (sym (inlines_append context.names text linked p.nodes ns))
        (alike_parts_compose.joined m m' is (inlines_of context.names text linked p.nodes) js (inlines_of context.names text linked ns)
        (p.spells m m' meant) (alike m m' meant));
    plain = plain_both p.nodes ns p.plain plain;
    fill = λ around may. let each = may_both around p.front front may in fill_both (p.fill around each.0) (fill around each.1);
    sound = sound_both context.options.constructs context.names text p.nodes ns p.sound sound;
  }

  module _ (bytes : List ℕ) (first : Walk A) where
    abbrev Written : List Level → Inlines → List ℕ → Walk A → Type 0
    Written levels kids content w = AreWritten context text bytes stop first levels kids content w

    -- more in the innermost that is open
    pub more_written : (levels : List Level) (kids js : Inlines) (content front after : List ℕ) (w new : Walk A) (ns : Nodes) → Written levels kids content w
        → content ≡ front ++ after → WritesInContent text front ns after stop w new → AreAlike context text (in_link (links levels)) js ns → ArePlain ns
        → FillsText front ns → AreSound context.options.constructs context.names text ns → Written levels (append kids js) after new
    more_written _ _ js _ front after _ new ns (Outside kids content w p) both writes alike plain fill sound =
        Outside (append kids js) after new (more_parts false kids js bytes content front after first w new ns p both writes alike plain fill sound)
    more_written _ _ js _ front after _ new ns (Inside l ls kids enter here content outside inside w outer enters p) both writes alike plain fill
        sound =
        Inside l ls (append kids js) enter here after outside inside new outer enters
        (more_parts (in_link (links (l ∷ ls))) kids js here content front after inside w new ns p both writes alike plain fill sound)

    -- one more is open
    pub enter_written : (frame : Frame) (levels : List Level) (kids : Inlines) (content front after : List ℕ) (w new : Walk A) → Written levels kids content w
        → content ≡ front ++ after → EntersFrame text frame front after stop w new → StandsInContent text after stop new
        → Written (level frame kids ∷ levels) inline.Nil after new
    enter_written frame levels kids content front after w new written both enters st =
        Inside (level frame kids) levels inline.Nil front after after w new new (subst (λ c. Written levels kids c w) both written) enters
        (no_parts (in_link (links (level frame kids ∷ levels))) after new st)

    -- none is
    pub outside_written : (kids : Inlines) (content : List ℕ) (w : Walk A) → Written [] kids content w
        → WritesParts context text false kids bytes content stop first w
    outside_written _ _ _ (Outside kids content w p) = p

    -- the innermost that is open
    record Innermost (l : Level) (ls : List Level) (kids : Inlines) (content : List ℕ) (w : Walk A) : Type 0 where
      front : List ℕ
      here : List ℕ
      outside : Walk A
      inside : Walk A
      outer : Written ls l.before (front ++ here) outside
      enters : EntersFrame text l.frame front here stop outside inside
      parts : WritesParts context text (in_link (links (l ∷ ls))) kids here content stop inside w

    innermost : (l : Level) (ls : List Level) (kids : Inlines) (content : List ℕ) (w : Walk A) → Written (l ∷ ls) kids content w → Innermost l ls kids content w
    innermost _ _ _ _ _ (Inside l ls kids front here content outside inside w outer enters p) =
        record { front = front; here = here; outside = outside; inside = inside; outer = outer; enters = enters; parts = p }

    -- its sequence ends no line
    pub dark_written : (span : Span) (marker size : ℕ) (before : Inlines) (ls : List Level) (kids : Inlines) (content : List ℕ) (w : Walk A)
        → Written (level (InSpan span marker size) before ∷ ls) kids content w → EndNoLine (replicate size marker)
    dark_written s marker size before ls kids content w written = (innermost (level (InSpan s marker size) before) ls kids content w written).enters.1

    -- and may have its bytes
    pub may_written : (span : Span) (marker size : ℕ) (before : Inlines) (ls : List Level) (kids : Inlines) (content : List ℕ) (w : Walk A)
        → Written (level (InSpan span marker size) before ∷ ls) kids content w → is_token (sequence_name span) (replicate size marker) ≡ true
    may_written s marker size before ls kids content w written = (innermost (level (InSpan s marker size) before) ls kids content w written).enters.2

    -- and has some
    pub some_written : (span : Span) (marker size : ℕ) (before : Inlines) (ls : List Level) (kids : Inlines) (content : List ℕ) (w : Walk A)
        → Written (level (InSpan span marker size) before ∷ ls) kids content w → 0 < size
    some_written s marker size before ls kids content w written = (innermost (level (InSpan s marker size) before) ls kids content w written).enters.3

    -- a span is over
    pub leave_span_written : (span : Span) (marker size : ℕ) (before : Inlines) (ls : List Level) (kids : Inlines) (content front after : List ℕ) (w new : Walk A)
        → Written (level (InSpan span marker size) before ∷ ls) kids content w → content ≡ front ++ after → 0 < length front
        → LeavesSpan text span front after stop w new
        → Written ls (append before (part (inline.Span (span_view span) kids))) after new
    leave_span_written s marker size before ls kids content front after w new written both some leaves =
        let it = innermost (level (InSpan s marker size) before) ls kids content w written in
        let p = it.parts in
        let enters : EntersSpan text s it.front it.here stop it.outside it.inside = it.enters.4 in
        let begins : 0 < length it.front = omega (arith, it.enters.3, ap length it.enters.0, length-replicate size marker) in
        let first = forest.void_nodes text (sequence_name s) (end_in enters.outer.out) (end_after (end_in enters.outer.out) (length it.front)) in
        let last = forest.void_nodes text (sequence_name s) (end_in leaves.inner.out) (end_after (end_in leaves.inner.out) (length front)) in
        let own = text_nodes text s (end_in enters.inner.out) p.nodes (end_in w.out) in
        let rest : it.here ≡ p.front ++ (front ++ after) = p.both ∙ ap (λ c. p.front ++ c) both in
        let all : it.front ++ it.here ≡ ((it.front ++ p.front) ++ front) ++ after =
        ap (λ c. it.front ++ c) rest ∙ sym (append_assoc it.front p.front (front ++ after)) ∙ sym (append_assoc (it.front ++ p.front) front after) in
        let inner : WritesInContent text p.front own (front ++ after) stop enters.inner leaves.inner =
        contents_around text stop enters.inner it.inside w leaves.inner (text_name s) p.front (front ++ after) p.nodes
        (subst (λ c. EntersInContent text (text_name s) c stop enters.inner it.inside) rest enters.starts)
        (subst (λ c. WritesInContent text p.front p.nodes c stop it.inside w) both p.writes) leaves.ends (text_no_quote s) in
        let begun : WritesInContent text (it.front ++ p.front) (forest.append first own) (front ++ after) stop enters.outer leaves.inner =
        contents_both text stop enters.outer enters.inner leaves.inner it.front p.front (front ++ after) first own
        (subst (λ c. WritesInContent text it.front first c stop enters.outer enters.inner) rest enters.sequence) inner in
        let ended : WritesInContent text ((it.front ++ p.front) ++ front) (forest.append (forest.append first own) last) after stop enters.outer leaves.outer =
        contents_both text stop enters.outer leaves.inner leaves.outer (it.front ++ p.front) front after (forest.append first own) last begun leaves.sequence in
        let whole =
        contents_around text stop it.outside enters.outer leaves.outer new (span_name s) ((it.front ++ p.front) ++ front) after
        (forest.append (forest.append first own) last) (subst (λ c. EntersInContent text (span_name s) c stop it.outside enters.outer) all enters.enters)
        ended leaves.leaves
        (span_no_quote s) in
        more_written ls before (part (inline.Span (span_view s) kids)) (it.front ++ it.here) ((it.front ++ p.front) ++ front) after it.outside new
        (span_nodes text s (end_in it.outside.out) (forest.append (forest.append first own) last) (end_in leaves.outer.out)) it.outer all whole
        (λ m m' meant.
        subst (ArePartsAlike m m' (part (inline.Span (span_view s) kids)))
        (sym (span_spelled context.names text s (in_link (links ls)) (end_in it.outside.out) (end_in leaves.outer.out) (end_in enters.outer.out)
        (end_after (end_in enters.outer.out) (length it.front)) (end_in enters.inner.out) (end_in w.out) (end_in leaves.inner.out)
        (end_after (end_in leaves.inner.out) (length front)) p.nodes))
        (one_alike m m' (inline.Span (span_view s) kids) (part
        (inline.Span (span_view s) (inlines_of context.names text (in_link (links ls) || false) p.nodes)))
        (inlines_of context.names text (in_link (links ls) || false) p.nodes, refl, p.spells m m' meant)))
        (span_plain text s (end_in it.outside.out) (end_in leaves.outer.out) (end_in enters.outer.out) (end_after (end_in enters.outer.out) (length it.front))
        (end_in enters.inner.out) (end_in w.out) (end_in leaves.inner.out) (end_after (end_in leaves.inner.out) (length front)) p.nodes p.plain)
        (λ around may.
        let own_may = (may_both around it.front p.front (may_both around (it.front ++ p.front) front may).0).1 in
        span_fill around p.front text s (end_in it.outside.out) (end_in leaves.outer.out) (end_in enters.outer.out)
        (end_after (end_in enters.outer.out) (length it.front)) (end_in enters.inner.out) (end_in w.out) (end_in leaves.inner.out)
        (end_after (end_in leaves.inner.out) (length front)) p.nodes
        (moved (end_in enters.outer.out).index (end_in enters.outer.out).owed (length it.front) begins)
        (moved (end_in leaves.inner.out).index (end_in leaves.inner.out).owed (length front) some) own_may (p.fill around own_may))
        (span_sound context.options.constructs context.names text s (end_in it.outside.out) (end_in leaves.outer.out) (end_in enters.outer.out)
        (end_after (end_in enters.outer.out) (length it.front)) (end_in enters.inner.out) (end_in w.out) (end_in leaves.inner.out)
        (end_after (end_in leaves.inner.out) (length front)) p.nodes p.sound)

    -- a link or an image is over
    pub leave_linked_written : HaveTextsOfBytes context.names → (kind : LinkedKind) (target : Target) (within at to : List InlineCode) (before : Inlines)
        (ls : List Level) (kids : Inlines) (content : List ℕ) (w new : Walk A) → Written (level (InLinked kind target within) before ∷ ls) kids content w
        → AreBytesAt content at
        → (leaves : LeavesLinked context text (linked_name kind) target (text_before (codes_of within) (codes_of at)) content to stop w new)
        → Written ls (append before (part (inline.Linked kind target kids))) leaves.tail.after new
    leave_linked_written texts kind target within at to before ls kids content w new written are_at leaves =
        let it = innermost (level (InLinked kind target within) before) ls kids content w written in
        let p = it.parts in
        let enters : EntersLabel text (linked_name kind) (mark_name kind) it.front it.here stop it.outside it.inside = it.enters.1 in
        let behind = leaves.behind in
        let front = leaves.tail.front in
        let after = leaves.tail.after in
        let rest : it.here ≡ p.front ++ 93 ∷ behind = p.both ∙ ap (λ c. p.front ++ c) leaves.bracket in
        let (l, is, label, own_words, same, label_fills) =
        labelled text stop (linked_name kind) (mark_name kind) it.front it.here p.front behind p.nodes it.outside it.inside w leaves.ended (mark_no_text kind)
        (mark_no_label kind) (mark_strings kind) (mark_unasked kind) rest enters
        (subst (λ c. WritesInContent text p.front p.nodes c stop it.inside w) leaves.bracket p.writes) p.plain leaves.label in
        let all : it.front ++ it.here ≡ (((it.front ++ p.front) ++ 93 ∷ []) ++ front) ++ after =
        ap (λ c. it.front ++ c) rest ∙ sym (append_assoc it.front p.front (93 ∷ behind)) ∙ sym (append_assoc (it.front ++ p.front) (93 ∷ []) behind)
        ∙ ap (λ c. ((it.front ++ p.front) ++ 93 ∷ []) ++ c) leaves.tail.both ∙ sym (append_assoc ((it.front ++ p.front) ++ 93 ∷ []) front after) in
        let tailed : WritesInContent text (((it.front ++ p.front) ++ 93 ∷ []) ++ front) (Cons (label_node text l) leaves.tail.nodes) after stop enters.outer
        leaves.last =
        contents_both text stop enters.outer leaves.ended leaves.last ((it.front ++ p.front) ++ 93 ∷ []) front after (one (label_node text l)) leaves.tail.nodes
        (subst (λ c. WritesInContent text ((it.front ++ p.front) ++ 93 ∷ []) (one (label_node text l)) c stop enters.outer leaves.ended) leaves.tail.both label)
        leaves.tail.writes in
        let whole =
        contents_around text stop it.outside enters.outer leaves.last new (linked_name kind) (((it.front ++ p.front) ++ 93 ∷ []) ++ front) after
        (Cons (label_node text l) leaves.tail.nodes) (subst (λ c. EntersInContent text (linked_name kind) c stop it.outside enters.outer) all enters.enters)
        tailed
        leaves.leaves (linked_no_quote kind) in
        let own_codes = text_before (codes_of within) (codes_of at) in
        let own_are : own_codes ≡ content_codes p.front =
        own_codes_are it.here p.front behind within at rest it.enters.0 (subst (λ c. AreBytesAt c at) leaves.bracket are_at) in
        let words : HaveSameWords own_codes (content_codes (label_text text (own_node text l))) =
        subst (λ cs. HaveSameWords cs (content_codes (label_text text (own_node text l)))) (sym own_are) own_words in
        let linked = in_link (links ls) in
        more_written ls before (part (inline.Linked kind target kids)) (it.front ++ it.here) (((it.front ++ p.front) ++ 93 ∷ []) ++ front) after it.outside new
        (linked_nodes text l is leaves.tail.nodes kind (end_in it.outside.out) (end_in leaves.last.out)) it.outer all whole
        (λ m m' meant.
        let led = target_of context.names text (Cons (label_node text l) leaves.tail.nodes) in
        let js = inlines_of context.names text (linked || is_link (InLinked kind target within)) l.kids in
        subst (ArePartsAlike m m' (part (inline.Linked kind target kids)))
        (sym (linked_spelled text l is leaves.tail.nodes context.names kind linked target within (end_in it.outside.out) (end_in leaves.last.out)))
        (one_alike m m' (inline.Linked kind target kids) (part (inline.Linked kind led js)) (
          led,
          js,
          refl,
          target_alike text l is leaves.tail.nodes context own_codes words texts m m' meant target leaves.tail.leads,
          subst (λ ns. ArePartsAlike m m' kids (inlines_of context.names text (linked || is_link (InLinked kind target within)) ns)) (sym same)
              (p.spells m m' meant),
        )))
        (linked_plain text l is leaves.tail.nodes kind (end_in it.outside.out) (end_in leaves.last.out)
        (no_definition context text target own_codes leaves.tail.nodes leaves.tail.leads))
        (λ around may.
        let parts = may_both around ((it.front ++ p.front) ++ 93 ∷ []) front may in
        let own_may = (may_both around it.front p.front (may_both around (it.front ++ p.front) (93 ∷ []) parts.0).0).1 in
        linked_fill around p.front text l is (end_in it.outside.out) (end_in leaves.last.out) own_may leaves.tail.nodes kind
        (label_fills around (label_form kind) (linked_label kind) own_may (p.fill around own_may)) (leaves.tail.fill around parts.1))
        (linked_sound text l is leaves.tail.nodes context.options.constructs context.names kind (end_in it.outside.out) (end_in leaves.last.out)
        (subst (AreSound context.options.constructs context.names text) (sym same) p.sound) leaves.tail.sound)
