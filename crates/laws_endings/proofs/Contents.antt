-- The inline structure of a content with another ending in place of each LF.
use Rattle.std.proofs.Common.{◌≡◌, ℕ, zero, suc, ◌+◌, ◌-◌, List, [], ◌∷◌, ◌++◌, None, Some, Option, Bool, true, false, cond, not, ◌&&◌, ◌||◌, eqb, refl, sym}
use Rattle.std.proofs.Common.{ap, ◌∙◌, drop, map}
use Rattle.laws_endings.proofs.Prelude.{and_then, autolink_at, begins_with, both_ways, call_or_link, called_label, Calls, code_text_at, code_with, codes}
use Rattle.laws_endings.proofs.Prelude.{codes_of, codes_with, Constructs, content_with, Data, Delimiters, drop-map, eq-eqb, eqb-true, escape_at}
use Rattle.laws_endings.proofs.Prelude.{escaped_break_at, false_from_ne_true, fold, formed_at, Found, get_or-map, html_text_at, ImageStart, inline_code_with}
use Rattle.laws_endings.proofs.Prelude.{inline_with, InlineCode, InlineContext, InlineLeaf, inlines, inlines_from, inlines_with, is_eol, is_marker, is_some}
use Rattle.laws_endings.proofs.Prelude.{is_white, LabelStart, Leads, Leaf, leaf_at, leaf_here, leaf_step, leaf_with, line_end_at, line_spaces_at, LineEnding}
use Rattle.laws_endings.proofs.Prelude.{linked_literals, LinkOrCall, LinkStart, literal_at, map-append, math_text_at, Next, or_else, ParseOptions, prefix_len}
use Rattle.laws_endings.proofs.Prelude.{reading, Reading, reference_at, Run, run_at, run_between, run_size, scan, slice_index_or, Step, step, target_with}
use Rattle.laws_endings.proofs.Prelude.{text, text_before, Token, true≢false, whole_text, with_spans, without_indent}
use Rattle.definition_inline.specs.Spans.{Item}
use Rattle.definition_inline.specs.Scan.{starts_image, starts_link, label_start_at}
use Rattle.definition_inline.specs.Scan.{start_more, leaf_tokens, start_tokens, may_form, label_part, formed_part, makes_link, Text, OpenLabel}
use Rattle.definition_inline.specs.Scan.{read_tokens, with_plain_start, with_link_or_call, data_step, ended_step, ended_by}
use Rattle.definition_inline.specs.Scan.{label_end_step, last_step, label_step, run_step}
use Rattle.laws_endings.specs.Laws.{InlinesLaw}
use Rattle.laws_endings.proofs.Codes.{cond-under, same_code, before-with}
use Rattle.laws_endings.proofs.Leaves.{if_found, or_else-with, same_byte, leaf_at-with}
use Rattle.laws_endings.proofs.Literals.{codes_of-with, literal_at-with}
use Rattle.laws_endings.proofs.LabelEnds.{begins-with, formed_with, if_formed, leading-with, call_or_link-with, called-with}
use Rattle.laws_endings.proofs.Addresses.{linked-with}
use Rattle.laws_endings.proofs.Tokens.{token_with, tokens_with, emphasized-with}

-- ---- where no construct begins that holds no other stands no ending

pub or_none : (one other : Option Found) → or_else one other ≡ None → (one ≡ None) × (other ≡ None)
or_none None other h = (refl, h)
or_none (Some l) other h = absurd (true≢false (ap is_some h))

pub end_none : (is : Bool) (l : Found) → cond is (Some l) None ≡ None → is ≡ false
end_none true l h = absurd (true≢false (ap is_some h))
end_none false l h = refl

no_ending : (context : InlineContext) (c : ℕ) (cs : List ℕ) → leaf_at context (c ∷ cs) ≡ None → is_eol c ≡ false
no_ending context c cs h =
    let on = context.options.constructs in
    let all = c ∷ cs in
    let last = or_else (line_end_at all) (line_spaces_at on all) in
    let html = or_else (html_text_at on all) last in
    let links = or_else (autolink_at on all) html in
    let math = or_else (math_text_at context.options all) links in
    let code = or_else (code_text_at on all) math in
    let references = or_else (reference_at on context.names all) code in
    let breaks = or_else (escaped_break_at on all) references in
    let h1 = (or_none (escape_at on all) breaks h).1 in
    let h2 = (or_none (escaped_break_at on all) references h1).1 in
    let h3 = (or_none (reference_at on context.names all) code h2).1 in
    let h4 = (or_none (code_text_at on all) math h3).1 in
    let h5 = (or_none (math_text_at context.options all) links h4).1 in
    let h6 = (or_none (autolink_at on all) html h5).1 in
    let h7 = (or_none (html_text_at on all) last h6).1 in
    end_none (is_eol c) _ (or_none (line_end_at all) (line_spaces_at on all) h7).0

pub no_ending_here : (context : InlineContext) (c : InlineCode) (cs : List InlineCode) → leaf_here context (c ∷ cs) ≡ None → is_eol c.code ≡ false
no_ending_here context c cs h =
    no_ending context c.code (codes_of cs) (or_none (leaf_at context (codes_of (c ∷ cs))) (literal_at context.options.constructs (c ∷ cs)) h).0

-- which of three bytes it isn't
none_of : (a b d : Bool) → (a || b || d) ≡ false → (a ≡ false) × ((b ≡ false) × (d ≡ false))
none_of true b d h = absurd (true≢false h)
none_of false true d h = absurd (true≢false h)
none_of false false true h = absurd (true≢false h)
none_of false false false h = (refl, (refl, refl))

other_byte : (a b : ℕ) → eqb a b ≡ false → eqb b a ≡ false
other_byte a b h = false_from_ne_true (eqb b a) (λ is. both_ways (eqb a b) h (eq-eqb a b (sym (eqb-true b a is))))

module _ (e : LineEnding) where
  -- ---- what is read so far

  abbrev text_with : Text → Text
  text_with t = text (tokens_with e t.tokens) t.holds_link

  abbrev open_with : OpenLabel → OpenLabel
  open_with l = record { start = l.start; from = codes_with e l.from; outer = text_with l.outer }

  abbrev reading_with : Reading → Reading
  reading_with r = reading (text_with r.now) (map open_with r.open_labels)

  abbrev step_with : Step → Step
  step_with (Next more r) = Next more (reading_with r)

  read_tokens-with : (more : List Token) (r : Reading) → read_tokens (tokens_with e more) (reading_with r) ≡ reading_with (read_tokens more r)
  read_tokens-with more r =
      ap (λ tokens. reading (text tokens r.now.holds_link) (map open_with r.open_labels)) (sym (map-append (token_with e) r.now.tokens more))

  start_tokens-same : (start : LabelStart) → tokens_with e (start_tokens start) ≡ start_tokens start
  start_tokens-same LinkStart = refl
  start_tokens-same ImageStart = refl

  unformed-with : (label : OpenLabel) (inner : Text) → with_plain_start (open_with label) (text_with inner) ≡ text_with (with_plain_start label inner)
  unformed-with label inner =
      let links = label.outer.holds_link || inner.holds_link in
      let outer = label.outer.tokens in
      let starts = start_tokens label.start in
      ap (λ tokens. text (tokens_with e outer ++ (tokens ++ tokens_with e inner.tokens)) links) (sym (start_tokens-same label.start))
      ∙ ap (λ tokens. text (tokens_with e outer ++ tokens) links) (sym (map-append (token_with e) starts inner.tokens))
      ∙ ap (λ tokens. text tokens links) (sym (map-append (token_with e) outer (starts ++ inner.tokens)))

  formed_part-with : (start : LabelStart) (found : LinkOrCall) (tokens : List Token)
      → formed_part start (formed_with e found) (tokens_with e tokens) ≡ inline_with e (formed_part start found tokens)
  formed_part-with start (Leads end) tokens =
      ap (label_part start (target_with e end.target)) (emphasized-with e tokens)
  formed_part-with start (Calls label) tokens = refl

  formed-with : (label : OpenLabel) (found : LinkOrCall) (inner : Text)
      → with_link_or_call (open_with label) (formed_with e found) (text_with inner) ≡ text_with (with_link_or_call label found inner)
  formed-with label found inner =
      let links = label.outer.holds_link || makes_link label.start inner.holds_link in
      let outer = label.outer.tokens in
      let part = formed_part label.start found inner.tokens in
      ap (λ i. text (tokens_with e outer ++ Item i ∷ []) links) (formed_part-with label.start found inner.tokens)
      ∙ ap (λ tokens. text tokens links) (sym (map-append (token_with e) outer (Item part ∷ [])))

  -- ---- one place

  data_step-with : (code : ℕ) (r : Reading) → data_step code (reading_with r) ≡ step_with (data_step code r)
  data_step-with code r = ap (Next 0) (read_tokens-with (Item (Leaf (Data code)) ∷ []) r)

  ended_step-with : (label : OpenLabel) (others : List OpenLabel) (inner : Text) (found : Option LinkOrCall)
      → ended_step (open_with label) (map open_with others) (text_with inner) (if_formed e found) ≡ step_with (ended_step label others inner found)
  ended_step-with label others inner None =
      ap (λ now. Next 0 (read_tokens (Item (Leaf (Data 93)) ∷ []) (reading now (map open_with others)))) (unformed-with label inner)
      ∙ ap (Next 0) (read_tokens-with (Item (Leaf (Data 93)) ∷ []) (reading (with_plain_start label inner) others))
  ended_step-with label others inner (Some (Leads end)) =
      ap (λ now. Next end.size (reading now (map open_with others))) (formed-with label (Leads end) inner)
  ended_step-with label others inner (Some (Calls called_label)) =
      ap (λ now. Next 0 (reading now (map open_with others))) (formed-with label (Calls called_label) inner)

  starts_image-with : (on : Constructs) (cs : List ℕ) → starts_image on (codes_with e cs) ≡ starts_image on cs
  starts_image-with on cs =
      let image : Bool → Bool → Bool = λ begins marked. on.label_start_image && begins && not (on.gfm_label_start_footnote && marked) in
      ap (λ begins. image begins (begins_with (codes "![^") (codes_with e cs))) (begins-with e (codes "![") cs (refl, (refl, (refl, (refl, refl)))))
      ∙ ap (image (begins_with (codes "![") cs)) (begins-with e (codes "![^") cs (refl, (refl, (refl, (refl, (refl, (refl, refl)))))))

  starts_link-with : (on : Constructs) (cs : List ℕ) → starts_link on (codes_with e cs) ≡ starts_link on cs
  starts_link-with on cs =
      let link : Bool → Bool → Bool = λ begins call. (on.label_start_link && begins) || (on.gfm_label_start_footnote && call) in
      ap (λ begins. link begins (begins_with (codes "[^") (codes_with e cs))) (begins-with e (codes "[") cs (refl, (refl, refl)))
      ∙ ap (link (begins_with (codes "[") cs)) (begins-with e (codes "[^") cs (refl, (refl, (refl, (refl, refl)))))

  label_start_at-with : (on : Constructs) (cs : List ℕ) → label_start_at on (codes_with e cs) ≡ label_start_at on cs
  label_start_at-with on cs =
      ap (λ image. cond image (Some ImageStart) (cond (starts_link on (codes_with e cs)) (Some LinkStart) None)) (starts_image-with on cs)
      ∙ ap (λ link. cond (starts_image on cs) (Some ImageStart) (cond link (Some LinkStart) None)) (starts_link-with on cs)

  prefix-with : (test : ℕ → Bool) → test 13 ≡ test 10 → test 257 ≡ test 10 → (cs : List InlineCode)
      → prefix_len (λ (c : InlineCode). test c.code) (content_with e cs) ≡ prefix_len (λ (c : InlineCode). test c.code) cs
  prefix-with test p q [] = refl
  prefix-with test p q (c ∷ cs) =
      ap (λ passes. cond passes (1 + prefix_len (λ (x : InlineCode). test x.code) (content_with e cs)) 0) (same_code e test c.code p q)
      ∙ ap (λ n. cond (test c.code) (1 + n) 0) (prefix-with test p q cs)

  -- a content without the spaces and tabs at its start
  pub unindented-with : (content : List InlineCode) → without_indent (content_with e content) ≡ content_with e (without_indent content)
  unindented-with content =
      ap (λ n. drop n (content_with e content)) (prefix-with is_white refl refl content)
      ∙ drop-map (inline_code_with e) (prefix_len (λ (c : InlineCode). is_white c.code) content) content

  run_at-with : (options : ParseOptions) (c : InlineCode) (cs : List InlineCode) → is_eol c.code ≡ false
      → run_at options (content_with e (c ∷ cs)) ≡ run_at options (c ∷ cs)
  run_at-with options c cs h =
      let all = content_with e (c ∷ cs) in
      let first = inline_code_with e c in
      let not = none_of (eqb c.code 10) (eqb c.code 13) (eqb c.code 257) h in
      let feed = other_byte c.code 10 not.0 in
      let made : ℕ → ℕ → InlineCode → Option Run =
      λ code size last. cond (is_marker options code) (Some (run_between options code size c.before last.after)) None in
      let size = run_size c.code (c ∷ cs) in
      ap (λ code. let n = run_size code all in made code n (slice_index_or all (n - 1) first)) (same_byte e c.code not.0)
      ∙ ap (λ n. made c.code n (slice_index_or all (n - 1) first))
      (prefix-with (λ code. eqb code c.code) (other_byte c.code 13 not.1.0 ∙ sym feed) (other_byte c.code 257 not.1.1 ∙ sym feed) (c ∷ cs))
      ∙ ap (made c.code size) (get_or-map (inline_code_with e) (c ∷ cs) (size - 1) c)

  abbrev leaf_item : InlineLeaf → Token
  leaf_item part = Item (Leaf part)

  all_items : (parts : List InlineLeaf) → map leaf_item (map (leaf_with e) parts) ≡ tokens_with e (map leaf_item parts)
  all_items [] = refl
  all_items (part ∷ parts) = ap (λ tokens. leaf_item (leaf_with e part) ∷ tokens) (all_items parts)

  module _ (context : InlineContext) (same : (label : List ℕ) → context.is_defined (codes_with e label) ≡ context.is_defined label)
      (same_call : (label : List ℕ) → context.is_footnote (codes_with e label) ≡ context.is_footnote label) where
    formed_at-with : (start : LabelStart) (between rest : List ℕ)
        → formed_at context start (codes_with e between) (codes_with e rest) ≡ if_formed e (formed_at context start between rest)
    formed_at-with LinkStart between rest =
        let on = context.options.constructs in
        ap (call_or_link on context.is_defined (codes_with e between) (codes_with e rest)) (called-with e on context.is_footnote same_call between)
        ∙ call_or_link-with e context.is_defined same on between rest (called_label on context.is_footnote between)
    formed_at-with ImageStart between rest = leading-with e context.is_defined same between rest

    ended_by-with : (content : List ℕ) (label : OpenLabel) (inner : Text)
        → ended_by context (codes_with e content) (open_with label) (text_with inner) ≡ if_formed e (ended_by context content label inner)
    ended_by-with content label inner =
        let between = text_before label.from content in
        cond-under (if_formed e) (may_form label.start inner.holds_link)
        (ap (λ t. formed_at context label.start t (drop 1 (codes_with e content))) (before-with e label.from content)
        ∙ ap (formed_at context label.start (codes_with e between)) (drop-map (code_with e) 1 content)
        ∙ formed_at-with label.start between (drop 1 content))
        refl

    label_end_step-with : (content : List ℕ) (inner : Text) (labels : List OpenLabel)
        → label_end_step context (codes_with e content) (text_with inner) (map open_with labels) ≡ step_with (label_end_step context content inner labels)
    label_end_step-with content inner [] = data_step-with 93 (reading inner [])
    label_end_step-with content inner (label ∷ others) =
        ap (ended_step (open_with label) (map open_with others) (text_with inner)) (ended_by-with content label inner)
        ∙ ended_step-with label others inner (ended_by context content label inner)

    last_step-with : (code : ℕ) (content : List ℕ) (r : Reading)
        → last_step context code (codes_with e content) (reading_with r) ≡ step_with (last_step context code content r)
    last_step-with code content r =
        cond-under step_with (context.options.constructs.label_end && eqb code 93) (label_end_step-with content r.now r.open_labels) (data_step-with code r)

    label_step-with : (code : ℕ) (content : List ℕ) (r : Reading) (found : Option LabelStart)
        → label_step context code (codes_with e content) (reading_with r) found ≡ step_with (label_step context code content r found)
    label_step-with code content r None = last_step-with code content r
    label_step-with code content r (Some start) =
        let opened : List ℕ → OpenLabel = λ from. record { start = start; from = from; outer = text_with r.now } in
        ap (λ from. Next (start_more start) (reading (text [] false) (opened from ∷ map open_with r.open_labels)))
        (drop-map (code_with e) (1 + start_more start) content)

    run_step-with : (code : ℕ) (content : List ℕ) (r : Reading) (found : Option Run)
        → run_step context code (codes_with e content) (reading_with r) found ≡ step_with (run_step context code content r found)
    run_step-with code content r None =
        ap (label_step context code (codes_with e content) (reading_with r)) (label_start_at-with context.options.constructs content)
        ∙ label_step-with code content r (label_start_at context.options.constructs content)
    run_step-with code content r (Some run) = ap (Next (run.left - 1)) (read_tokens-with (Delimiters run ∷ []) r)

    leaf_step-with : (c : InlineCode) (cs : List InlineCode) (r : Reading) (found : Option Found) → leaf_here context (c ∷ cs) ≡ found
        → leaf_step context (code_with e c.code) (codes_with e (codes_of (c ∷ cs))) (reading_with r)
        (run_at context.options (content_with e (c ∷ cs))) (if_found e found)
        ≡ step_with (leaf_step context c.code (codes_of (c ∷ cs)) r (run_at context.options (c ∷ cs)) found)
    leaf_step-with c cs r None h =
        let content = codes_with e (codes_of (c ∷ cs)) in
        let apart = no_ending_here context c cs h in
        ap (λ code. run_step context code content (reading_with r) (run_at context.options (content_with e (c ∷ cs))))
        (same_byte e c.code (none_of (eqb c.code 10) (eqb c.code 13) (eqb c.code 257) apart).0)
        ∙ ap (run_step context c.code content (reading_with r)) (run_at-with context.options c cs apart)
        ∙ run_step-with c.code (codes_of (c ∷ cs)) r (run_at context.options (c ∷ cs))
    leaf_step-with c cs r (Some found) h =
        ap (λ tokens. Next (found.size - 1) (read_tokens tokens (reading_with r))) (all_items found.parts)
        ∙ ap (Next (found.size - 1)) (read_tokens-with (leaf_tokens found) r)

    leaf_here-with : (content : List InlineCode) → leaf_here context (content_with e content) ≡ if_found e (leaf_here context content)
    leaf_here-with content =
        let on = context.options.constructs in
        ap (λ all. or_else (leaf_at context all) (literal_at on (content_with e content))) (codes_of-with e content)
        ∙ ap (λ o. or_else o (literal_at on (content_with e content))) (leaf_at-with e context (codes_of content))
        ∙ ap (or_else (if_found e (leaf_at context (codes_of content)))) (literal_at-with e on content)
        ∙ or_else-with e (leaf_at context (codes_of content)) (literal_at on content)

    step-with : (r : Reading) (c : InlineCode) (cs : List InlineCode)
        → step context (reading_with r) (inline_code_with e c) (content_with e cs) ≡ step_with (step context r c cs)
    step-with r c cs =
        let content = codes_of (c ∷ cs) in
        let run = run_at context.options (content_with e (c ∷ cs)) in
        ap (λ all. leaf_step context (code_with e c.code) all (reading_with r) run (leaf_here context (content_with e (c ∷ cs)))) (codes_of-with e (c ∷ cs))
        ∙ ap (leaf_step context (code_with e c.code) (codes_with e content) (reading_with r) run) (leaf_here-with (c ∷ cs))
        ∙ leaf_step-with c cs r (leaf_here context (c ∷ cs)) refl

    -- ---- the whole

    and_then-with : (s : Step) (f g : ℕ → Reading → Reading) → ((k : ℕ) (r : Reading) → f k (reading_with r) ≡ reading_with (g k r))
        → and_then (step_with s) f ≡ reading_with (and_then s g)
    and_then-with (Next more r) f g h = h more r

    scan-with : (k : ℕ) (r : Reading) (cs : List InlineCode) → scan context k (reading_with r) (content_with e cs) ≡ reading_with (scan context k r cs)
    scan-with k r [] = refl
    scan-with zero r (c ∷ cs) =
        ap (λ s. and_then s (λ k next. scan context k next (content_with e cs))) (step-with r c cs)
        ∙ and_then-with (step context r c cs) (λ k next. scan context k next (content_with e cs)) (λ k next. scan context k next cs)
        (λ k next. scan-with k next cs)
    scan-with (suc k) r (c ∷ cs) = scan-with k r cs

    unformed_all : (now : Text) (labels : List OpenLabel)
        → fold (λ inner label. with_plain_start label inner) (text_with now) (map open_with labels)
        ≡ text_with (fold (λ inner label. with_plain_start label inner) now labels)
    unformed_all now [] = refl
    unformed_all now (label ∷ labels) =
        ap (λ t. fold (λ inner l. with_plain_start l inner) t (map open_with labels)) (unformed-with label now)
        ∙ unformed_all (with_plain_start label now) labels

    -- the inline structure of a content from a place on
    pub from-with : (content : List InlineCode) → inlines_from context (content_with e content) ≡ inlines_with e (inlines_from context content)
    from-with content =
        let empty = reading (text [] false) [] in
        let read = scan context 0 empty content in
        let linked = linked_literals context.options.constructs in
        ap (λ r. linked (with_spans (whole_text r).tokens)) (scan-with 0 empty content)
        ∙ ap (λ (t : Text). linked (with_spans t.tokens)) (unformed_all read.now read.open_labels)
        ∙ ap linked (emphasized-with e (whole_text read).tokens)
        ∙ linked-with e context.options.constructs (with_spans (whole_text read).tokens)

    pub inlines-with : (content : List InlineCode) → inlines context (content_with e content) ≡ inlines_with e (inlines context content)
    inlines-with content = ap (inlines_from context) (unindented-with content) ∙ from-with (without_indent content)

pub inlines_law : InlinesLaw
inlines_law e context content same same_call = inlines-with e context same same_call content
