-- What holds of the texts that a scan has read, if each step keeps it.
use Rattle.std.proofs.Common.{◌≡◌, ℕ, suc, zero, ◌&&◌, ◌==◌, true, false, List, [], ◌∷◌, Option, None, Some, drop, fold, refl}
use Rattle.std.proofs.lemmas.Bool.{cond_both, and_parts}
use Rattle.definition_text.specs.Content.{text_before}
use Rattle.definition_text.specs.InlineCode.{InlineCode, codes_of}
use Rattle.definition_inline.specs.Inline.{Leaf, Data, Found}
use Rattle.definition_inline.specs.LabelEnd.{LinkOrCall}
use Rattle.definition_inline.specs.Attention.{Run, run_at}
use Rattle.definition_inline.specs.Spans.{Item, Delimiters}
use Rattle.definition_inline.specs.Scan.{InlineContext, leaf_here, leaf_tokens, LabelStart, label_start_at, may_form, formed_at, Text, text, OpenLabel, Reading}
use Rattle.definition_inline.specs.Scan.{reading, with_tokens, with_plain_start, with_link_or_call, Step, Next, data_step, ended_step, ended_by, label_end_step}
use Rattle.definition_inline.specs.Scan.{last_step, label_step, run_step, leaf_step, step, and_then, scan, whole_text}
use Rattle.definition_text.proofs.Each.{Each, WhereSome}

-- what a value gives, where there is one
pub where_gives : {A : Type 0} (P Q : A → Type 0) (o : Option A) → ((x : A) → P x → Q x) → WhereSome P o → WhereSome Q o
where_gives P Q None gives h = tt
where_gives P Q (Some x) gives h = gives x h

-- what holds of every value
pub where_always : {A : Type 0} (P : A → Type 0) (o : Option A) → ((x : A) → P x) → WhereSome P o
where_always P None h = tt
where_always P (Some x) h = h x

-- Codes holds of the codes that are left, Starts of label starts among them, and Holds of texts
module _ (context : InlineContext) (Codes : List InlineCode → Type 0) (Starts : LabelStart → Type 0) (Holds : Text → Type 0) where
  abbrev pub Formed : OpenLabel → Text → Option LinkOrCall → Type 0
  Formed label inner o = WhereSome (λ (found : LinkOrCall). Holds (with_link_or_call label found inner)) o

  -- what each step keeps
  pub record Keeps : Type 0 where
    pub tail : (c : InlineCode) (cs : List InlineCode) → Codes (c ∷ cs) → Codes cs
    pub starts : (content : List InlineCode) → Codes content → WhereSome Starts (label_start_at context.options.constructs (codes_of content))
    pub empty : Holds (text [] false)
    pub leaf : (t : Text) (content : List InlineCode) → Codes content → Holds t
        → WhereSome (λ (found : Found). Holds (with_tokens t (leaf_tokens found))) (leaf_here context content)
    pub run : (t : Text) (content : List InlineCode) → Codes content → Holds t
        → WhereSome (λ (run : Run). Holds (with_tokens t (Delimiters run ∷ []))) (run_at context.options content)
    pub byte : (t : Text) (c : InlineCode) (cs : List InlineCode) → Codes (c ∷ cs) → leaf_here context (c ∷ cs) ≡ None → Holds t
        → Holds (with_tokens t (Item (Leaf (Data c.code)) ∷ []))
    -- a `]` that forms nothing
    pub close : (t : Text) → Holds t → Holds (with_tokens t (Item (Leaf (Data 93)) ∷ []))
    pub unformed : (label : OpenLabel) (inner : Text) → Holds label.outer → Holds inner → Holds (with_plain_start label inner)
    pub formed : (label : OpenLabel) (inner : Text) (content : List InlineCode) → Codes content → context.options.constructs.label_end ≡ true
        → may_form label.start inner.holds_link ≡ true → Starts label.start → Holds label.outer → Holds inner
        → Formed label inner (formed_at context label.start (text_before label.from (codes_of content)) (drop 1 (codes_of content)))

  abbrev LabelHolds : OpenLabel → Type 0
  LabelHolds label = Starts label.start × Holds label.outer

  abbrev ReadingHolds : Reading → Type 0
  ReadingHolds r = Holds r.now × Each LabelHolds r.open_labels

  abbrev StepHolds : Step → Type 0
  StepHolds (Next more r) = ReadingHolds r

  then_holds : (s : Step) (rest : ℕ → Reading → Reading) → StepHolds s → ((k : ℕ) (r : Reading) → ReadingHolds r → ReadingHolds (rest k r))
      → ReadingHolds (and_then s rest)
  then_holds (Next more r) rest p h = h more r p

  module _ (keeps : Keeps) where
    ended_holds : (label : OpenLabel) (others : List OpenLabel) (inner : Text) (found : Option LinkOrCall) → Holds label.outer → Each LabelHolds others
        → Holds inner → Formed label inner found → StepHolds (ended_step label others inner found)
    ended_holds label others inner None h hs p q = (keeps.close (with_plain_start label inner) (keeps.unformed label inner h p), hs)
    ended_holds label others inner (Some found) h hs p q = (q, hs)

    -- a place of the content
    module _ (c : InlineCode) (cs : List InlineCode) (codes : Codes (c ∷ cs)) where
      formed_holds : (label : OpenLabel) (inner : Text) → context.options.constructs.label_end ≡ true → LabelHolds label → Holds inner
          → Formed label inner (ended_by context (codes_of (c ∷ cs)) label inner)
      formed_holds label inner on h p =
          let between = text_before label.from (codes_of (c ∷ cs)) in
          cond_both (may_form label.start inner.holds_link) (formed_at context label.start between (drop 1 (codes_of (c ∷ cs)))) None (Formed label inner)
          (λ e. keeps.formed label inner (c ∷ cs) codes on e h.0 h.1 p) (λ _. tt)

      label_end_holds : (inner : Text) (open_labels : List OpenLabel) → context.options.constructs.label_end ≡ true → Holds inner
          → Each LabelHolds open_labels → StepHolds (label_end_step context (codes_of (c ∷ cs)) inner open_labels)
      label_end_holds inner [] on p hs = (keeps.close inner p, tt)
      label_end_holds inner (label ∷ others) on p hs =
          ended_holds label others inner (ended_by context (codes_of (c ∷ cs)) label inner) hs.0.1 hs.1 p (formed_holds label inner on hs.0 p)

      last_holds : (r : Reading) → leaf_here context (c ∷ cs) ≡ None → ReadingHolds r → StepHolds (last_step context c.code (codes_of (c ∷ cs)) r)
      last_holds r none p =
          let on = context.options.constructs.label_end in
          cond_both (on && (c.code == 93)) (label_end_step context (codes_of (c ∷ cs)) r.now r.open_labels) (data_step c.code r) StepHolds
          (λ e. label_end_holds r.now r.open_labels (and_parts on (c.code == 93) e).0 p.0 p.1) (λ _. (keeps.byte r.now c cs codes none p.0, p.1))

      label_holds : (r : Reading) (start : Option LabelStart) → leaf_here context (c ∷ cs) ≡ None → ReadingHolds r → WhereSome Starts start
          → StepHolds (label_step context c.code (codes_of (c ∷ cs)) r start)
      label_holds r None none p q = last_holds r none p
      label_holds r (Some start) none p q = (keeps.empty, ((q, p.0), p.1))

      run_holds : (r : Reading) (found : Option Run) → leaf_here context (c ∷ cs) ≡ None → ReadingHolds r
          → WhereSome (λ (run : Run). Holds (with_tokens r.now (Delimiters run ∷ []))) found → StepHolds (run_step context c.code (codes_of (c ∷ cs)) r found)
      run_holds r None none p q =
          label_holds r (label_start_at context.options.constructs (codes_of (c ∷ cs))) none p (keeps.starts (c ∷ cs) codes)
      run_holds r (Some found) none p q = (q, p.1)

      leaf_holds : (r : Reading) (found : Option Found) → (found ≡ None → leaf_here context (c ∷ cs) ≡ None) → ReadingHolds r
          → WhereSome (λ (found : Found). Holds (with_tokens r.now (leaf_tokens found))) found
          → StepHolds (leaf_step context c.code (codes_of (c ∷ cs)) r (run_at context.options (c ∷ cs)) found)
      leaf_holds r None none p q = run_holds r (run_at context.options (c ∷ cs)) (none refl) p (keeps.run r.now (c ∷ cs) codes p.0)
      leaf_holds r (Some found) none p q = (q, p.1)

      step_holds : (r : Reading) → ReadingHolds r → StepHolds (step context r c cs)
      step_holds r p = leaf_holds r (leaf_here context (c ∷ cs)) (λ e. e) p (keeps.leaf r.now (c ∷ cs) codes p.0)

    scan_holds : (k : ℕ) (r : Reading) (content : List InlineCode) → Codes content → ReadingHolds r → ReadingHolds (scan context k r content)
    scan_holds k r [] h p = p
    scan_holds zero r (c ∷ cs) h p =
        then_holds (step context r c cs) (λ k next. scan context k next cs) (step_holds c cs h r p)
        (λ k next q. scan_holds k next cs (keeps.tail c cs h) q)
    scan_holds (suc k) r (c ∷ cs) h p = scan_holds k r cs (keeps.tail c cs h) p

    whole_holds : (inner : Text) (open_labels : List OpenLabel) → Holds inner → Each LabelHolds open_labels
        → Holds (fold (λ inner label. with_plain_start label inner) inner open_labels)
    whole_holds inner [] p h = p
    whole_holds inner (label ∷ others) p h = whole_holds (with_plain_start label inner) others (keeps.unformed label inner h.0.1 p) h.1

    -- the whole text of a content, from a place on
    pub text_holds : (content : List InlineCode) → Codes content → Holds (whole_text (scan context 0 (reading (text [] false) []) content))
    text_holds content h =
        let r = scan context 0 (reading (text [] false) []) content in
        let p : ReadingHolds r = scan_holds 0 (reading (text [] false) []) content h (keeps.empty, tt) in whole_holds r.now r.open_labels p.0 p.1
