-- The law of rows: the rows of the events of a text are those of the inline structure that the events spell.
use Rattle.std.proofs.Common.{◌≡◌, ℕ, ◌+◌, ◌==◌, Bool, true, false, ◌||◌, not, if◌then◌else◌, ◌⊎◌, inl, inr, List, [], ◌∷◌, ◌++◌}
use Rattle.std.proofs.Common.{Option, Some, None, refl, sym, ap, subst, ◌∙◌, append_assoc}
use Rattle.compile_rows.proofs.Prelude.{append-nil, AreNodes, AreTexts, Around, Cons, enter_rows, entered, EnterLinked, Event, events_of, exit_rows, exited}
use Rattle.compile_rows.proofs.Prelude.{HasEndings, HaveEndings, Image, inline_rows, InlineRow, Inlines, is_around, is_listed, IsNode, IsTextNode, Leave, less}
use Rattle.compile_rows.proofs.Prelude.{Link, LinkTexts, media_names, Name, Names, Nil, Nodes, nonzero, part_rows, Place, place, rows_by}
use Rattle.compile_rows.proofs.Prelude.{same_name, span_of, SpanKind, split, Target, target_by, text_of, text_part}
use Rattle.std.proofs.Math.Bool.{or-false}
use Rattle.engine_events.specs.declared.event.Kind.TheVariants.{Exit}
use Rattle.engine_events.specs.declared.event.Name.TheVariants as n
use Rattle.definition_inline.specs.Inline.{Span, Linked}
use Rattle.definition_inline.specs.Inline as inline
use Rattle.inline_rows.specs.InlineRows.{EnterSpan}
use Rattle.event_meaning.specs.Texts.{text_names, target_of, inlines_of, text_within}
use Rattle.event_grammar.specs.Spans.{span_names}
use Rattle.compile_rows.specs.Places.{links_in, links_after}
use Rattle.compile_rows.specs.declared.rows.Mode.TheVariants.{Text, Before, Behind}
use Rattle.compile_rows.proofs.InlineRows.{append_rows}
use Rattle.compile_rows.proofs.Walks.{enters, exits, skipped, behind}
use Rattle.compile_rows.proofs.AloneLaw.{alone_law}
use Rattle.compile_strings.proofs.TargetLaw.{target_law}

-- ---- names

-- the names of what is around a text, and the others
pub data IsAround : Name → Type 0 where
  TheSpan : (kind : SpanKind) → IsAround (span_names kind).event
  TheLink : IsAround n.Link
  TheImage : IsAround n.Image

or_true : (b : Bool) → (b || true) ≡ true
or_true true = refl
or_true false = refl

-- a name that has a span is that of the span's event; one that has none isn't around a text
abbrev IsNameOf : Option SpanKind → Name → Type 0
IsNameOf (Some kind) name = name ≡ (span_names kind).event
IsNameOf None name = is_around name ≡ false

by_span : (span : Option SpanKind) (name : Name) → IsNameOf span name → IsAround name ⊎ (is_around name ≡ false)
by_span (Some kind) name is = inl (subst IsAround (sym is) (TheSpan kind))
by_span None name is = inr is

around_or : (name : Name) → IsAround name ⊎ (is_around name ≡ false)
around_or n.Link = inl TheLink
around_or n.Image = inl TheImage
around_or name = by_span (span_of name) name refl

module _ (names : Names) (bytes : List ℕ) (leads : Target → LinkTexts) (in_link : Bool) where
  abbrev walk : Place → List Event → List InlineRow
  walk = rows_by names bytes leads in_link

  abbrev rows : Inlines → List InlineRow
  rows = inline_rows leads

  abbrev linked : ℕ → Bool
  linked k = in_link || not (k == 0)

  -- what is read of the events in what is around a text
  abbrev Within : Nodes → Type 0
  Within kids =
      (k : ℕ) (exit : Event) (es : List Event) → exit.kind ≡ Exit
      → walk (place Before 0 k) (events_of kids ++ exit ∷ es) ≡ rows (text_within names bytes (linked k) kids) ++ walk (place Behind 0 k) (exit ∷ es)

  enclose : (w rest : List InlineRow) → w ++ Leave ∷ rest ≡ ((w ++ Leave ∷ []) ++ []) ++ rest
  enclose w rest = sym (ap (λ (z : List InlineRow). z ++ rest) (append-nil (w ++ Leave ∷ [])) ∙ append_assoc w (Leave ∷ []) rest)

  -- a row for the start, those of the text, and one for the end
  enclosed : (start : InlineRow) (k inside : ℕ) (b : Bool) (kids : Nodes) (exit : Event) (rest : List Event) → linked inside ≡ b → Within kids
      → exit.kind ≡ Exit → walk (place Behind 0 inside) (exit ∷ rest) ≡ Leave ∷ walk (place Text 0 k) rest
      → start ∷ walk (place Before 0 inside) (events_of kids ++ exit ∷ rest)
      ≡ start ∷ (((rows (text_within names bytes b kids) ++ Leave ∷ []) ++ []) ++ walk (place Text 0 k) rest)
  enclosed start k inside b kids exit rest l ih x after =
      ap (λ (z : List InlineRow). start ∷ z)
      (ih inside exit rest x
      ∙ ap (λ (z : List InlineRow). rows (text_within names bytes (linked inside) kids) ++ z) after
      ∙ ap (λ (z : Bool). rows (text_within names bytes z kids) ++ Leave ∷ walk (place Text 0 k) rest) l
      ∙ enclose (rows (text_within names bytes b kids)) (walk (place Text 0 k) rest))

  after_as : (name : Name) (k : ℕ) (exit : Event) (rest : List Event) → exit.kind ≡ Exit → exit.name ≡ name
      → walk (place Behind 0 k) (exit ∷ rest)
      ≡ exit_rows (place Behind 0 k) name ++ walk (exited (place Behind 0 k) name) rest
  after_as name k exit rest x e =
      exits names bytes leads in_link (place Behind 0 k) exit rest x
      ∙ ap (λ (z : Name). exit_rows (place Behind 0 k) z ++ walk (exited (place Behind 0 k) z) rest) e

  in_span : (kind : SpanKind) (k : ℕ) (kids : Nodes) (exit : Event) (rest : List Event) → Within kids → exit.kind ≡ Exit
      → walk (place Behind 0 k) (exit ∷ rest) ≡ Leave ∷ walk (place Text 0 k) rest
      → EnterSpan kind ∷ walk (place Before 0 k) (events_of kids ++ exit ∷ rest)
      ≡ EnterSpan kind ∷ (((rows (text_within names bytes (linked k || false) kids) ++ Leave ∷ []) ++ []) ++ walk (place Text 0 k) rest)
  in_span kind k kids exit rest = enclosed (EnterSpan kind) k k (linked k || false) kids exit rest (sym (or-false (linked k)))

  around : (name : Name) → IsAround name → (k : ℕ) (text : List ℕ) (enter : Event) (kids : Nodes) (exit : Event) (rest : List Event) → Within kids
      → exit.kind ≡ Exit → exit.name ≡ name
      → (is_listed media_names name ≡ true → target_by names bytes (events_of kids ++ exit ∷ rest) ≡ target_of names bytes kids)
      → enter_rows names bytes leads in_link (place Text 0 k) name (enter ∷ (events_of kids ++ exit ∷ rest))
      ++ walk (entered (place Text 0 k) name) (events_of kids ++ exit ∷ rest)
      ≡ rows (text_part names bytes (linked k) name text kids (text_within names bytes (linked k || same_name name n.Link) kids)) ++ walk (place Text 0 k) rest
  around name (TheSpan inline.Emphasis) k text enter kids exit rest ih x e t =
      in_span inline.Emphasis k kids exit rest ih x (after_as (span_names inline.Emphasis).event k exit rest x e)
  around name (TheSpan kind) k text enter kids exit rest ih x e t =
      in_span kind k kids exit rest ih x (after_as (span_names kind).event k exit rest x e)
  around name TheLink k text enter kids exit rest ih x e t =
      enclosed (EnterLinked Link (leads (target_by names bytes (events_of kids ++ exit ∷ rest)))) k (k + 1) (linked k || true) kids exit rest
      (ap (λ (z : Bool). in_link || not z) (nonzero k) ∙ or_true in_link ∙ sym (or_true (linked k))) ih x
      (after_as n.Link (k + 1) exit rest x e ∙ ap (λ (z : ℕ). Leave ∷ walk (place Text 0 z) rest) (less k))
      ∙ ap (λ (z : Target). EnterLinked Link (leads z) ∷ (((rows (text_within names bytes (linked k || true) kids) ++ Leave ∷ []) ++ [])
      ++ walk (place Text 0 k) rest)) (t refl)
  around name TheImage k text enter kids exit rest ih x e t =
      enclosed (EnterLinked Image (leads (target_by names bytes (events_of kids ++ exit ∷ rest)))) k k (linked k || false) kids exit rest
      (sym (or-false (linked k))) ih x (after_as n.Image k exit rest x e)
      ∙ ap (λ (z : Target). EnterLinked Image (leads z) ∷ (((rows (text_within names bytes (linked k || false) kids) ++ Leave ∷ []) ++ [])
      ++ walk (place Text 0 k) rest)) (t refl)

  -- an event whose text has no rows of its own
  alone : (name : Name) (k : ℕ) (enter : Event) (kids : Nodes) (exit : Event) (rest : List Event) (own : Inlines) → is_around name ≡ false
      → AreNodes kids → exit.kind ≡ Exit
      → part_rows names bytes leads in_link (span_of name) name k (enter ∷ (events_of kids ++ exit ∷ rest)) ≡ rows own
      → enter_rows names bytes leads in_link (place Text 0 k) name (enter ∷ (events_of kids ++ exit ∷ rest))
      ++ walk (entered (place Text 0 k) name) (events_of kids ++ exit ∷ rest)
      ≡ rows own ++ walk (place Text 0 k) rest
  alone name k enter kids exit rest own a nodes x h =
      let inner = events_of kids ++ exit ∷ rest in
      ap (λ (z : List InlineRow). z ++ walk (if is_around name then place Before 0 (links_in name k) else place Text 1 k) inner) h
      ∙ ap (λ (z : Bool). rows own ++ walk (if z then place Before 0 (links_in name k) else place Text 1 k) inner) a
      ∙ ap (λ (z : List InlineRow). rows own ++ z) (skipped names bytes leads in_link Text k kids nodes exit rest x)

  each : (name : Name) → IsAround name ⊎ (is_around name ≡ false) → (k : ℕ) (enter : Event) (kids : Nodes) (exit : Event) (rest : List Event)
      → enter.name ≡ name → IsNode (Around enter kids exit) → Within kids → IsTextNode bytes (Around enter kids exit)
      → HasEndings bytes (Around enter kids exit)
      → enter_rows names bytes leads in_link (place Text 0 k) name (enter ∷ (events_of kids ++ exit ∷ rest))
      ++ walk (entered (place Text 0 k) name) (events_of kids ++ exit ∷ rest)
      ≡ rows (text_part names bytes (linked k) name (text_of bytes (Around enter kids exit)) kids
      (text_within names bytes (linked k || same_name name n.Link) kids))
      ++ walk (place Text 0 k) rest
  each name (inl a) k enter kids exit rest e node ih t h =
      around name a k (text_of bytes (Around enter kids exit)) enter kids exit rest ih node.1 (node.2 ∙ e)
      (target_law names bytes name kids node.3 t.1 exit rest node.1 (node.2 ∙ e))
  each name (inr a) k enter kids exit rest e node ih t h =
      let is = text_within names bytes (linked k || same_name name n.Link) kids in
      alone name k enter kids exit rest (text_part names bytes (linked k) name (text_of bytes (Around enter kids exit)) kids is) a node.3 node.1
      (alone_law names bytes leads in_link k enter kids exit rest is node t h name a e)

  -- nothing comes of the events before the text of a span, a link or an image, nor of those behind it
  end_alike : (k : ℕ) (exit : Event) (es : List Event) → exit.kind ≡ Exit → walk (place Before 0 k) (exit ∷ es) ≡ walk (place Behind 0 k) (exit ∷ es)
  end_alike k exit es x =
      exits names bytes leads in_link (place Before 0 k) exit es x ∙ sym (exits names bytes leads in_link (place Behind 0 k) exit es x)

  mutual
    texts_flat : (ns : Nodes) → AreNodes ns → AreTexts bytes ns → HaveEndings bytes ns → (k : ℕ) (es : List Event)
        → walk (place Text 0 k) (events_of ns ++ es) ≡ rows (inlines_of names bytes (linked k) ns) ++ walk (place Text 0 k) es
    texts_flat Nil m t h k es = refl
    texts_flat (Cons (Around enter kids exit) ns) m t h k es =
        let rest = events_of ns ++ es in
        let inner = events_of kids ++ exit ∷ rest in
        let own = text_part names bytes (linked k) enter.name (text_of bytes (Around enter kids exit)) kids
        (text_within names bytes (linked k || same_name enter.name n.Link) kids) in
        let others = inlines_of names bytes (linked k) ns in
        ap (λ (l : List Event). walk (place Text 0 k) (enter ∷ l)) (split kids ns exit es)
        ∙ enters names bytes leads in_link (place Text 0 k) enter inner m.0.0
        ∙ each enter.name (around_or enter.name) k enter kids exit rest refl m.0 (within_flat kids m.0.3 t.0.1 h.0.1) t.0 h.0
        ∙ ap (λ (z : List InlineRow). rows own ++ z) (texts_flat ns m.1 t.1 h.1 k es)
        ∙ sym (append_assoc (rows own) (rows others) (walk (place Text 0 k) es))
        ∙ ap (λ (z : List InlineRow). z ++ walk (place Text 0 k) es) (sym (append_rows leads own others))

    within_flat : (ns : Nodes) → AreNodes ns → AreTexts bytes ns → HaveEndings bytes ns → Within ns
    within_flat Nil m t h k exit es x = end_alike k exit es x
    within_flat (Cons (Around enter kids y) ns) m t h k exit es x =
        let rest = events_of ns ++ exit ∷ es in
        let inner = events_of kids ++ y ∷ rest in
        ap (λ (l : List Event). walk (place Before 0 k) (enter ∷ l)) (split kids ns y (exit ∷ es))
        ∙ enters names bytes leads in_link (place Before 0 k) enter inner m.0.0
        ∙ by_name (is_listed text_names enter.name) (same_name enter.name n.Label) refl (behind names bytes leads in_link k ns m.1 (exit ∷ es))
        (texts_flat kids m.0.3 t.0.1 h.0.1 k) (within_flat kids m.0.3 t.0.1 h.0.1) (within_flat ns m.1 t.1 h.1)
      where
        by_name : (a b : Bool) → same_name enter.name n.Label ≡ b
            → walk (place Behind 0 k) (events_of ns ++ exit ∷ es) ≡ walk (place Behind 0 k) (exit ∷ es)
            → ((es : List Event) → walk (place Text 0 k) (events_of kids ++ es) ≡ rows (inlines_of names bytes (linked k) kids) ++ walk (place Text 0 k) es)
            → Within kids → Within ns
            → walk (if a then place Text 0 k else (if b then place Before 0 k else place Before 1 k)) (events_of kids ++ y ∷ (events_of ns ++ exit ∷ es))
            ≡ rows (if a then inlines_of names bytes (linked k) kids
            else (if b then text_within names bytes (linked k) kids else text_within names bytes (linked k) ns)) ++ walk (place Behind 0 k) (exit ∷ es)
        by_name true b e last texts inside others =
            texts (y ∷ (events_of ns ++ exit ∷ es))
            ∙ ap (λ (z : List InlineRow). rows (inlines_of names bytes (linked k) kids) ++ z)
            (exits names bytes leads in_link (place Text 0 k) y (events_of ns ++ exit ∷ es) m.0.1 ∙ last)
        by_name false true e last texts inside others =
            inside k y (events_of ns ++ exit ∷ es) m.0.1
            ∙ ap (λ (z : List InlineRow). rows (text_within names bytes (linked k) kids) ++ z)
            (exits names bytes leads in_link (place Behind 0 k) y (events_of ns ++ exit ∷ es) m.0.1
            ∙ ap (λ (z : Bool). (if z then [] else Leave ∷ []) ++ walk (if z then place Behind 0 k else place Text 0 (links_after y.name k))
            (events_of ns ++ exit ∷ es))
            (ap (λ (z : Name). same_name z n.Label) m.0.2 ∙ e)
            ∙ last)
        by_name false false e last texts inside others =
            skipped names bytes leads in_link Before k kids m.0.3 y (events_of ns ++ exit ∷ es) m.0.1 ∙ others k exit es x

  -- The law of rows.
  pub rows_law : (ns : Nodes) → AreNodes ns → AreTexts bytes ns → HaveEndings bytes ns
      → walk (place Text 0 0) (events_of ns) ≡ rows (inlines_of names bytes in_link ns)
  rows_law ns m t h =
      ap (walk (place Text 0 0)) (sym (append-nil (events_of ns)))
      ∙ texts_flat ns m t h 0 []
      ∙ append-nil (rows (inlines_of names bytes (in_link || false) ns))
      ∙ ap (λ (z : Bool). rows (inlines_of names bytes z ns)) (or-false in_link)
