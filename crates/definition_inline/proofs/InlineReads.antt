-- If each part that is read of a content is good, all its inline structure is.
use Rattle.std.proofs.Common.{◌≡◌, ℕ, false, List, [], ◌∷◌, ◌++◌, Option, None, Some, drop}
use Rattle.definition_text.specs.Content.{text_before}
use Rattle.definition_text.specs.InlineCode.{InlineCode, codes_of}
use Rattle.definition_inline.specs.Inline.{Target, InlineLeaf, Data, SpanKind, LinkedKind, Inline, Leaf, Span, Linked, Call, Inlines, Nil, Cons, Found, or_else}
use Rattle.definition_inline.specs.LabelEnd.{LinkOrCall, Leads, Calls}
use Rattle.definition_inline.specs.Attention.{Run, run_at}
use Rattle.definition_inline.specs.Spans.{Token, Item, Delimiters, span_of, with_spans}
use Rattle.definition_inline.specs.Scan.{InlineContext, leaf_here, leaf_tokens, LabelStart, LinkStart, ImageStart, label_start_at, start_tokens, started_kind}
use Rattle.definition_inline.specs.Scan.{formed_part, formed_at, Text, text, reading, scan, whole_text, spans_from}
use Rattle.definition_inline.proofs.SpansHold.{Siblings, RunGood, TokenGood, spans_hold}
use Rattle.definition_inline.proofs.ScanHolds.{where_gives, where_always, Keeps, text_holds}
use Rattle.definition_text.proofs.Each.{Each, each-append, each_mapped, WhereSome}

module _ (Good : Inline → Type 0) where
  abbrev pub LeafGood : Found → Type 0
  LeafGood l = Each (λ (part : InlineLeaf). Good (Leaf part)) l.parts

  -- what begins here, if anything does
  abbrev pub BeginsGood : Option Found → Type 0
  BeginsGood o = WhereSome LeafGood o

  pub either_begins : (a b : Option Found) → BeginsGood a → BeginsGood b → BeginsGood (or_else a b)
  either_begins None b p q = q
  either_begins (Some l) b p q = p

module _ (Good : Inline → Type 0) (AllGood : Inlines → Type 0) where
  -- siblings, and the spans that hold them
  pub record Nests : Type 0 where
    pub none : AllGood Nil
    pub more : (i : Inline) (is : Inlines) → Good i → AllGood is → AllGood (Cons i is)
    pub first : (i : Inline) (is : Inlines) → AllGood (Cons i is) → Good i
    pub rest : (i : Inline) (is : Inlines) → AllGood (Cons i is) → AllGood is
    pub span : (kind : SpanKind) (kids : Inlines) → AllGood kids → Good (Span kind kids)

-- what a `]` forms: Leading holds of where it leads
module _ (Leading : Target → Type 0) where
  abbrev pub FormedIs : LinkOrCall → Type 0
  FormedIs (Leads end) = Leading end.target
  FormedIs (Calls label) = Unit {0}

  abbrev pub FormedGood : Option LinkOrCall → Type 0
  FormedGood o = WhereSome FormedIs o

-- Codes holds of the codes that are read
module _ (Good : Inline → Type 0) (AllGood : Inlines → Type 0) (Leading : Target → Type 0) (Codes : List ℕ → Type 0) where
  abbrev FormsGood : Option LinkOrCall → Type 0
  FormsGood o = FormedGood Leading o

  -- what is good of the parts that are read of such codes
  pub record Reads (context : InlineContext) : Type 0 where
    pub nests : Nests Good AllGood
    pub linked : (kind : LinkedKind) (target : Target) (kids : Inlines) → Leading target → AllGood kids → Good (Linked kind target kids)
    pub call : (label : List ℕ) → Good (Call label)
    -- `]`, `[` and `!` that form nothing
    pub close : Good (Leaf (Data 93))
    pub open_link : Good (Leaf (Data 91))
    pub open_image : Good (Leaf (Data 33))
    pub tail : (c : ℕ) (cs : List ℕ) → Codes (c ∷ cs) → Codes cs
    pub begun : (content : List InlineCode) → Codes (codes_of content) → BeginsGood Good (leaf_here context content)
    pub byte : (c : InlineCode) (cs : List InlineCode) → Codes (codes_of (c ∷ cs)) → leaf_here context (c ∷ cs) ≡ None → Good (Leaf (Data c.code))
    pub marker : (c : InlineCode) (cs : List InlineCode) → Codes (codes_of (c ∷ cs))
        → WhereSome (λ (r : Run). Good (Leaf (Data r.marker))) (run_at context.options (c ∷ cs))
    pub forms : (start : LabelStart) (between content : List ℕ) → Codes content → FormsGood (formed_at context start between (drop 1 content))

  module _ (context : InlineContext) (reads : Reads context) where
    abbrev TokenIs : Token → Type 0
    TokenIs t = TokenGood Good AllGood t

    abbrev TextIs : Text → Type 0
    TextIs t = Each TokenIs t.tokens

    abbrev RunIs : Run → Type 0
    RunIs run = RunGood Good AllGood run

    nest_siblings : Siblings Good AllGood
    nest_siblings = let n = reads.nests in record { none = n.none; more = n.more; first = n.first; rest = n.rest }

    more_good : (t : Text) (more : List Token) → TextIs t → Each TokenIs more → Each TokenIs (t.tokens ++ more)
    more_good t more h p = each-append TokenIs t.tokens more h p

    start_good : (start : LabelStart) → Each TokenIs (start_tokens start)
    start_good LinkStart = (reads.open_link, tt)
    start_good ImageStart = (reads.open_image, (reads.open_link, tt))

    part_good : (start : LabelStart) (found : LinkOrCall) (tokens : List Token) → FormedIs Leading found → Each TokenIs tokens
        → Good (formed_part start found tokens)
    part_good start (Leads end) tokens h p =
        reads.linked (started_kind start) end.target (with_spans tokens) h (spans_hold Good AllGood nest_siblings tokens p)
    part_good start (Calls label) tokens h p = reads.call label

    run_read : (content : List InlineCode) → Codes (codes_of content) → WhereSome RunIs (run_at context.options content)
    run_read [] h = tt
    run_read (c ∷ cs) h =
        where_gives (λ (r : Run). Good (Leaf (Data r.marker))) RunIs (run_at context.options (c ∷ cs))
        (λ r q. (q, λ pair kids. reads.nests.span (span_of r.marker pair) kids)) (reads.marker c cs h)

    abbrev AnyStart : LabelStart → Type 0
    AnyStart start = Unit {0}

    abbrev CodesAre : List InlineCode → Type 0
    CodesAre content = Codes (codes_of content)

    keeps : Keeps context CodesAre AnyStart TextIs
    keeps =
        record {
          tail = λ c cs h. reads.tail c.code (codes_of cs) h;
          starts = λ content h. where_always AnyStart (label_start_at context.options.constructs (codes_of content)) (λ start. tt);
          empty = tt;
          leaf = λ t content h p.
              where_gives (LeafGood Good) _ (leaf_here context content)
              (λ found q. more_good t (leaf_tokens found) p
              (each_mapped (λ (part : InlineLeaf). Good (Leaf part)) TokenIs (λ (part : InlineLeaf). Item (Leaf part)) found.parts (λ part g. g) q))
              (reads.begun content h);
          run = λ t content h p.
              where_gives RunIs _ (run_at context.options content) (λ run q. more_good t (Delimiters run ∷ []) p (q, tt)) (run_read content h);
          byte = λ t c cs h none p. more_good t (Item (Leaf (Data c.code)) ∷ []) p (reads.byte c cs h none, tt);
          close = λ t p. more_good t (Item (Leaf (Data 93)) ∷ []) p (reads.close, tt);
          unformed = λ label inner h p.
              let start = start_tokens label.start in
              more_good label.outer (start ++ inner.tokens) h (each-append TokenIs start inner.tokens (start_good label.start) p);
          formed = λ label inner content h on may s q p.
              let between = text_before label.from (codes_of content) in
              where_gives (FormedIs Leading) _ (formed_at context label.start between (drop 1 (codes_of content)))
              (λ found f. more_good label.outer (Item (formed_part label.start found inner.tokens) ∷ []) q (part_good label.start found inner.tokens f p, tt))
              (reads.forms label.start between (codes_of content) h);
        }

    -- from a place of a content on, before its literals are found
    pub spans_good : (content : List InlineCode) → Codes (codes_of content) → AllGood (spans_from context content)
    spans_good content h =
        spans_hold Good AllGood nest_siblings (whole_text (scan context 0 (reading (text [] false) []) content)).tokens
        (text_holds context CodesAre AnyStart TextIs keeps content h)
