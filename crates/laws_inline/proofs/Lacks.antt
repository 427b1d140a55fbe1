-- What lacks a part that passes a test lacks it with its spans and its literals, where no leaf and no span passes.
use Rattle.std.proofs.Common.{◌≡◌, ℕ, Bool, false, ◌||◌, List, [], ◌∷◌, ◌++◌, refl}
use Rattle.std.proofs.lemmas.Bool.{or_from, or_parts}
use Rattle.markdown_options.specs.declared.configuration.Constructs.{Constructs}
use Rattle.definition_inline.specs.Inline.{Target, InlineLeaf, Data, Literal, SpanKind, LinkedKind, Inline, Leaf, Span, Linked, Inlines, Found}
use Rattle.definition_inline.specs.Attention.{Run}
use Rattle.definition_inline.specs.Spans.{Token, Item, Delimiters, with_spans, span_of}
use Rattle.definition_inline.specs.Scan.{leaf_tokens, LabelStart, start_bytes, start_tokens}
use Rattle.definition_inline.specs.GfmAutolinkLiteral.{without_literals, with_literals, linked_literals}
use Rattle.definition_inline.proofs.LiteralsKept.{Carries, literals_good, linked_good}
use Rattle.definition_inline.proofs.SpansHold.{Siblings, TokenGood, spans_hold}
use Rattle.laws_inline.specs.Occurs.{part_has, has}
use Rattle.laws_inline.proofs.Each.{Each, each-append, each_map}

module _ (test : Inline → Bool) where
  -- a part lacks what passes the test, at any depth
  abbrev pub PartLacks : Inline → Type 0
  PartLacks i = part_has test i ≡ false

  abbrev pub AllLack : Inlines → Type 0
  AllLack is = has test is ≡ false

  pub two_lack : (i : Inline) (is : Inlines) → PartLacks i → AllLack is → (part_has test i || has test is) ≡ false
  two_lack i is p q = or_from (part_has test i) (has test is) p q

  abbrev pub Lacks : Token → Type 0
  Lacks t = TokenGood PartLacks AllLack t

  siblings : Siblings PartLacks AllLack
  siblings =
      record {
        none = refl;
        more = λ i is p q. two_lack i is p q;
        first = λ i is h. (or_parts (part_has test i) (has test is) h).0;
        rest = λ i is h. (or_parts (part_has test i) (has test is) h).1;
      }

  pub spans_lack : (tokens : List Token) → Each Lacks tokens → AllLack (with_spans tokens)
  spans_lack tokens h = spans_hold PartLacks AllLack siblings tokens h

  -- no leaf and no span passes
  pub record HeldAlone : Type 0 where
    pub leaf : (part : InlineLeaf) → test (Leaf part) ≡ false
    pub span : (kind : SpanKind) (kids : Inlines) → test (Span kind kids) ≡ false

  module _ (alone : HeldAlone) where
    pub leaf_lacks : (found : Found) → Each Lacks (leaf_tokens found)
    leaf_lacks found = each_map Lacks (λ (part : InlineLeaf). Item (Leaf part)) found.parts (λ part. alone.leaf part)

    pub run_lacks : (run : Run) → Lacks (Delimiters run)
    run_lacks run =
        (alone.leaf (Data run.marker), λ p kids h. let kind = span_of run.marker p in or_from (test (Span kind kids)) (has test kids) (alone.span kind kids) h)

    pub plain_start_lacks : (start : LabelStart) (outer inner : List Token) → Each Lacks outer → Each Lacks inner
        → Each Lacks (outer ++ (start_tokens start ++ inner))
    plain_start_lacks start outer inner h p =
        each-append Lacks outer (start_tokens start ++ inner) h
        (each-append Lacks (start_tokens start) inner (each_map Lacks (λ b. Item (Leaf (Data b))) (start_bytes start) (λ b. alone.leaf (Data b))) p)

    -- ---- literals

    module _ (Keeps : Inlines → Inlines → Type 0) where
      -- a link or an image that doesn't pass doesn't with others, either
      abbrev pub Fails : Type 0
      Fails =
          (kind : LinkedKind) (target : Target) (kids others : Inlines) → test (Linked kind target kids) ≡ false → Keeps kids others
          → test (Linked kind target others) ≡ false

      bytes_lack : (text : List ℕ) → Each (λ b. PartLacks (Leaf (Data b))) text
      bytes_lack [] = tt
      bytes_lack (b ∷ bs) = (alone.leaf (Data b), bytes_lack bs)

      carried : Fails → ((kids : Inlines) → Keeps kids (without_literals kids)) → ((kids : Inlines) → Keeps kids (with_literals [] kids))
          → Carries PartLacks AllLack Keeps
      carried fails without with =
          record {
            none = refl;
            more = siblings.more;
            first = siblings.first;
            rest = siblings.rest;
            literal = λ kind text h. alone.leaf (Literal kind text);
            bytes = λ kind text h. bytes_lack text;
            span = λ kind.
                record {
                  opens = λ kids h. (or_parts (test (Span kind kids)) (has test kids) h).1;
                  closes = λ kids others h keeps p. or_from (test (Span kind others)) (has test others) (alone.span kind others) p;
                };
            linked = λ kind target.
                record {
                  opens = λ kids h. (or_parts (test (Linked kind target kids)) (has test kids) h).1;
                  closes = λ kids others h keeps p.
                      let one = (or_parts (test (Linked kind target kids)) (has test kids) h).0 in
                      or_from (test (Linked kind target others)) (has test others) (fails kind target kids others one keeps) p;
                };
            keeps_without = without;
            keeps_with = with;
          }

    abbrev Any : Inlines → Inlines → Type 0
    Any kids others = Unit {0}

    -- where literals are text, they may be found or not
    pub linked_lacks : Fails Any → (on : Constructs) (is : Inlines) → AllLack is → AllLack (linked_literals on is)
    linked_lacks fails on is h =
        linked_good on AllLack is (λ e. literals_good PartLacks AllLack Any (carried Any fails (λ kids. tt) (λ kids. tt)) is h) h
