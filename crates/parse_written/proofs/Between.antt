-- Tokens and parts between two places of a content.
use Rattle.std.proofs.Common.{◌≡◌, ℕ, true, false, List, [], ◌∷◌, ◌++◌, drop, take, replicate, refl, sym, subst, arith}
use Rattle.parse_written.proofs.Prelude.{AreCodes, AreSpaces, AreWritten, AsCall, AsLeaf, AsLinked, AsSpan, codes_of, Data, Delimiters, EndsLinked}
use Rattle.parse_written.proofs.Prelude.{followed_by, has_span_size, Inline, InlineCode, InlineContext, InlineLeaf, Inlines, is_eol, is_marker, IsLeafWritten}
use Rattle.parse_written.proofs.Prelude.{IsWritten, Item, Leaf, linked_start, Literal, More, Nil, Nothing, ParseOptions, Run, run_size, Spaces, Token}
use Rattle.definition_inline.specs.Inline.{Target}
use Rattle.parse_written.specs.Written.{call_codes}
use Rattle.parse_written.proofs.Codes.{codes_both, codes_dropped}

-- a run as long as it goes, which may open a span only if its size is that of one
pub record IsRunBetween (options : ParseOptions) (run : Run) (from to : List InlineCode) : Type 0 where
  pub marks : AreCodes (replicate run.left run.marker) from to
  pub stops : run_size run.marker to ≡ 0
  pub inline : is_eol run.marker ≡ false
  pub marker : is_marker options run.marker ≡ true
  pub fits : run.may_open ≡ true → has_span_size options run.marker run.left ≡ true

-- tokens, one after another
pub data AreRead (context : InlineContext) : List Token → List InlineCode → List InlineCode → Type 0 where
  NoTokens : (from : List InlineCode) → AreRead context [] from from
  SomeSpaces : (ts : List Token) (from next to : List InlineCode) → AreSpaces context.options.constructs from next → AreRead context ts next to
      → AreRead context ts from to
  OnePart : (i : Inline) (ts : List Token) (from mid to : List InlineCode) → IsWritten context i from mid → AreRead context ts mid to
      → AreRead context (Item i ∷ ts) from to
  OneRun : (run : Run) (ts : List Token) (from mid to : List InlineCode) → IsRunBetween context.options run from mid → AreRead context ts mid to
      → AreRead context (Delimiters run ∷ ts) from to

module _ (context : InlineContext) where
  pub reads_both : (ts us : List Token) (a b c : List InlineCode) → AreRead context ts a b → AreRead context us b c → AreRead context (ts ++ us) a c
  reads_both _ us _ _ c (NoTokens from) q = q
  reads_both _ us _ _ c (SomeSpaces ts from next to spaces p) q = SomeSpaces (ts ++ us) from next c spaces (reads_both ts us next to c p q)
  reads_both _ us _ _ c (OnePart i ts from mid to one p) q = OnePart i (ts ++ us) from mid c one (reads_both ts us mid to c p q)
  reads_both _ us _ _ c (OneRun run ts from mid to one p) q = OneRun run (ts ++ us) from mid c one (reads_both ts us mid to c p q)

  pub one_part : (i : Inline) (a b : List InlineCode) → IsWritten context i a b → AreRead context (Item i ∷ []) a b
  one_part i a b one = OnePart i [] a b b one (NoTokens b)

  pub byte_written : (m : ℕ) (c : InlineCode) (cs : List InlineCode) → c.code ≡ m → is_eol m ≡ false → IsWritten context (Leaf (Data m)) (c ∷ cs) cs
  byte_written m c cs is inline = AsLeaf (Data m) (c ∷ cs) cs (record { codes = (is, refl); some = omega arith; inline = (inline, tt) })

  -- ---- one more part

  pub followed : (is : Inlines) (i : Inline) (a b c : List InlineCode) → AreWritten context is a b → IsWritten context i b c
      → AreWritten context (followed_by is i) a c
  followed _ i _ _ c (Nothing from) one = More i Nil from c c one (Nothing c)
  followed _ i _ _ c (Spaces is from next to spaces p) one = Spaces (followed_by is i) from next c spaces (followed is i next to c p one)
  followed _ i _ _ c (More j js from mid to first p) one = More j (followed_by js i) from mid c first (followed js i mid to c p one)

  pub spaced : (is : Inlines) (a b c : List InlineCode) → AreWritten context is a b → AreSpaces context.options.constructs b c → AreWritten context is a c
  spaced _ _ _ c (Nothing from) spaces = Spaces Nil from c c spaces (Nothing c)
  spaced _ _ _ c (Spaces is from next to first p) spaces = Spaces is from next c first (spaced is next to c p spaces)
  spaced _ _ _ c (More j js from mid to first p) spaces = More j js from mid c first (spaced js mid to c p spaces)

  -- ---- what is between two places

  abbrev pub SomeCodes : List InlineCode → List InlineCode → Type 0
  SomeCodes a b = (text : List ℕ) × AreCodes text a b

  some_both : (a b c : List InlineCode) → SomeCodes a b → SomeCodes b c → SomeCodes a c
  some_both a b c (xs, p) (ys, q) = (xs ++ ys, codes_both xs ys a b c p q)

  some_dropped : (n : ℕ) (a : List InlineCode) → SomeCodes a (drop n a)
  some_dropped n a = (codes_of (take n a), codes_dropped n a)

  some_spaces : (a b : List InlineCode) → AreSpaces context.options.constructs a b → SomeCodes a b
  some_spaces a b spaces = subst (SomeCodes a) (sym spaces.after) (some_dropped spaces.size a)

  leaf_codes : (part : InlineLeaf) (a b : List InlineCode) → IsLeafWritten context part a b → SomeCodes a b
  leaf_codes (Data x) a b is = (x ∷ [], is.codes)
  leaf_codes (Literal kind text) a b is = (text, is.text.codes)
  leaf_codes part a b is = subst (SomeCodes a) (sym is.after) (some_dropped is.size a)

  some_end : (target : Target) (inside a b : List InlineCode) → EndsLinked context target inside a b → SomeCodes a b
  some_end target inside a b ends =
      some_both a ends.rest b (93 ∷ [], ends.bracket) (subst (SomeCodes ends.rest) (sym ends.after) (some_dropped ends.size ends.rest))

  mutual
    part_codes : (i : Inline) (a b : List InlineCode) → IsWritten context i a b → SomeCodes a b
    part_codes _ _ _ (AsLeaf part from to is) = leaf_codes part from to is
    part_codes _ _ _ (AsSpan kind kids marker size from inside end to start held closing) =
        some_both from inside to (replicate size marker, start.codes)
        (some_both inside end to (all_codes kids inside end held) (replicate size marker, closing))
    part_codes _ _ _ (AsLinked kind target kids from inside end to opening held closing) =
        some_both from inside to (linked_start kind, opening) (some_both inside end to (all_codes kids inside end held) (some_end target inside end to closing))
    part_codes _ _ _ (AsCall label from to is) = (call_codes label, is)

    pub all_codes : (is : Inlines) (a b : List InlineCode) → AreWritten context is a b → SomeCodes a b
    all_codes _ _ _ (Nothing from) = ([], λ _. from)
    all_codes _ _ _ (Spaces is from next to spaces p) = some_both from next to (some_spaces from next spaces) (all_codes is next to p)
    all_codes _ _ _ (More i is from mid to one p) = some_both from mid to (part_codes i from mid one) (all_codes is mid to p)

  -- the codes that tokens stand for
  pub token_codes : (ts : List Token) (a b : List InlineCode) → AreRead context ts a b → SomeCodes a b
  token_codes _ _ _ (NoTokens from) = ([], λ _. from)
  token_codes _ _ _ (SomeSpaces ts from next to spaces p) = some_both from next to (some_spaces from next spaces) (token_codes ts next to p)
  token_codes _ _ _ (OnePart i ts from mid to one p) = some_both from mid to (part_codes i from mid one) (token_codes ts mid to p)
  token_codes _ _ _ (OneRun run ts from mid to one p) = some_both from mid to (replicate run.left run.marker, one.marks) (token_codes ts mid to p)
