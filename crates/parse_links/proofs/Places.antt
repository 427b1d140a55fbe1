-- What is written of a destination, step by step (CommonMark 6.3).
use Rattle.std.proofs.Common.{◌≡◌, ◌⊎◌, ℕ, ◌<◌, length, List, [], ◌∷◌, ◌++◌, inl, inr, refl, sym, ap, subst, ◌∙◌, arith, slice_index}
use Rattle.parse_links.proofs.Prelude.{AreCutApart, Around, Constructs, End, end_in, ends_line, enter_at, EntersInContent, exit_at, ExitsInContent, IsMark}
use Rattle.parse_links.proofs.Prelude.{IsPlace, list_any, one, Stop, Walk, WritesDestination, WritesInContent, WritesQuoted, WritesRaw}
use Rattle.std.proofs.Common.{true, false}
use Rattle.std.proofs.lemmas.Bool.{and_parts}
use Rattle.event_tokens.specs.Tokens.{is_token}
use Rattle.definition_inline.specs.CharacterReference as references
use Rattle.parse_links.specs.declared.names.Names.{Names}
use Rattle.parse_links.specs.Destination.{WritesInner}
use Rattle.parse_links.proofs.Written.{IsOwn, around_in}

angle_mark : IsMark 60
angle_mark = record { ascii = omega arith; dark = refl }

closing_mark : IsMark 62
closing_mark = record { ascii = omega arith; dark = refl }

module _ {A : Type 0} (text : List ℕ) (stop : Stop) (on : Constructs) (known : references.Names) (names : Names) where
  -- a destination that begins with an angle bracket is one in brackets
  pub inner_quoted : (a b : Walk A) (string front content : List ℕ) → IsPlace string front → slice_index front 0 ≡ 60
      → ((opening closing : ℕ) → front ≡ opening ∷ (string ++ closing ∷ []) → IsMark opening → IsMark closing
      → is_token names.literal.marker (opening ∷ []) ≡ true → is_token names.literal.marker (closing ∷ []) ≡ true
      → WritesQuoted on known text names.literal.outer names.literal.marker names.literal.string string front content stop a b)
      → WritesInner on known text names string front content stop a b
  inner_quoted a b string front content is first written = by_form is.form
    where
      by_form : (front ≡ 60 ∷ (string ++ 62 ∷ [])) ⊎ ((front ≡ string) × (0 < length string) × (slice_index string 0 ≡ 60 → ⊥))
          → WritesInner on known text names string front content stop a b
      by_form (inl form) =
          let angles = and_parts (is_token names.literal.marker (60 ∷ [])) (is_token names.literal.marker (62 ∷ [])) names.angles in
          let w = written 60 62 form angle_mark closing_mark angles.0 angles.1 in
          record { node = w.node; is = inl w.is; writes = w.writes; whole = w.whole }
      by_form (inr (same, filled, other)) = absurd (other (ap (λ xs. slice_index xs 0) (sym same) ∙ first))

  -- any other is its string
  pub inner_raw : (a b : Walk A) (string front content : List ℕ) → IsPlace string front → (slice_index front 0 ≡ 60 → ⊥)
      → (AreCutApart front content → 0 < length front → WritesRaw on known text names.raw names.literal.string front content stop a b)
      → WritesInner on known text names string front content stop a b
  inner_raw a b string front content is other written = by_form is.form
    where
      by_form : (front ≡ 60 ∷ (string ++ 62 ∷ [])) ⊎ ((front ≡ string) × (0 < length string) × (slice_index string 0 ≡ 60 → ⊥))
          → WritesInner on known text names string front content stop a b
      by_form (inl form) = absurd (other (ap (λ xs. slice_index xs 0) form))
      by_form (inr (same, filled, apart)) =
          let w = subst (λ xs. WritesRaw on known text names.raw names.literal.string xs content stop a b) same
          (written (inl (ap (list_any ends_line) same ∙ is.dark)) (subst (λ xs. 0 < length xs) (sym same) filled)) in
          record {
            node = w.node;
            is = inr w.is;
            writes = subst (λ xs. WritesInContent text xs (one w.node) content stop a b) (sym same) w.writes;
            whole = w.whole;
          }

  pub destination_in : (a b c d : Walk A) (string front content : List ℕ) → list_any ends_line string ≡ false → IsOwn names.destination
      → EntersInContent text names.destination (front ++ content) stop a b → WritesInner on known text names string front content stop b c
      → ExitsInContent text names.destination content stop c d → WritesDestination on known text names string front content stop a d
  destination_in a b c d string front content dark own enters inner exits = record {
    node = Around (enter_at text names.destination (end_in a.out)) (one inner.node) (exit_at text names.destination (end_in c.out));
    inner = inner.node;
    named = refl;
    kids = refl;
    is = inner.is;
    dark = dark;
    writes = around_in text stop on known a b c d names.destination front content (one inner.node) own enters inner.writes exits;
    whole = ap (λ (x : End). x.owed) exits.end ∙ inner.whole;
  }
