-- The construct of a leaf that is laid is on (CommonMark 2.4, 2.5 and 6.6).
use Rattle.std.proofs.Common.{◌≡◌, ◌<◌, ℕ, true, List, [], ◌∷◌, length, map, subst, arith}
use Rattle.std.specs.Borrow.{Bor}
use Rattle.parse_inline.proofs.Prelude.{Escape, InlineCode, InlineContext, InlineLeaf, IsPartLaid, LeafPart}
use Rattle.definition_text.proofs.Each.{Each, WhereSome}
use Rattle.definition_inline.specs.Inline.{Found}
use Rattle.definition_inline.specs.Inline as inline
use Rattle.definition_inline.specs.MayStand.{leaf_may_stand}
use Rattle.definition_inline.proofs.LeavesFound.{LeafStands, leaf_stands}
use Rattle.inline_leaves.specs.declared.leaf.LeafPart.TheVariants as leaf
use Rattle.definition_inline.specs.CharacterReference.{number_of, numbered_text}
use Rattle.definition_text.specs.Content.{content_codes}
use Rattle.parse_written.specs.Rows.{AreLeavesLaid}
use Rattle.parse_written.specs.Written.{IsFound}

module _ (context : InlineContext) where
  -- one that the definition finds
  found_on : (part : InlineLeaf) (from to : List InlineCode) → IsFound context part from to → leaf_may_stand context.options.constructs part ≡ true
  found_on part from to is =
      (subst (WhereSome (λ (found : Found). Each (LeafStands context.options.constructs) found.parts)) is.here (leaf_stands context from)).0

  by_escapes : (text : List ℕ) (from to : List InlineCode) → AreLeavesLaid context (map Escape text) from to → 0 < length text
      → context.options.constructs.character_escape ≡ true
  by_escapes [] from to laid some = absurd (omega (arith, some))
  by_escapes (b ∷ bs) from to laid some = found_on (Escape b) from laid.0 laid.1

  -- some escapes
  pub escapes_on : (part : LeafPart) (text : Bor (List ℕ)) (from to : List InlineCode) → part ≡ leaf.Escape text → IsPartLaid context part from to
      → 0 < length text.now → context.options.constructs.character_escape ≡ true
  escapes_on part text from to is laid some = by_escapes text.now from to (subst (λ p. IsPartLaid context p from to) is laid) some

  -- a reference by name, and one by number
  pub character_on : (part : LeafPart) (text : Bor (List ℕ)) (from to : List InlineCode) → part ≡ leaf.Character text → IsPartLaid context part from to
      → context.options.constructs.character_reference ≡ true
  character_on part text from to is laid =
      let own = subst (λ p. IsPartLaid context p from to) is laid in found_on (inline.Character text.now) from own.0 own.1

  pub number_on : (part : LeafPart) (radix : ℕ) (digits : Bor (List ℕ)) (from to : List InlineCode) → part ≡ leaf.Number radix digits
      → IsPartLaid context part from to → context.options.constructs.character_reference ≡ true
  number_on part radix digits from to is laid =
      let own = subst (λ p. IsPartLaid context p from to) is laid in
      found_on (inline.Character (numbered_text (number_of radix digits.now))) from own.0 own.1

  -- raw HTML
  pub html_on : (part : LeafPart) (text : Bor (List ℕ)) (from to : List InlineCode) → part ≡ leaf.Html text → IsPartLaid context part from to
      → context.options.constructs.html_text ≡ true
  html_on part text from to is laid =
      let own = subst (λ p. IsPartLaid context p from to) is laid in found_on (inline.Html (content_codes text.now)) from own.0 own.1
