-- What is behind a label, as it is read: a resource, a reference or nothing.
use Rattle.std.proofs.Common.{◌≡◌, ◌<◌, ℕ, append_assoc, List, [], ◌∷◌, ◌++◌, None, Some, inl, inr, drop, length, refl, sym, ap, subst, ◌∙◌}
use Rattle.parse_inline.proofs.Prelude.{AreBytesAt, AreCodes, call_codes, Code, codes, codes_of, cond_both, content_codes, EndsLinked, if◌then◌else◌}
use Rattle.parse_inline.proofs.Prelude.{inline_bytes_law, InlineCode, InlineContext, Nodes, resource_at, slice_index, SpellsResource, SpellsTarget}
use Rattle.parse_inline.proofs.Prelude.{take-append-drop, Target, text_before}
use Rattle.definition_text.specs.Bytes.{begins_with}
use Rattle.definition_text.specs.Content.{part}
use Rattle.definition_inline.specs.Label.{label_at}
use Rattle.definition_inline.specs.Resource.{LinkResource}
use Rattle.parse_links.specs.Tails.{SpellsReference, after_reference}
use Rattle.parse_written.specs.Marks.{call_text}
use Rattle.parse_written.proofs.Marks.{call_bytes_law}
use Rattle.parse_written.specs.Tails.{AsLabel, AsResource, AsText, HasTail}
use Rattle.parse_written.proofs.Tails.{tail_law}

-- codes that stand between two places
after_codes : (xs : List Code) (from to : List InlineCode) → AreCodes xs from to → codes_of to ≡ drop (length xs) (codes_of from)
after_codes [] from to same = ap codes_of (sym same)
after_codes (x ∷ xs) [] to same = absurd same
after_codes (x ∷ xs) (c ∷ cs) to same = after_codes xs cs to same.1

-- the `]`, and what is behind it
pub record IsBracket (target : Target) (own_text : List Code) (content : List ℕ) (to : List InlineCode) : Type 0 where
  pub behind : List ℕ
  pub bracket : content ≡ 93 ∷ behind
  pub place : List InlineCode
  pub bytes : AreBytesAt behind place
  pub tail : HasTail own_text target place to

pub bracket_first : (context : InlineContext) (target : Target) (inside from to : List InlineCode) (content : List ℕ) → EndsLinked context target inside from to
    → AreBytesAt content from → IsBracket target (text_before (codes_of inside) (codes_of from)) content to
bracket_first context target inside from to content ends at =
    let (place, codes, tail) = tail_law context target inside from to ends in
    let passes = inline_bytes_law (93 ∷ []) content from place at codes (refl, tt) in
    record {
      behind = drop 1 content;
      bracket = sym (take-append-drop 1 content) ∙ ap (λ xs. xs ++ drop 1 content) passes.front;
      place = place;
      bytes = passes.left;
      tail = tail;
    }

-- where a target leads, and the codes behind it
pub record IsBehind (context : InlineContext) (text : List ℕ) (target : Target) (own_text : List Code) (ns : Nodes) (to : List InlineCode) (left : List Code)
    : Type 0 where
  pub leads : SpellsTarget context text target own_text ns
  pub rest : codes_of to ≡ left

module _ (context : InlineContext) (text : List ℕ) (behind : List ℕ) (ns : Nodes) where
  pub by_resource : (target : Target) (own_text : List Code) (place to : List InlineCode) (found : LinkResource) → HasTail own_text target place to
      → AreBytesAt behind place → Some found ≡ resource_at (content_codes behind) → SpellsResource context.options.constructs context.names text found ns
      → IsBehind context text target own_text ns to found.rest
  by_resource _ own_text _ _ found (AsResource resource place to here parts after) at read spells =
      let one : Some found ≡ Some resource = read ∙ ap resource_at (sym at) ∙ here in
      let same : found ≡ resource = cc in
      record {
        leads = (found, ap (λ (r : LinkResource). r.destination) same, ap (λ (r : LinkResource). r.title) same, spells);
        rest = after ∙ ap (λ (r : LinkResource). r.rest) (sym same);
      }
  by_resource _ own_text _ _ found (AsLabel label place to none here parts) at read spells =
      let one : Some found ≡ None = read ∙ ap resource_at (sym at) ∙ none in absurd cc
  by_resource _ own_text _ _ found (AsText place to none here codes_are) at read spells =
      let one : Some found ≡ None = read ∙ ap resource_at (sym at) ∙ none in absurd cc

  pub by_reference : (target : Target) (own_text : List Code) (place to : List InlineCode) → HasTail own_text target place to → AreBytesAt behind place
      → None ≡ resource_at (content_codes behind) → SpellsReference text (label_at (content_codes behind)) ns
      → IsBehind context text target own_text ns to (after_reference (label_at (content_codes behind)) (content_codes behind))
  by_reference _ own_text _ _ (AsResource resource place to here parts after) at read spells =
      let one : None ≡ Some resource = read ∙ ap resource_at (sym at) ∙ here in absurd cc
  by_reference _ own_text _ _ (AsLabel label place to none here parts) at read spells =
      let is : label_at (content_codes behind) ≡ Some (part label (codes_of to)) = ap label_at (sym at) ∙ here in
      let spelled : SpellsReference text (Some (part label (codes_of to))) ns = subst (λ o. SpellsReference text o ns) is spells in
      record {
        leads = (spelled.is_none, spelled.definitions, spelled.columns, inr spelled.string);
        rest = ap (λ o. after_reference o (content_codes behind)) (sym is);
      }
  by_reference _ own_text _ _ (AsText place to none here codes_are) at read spells =
      let is : label_at (content_codes behind) ≡ None = ap label_at (sym at) ∙ here in
      let spelled : SpellsReference text None ns = subst (λ o. SpellsReference text o ns) is spells in
      let flag = begins_with (codes "[]") (codes_of place) in
      let dropped : codes_of to ≡ (if flag then drop 2 (codes_of place) else codes_of place) =
      cond_both flag (codes "[]") [] (λ xs. AreCodes xs place to → codes_of to ≡ (if flag then drop 2 (codes_of place) else codes_of place))
      (λ yes. λ are. after_codes (codes "[]") place to are ∙ ap (λ b. if b then drop 2 (codes_of place) else codes_of place) (sym yes))
      (λ no. λ are. after_codes [] place to are ∙ ap (λ b. if b then drop 2 (codes_of place) else codes_of place) (sym no)) codes_are in
      record {
        leads = (spelled.is_none, spelled.definitions, spelled.columns, inl (spelled.string, refl));
        rest =
            dropped ∙ ap (λ cs. if begins_with (codes "[]") cs then drop 2 cs else cs) at ∙ ap (λ o. after_reference o (content_codes behind)) (sym is);
      }

-- ---- calls

-- a call with a label comes next
pub record IsCallAhead (label content : List ℕ) (to : List InlineCode) : Type 0 where
  pub after : List ℕ
  pub parts : content ≡ 91 ∷ 94 ∷ (label ++ 93 ∷ after)
  pub left : AreBytesAt after to

pub call_ahead : (label content : List ℕ) (from to : List InlineCode) → ((k : ℕ) → slice_index label k < 256) → ((k : ℕ) → slice_index content k < 256)
    → AreBytesAt content from → AreCodes (call_codes (content_codes label)) from to → IsCallAhead label content to
call_ahead label content from to label_bytes bytes at codes =
    let passes = call_bytes_law label content from to label_bytes bytes at codes in
    let size = length (call_text label) in
    record {
      after = drop size content;
      parts =
          sym (take-append-drop size content) ∙ ap (λ xs. xs ++ drop size content) passes.front
          ∙ ap (λ xs. 91 ∷ 94 ∷ xs) (append_assoc label (93 ∷ []) (drop size content));
      left = passes.left;
    }
