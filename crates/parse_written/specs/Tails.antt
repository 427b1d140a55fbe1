-- What follows the `]` of a link or an image (CommonMark 6.3): a resource, a label, `[]` or nothing.
use Rattle.std.specs.Prelude.{◌≡◌, ◌==◌, false, if◌then◌else◌, List, [], ◌∷◌, ◌++◌, Option, None, Some, codes}
use Rattle.definition_text.specs.Ascii.{greater_than, left_bracket, left_parenthesis, less_than, right_bracket, right_parenthesis}
use Rattle.definition_text.specs.Bytes.{begins_with}
use Rattle.definition_text.specs.Columns.{Code}
use Rattle.definition_text.specs.Content.{part}
use Rattle.definition_text.specs.InlineCode.{InlineCode, codes_of}
use Rattle.definition_inline.specs.Inline.{Target, Resource, Reference}
use Rattle.definition_inline.specs.Label.{label_at}
use Rattle.definition_inline.specs.Resource.{LinkResource, resource_at}
use Rattle.definition_inline.specs.Space.{after_white}
use Rattle.definition_inline.specs.Title.{title_close}
use Rattle.parse_written.specs.Written.{AreCodes}

-- a destination with brackets, or one that doesn't begin with `<`; and what follows it
pub data IsDestination (text rest : List Code) : List Code → Type 0 where
  InBrackets : IsDestination text rest (less_than ∷ (text ++ greater_than ∷ rest))
  Bare : (c : Code) (cs : List Code) → (c == less_than) ≡ false → c ∷ cs ≡ text ++ rest → IsDestination text rest (c ∷ cs)

-- a title between its delimiters
pub record IsTitle (text rest content : List Code) : Type 0 where
  pub opening : Code
  pub closing : Code
  pub fits : title_close opening ≡ Some closing
  pub parts : content ≡ opening ∷ (text ++ closing ∷ rest)

-- a title, if there is one, and the `)`, each after white space
abbrev pub EndsResource : Option (List Code) → List Code → List Code → Type 0
EndsResource None content rest = after_white content ≡ right_parenthesis ∷ rest
EndsResource (Some title) content rest =
    (after : List Code) × IsTitle title after (after_white content) × (after_white after ≡ right_parenthesis ∷ rest)

-- what is inside of a resource after its white space: the `)` alone, or a destination first
pub data IsInside : List Code → Option (List Code) → List Code → List Code → Type 0 where
  Empty : (rest : List Code) → IsInside [] None (right_parenthesis ∷ rest) rest
  Leading : (destination : List Code) (title : Option (List Code)) (c : Code) (cs after rest : List Code) → (c == right_parenthesis) ≡ false
      → IsDestination destination after (c ∷ cs) → EndsResource title after rest → IsInside destination title (c ∷ cs) rest

-- a resource: `(`, white space, and what is inside
pub record IsResource (resource : LinkResource) (content : List Code) : Type 0 where
  pub inside : List Code
  pub opening : content ≡ left_parenthesis ∷ inside
  pub parts : IsInside resource.destination resource.title (after_white inside) resource.rest

-- what follows the `]` of a link or an image with this text, given where it leads
pub data HasTail (text : List Code) : Target → List InlineCode → List InlineCode → Type 0 where
  AsResource : (resource : LinkResource) (from to : List InlineCode) → resource_at (codes_of from) ≡ Some resource → IsResource resource (codes_of from)
      → codes_of to ≡ resource.rest → HasTail text (Resource resource.destination resource.title) from to
  AsLabel : (label : List Code) (from to : List InlineCode) → resource_at (codes_of from) ≡ None → label_at (codes_of from) ≡ Some (part label (codes_of to))
      → codes_of from ≡ left_bracket ∷ (label ++ right_bracket ∷ codes_of to) → HasTail text (Reference label) from to
  AsText : (from to : List InlineCode) → resource_at (codes_of from) ≡ None → label_at (codes_of from) ≡ None
      → AreCodes (if begins_with (codes "[]") (codes_of from) then codes "[]" else []) from to → HasTail text (Reference text) from to
