-- What a `]` forms with the label start before it (CommonMark 6.3 and 6.4): a resource, or a full, a collapsed or a shortcut reference.
use Rattle.std.specs.Prelude.{ℕ, ◌-◌, Bool, true, false, if◌then◌else◌, not, ◌&&◌, List, [], ◌∷◌, Option, None, Some, codes, length}
use Rattle.std.specs.Option.{option_map}
use Rattle.definition_text.specs.Columns.{Code}
use Rattle.definition_text.specs.Bytes.{begins_with}
use Rattle.definition_text.specs.Content.{Part, may_escape}
use Rattle.definition_inline.specs.Label.{ends_label, is_label, label_at}
use Rattle.definition_inline.specs.Inline.{Target, Resource, Reference}
use Rattle.definition_inline.specs.Resource.{LinkResource, resource_at}

-- what leads somewhere, and how many codes after the `]` belong to it
pub record LinkTail : Type 0 where
  pub target : Target
  pub size : ℕ

abbrev pub link_tail : Target → ℕ → LinkTail
link_tail target size = record { target = target; size = size }

-- no bracket but after a backslash that escapes it (CommonMark 6.3)
abbrev pub has_no_bracket : Bool → List Code → Bool
has_no_bracket escaped [] = true
has_no_bracket escaped (c ∷ cs) = not (ends_label escaped c) && has_no_bracket (may_escape escaped c) cs

-- a text between brackets that is a label itself (CommonMark 6.3)
abbrev pub is_label_text : List Code → Bool
is_label_text text = has_no_bracket false text && is_label text

-- a collapsed or a shortcut reference: the text is the label of a definition (CommonMark 6.3)
abbrev pub by_text : (List Code → Bool) → List Code → List Code → Option LinkTail
by_text is_defined text rest =
    if is_label_text text && is_defined text
    then Some (link_tail (Reference text) (if begins_with (codes "[]") rest then 2 else 0))
    else None

-- a full reference, where a label follows, and otherwise a collapsed one or a shortcut (CommonMark 6.3)
abbrev pub by_label : (List Code → Bool) → List Code → List Code → Option Part → Option LinkTail
by_label is_defined text rest None = by_text is_defined text rest
by_label is_defined text rest (Some label) =
    if is_defined label.text then Some (link_tail (Reference label.text) (length rest - length label.rest)) else None

-- a resource, where one follows, and otherwise a reference (CommonMark 6.3)
abbrev pub by_resource : (List Code → Bool) → List Code → List Code → Option LinkResource → Option LinkTail
by_resource is_defined text rest None = by_label is_defined text rest (label_at rest)
by_resource is_defined text rest (Some resource) =
    Some (link_tail (Resource resource.destination resource.title) (length rest - length resource.rest))

-- what stands behind a text between brackets, given what follows the `]` and which labels are defined (CommonMark 6.3)
abbrev pub label_end_at : (List Code → Bool) → List Code → List Code → Option LinkTail
label_end_at is_defined text rest = by_resource is_defined text rest (resource_at rest)

-- what a `]` forms with the label start before it: a link or an image, which leads somewhere, or a call of the footnote with this label
pub data LinkOrCall : Type 0 where
  Leads : LinkTail → LinkOrCall
  Calls : List Code → LinkOrCall

-- how many codes after the `]` belong to it
abbrev pub formed_size : LinkOrCall → ℕ
formed_size (Leads end) = end.size
formed_size (Calls label) = 0

-- a link or an image, where one stands there (CommonMark 6.3 and 6.4)
abbrev pub link_or_image : (List Code → Bool) → List Code → List Code → Option LinkOrCall
link_or_image is_defined text rest = option_map Leads (label_end_at is_defined text rest)
